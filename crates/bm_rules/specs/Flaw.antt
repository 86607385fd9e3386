-- The rules L4 to L15, and the first one that a program breaks.
use Rattle.std.specs.Prelude.{ℕ, Bool, not, ◌||◌, if◌then◌else◌, Option, Some, None}
use Rattle.std.specs.List.{list_any}
use Rattle.p4_types.specs.declared.info.Info.{Info}
use Rattle.bm_records.specs.declared.raw.Pipelines.{Pipelines}
use Rattle.bm_records.specs.declared.raw.RawProgram.{RawProgram}
use Rattle.bm_rules.specs.Fields.{exceeds}
use Rattle.bm_rules.specs.References.{packet_names_repeat, object_names_repeat, pipeline_names_repeat, references_known}
use Rattle.bm_rules.specs.Graphs.{has_loop, state_edges, node_edges}
use Rattle.bm_rules.specs.Operations.{operations_unknown, expressions_typed}
use Rattle.bm_rules.specs.Agreement.{tables_agree, references_agree, profiles_agree, counters_agree, digests_agree, has_egress_spec}

-- a name or an action's id occurs twice in its kind
unfoldable pub names_clash : RawProgram → Bool
names_clash raw = packet_names_repeat raw || object_names_repeat raw || pipeline_names_repeat raw

-- the key of a state's transitions takes more than 16 bytes
unfoldable pub keys_exceed : RawProgram → Bool
keys_exceed raw = list_any (λ state. exceeds 16 raw state.transition_key) raw.parser.parse_states

-- tables and conditionals of a pipeline lead back to where they came from
unfoldable pub nodes_loop : Pipelines → Bool
nodes_loop pipelines = has_loop (node_edges pipelines.ingress) || has_loop (node_edges pipelines.egress)

-- the first of the rules L8 to L15 that a program breaks under a P4Info, if it breaks one
abbrev pub later_flaw : RawProgram → Info → Option ℕ
later_flaw raw info =
    if operations_unknown raw then Some 8 else
    if not (expressions_typed raw) then Some 9 else
    if not (tables_agree raw info) then Some 10 else
    if not (references_agree raw info) then Some 11 else
    if not (profiles_agree raw info) then Some 12 else
    if not (counters_agree raw info) then Some 13 else
    if not (digests_agree raw info) then Some 14 else
    if not (has_egress_spec raw) then Some 15 else None

-- The first of the rules L4 to L15 that a program breaks under a P4Info, if it breaks one. The width of a transition's key,
-- which is of L1, is asked behind the references.
unfoldable pub flaw : RawProgram → Info → Option ℕ
flaw raw info =
    if names_clash raw then Some 4 else
    if not (references_known raw) then Some 5 else
    if keys_exceed raw then Some 1 else
    if has_loop (state_edges raw.parser.parse_states) then Some 6 else
    if nodes_loop raw.pipelines then Some 7 else later_flaw raw info
