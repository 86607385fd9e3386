-- The nodes of each pipeline lead to one another as their names do, so that where those have no loop there is none.
use Rattle.std.proofs.Common.{◌≡◌, ◌⊎◌, inl, inr, ℕ, zero, suc, ◌+◌, ◌-◌, ◌<◌, ◌≤◌, nat_lt, Bool, true, false, cond, List, [], ◌∷◌, ◌++◌, length, map, Option, Some, None, refl, sym, ap, ◌∙◌, subst, arith, length-append}
use Rattle.std.specs.Prelude.{All, IfSome, slice_get, option_map}
use Rattle.std.specs.List.{flat_map, list_any, zip}
use Rattle.std.specs.Str.{bytes_eq}
use Rattle.std.proofs.lemmas.Bool.{or_parts, or_from, cases_lt, lt-ltb, le-ltb}
use Rattle.std.proofs.lemmas.List.{length-map, map-append}
use Rattle.std.proofs.lemmas.List.Elements.{All-nil, All-cons}
use Rattle.std.proofs.lemmas.List.Folds.{list_any-append}
use Rattle.std.proofs.lemmas.Option.{slice_get_past, slice_get_within}
use Rattle.p4_types.specs.declared.info.Info.{Info}
use Rattle.p4_types.specs.declared.info.Table as info_tables
use Rattle.bm_pipeline.specs.declared.program.Program.{Program}
use Rattle.bm_pipeline.specs.declared.tables.Next.TheVariants as nexts
use Rattle.bm_pipeline.specs.declared.tables.Node.{Node}
use Rattle.bm_pipeline.specs.declared.tables.Node.TheVariants as nodes
use Rattle.bm_pipeline.specs.declared.tables.Table.{Table}
use Rattle.bm_pipeline.specs.Graph.{has_path, HasNoLoop}
use Rattle.bm_pipeline.specs.Places.{as_nodes, next_nodes, default_nodes, after_table, after_conditional, after_node, node_count}
use Rattle.bm_records.specs.declared.raw.Conditional as raw_conditionals
use Rattle.bm_records.specs.declared.raw.DefaultEntry as raw_defaults
use Rattle.bm_records.specs.declared.raw.NextTable.{NextTable}
use Rattle.bm_records.specs.declared.raw.Pipeline.{Pipeline}
use Rattle.bm_records.specs.declared.raw.RawProgram.{RawProgram}
use Rattle.bm_records.specs.declared.raw.Table as raw_tables
use Rattle.bm_rules.specs.Names.{named, place_of}
use Rattle.bm_rules.specs.Graphs as rules
use Rattle.bm_rules.specs.Graphs.{or_none, leads, has_loop, as_places, optional_node, node_place, table_edges, conditional_edges, node_edges}
use Rattle.bm_rules.proofs.Inside.{nodes_inside}
use Rattle.link_spec.specs.Tables.{Side, ingress, egress, node_by, node_of, next_to, next_by, next_on, is_among, table_actions, action_name, default_of, table_with, table_of, tables_of, conditional_of, conditionals_of}
use Rattle.link_spec.specs.Linked.{program_of}
use Rattle.link_spec.proofs.Found.{of_found, image_at, position_within}
use Rattle.link_spec.proofs.Paths.{Among, ends_at, no_longer_path, along}

-- the node at a place of a pipeline: its tables stand before its conditionals
abbrev node_at : Side → ℕ → Node
node_at side i = cond (nat_lt i (length side.pipeline.tables)) (nodes.Table (side.tables + i)) (nodes.Conditional (side.conditionals + (i - length side.pipeline.tables)))

at_table : (side : Side) (i : ℕ) → i < length side.pipeline.tables → node_at side i ≡ nodes.Table (side.tables + i)
at_table side i less = ap (λ b. cond b (nodes.Table (side.tables + i)) (nodes.Conditional (side.conditionals + (i - length side.pipeline.tables)))) (lt-ltb i (length side.pipeline.tables) less)

at_conditional : (side : Side) (i j : ℕ) → i ≡ length side.pipeline.tables + j → node_at side i ≡ nodes.Conditional (side.conditionals + j)
at_conditional side i j same =
    let back : i - length side.pipeline.tables ≡ j = omega arith in
    ap (λ b. cond b (nodes.Table (side.tables + i)) (nodes.Conditional (side.conditionals + (i - length side.pipeline.tables)))) (le-ltb i (length side.pipeline.tables) (omega arith))
    ∙ ap (λ n. nodes.Conditional (side.conditionals + n)) back

-- ---- what names lead to

image_by : (side : Side) (table conditional : Option ℕ) → IfSome table (λ i. i < length side.pipeline.tables)
    → map (node_at side) (as_places (rules.node_by (length side.pipeline.tables) table conditional)) ≡ as_nodes (node_by side table conditional)
image_by side (Some table) conditional less = ap (λ node. node ∷ []) (at_table side table less)
image_by side None (Some conditional) less = ap (λ node. node ∷ []) (at_conditional side (length side.pipeline.tables + conditional) conditional refl)
image_by side None None less = refl

-- a name leads to the node at its place
name_image : (side : Side) (name : Option (List ℕ)) → map (node_at side) (as_places (optional_node side.pipeline name)) ≡ as_nodes (node_of side name)
name_image side None = refl
name_image side (Some name) =
    image_by side (place_of (λ x. x.name) name side.pipeline.tables) (place_of (λ x. x.name) name side.pipeline.conditionals)
    (position_within (λ x. bytes_eq x.name name) side.pipeline.tables (length side.pipeline.tables) refl)

-- no node to which a name leads passes a test
abbrev Fails : Side → (Node → Bool) → Option (List ℕ) → Type 0
Fails side passes name = list_any passes (as_nodes (node_of side name)) ≡ false

name_fails : (side : Side) (passes : Node → Bool) (name : Option (List ℕ)) → list_any passes (map (node_at side) (as_places (optional_node side.pipeline name))) ≡ false → Fails side passes name
name_fails side passes name none = sym (ap (list_any passes) (name_image side name)) ∙ none

both_images : (side : Side) (passes : Node → Bool) (xs ys : List ℕ) → list_any passes (map (node_at side) (xs ++ ys)) ≡ false
    → (list_any passes (map (node_at side) xs) ≡ false) × (list_any passes (map (node_at side) ys) ≡ false)
both_images side passes xs ys none =
    or_parts (list_any passes (map (node_at side) xs)) (list_any passes (map (node_at side) ys))
    (sym (list_any-append passes (map (node_at side) xs) (map (node_at side) ys)) ∙ (sym (ap (list_any passes) (map-append (node_at side) xs ys)) ∙ none))

nexts_fail : (side : Side) (passes : Node → Bool) (others : List NextTable) → list_any passes (map (node_at side) (flat_map (λ next. as_places (optional_node side.pipeline next.node)) others)) ≡ false
    → All (λ next. Fails side passes next.node) others
nexts_fail side passes [] none = All-nil (λ next. Fails side passes next.node)
nexts_fail side passes (next ∷ others) none =
    let b = both_images side passes (as_places (optional_node side.pipeline next.node)) (flat_map (λ next. as_places (optional_node side.pipeline next.node)) others) none in
    All-cons (λ next. Fails side passes next.node) next others (name_fails side passes next.node b.0) (nexts_fail side passes others b.1)

-- ---- tables

next_is : (node : Option Node) → next_nodes (next_to node) ≡ as_nodes node
next_is None = refl
next_is (Some node) = refl

next_fails_by : (side : Side) (passes : Node → Bool) (next : Option NextTable) → ((x : NextTable) → next ≡ Some x → Fails side passes x.node) → list_any passes (next_nodes (next_by side next)) ≡ false
next_fails_by side passes None each = refl
next_fails_by side passes (Some next) each = ap (list_any passes) (next_is (node_of side next.node)) ∙ each next refl

-- what follows an outcome is among what the table leads to
next_fails : (side : Side) (passes : Node → Bool) (table : raw_tables.Table) (outcome : List ℕ) → All (λ next. Fails side passes next.node) table.next_tables
    → list_any passes (next_nodes (next_on side table outcome)) ≡ false
next_fails side passes table outcome each =
    next_fails_by side passes (named (λ next. next.outcome) outcome table.next_tables)
    (λ x e. of_found (λ next. Fails side passes next.node) (λ next. bytes_eq next.outcome outcome) table.next_tables x each e)

appended : (passes : Node → Bool) (xs ys : List Node) → list_any passes xs ≡ false → list_any passes ys ≡ false → list_any passes (xs ++ ys) ≡ false
appended passes xs ys h k = list_any-append passes xs ys ∙ or_from (list_any passes xs) (list_any passes ys) h k

actions_fail : (raw : RawProgram) (info : Info) (side : Side) (passes : Node → Bool) (table : raw_tables.Table) (given : Option info_tables.Table) → All (λ next. Fails side passes next.node) table.next_tables
    → (before : List (List ℕ)) (pairs : List (ℕ × List ℕ)) → list_any passes (flat_map (λ action. next_nodes action.next) (table_actions raw info side table given before pairs)) ≡ false
actions_fail raw info side passes table given each before [] = refl
actions_fail raw info side passes table given each before (pair ∷ pairs) =
    appended passes (next_nodes (next_on side table pair.1)) (flat_map (λ action. next_nodes action.next) (table_actions raw info side table given (pair.1 ∷ before) pairs))
    (next_fails side passes table pair.1 each) (actions_fail raw info side passes table given each (pair.1 ∷ before) pairs)

default_by : (side : Side) (passes : Node → Bool) (table : raw_tables.Table) (name : List ℕ) → All (λ next. Fails side passes next.node) table.next_tables → (among : Bool)
    → list_any passes (next_nodes (cond among (next_on side table name) nexts.NotNamed)) ≡ false
default_by side passes table name each true = next_fails side passes table name each
default_by side passes table name each false = refl

default_fails : (raw : RawProgram) (info : Info) (side : Side) (passes : Node → Bool) (table : raw_tables.Table) (given : Option info_tables.Table) → All (λ next. Fails side passes next.node) table.next_tables
    → (entry : Option raw_defaults.DefaultEntry) → list_any passes (default_nodes (option_map (default_of raw info side table given) entry)) ≡ false
default_fails raw info side passes table given each None = refl
default_fails raw info side passes table given each (Some entry) =
    default_by side passes table (action_name raw entry.action_id) each (is_among table.actions (action_name raw entry.action_id))

with_table : (raw : RawProgram) (info : Info) (side : Side) (table : raw_tables.Table) (given : Option info_tables.Table)
    → Among (after_table (Some (table_with raw info side table given))) (map (node_at side) (table_edges side.pipeline table))
with_table raw info side table given passes none =
    let b = both_images side passes (flat_map (λ next. as_places (optional_node side.pipeline next.node)) table.next_tables) (as_places (optional_node side.pipeline table.base_default_next)) none in
    let each : All (λ next. Fails side passes next.node) table.next_tables = nexts_fail side passes table.next_tables b.0 in
    let t : Table = table_with raw info side table given in
    let hit : list_any passes (next_nodes t.hit) ≡ false = next_fails side passes table _ each in
    let miss : list_any passes (next_nodes t.miss) ≡ false = next_fails side passes table _ each in
    let acts : list_any passes (flat_map (λ action. next_nodes action.next) t.actions) ≡ false = actions_fail raw info side passes table given each [] (zip table.action_ids table.actions) in
    let default : list_any passes (default_nodes t.default_entry) ≡ false = default_fails raw info side passes table given each table.default_entry in
    appended passes _ (as_nodes t.base_default_next)
    (appended passes _ (default_nodes t.default_entry)
    (appended passes _ (flat_map (λ action. next_nodes action.next) t.actions) (appended passes (next_nodes t.hit) (next_nodes t.miss) hit miss) acts) default)
    (name_fails side passes table.base_default_next b.1)

-- a table leads to what its names lead to
table_leads : (raw : RawProgram) (info : Info) (side : Side) (table : raw_tables.Table) → Among (after_table (Some (table_of raw info side table))) (map (node_at side) (table_edges side.pipeline table))
table_leads raw info side table = with_table raw info side table (named (λ x. x.preamble.name) table.name info.tables)

-- so does a conditional
conditional_leads : (raw : RawProgram) (side : Side) (conditional : raw_conditionals.Conditional)
    → Among (after_conditional (Some (conditional_of raw side conditional))) (map (node_at side) (conditional_edges side.pipeline conditional))
conditional_leads raw side conditional passes none =
    let b = both_images side passes (as_places (optional_node side.pipeline conditional.true_next)) (as_places (optional_node side.pipeline conditional.false_next)) none in
    appended passes (as_nodes (node_of side conditional.true_next)) (as_nodes (node_of side conditional.false_next))
    (name_fails side passes conditional.true_next b.0) (name_fails side passes conditional.false_next b.1)

-- ---- a pipeline in a program

-- the tables and conditionals of a pipeline stand in a program
record Stands (raw : RawProgram) (info : Info) (program : Program) (side : Side) : Type 0 where
  tables : (i : ℕ) (x : raw_tables.Table) → slice_get side.pipeline.tables i ≡ Some x → slice_get program.tables (side.tables + i) ≡ Some (table_of raw info side x)
  conditionals : (i : ℕ) (x : raw_conditionals.Conditional) → slice_get side.pipeline.conditionals i ≡ Some x → slice_get program.conditionals (side.conditionals + i) ≡ Some (conditional_of raw side x)

edges_count : (pipeline : Pipeline) → length (node_edges pipeline) ≡ length pipeline.tables + length pipeline.conditionals
edges_count pipeline =
    length-append (map (table_edges pipeline) pipeline.tables) (map (conditional_edges pipeline) pipeline.conditionals)
    ∙ (ap (λ k. k + length (map (conditional_edges pipeline) pipeline.conditionals)) (length-map pipeline.tables (table_edges pipeline))
    ∙ ap (λ k. length pipeline.tables + k) (length-map pipeline.conditionals (conditional_edges pipeline)))

-- what stands in the first of two lists
in_first : {X : Type 0} (xs ys : List X) (i : ℕ) (x : X) → slice_get xs i ≡ Some x → slice_get (xs ++ ys) i ≡ Some x
in_first [] ys i x e = absurd cc
in_first (y ∷ xs) ys zero x e = e
in_first (y ∷ xs) ys (suc i) x e = in_first xs ys i x e

-- what stands in the second
in_second : {X : Type 0} (xs ys : List X) (n i : ℕ) (x : X) → n ≡ length xs + i → slice_get ys i ≡ Some x → slice_get (xs ++ ys) n ≡ Some x
in_second [] ys n i x same e = subst (λ m. slice_get ys m ≡ Some x) (let back : i ≡ n = omega arith in back) e
in_second (y ∷ xs) ys zero i x same e = absurd (omega arith)
in_second (y ∷ xs) ys (suc n) i x same e = in_second xs ys n i x (omega arith) e

table_here : (raw : RawProgram) (info : Info) (program : Program) (side : Side) → Stands raw info program side → (i : ℕ) (x : raw_tables.Table) → slice_get side.pipeline.tables i ≡ Some x
    → Among (after_node program (node_at side i)) (map (node_at side) (leads (node_edges side.pipeline) i))
table_here raw info program side s i x there passes none =
    let edges : leads (node_edges side.pipeline) i ≡ table_edges side.pipeline x =
    ap or_none (in_first (map (table_edges side.pipeline) side.pipeline.tables) (map (conditional_edges side.pipeline) side.pipeline.conditionals) i (table_edges side.pipeline x)
    (image_at (table_edges side.pipeline) side.pipeline.tables i x there)) in
    let after : after_node program (node_at side i) ≡ after_table (Some (table_of raw info side x)) =
    ap (after_node program) (at_table side i (slice_get_within side.pipeline.tables i x there)) ∙ ap after_table (s.tables i x there) in
    ap (list_any passes) after ∙ table_leads raw info side x passes (sym (ap (λ xs. list_any passes (map (node_at side) xs)) edges) ∙ none)

conditional_here : (raw : RawProgram) (info : Info) (program : Program) (side : Side) → Stands raw info program side → (i j : ℕ) (x : raw_conditionals.Conditional) → i ≡ length side.pipeline.tables + j
    → slice_get side.pipeline.conditionals j ≡ Some x → Among (after_node program (node_at side i)) (map (node_at side) (leads (node_edges side.pipeline) i))
conditional_here raw info program side s i j x same there passes none =
    let count : length (map (table_edges side.pipeline) side.pipeline.tables) ≡ length side.pipeline.tables = length-map side.pipeline.tables (table_edges side.pipeline) in
    let edges : leads (node_edges side.pipeline) i ≡ conditional_edges side.pipeline x =
    ap or_none (in_second (map (table_edges side.pipeline) side.pipeline.tables) (map (conditional_edges side.pipeline) side.pipeline.conditionals) i j (conditional_edges side.pipeline x) (omega arith)
    (image_at (conditional_edges side.pipeline) side.pipeline.conditionals j x there)) in
    let after : after_node program (node_at side i) ≡ after_conditional (Some (conditional_of raw side x)) =
    ap (after_node program) (at_conditional side i j same) ∙ ap after_conditional (s.conditionals j x there) in
    ap (list_any passes) after ∙ conditional_leads raw side x passes (sym (ap (λ xs. list_any passes (map (node_at side) xs)) edges) ∙ none)

-- an item stands at each place of a list
item_at : {X : Type 0} (xs : List X) (i : ℕ) → i < length xs → (x : X) × (slice_get xs i ≡ Some x)
item_at [] i less = absurd (omega arith)
item_at (x ∷ xs) zero less = (x, refl)
item_at (x ∷ xs) (suc i) less = item_at xs i (omega arith)

node_here : (raw : RawProgram) (info : Info) (program : Program) (side : Side) → Stands raw info program side → (i : ℕ) → i < length side.pipeline.tables + length side.pipeline.conditionals
    → (i < length side.pipeline.tables) ⊎ (length side.pipeline.tables ≤ i) → Among (after_node program (node_at side i)) (map (node_at side) (leads (node_edges side.pipeline) i))
node_here raw info program side s i inside (inl less) =
    let x = item_at side.pipeline.tables i less in
    table_here raw info program side s i x.0 x.1
node_here raw info program side s i inside (inr more) =
    let x = item_at side.pipeline.conditionals (i - length side.pipeline.tables) (omega arith) in
    conditional_here raw info program side s i (i - length side.pipeline.tables) x.0 (omega arith) x.1

-- no long path begins at a node of a pipeline without a loop
side_ends : (raw : RawProgram) (info : Info) (program : Program) (side : Side) → Stands raw info program side → has_loop (node_edges side.pipeline) ≡ false
    → (n : ℕ) → length side.pipeline.tables + length side.pipeline.conditionals ≤ n → (i : ℕ) → i < length side.pipeline.tables + length side.pipeline.conditionals → has_path (after_node program) n (node_at side i) ≡ false
side_ends raw info program side s none n enough i inside =
    let count = edges_count side.pipeline in
    along (node_edges side.pipeline) (after_node program) (node_at side) (nodes_inside side.pipeline)
    (λ j l. node_here raw info program side s j (omega (arith, count)) (cases_lt j (length side.pipeline.tables))) n i (omega (arith, count))
    (no_longer_path (node_edges side.pipeline) none n (omega (arith, count)) i (omega (arith, count)))

-- ---- both pipelines

ingress_stands : (raw : RawProgram) (info : Info) → Stands raw info (program_of raw info) (ingress raw)
ingress_stands raw info =
    record {
      tables = λ i x there.
          subst (λ n. slice_get (tables_of raw info) n ≡ Some (table_of raw info (ingress raw) x)) (let e : i ≡ 0 + i = omega arith in e)
          (in_first (map (table_of raw info (ingress raw)) raw.pipelines.ingress.tables) (map (table_of raw info (egress raw)) raw.pipelines.egress.tables) i (table_of raw info (ingress raw) x)
          (image_at (table_of raw info (ingress raw)) raw.pipelines.ingress.tables i x there));
      conditionals = λ i x there.
          subst (λ n. slice_get (conditionals_of raw) n ≡ Some (conditional_of raw (ingress raw) x)) (let e : i ≡ 0 + i = omega arith in e)
          (in_first (map (conditional_of raw (ingress raw)) raw.pipelines.ingress.conditionals) (map (conditional_of raw (egress raw)) raw.pipelines.egress.conditionals) i (conditional_of raw (ingress raw) x)
          (image_at (conditional_of raw (ingress raw)) raw.pipelines.ingress.conditionals i x there));
    }

egress_stands : (raw : RawProgram) (info : Info) → Stands raw info (program_of raw info) (egress raw)
egress_stands raw info =
    record {
      tables = λ i x there.
          in_second (map (table_of raw info (ingress raw)) raw.pipelines.ingress.tables) (map (table_of raw info (egress raw)) raw.pipelines.egress.tables) (length raw.pipelines.ingress.tables + i) i
          (table_of raw info (egress raw) x) (ap (λ n. n + i) (sym (length-map raw.pipelines.ingress.tables (table_of raw info (ingress raw)))))
          (image_at (table_of raw info (egress raw)) raw.pipelines.egress.tables i x there);
      conditionals = λ i x there.
          in_second (map (conditional_of raw (ingress raw)) raw.pipelines.ingress.conditionals) (map (conditional_of raw (egress raw)) raw.pipelines.egress.conditionals) (length raw.pipelines.ingress.conditionals + i) i
          (conditional_of raw (egress raw) x) (ap (λ n. n + i) (sym (length-map raw.pipelines.ingress.conditionals (conditional_of raw (ingress raw)))))
          (image_at (conditional_of raw (egress raw)) raw.pipelines.egress.conditionals i x there);
    }

-- how many tables there are
pub tables_count : (raw : RawProgram) (info : Info) → length (tables_of raw info) ≡ length raw.pipelines.ingress.tables + length raw.pipelines.egress.tables
tables_count raw info =
    length-append (map (table_of raw info (ingress raw)) raw.pipelines.ingress.tables) (map (table_of raw info (egress raw)) raw.pipelines.egress.tables)
    ∙ (ap (λ n. n + length (map (table_of raw info (egress raw)) raw.pipelines.egress.tables)) (length-map raw.pipelines.ingress.tables (table_of raw info (ingress raw)))
    ∙ ap (λ n. length raw.pipelines.ingress.tables + n) (length-map raw.pipelines.egress.tables (table_of raw info (egress raw))))

-- how many conditionals there are
pub conditionals_count : (raw : RawProgram) → length (conditionals_of raw) ≡ length raw.pipelines.ingress.conditionals + length raw.pipelines.egress.conditionals
conditionals_count raw =
    length-append (map (conditional_of raw (ingress raw)) raw.pipelines.ingress.conditionals) (map (conditional_of raw (egress raw)) raw.pipelines.egress.conditionals)
    ∙ (ap (λ n. n + length (map (conditional_of raw (egress raw)) raw.pipelines.egress.conditionals)) (length-map raw.pipelines.ingress.conditionals (conditional_of raw (ingress raw)))
    ∙ ap (λ n. length raw.pipelines.ingress.conditionals + n) (length-map raw.pipelines.egress.conditionals (conditional_of raw (egress raw))))

-- where a node stands: in ingress, in egress, or nowhere
node_ends : (raw : RawProgram) (info : Info) (n : ℕ) (side : Side) (i : ℕ) (node : Node) → node_at side i ≡ node → has_path (after_node (program_of raw info)) n (node_at side i) ≡ false
    → has_path (after_node (program_of raw info)) n node ≡ false
node_ends raw info n side i node same none = subst (λ x. has_path (after_node (program_of raw info)) n x ≡ false) same none

record NoLoops (raw : RawProgram) : Type 0 where
  ingress : has_loop (node_edges raw.pipelines.ingress) ≡ false
  egress : has_loop (node_edges raw.pipelines.egress) ≡ false

in_ingress : (raw : RawProgram) (info : Info) → NoLoops raw → (i : ℕ) → i < length raw.pipelines.ingress.tables + length raw.pipelines.ingress.conditionals
    → has_path (after_node (program_of raw info)) (suc (node_count (program_of raw info))) (node_at (ingress raw) i) ≡ false
in_ingress raw info none i inside =
    side_ends raw info (program_of raw info) (ingress raw) (ingress_stands raw info) none.ingress (suc (node_count (program_of raw info))) (omega (arith, tables_count raw info, conditionals_count raw)) i inside

in_egress : (raw : RawProgram) (info : Info) → NoLoops raw → (i : ℕ) → i < length raw.pipelines.egress.tables + length raw.pipelines.egress.conditionals
    → has_path (after_node (program_of raw info)) (suc (node_count (program_of raw info))) (node_at (egress raw) i) ≡ false
in_egress raw info none i inside =
    side_ends raw info (program_of raw info) (egress raw) (egress_stands raw info) none.egress (suc (node_count (program_of raw info))) (omega (arith, tables_count raw info, conditionals_count raw)) i inside

table_ends : (raw : RawProgram) (info : Info) → NoLoops raw → (place : ℕ) → (place < length raw.pipelines.ingress.tables) ⊎ (length raw.pipelines.ingress.tables ≤ place)
    → (place < length raw.pipelines.ingress.tables + length raw.pipelines.egress.tables) ⊎ (length raw.pipelines.ingress.tables + length raw.pipelines.egress.tables ≤ place)
    → has_path (after_node (program_of raw info)) (suc (node_count (program_of raw info))) (nodes.Table place) ≡ false
table_ends raw info none place (inl less) b =
    node_ends raw info (suc (node_count (program_of raw info))) (ingress raw) place (nodes.Table place)
    (at_table (ingress raw) place less ∙ ap nodes.Table (let e : 0 + place ≡ place = omega arith in e)) (in_ingress raw info none place (omega arith))
table_ends raw info none place (inr more) (inl less) =
    node_ends raw info (suc (node_count (program_of raw info))) (egress raw) (place - length raw.pipelines.ingress.tables) (nodes.Table place)
    (at_table (egress raw) (place - length raw.pipelines.ingress.tables) (omega arith) ∙ ap nodes.Table (let e : length raw.pipelines.ingress.tables + (place - length raw.pipelines.ingress.tables) ≡ place = omega arith in e))
    (in_egress raw info none (place - length raw.pipelines.ingress.tables) (omega arith))
table_ends raw info none place (inr more) (inr past) =
    ends_at (after_node (program_of raw info)) (node_count (program_of raw info)) (nodes.Table place) (ap after_table (slice_get_past (tables_of raw info) place (omega (arith, tables_count raw info))))

conditional_ends : (raw : RawProgram) (info : Info) → NoLoops raw → (place : ℕ) → (place < length raw.pipelines.ingress.conditionals) ⊎ (length raw.pipelines.ingress.conditionals ≤ place)
    → (place < length raw.pipelines.ingress.conditionals + length raw.pipelines.egress.conditionals) ⊎ (length raw.pipelines.ingress.conditionals + length raw.pipelines.egress.conditionals ≤ place)
    → has_path (after_node (program_of raw info)) (suc (node_count (program_of raw info))) (nodes.Conditional place) ≡ false
conditional_ends raw info none place (inl less) b =
    node_ends raw info (suc (node_count (program_of raw info))) (ingress raw) (length raw.pipelines.ingress.tables + place) (nodes.Conditional place)
    (at_conditional (ingress raw) (length raw.pipelines.ingress.tables + place) place refl ∙ ap nodes.Conditional (let e : 0 + place ≡ place = omega arith in e))
    (in_ingress raw info none (length raw.pipelines.ingress.tables + place) (omega arith))
conditional_ends raw info none place (inr more) (inl less) =
    node_ends raw info (suc (node_count (program_of raw info))) (egress raw) (length raw.pipelines.egress.tables + (place - length raw.pipelines.ingress.conditionals)) (nodes.Conditional place)
    (at_conditional (egress raw) (length raw.pipelines.egress.tables + (place - length raw.pipelines.ingress.conditionals)) (place - length raw.pipelines.ingress.conditionals) refl
    ∙ ap nodes.Conditional (let e : length raw.pipelines.ingress.conditionals + (place - length raw.pipelines.ingress.conditionals) ≡ place = omega arith in e))
    (in_egress raw info none (length raw.pipelines.egress.tables + (place - length raw.pipelines.ingress.conditionals)) (omega arith))
conditional_ends raw info none place (inr more) (inr past) =
    ends_at (after_node (program_of raw info)) (node_count (program_of raw info)) (nodes.Conditional place) (ap after_conditional (slice_get_past (conditionals_of raw) place (omega (arith, conditionals_count raw))))

ends : (raw : RawProgram) (info : Info) → NoLoops raw → (node : Node) → has_path (after_node (program_of raw info)) (suc (node_count (program_of raw info))) node ≡ false
ends raw info none (nodes.Table place) =
    table_ends raw info none place (cases_lt place (length raw.pipelines.ingress.tables)) (cases_lt place (length raw.pipelines.ingress.tables + length raw.pipelines.egress.tables))
ends raw info none (nodes.Conditional place) =
    conditional_ends raw info none place (cases_lt place (length raw.pipelines.ingress.conditionals)) (cases_lt place (length raw.pipelines.ingress.conditionals + length raw.pipelines.egress.conditionals))

-- the nodes have no loop
pub nodes_have_no_loop : (raw : RawProgram) (info : Info) → has_loop (node_edges raw.pipelines.ingress) ≡ false → has_loop (node_edges raw.pipelines.egress) ≡ false
    → HasNoLoop (after_node (program_of raw info)) (suc (node_count (program_of raw info)))
nodes_have_no_loop raw info one other = ends raw info (record { ingress = one; egress = other })
