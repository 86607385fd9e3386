-- What a program must have for its P4Info: tables, actions, action profiles, counters and digests of the same names.
use Rattle.std.specs.Prelude.{ℕ, ◌==◌, Bool, true, false, not, ◌&&◌, List, length, Option, Some, None, is_some, option_and_then, slice_get, if◌then◌else◌, codes}
use Rattle.std.specs.List.{position, list_all, zip}
use Rattle.std.specs.Str.{bytes_eq}
use Rattle.p4_types.specs.declared.info.Info.{Info}
use Rattle.p4_types.specs.declared.info.Table as info_tables
use Rattle.p4_types.specs.declared.info.MatchField.{MatchField}
use Rattle.p4_types.specs.declared.info.MatchKind.{MatchKind}
use Rattle.p4_types.specs.declared.info.MatchKind.TheVariants.{Exact, Lpm, Ternary, Range, Optional}
use Rattle.p4_types.specs.declared.info.Param.{Param}
use Rattle.p4_types.specs.declared.info.Action as info_actions
use Rattle.p4_types.specs.declared.info.ActionProfile as info_profiles
use Rattle.p4info_model.specs.Lookups.{action_at, profile_at}
use Rattle.bm_values.specs.Literals.{width_bits}
use Rattle.bm_records.specs.declared.raw.Datum.{Datum}
use Rattle.bm_records.specs.declared.raw.Action.{Action}
use Rattle.bm_records.specs.declared.raw.KeyField.{KeyField}
use Rattle.bm_records.specs.declared.raw.Table.{Table}
use Rattle.bm_records.specs.declared.raw.TableKind.{TableKind}
use Rattle.bm_records.specs.declared.raw.TableKind.TheVariants as kinds
use Rattle.bm_records.specs.declared.raw.ActionProfile.{ActionProfile}
use Rattle.bm_records.specs.declared.raw.CounterArray.{CounterArray}
use Rattle.bm_records.specs.declared.raw.RawProgram.{RawProgram}
use Rattle.bm_rules.specs.Names.{named}
use Rattle.bm_rules.specs.Fields.{read_width, bits_of_names}
use Rattle.bm_rules.specs.References.{tables, profiles, action_by_id}

-- two kinds of matches are the same
abbrev pub same_kind : MatchKind → MatchKind → Bool
same_kind Exact Exact = true
same_kind Lpm Lpm = true
same_kind Ternary Ternary = true
same_kind Range Range = true
same_kind Optional Optional = true
same_kind _ _ = false

-- a field of a key has the kind and the width of one of the P4Info's
abbrev pub field_agrees : RawProgram → KeyField → MatchField → Bool
field_agrees raw key field = same_kind key.kind field.kind && (read_width raw key.target == field.bitwidth)

-- two keys have as many fields, of the same kinds and widths, in order
abbrev pub keys_agree : RawProgram → List KeyField → List MatchField → Bool
keys_agree raw keys fields = (length keys == length fields) && list_all (λ pair. field_agrees raw pair.0 pair.1) (zip keys fields)

-- there is a table, and its key is that of the P4Info's
abbrev pub key_agrees : RawProgram → List MatchField → Option Table → Bool
key_agrees raw fields None = false
key_agrees raw fields (Some table) = keys_agree raw table.key fields

-- the table of a name
abbrev pub table_named : RawProgram → List ℕ → Option Table
table_named raw name = named (λ table. table.name) name (tables raw)

-- each table of the P4Info has one of its name with its key
abbrev pub tables_agree : RawProgram → Info → Bool
tables_agree raw info = list_all (λ table. key_agrees raw table.match_fields (table_named raw table.preamble.name)) info.tables

-- a datum has the width of a parameter
abbrev pub datum_agrees : Datum → Param → Bool
datum_agrees datum param = width_bits datum.width == param.bitwidth

-- there are as many data as parameters, of the same widths, in order
abbrev pub data_agree : List Datum → List Param → Bool
data_agree runtime_data params = (length runtime_data == length params) && list_all (λ pair. datum_agrees pair.0 pair.1) (zip runtime_data params)

-- the id beside the first of these names
abbrev pub id_beside : List ℕ → List ℕ → List (List ℕ) → Option ℕ
id_beside wanted ids names = option_and_then (slice_get ids) (position (λ name. bytes_eq name wanted) names)

-- there is an action, and it has the widths of these parameters
abbrev pub action_agrees : List Param → Option Action → Bool
action_agrees params None = false
action_agrees params (Some action) = data_agree action.runtime_data params

-- there is an action of this id with these widths
abbrev pub id_agrees : RawProgram → List Param → Option ℕ → Bool
id_agrees raw params None = false
id_agrees raw params (Some id) = action_agrees params (action_by_id raw id)

-- an action of the P4Info is one of a table, with its widths
abbrev pub reference_agrees : RawProgram → Table → Option info_actions.Action → Bool
reference_agrees raw table None = false
reference_agrees raw table (Some action) = id_agrees raw action.params (id_beside action.preamble.name table.action_ids table.actions)

-- there is a table, and it has each action that is referred to
abbrev pub table_has_references : RawProgram → Info → info_tables.Table → Option Table → Bool
table_has_references raw info given None = false
table_has_references raw info given (Some table) = list_all (λ reference. reference_agrees raw table (action_at info reference.id)) given.action_refs

-- each action reference has an action of its name in its table
abbrev pub references_agree : RawProgram → Info → Bool
references_agree raw info = list_all (λ table. table_has_references raw info table (table_named raw table.preamble.name)) info.tables

-- there is an action profile, and it has a selector or has none
abbrev pub selector_agrees : Bool → Option ActionProfile → Bool
selector_agrees with_selector None = false
selector_agrees with_selector (Some profile) = if with_selector then is_some profile.selector else not (is_some profile.selector)

-- an action profile of the P4Info has one of its name, with a selector where it has one
abbrev pub profile_has_own : RawProgram → info_profiles.ActionProfile → Bool
profile_has_own raw profile = selector_agrees profile.with_selector (named (λ x. x.name) profile.preamble.name (profiles raw))

-- a table's kind is that of a table with an action profile, which has a selector or not
abbrev pub is_of_kind : Bool → TableKind → Bool
is_of_kind with_selector kinds.Simple = false
is_of_kind with_selector kinds.Indirect = not with_selector
is_of_kind with_selector kinds.IndirectWithSelector = with_selector

-- a profile is named, by this name
abbrev pub is_name : List ℕ → Option (List ℕ) → Bool
is_name name None = false
is_name name (Some given) = bytes_eq given name

-- there is an action profile, and it is the table's
abbrev pub has_profile : Table → Option info_profiles.ActionProfile → Bool
has_profile table None = false
has_profile table (Some profile) = is_of_kind profile.with_selector table.kind && is_name profile.preamble.name table.action_profile

-- a table has no action profile
abbrev pub is_simple : TableKind → Bool
is_simple kinds.Simple = true
is_simple _ = false

-- a table has the action profile of an id, or none where none is given
abbrev pub profile_agrees : Info → Option ℕ → Table → Bool
profile_agrees info None table = is_simple table.kind
profile_agrees info (Some id) table = has_profile table (profile_at info id)

-- there is a table, and it has the action profile of the P4Info's
abbrev pub table_profile_agrees : Info → Option ℕ → Option Table → Bool
table_profile_agrees info profile None = false
table_profile_agrees info profile (Some table) = profile_agrees info profile table

-- each action profile of the P4Info has one of its name and its kind, and each table has its own
abbrev pub profiles_agree : RawProgram → Info → Bool
profiles_agree raw info =
    list_all (profile_has_own raw) info.action_profiles
    && list_all (λ table. table_profile_agrees info table.action_profile (table_named raw table.preamble.name)) info.tables

-- a size is given, and it is this one
abbrev pub is_size : ℕ → Option ℕ → Bool
is_size size None = false
is_size size (Some given) = given == size

-- there is a counter array, it is not direct, and it has this size
abbrev pub size_agrees : ℕ → Option CounterArray → Bool
size_agrees size None = false
size_agrees size (Some counter) = not counter.is_direct && is_size size counter.size

-- each indirect counter of the P4Info has an array of its name and size
abbrev pub counters_agree : RawProgram → Info → Bool
counters_agree raw info = list_all (λ counter. size_agrees counter.size (named (λ x. x.name) counter.preamble.name raw.counter_arrays)) info.counters

-- each digest of the P4Info has a learn list of its name
abbrev pub digests_agree : RawProgram → Info → Bool
digests_agree raw info = list_all (λ digest. is_some (named (λ x. x.name) digest.preamble.name raw.learn_lists)) info.digests

-- `standard_metadata.egress_spec` is there and has 9 bits
abbrev pub has_egress_spec : RawProgram → Bool
has_egress_spec raw = bits_of_names raw (codes "standard_metadata") (codes "egress_spec") == 9
