-- The rules of an update, each in its order (P4Runtime 1.3.0, "Write RPC", "Table entries", "Match Format", "Bytestrings"; order and some codes: this project's profile).
use Rattle.std.specs.Prelude.{ℕ, ℤ, pos, negsuc, ◌-◌, ◌%◌, ◌^◌, ◌==◌, ◌&&◌, ◌||◌, not, nat_lt, nat_le, bit_and, Bool, true, false, if◌then◌else◌, List, [], ◌∷◌, length, map, find, Option, Some, None, option_map, is_some, is_none, unwrap_or, Result, Ok, Err}
use Rattle.std.specs.List.{list_all, list_any}
use Rattle.std.specs.Int.{is_positive}
use Rattle.p4_types.specs.declared.code.Cause.{Cause}
use Rattle.p4_types.specs.declared.code.Code.{Code}
use Rattle.p4_types.specs.declared.code.Code.TheVariants as codes
use Rattle.p4_types.specs.declared.code.Rule.{Rule}
use Rattle.p4_types.specs.declared.code.Rule.TheVariants as rules
use Rattle.p4_types.specs.declared.info.Action as infos
use Rattle.p4_types.specs.declared.info.ActionProfile.{ActionProfile}
use Rattle.p4_types.specs.declared.info.Info.{Info}
use Rattle.p4_types.specs.declared.info.MatchField.{MatchField}
use Rattle.p4_types.specs.declared.info.MatchKind.{MatchKind}
use Rattle.p4_types.specs.declared.info.MatchKind.TheVariants as match_kinds
use Rattle.p4_types.specs.declared.info.Param as info_params
use Rattle.p4_types.specs.declared.info.Scope.{Scope}
use Rattle.p4_types.specs.declared.info.Scope.TheVariants as scopes
use Rattle.p4_types.specs.declared.info.Table.{Table}
use Rattle.p4_types.specs.declared.messages.Action.{Action}
use Rattle.p4_types.specs.declared.messages.ActionProfileAction.{ActionProfileAction}
use Rattle.p4_types.specs.declared.messages.FieldMatch.{FieldMatch}
use Rattle.p4_types.specs.declared.messages.FieldMatchKind.{FieldMatchKind}
use Rattle.p4_types.specs.declared.messages.FieldMatchKind.TheVariants as given
use Rattle.p4_types.specs.declared.messages.Param.{Param}
use Rattle.p4_types.specs.declared.messages.TableAction.{TableAction}
use Rattle.p4_types.specs.declared.messages.TableAction.TheVariants as actions
use Rattle.p4_types.specs.declared.messages.TableEntry.{TableEntry}
use Rattle.p4_types.specs.declared.table.ActionCall.{ActionCall}
use Rattle.p4_types.specs.declared.table.Change.{Change}
use Rattle.p4_types.specs.declared.table.Change.TheVariants as changes
use Rattle.p4_types.specs.declared.table.EntryAction.{EntryAction}
use Rattle.p4_types.specs.declared.table.EntryAction.TheVariants as entry_actions
use Rattle.p4_types.specs.declared.table.EntryChange.{EntryChange}
use Rattle.p4_types.specs.declared.table.EntryName.{EntryName}
use Rattle.p4_types.specs.declared.table.WeightedCall.{WeightedCall}
use Rattle.p4_types.specs.declared.keys.FieldTest.{FieldTest}
use Rattle.p4_types.specs.declared.keys.FieldTest.TheVariants as tests
use Rattle.p4_types.specs.declared.table.UpdateKind.{UpdateKind}
use Rattle.p4_types.specs.declared.table.UpdateKind.TheVariants as kinds
use Rattle.canon_bytes.specs.Bits.{bits, num}
use Rattle.plane_spec.specs.Objects.{table_of, action_of, action_profile_of, field_of}

-- whether a number stands twice in a list
abbrev pub repeats : List ℕ → Bool
repeats [] = false
repeats (x ∷ xs) = list_any (λ y. y == x) xs || repeats xs

-- the number of a byte string
abbrev pub number : List ℕ → ℕ
number bytes = num (bits bytes)

-- the number of a byte string of at most so many bits; where it is wider, it is refused before it is asked for
abbrev pub number_in : ℕ → List ℕ → ℕ
number_in width bytes = if nat_lt (number bytes) (2 ^ width) then number bytes else 0

-- INSERT, MODIFY or DELETE by its number in a message
abbrev pub update_kind : ℤ → Option UpdateKind
update_kind (pos n) = if n == 1 then Some kinds.Insert else if n == 2 then Some kinds.Modify else if n == 3 then Some kinds.Delete else None
update_kind (negsuc n) = None

-- an INSERT or a MODIFY brings something, a DELETE nothing
abbrev pub brings : UpdateKind → Bool
brings kinds.Insert = true
brings kinds.Modify = true
brings kinds.Delete = false

-- the number is 0
abbrev pub is_zero : ℤ → Bool
is_zero (pos n) = n == 0
is_zero (negsuc n) = false

-- each byte is 0
abbrev pub all_zero : List ℕ → Bool
all_zero bytes = list_all (λ b. b == 0) bytes

-- a member or an action that is to be watched: by a port's number, or by its bytes
abbrev pub is_watched : ℕ → List ℕ → Bool
is_watched watch port = not (watch == 0) || not (all_zero port)

-- an action of the one-shot set that is given, if one is, is to be watched
abbrev pub has_watch : Option (Option TableAction) → Bool
has_watch (Some (Some (actions.ActionProfileActionSet set))) = list_any (λ action. is_watched action.watch action.watch_port) set.action_profile_actions
has_watch _ = false

-- U2: an INSERT or MODIFY that gives what is not served
abbrev pub is_unserved : UpdateKind → TableEntry → Bool
is_unserved kind entry = brings kind && (entry.meter_config || is_some entry.counter_data || entry.time_since_last_hit || not (is_zero entry.idle_timeout_ns) || has_watch entry.action)

-- U4: the role's configuration, if it has one, has not this id
abbrev pub is_foreign : Option (List ℕ) → ℕ → Bool
is_foreign None id = false
is_foreign (Some ids) id = not (list_any (λ own. own == id) ids)

-- whether an update is a MODIFY
abbrev pub is_modify : UpdateKind → Bool
is_modify kinds.Modify = true
is_modify kinds.Insert = false
is_modify kinds.Delete = false

-- U5: an entry of a const table, its default entry included; a default entry under INSERT or DELETE, or of a table with a const default action or an action profile
abbrev pub is_fixed : Table → UpdateKind → TableEntry → Bool
is_fixed table kind entry = table.is_const_table || (entry.is_default_action && (not (is_modify kind) || is_some table.const_default_action || is_some table.action_profile))

-- the two, where both are there
abbrev pub both : {A B : Type 0} → Option A → Option B → Option (A × B)
both (Some x) (Some y) = Some (x, y)
both (Some x) None = None
both None (Some y) = None
both None None = None

-- the table's field that a match names, with what is asked of it; None where either is missing
abbrev pub matched : Table → FieldMatch → Option (MatchField × FieldMatchKind)
matched table asked = both (field_of asked.field_id table) asked.kind

-- whether the kind of a field is EXACT
abbrev pub is_exact : MatchKind → Bool
is_exact match_kinds.Exact = true
is_exact _ = false

-- whether the kind of a field is LPM
abbrev pub is_lpm : MatchKind → Bool
is_lpm match_kinds.Lpm = true
is_lpm _ = false

-- whether the kind of a field is TERNARY
abbrev pub is_ternary : MatchKind → Bool
is_ternary match_kinds.Ternary = true
is_ternary _ = false

-- whether the kind of a field is RANGE
abbrev pub is_range : MatchKind → Bool
is_range match_kinds.Range = true
is_range _ = false

-- whether the kind of a field is OPTIONAL
abbrev pub is_optional : MatchKind → Bool
is_optional match_kinds.Optional = true
is_optional _ = false

-- a byte string of no bytes
abbrev pub is_empty : List ℕ → Bool
is_empty bytes = length bytes == 0

-- a prefix length from 1 to the width
abbrev pub is_prefix_length : ℕ → ℤ → Bool
is_prefix_length width (pos length) = nat_le 1 length && nat_le length width
is_prefix_length width (negsuc n) = false

-- a match of the field's own kind, without an empty byte string, a mask that is zero or a prefix length out of range
abbrev pub is_formed : MatchField → FieldMatchKind → Bool
is_formed field (given.Exact value) = is_exact field.kind && not (is_empty value)
is_formed field (given.Ternary value mask) = is_ternary field.kind && not (is_empty value) && not (is_empty mask) && not (all_zero mask)
is_formed field (given.Lpm value length) = is_lpm field.kind && not (is_empty value) && is_prefix_length field.bitwidth length
is_formed field (given.Range low high) = is_range field.kind && not (is_empty low) && not (is_empty high)
is_formed field (given.Optional value) = is_optional field.kind && not (is_empty value)

-- the same for a match that may name no field of the table or ask nothing; such a one is malformed
abbrev pub is_formed_in : Option (MatchField × FieldMatchKind) → Bool
is_formed_in None = false
is_formed_in (Some x) = is_formed x.0 x.1

-- a member or a group by the id 0
abbrev pub names_zero : Option (Option TableAction) → Bool
names_zero (Some (Some (actions.ActionProfileMemberId id))) = id == 0
names_zero (Some (Some (actions.ActionProfileGroupId id))) = id == 0
names_zero _ = false

-- the entry gives a match for some field
abbrev pub has_match : TableEntry → Bool
has_match entry = not (length entry.matches == 0)

-- The match is not in the form of the table's key. With more fields than the key has, one is unknown or given twice.
abbrev pub is_malformed_match : Table → TableEntry → Bool
is_malformed_match table entry =
    let ids = map (λ asked. asked.field_id) entry.matches in
    nat_lt (length table.match_fields) (length entry.matches)
    || (entry.is_default_action && has_match entry)
    || not (list_all (λ asked. is_formed_in (matched table asked)) entry.matches)
    || repeats ids
    || (not entry.is_default_action && list_any (λ field. is_exact field.kind && not (list_any (λ id. id == field.id) ids)) table.match_fields)

-- U6
abbrev pub is_malformed : Table → TableEntry → Bool
is_malformed table entry = is_malformed_match table entry || names_zero entry.action

-- every byte string of the match is a number of at most so many bits
abbrev pub fits : ℕ → FieldMatchKind → Bool
fits width (given.Exact value) = nat_lt (number value) (2 ^ width)
fits width (given.Ternary value mask) = nat_lt (number value) (2 ^ width) && nat_lt (number mask) (2 ^ width)
fits width (given.Lpm value length) = nat_lt (number value) (2 ^ width)
fits width (given.Range low high) = nat_lt (number low) (2 ^ width) && nat_lt (number high) (2 ^ width)
fits width (given.Optional value) = nat_lt (number value) (2 ^ width)

-- the same for a match that may name no field of the table or ask nothing; such a one is left to U6
abbrev pub fits_in : Option (MatchField × FieldMatchKind) → Bool
fits_in None = true
fits_in (Some x) = fits x.0.bitwidth x.1

-- U7: a value, mask, low or high is wider than its field
abbrev pub is_too_wide : Table → TableEntry → Bool
is_too_wide table entry = not (list_all (λ asked. fits_in (matched table asked)) entry.matches)

-- a prefix length as a number
abbrev pub natural : ℤ → ℕ
natural (pos n) = n
natural (negsuc n) = 0

-- The match is the canonical one of what it asks: no value bits outside the mask or the prefix, a range that is one and not of all values.
abbrev pub is_canonical : ℕ → FieldMatchKind → Bool
is_canonical width (given.Exact value) = true
is_canonical width (given.Ternary value mask) = bit_and (number_in width value) (number_in width mask) == number_in width value
is_canonical width (given.Lpm value length) = number_in width value % 2 ^ (width - natural length) == 0
is_canonical width (given.Range low high) = nat_le (number_in width low) (number_in width high) && not ((number_in width low == 0) && (number_in width high == 2 ^ width - 1))
is_canonical width (given.Optional value) = true

-- the same for a match that may name no field of the table or ask nothing; such a one is left to U6
abbrev pub is_canonical_in : Option (MatchField × FieldMatchKind) → Bool
is_canonical_in None = true
is_canonical_in (Some x) = is_canonical x.0.bitwidth x.1

-- a table whose entries are told apart by priority: one with a ternary, a range or an optional field
abbrev pub has_priorities : Table → Bool
has_priorities table = list_any (λ field. is_ternary field.kind || is_range field.kind || is_optional field.kind) table.match_fields

-- a priority is above 0 where the table has priorities and the entry is not the default one, and 0 elsewhere
abbrev pub has_right_priority : Table → TableEntry → Bool
has_right_priority table entry = if has_priorities table && not entry.is_default_action then is_positive entry.priority else is_zero entry.priority

-- the match is the canonical one of what it asks
abbrev pub is_canonical_match : Table → TableEntry → Bool
is_canonical_match table entry = list_all (λ asked. is_canonical_in (matched table asked)) entry.matches

-- U8
abbrev pub is_inconsistent : Table → TableEntry → Bool
is_inconsistent table entry = not (is_canonical_match table entry) || not (has_right_priority table entry)

-- whether an action with this scope may stand in an entry, or be the default
abbrev pub is_allowed : Bool → Scope → Bool
is_allowed default scopes.TableAndDefault = true
is_allowed default scopes.TableOnly = not default
is_allowed default scopes.DefaultOnly = default

-- the table has the action of this id, with a scope that allows it in an entry, or as the default
abbrev pub has_action : Table → Bool → ℕ → Bool
has_action table default id = list_any (λ ref. (ref.id == id) && is_allowed default ref.scope) table.action_refs

-- Each parameter is given exactly once, none is unknown, none is empty.
abbrev pub are_complete : List info_params.Param → List Param → Bool
are_complete params arguments =
    let ids = map (λ argument. argument.param_id) arguments in
    nat_le (length arguments) (length params)
    && not (repeats ids)
    && list_all (λ id. list_any (λ param. param.id == id) params) ids
    && list_all (λ param. list_any (λ id. id == param.id) ids) params
    && not (list_any (λ argument. is_empty argument.value) arguments)

-- the bytes that are given for a parameter
abbrev pub argument_of : List Param → ℕ → List ℕ
argument_of arguments id = unwrap_or (option_map (λ argument. argument.value) (find (λ argument. argument.param_id == id) arguments)) []

-- each argument is a number of at most as many bits as its parameter
abbrev pub arguments_fit : List info_params.Param → List Param → Bool
arguments_fit params arguments = list_all (λ param. nat_lt (number (argument_of arguments param.id)) (2 ^ param.bitwidth)) params

-- the code with which the arguments of an action are refused, if they are; those of an unknown action are
abbrev pub argument_flaw : Option infos.Action → List Param → Option Code
argument_flaw None arguments = Some codes.InvalidArgument
argument_flaw (Some action) arguments =
    if not (are_complete action.params arguments) then Some codes.InvalidArgument else
    if arguments_fit action.params arguments then None else Some codes.OutOfRange

-- U9: an action of the table, with a scope that allows it, with its arguments
abbrev pub call_flaw : Info → Table → Bool → Action → Option Code
call_flaw info table default call =
    if has_action table default call.action_id then argument_flaw (action_of call.action_id info) call.params else Some codes.InvalidArgument

-- a table has the action, in an entry or as the default
abbrev pub refers_in : ℕ → Option Table → Bool
refers_in id None = false
refers_in id (Some table) = list_any (λ ref. ref.id == id) table.action_refs

-- every table of a profile has the action
abbrev pub is_of_profile : Info → ActionProfile → ℕ → Bool
is_of_profile info profile id = list_all (λ table. refers_in id (table_of table info)) profile.table_ids

-- U9 on the action of a member or of a one-shot set: it is given, every table of the profile has it, and its arguments are right
abbrev pub profile_call_flaw : Info → ActionProfile → Option Action → Option Code
profile_call_flaw info profile None = Some codes.InvalidArgument
profile_call_flaw info profile (Some call) =
    if is_of_profile info profile call.action_id then argument_flaw (action_of call.action_id info) call.params else Some codes.InvalidArgument

-- a weight from 1 to 65,535
abbrev pub is_weight : ℤ → Bool
is_weight (pos weight) = nat_le 1 weight && nat_le weight 65535
is_weight (negsuc n) = false

-- a code is that of a wrong argument, and not that of one that is too wide
abbrev pub is_invalid : Option Code → Bool
is_invalid (Some codes.InvalidArgument) = true
is_invalid _ = false

-- U9 on a one-shot set: 1 to 256 actions, each with a weight and right in itself; where only arguments are too wide, another code
abbrev pub set_flaw : Info → ActionProfile → List ActionProfileAction → Option Code
set_flaw info profile list =
    if not (nat_le 1 (length list) && nat_le (length list) 256) then Some codes.InvalidArgument else
    if not (list_all (λ action. is_weight action.weight) list) then Some codes.InvalidArgument else
    if list_any (λ action. is_invalid (profile_call_flaw info profile action.action)) list then Some codes.InvalidArgument else
    if list_any (λ action. is_some (profile_call_flaw info profile action.action)) list then Some codes.OutOfRange else None

-- the action profile of a table, if it has one
abbrev pub profile_of_table : Info → Table → Option ActionProfile
profile_of_table info table = action_profile_of (unwrap_or table.action_profile 0) info

-- U9 on an action under an action profile: a member; where the profile has a selector, a group or a one-shot set too; and no plain action
abbrev pub chosen_flaw : Info → ActionProfile → TableAction → Option Code
chosen_flaw info profile (actions.Action call) = Some codes.InvalidArgument
chosen_flaw info profile (actions.ActionProfileMemberId id) = None
chosen_flaw info profile (actions.ActionProfileGroupId id) = if profile.with_selector then None else Some codes.InvalidArgument
chosen_flaw info profile (actions.ActionProfileActionSet set) = if profile.with_selector then set_flaw info profile set.action_profile_actions else Some codes.InvalidArgument

-- U9 on an action in a table without an action profile: a plain one
abbrev pub plain_flaw : Info → Table → Bool → TableAction → Option Code
plain_flaw info table default (actions.Action call) = call_flaw info table default call
plain_flaw info table default _ = Some codes.InvalidArgument

-- the same by the table's profile, if it has one
abbrev pub given_flaw : Info → Table → Bool → TableAction → Option ActionProfile → Option Code
given_flaw info table default action None = plain_flaw info table default action
given_flaw info table default action (Some profile) = chosen_flaw info profile action

-- Only a default entry may leave the action out.
abbrev pub action_flaw : Info → Table → Bool → Option (Option TableAction) → Option Code
action_flaw info table default None = if default then None else Some codes.InvalidArgument
action_flaw info table default (Some None) = Some codes.InvalidArgument
action_flaw info table default (Some (Some action)) = given_flaw info table default action (profile_of_table info table)

-- a DELETE's action is not looked at
abbrev pub brought_flaw : Info → Table → UpdateKind → TableEntry → Option Code
brought_flaw info table kind entry = if brings kind then action_flaw info table entry.is_default_action entry.action else None

-- a rule that is broken, with the code with which it refuses
abbrev pub caused : Rule → Code → Option Cause
caused rule code = Some (record { rule = rule; code = code })

-- the same, where there is such a code
abbrev pub caused_by : Rule → Option Code → Option Cause
caused_by rule None = None
caused_by rule (Some code) = caused rule code

-- what is asked of a table, where there is one
abbrev pub in_table : Option Table → (Table → Bool) → Bool
in_table None test = false
in_table (Some table) test = test table

-- the code with which the action that an update brings is refused, if it is
abbrev pub brought_flaw_in : Option Table → Info → UpdateKind → TableEntry → Option Code
brought_flaw_in None info kind entry = None
brought_flaw_in (Some table) info kind entry = brought_flaw info table kind entry

-- The first rule of U2 to U9 that an update of an entry of this table breaks; these ask for the program alone.
unfoldable pub entry_cause : Info → Option (List ℕ) → UpdateKind → TableEntry → Option Table → Option Cause
entry_cause info scope kind entry table =
    if is_unserved kind entry then caused rules.U2 codes.Unimplemented else
    if is_none table then caused rules.U3 codes.NotFound else
    if is_foreign scope entry.table_id then caused rules.U4 codes.PermissionDenied else
    if in_table table (λ t. is_fixed t kind entry) then caused rules.U5 codes.InvalidArgument else
    if in_table table (λ t. is_malformed t entry) then caused rules.U6 codes.InvalidArgument else
    if in_table table (λ t. is_too_wide t entry) then caused rules.U7 codes.OutOfRange else
    if in_table table (λ t. is_inconsistent t entry) then caused rules.U8 codes.InvalidArgument else
    caused_by rules.U9 (brought_flaw_in table info kind entry)

-- the test of a field by what is asked of it, if it is asked anything
abbrev pub test_by : ℕ → Option FieldMatchKind → FieldTest
test_by width None = tests.Any
test_by width (Some (given.Exact value)) = tests.Equal (number_in width value)
test_by width (Some (given.Ternary value mask)) = tests.Masked (number_in width value) (number_in width mask)
test_by width (Some (given.Lpm value length)) = tests.Prefix (number_in width value) (natural length) width
test_by width (Some (given.Range low high)) = tests.Between (number_in width low) (number_in width high)
test_by width (Some (given.Optional value)) = tests.Equal (number_in width value)

-- what is asked of a field
abbrev pub asked_of : ℕ → List FieldMatch → Option FieldMatchKind
asked_of id [] = None
asked_of id (asked ∷ others) = if asked.field_id == id then asked.kind else asked_of id others

-- the fields of a table's key, where there is one
abbrev pub fields_of : Option Table → List MatchField
fields_of None = []
fields_of (Some table) = table.match_fields

-- the name of an entry: a test for each field of the key
abbrev pub name_of : Option Table → TableEntry → EntryName
name_of table entry = record {
  table = entry.table_id;
  tests = map (λ field. test_by field.bitwidth (asked_of field.id entry.matches)) (fields_of table);
  priority = entry.priority;
}

-- an action with its arguments in the order of the parameters
abbrev pub action_call : Option infos.Action → Action → ActionCall
action_call None call = record { action = call.action_id; arguments = [] }
action_call (Some action) call = record { action = call.action_id; arguments = map (λ param. number_in param.bitwidth (argument_of call.params param.id)) action.params }

-- the call of an action of the program
abbrev pub call_in : Info → Action → ActionCall
call_in info call = action_call (action_of call.action_id info) call

-- the plain action that is given, if one is
abbrev pub given_call : Info → Option (Option TableAction) → Option ActionCall
given_call info (Some (Some (actions.Action call))) = Some (call_in info call)
given_call info _ = None

-- what stands for an action that is not given
abbrev pub no_call : ActionCall
no_call = record { action = 0; arguments = [] }

-- the call of an action that is given, or what stands for it
abbrev pub call_by : Info → Option Action → ActionCall
call_by info None = no_call
call_by info (Some call) = call_in info call

-- an action of a one-shot set
abbrev pub weighted_call : Info → ActionProfileAction → WeightedCall
weighted_call info action = record { call = call_by info action.action; weight = natural action.weight }

-- what an entry does by the action that is given, in a table of this profile
abbrev pub action_by : Info → ℕ → TableAction → EntryAction
action_by info profile (actions.Action call) = entry_actions.Call (call_in info call)
action_by info profile (actions.ActionProfileMemberId id) = entry_actions.Member profile id
action_by info profile (actions.ActionProfileGroupId id) = entry_actions.Group profile id
action_by info profile (actions.ActionProfileActionSet set) = entry_actions.Set profile (map (weighted_call info) set.action_profile_actions)

-- the same, where an action may not be given
abbrev pub given_action : Info → ℕ → Option (Option TableAction) → EntryAction
given_action info profile (Some (Some action)) = action_by info profile action
given_action info profile _ = entry_actions.Call no_call

-- the action profile of a table, if there is one; ids begin at 1, so that 0 names none
abbrev pub profile_in : Option Table → ℕ
profile_in None = 0
profile_in (Some table) = unwrap_or table.action_profile 0

-- the change of an entry by the type of its update; a DELETE needs only the name
abbrev pub change_by : UpdateKind → EntryChange → Change
change_by kinds.Insert brought = changes.InsertEntry brought
change_by kinds.Modify brought = changes.ModifyEntry brought
change_by kinds.Delete brought = changes.DeleteEntry brought.name

-- What an update of a table entry that breaks no rule changes. The metadata of a default entry is passed over.
abbrev pub entry_change : Info → Option Table → UpdateKind → TableEntry → Change
entry_change info table kind entry =
    if entry.is_default_action then changes.ModifyDefault entry.table_id (given_call info entry.action)
    else change_by kind (record { name = name_of table entry; controller_metadata = entry.controller_metadata; action = given_action info (profile_in table) entry.action })

-- a change, unless there is a cause against it
abbrev pub change_unless : Option Cause → Change → Result Change Cause
change_unless None change = Ok change
change_unless (Some cause) change = Err cause

-- an update of a table entry: the first rule of U2 to U9 that it breaks, or what it changes
abbrev pub entry_resolution : Info → Option (List ℕ) → UpdateKind → TableEntry → Option Table → Result Change Cause
entry_resolution info scope kind entry table = change_unless (entry_cause info scope kind entry table) (entry_change info table kind entry)
