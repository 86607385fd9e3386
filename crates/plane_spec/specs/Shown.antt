-- Entries, members, groups, default actions and multicast groups as the messages that stand for them (P4Runtime 1.3.0, "P4 Entity Messages"; the order of fields and parameters: this project's profile).
use Rattle.std.specs.Prelude.{ℕ, ◌-◌, ◌^◌, min, ℤ, pos, not, nat_lt, true, false, if◌then◌else◌, List, [], ◌∷◌, map, fold, length, Option, Some, None, option_map}
use Rattle.std.specs.List.{filter_map, zip}
use Rattle.p4_types.specs.declared.info.Action as infos
use Rattle.p4_types.specs.declared.info.Info.{Info}
use Rattle.p4_types.specs.declared.info.MatchField.{MatchField}
use Rattle.p4_types.specs.declared.info.Table.{Table}
use Rattle.p4_types.specs.declared.messages.Action.{Action}
use Rattle.p4_types.specs.declared.messages.ActionProfileAction.{ActionProfileAction}
use Rattle.p4_types.specs.declared.messages.ActionProfileGroup.{ActionProfileGroup}
use Rattle.p4_types.specs.declared.messages.ActionProfileMember.{ActionProfileMember}
use Rattle.p4_types.specs.declared.messages.FieldMatch.{FieldMatch}
use Rattle.p4_types.specs.declared.messages.FieldMatchKind.{FieldMatchKind}
use Rattle.p4_types.specs.declared.messages.FieldMatchKind.TheVariants as given
use Rattle.p4_types.specs.declared.messages.Member as messages
use Rattle.p4_types.specs.declared.messages.PacketReplicationEngineEntry.{PacketReplicationEngineEntry}
use Rattle.p4_types.specs.declared.messages.Param.{Param}
use Rattle.p4_types.specs.declared.messages.TableAction.{TableAction}
use Rattle.p4_types.specs.declared.messages.TableAction.TheVariants as actions
use Rattle.p4_types.specs.declared.messages.TableEntry.{TableEntry}
use Rattle.p4_types.specs.declared.multicast.MulticastGroup.{MulticastGroup}
use Rattle.p4_types.specs.declared.profiles.Group.{Group}
use Rattle.p4_types.specs.declared.profiles.Member.{Member}
use Rattle.p4_types.specs.declared.profiles.Share.{Share}
use Rattle.p4_types.specs.declared.table.ActionCall.{ActionCall}
use Rattle.p4_types.specs.declared.table.DefaultAction.{DefaultAction}
use Rattle.p4_types.specs.declared.table.Entry.{Entry}
use Rattle.p4_types.specs.declared.table.EntryAction.{EntryAction}
use Rattle.p4_types.specs.declared.table.EntryAction.TheVariants as entry_actions
use Rattle.p4_types.specs.declared.table.WeightedCall.{WeightedCall}
use Rattle.p4_types.specs.declared.keys.FieldTest.{FieldTest}
use Rattle.p4_types.specs.declared.keys.FieldTest.TheVariants as tests
use Rattle.canon_bytes.specs.ByteString.{canon}
use Rattle.plane_spec.specs.Objects.{table_of, action_of}
use Rattle.plane_spec.specs.UpdateRules.{is_optional}

-- an item behind those whose number is not above its own
abbrev pub placed : {A : Type 0} → (A → ℕ) → A → List A → List A
placed key x [] = x ∷ []
placed key x (y ∷ ys) = if nat_lt (key x) (key y) then x ∷ y ∷ ys else y ∷ placed key x ys

-- the items by rising number
abbrev pub by_rising : {A : Type 0} → (A → ℕ) → List A → List A
by_rising key items = fold (λ sorted x. placed key x sorted) [] items

-- the length of a prefix as a number of its type (int32); those of fields are far below its greatest
abbrev pub prefix_number : ℕ → ℤ
prefix_number length = pos (min length (2 ^ 31 - 1))

-- a test as it is answered, in canonical form; a field that is left out is not
abbrev pub shown_kind : MatchField → FieldTest → Option FieldMatchKind
shown_kind field tests.Any = None
shown_kind field (tests.Equal value) = Some (if is_optional field.kind then given.Optional (canon value) else given.Exact (canon value))
shown_kind field (tests.Prefix value length width) = Some (given.Lpm (canon value) (prefix_number length))
shown_kind field (tests.Masked value mask) = Some (given.Ternary (canon value) (canon mask))
shown_kind field (tests.Between low high) = Some (given.Range (canon low) (canon high))

-- what is asked of the field of this id (FieldMatch)
abbrev pub field_match : ℕ → FieldMatchKind → FieldMatch
field_match id kind = record { field_id = id; kind = Some kind }

-- a field's test as it is answered, with the field's id
abbrev pub shown_match : MatchField × FieldTest → Option FieldMatch
shown_match x = option_map (field_match x.0.id) (shown_kind x.0 x.1)

-- the match of an entry as it is answered: its fields by rising id; none where the table is unknown
abbrev pub matches_in : Option Table → List FieldTest → List FieldMatch
matches_in None list = []
matches_in (Some table) list = by_rising (λ m. m.field_id) (filter_map shown_match (zip table.match_fields list))

-- the argument of the parameter of this id, in canonical form (Param)
abbrev pub param_of : ℕ → ℕ → Param
param_of id value = record { param_id = id; value = canon value }

-- the arguments of an action as they are answered, by rising id of their parameters; none where the action is unknown
abbrev pub params_in : Option infos.Action → List ℕ → List Param
params_in None arguments = []
params_in (Some action) arguments = by_rising (λ p. p.param_id) (map (λ x. param_of x.0.id x.1) (zip action.params arguments))

-- an action as it is answered: its parameters by rising id
abbrev pub shown_action : Info → ActionCall → Action
shown_action info call = record { action_id = call.action; params = params_in (action_of call.action info) call.arguments }

-- a weight as a number of its type (int32); those that are written are far below its greatest
abbrev pub weight_number : ℕ → ℤ
weight_number weight = pos (min weight (2 ^ 31 - 1))

-- an action of a one-shot set as it is answered; what it watches is not kept
abbrev pub shown_weighted : Info → WeightedCall → ActionProfileAction
shown_weighted info action = record { action = Some (shown_action info action.call); weight = weight_number action.weight; watch = 0; watch_port = [] }

-- what an entry does as it is answered
abbrev pub shown_entry_action : Info → EntryAction → TableAction
shown_entry_action info (entry_actions.Call call) = actions.Action (shown_action info call)
shown_entry_action info (entry_actions.Member profile id) = actions.ActionProfileMemberId id
shown_entry_action info (entry_actions.Group profile id) = actions.ActionProfileGroupId id
shown_entry_action info (entry_actions.Set profile calls) = actions.ActionProfileActionSet (record { action_profile_actions = map (shown_weighted info) calls })

-- a member as it is answered
abbrev pub shown_member : Info → Member → ActionProfileMember
shown_member info member = record { action_profile_id = member.profile; member_id = member.id; action = Some (shown_action info member.call) }

-- a share of a group as it is answered; what it watches is not kept
abbrev pub shown_share : Share → messages.Member
shown_share share = record { member_id = share.member; weight = weight_number share.weight; watch = 0; watch_port = [] }

-- a group as it is answered; its greatest size is not kept
abbrev pub shown_group : Group → ActionProfileGroup
shown_group group = record { action_profile_id = group.profile; group_id = group.id; members = map shown_share group.shares; max_size = pos 0 }

-- a multicast group as it is answered
abbrev pub shown_multicast : MulticastGroup → PacketReplicationEngineEntry
shown_multicast group = record { multicast_group_entry = Some (record { multicast_group_id = group.id; replicas = group.replicas }) }

-- an entry of this table, match and priority, and nothing else
abbrev pub bare_entry : ℕ → List FieldMatch → ℤ → TableEntry
bare_entry table matches priority = record {
  table_id = table;
  matches = matches;
  action = None;
  priority = priority;
  controller_metadata = 0;
  meter_config = false;
  counter_data = None;
  is_default_action = false;
  idle_timeout_ns = pos 0;
  time_since_last_hit = false;
}

-- the same with an action
abbrev pub plain_entry : ℕ → List FieldMatch → ℤ → TableAction → TableEntry
plain_entry table matches priority action = record (bare_entry table matches priority) { action = Some (Some action) }

-- an entry as it is answered: its fields by rising id
abbrev pub shown_entry : Info → Entry → TableEntry
shown_entry info entry =
    record (plain_entry entry.name.table (matches_in (table_of entry.name.table info) entry.name.tests) entry.name.priority (shown_entry_action info entry.action)) {
      controller_metadata = entry.controller_metadata;
    }

-- a table's default action as it is answered
abbrev pub shown_default : Info → DefaultAction → TableEntry
shown_default info default = record (plain_entry default.table [] (pos 0) (actions.Action (shown_action info default.action))) { is_default_action = true }

-- the name of an entry as it is answered: table, match and priority
abbrev pub shown_name : Info → Entry → TableEntry
shown_name info entry = bare_entry entry.name.table (matches_in (table_of entry.name.table info) entry.name.tests) entry.name.priority
