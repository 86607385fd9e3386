-- Entities are read back.
use Rattle.std.proofs.Common.{◌≡◌, ℕ, ◌^◌, ◌<◌, IsTrue, All, List, [], ◌∷◌, length, Option, Some, None, refl, ap, ◌∙◌, unwrap_or}
use Rattle.std.specs.Prelude.{IfSome}
use Rattle.p4_types.specs.declared.messages.Action.{Action}
use Rattle.p4_types.specs.declared.messages.ActionProfileAction.{ActionProfileAction}
use Rattle.p4_types.specs.declared.messages.ActionProfileActionSet.{ActionProfileActionSet}
use Rattle.p4_types.specs.declared.messages.ActionProfileGroup.{ActionProfileGroup}
use Rattle.p4_types.specs.declared.messages.ActionProfileMember.{ActionProfileMember}
use Rattle.p4_types.specs.declared.messages.CounterData.{CounterData}
use Rattle.p4_types.specs.declared.messages.CounterEntry.{CounterEntry}
use Rattle.p4_types.specs.declared.messages.DigestConfig.{DigestConfig}
use Rattle.p4_types.specs.declared.messages.DigestEntry.{DigestEntry}
use Rattle.p4_types.specs.declared.messages.DirectCounterEntry.{DirectCounterEntry}
use Rattle.p4_types.specs.declared.messages.Entity.{Entity}
use Rattle.p4_types.specs.declared.messages.FieldMatchKind.{FieldMatchKind}
use Rattle.p4_types.specs.declared.messages.Index.{Index}
use Rattle.p4_types.specs.declared.messages.Member.{Member}
use Rattle.p4_types.specs.declared.messages.MulticastGroupEntry.{MulticastGroupEntry}
use Rattle.p4_types.specs.declared.messages.PacketReplicationEngineEntry.{PacketReplicationEngineEntry}
use Rattle.p4_types.specs.declared.messages.Param.{Param}
use Rattle.p4_types.specs.declared.messages.Replica.{Replica}
use Rattle.p4_types.specs.declared.messages.TableAction.{TableAction}
use Rattle.p4_types.specs.declared.messages.TableEntry.{TableEntry}
use Rattle.wire_fields.specs.Laws.{CanBeWritten}
use Rattle.wire_fields.specs.Spelling.{spelling}
use Rattle.list_types.specs.Options.{◌>>=◌}
use Rattle.wire_messages.specs.Message.{number_at}
use Rattle.wire_messages.specs.Written.{Uint32, Message, payloads, Row, row, written, rising, RowsInRange, look}
use Rattle.wire_messages.proofs.CanWrite.{rows_can_be_written}
use Rattle.wire_messages.proofs.ReadBack.{uint32_back, uint64_back, int32_back, int64_back, flag_back, bytes_back, chosen_uint32_back, choice_back}
use Rattle.p4v1_read.specs.Nested.{one_at}
use Rattle.p4v1_read.specs.Entities.{param_of, action_of, field_match_of, profile_action_of, action_set_of, counter_data_of, table_entry_of, profile_member_of, group_member_of, profile_group_of, index_of, counter_entry_of, direct_counter_entry_of, replica_of, multicast_group_of, replication_entry_of, digest_config_of, digest_entry_of, table_action_of, entity_of}
use Rattle.p4_types.specs.declared.messages.FieldMatchKind.TheVariants as kinds
use Rattle.p4_types.specs.declared.messages.TableAction.TheVariants as actions
use Rattle.p4_types.specs.declared.messages.Entity.TheVariants as entities
use Rattle.std.proofs.Common.{ℤ}
use Rattle.wire_messages.specs.Written.{IsInt32}
use Rattle.p4v1_read.specs.Entities.{exact_of, ternary_of, lpm_of, range_of, optional_of, kind_by, kind_of, table_action_by, entity_by, no_digest_config}
use Rattle.p4v1_wire.specs.EntityRows.{param_rows, action_rows, field_match_rows, profile_action_rows, action_set_rows, counter_data_rows, table_entry_rows, profile_member_rows, group_member_rows, profile_group_rows, index_rows, counter_entry_rows, direct_counter_entry_rows, replica_rows, multicast_group_rows, replication_entry_rows, digest_config_rows, digest_entry_rows, kind_rows, kind_choice_rows, table_action_rows, entity_rows, ParamInRange, ActionInRange, FieldMatchInRange, ProfileActionInRange, ActionSetInRange, CounterDataInRange, TableEntryInRange, ProfileMemberInRange, GroupMemberInRange, ProfileGroupInRange, IndexInRange, CounterEntryInRange, DirectCounterEntryInRange, DigestConfigInRange, DigestEntryInRange, ReplicaInRange, MulticastGroupInRange, ReplicationEntryInRange, KindInRange, TableActionInRange, EntityInRange}
use Rattle.p4v1_wire.specs.Rows.{fields_by}
use Rattle.p4v1_wire.specs.ReadBack.{IsReadBack, itself}
use Rattle.p4v1_wire.specs.Counted.{profile_action_counted, action_set_counted, table_action_counted, table_entry_counted, profile_member_counted, counter_entry_counted, direct_counter_entry_counted, entity_counted}
use Rattle.p4v1_wire.proofs.NestedBack.{read_from, optional_back, given_same, member_back, member_is, short_member, empty_back, all_back, all_same, or_default}

rising_param : (m : Param) → IsTrue (rising (param_rows m))
unfolding param_rows
rising_param m = refl

param_says : (m : Param) → ParamInRange m → length (spelling (fields_by param_rows m)) < 2 ^ 64 → param_of (fields_by param_rows m) ≡ Some (m)
unfolding param_of param_rows ParamInRange
param_says m fits short =
    let rows = param_rows m in
    rw (
      uint32_back 2 rows m.param_id refl refl fits.0,
      bytes_back 3 rows m.value refl refl,
    ) refl

pub param_back : IsReadBack param_of param_rows ParamInRange itself
unfolding ParamInRange
param_back m fits short = read_from param_of (param_rows m) (m) (rising_param m) fits short (param_says m fits short)

rising_action : (m : Action) → IsTrue (rising (action_rows m))
unfolding action_rows
rising_action m = refl

action_says : (m : Action) → ActionInRange m → length (spelling (fields_by action_rows m)) < 2 ^ 64 → action_of (fields_by action_rows m) ≡ Some (m)
unfolding action_of action_rows ActionInRange
action_says m fits short =
    let rows = action_rows m in
    let whole = rows_can_be_written rows refl fits.0 short in
    rw (
      uint32_back 1 rows m.action_id refl refl fits.0.0,
      all_same param_of 4 rows param_rows ParamInRange m.params refl refl whole fits.1 param_back,
    ) refl

pub action_back : IsReadBack action_of action_rows ActionInRange itself
unfolding ActionInRange
action_back m fits short = read_from action_of (action_rows m) (m) (rising_action m) fits.0 short (action_says m fits short)

exact_says : (value : List ℕ) → exact_of (fields_by kind_rows (kinds.Exact value)) ≡ Some (kinds.Exact value)
unfolding exact_of kind_rows
exact_says value = rw (bytes_back 1 (kind_rows (kinds.Exact value)) value refl refl) refl

optional_says : (value : List ℕ) → optional_of (fields_by kind_rows (kinds.Optional value)) ≡ Some (kinds.Optional value)
unfolding optional_of kind_rows
optional_says value = rw (bytes_back 1 (kind_rows (kinds.Optional value)) value refl refl) refl

ternary_says : (value mask : List ℕ) → ternary_of (fields_by kind_rows (kinds.Ternary value mask)) ≡ Some (kinds.Ternary value mask)
unfolding ternary_of kind_rows
ternary_says value mask =
    let rows = kind_rows (kinds.Ternary value mask) in
    rw (bytes_back 1 rows value refl refl, bytes_back 2 rows mask refl refl) refl

lpm_says : (value : List ℕ) (prefix_len : ℤ) → IsInt32 prefix_len → lpm_of (fields_by kind_rows (kinds.Lpm value prefix_len)) ≡ Some (kinds.Lpm value prefix_len)
unfolding lpm_of kind_rows
lpm_says value prefix_len fits =
    let rows = kind_rows (kinds.Lpm value prefix_len) in
    rw (bytes_back 1 rows value refl refl, int32_back 2 rows prefix_len refl refl fits) refl

range_says : (low high : List ℕ) → range_of (fields_by kind_rows (kinds.Range low high)) ≡ Some (kinds.Range low high)
unfolding range_of kind_rows
range_says low high =
    let rows = kind_rows (kinds.Range low high) in
    rw (bytes_back 1 rows low refl refl, bytes_back 2 rows high refl refl) refl

abbrev match_rows : ℕ → Option FieldMatchKind → List Row
match_rows id kind = row 1 (Uint32 id) ∷ kind_choice_rows kind

match_says : (id : ℕ) (kind : Option FieldMatchKind) → IfSome kind KindInRange → All CanBeWritten (written (match_rows id kind)) → kind_of (written (match_rows id kind)) ≡ Some kind
unfolding kind_of kind_by kind_choice_rows kind_rows
match_says id None fits whole = rw (choice_back (2 ∷ 3 ∷ 4 ∷ 6 ∷ 7 ∷ []) (match_rows id None) refl) refl
match_says id (Some (kinds.Exact value)) fits whole =
    let rows = match_rows id (Some (kinds.Exact value)) in
    let inner = kind_rows (kinds.Exact value) in
    let short = short_member 2 rows (written inner) refl refl whole in
    rw (choice_back (2 ∷ 3 ∷ 4 ∷ 6 ∷ 7 ∷ []) rows refl, member_is exact_of 2 rows (written inner) (kinds.Exact value) refl refl (read_from exact_of inner (kinds.Exact value) refl fits short (exact_says value))) refl
match_says id (Some (kinds.Ternary value mask)) fits whole =
    let rows = match_rows id (Some (kinds.Ternary value mask)) in
    let inner = kind_rows (kinds.Ternary value mask) in
    let short = short_member 3 rows (written inner) refl refl whole in
    rw (choice_back (2 ∷ 3 ∷ 4 ∷ 6 ∷ 7 ∷ []) rows refl, member_is ternary_of 3 rows (written inner) (kinds.Ternary value mask) refl refl (read_from ternary_of inner (kinds.Ternary value mask) refl fits short (ternary_says value mask))) refl
match_says id (Some (kinds.Lpm value prefix_len)) fits whole =
    let rows = match_rows id (Some (kinds.Lpm value prefix_len)) in
    let inner = kind_rows (kinds.Lpm value prefix_len) in
    let short = short_member 4 rows (written inner) refl refl whole in
    rw (choice_back (2 ∷ 3 ∷ 4 ∷ 6 ∷ 7 ∷ []) rows refl, member_is lpm_of 4 rows (written inner) (kinds.Lpm value prefix_len) refl refl (read_from lpm_of inner (kinds.Lpm value prefix_len) refl fits short (lpm_says value prefix_len fits.1.0))) refl
match_says id (Some (kinds.Range low high)) fits whole =
    let rows = match_rows id (Some (kinds.Range low high)) in
    let inner = kind_rows (kinds.Range low high) in
    let short = short_member 6 rows (written inner) refl refl whole in
    rw (choice_back (2 ∷ 3 ∷ 4 ∷ 6 ∷ 7 ∷ []) rows refl, member_is range_of 6 rows (written inner) (kinds.Range low high) refl refl (read_from range_of inner (kinds.Range low high) refl fits short (range_says low high))) refl
match_says id (Some (kinds.Optional value)) fits whole =
    let rows = match_rows id (Some (kinds.Optional value)) in
    let inner = kind_rows (kinds.Optional value) in
    let short = short_member 7 rows (written inner) refl refl whole in
    rw (choice_back (2 ∷ 3 ∷ 4 ∷ 6 ∷ 7 ∷ []) rows refl, member_is optional_of 7 rows (written inner) (kinds.Optional value) refl refl (read_from optional_of inner (kinds.Optional value) refl fits short (optional_says value))) refl

rising_match : (id : ℕ) (kind : Option FieldMatchKind) → IsTrue (rising (match_rows id kind))
unfolding kind_choice_rows
rising_match id None = refl
rising_match id (Some (kinds.Exact value)) = refl
rising_match id (Some (kinds.Ternary value mask)) = refl
rising_match id (Some (kinds.Lpm value prefix_len)) = refl
rising_match id (Some (kinds.Range low high)) = refl
rising_match id (Some (kinds.Optional value)) = refl

pub field_match_back : IsReadBack field_match_of field_match_rows FieldMatchInRange itself
unfolding field_match_of field_match_rows FieldMatchInRange
field_match_back m fits short =
    let rows = field_match_rows m in
    let up = rising_match m.field_id m.kind in
    let whole = rows_can_be_written rows up fits.0 short in
    read_from field_match_of rows m up fits.0 short
    (rw (uint32_back 1 rows m.field_id up refl fits.0.0, match_says m.field_id m.kind fits.1 whole) refl)

rising_profile_action : (m : ActionProfileAction) → IsTrue (rising (profile_action_rows m))
unfolding profile_action_rows
rising_profile_action m = refl

profile_action_says : (m : ActionProfileAction) → ProfileActionInRange m → length (spelling (fields_by profile_action_rows m)) < 2 ^ 64 → profile_action_of (fields_by profile_action_rows m) ≡ Some (profile_action_counted m)
unfolding profile_action_of profile_action_rows ProfileActionInRange
profile_action_says m fits short =
    let rows = profile_action_rows m in
    let whole = rows_can_be_written rows refl fits.0 short in
    rw (
      optional_back action_of 1 rows action_rows ActionInRange itself m.action refl refl whole fits.1 action_back,
      int32_back 2 rows m.weight refl refl fits.0.1.0,
      uint32_back 3 rows m.watch refl refl fits.0.1.1.0,
      bytes_back 4 rows m.watch_port refl refl,
    ) refl

pub profile_action_back : IsReadBack profile_action_of profile_action_rows ProfileActionInRange profile_action_counted
unfolding ProfileActionInRange
profile_action_back m fits short = read_from profile_action_of (profile_action_rows m) (profile_action_counted m) (rising_profile_action m) fits.0 short (profile_action_says m fits short)

rising_action_set : (m : ActionProfileActionSet) → IsTrue (rising (action_set_rows m))
unfolding action_set_rows
rising_action_set m = refl

action_set_says : (m : ActionProfileActionSet) → ActionSetInRange m → length (spelling (fields_by action_set_rows m)) < 2 ^ 64 → action_set_of (fields_by action_set_rows m) ≡ Some (action_set_counted m)
unfolding action_set_of action_set_rows ActionSetInRange
action_set_says m fits short =
    let rows = action_set_rows m in
    let whole = rows_can_be_written rows refl fits.0 short in
    rw (all_back profile_action_of 1 rows profile_action_rows ProfileActionInRange profile_action_counted m.action_profile_actions refl refl whole fits.1 profile_action_back) refl

pub action_set_back : IsReadBack action_set_of action_set_rows ActionSetInRange action_set_counted
unfolding ActionSetInRange
action_set_back m fits short = read_from action_set_of (action_set_rows m) (action_set_counted m) (rising_action_set m) fits.0 short (action_set_says m fits short)

table_action_says : (m : Option TableAction) → TableActionInRange m → All CanBeWritten (written (table_action_rows m)) → table_action_of (fields_by table_action_rows m) ≡ Some (table_action_counted m)
unfolding table_action_of table_action_by table_action_rows TableActionInRange
table_action_says None fits whole = rw (choice_back (1 ∷ 2 ∷ 3 ∷ 4 ∷ []) [] refl) refl
table_action_says (Some (actions.Action action)) fits whole =
    let rows = table_action_rows (Some (actions.Action action)) in
    rw (choice_back (1 ∷ 2 ∷ 3 ∷ 4 ∷ []) rows refl, member_back action_of 1 rows action_rows ActionInRange itself action refl refl whole fits action_back) refl
table_action_says (Some (actions.ActionProfileMemberId id)) fits whole =
    let rows = table_action_rows (Some (actions.ActionProfileMemberId id)) in
    rw (choice_back (1 ∷ 2 ∷ 3 ∷ 4 ∷ []) rows refl, chosen_uint32_back 2 rows id refl refl fits) refl
table_action_says (Some (actions.ActionProfileGroupId id)) fits whole =
    let rows = table_action_rows (Some (actions.ActionProfileGroupId id)) in
    rw (choice_back (1 ∷ 2 ∷ 3 ∷ 4 ∷ []) rows refl, chosen_uint32_back 3 rows id refl refl fits) refl
table_action_says (Some (actions.ActionProfileActionSet set)) fits whole =
    let rows = table_action_rows (Some (actions.ActionProfileActionSet set)) in
    rw (choice_back (1 ∷ 2 ∷ 3 ∷ 4 ∷ []) rows refl, member_back action_set_of 4 rows action_set_rows ActionSetInRange action_set_counted set refl refl whole fits action_set_back) refl

rising_table_action : (m : Option TableAction) → IsTrue (rising (table_action_rows m))
unfolding table_action_rows
rising_table_action None = refl
rising_table_action (Some (actions.Action action)) = refl
rising_table_action (Some (actions.ActionProfileMemberId id)) = refl
rising_table_action (Some (actions.ActionProfileGroupId id)) = refl
rising_table_action (Some (actions.ActionProfileActionSet set)) = refl

table_action_in_range : (m : Option TableAction) → TableActionInRange m → RowsInRange (table_action_rows m)
unfolding table_action_rows TableActionInRange
table_action_in_range None fits = tt
table_action_in_range (Some (actions.Action action)) fits = (tt, tt)
table_action_in_range (Some (actions.ActionProfileMemberId id)) fits = (fits, tt)
table_action_in_range (Some (actions.ActionProfileGroupId id)) fits = (fits, tt)
table_action_in_range (Some (actions.ActionProfileActionSet set)) fits = (tt, tt)

pub table_action_back : IsReadBack table_action_of table_action_rows TableActionInRange table_action_counted
table_action_back m fits short =
    let up = rising_table_action m in
    let in_range = table_action_in_range m fits in
    let whole = rows_can_be_written (table_action_rows m) up in_range short in
    read_from table_action_of (table_action_rows m) (table_action_counted m) up in_range short (table_action_says m fits whole)

rising_counter_data : (m : CounterData) → IsTrue (rising (counter_data_rows m))
unfolding counter_data_rows
rising_counter_data m = refl

counter_data_says : (m : CounterData) → CounterDataInRange m → length (spelling (fields_by counter_data_rows m)) < 2 ^ 64 → counter_data_of (fields_by counter_data_rows m) ≡ Some (m)
unfolding counter_data_of counter_data_rows CounterDataInRange
counter_data_says m fits short =
    let rows = counter_data_rows m in
    rw (
      int64_back 1 rows m.byte_count refl refl fits.0,
      int64_back 2 rows m.packet_count refl refl fits.1.0,
    ) refl

pub counter_data_back : IsReadBack counter_data_of counter_data_rows CounterDataInRange itself
unfolding CounterDataInRange
counter_data_back m fits short = read_from counter_data_of (counter_data_rows m) (m) (rising_counter_data m) fits short (counter_data_says m fits short)

rising_table_entry : (m : TableEntry) → IsTrue (rising (table_entry_rows m))
unfolding table_entry_rows
rising_table_entry m = refl

table_entry_says : (m : TableEntry) → TableEntryInRange m → length (spelling (fields_by table_entry_rows m)) < 2 ^ 64 → table_entry_of (fields_by table_entry_rows m) ≡ Some (table_entry_counted m)
unfolding table_entry_of table_entry_rows TableEntryInRange
table_entry_says m fits short =
    let rows = table_entry_rows m in
    let whole = rows_can_be_written rows refl fits.0 short in
    rw (
      uint32_back 1 rows m.table_id refl refl fits.0.0,
      all_same field_match_of 2 rows field_match_rows FieldMatchInRange m.matches refl refl whole fits.1 field_match_back,
      optional_back table_action_of 3 rows table_action_rows TableActionInRange table_action_counted m.action refl refl whole fits.2 table_action_back,
      int32_back 4 rows m.priority refl refl fits.0.1.1.1.0,
      uint64_back 5 rows m.controller_metadata refl refl,
      empty_back 6 rows m.meter_config refl refl,
      optional_back counter_data_of 7 rows counter_data_rows CounterDataInRange itself m.counter_data refl refl whole fits.3 counter_data_back,
      flag_back 8 rows m.is_default_action refl refl,
      int64_back 9 rows m.idle_timeout_ns refl refl fits.0.1.1.1.1.1.1.1.1.0,
      empty_back 10 rows m.time_since_last_hit refl refl,
    ) refl

pub table_entry_back : IsReadBack table_entry_of table_entry_rows TableEntryInRange table_entry_counted
unfolding TableEntryInRange
table_entry_back m fits short = read_from table_entry_of (table_entry_rows m) (table_entry_counted m) (rising_table_entry m) fits.0 short (table_entry_says m fits short)

rising_profile_member : (m : ActionProfileMember) → IsTrue (rising (profile_member_rows m))
unfolding profile_member_rows
rising_profile_member m = refl

profile_member_says : (m : ActionProfileMember) → ProfileMemberInRange m → length (spelling (fields_by profile_member_rows m)) < 2 ^ 64 → profile_member_of (fields_by profile_member_rows m) ≡ Some (profile_member_counted m)
unfolding profile_member_of profile_member_rows ProfileMemberInRange
profile_member_says m fits short =
    let rows = profile_member_rows m in
    let whole = rows_can_be_written rows refl fits.0 short in
    rw (
      uint32_back 1 rows m.action_profile_id refl refl fits.0.0,
      uint32_back 2 rows m.member_id refl refl fits.0.1.0,
      optional_back action_of 3 rows action_rows ActionInRange itself m.action refl refl whole fits.1 action_back,
    ) refl

pub profile_member_back : IsReadBack profile_member_of profile_member_rows ProfileMemberInRange profile_member_counted
unfolding ProfileMemberInRange
profile_member_back m fits short = read_from profile_member_of (profile_member_rows m) (profile_member_counted m) (rising_profile_member m) fits.0 short (profile_member_says m fits short)

rising_group_member : (m : Member) → IsTrue (rising (group_member_rows m))
unfolding group_member_rows
rising_group_member m = refl

group_member_says : (m : Member) → GroupMemberInRange m → length (spelling (fields_by group_member_rows m)) < 2 ^ 64 → group_member_of (fields_by group_member_rows m) ≡ Some (m)
unfolding group_member_of group_member_rows GroupMemberInRange
group_member_says m fits short =
    let rows = group_member_rows m in
    rw (
      uint32_back 1 rows m.member_id refl refl fits.0,
      int32_back 2 rows m.weight refl refl fits.1.0,
      uint32_back 3 rows m.watch refl refl fits.1.1.0,
      bytes_back 4 rows m.watch_port refl refl,
    ) refl

pub group_member_back : IsReadBack group_member_of group_member_rows GroupMemberInRange itself
unfolding GroupMemberInRange
group_member_back m fits short = read_from group_member_of (group_member_rows m) (m) (rising_group_member m) fits short (group_member_says m fits short)

rising_profile_group : (m : ActionProfileGroup) → IsTrue (rising (profile_group_rows m))
unfolding profile_group_rows
rising_profile_group m = refl

profile_group_says : (m : ActionProfileGroup) → ProfileGroupInRange m → length (spelling (fields_by profile_group_rows m)) < 2 ^ 64 → profile_group_of (fields_by profile_group_rows m) ≡ Some (m)
unfolding profile_group_of profile_group_rows ProfileGroupInRange
profile_group_says m fits short =
    let rows = profile_group_rows m in
    let whole = rows_can_be_written rows refl fits.0 short in
    rw (
      uint32_back 1 rows m.action_profile_id refl refl fits.0.0,
      uint32_back 2 rows m.group_id refl refl fits.0.1.0,
      all_same group_member_of 3 rows group_member_rows GroupMemberInRange m.members refl refl whole fits.1 group_member_back,
      int32_back 4 rows m.max_size refl refl fits.0.1.1.1.0,
    ) refl

pub profile_group_back : IsReadBack profile_group_of profile_group_rows ProfileGroupInRange itself
unfolding ProfileGroupInRange
profile_group_back m fits short = read_from profile_group_of (profile_group_rows m) (m) (rising_profile_group m) fits.0 short (profile_group_says m fits short)

rising_index : (m : Index) → IsTrue (rising (index_rows m))
unfolding index_rows
rising_index m = refl

index_says : (m : Index) → IndexInRange m → length (spelling (fields_by index_rows m)) < 2 ^ 64 → index_of (fields_by index_rows m) ≡ Some (m)
unfolding index_of index_rows IndexInRange
index_says m fits short =
    let rows = index_rows m in
    rw (int64_back 1 rows m.index refl refl fits.0) refl

pub index_back : IsReadBack index_of index_rows IndexInRange itself
unfolding IndexInRange
index_back m fits short = read_from index_of (index_rows m) (m) (rising_index m) fits short (index_says m fits short)

rising_counter_entry : (m : CounterEntry) → IsTrue (rising (counter_entry_rows m))
unfolding counter_entry_rows
rising_counter_entry m = refl

counter_entry_says : (m : CounterEntry) → CounterEntryInRange m → length (spelling (fields_by counter_entry_rows m)) < 2 ^ 64 → counter_entry_of (fields_by counter_entry_rows m) ≡ Some (counter_entry_counted m)
unfolding counter_entry_of counter_entry_rows CounterEntryInRange
counter_entry_says m fits short =
    let rows = counter_entry_rows m in
    let whole = rows_can_be_written rows refl fits.0 short in
    rw (
      uint32_back 1 rows m.counter_id refl refl fits.0.0,
      given_same index_of 2 rows index_rows IndexInRange m.index refl refl whole fits.1 index_back,
      optional_back counter_data_of 3 rows counter_data_rows CounterDataInRange itself m.content refl refl whole fits.2 counter_data_back,
    ) refl

pub counter_entry_back : IsReadBack counter_entry_of counter_entry_rows CounterEntryInRange counter_entry_counted
unfolding CounterEntryInRange
counter_entry_back m fits short = read_from counter_entry_of (counter_entry_rows m) (counter_entry_counted m) (rising_counter_entry m) fits.0 short (counter_entry_says m fits short)

rising_direct_counter_entry : (m : DirectCounterEntry) → IsTrue (rising (direct_counter_entry_rows m))
unfolding direct_counter_entry_rows
rising_direct_counter_entry m = refl

direct_counter_entry_says : (m : DirectCounterEntry) → DirectCounterEntryInRange m → length (spelling (fields_by direct_counter_entry_rows m)) < 2 ^ 64 → direct_counter_entry_of (fields_by direct_counter_entry_rows m) ≡ Some (direct_counter_entry_counted m)
unfolding direct_counter_entry_of direct_counter_entry_rows DirectCounterEntryInRange
direct_counter_entry_says m fits short =
    let rows = direct_counter_entry_rows m in
    let whole = rows_can_be_written rows refl fits.0 short in
    rw (
      optional_back table_entry_of 1 rows table_entry_rows TableEntryInRange table_entry_counted m.table_entry refl refl whole fits.1 table_entry_back,
      optional_back counter_data_of 2 rows counter_data_rows CounterDataInRange itself m.content refl refl whole fits.2 counter_data_back,
    ) refl

pub direct_counter_entry_back : IsReadBack direct_counter_entry_of direct_counter_entry_rows DirectCounterEntryInRange direct_counter_entry_counted
unfolding DirectCounterEntryInRange
direct_counter_entry_back m fits short = read_from direct_counter_entry_of (direct_counter_entry_rows m) (direct_counter_entry_counted m) (rising_direct_counter_entry m) fits.0 short (direct_counter_entry_says m fits short)

rising_replica : (m : Replica) → IsTrue (rising (replica_rows m))
unfolding replica_rows
rising_replica m = refl

replica_says : (m : Replica) → ReplicaInRange m → length (spelling (fields_by replica_rows m)) < 2 ^ 64 → replica_of (fields_by replica_rows m) ≡ Some m
unfolding replica_of replica_rows ReplicaInRange
replica_says m fits short =
    let rows = replica_rows m in
    rw (uint32_back 1 rows m.egress_port refl refl fits.0, uint32_back 2 rows m.instance refl refl fits.1.0) refl

pub replica_back : IsReadBack replica_of replica_rows ReplicaInRange itself
unfolding ReplicaInRange
replica_back m fits short = read_from replica_of (replica_rows m) (m) (rising_replica m) fits short (replica_says m fits short)

rising_multicast_group : (m : MulticastGroupEntry) → IsTrue (rising (multicast_group_rows m))
unfolding multicast_group_rows
rising_multicast_group m = refl

multicast_group_says : (m : MulticastGroupEntry) → MulticastGroupInRange m → length (spelling (fields_by multicast_group_rows m)) < 2 ^ 64 → multicast_group_of (fields_by multicast_group_rows m) ≡ Some m
unfolding multicast_group_of multicast_group_rows MulticastGroupInRange
multicast_group_says m fits short =
    let rows = multicast_group_rows m in
    let whole = rows_can_be_written rows refl fits.0 short in
    rw (
      uint32_back 1 rows m.multicast_group_id refl refl fits.0.0,
      all_same replica_of 2 rows replica_rows ReplicaInRange m.replicas refl refl whole fits.1 replica_back,
    ) refl

pub multicast_group_back : IsReadBack multicast_group_of multicast_group_rows MulticastGroupInRange itself
unfolding MulticastGroupInRange
multicast_group_back m fits short = read_from multicast_group_of (multicast_group_rows m) (m) (rising_multicast_group m) fits.0 short (multicast_group_says m fits short)

rising_replication_entry : (m : PacketReplicationEngineEntry) → IsTrue (rising (replication_entry_rows m))
unfolding replication_entry_rows
rising_replication_entry m = refl

replication_entry_says : (m : PacketReplicationEngineEntry) → ReplicationEntryInRange m → length (spelling (fields_by replication_entry_rows m)) < 2 ^ 64 → replication_entry_of (fields_by replication_entry_rows m) ≡ Some m
unfolding replication_entry_of replication_entry_rows ReplicationEntryInRange
replication_entry_says m fits short =
    let rows = replication_entry_rows m in
    let whole = rows_can_be_written rows refl fits.0 short in
    rw (given_same multicast_group_of 1 rows multicast_group_rows MulticastGroupInRange m.multicast_group_entry refl refl whole fits.1 multicast_group_back) refl

pub replication_entry_back : IsReadBack replication_entry_of replication_entry_rows ReplicationEntryInRange itself
unfolding ReplicationEntryInRange
replication_entry_back m fits short = read_from replication_entry_of (replication_entry_rows m) (m) (rising_replication_entry m) fits.0 short (replication_entry_says m fits short)

rising_digest_config : (m : DigestConfig) → IsTrue (rising (digest_config_rows m))
unfolding digest_config_rows
rising_digest_config m = refl

digest_config_says : (m : DigestConfig) → DigestConfigInRange m → length (spelling (fields_by digest_config_rows m)) < 2 ^ 64 → digest_config_of (fields_by digest_config_rows m) ≡ Some (m)
unfolding digest_config_of digest_config_rows DigestConfigInRange
digest_config_says m fits short =
    let rows = digest_config_rows m in
    rw (
      int64_back 1 rows m.max_timeout_ns refl refl fits.0,
      int32_back 2 rows m.max_list_size refl refl fits.1.0,
      int64_back 3 rows m.ack_timeout_ns refl refl fits.1.1.0,
    ) refl

pub digest_config_back : IsReadBack digest_config_of digest_config_rows DigestConfigInRange itself
unfolding DigestConfigInRange
digest_config_back m fits short = read_from digest_config_of (digest_config_rows m) (m) (rising_digest_config m) fits short (digest_config_says m fits short)

digest_config_means : (m : DigestConfig) → DigestConfigInRange m → digest_config_of (fields_by digest_config_rows m) ≡ Some m
unfolding digest_config_of digest_config_rows DigestConfigInRange
digest_config_means m fits =
    let rows = digest_config_rows m in
    rw (int64_back 1 rows m.max_timeout_ns refl refl fits.0, int32_back 2 rows m.max_list_size refl refl fits.1.0, int64_back 3 rows m.ack_timeout_ns refl refl fits.1.1.0) refl

rest_of_entry : (id : ℕ) (config : DigestConfig) (given : Option (Option DigestConfig)) → (given >>= λ config. Some (unwrap_or config no_digest_config)) ≡ Some config
    → (given >>= λ config. (let entry : DigestEntry = record { digest_id = id; config = unwrap_or config no_digest_config } in Some entry)) ≡ Some (record { digest_id = id; config = config })
rest_of_entry id config None e = absurd cc
rest_of_entry id config (Some given) e =
    let same : unwrap_or given no_digest_config ≡ config = cc in
    ap (λ (c : DigestConfig). let entry : DigestEntry = record { digest_id = id; config = c } in Some entry) same

default_config : digest_config_of [] ≡ Some no_digest_config
unfolding digest_config_of number_at
default_config = refl

-- a configuration that is left out counts as one whose numbers are all 0
digest_config_is : (n : ℕ) (rows : List Row) (m : DigestConfig) → IsTrue (rising rows) → look n rows ≡ payloads (Message (Some (fields_by digest_config_rows m))) → All CanBeWritten (written rows) → DigestConfigInRange m
    → (one_at digest_config_of n (written rows) >>= λ config. Some (unwrap_or config no_digest_config)) ≡ Some m
digest_config_is n rows m up is whole fits =
    ap (λ (o : Option (Option DigestConfig)). o >>= λ config. Some (unwrap_or config no_digest_config)) (optional_back digest_config_of n rows digest_config_rows DigestConfigInRange itself (Some m) up is whole fits digest_config_back)
    ∙ ap (λ x. Some x) (or_default digest_config_of (fields_by digest_config_rows m) m no_digest_config (digest_config_means m fits) default_config)

digest_entry_says : (m : DigestEntry) → DigestEntryInRange m → All CanBeWritten (written (digest_entry_rows m)) → digest_entry_of (fields_by digest_entry_rows m) ≡ Some m
unfolding digest_entry_of digest_entry_rows DigestEntryInRange
digest_entry_says m fits whole =
    let rows = digest_entry_rows m in
    let config = digest_config_is 2 rows m.config refl refl whole fits.1 in
    rw (uint32_back 1 rows m.digest_id refl refl fits.0.0) (rest_of_entry m.digest_id m.config (one_at digest_config_of 2 (written rows)) config)

rising_digest_entry : (m : DigestEntry) → IsTrue (rising (digest_entry_rows m))
unfolding digest_entry_rows
rising_digest_entry m = refl

pub digest_entry_back : IsReadBack digest_entry_of digest_entry_rows DigestEntryInRange itself
unfolding DigestEntryInRange
digest_entry_back m fits short =
    let up = rising_digest_entry m in
    let whole = rows_can_be_written (digest_entry_rows m) up fits.0 short in
    read_from digest_entry_of (digest_entry_rows m) m up fits.0 short (digest_entry_says m fits whole)

entity_says : (m : Entity) → EntityInRange m → All CanBeWritten (written (entity_rows m)) → entity_of (fields_by entity_rows m) ≡ Some (entity_counted m)
unfolding entity_of entity_by entity_rows EntityInRange
entity_says (entities.TableEntry m) fits whole =
    let rows = entity_rows (entities.TableEntry m) in
    rw (choice_back (1 ∷ 2 ∷ 3 ∷ 4 ∷ 5 ∷ 6 ∷ 7 ∷ 8 ∷ 9 ∷ 10 ∷ 11 ∷ 12 ∷ []) rows refl, member_back table_entry_of 2 rows table_entry_rows TableEntryInRange table_entry_counted m refl refl whole fits table_entry_back) refl
entity_says (entities.ActionProfileMember m) fits whole =
    let rows = entity_rows (entities.ActionProfileMember m) in
    rw (choice_back (1 ∷ 2 ∷ 3 ∷ 4 ∷ 5 ∷ 6 ∷ 7 ∷ 8 ∷ 9 ∷ 10 ∷ 11 ∷ 12 ∷ []) rows refl, member_back profile_member_of 3 rows profile_member_rows ProfileMemberInRange profile_member_counted m refl refl whole fits profile_member_back) refl
entity_says (entities.ActionProfileGroup m) fits whole =
    let rows = entity_rows (entities.ActionProfileGroup m) in
    rw (choice_back (1 ∷ 2 ∷ 3 ∷ 4 ∷ 5 ∷ 6 ∷ 7 ∷ 8 ∷ 9 ∷ 10 ∷ 11 ∷ 12 ∷ []) rows refl, member_back profile_group_of 4 rows profile_group_rows ProfileGroupInRange itself m refl refl whole fits profile_group_back) refl
entity_says (entities.CounterEntry m) fits whole =
    let rows = entity_rows (entities.CounterEntry m) in
    rw (choice_back (1 ∷ 2 ∷ 3 ∷ 4 ∷ 5 ∷ 6 ∷ 7 ∷ 8 ∷ 9 ∷ 10 ∷ 11 ∷ 12 ∷ []) rows refl, member_back counter_entry_of 7 rows counter_entry_rows CounterEntryInRange counter_entry_counted m refl refl whole fits counter_entry_back) refl
entity_says (entities.DirectCounterEntry m) fits whole =
    let rows = entity_rows (entities.DirectCounterEntry m) in
    rw (choice_back (1 ∷ 2 ∷ 3 ∷ 4 ∷ 5 ∷ 6 ∷ 7 ∷ 8 ∷ 9 ∷ 10 ∷ 11 ∷ 12 ∷ []) rows refl, member_back direct_counter_entry_of 8 rows direct_counter_entry_rows DirectCounterEntryInRange direct_counter_entry_counted m refl refl whole fits direct_counter_entry_back) refl
entity_says (entities.PacketReplicationEngineEntry m) fits whole =
    let rows = entity_rows (entities.PacketReplicationEngineEntry m) in
    rw (choice_back (1 ∷ 2 ∷ 3 ∷ 4 ∷ 5 ∷ 6 ∷ 7 ∷ 8 ∷ 9 ∷ 10 ∷ 11 ∷ 12 ∷ []) rows refl, member_back replication_entry_of 9 rows replication_entry_rows ReplicationEntryInRange itself m refl refl whole fits replication_entry_back) refl
entity_says (entities.DigestEntry m) fits whole =
    let rows = entity_rows (entities.DigestEntry m) in
    rw (choice_back (1 ∷ 2 ∷ 3 ∷ 4 ∷ 5 ∷ 6 ∷ 7 ∷ 8 ∷ 9 ∷ 10 ∷ 11 ∷ 12 ∷ []) rows refl, member_back digest_entry_of 12 rows digest_entry_rows DigestEntryInRange itself m refl refl whole fits digest_entry_back) refl
entity_says (entities.Other member) fits whole = rw (choice_back (1 ∷ 2 ∷ 3 ∷ 4 ∷ 5 ∷ 6 ∷ 7 ∷ 8 ∷ 9 ∷ 10 ∷ 11 ∷ 12 ∷ []) [] refl) refl

rising_entity : (m : Entity) → IsTrue (rising (entity_rows m))
unfolding entity_rows
rising_entity (entities.TableEntry m) = refl
rising_entity (entities.ActionProfileMember m) = refl
rising_entity (entities.ActionProfileGroup m) = refl
rising_entity (entities.CounterEntry m) = refl
rising_entity (entities.DirectCounterEntry m) = refl
rising_entity (entities.PacketReplicationEngineEntry m) = refl
rising_entity (entities.DigestEntry m) = refl
rising_entity (entities.Other member) = refl

entity_in_range : (m : Entity) → RowsInRange (entity_rows m)
unfolding entity_rows
entity_in_range (entities.TableEntry m) = (tt, tt)
entity_in_range (entities.ActionProfileMember m) = (tt, tt)
entity_in_range (entities.ActionProfileGroup m) = (tt, tt)
entity_in_range (entities.CounterEntry m) = (tt, tt)
entity_in_range (entities.DirectCounterEntry m) = (tt, tt)
entity_in_range (entities.PacketReplicationEngineEntry m) = (tt, tt)
entity_in_range (entities.DigestEntry m) = (tt, tt)
entity_in_range (entities.Other member) = tt

pub entity_back : IsReadBack entity_of entity_rows EntityInRange entity_counted
entity_back m fits short =
    let up = rising_entity m in
    let in_range = entity_in_range m in
    let whole = rows_can_be_written (entity_rows m) up in_range short in
    read_from entity_of (entity_rows m) (entity_counted m) up in_range short (entity_says m fits whole)
