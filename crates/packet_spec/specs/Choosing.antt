-- Which action a table runs (P4Runtime 1.3.0, "Table Entry", "ActionProfileMember & ActionProfileGroup"; the choice among members: this project's profile, by 32-bit FNV-1a).
use Rattle.std.specs.Prelude.{ℕ, ◌-◌, ◌*◌, ◌%◌, ◌^◌, ◌==◌, nat_lt, bit_xor, if◌then◌else◌, Bool, false, List, [], ◌∷◌, fold, find, length, map, sum_by, slice_get, Option, Some, None}
use Rattle.std.specs.List.{flat_map}
use Rattle.bm_expr.specs.Store.{Contents}
use Rattle.bm_pipeline.specs.declared.actions.Action.{Action}
use Rattle.bm_pipeline.specs.declared.headers.FieldRef.{FieldRef}
use Rattle.bm_pipeline.specs.declared.tables.DefaultEntry.{DefaultEntry}
use Rattle.bm_pipeline.specs.declared.tables.Table.{Table}
use Rattle.bm_pipeline.specs.declared.tables.TableAction.{TableAction}
use Rattle.bm_pipeline.specs.Places.{width_of, whole_bytes}
use Rattle.p4_types.specs.declared.profiles.Group.{Group}
use Rattle.p4_types.specs.declared.profiles.Member.{Member}
use Rattle.p4_types.specs.declared.profiles.Share.{Share}
use Rattle.p4_types.specs.declared.table.ActionCall.{ActionCall}
use Rattle.p4_types.specs.declared.table.DefaultAction.{DefaultAction}
use Rattle.p4_types.specs.declared.table.Entry.{Entry}
use Rattle.p4_types.specs.declared.table.EntryAction.{EntryAction}
use Rattle.p4_types.specs.declared.table.EntryAction.TheVariants as entry_actions
use Rattle.p4_types.specs.declared.table.WeightedCall.{WeightedCall}
use Rattle.pkt_bits.specs.Field.{number_bits}
use Rattle.plane_spec.specs.Entries.{best}
use Rattle.plane_spec.specs.Planes.{Plane, default_in}
use Rattle.plane_spec.specs.Profiles.{member_of, group_of}
use Rattle.program_spec.specs.Numbers.{bytes_of}
use Rattle.program_spec.specs.Stores.{read}

-- an action that a table runs, with its data
pub record Called : Type 0 where
  pub action : TableAction
  pub args : List ℕ

-- the entry that a table takes: the best one of its key, if the P4Info names the table
abbrev pub found_by : Option ℕ → List ℕ → Plane → Option Entry
found_by None key plane = None
found_by (Some id) key plane = best id key plane.entries

-- the values of a table's key
abbrev pub key_of : Table → Contents → List ℕ
key_of table store = map (read store) table.key

-- the entry that a table takes with this store
unfoldable pub found : Plane → Table → Contents → Option Entry
found plane table store = found_by table.id (key_of table store) plane

-- whether an action of a table is that of this id in the P4Info
abbrev pub is_of_id : ℕ → Option ℕ → Bool
is_of_id id None = false
is_of_id id (Some other) = other == id

-- whether an action has just so many data
abbrev pub takes : ℕ → Option Action → Bool
takes number None = false
takes number (Some action) = length action.runtime_data == number

-- An action of a table with data. Where it takes another number of them none is run; no entry that may be written has such a one.
abbrev pub called_with : Plane → List ℕ → Option TableAction → Option Called
called_with plane args None = None
called_with plane args (Some action) =
    if takes (length args) (slice_get plane.config.program.actions action.action) then Some (record { action = action; args = args }) else None

-- the call of an action by its id in the P4Info
abbrev pub called : Plane → Table → ActionCall → Option Called
called plane table call = called_with plane call.arguments (find (λ action. is_of_id call.action action.reference) table.actions)

-- the same, where there is a call
abbrev pub called_if : Plane → Table → Option ActionCall → Option Called
called_if plane table None = None
called_if plane table (Some call) = called plane table call

-- the call of a program's own default action
abbrev pub default_called : Plane → Option DefaultEntry → Option Called
default_called plane None = None
default_called plane (Some default) = called_with plane default.action_data (Some default.action)

-- what a changed default action calls, or else the program's own
abbrev pub miss_by : Plane → Table → Option DefaultAction → Option Called
miss_by plane table None = default_called plane table.default_entry
miss_by plane table (Some changed) = called plane table changed.action

-- what a table runs on a miss; one that the P4Info does not name has the program's own default action
abbrev pub miss_called : Plane → Table → Option ℕ → Option Called
miss_called plane table None = default_called plane table.default_entry
miss_called plane table (Some id) = miss_by plane table (default_in id plane.changed)

-- a step of 32-bit FNV-1a
abbrev pub hashed : ℕ → ℕ → ℕ
hashed hash byte = (bit_xor hash byte * 16777619) % 2 ^ 32

-- 32-bit FNV-1a of bytes
unfoldable pub fnv : List ℕ → ℕ
fnv bytes = fold hashed 2166136261 bytes

-- a field as a big-endian number in whole bytes
abbrev pub field_bytes : Contents → FieldRef → List ℕ
field_bytes store field = bytes_of (number_bits (8 * whole_bytes (width_of field)) (read store field))

-- the bytes by which a member is chosen
unfoldable pub selector_bytes : Contents → List FieldRef → List ℕ
selector_bytes store fields = flat_map (field_bytes store) fields

-- the item into whose share of the weights a number falls
abbrev pub item_at : {A : Type 0} → (A → ℕ) → ℕ → List A → Option A
item_at weight number [] = None
item_at weight number (item ∷ others) = if nat_lt number (weight item) then Some item else item_at weight (number - weight item) others

-- the item that a hash chooses by its weight, in their order; without any weight none is
abbrev pub chosen : {A : Type 0} → (A → ℕ) → ℕ → List A → Option A
chosen weight hash list = if sum_by weight list == 0 then None else item_at weight (hash % sum_by weight list) list

-- the action of a member, if there is one
abbrev pub call_of : Option Member → Option ActionCall
call_of None = None
call_of (Some member) = Some member.call

-- the action of the member that a share of a group is of, if there is one
abbrev pub share_call : ℕ → Plane → Option Share → Option ActionCall
share_call profile plane None = None
share_call profile plane (Some share) = call_of (member_of profile share.member plane.members)

-- the action that a group chooses
abbrev pub group_call : Plane → ℕ → Option Group → Option ActionCall
group_call plane hash None = None
group_call plane hash (Some group) = share_call group.profile plane (chosen (λ share. share.weight) hash group.shares)

-- the action of a one-shot set, if there is one
abbrev pub weighted_call : Option WeightedCall → Option ActionCall
weighted_call None = None
weighted_call (Some action) = Some action.call

-- the action that an entry runs: its own, its member's, or the one that a hash chooses of its group or set
abbrev pub entry_call : Plane → ℕ → EntryAction → Option ActionCall
entry_call plane hash (entry_actions.Call call) = Some call
entry_call plane hash (entry_actions.Member profile id) = call_of (member_of profile id plane.members)
entry_call plane hash (entry_actions.Group profile id) = group_call plane hash (group_of profile id plane.groups)
entry_call plane hash (entry_actions.Set profile calls) = weighted_call (chosen (λ action. action.weight) hash calls)

-- what a table runs, with what it found and this store
unfoldable pub acts : Plane → Table → Option Entry → Contents → Option Called
acts plane table None store = miss_called plane table table.id
acts plane table (Some entry) store =
    called_if plane table (entry_call plane (fnv (selector_bytes store table.selector)) entry.action)
