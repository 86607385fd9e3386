-- The control state of the switch, and what changes it (P4Runtime 1.3.0, "Mastership Arbitration", "Table entries", "SetForwardingPipelineConfig RPC").
use Rattle.std.specs.Prelude.{ℕ, ◌+◌, ◌-◌, ◌^◌, ◌==◌, ◌&&◌, ◌||◌, not, nat_lt, Bool, true, false, if◌then◌else◌, List, [], ◌∷◌, ◌++◌, length, sum_by, Option, Some, None, is_some, fold, take, find, filter, Result, Ok, Err}
use Rattle.std.specs.List.{list_any}
use Rattle.p4_types.specs.declared.code.Cause.{Cause}
use Rattle.p4_types.specs.declared.code.Code.{Code}
use Rattle.p4_types.specs.declared.code.Code.TheVariants as codes
use Rattle.p4_types.specs.declared.code.Rule.{Rule}
use Rattle.p4_types.specs.declared.code.Rule.TheVariants as rules
use Rattle.p4_types.specs.declared.profiles.Group.{Group}
use Rattle.p4_types.specs.declared.profiles.Member.{Member}
use Rattle.p4_types.specs.declared.profiles.ProfileChange.{ProfileChange}
use Rattle.p4_types.specs.declared.profiles.ProfileChange.TheVariants as profile_changes
use Rattle.p4_types.specs.declared.profiles.Share.{Share}
use Rattle.p4_types.specs.declared.multicast.MulticastChange.{MulticastChange}
use Rattle.p4_types.specs.declared.multicast.MulticastChange.TheVariants as multicast_changes
use Rattle.p4_types.specs.declared.multicast.MulticastGroup.{MulticastGroup}
use Rattle.p4_types.specs.declared.table.DigestChange.{DigestChange}
use Rattle.p4_types.specs.declared.table.DigestChange.TheVariants as digest_changes
use Rattle.p4_types.specs.declared.events.Committed.TheVariants as contents
use Rattle.p4_types.specs.declared.events.Event.TheVariants as events
use Rattle.p4_types.specs.declared.events.Origin.{Origin}
use Rattle.p4_types.specs.declared.events.Start.{Start}
use Rattle.p4_types.specs.declared.info.Table.{Table}
use Rattle.p4_types.specs.declared.messages.DigestEntry.{DigestEntry}
use Rattle.p4_types.specs.declared.messages.Uint128.{Uint128}
use Rattle.p4_types.specs.declared.messages.Update.{Update}
use Rattle.p4_types.specs.declared.table.ActionCall.{ActionCall}
use Rattle.p4_types.specs.declared.table.Change.{Change}
use Rattle.p4_types.specs.declared.table.Change.TheVariants as changes
use Rattle.p4_types.specs.declared.table.DefaultAction.{DefaultAction}
use Rattle.p4_types.specs.declared.table.Entry.{Entry}
use Rattle.p4_types.specs.declared.table.EntryAction.{EntryAction}
use Rattle.p4_types.specs.declared.table.EntryAction.TheVariants as entry_actions
use Rattle.p4_types.specs.declared.table.EntryChange.{EntryChange}
use Rattle.p4_types.specs.declared.table.Room.{Room}
use Rattle.role_arbiter.specs.declared.sessions.Session.{Session}
use Rattle.role_arbiter.specs.Arbitration.{arbitrated, settled, left}
use Rattle.role_arbiter.specs.Election.{election_number}
use Rattle.role_arbiter.specs.State.{RolesState, no_roles, primary_of}
use Rattle.plane_spec.specs.Bridge.{bridge_config, bridge_session}
use Rattle.plane_spec.specs.Config.{Config, Committed, Event, cells_in, own_defaults}
use Rattle.plane_spec.specs.Entries.{entry_named, is_full, absence_cause, new_entry, slots_drawn, inserted, modified, deleted}
use Rattle.plane_spec.specs.Multicast.{multicast_limit, multicast_of, multicast_rows, multicast_changed}
use Rattle.plane_spec.specs.Objects.{table_of, action_profile_of}
use Rattle.plane_spec.specs.Profiles.{member_of, group_of, member_inserted, member_modified, member_deleted, group_inserted, group_modified, group_deleted, member_uses, group_uses, set_size, set_actions, members_in, groups_in, profile_size, is_overweight, weight_of, set_weight, entry_rows, group_rows}
use Rattle.plane_spec.specs.UpdateRules.{caused, change_unless}
use Rattle.plane_spec.specs.Updates.{resolution}

-- the state of a program
pub record Plane : Type 0 where
  pub config : Config
  -- by rising table id, those of one table by rising sequence number
  pub entries : List Entry
  -- the default actions that were changed, by rising table id
  pub changed : List DefaultAction
  -- by profile and id
  pub members : List Member
  -- by profile and id
  pub groups : List Group
  -- the digests that are told of, by rising id
  pub digests : List DigestEntry
  -- the groups of ports to which packets are copied, by rising id
  pub multicast : List MulticastGroup
  -- the slot of the first cell of its indirect counters; those of the others follow, in the order of the P4Info
  pub cells : ℕ

-- the control state of the switch: what calls are answered from, and what events change
pub record ControlState : Type 0 where
  pub device : ℕ
  -- the port at which packets from and to a controller pass
  pub cpu : ℕ
  -- how many rows the entries of both planes may take together, each one
  pub rows : ℕ
  -- how many slots of counters there are; those of both planes are drawn from them
  pub slots : ℕ
  -- the live sessions, and the roles with the greatest election ids that they received
  pub roles : RolesState
  -- what packets run through, or none
  pub active : Option Plane
  -- what was saved to be committed later, or none
  pub staged : Option Plane
  -- the sequence number that the next entry draws
  pub next : ℕ
  -- the slot that the next counter draws
  pub next_slot : ℕ
  -- whether the list of events has ended
  pub closed : Bool

-- a plane of a configuration with nothing written, whose cells draw the slots from this one on
abbrev pub made_plane : ℕ → Config → Plane
made_plane slot config = record { config = config; entries = []; changed = []; members = []; groups = []; digests = []; multicast = []; cells = slot }

-- The bridge starts with an empty table and its session. It has no counters.
abbrev pub opened : Start → ControlState
opened start = record {
  device = start.device;
  cpu = start.cpu;
  rows = start.rows;
  slots = start.slots;
  roles = if start.bridge then arbitrated no_roles bridge_session else no_roles;
  active = if start.bridge then Some (made_plane 0 bridge_config) else None;
  staged = None;
  next = 1;
  next_slot = 0;
  closed = false;
}

-- the first, or else the other
abbrev pub or_else : {A : Type 0} → Option A → Option A → Option A
or_else (Some x) other = Some x
or_else None other = other

-- the plane that controllers write and read: the staged one where there is one, else the active one
abbrev pub target : ControlState → Option Plane
target c = or_else c.staged c.active

-- the session of a role's primary, if it has one
abbrev pub primary : ControlState → ℕ → Option Session
primary c role = primary_of c.roles role

-- an election id is that of the primary, if there is one, and not 0
abbrev pub is_of_primary : Option Session → Uint128 → Bool
is_of_primary None id = false
is_of_primary (Some p) id = (election_number p.election_id == election_number id) && not (election_number id == 0)

-- the ids that a session may write, or none where it may write all
abbrev pub scope_in : Option Session → Option (List ℕ)
scope_in None = None
scope_in (Some p) = p.config

-- the ids that a role's primary may write, or none where it may write all
abbrev pub scope_of : ControlState → ℕ → Option (List ℕ)
scope_of c role = scope_in (primary c role)

-- how many rows a plane takes: its entries, members, groups and multicast groups
abbrev pub rows_of : Plane → ℕ
rows_of plane =
    sum_by (λ entry. entry_rows entry.action) plane.entries + length plane.members + sum_by group_rows plane.groups + sum_by multicast_rows plane.multicast

-- the same of a plane that there may be
abbrev pub rows_in : Option Plane → ℕ
rows_in None = 0
rows_in (Some plane) = rows_of plane

-- how many rows both planes take
abbrev pub rows_used : ControlState → ℕ
rows_used c = rows_in c.active + rows_in c.staged

-- what is left to be drawn, and what is drawn next; no entry has a stamp
abbrev pub room_of : ControlState → Room
room_of c = record { rows = c.rows - rows_used c; slots = c.slots - c.next_slot; next_slot = c.next_slot; next_stamp = 0; numbers = 2 ^ 64 - 1 - c.next }

-- a cause that is asked behind another
abbrev pub or_cause : Option Cause → Option Cause → Option Cause
or_cause (Some cause) other = Some cause
or_cause None other = other

-- a cause where a rule is broken
abbrev pub caused_if : Bool → Rule → Code → Option Cause
caused_if broken rule code = if broken then caused rule code else None

-- U10: what an INSERT brings is present
abbrev pub if_present : Bool → Option Cause
if_present present = caused_if present rules.U10 codes.AlreadyExists

-- U10: what a MODIFY or a DELETE names is absent
abbrev pub if_absent : Bool → Option Cause
if_absent present = caused_if (not present) rules.U10 codes.NotFound

-- U11
abbrev pub if_in_use : Bool → Option Cause
if_in_use broken = caused_if broken rules.U11 codes.FailedPrecondition

-- U12
abbrev pub if_full : Bool → Option Cause
if_full full = caused_if full rules.U12 codes.ResourceExhausted

-- U11: the member or group that an entry names is absent, or its one-shot set would stand in a profile with members or groups
abbrev pub lacks_use : Plane → EntryAction → Bool
lacks_use plane (entry_actions.Call call) = false
lacks_use plane (entry_actions.Member profile id) = not (is_some (member_of profile id plane.members))
lacks_use plane (entry_actions.Group profile id) = not (is_some (group_of profile id plane.groups))
lacks_use plane (entry_actions.Set profile calls) = not (members_in profile plane.members + groups_in profile plane.groups == 0)

-- how many actions of a one-shot set of a profile an entry has that is to be replaced, if there is one
abbrev pub former_set : ℕ → Option Entry → ℕ
former_set profile None = 0
former_set profile (Some entry) = set_size profile entry.action

-- U12 on a one-shot set: with it, in the place of what an entry had, its profile would exceed its size, or it the limit of weights.
-- A profile of one-shot sets has no members.
abbrev pub set_exceeds : Plane → Option Entry → EntryAction → Bool
set_exceeds plane former (entry_actions.Set profile calls) =
    nat_lt (profile_size (action_profile_of profile plane.config.info) + former_set profile former) (set_actions profile plane.entries + length calls)
    || is_overweight (action_profile_of profile plane.config.info) (set_weight calls)
set_exceeds plane former _ = false

-- U10 to U12: why an INSERT of an entry is refused
abbrev pub insert_cause_in : Option Table → Room → Plane → EntryChange → Option Cause
insert_cause_in None room plane change = caused rules.U3 codes.NotFound
insert_cause_in (Some table) room plane change =
    or_cause (if_present (is_some (entry_named change.name plane.entries)))
    (or_cause (if_in_use (lacks_use plane change.action))
    (if_full (is_full table (entry_rows change.action) room plane.entries || set_exceeds plane None change.action)))

-- U10 to U12: why a MODIFY of an entry is refused, where there is one of that name. What stands there after it counts.
abbrev pub modify_cause_in : Option Entry → Room → Plane → EntryChange → Option Cause
modify_cause_in None room plane change = if_absent false
modify_cause_in (Some former) room plane change =
    or_cause (if_in_use (lacks_use plane change.action))
    (if_full (nat_lt (room.rows + entry_rows former.action) (entry_rows change.action) || set_exceeds plane (Some former) change.action))

-- U11: a member that a group names is absent
abbrev pub lacks_member : ℕ → List Member → List Share → Bool
lacks_member profile members shares = list_any (λ share. not (is_some (member_of profile share.member members))) shares

-- U10 to U12: why an INSERT of a member is refused
abbrev pub member_insert_cause : Room → Plane → Member → Option Cause
member_insert_cause room plane member =
    or_cause (if_present (is_some (member_of member.profile member.id plane.members)))
    (or_cause (if_in_use (not (set_actions member.profile plane.entries == 0)))
    (if_full (nat_lt (profile_size (action_profile_of member.profile plane.config.info)) (members_in member.profile plane.members + 1) || nat_lt room.rows 1)))

-- U10 and U11: why a DELETE of a member is refused
abbrev pub member_delete_cause : Plane → ℕ → ℕ → Option Cause
member_delete_cause plane profile id =
    or_cause (if_absent (is_some (member_of profile id plane.members))) (if_in_use (not (member_uses profile id plane.entries plane.groups == 0)))

-- U10 to U12: why an INSERT of a group is refused
abbrev pub group_insert_cause : Room → Plane → Group → Option Cause
group_insert_cause room plane group =
    or_cause (if_present (is_some (group_of group.profile group.id plane.groups)))
    (or_cause (if_in_use (lacks_member group.profile plane.members group.shares || not (set_actions group.profile plane.entries == 0)))
    (if_full (is_overweight (action_profile_of group.profile plane.config.info) (weight_of group.shares) || nat_lt room.rows (group_rows group))))

-- U10 to U12: why a MODIFY of a group is refused, where there is one of that id. What stands there after it counts.
abbrev pub group_modify_cause : Option Group → Room → Plane → Group → Option Cause
group_modify_cause None room plane group = if_absent false
group_modify_cause (Some former) room plane group =
    or_cause (if_in_use (lacks_member group.profile plane.members group.shares))
    (if_full (is_overweight (action_profile_of group.profile plane.config.info) (weight_of group.shares) || nat_lt (room.rows + group_rows former) (group_rows group)))

-- U10 and U11: why a DELETE of a group is refused
abbrev pub group_delete_cause : Plane → ℕ → ℕ → Option Cause
group_delete_cause plane profile id =
    or_cause (if_absent (is_some (group_of profile id plane.groups))) (if_in_use (not (group_uses profile id plane.entries == 0)))

-- U10 to U12: why a change of a member or a group is refused
abbrev pub profile_cause : Room → Plane → ProfileChange → Option Cause
profile_cause room plane (profile_changes.InsertMember member) = member_insert_cause room plane member
profile_cause room plane (profile_changes.ModifyMember member) = if_absent (is_some (member_of member.profile member.id plane.members))
profile_cause room plane (profile_changes.DeleteMember profile id) = member_delete_cause plane profile id
profile_cause room plane (profile_changes.InsertGroup group) = group_insert_cause room plane group
profile_cause room plane (profile_changes.ModifyGroup group) = group_modify_cause (group_of group.profile group.id plane.groups) room plane group
profile_cause room plane (profile_changes.DeleteGroup profile id) = group_delete_cause plane profile id

-- the entry of a digest, if it has one
abbrev pub digest_in : ℕ → List DigestEntry → Option DigestEntry
digest_in digest entries = find (λ entry. entry.digest_id == digest) entries

-- U10: why a change of a digest entry is refused
abbrev pub digest_cause_in : List DigestEntry → DigestChange → Option Cause
digest_cause_in entries (digest_changes.Insert entry) = if_present (is_some (digest_in entry.digest_id entries))
digest_cause_in entries (digest_changes.Modify entry) = if_absent (is_some (digest_in entry.digest_id entries))
digest_cause_in entries (digest_changes.Delete digest) = if_absent (is_some (digest_in digest entries))

-- U10 and U12: why an INSERT of a multicast group is refused
abbrev pub multicast_insert_cause : Room → List MulticastGroup → MulticastGroup → Option Cause
multicast_insert_cause room groups group =
    or_cause (if_present (is_some (multicast_of group.id groups))) (if_full (nat_lt multicast_limit (length groups + 1) || nat_lt room.rows (multicast_rows group)))

-- U10 and U12: why a MODIFY of a multicast group is refused, where there is one of that id. What stands there after it counts.
abbrev pub multicast_modify_cause : Option MulticastGroup → Room → MulticastGroup → Option Cause
multicast_modify_cause None room group = if_absent false
multicast_modify_cause (Some former) room group = if_full (nat_lt (room.rows + multicast_rows former) (multicast_rows group))

-- U10 and U12: why a change of a multicast group is refused. One that entries choose may go.
abbrev pub multicast_cause_in : Room → List MulticastGroup → MulticastChange → Option Cause
multicast_cause_in room groups (multicast_changes.Insert group) = multicast_insert_cause room groups group
multicast_cause_in room groups (multicast_changes.Modify group) = multicast_modify_cause (multicast_of group.id groups) room group
multicast_cause_in room groups (multicast_changes.Delete id) = if_absent (is_some (multicast_of id groups))

-- U10 to U12: why a change is refused in the state as it is. A default entry counts as present.
abbrev pub change_cause : Room → Plane → Change → Option Cause
change_cause room plane (changes.InsertEntry change) = insert_cause_in (table_of change.name.table plane.config.info) room plane change
change_cause room plane (changes.ModifyEntry change) = modify_cause_in (entry_named change.name plane.entries) room plane change
change_cause room plane (changes.DeleteEntry name) = absence_cause name plane.entries
change_cause room plane (changes.ModifyDefault table action) = None
change_cause room plane (changes.Profile change) = profile_cause room plane change
change_cause room plane (changes.Digest change) = digest_cause_in plane.digests change
change_cause room plane (changes.Multicast change) = multicast_cause_in room plane.multicast change

-- why a change of the target plane is refused; without a plane no table is known
abbrev pub cause_in : Option Plane → Room → Change → Option Cause
cause_in None room change = caused rules.U3 codes.NotFound
cause_in (Some plane) room change = change_cause room plane change

-- a changed default action as a list, or none
abbrev pub as_default : ℕ → Option ActionCall → List DefaultAction
as_default table None = []
as_default table (Some action) = (record { table = table; action = action }) ∷ []

-- a table's changed default action, or the program's again
abbrev pub with_default : ℕ → Option ActionCall → List DefaultAction → List DefaultAction
with_default table action defaults = filter (λ d. nat_lt d.table table) defaults ++ as_default table action ++ filter (λ d. nat_lt table d.table) defaults

-- the default action of a table among these, if there is one
abbrev pub default_in : ℕ → List DefaultAction → Option DefaultAction
default_in table defaults = find (λ d. d.table == table) defaults

-- the default entry of a table that a Read shows: the changed one, else the program's own, if it has one that the P4Info names
abbrev pub default_entry : Plane → ℕ → Option DefaultAction
default_entry plane table = or_else (default_in table plane.changed) (default_in table (own_defaults plane.config.program))

-- with another plane in the place of the target
abbrev pub with_target : ControlState → Plane → ControlState
with_target c plane = if is_some c.staged then record c { staged = Some plane } else record c { active = Some plane }

-- with other entries in the target plane
abbrev pub with_entries : ControlState → Plane → List Entry → ControlState
with_entries c plane entries = with_target c (record plane { entries = entries })

-- with an entry more, and the numbers that it draws
abbrev pub inserted_in : Option Table → ControlState → Plane → EntryChange → ControlState
inserted_in None c plane change = c
inserted_in (Some table) c plane change =
    record (with_entries c plane (inserted (new_entry table (room_of c) change) plane.entries)) { next = c.next + 1; next_slot = c.next_slot + slots_drawn table }

-- a plane after a change of a member or a group
abbrev pub profile_changed : Plane → ProfileChange → Plane
profile_changed plane (profile_changes.InsertMember member) = record plane { members = member_inserted member plane.members }
profile_changed plane (profile_changes.ModifyMember member) = record plane { members = member_modified member plane.members }
profile_changed plane (profile_changes.DeleteMember profile id) = record plane { members = member_deleted profile id plane.members }
profile_changed plane (profile_changes.InsertGroup group) = record plane { groups = group_inserted group plane.groups }
profile_changed plane (profile_changes.ModifyGroup group) = record plane { groups = group_modified group plane.groups }
profile_changed plane (profile_changes.DeleteGroup profile id) = record plane { groups = group_deleted profile id plane.groups }

-- a digest's entry in the place of one that it had, if it had one; they stand by rising id
abbrev pub with_digest : DigestEntry → List DigestEntry → List DigestEntry
with_digest entry entries = filter (λ other. nat_lt other.digest_id entry.digest_id) entries ++ entry ∷ filter (λ other. nat_lt entry.digest_id other.digest_id) entries

-- the digest entries after a change of one
abbrev pub digests_changed : List DigestEntry → DigestChange → List DigestEntry
digests_changed entries (digest_changes.Insert entry) = with_digest entry entries
digests_changed entries (digest_changes.Modify entry) = with_digest entry entries
digests_changed entries (digest_changes.Delete digest) = filter (λ other. not (other.digest_id == digest)) entries

-- the state after a change of the target plane that is not refused
abbrev pub changed : ControlState → Plane → Change → ControlState
changed c plane (changes.InsertEntry change) = inserted_in (table_of change.name.table plane.config.info) c plane change
changed c plane (changes.ModifyEntry change) = with_entries c plane (modified change plane.entries)
changed c plane (changes.DeleteEntry name) = with_entries c plane (deleted name plane.entries)
changed c plane (changes.ModifyDefault table action) = with_target c (record plane { changed = with_default table action plane.changed })
changed c plane (changes.Profile change) = with_target c (profile_changed plane change)
changed c plane (changes.Digest change) = with_target c (record plane { digests = digests_changed plane.digests change })
changed c plane (changes.Multicast change) = with_target c (record plane { multicast = multicast_changed plane.multicast change })

-- the state after a change, which stays where there is a cause to refuse it
abbrev pub changed_unless : Option Cause → ControlState → Plane → Change → ControlState
changed_unless None c plane change = changed c plane change
changed_unless (Some cause) c plane change = c

-- the same, which stays too where there is no plane
abbrev pub changed_in : Option Plane → ControlState → Change → ControlState
changed_in None c change = c
changed_in (Some plane) c change = changed_unless (change_cause (room_of c) plane change) c plane change

-- the state after a change of the target plane; one that cannot take effect leaves it
unfoldable pub change_applied : ControlState → Change → ControlState
change_applied c change = changed_in (target c) c change

-- the session that an arbitration makes, with a configuration or without
abbrev pub session_by : Origin → Option (List ℕ) → Session
session_by by config = record { caller = by.caller; role = by.role; election_id = by.election_id; config = config }

-- with other roles
abbrev pub with_roles : ControlState → RolesState → ControlState
with_roles c roles = record c { roles = roles }

-- a plane of a configuration is staged, in the place of one that was
abbrev pub saved : ControlState → Config → ControlState
saved c config = record c { staged = Some (made_plane c.next_slot config); next_slot = c.next_slot + cells_in config }

-- the staged plane becomes the active one; without one nothing changes
abbrev pub staged_committed : Option Plane → ControlState → ControlState
staged_committed None c = c
staged_committed (Some plane) c = record c { active = Some plane; staged = None }

-- a plane becomes the active one, and none is staged
abbrev pub committed : ControlState → Committed → ControlState
committed c contents.Staged = staged_committed c.staged c
committed c (contents.Fresh config) = record c { active = Some (made_plane c.next_slot config); staged = None; next_slot = c.next_slot + cells_in config }

-- the state after an event; one that cannot take effect leaves it
abbrev pub apply : ControlState → Event → ControlState
apply c (events.Arbitrate by config) = with_roles c (settled c.roles (session_by by config))
apply c (events.Leave caller call) = with_roles c (left c.roles caller)
apply c (events.Change by change) = change_applied c change
apply c (events.Batch by list) = fold change_applied c list
apply c (events.Save by config) = saved c config
apply c (events.Commit by content) = committed c content
apply c events.Close = record c { closed = true }

-- the state after events in order
abbrev pub applied : ControlState → List Event → ControlState
applied c list = fold apply c list

-- what an update does: it changes something, or breaks a rule
abbrev pub checked : Room → Plane → Result Change Cause → Result Change Cause
checked room plane (Err cause) = Err cause
checked room plane (Ok change) = change_unless (change_cause room plane change) change

-- what an update does to a plane, or why it is refused; without a plane no table is known
abbrev pub outcome_in : Option Plane → ControlState → ℕ → Update → Result Change Cause
outcome_in None c role update = Err (record { rule = rules.U3; code = codes.NotFound })
outcome_in (Some plane) c role update = checked (room_of c) plane (resolution plane.config.info (scope_of c role) update)

-- what an update of a role's primary does in this state: the first rule of U1 to U12 that it breaks, or its change
unfoldable pub outcome : ControlState → ℕ → Update → Result Change Cause
outcome c role update = outcome_in (target c) c role update

-- the state after an update: one that fails leaves it
abbrev pub state_after : ControlState → Result Change Cause → ControlState
state_after c (Ok change) = change_applied c change
state_after c (Err cause) = c

-- what each update of a list does in the state that the earlier ones left
abbrev pub outcomes : ControlState → ℕ → List Update → List (Result Change Cause)
outcomes c role [] = []
outcomes c role (update ∷ updates) = outcome c role update ∷ outcomes (state_after c (outcome c role update)) role updates

-- the state after the first n steps of the list; Close is none, and comes last
abbrev pub after : Start → List Event → ℕ → ControlState
after start list n = applied (opened start) (take n list)
