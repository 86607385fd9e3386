-- Through any events that may follow one another each plane's configuration is valid.
use Rattle.std.proofs.Common.{◌≡◌, ℕ, zero, suc, Bool, true, false, cond, List, [], ◌∷◌, take, fold, Option, Some, None, IfSome, is_some}
use Rattle.p4_types.specs.declared.code.Cause.{Cause}
use Rattle.p4_types.specs.declared.events.Committed.TheVariants as contents
use Rattle.p4_types.specs.declared.events.Event.TheVariants as events
use Rattle.p4_types.specs.declared.info.Table.{Table}
use Rattle.p4_types.specs.declared.profiles.ProfileChange.{ProfileChange}
use Rattle.p4_types.specs.declared.profiles.ProfileChange.TheVariants as profile_changes
use Rattle.p4_types.specs.declared.table.Change.{Change}
use Rattle.p4_types.specs.declared.table.Change.TheVariants as changes
use Rattle.p4_types.specs.declared.table.EntryChange.{EntryChange}
use Rattle.plane_spec.proofs.ValidBridge.{bridge_is_valid}
use Rattle.plane_spec.specs.Bridge.{bridge_config}
use Rattle.plane_spec.specs.Config.{Committed, Event}
use Rattle.plane_spec.specs.Legal.{MayCommit, May, Legal}
use Rattle.plane_spec.specs.Objects.{table_of}
use Rattle.plane_spec.specs.Planes.{ControlState, Plane, opened, or_else, target, with_target, inserted_in, profile_changed, changed, changed_unless, changed_in, change_applied, made_plane, staged_committed, committed, apply, applied}
use Rattle.run_counts.specs.Hits.{HasValid, ConfigsStayValid}

-- both planes have valid configurations, where they are there
record AreValid (active staged : Option Plane) : Type 0 where
  in_active : IfSome active HasValid
  in_staged : IfSome staged HasValid

abbrev IsValidControl : ControlState → Type 0
IsValidControl c = AreValid c.active c.staged

-- ---- A change

either_valid : (active staged : Option Plane) → AreValid active staged → IfSome (or_else staged active) HasValid
either_valid active None h = h.in_active
either_valid active (Some plane) h = h.in_staged

put_valid : (b : Bool) (c : ControlState) (plane : Plane) → IsValidControl c → HasValid plane → IsValidControl (cond b (record c { staged = Some plane }) (record c { active = Some plane }))
put_valid true c plane h own = record { in_active = h.in_active; in_staged = own }
put_valid false c plane h own = record { in_active = own; in_staged = h.in_staged }

target_valid : (c : ControlState) (plane : Plane) → IsValidControl c → HasValid plane → IsValidControl (with_target c plane)
target_valid c plane h own = put_valid (is_some c.staged) c plane h own

inserted_valid : (o : Option Table) (c : ControlState) (plane : Plane) (change : EntryChange) → IsValidControl c → HasValid plane → IsValidControl (inserted_in o c plane change)
inserted_valid None c plane change h own = h
inserted_valid (Some table) c plane change h own = put_valid (is_some c.staged) c _ h own

profile_valid : (change : ProfileChange) (plane : Plane) → HasValid plane → HasValid (profile_changed plane change)
profile_valid (profile_changes.InsertMember member) plane own = own
profile_valid (profile_changes.ModifyMember member) plane own = own
profile_valid (profile_changes.DeleteMember profile id) plane own = own
profile_valid (profile_changes.InsertGroup group) plane own = own
profile_valid (profile_changes.ModifyGroup group) plane own = own
profile_valid (profile_changes.DeleteGroup profile id) plane own = own

changed_valid : (change : Change) (c : ControlState) (plane : Plane) → IsValidControl c → HasValid plane → IsValidControl (changed c plane change)
changed_valid (changes.InsertEntry change) c plane h own = inserted_valid (table_of change.name.table plane.config.info) c plane change h own
changed_valid (changes.ModifyEntry change) c plane h own = target_valid c _ h own
changed_valid (changes.DeleteEntry name) c plane h own = target_valid c _ h own
changed_valid (changes.ModifyDefault table action) c plane h own = target_valid c _ h own
changed_valid (changes.Profile change) c plane h own = target_valid c _ h (profile_valid change plane own)
changed_valid (changes.Digest change) c plane h own = target_valid c _ h own
changed_valid (changes.Multicast change) c plane h own = target_valid c _ h own

unless_valid : (o : Option Cause) (change : Change) (c : ControlState) (plane : Plane) → IsValidControl c → HasValid plane → IsValidControl (changed_unless o c plane change)
unless_valid None change c plane h own = changed_valid change c plane h own
unless_valid (Some cause) change c plane h own = h

in_valid : (o : Option Plane) (change : Change) (c : ControlState) → IsValidControl c → IfSome o HasValid → IsValidControl (changed_in o c change)
in_valid None change c h own = h
in_valid (Some plane) change c h own = unless_valid _ change c plane h own

change_valid : (change : Change) (c : ControlState) → IsValidControl c → IsValidControl (change_applied c change)
unfolding change_applied
change_valid change c h = in_valid (target c) change c h (either_valid c.active c.staged h)

changes_valid : (list : List Change) (c : ControlState) → IsValidControl c → IsValidControl (fold change_applied c list)
changes_valid [] c h = h
changes_valid (change ∷ list) c h = changes_valid list (change_applied c change) (change_valid change c h)

-- ---- An event

staged_valid : (o : Option Plane) (c : ControlState) → IsValidControl c → IfSome o HasValid → IsValidControl (staged_committed o c)
staged_valid None c h own = h
staged_valid (Some plane) c h own = record { in_active = own; in_staged = tt }

commit_valid : (content : Committed) (c : ControlState) → IsValidControl c → MayCommit c content → IsValidControl (committed c content)
commit_valid contents.Staged c h may = staged_valid c.staged c h h.in_staged
commit_valid (contents.Fresh config) c h may = record { in_active = may.valid; in_staged = tt }

event_valid : (event : Event) (c : ControlState) → IsValidControl c → May c event → IsValidControl (apply c event)
event_valid (events.Arbitrate by config) c h may = h
event_valid (events.Leave caller call) c h may = h
event_valid (events.Change by change) c h may = change_valid change c h
event_valid (events.Batch by list) c h may = changes_valid list c h
event_valid (events.Save by config) c h may = record { in_active = h.in_active; in_staged = may.2.valid }
event_valid (events.Commit by content) c h may = commit_valid content c h may.2
event_valid events.Close c h may = h

-- behind the first events of a list
valid_after : (list : List Event) (n : ℕ) (c : ControlState) → IsValidControl c → Legal c list → IsValidControl (applied c (take n list))
valid_after list zero c h legal = h
valid_after [] (suc n) c h legal = h
valid_after (event ∷ list) (suc n) c h legal = valid_after list n (apply c event) (event_valid event c h legal.0) legal.1

-- at the start there is no plane, or that of the bridge
first_valid : (bridge : Bool) → IfSome (cond bridge (Some (made_plane 0 bridge_config)) None) HasValid
first_valid true = record { program = bridge_is_valid }
first_valid false = tt

pub configs_stay_valid : ConfigsStayValid
configs_stay_valid start list n legal = (valid_after list n (opened start) (record { in_active = first_valid start.bridge; in_staged = tt }) legal).in_active
