-- No event changes the CPU port.
use Rattle.std.proofs.Common.{◌≡◌, Bool, true, false, List, [], ◌∷◌, fold, Option, Some, None, is_some, cond, refl, ◌∙◌}
use Rattle.p4_types.specs.declared.code.Cause.{Cause}
use Rattle.p4_types.specs.declared.events.Event.TheVariants as events
use Rattle.p4_types.specs.declared.events.Committed.TheVariants as contents
use Rattle.p4_types.specs.declared.info.Table.{Table}
use Rattle.p4_types.specs.declared.table.Change.{Change}
use Rattle.p4_types.specs.declared.table.Change.TheVariants as changes
use Rattle.p4_types.specs.declared.table.EntryChange.{EntryChange}
use Rattle.plane_spec.specs.Config.{Committed, Event}
use Rattle.plane_spec.specs.Planes.{ControlState, Plane, target, with_target, inserted_in, changed, changed_unless, changed_in, change_applied, staged_committed, committed, apply, applied}

target_by : (b : Bool) (c : ControlState) (plane : Plane) → (cond b (record c { staged = Some plane }) (record c { active = Some plane })).cpu ≡ c.cpu
target_by true c plane = refl
target_by false c plane = refl

at_target : (c : ControlState) (plane : Plane) → (with_target c plane).cpu ≡ c.cpu
at_target c plane = target_by (is_some c.staged) c plane

at_insert : (o : Option Table) (c : ControlState) (plane : Plane) (change : EntryChange) → (inserted_in o c plane change).cpu ≡ c.cpu
at_insert None c plane change = refl
at_insert (Some table) c plane change = at_target c _

at_changed : (change : Change) (c : ControlState) (plane : Plane) → (changed c plane change).cpu ≡ c.cpu
at_changed (changes.InsertEntry change) c plane = at_insert _ c plane change
at_changed (changes.ModifyEntry change) c plane = at_target c _
at_changed (changes.DeleteEntry name) c plane = at_target c _
at_changed (changes.ModifyDefault table action) c plane = at_target c _
at_changed (changes.Profile change) c plane = at_target c _
at_changed (changes.Digest change) c plane = at_target c _
at_changed (changes.Multicast change) c plane = at_target c _

at_unless : (o : Option Cause) (change : Change) (c : ControlState) (plane : Plane) → (changed_unless o c plane change).cpu ≡ c.cpu
at_unless None change c plane = at_changed change c plane
at_unless (Some cause) change c plane = refl

at_plane : (o : Option Plane) (change : Change) (c : ControlState) → (changed_in o c change).cpu ≡ c.cpu
at_plane None change c = refl
at_plane (Some plane) change c = at_unless _ change c plane

at_change : (change : Change) (c : ControlState) → (change_applied c change).cpu ≡ c.cpu
unfolding change_applied
at_change change c = at_plane (target c) change c

at_batch : (list : List Change) (c : ControlState) → (fold change_applied c list).cpu ≡ c.cpu
at_batch [] c = refl
at_batch (change ∷ list) c = at_batch list (change_applied c change) ∙ at_change change c

at_staged : (o : Option Plane) (c : ControlState) → (staged_committed o c).cpu ≡ c.cpu
at_staged None c = refl
at_staged (Some plane) c = refl

at_commit : (content : Committed) (c : ControlState) → (committed c content).cpu ≡ c.cpu
at_commit contents.Staged c = at_staged c.staged c
at_commit (contents.Fresh config) c = refl

at_event : (event : Event) (c : ControlState) → (apply c event).cpu ≡ c.cpu
at_event (events.Arbitrate by config) c = refl
at_event (events.Leave caller call) c = refl
at_event (events.Change by change) c = at_change change c
at_event (events.Batch by list) c = at_batch list c
at_event (events.Save by config) c = refl
at_event (events.Commit by content) c = at_commit content c
at_event events.Close c = refl

pub cpu_stays : (list : List Event) (c : ControlState) → (applied c list).cpu ≡ c.cpu
cpu_stays [] c = refl
cpu_stays (event ∷ list) c = cpu_stays list (apply c event) ∙ at_event event c
