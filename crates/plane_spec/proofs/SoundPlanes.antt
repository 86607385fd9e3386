-- Events that may follow one another keep the planes sound.
use Rattle.std.proofs.Common.{◌≡◌, ℕ, ◌+◌, ◌≤◌, Bool, true, false, cond, List, [], ◌∷◌, Option, Some, None, refl, arith}
use Rattle.p4_types.specs.declared.events.Committed.TheVariants as contents
use Rattle.p4_types.specs.declared.events.Event.TheVariants as events
use Rattle.plane_spec.specs.Bridge.{bridge_config, bridge_info}
use Rattle.plane_spec.specs.Config.{Config, Committed, Event, cells_in}
use Rattle.plane_spec.specs.Legal.{MayCommit, May, Legal}
use Rattle.plane_spec.specs.PlaneLaws.{PlanesStaySound}
use Rattle.plane_spec.specs.Planes.{ControlState, Plane, apply, applied, made_plane, saved, staged_committed, committed}
use Rattle.plane_spec.proofs.ChangedPlanes.{changes_kept}
use Rattle.plane_spec.proofs.FewReplicas.{replicas_stay_few}
use Rattle.plane_spec.proofs.KeptPlanes.{AreKept, IsKept, sound, kept_at_first, kept_saved, kept_committed}

save_kept : (c : ControlState) (config : Config) → IsKept c → c.next_slot + cells_in config ≤ c.slots → IsKept (saved c config)
save_kept c config k fits = kept_saved c.active c.staged c.next c.next_slot c.rows c.slots config k fits

staged_kept : (staged : Option Plane) (c : ControlState) → AreKept c.active staged c.next c.next_slot c.rows c.slots → IsKept c → IsKept (staged_committed staged c)
staged_kept None c k own = own
staged_kept (Some plane) c k own = kept_committed c.active plane c.next c.next_slot c.rows c.slots k

commit_kept : (content : Committed) (c : ControlState) → IsKept c → MayCommit c content → IsKept (committed c content)
commit_kept contents.Staged c k may = staged_kept c.staged c k k
commit_kept (contents.Fresh config) c k may =
    kept_committed c.active (made_plane c.next_slot config) c.next (c.next_slot + cells_in config) c.rows c.slots (save_kept c config k may.slots)

pub event_kept : (event : Event) (c : ControlState) → IsKept c → May c event → IsKept (apply c event)
event_kept (events.Arbitrate by config) c k may = k
event_kept (events.Leave caller call) c k may = k
event_kept (events.Change by change) c k may = changes_kept (change ∷ []) c k
event_kept (events.Batch by list) c k may = changes_kept list c k
event_kept (events.Save by config) c k may = save_kept c config k may.2.slots
event_kept (events.Commit by content) c k may = commit_kept content c k may.2
event_kept events.Close c k may = k

events_kept : (list : List Event) (c : ControlState) → IsKept c → Legal c list → IsKept (applied c list)
events_kept [] c k legal = k
events_kept (event ∷ list) c k legal = events_kept list (apply c event) (event_kept event c k legal.0) legal.1

no_cells : cells_in bridge_config ≡ 0
unfolding bridge_info
no_cells = refl

-- at the start there is no plane, or that of the bridge, which has no cells
pub first_kept : (bridge : Bool) (rows most : ℕ) → AreKept (cond bridge (Some (made_plane 0 bridge_config)) None) None 1 0 rows most
first_kept true rows most =
    let none : 0 + cells_in bridge_config ≡ 0 = omega (arith, no_cells) in
    let made : AreKept (Some (made_plane 0 bridge_config)) None 1 (0 + cells_in bridge_config) rows most = kept_committed None (made_plane 0 bridge_config) 1 (0 + cells_in bridge_config) rows most (kept_saved None None 1 0 rows most bridge_config (kept_at_first rows most) (omega (arith, none))) in
    rw none at made
first_kept false rows most = kept_at_first rows most

pub planes_stay_sound : PlanesStaySound
planes_stay_sound start list legal =
    let few = replicas_stay_few start list legal in
    sound _ (events_kept list _ (first_kept start.bridge start.rows start.slots) legal) few.0 few.1
