-- The events of a call lead to what it changed.
use Rattle.std.proofs.Common.{◌≡◌, Bool, true, false, cond, List, [], ◌∷◌, map, fold, Result, Ok, Err, if◌then◌else◌, refl, ◌∙◌, sym, subst}
use Rattle.std.specs.List.{filter_map}
use Rattle.std.specs.Result.{result_ok}
use Rattle.p4_types.specs.declared.code.Cause.{Cause}
use Rattle.p4_types.specs.declared.events.Event.TheVariants as events
use Rattle.p4_types.specs.declared.events.Origin.{Origin}
use Rattle.p4_types.specs.declared.table.Change.{Change}
use Rattle.plane_spec.specs.Config.{Event}
use Rattle.plane_spec.specs.Planes.{ControlState, change_applied, applied, state_after}
use Rattle.switch_spec.specs.Answer.{has_failed, batch, continued, all_or_nothing}
use Rattle.ctl_core.specs.Prepared.{Made}

-- the changes of the outcomes, in turn
changes_applied : (list : List (Result Change Cause)) (c : ControlState) → fold state_after c list ≡ fold change_applied c (filter_map result_ok list)
changes_applied [] c = refl
changes_applied (Ok change ∷ list) c = changes_applied list (change_applied c change)
changes_applied (Err cause ∷ list) c = changes_applied list c

each_applied : (by : Origin) (list : List Change) (c : ControlState) → applied c (map (events.Change by) list) ≡ fold change_applied c list
each_applied by [] c = refl
each_applied by (change ∷ list) c = each_applied by list (change_applied c change)

batch_applied : (by : Origin) (list : List Change) (c : ControlState) → applied c (batch by list) ≡ fold change_applied c list
batch_applied by [] c = refl
batch_applied by (change ∷ list) c = refl

-- there are no events, or they lead to what was changed
made_by : (list : List Event) (c d : ControlState) → d ≡ applied c list → Made c d list
made_by [] c d is = tt
made_by (event ∷ list) c d is = is

-- where a batch fails there are none
atomic_made : (b : Bool) (by : Origin) (list : List (Result Change Cause)) (c d : ControlState) → d ≡ fold state_after c list → Made c d (cond b [] (batch by (filter_map result_ok list)))
atomic_made true by list c d h = tt
atomic_made false by list c d h = made_by (batch by (filter_map result_ok list)) c d (h ∙ changes_applied list c ∙ sym (batch_applied by (filter_map result_ok list) c))

continued_made : (by : Origin) (list : List (Result Change Cause)) (c d : ControlState) → d ≡ fold state_after c list → Made c d (map (events.Change by) (filter_map result_ok list))
continued_made by list c d h = made_by (map (events.Change by) (filter_map result_ok list)) c d (h ∙ changes_applied list c ∙ sym (each_applied by (filter_map result_ok list) c))

either_made : (b : Bool) (by : Origin) (list : List (Result Change Cause)) (c d : ControlState) → d ≡ fold state_after c list → Made c d (if b then all_or_nothing by list else continued by list).events
either_made true by list c d h = atomic_made (has_failed list) by list c d h
either_made false by list c d h = continued_made by list c d h

-- what the updates of a Write changed are its events, or it has none
pub write_made : (atomic : Bool) (by : Origin) (list : List (Result Change Cause)) (c d : ControlState) (made : List Event) → made ≡ (if atomic then all_or_nothing by list else continued by list).events → d ≡ fold state_after c list → Made c d made
write_made atomic by list c d made is h = subst (λ (m : List Event). Made c d m) (sym is) (either_made atomic by list c d h)

-- what is made is applied, where there are events
pub made_applied : (list : List Event) (c d : ControlState) → Made c d list → (list ≡ [] → ⊥) → d ≡ applied c list
made_applied [] c d made some = absurd (some refl)
made_applied (event ∷ list) c d made some = made

-- the same from another state that is equal
pub made_before : (b c d : ControlState) (list : List Event) → b ≡ c → Made c d list → Made b d list
made_before b c d list is made = subst (λ (x : ControlState). Made x d list) (sym is) made
