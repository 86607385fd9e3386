use Rattle.std.proofs.Common.{take}
use Rattle.p4info_model.specs.Lookups.{ArePlaces}
use Rattle.bm_link.proofs.scope.places_of.Given as goal

abbrev pub invariant-loop-place : goal.invariant-loop-place
invariant-loop-place l = ArePlaces (λ action. action.id) (take l.place l.actions) l.places
