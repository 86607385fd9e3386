use Rattle.std.proofs.Common.{take}
use Rattle.p4info_model.specs.Lookups.{ArePlaces}
use Rattle.p4info_model.proofs.places.places_of.Given as goal

abbrev pub invariant-loop-place : goal.invariant-loop-place
invariant-loop-place g l = ArePlaces g.T.Identified.identity (take l.place l.objects) l.places
