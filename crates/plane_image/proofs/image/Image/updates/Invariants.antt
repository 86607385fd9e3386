use Rattle.std.proofs.Common.{◌≡◌, ◌++◌, drop, fold}
use Rattle.plane_spec.specs.Planes.{scope_of, outcomes, state_after}
use Rattle.plane_image.proofs.image.Image.updates.Given as goal

abbrev pub invariant-loop-update : goal.invariant-loop-update
invariant-loop-update l =
    (l.list ++ outcomes l.self.now l.scope.role (drop l.update-index l.updates) ≡ outcomes l.initial.self.now l.scope.role l.updates)
    × (l.self.now ≡ fold state_after l.initial.self.now l.list)
    × (l.self.before ≡ l.initial.self.before)
    × (l.self.steps ≡ l.initial.self.steps)
    × (l.scope.ids ≡ scope_of l.self.now l.scope.role)
