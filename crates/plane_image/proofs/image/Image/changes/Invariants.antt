use Rattle.std.proofs.Common.{◌≡◌, take, fold}
use Rattle.plane_spec.specs.Planes.{change_applied}
use Rattle.plane_image.proofs.image.Image.changes.Given as goal

abbrev pub invariant-loop-change : goal.invariant-loop-change
invariant-loop-change l =
    (l.self.now ≡ fold change_applied l.initial.self.now (take l.change-index l.changes))
    × (l.self.before ≡ l.initial.self.before)
    × (l.self.steps ≡ l.initial.self.steps)
