use Rattle.std.proofs.Common.{◌≡◌, vec_capacity, length}
use Rattle.undo_vec.specs.Undo.{backs, CanUndo}
use Rattle.undo_vec.proofs.vector.UndoVec.undo.Given as goal

abbrev pub invariant-loop-edit : goal.invariant-loop-edit
invariant-loop-edit g l =
    let v = l.self-inside in
    CanUndo v.log.items v.items.items (vec_capacity v.items) × (backs v.log.items v.items.items ≡ l.fn.self.before)

abbrev pub decreases-loop-edit : goal.decreases-loop-edit
decreases-loop-edit g l = length l.self-inside.log.items
