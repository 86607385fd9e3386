use Rattle.std.proofs.Common.{◌∙◌}
use Rattle.undo_vec.proofs.Undoing.{one_fits, rest_fits, rest_back}
use Rattle.undo_vec.proofs.vector.UndoVec.undo.Goals as goal

pub undo_one-requires : goal.undo_one-requires
undo_one-requires g c = one_fits c.pop.new.self.items _ c.in-Some.edit c.loop-edit.self-inside.items.items _ c.in-Some.ensures.items c.loop-edit.invariant.0

pub loop-edit-preserved : goal.loop-edit-preserved
loop-edit-preserved g c = (
  rest_fits c.pop.new.self.items _ c.in-Some.edit c.loop-edit.self-inside.items.items c.undo_one.new.items.items _ _ c.in-Some.ensures.items c.loop-edit.invariant.0 c.undo_one.ensures.items c.undo_one.ensures.capacity,
  rest_back c.pop.new.self.items _ c.in-Some.edit c.loop-edit.self-inside.items.items c.undo_one.new.items.items c.in-Some.ensures.items c.undo_one.ensures.items ∙ c.loop-edit.invariant.1,
)
