use Rattle.std.proofs.Common.{◌-◌}
use Rattle.tape_spec.specs.Reading.{items_at}
use Rattle.tape_spec.specs.Items.{no_item_lanes}
use Rattle.tape_form.specs.Calls.{lanes_of}
use Rattle.tape_form.proofs.Loop.{SoFar}
use Rattle.tape_form.proofs.parse.items_at.Given as goal

abbrev pub invariant-loop : goal.invariant-loop
invariant-loop l = SoFar (λ x. x.items) l.items (items_at (l.limit - l.counter) (lanes_of l.lanes) l.rest) (items_at l.limit no_item_lanes l.bytes)
