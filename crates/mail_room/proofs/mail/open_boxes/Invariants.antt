use Rattle.std.proofs.Common.{◌≡◌, replicate}
use Rattle.mail_room.specs.Boxes.{empty_box}
use Rattle.mail_room.proofs.mail.open_boxes.Given as goal

abbrev pub invariant-loop-place : goal.invariant-loop-place
invariant-loop-place g l = l.boxes.items ≡ replicate l._place empty_box
