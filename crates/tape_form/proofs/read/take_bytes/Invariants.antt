use Rattle.std.proofs.Common.{◌≡◌, ◌≤◌, ◌-◌, suc, length}
use Rattle.sw_edge.specs.Told.{Consumes}
use Rattle.tape_form.specs.declared.limits.TheConstants.{MAX_TAPE}
use Rattle.tape_form.specs.declared.read.TheConstants.{PIECE}
use Rattle.tape_form.proofs.read.take_bytes.Given as goal

abbrev pub invariant-loop-buffer : goal.invariant-loop-buffer
invariant-loop-buffer g l = record {
  consumed : Consumes (g.S.Source.left l.fn.source) (g.S.Source.left l.source) l.bytes.items;
  size : length l.bytes.items ≤ suc MAX_TAPE;
  room : length l.buffer ≡ PIECE;
  sound : g.S.Source.faults l.source ≡ g.S.Source.faults l.fn.source;
  unmet : g.S.Source.ends l.source ≡ g.S.Source.ends l.fn.source;
}

abbrev pub decreases-loop-buffer : goal.decreases-loop-buffer
decreases-loop-buffer g l = suc MAX_TAPE - length l.bytes.items
