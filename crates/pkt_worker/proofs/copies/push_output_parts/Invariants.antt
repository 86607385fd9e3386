use Rattle.std.proofs.Common.{◌≡◌, ◌++◌, map, take}
use Rattle.pkt_worker.specs.Copies.{output_of}
use Rattle.pkt_worker.proofs.copies.push_output_parts.Given as goal

abbrev pub invariant-loop-part : goal.invariant-loop-part
invariant-loop-part l = l.outputs ≡ l.initial.outputs ++ map (output_of l.bytes) (take l.part-index l.parts)
