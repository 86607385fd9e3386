use Rattle.std.proofs.Common.{◌≡◌, ◌++◌, map, take}
use Rattle.pkt_worker.specs.Copies.{packet_in_of}
use Rattle.pkt_worker.proofs.copies.push_packet_in_parts.Given as goal

abbrev pub invariant-loop-part : goal.invariant-loop-part
invariant-loop-part l = l.packets ≡ l.initial.packets ++ map (packet_in_of l.bytes l.metadata) (take l.part-index l.parts)
