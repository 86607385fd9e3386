use Rattle.std.proofs.Common.{◌≡◌, ◌++◌}
use Rattle.std.specs.Vec.Iter.{into_iter_items}
use Rattle.mail_room.specs.AllMail.{packets_to}
use Rattle.mail_room.proofs.mail.Mail.deliver_packets.Given as goal

abbrev pub invariant-loop-packet : goal.invariant-loop-packet
invariant-loop-packet g l = (l.self ≡ packets_to l.lane l.fn.self l.yielded) × (l.yielded ++ into_iter_items l.packet-iterator ≡ l.fn.packets)
