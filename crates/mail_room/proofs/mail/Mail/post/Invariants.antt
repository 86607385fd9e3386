use Rattle.std.proofs.Common.{◌-◌, length}
use Rattle.mail_room.proofs.Posting.{IsPosted}
use Rattle.mail_room.proofs.mail.Mail.post.Given as goal

abbrev pub invariant-notices : goal.invariant-notices
invariant-notices g l = IsPosted l.caller l.told l.initial.self l.fn.notices l.self l.notices.items l.place

abbrev pub decreases-notices : goal.decreases-notices
decreases-notices g l = length l.notices.items - l.place
