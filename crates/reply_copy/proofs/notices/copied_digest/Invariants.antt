use Rattle.std.proofs.Common.{◌≡◌, take}
use Rattle.reply_copy.proofs.notices.copied_digest.Given as goal

abbrev pub invariant-loop-data : goal.invariant-loop-data
invariant-loop-data l = l.content ≡ take l.data-index l.digest.content
