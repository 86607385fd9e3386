use Rattle.std.proofs.Common.{◌≡◌, take}
use Rattle.reply_copy.proofs.notices.copied_notices.Given as goal

abbrev pub invariant-loop-notice : goal.invariant-loop-notice
invariant-loop-notice l = l.copy ≡ take l.notice-index l.list
