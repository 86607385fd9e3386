use Rattle.std.proofs.Common.{◌≡◌, take}
use Rattle.reply_copy.proofs.bytes.copied_anys.Given as goal

abbrev pub invariant-loop-any : goal.invariant-loop-any
invariant-loop-any l = l.copy ≡ take l.any-index l.list
