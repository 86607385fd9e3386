use Rattle.std.proofs.Common.{◌≡◌, take}
use Rattle.reply_copy.proofs.bytes.copied_each.Given as goal

abbrev pub invariant-loop-bytes : goal.invariant-loop-bytes
invariant-loop-bytes l = l.copy ≡ take l.bytes-index l.list
