use Rattle.std.proofs.Common.{◌≡◌, take}
use Rattle.reply_copy.proofs.bytes.copied_metadata.Given as goal

abbrev pub invariant-loop-one : goal.invariant-loop-one
invariant-loop-one l = l.copy ≡ take l.one-index l.list
