use Rattle.std.proofs.Common.{◌≡◌, take}
use Rattle.reply_copy.proofs.entries.copied_matches.Given as goal

abbrev pub invariant-loop-field : goal.invariant-loop-field
invariant-loop-field l = l.copy ≡ take l.field-index l.list
