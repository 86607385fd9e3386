use Rattle.std.proofs.Common.{◌≡◌, take}
use Rattle.reply_copy.proofs.entries.copied_params.Given as goal

abbrev pub invariant-loop-param : goal.invariant-loop-param
invariant-loop-param l = l.copy ≡ take l.param-index l.list
