use Rattle.std.proofs.Common.{◌≡◌, take}
use Rattle.reply_copy.proofs.entries.copied_set.Given as goal

abbrev pub invariant-loop-one : goal.invariant-loop-one
invariant-loop-one l = l.actions ≡ take l.one-index l.set.action_profile_actions
