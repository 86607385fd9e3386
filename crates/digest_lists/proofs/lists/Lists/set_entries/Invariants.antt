use Rattle.std.proofs.Common.{◌≡◌, take}
use Rattle.std.specs.List.{fold}
use Rattle.digest_lists.specs.Fold.{with_entry}
use Rattle.digest_lists.proofs.lists.Lists.set_entries.Given as goal

abbrev pub invariant-loop-entry : goal.invariant-loop-entry
invariant-loop-entry l = l.self ≡ fold with_entry l.initial.self (take l.entry-index l.entries)
