use Rattle.std.proofs.Common.{◌≡◌, map, take}
use Rattle.match_index.specs.Cuts.{cut_of}
use Rattle.match_index.proofs.cuts.cuts_of.Given as goal

abbrev pub invariant-loop-test : goal.invariant-loop-test
invariant-loop-test l = l.cuts.items ≡ map cut_of (take l.test-index l.tests)
