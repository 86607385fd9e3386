use Rattle.std.proofs.Common.{◌≡◌, map, take}
use Rattle.digest_lists.proofs.samples.copy_contents.Given as goal

abbrev pub invariant-loop-sample : goal.invariant-loop-sample
invariant-loop-sample l = l.contents ≡ map (λ sample. sample.content) (take l.sample-index l.samples)
