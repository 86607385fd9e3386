use Rattle.std.proofs.Common.{length}
use Rattle.p4v1_read.specs.Nested.{read, all_at}
use Rattle.info_rules.proofs.Asked.{read_of, Gathers}
use Rattle.info_rules.proofs.gathering.gather.Given as goal

abbrev pub invariant-messages : goal.invariant-messages
invariant-messages g l = Gathers (all_at g.G.Gift.meaning l.number l.message) (read_of (read g.G.Gift.meaning) l.left) (g.G.Gift.gives l.gift) l.initial.found.items l.found.items

abbrev pub decreases-messages : goal.decreases-messages
decreases-messages g l = length l.left
