use Rattle.std.proofs.Common.{cond, count_by, length}
use Rattle.info_rules.specs.Numbers.{kind_of, is_lpm}
use Rattle.p4v1_read.specs.Nested.{read, all_at}
use Rattle.p4v1_read.specs.P4Infos.{match_field_of}
use Rattle.info_rules.proofs.Asked.{read_of, Tallies}
use Rattle.info_rules.proofs.rules.two_lpm.Given as goal

abbrev pub invariant-messages : goal.invariant-messages
invariant-messages l = Tallies (all_at match_field_of 2 l.message) (read_of (read match_field_of) l.left) (λ fields. count_by (λ x. is_lpm (kind_of x.match_type)) fields) (cond l.found 1 0)

abbrev pub decreases-messages : goal.decreases-messages
decreases-messages l = length l.left
