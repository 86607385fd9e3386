use Rattle.std.proofs.Common.{◌<◌, unwrap_or, sum_by, length}
use Rattle.info_rules.specs.Numbers.{width_of}
use Rattle.p4v1_read.specs.Nested.{read, all_at}
use Rattle.p4v1_read.specs.P4Infos.{metadata_of}
use Rattle.info_rules.proofs.Asked.{read_of, Exceeds}
use Rattle.info_rules.proofs.rules.bits_beyond_bytes.Given as goal

abbrev pub invariant-messages : goal.invariant-messages
invariant-messages l = (l.beyond < 8) × Exceeds (all_at metadata_of 2 l.message) (read_of (read metadata_of) l.left) (λ fields. sum_by (λ x. unwrap_or (width_of x.bitwidth) 0) fields) l.beyond

abbrev pub decreases-messages : goal.decreases-messages
decreases-messages l = length l.left
