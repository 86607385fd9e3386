use Rattle.packet_spec.proofs.Orderly.{dropped_sends_nothing, leaves_within_limit}
use Rattle.packet_spec.proofs.laws.what_leaves.Goals as goal

pub returns : goal.returns
returns c = record { dropped = dropped_sends_nothing; limit = leaves_within_limit }
