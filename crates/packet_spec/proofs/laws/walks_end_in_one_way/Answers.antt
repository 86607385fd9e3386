use Rattle.packet_spec.proofs.OneWalk.{walk_ends, walk_is_one}
use Rattle.packet_spec.proofs.NoRepeat.{no_node_twice}
use Rattle.packet_spec.proofs.laws.walks_end_in_one_way.Goals as goal

pub returns : goal.returns
returns c = record { ends = walk_ends; one = walk_is_one; once = no_node_twice }
