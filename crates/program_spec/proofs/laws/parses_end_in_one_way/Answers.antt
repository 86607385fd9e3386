use Rattle.program_spec.proofs.OnePath.{parse_ends, parse_is_one}
use Rattle.program_spec.proofs.laws.parses_end_in_one_way.Goals as goal

pub returns : goal.returns
returns c = record { ends = parse_ends; one = parse_is_one }
