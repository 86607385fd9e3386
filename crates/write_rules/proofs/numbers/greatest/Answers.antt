use Rattle.std.proofs.Common.{arith}
use Rattle.canon_bytes.proofs.Progress.{max_is}
use Rattle.write_rules.proofs.numbers.greatest.Goals as goal

pub returns : goal.returns
returns c = omega (arith, max_is c.args.width c.requires.in_range)
