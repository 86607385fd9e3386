use Rattle.std.proofs.Common.{Err, ap}
use Rattle.write_rules.proofs.EmptyNumber.{number_in_none}
use Rattle.write_rules.proofs.numbers.number.Goals as goal

pub returns-in-Err-Empty : goal.returns-in-Err-Empty
returns-in-Err-Empty c = number_in_none c.args.width c.args.bytes.now (c.in-Err-Empty.ensures.empty.0 (ap (λ e. Err e) c.in-Err-Empty.field-0-is))
