use Rattle.std.proofs.Common.{sym, arith}
use Rattle.idle_words.proofs.Scanning.{raise_above, raise_below}
use Rattle.idle_words.proofs.idle.raise.Goals as goal

pub returns-then-untold-at : goal.returns-then-untold-at
returns-then-untold-at c = sym (raise_above c.args.untold.now _ _ c.requires (omega arith))

pub returns-else-untold-at : goal.returns-else-untold-at
returns-else-untold-at c = sym (raise_below c.args.untold.now _ _ c.requires (omega arith))
