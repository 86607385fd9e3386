use Rattle.std.proofs.Common.{◌≡◌, sym, subst, arith}
use Rattle.row_index.specs.declared.cuts.Cut.{Cut}
use Rattle.row_index.specs.Cuts.{part}
use Rattle.row_index.proofs.Bits.{no_bits}
use Rattle.row_index.proofs.cuts.part.Goals as goal

pub returns-else-dropped-lt128 : goal.returns-else-dropped-lt128
returns-else-dropped-lt128 c = subst (λ (cut : Cut). 0 ≡ part cut c.args.value) (sym c.in-First.is) (no_bits c.in-First.dropped c.args.value (omega arith) (omega arith))
