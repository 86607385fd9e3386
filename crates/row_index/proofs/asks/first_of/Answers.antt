use Rattle.std.proofs.Common.{arith}
use Rattle.row_index.proofs.asks.first_of.Goals as goal

pub first_from-requires-clause-around : goal.first_from-requires-clause-around
first_from-requires-clause-around c = record {
  ordered = omega arith;
  within = omega arith;
  below = λ k d lt. absurd (omega (arith, lt));
  above = λ k d le lt. absurd (omega (arith, le, lt));
}
