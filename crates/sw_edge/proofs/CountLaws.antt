-- Counts over several calls.
use Rattle.std.proofs.Common.{◌≡◌, ℕ, arith, ap, ◌∙◌}
use Rattle.sw_edge.specs.Counts.{Rose, HasCause, one_more}

-- a count that stood still and then rose has risen
still-Rose : (a b c : ℕ) → b ≡ a → Rose b c → Rose a c
still-Rose a b c still rose = rose ∙ ap one_more still

-- a cause in a later part of a run, before which the count stood still
pub HasCause-before : (a b c : ℕ) (came : Type 0) → b ≡ a → HasCause b c came → HasCause a c came
HasCause-before a b c came still cause = record {
  later = omega (arith, still, cause.later);
  cause = λ x. still-Rose a b c still (cause.cause x);
}
