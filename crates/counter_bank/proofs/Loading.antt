-- Two loads are the figures of a slot.
use Rattle.std.proofs.Common.{◌≡◌, ℕ, ◌+◌, ◌*◌, ◌%◌, ◌^◌, ap, sym, ◌∙◌, arith}
use Rattle.std.proofs.Math.Nat.{max-eq_right}
use Rattle.std.specs.Prelude.{slice_index}
use Rattle.counter_bank.specs.declared.tally.Tally.{Tally}
use Rattle.counter_bank.specs.Figures.{place, raise_at, packets_of, bytes_of, figures_of, AtMost}
use Rattle.counter_bank.specs.Counting.{Sum, noting}
use Rattle.counter_bank.proofs.Places.{raise_at_here, raise_at_else}

module _ (slot packets bytes : ℕ) (v w x : Tally) (p : Sum (2 * place slot) v packets w) (b : Sum (2 * place slot + 1) w bytes x) where
  -- the view after both loads
  after : x ≡ noting (noting v (2 * place slot) p.sum) (2 * place slot + 1) b.sum
  after = b.noted_is ∙ ap (λ u. noting u (2 * place slot + 1) b.sum) p.noted_is

  -- what was noted of the bytes is as it was before the load of the packets
  between : slice_index w.noted (2 * place slot + 1) ≡ bytes_of v.noted slot
  between = ap (λ (u : Tally). bytes_of u.noted slot) p.noted_is ∙ raise_at_else v.noted (2 * place slot) (2 * place slot + 1) p.sum (λ e. omega (arith, e))

  packets_noted : packets_of x.noted slot ≡ p.sum
  packets_noted = ap (λ (u : Tally). packets_of u.noted slot) after
      ∙ raise_at_else (raise_at v.noted (2 * place slot) p.sum) (2 * place slot + 1) (2 * place slot) b.sum (λ e. omega (arith, e))
      ∙ raise_at_here v.noted (2 * place slot) p.sum
      ∙ max-eq_right p.found_is.since

  bytes_noted : bytes_of x.noted slot ≡ b.sum
  bytes_noted = ap (λ (u : Tally). bytes_of u.noted slot) b.noted_is ∙ raise_at_here w.noted (2 * place slot + 1) b.sum ∙ max-eq_right b.found_is.since

  pub figures_are : (packets, bytes) ≡ figures_of x.noted slot
  figures_are = λ i. ((p.found_is.is ∙ ap (λ n. n % 2 ^ 64) (sym packets_noted)) i, (b.found_is.is ∙ ap (λ n. n % 2 ^ 64) (sym bytes_noted)) i)

  pub since_noted : AtMost v.noted x.noted slot
  since_noted = (omega (arith, packets_noted, p.found_is.since), omega (arith, bytes_noted, b.found_is.since, between))

  pub own_noted : AtMost v.added x.noted slot
  own_noted =
      let same : slice_index w.added (2 * place slot + 1) ≡ bytes_of v.added slot = ap (λ (u : Tally). bytes_of u.added slot) p.noted_is in
      (omega (arith, packets_noted, p.found_is.own), omega (arith, bytes_noted, b.found_is.own, same))

  pub only_noted : x ≡ noting (noting v (2 * place slot) (packets_of x.noted slot)) (2 * place slot + 1) (bytes_of x.noted slot)
  only_noted = after ∙ λ i. noting (noting v (2 * place slot) (sym packets_noted i)) (2 * place slot + 1) (sym bytes_noted i)
