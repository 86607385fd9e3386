-- The laws of the figures.
use Rattle.std.proofs.Common.{◌≡◌, ℕ, ◌+◌, ◌*◌, ◌≤◌, max, List, ap, sym, subst, ◌∙◌, arith}
use Rattle.std.proofs.Math.Nat.{le-max_left, le-max_right}
use Rattle.std.specs.Prelude.{slice_index}
use mathlib.Core.Logic.{dite}
use native.Mathlib.Decide.{ℕ_discrete}
use Rattle.counter_bank.specs.Figures.{place, add_at, raise_at}
use Rattle.counter_bank.specs.Laws.{CountsOnePacket, NotesOneSlot, SumsEachSlot, GreaterAtEachSlot, NothingFalls}
use Rattle.counter_bank.proofs.Spread.{apart}
use Rattle.counter_bank.proofs.Places.{add_at_here, add_at_else, raise_at_here, raise_at_else, at_sums, at_greater}

pub counts_one : CountsOnePacket
counts_one xs slot k =
    let p : ℕ = 2 * place slot in
    let b : ℕ = 2 * place slot + 1 in
    let ys : List ℕ = add_at xs p 1 in (
      add_at_else ys b p k (λ e. omega (arith, e)) ∙ add_at_here xs p 1,
      add_at_here ys b k ∙ ap (λ x. x + k) (add_at_else xs p b 1 (λ e. omega (arith, e))),
      λ other ne. (
        add_at_else ys b (2 * place other) k (λ e. omega (arith, e)) ∙ add_at_else xs p (2 * place other) 1 (λ e. ne (apart other slot (omega (arith, e)))),
        add_at_else ys b (2 * place other + 1) k (λ e. ne (apart other slot (omega (arith, e)))) ∙ add_at_else xs p (2 * place other + 1) 1 (λ e. omega (arith, e)),
      ),
    )

pub notes_one : NotesOneSlot
notes_one xs slot m n =
    let p : ℕ = 2 * place slot in
    let b : ℕ = 2 * place slot + 1 in
    let ys : List ℕ = raise_at xs p m in (
      raise_at_else ys b p n (λ e. omega (arith, e)) ∙ raise_at_here xs p m,
      raise_at_here ys b n ∙ ap (λ x. max x n) (raise_at_else xs p b m (λ e. omega (arith, e))),
      λ other ne. (
        raise_at_else ys b (2 * place other) n (λ e. omega (arith, e)) ∙ raise_at_else xs p (2 * place other) m (λ e. ne (apart other slot (omega (arith, e)))),
        raise_at_else ys b (2 * place other + 1) n (λ e. ne (apart other slot (omega (arith, e)))) ∙ raise_at_else xs p (2 * place other + 1) m (λ e. omega (arith, e)),
      ),
    )

pub sums_each : SumsEachSlot
sums_each xs ys slot = (at_sums xs ys (2 * place slot), at_sums xs ys (2 * place slot + 1))

pub greater_each : GreaterAtEachSlot
greater_each xs ys slot = (at_greater xs ys (2 * place slot), at_greater xs ys (2 * place slot + 1))

-- a place where k is added has no less than before, nor has any other
add_at_most : (xs : List ℕ) (i k j : ℕ) → slice_index xs j ≤ slice_index (add_at xs i k) j
add_at_most xs i k j = dite (ℕ_discrete j i)
    (λ e. let here : slice_index (add_at xs i k) j ≡ slice_index xs j + k = subst (λ x. slice_index (add_at xs i k) x ≡ slice_index xs x + k) (sym e) (add_at_here xs i k) in omega (arith, here))
    (λ ne. omega (arith, add_at_else xs i j k ne))

raise_at_most : (xs : List ℕ) (i n j : ℕ) → slice_index xs j ≤ slice_index (raise_at xs i n) j
raise_at_most xs i n j = dite (ℕ_discrete j i)
    (λ e. let here : slice_index (raise_at xs i n) j ≡ max (slice_index xs j) n = subst (λ x. slice_index (raise_at xs i n) x ≡ max (slice_index xs x) n) (sym e) (raise_at_here xs i n) in omega (arith, here, le-max_left (slice_index xs j) n))
    (λ ne. omega (arith, raise_at_else xs i j n ne))

pub none_falls : NothingFalls
none_falls xs ys slot packets bytes at =
    let p : ℕ = 2 * place at in
    let b : ℕ = 2 * place at + 1 in
    let counted : List ℕ = add_at xs (2 * place slot) 1 in
    let noted : List ℕ = raise_at xs (2 * place slot) packets in (
      (omega (arith, add_at_most xs (2 * place slot) 1 p, add_at_most counted (2 * place slot + 1) bytes p), omega (arith, add_at_most xs (2 * place slot) 1 b, add_at_most counted (2 * place slot + 1) bytes b)),
      (omega (arith, raise_at_most xs (2 * place slot) packets p, raise_at_most noted (2 * place slot + 1) bytes p), omega (arith, raise_at_most xs (2 * place slot) packets b, raise_at_most noted (2 * place slot + 1) bytes b)),
      (omega (arith, at_sums xs ys p), omega (arith, at_sums xs ys b)),
      (omega (arith, at_greater xs ys p, le-max_left (slice_index xs p) (slice_index ys p)), omega (arith, at_greater xs ys b, le-max_left (slice_index xs b) (slice_index ys b))),
      (omega (arith, at_greater xs ys p, le-max_right (slice_index xs p) (slice_index ys p)), omega (arith, at_greater xs ys b, le-max_right (slice_index xs b) (slice_index ys b))),
    )
