-- What the answers of the stamps share, and the laws of moments.
use Rattle.std.proofs.Common.{◌≡◌, ℕ, zero, suc, ◌%◌, ◌≤◌, List, [], ◌∷◌, length, refl, arith}
use Rattle.std.proofs.Math.Nat.{le-max_left, le-max_right}
use Rattle.std.specs.Prelude.{slice_index}
use Rattle.counter_bank.specs.Figures.{place}
use Rattle.counter_bank.proofs.Places.{raise_at_here, raise_at_else, at_greater}
use Rattle.counter_bank.proofs.Spread.{apart}
use Rattle.idle_words.specs.Moments.{moment_of}
use Rattle.idle_words.specs.Laws.{RaisesOneStamp, GreaterAtEachStamp, NoMomentFalls}
use Rattle.idle_words.proofs.Keeping.{raised_least}

pub raises_one : RaisesOneStamp
raises_one xs stamp moment = (raise_at_here xs (place stamp) moment, λ other ne. raise_at_else xs (place stamp) (place other) moment (λ e. ne (apart other stamp e)))

pub greater_each : GreaterAtEachStamp
greater_each xs ys stamp = at_greater xs ys (place stamp)

pub none_falls : NoMomentFalls
none_falls xs ys stamp moment = (
  λ other. raised_least xs (place stamp) moment (place other),
  λ other. omega (arith, at_greater xs ys (place other), le-max_left (slice_index xs (place other)) (slice_index ys (place other))),
  λ other. omega (arith, at_greater xs ys (place other), le-max_right (slice_index xs (place other)) (slice_index ys (place other))),
)

-- a stamp behind all places
beyond : (stamp n : ℕ) → n % 4096 ≡ 0 → n ≤ stamp → n ≤ place stamp
unfolding place
beyond stamp n whole le = omega (arith, whole, le)

past_end : (xs : List ℕ) (i : ℕ) → length xs ≤ i → slice_index xs i ≡ 0
past_end [] i le = refl
past_end (x ∷ xs) zero le = absurd (omega (arith, le))
past_end (x ∷ xs) (suc i) le = past_end xs i (omega (arith, le))

pub no_moment : (xs : List ℕ) (stamp n : ℕ) → length xs ≡ n → n % 4096 ≡ 0 → n ≤ stamp → moment_of xs stamp ≡ 0
no_moment xs stamp n long whole le = let behind = beyond stamp n whole le in past_end xs (place stamp) (omega (arith, long, behind))
