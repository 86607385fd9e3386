-- Errors of readers as flaws.
use Rattle.std.proofs.Common.{◌≡◌, ℕ, Result, Ok, Err}
use Rattle.tape_spec.specs.Reading.{Flaw, Bad, TooMany, or_bad}

pub or_bad_ok : {A : Type 0} (r : Result A ℕ) (x : A) → or_bad r ≡ Ok x → r ≡ Ok x
or_bad_ok (Ok y) x e = cc
or_bad_ok (Err left) x e = absurd cc

pub or_bad_err : {A : Type 0} (r : Result A ℕ) (left : ℕ) → or_bad r ≡ Err (Bad left) → r ≡ Err left
or_bad_err (Ok y) left e = absurd cc
or_bad_err (Err d) left e = cc

pub or_bad_many : {A T : Type 0} (r : Result A ℕ) (left : ℕ) → or_bad r ≡ Err (TooMany left) → T
or_bad_many (Ok y) left e = absurd cc
or_bad_many (Err d) left e = absurd cc

abbrev pub fine : {X : Type 0} → X → Result X Flaw
fine x = Ok x
