-- A choice by weights whose sum is told as at most 2^64 - 1.
use Rattle.std.proofs.Common.{◌≡◌, refl, ◌<◌, ◌%◌, ◌^◌, ◌-◌, ◌∙◌, sym, ap, min, ℕ, Bool, true, false, ltb, eqb, arith}
use Rattle.std.proofs.lemmas.Bool.Decides.{nat_tests}
use Rattle.std.proofs.Math.Nat.{mod-eq_of_lt, min-eq_left}

-- the remainder of 32 bits by a sum is that by what is told of it
mod_by : (hash sum : ℕ) (b : Bool) → ltb (2 ^ 64 - 1) sum ≡ b → hash < 2 ^ 32 → hash % min sum (2 ^ 64 - 1) ≡ hash % sum
mod_by hash sum false e small = ap (λ (n : ℕ). hash % n) (min-eq_left (grind (arith, nat_tests)))
mod_by hash sum true e small =
    let told : hash < min sum (2 ^ 64 - 1) = grind (arith, nat_tests) in
    let whole : hash < sum = grind (arith, nat_tests) in
    mod-eq_of_lt told ∙ sym (mod-eq_of_lt whole)

pub mod_told : (hash sum told : ℕ) → told ≡ min sum (2 ^ 64 - 1) → hash < 2 ^ 32 → hash % told ≡ hash % sum
mod_told hash sum told is small = ap (λ (n : ℕ). hash % n) is ∙ mod_by hash sum (ltb (2 ^ 64 - 1) sum) refl small

-- the sum is not 0 where what is told of it is not
pub some_told : (sum told : ℕ) → told ≡ min sum (2 ^ 64 - 1) → (told ≡ 0 → ⊥) → eqb sum 0 ≡ false
some_told sum told is some = grind (arith, nat_tests)
