-- Bounds of numbers in hex digits.
use Rattle.std.proofs.Common.{◌≡◌, ℕ, suc, ◌+◌, ◌*◌, ◌^◌, ◌<◌, arith, ap, add-one, lit<, pow-suc}
use Rattle.std.proofs.Math.Nat.{pow-le-pow_right}

-- one more digit
pub one_more : (number digit i : ℕ) → number < 16 ^ i → digit < 16 → number * 16 + digit < 16 ^ (i + 1)
one_more number digit i small last =
    let next : 16 ^ (i + 1) ≡ 16 ^ suc i = ap (λ k. 16 ^ k) (add-one i) in
    omega (arith, pow-suc 16 i)

-- 32 digits fit 128 bits
pub fits_128 : (number digit i : ℕ) → number < 16 ^ i → i < 32 → digit < 16 → number * 16 + digit < 2 ^ 128
fits_128 number digit i small few last = omega (arith, one_more number digit i small last, pow-le-pow_right {n = 16} (lit< tt) {i = i + 1} {j = 32} (omega arith))
