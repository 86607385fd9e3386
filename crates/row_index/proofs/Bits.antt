-- A number has no bits above its width.
use Rattle.std.proofs.Common.{◌≡◌, ℕ, ◌<◌, ◌≤◌, ◌^◌, ◌/◌, sym, lit<, arith}
use Rattle.std.proofs.Math.Nat.{div-eq_of_lt-le, pow-le-pow_right}

pub no_bits : (n value : ℕ) → 128 ≤ n → value < 2 ^ 128 → 0 ≡ value / 2 ^ n
no_bits n value wide fits =
    let more : 2 ^ 128 ≤ 2 ^ n = pow-le-pow_right {n = 2} (lit< tt) {i = 128} {j = n} wide in
    sym (div-eq_of_lt-le {k = 0} (2 ^ n) {m = value} (omega arith) (omega arith))
