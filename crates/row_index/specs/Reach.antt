-- The greatest number that passes a test.
use Rattle.std.specs.Prelude.{ℕ, zero, suc, Bool, if◌then◌else◌}

-- one more than the greatest number below a limit that passes a test, or 0
abbrev pub reach : (ℕ → Bool) → ℕ → ℕ
reach test zero = 0
reach test (suc limit) = if test limit then suc limit else reach test limit
