-- Counts that never fall and stay at 2^64 - 1.
use Rattle.std.specs.Prelude.{◌≡◌, ℕ, Bool, ◌+◌, ◌-◌, ◌^◌, ◌≤◌, min, if◌then◌else◌}

-- a count after one more
abbrev pub one_more : ℕ → ℕ
one_more count = min (count + 1) (2 ^ 64 - 1)

-- a count after one more, if there was one
abbrev pub one_more_if : Bool → ℕ → ℕ
one_more_if came count = if came then one_more count else count

-- a count rose by one, or stays at its end
abbrev pub Rose : ℕ → ℕ → Type 0
Rose before now = now ≡ one_more before

-- a count did not fall, and where what it counts came, it rose by one
pub record HasCause (before now : ℕ) (came : Type 0) : Type 0 where
  pub later : before ≤ now
  pub cause : came → Rose before now

-- a count is as before where what it counts did not come
abbrev pub StaysUnless : ℕ → ℕ → Type 0 → Type 0
StaysUnless before now came = ¬ came → now ≡ before
