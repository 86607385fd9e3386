-- Numbers that are read back from their bytes, and tests on them.
use Rattle.std.proofs.Common.{◌≡◌, ℕ, ◌+◌, ◌/◌, ◌%◌, ◌^◌, ◌<◌, ◌==◌, nat_lt, Bool, true, false, List, [], ◌∷◌, ◌++◌, take, drop, refl, ap, ◌∙◌, arith}
use Rattle.std.proofs.lemmas.Bool.{lt-ltb, le-ltb}
use Rattle.std.proofs.lemmas.Bool.Decides.{nat_tests}
use Rattle.std.proofs.lemmas.Nat.{from_be_bytes-to_be_bytes_2, from_be_bytes-to_be_bytes_4}
use Rattle.std.proofs.Math.Nat.{mod-eq_of_lt}
use Rattle.std.specs.Int.{w32, to_be_bytes, from_be_bytes}
use Rattle.h2_frames.specs.declared.frame.StreamPriority.{StreamPriority}
use Rattle.h2_frames.specs.declared.frame.Setting.{Setting}
use Rattle.h2_frames.specs.declared.head.Head.{Head}
use Rattle.h2_frames.specs.Layout.{priority_bytes, setting_bytes, head_bytes}
use Rattle.h2_frames.specs.Reading.{number_at, low_31_at, priority_at, setting_at, head_at}

pub not_zero : (n : ℕ) → 0 < n → (n == 0) ≡ false
not_zero n h = grind (arith, nat_tests)

pub other_kind : (n k : ℕ) → k < n → (n == k) ≡ false
other_kind n k h = grind (arith, nat_tests)

pub not_below_zero : (n : ℕ) → nat_lt n 0 ≡ false
not_below_zero n = le-ltb n 0 (omega arith)

pub number_back : (n : ℕ) (rest : List ℕ) → n < 2 ^ 32 → number_at 0 (to_be_bytes w32 n ++ rest) ≡ n
number_back n rest h = from_be_bytes-to_be_bytes_4 n h

pub low_31_back : (n : ℕ) (rest : List ℕ) → n < 2 ^ 31 → low_31_at 0 (to_be_bytes w32 n ++ rest) ≡ n
low_31_back n rest h = ap (λ x. x % 2 ^ 31) (number_back n rest (omega arith)) ∙ mod-eq_of_lt h

numbered : Bool → ℕ → ℕ → StreamPriority
numbered exclusive n weight = record { exclusive = exclusive; stream_dependency = n; weight = weight }

priority_from : (exclusive : Bool) (n weight : ℕ) (rest : List ℕ) → n < 2 ^ 31 → priority_at (priority_bytes (numbered exclusive n weight) ++ rest) ≡ numbered exclusive n weight
unfolding numbered
priority_from true n weight rest h =
    let low : (2147483648 + n) % 2147483648 ≡ n = omega arith in
    rw (from_be_bytes-to_be_bytes_4 (2147483648 + n) (omega arith), le-ltb (2147483648 + n) 2147483648 (omega arith), low) refl
priority_from false n weight rest h =
    let whole : 0 + n ≡ n = omega arith in
    rw (whole, from_be_bytes-to_be_bytes_4 n (omega arith), lt-ltb n 2147483648 h, mod-eq_of_lt h) refl

pub priority_back : (priority : StreamPriority) (rest : List ℕ) → priority.stream_dependency < 2 ^ 31 → priority_at (priority_bytes priority ++ rest) ≡ priority
unfolding numbered
priority_back priority rest h = priority_from priority.exclusive priority.stream_dependency priority.weight rest h

pub setting_back : (setting : Setting) (rest : List ℕ) → setting.identifier < 2 ^ 16 → setting.value < 2 ^ 32 → setting_at (take 6 (setting_bytes setting ++ rest)) ≡ setting
setting_back setting rest small fits = rw (from_be_bytes-to_be_bytes_2 setting.identifier small, from_be_bytes-to_be_bytes_4 setting.value fits) refl

length_back : (size : ℕ) → size < 2 ^ 24 → from_be_bytes w32 (0 ∷ drop 1 (to_be_bytes w32 size)) ≡ size
length_back size short =
    let high : 0 ≡ size / 16777216 % 256 = omega arith in
    ap (λ (b : ℕ). from_be_bytes w32 (b ∷ drop 1 (to_be_bytes w32 size))) high ∙ from_be_bytes-to_be_bytes_4 size (omega arith)

head_of : ℕ → ℕ → ℕ → ℕ → Head
head_of size kind flags stream = record { length = size; kind = kind; flags = flags; stream = stream }

pub head_back : (size kind flags stream : ℕ) (rest : List ℕ) → size < 2 ^ 24 → stream < 2 ^ 31 → head_at (take 9 (head_bytes size kind flags stream ++ rest)) ≡ record { length = size; kind = kind; flags = flags; stream = stream }
unfolding head_of
head_back size kind flags stream rest short fits =
    ap (λ (n : ℕ). head_of n kind flags (low_31_at 0 (to_be_bytes w32 stream ++ []))) (length_back size short) ∙ ap (λ (n : ℕ). head_of size kind flags n) (low_31_back stream [] fits)
