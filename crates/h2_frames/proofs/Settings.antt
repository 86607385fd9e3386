-- Settings, six bytes each.
use Rattle.std.proofs.Common.{◌≡◌, ℕ, suc, ◌*◌, List, [], ◌∷◌, ◌++◌, length, take, drop, refl, sym, ◌∙◌, append_assoc, arith, length-drop}
use Rattle.std.specs.List.{flat_map}
use Rattle.std.proofs.lemmas.List.{append-nil}
use Rattle.h2_frames.specs.declared.frame.Setting.{Setting}
use Rattle.h2_frames.specs.Layout.{setting_bytes}
use Rattle.h2_frames.specs.Reading.{setting_at, settings_in}

pub settings_length : (settings : List Setting) → length (flat_map setting_bytes settings) ≡ 6 * length settings
settings_length [] = refl
settings_length (setting ∷ settings) = omega (arith, settings_length settings)

-- some settings are read, and so many more stand in the rest
pub record ArePart (read : List Setting) (more : ℕ) (rest : List ℕ) (whole : List Setting) : Type 0 where
  pub so_far : read ++ settings_in more rest ≡ whole
  pub long : length rest ≡ 6 * more

pub starts : (read : List Setting) (m n : ℕ) (bytes : List ℕ) → read ≡ [] → m ≡ n → length bytes ≡ 6 * n → ArePart read m bytes (settings_in n bytes)
starts read m n bytes e m-is long = record { so_far = rw (e, m-is) refl; long = omega arith }

pub goes_on : (read : List Setting) (n more : ℕ) (rest : List ℕ) (whole : List Setting) → n ≡ suc more → ArePart read n rest whole → ArePart (read ++ setting_at (take 6 rest) ∷ []) more (drop 6 rest) whole
unfolding settings_in
goes_on read n more rest whole n-is part =
    let now : read ++ settings_in (suc more) rest ≡ whole = rw n-is at part.so_far in
    record {
      so_far = append_assoc read (setting_at (take 6 rest) ∷ []) (settings_in more (drop 6 rest)) ∙ now;
      long = omega (arith, length-drop 6 rest, part.long, n-is);
    }

pub is_done : (read : List Setting) (n : ℕ) (rest : List ℕ) (whole : List Setting) → n ≡ 0 → ArePart read n rest whole → read ≡ whole
unfolding settings_in
is_done read n rest whole n-is part =
    let now : read ++ settings_in 0 rest ≡ whole = rw n-is at part.so_far in
    sym (append-nil read) ∙ now

-- what stood before still stands where more was kept
pub still_kept : (old more now : List ℕ) → take (length (old ++ more)) now ≡ old ++ more → take (length old) now ≡ old
still_kept [] more now e = refl
still_kept (b ∷ old) more [] e = absurd cc
still_kept (b ∷ old) more (c ∷ now) e = let rest = still_kept old more now cc in cc
