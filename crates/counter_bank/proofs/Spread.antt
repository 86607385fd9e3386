-- Where slots stand.
use Rattle.std.proofs.Common.{◌≡◌, ℕ, ◌+◌, ◌*◌, ◌%◌, ◌<◌, ◌≤◌, List, [], ◌∷◌, length, zero, suc, refl, arith}
use Rattle.std.specs.Prelude.{slice_index}
use Rattle.counter_bank.specs.Figures.{place, places, packets_of, bytes_of}

-- no two slots stand at one place
pub apart : (a b : ℕ) → place a ≡ place b → a ≡ b
unfolding place
apart a b same = omega (arith, same)

-- a slot stands at one of the places
pub within : (slot slots : ℕ) → slot < slots → place slot < places slots
unfolding place places
within slot slots lt = omega (arith, lt)

pub some_places : (slots : ℕ) → 0 < slots → 0 < places slots
unfolding places
some_places slots some = omega (arith, some)

pub places_whole : (slots : ℕ) → places slots % 4096 ≡ 0
unfolding places
places_whole slots = omega arith

pub whole_within : (slot n : ℕ) → n % 4096 ≡ 0 → slot < n → place slot < n
unfolding place
whole_within slot n whole lt = omega (arith, whole, lt)

-- and a later one stands behind them
beyond : (slot n : ℕ) → n % 4096 ≡ 0 → n ≤ slot → n ≤ place slot
unfolding place
beyond slot n whole le = omega (arith, whole, le)

past_end : (xs : List ℕ) (i : ℕ) → length xs ≤ i → slice_index xs i ≡ 0
past_end [] i le = refl
past_end (x ∷ xs) zero le = absurd (omega (arith, le))
past_end (x ∷ xs) (suc i) le = past_end xs i (omega (arith, le))

pub no_packets : (xs : List ℕ) (slot n : ℕ) → length xs ≡ 2 * n → n % 4096 ≡ 0 → n ≤ slot → packets_of xs slot ≡ 0
no_packets xs slot n long whole le = let behind = beyond slot n whole le in past_end xs (2 * place slot) (omega (arith, long, behind))

pub no_bytes : (xs : List ℕ) (slot n : ℕ) → length xs ≡ 2 * n → n % 4096 ≡ 0 → n ≤ slot → bytes_of xs slot ≡ 0
no_bytes xs slot n long whole le = let behind = beyond slot n whole le in past_end xs (2 * place slot + 1) (omega (arith, long, behind))
