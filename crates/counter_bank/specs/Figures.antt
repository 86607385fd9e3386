-- Figures of slots, in a list with two numbers for each place: the packets of its slot, then its bytes. Past the end of a list each number is 0.
use Rattle.std.specs.Prelude.{ℕ, zero, suc, ◌+◌, ◌*◌, ◌/◌, ◌%◌, ◌^◌, ◌≤◌, max, List, [], ◌∷◌, slice_index}

-- The place of a slot. Of 4,096 slots that stand together those of neighbouring numbers stand 64 places apart, so that threads which count at them do not write to one line of memory.
unfoldable pub place : ℕ → ℕ
place slot = slot / 4096 * 4096 + slot % 64 * 64 + slot / 64 % 64

-- how many places so many slots take
unfoldable pub places : ℕ → ℕ
places slots = (slots + 4095) / 4096 * 4096

-- the packets of a slot
abbrev pub packets_of : List ℕ → ℕ → ℕ
packets_of xs slot = slice_index xs (2 * place slot)

-- the bytes of a slot
abbrev pub bytes_of : List ℕ → ℕ → ℕ
bytes_of xs slot = slice_index xs (2 * place slot + 1)

-- the figures of a slot, modulo 2^64: its packets and its bytes
abbrev pub figures_of : List ℕ → ℕ → ℕ × ℕ
figures_of xs slot = (packets_of xs slot % 2 ^ 64, bytes_of xs slot % 2 ^ 64)

-- at a slot, the first list has at most what the second has
abbrev pub AtMost : List ℕ → List ℕ → ℕ → Type 0
AtMost xs ys slot = (packets_of xs slot ≤ packets_of ys slot) × (bytes_of xs slot ≤ bytes_of ys slot)

-- the list with k more at the place i
unfoldable pub add_at : List ℕ → ℕ → ℕ → List ℕ
add_at [] zero k = k ∷ []
add_at [] (suc i) k = 0 ∷ add_at [] i k
add_at (x ∷ xs) zero k = (x + k) ∷ xs
add_at (x ∷ xs) (suc i) k = x ∷ add_at xs i k

-- the list with at least n at the place i
unfoldable pub raise_at : List ℕ → ℕ → ℕ → List ℕ
raise_at [] zero n = n ∷ []
raise_at [] (suc i) n = 0 ∷ raise_at [] i n
raise_at (x ∷ xs) zero n = max x n ∷ xs
raise_at (x ∷ xs) (suc i) n = x ∷ raise_at xs i n

-- the sums of two lists, place by place
unfoldable pub sums : List ℕ → List ℕ → List ℕ
sums [] ys = ys
sums (x ∷ xs) [] = x ∷ xs
sums (x ∷ xs) (y ∷ ys) = (x + y) ∷ sums xs ys

-- the greater numbers of two lists, place by place
unfoldable pub greater : List ℕ → List ℕ → List ℕ
greater [] ys = ys
greater (x ∷ xs) [] = x ∷ xs
greater (x ∷ xs) (y ∷ ys) = max x y ∷ greater xs ys

-- the figures with one packet of so many bytes more at a slot
abbrev pub count_packet : List ℕ → ℕ → ℕ → List ℕ
count_packet xs slot bytes = add_at (add_at xs (2 * place slot) 1) (2 * place slot + 1) bytes

-- the figures with at least these at a slot
abbrev pub note : List ℕ → ℕ → ℕ → ℕ → List ℕ
note xs slot packets bytes = raise_at (raise_at xs (2 * place slot) packets) (2 * place slot + 1) bytes
