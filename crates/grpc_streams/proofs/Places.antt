-- The place of a stream.
use Rattle.std.proofs.Common.{◌≡◌, ℕ, zero, suc, ◌<◌, ◌==◌, true, false, List, [], ◌∷◌, length, get_or, Bool, Some, None, refl, sym, ap, ◌∙◌, arith}
use Rattle.grpc_streams.specs.declared.stream.CallStream.{CallStream}
use Rattle.grpc_streams.specs.Taking.{stream_at, without, IsPlace}

-- no stream before this place has the number
abbrev pub NoneBefore : ℕ → List CallStream → ℕ → Type 0
NoneBefore number streams place = (k : ℕ) (d : CallStream) → k < place → ((get_or streams k d).number == number) ≡ false

-- the first of the streams has another number
skips : (number place : ℕ) (stream : CallStream) (streams : List CallStream) → (stream.number == number) ≡ false → IsPlace number streams place → IsPlace number (stream ∷ streams) (suc place)
unfolding without
skips number place stream streams other at = record {
  within = omega (arith, at.within);
  found = λ d. rw other (at.found d);
  others = rw other (ap (λ x. stream ∷ x) at.others);
}

pub is_place : (number : ℕ) (streams : List CallStream) (place : ℕ) (d : CallStream) → place < length streams → ((get_or streams place d).number == number) ≡ true → NoneBefore number streams place → IsPlace number streams place
unfolding without
is_place number [] place d lt same none = absurd (omega arith)
is_place number (stream ∷ streams) zero d lt same none = record { within = lt; found = λ e. rw same refl; others = rw same refl }
is_place number (stream ∷ streams) (suc place) d lt same none =
    skips number place stream streams (none 0 d (omega arith)) (is_place number streams place d (omega arith) same (λ k e less. none (suc k) e (omega arith)))

pub is_absent : (number : ℕ) (streams : List CallStream) → NoneBefore number streams (length streams) → stream_at number streams ≡ None
is_absent number [] none = refl
is_absent number (stream ∷ streams) none = rw (none 0 stream (omega arith)) (is_absent number streams (λ k e less. none (suc k) e (omega arith)))

some_is : (stream : CallStream) → Some stream ≡ None → ⊥
some_is stream e = absurd cc

all_others_if : (number : ℕ) (stream : CallStream) (streams : List CallStream) (b : Bool) → (stream.number == number) ≡ b → stream_at number (stream ∷ streams) ≡ None
    → (stream_at number streams ≡ None → streams ≡ without number streams) → (stream ∷ streams) ≡ without number (stream ∷ streams)
unfolding without
all_others_if number stream streams true e none same = absurd (some_is stream (rw e at none))
all_others_if number stream streams false e none same = rw e (ap (λ x. stream ∷ x) (same (rw e at none)))

-- where the number is absent, all are others
pub all_others : (number : ℕ) (streams : List CallStream) → stream_at number streams ≡ None → streams ≡ without number streams
unfolding without
all_others number [] none = refl
all_others number (stream ∷ streams) none = all_others_if number stream streams _ refl none (all_others number streams)

pub found_at : (number place : ℕ) (streams : List CallStream) (stream : CallStream) → IsPlace number streams place → stream ≡ get_or streams place stream → Some stream ≡ stream_at number streams
found_at number place streams stream at es = ap (λ (x : CallStream). Some x) es ∙ sym (at.found stream)

-- the same of a value that is seen as the streams
pub all_others_seen : (number : ℕ) (seen items slice : List CallStream) → seen ≡ items → slice ≡ items → stream_at number slice ≡ None → seen ≡ without number seen
all_others_seen number seen items slice es ei none = all_others number seen (rw (es, ← ei) none)
