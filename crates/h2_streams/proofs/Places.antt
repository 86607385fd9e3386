-- The place of a stream.
use Rattle.std.proofs.Common.{◌≡◌, ℕ, zero, suc, ◌<◌, ◌==◌, true, false, List, [], ◌∷◌, length, get_or, set, Bool, Some, None, refl, sym, ap, ◌∙◌, arith}
use Rattle.h2_streams.specs.declared.stream.Stream.{Stream}
use Rattle.h2_streams.specs.Streams.{stream_at, changed, IsPlace}

-- no stream before this place has the number
abbrev pub NoneBefore : ℕ → List Stream → ℕ → Type 0
NoneBefore number streams place = (k : ℕ) (d : Stream) → k < place → ((get_or streams k d).number == number) ≡ false

-- the first of the streams has another number
skips : (number place : ℕ) (stream : Stream) (streams : List Stream) → (stream.number == number) ≡ false → IsPlace number streams place → IsPlace number (stream ∷ streams) (suc place)
unfolding changed
skips number place stream streams other at = record {
  within = omega (arith, at.within);
  found = λ d. rw other (at.found d);
  change = λ f d. rw other (ap (λ x. stream ∷ x) (at.change f d));
}

pub is_place : (number : ℕ) (streams : List Stream) (place : ℕ) (d : Stream) → place < length streams → ((get_or streams place d).number == number) ≡ true → NoneBefore number streams place → IsPlace number streams place
unfolding changed
is_place number [] place d lt same none = absurd (omega arith)
is_place number (stream ∷ streams) zero d lt same none = record { within = lt; found = λ e. rw same refl; change = λ f e. rw same refl }
is_place number (stream ∷ streams) (suc place) d lt same none =
    skips number place stream streams (none 0 d (omega arith)) (is_place number streams place d (omega arith) same (λ k e less. none (suc k) e (omega arith)))

pub is_absent : (number : ℕ) (streams : List Stream) → NoneBefore number streams (length streams) → stream_at number streams ≡ None
is_absent number [] none = refl
is_absent number (stream ∷ streams) none = rw (none 0 stream (omega arith)) (is_absent number streams (λ k e less. none (suc k) e (omega arith)))

some_is : (stream : Stream) → Some stream ≡ None → ⊥
some_is stream e = absurd cc

unchanged_if : (number : ℕ) (change : Stream → Stream) (stream : Stream) (streams : List Stream) (b : Bool) → (stream.number == number) ≡ b → stream_at number (stream ∷ streams) ≡ None
    → (stream_at number streams ≡ None → streams ≡ changed number change streams) → (stream ∷ streams) ≡ changed number change (stream ∷ streams)
unfolding changed
unchanged_if number change stream streams true e none same = absurd (some_is stream (rw e at none))
unchanged_if number change stream streams false e none same = rw e (ap (λ x. stream ∷ x) (same (rw e at none)))

-- where the number is absent, nothing is changed
pub unchanged : (number : ℕ) (change : Stream → Stream) (streams : List Stream) → stream_at number streams ≡ None → streams ≡ changed number change streams
unfolding changed
unchanged number change [] none = refl
unchanged number change (stream ∷ streams) none = unchanged_if number change stream streams _ refl none (unchanged number change streams)

pub changed_at : (number place : ℕ) (change : Stream → Stream) (streams : List Stream) (stream next : Stream) → IsPlace number streams place → stream ≡ get_or streams place stream → next ≡ change stream → set streams place next ≡ changed number change streams
changed_at number place change streams stream next at es en = ap (λ x. set streams place x) (en ∙ ap change es) ∙ sym (at.change change stream)

pub found_at : (number place : ℕ) (streams : List Stream) (stream : Stream) → IsPlace number streams place → stream ≡ get_or streams place stream → Some stream ≡ stream_at number streams
found_at number place streams stream at es = ap (λ (x : Stream). Some x) es ∙ sym (at.found stream)

-- the same of a value that is seen as the streams
pub unchanged_seen : (number : ℕ) (change : Stream → Stream) (seen items slice : List Stream) → seen ≡ items → slice ≡ items → stream_at number slice ≡ None → seen ≡ changed number change seen
unchanged_seen number change seen items slice es ei none = unchanged number change seen (rw (es, ← ei) none)

pub changed_seen : (number place : ℕ) (change : Stream → Stream) (seen items slice : List Stream) (stream next : Stream) → seen ≡ items → slice ≡ items → IsPlace number slice place → stream ≡ get_or items place stream → next ≡ change stream → set items place next ≡ changed number change seen
changed_seen number place change seen items slice stream next es ei at e en = changed_at number place change items stream next (rw ei at at) e en ∙ ap (changed number change) (sym es)

pub kept_seen : (number place : ℕ) (P : Stream → Type 0) (seen items slice : List Stream) (stream : Stream) → seen ≡ items → slice ≡ items → IsPlace number slice place → stream ≡ get_or items place stream
    → ((s : Stream) → stream_at number seen ≡ Some s → P s) → P stream
kept_seen number place P seen items slice stream es ei at e each = each stream (rw es (sym (found_at number place items stream (rw ei at at) e)))
