-- What waits on the streams goes out.
use Rattle.std.proofs.Common.{◌≡◌, ℕ, suc, ◌+◌, ◌<◌, ◌≤◌, List, [], ◌∷◌, ◌++◌, length, take, drop, get_or, set, refl, sym, ap, ◌∙◌, append_assoc, add-one, arith}
use Rattle.std.proofs.lemmas.List.{append-nil, drop-set-lt, take_all, length-set}
use Rattle.std.proofs.Math.ListN.{drop_of_length-le}
use Rattle.std.proofs.Math.Seq.{drop-cons, take-suc-set}
use Rattle.h2_streams.specs.declared.stream.Stream.{Stream}
use Rattle.h2_streams.specs.Sending.{Sending, drained, flushed}

-- the streams from a place on are still to be sent of
abbrev pub still : Sending → List Stream → ℕ → Sending × List Stream
still sending streams place = ((flushed sending (drop place streams)).0, take place streams ++ (flushed sending (drop place streams)).1)

one_more : (sending new : Sending) (front rest : List Stream) (stream next : Stream) → (new, next) ≡ drained sending stream
    → ◌≡◌ {A = Sending × List Stream} ((flushed new rest).0, (front ++ next ∷ []) ++ (flushed new rest).1) ((flushed sending (stream ∷ rest)).0, front ++ (flushed sending (stream ∷ rest)).1)
unfolding flushed
one_more sending new front rest stream next e =
    let out : new ≡ (drained sending stream).0 = ap (λ x. x.0) e in
    let after : next ≡ (drained sending stream).1 = ap (λ x. x.1) e in
    rw (append_assoc front (next ∷ []) (flushed new rest).1, out, after) refl

pub goes_on : (whole : Sending × List Stream) (sending new : Sending) (streams : List Stream) (place : ℕ) (stream next : Stream) → place < length streams → stream ≡ get_or streams place stream → (new, next) ≡ drained sending stream
    → still sending streams place ≡ whole → still new (set streams place next) (place + 1) ≡ whole
goes_on whole sending new streams place stream next lt es e so_far =
    let rest : drop (suc place) (set streams place next) ≡ drop (suc place) streams = drop-set-lt (suc place) streams place next (omega arith) in
    let front : take (suc place) (set streams place next) ≡ take place streams ++ (next ∷ []) = take-suc-set streams place next lt in
    let here : drop place streams ≡ stream ∷ drop (suc place) streams = drop-cons streams place stream lt ∙ ap (λ x. x ∷ drop (suc place) streams) (sym es) in
    rw (add-one, rest, front) (one_more sending new (take place streams) (drop (suc place) streams) stream next e ∙ rw here at so_far)

pub all_done : (whole : Sending × List Stream) (sending : Sending) (streams : List Stream) (place : ℕ) → length streams ≤ place → still sending streams place ≡ whole → (sending, streams) ≡ whole
unfolding flushed
all_done whole sending streams place le so_far =
    let none : drop place streams ≡ [] = drop_of_length-le streams le in
    let all : take place streams ≡ streams = take_all place streams le in
    ap (λ (x : List Stream). (sending, x)) (sym (append-nil streams)) ∙ rw (none, all) at so_far

-- the loop over the streams, of which there are so many
pub record AreFlushed (whole : Sending × List Stream) (sending : Sending) (streams : List Stream) (place count : ℕ) : Type 0 where
  pub so_far : still sending streams place ≡ whole
  pub all : length streams ≡ count

pub next_place : (whole : Sending × List Stream) (sending new : Sending) (streams : List Stream) (place count : ℕ) (stream next : Stream) → place < count → stream ≡ get_or streams place stream → (new, next) ≡ drained sending stream
    → AreFlushed whole sending streams place count → AreFlushed whole new (set streams place next) (place + 1) count
next_place whole sending new streams place count stream next lt es e a = record {
  so_far = goes_on whole sending new streams place stream next (omega (arith, a.all)) es e a.so_far;
  all = length-set streams place next ∙ a.all;
}
