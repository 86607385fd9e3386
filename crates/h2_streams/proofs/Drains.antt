-- What waits on a stream goes out.
use Rattle.std.proofs.Common.{◌≡◌, ℕ, suc, ◌≤◌, true, false, nat_lt, List, [], ◌∷◌, length, drop, Bool, Some, None, refl, sym, ap, ◌∙◌, arith}
use Rattle.std.specs.Prelude.{slice_get}
use Rattle.h2_streams.specs.declared.stream.Stream.{Stream}
use Rattle.h2_streams.specs.declared.stream.Waiting.{Waiting}
use Rattle.h2_streams.specs.declared.stream.Waiting.TheVariants as waitings
use Rattle.h2_streams.specs.Streams.{spent}
use Rattle.h2_streams.specs.Sending.{Sending, with_data, with_block, allowance, ended_if, drained_from, drained, GoesOut}

-- the stream with something else waiting
abbrev pub holding : List Waiting → Stream → Stream
holding waiting stream = record stream { waiting = waiting }

unaware_headers : (sending : Sending) (stream : Stream) (held waiting : List Waiting) (end_stream : Bool)
    → ((s : Stream) → drained_from sending (holding held s) waiting ≡ drained_from sending s waiting)
    → drained_from sending (ended_if end_stream (holding held stream)) waiting ≡ drained_from sending (ended_if end_stream stream) waiting
unaware_headers sending stream held waiting true same = same (record stream { ended = true })
unaware_headers sending stream held waiting false same = same stream

unaware_data : (sending : Sending) (stream : Stream) (held waiting : List Waiting) (message : List ℕ) (b : Bool) → nat_lt (allowance sending stream) (length message) ≡ b
    → ((out : Sending) (s : Stream) → drained_from out (holding held s) waiting ≡ drained_from out s waiting)
    → drained_from sending (holding held stream) (waitings.Data message ∷ waiting) ≡ drained_from sending stream (waitings.Data message ∷ waiting)
unfolding drained_from
unaware_data sending stream held waiting message true e same = rw e refl
unaware_data sending stream held waiting message false e same = rw e (same (with_data stream.number message sending) (spent (length message) stream))

-- what the stream holds beside the list does not count
unaware : (sending : Sending) (stream : Stream) (held waiting : List Waiting) → drained_from sending (holding held stream) waiting ≡ drained_from sending stream waiting
unfolding drained_from
unaware sending stream held [] = refl
unaware sending stream held (waitings.Data message ∷ waiting) = unaware_data sending stream held waiting message _ refl (λ out s. unaware out s held waiting)
unaware sending stream held (waitings.Headers block end_stream ∷ waiting) = unaware_headers _ stream held waiting end_stream (λ s. unaware (with_block stream.number end_stream block sending) s held waiting)

front : (waiting : List Waiting) (first : Waiting) → slice_get waiting 0 ≡ Some first → waiting ≡ first ∷ drop 1 waiting
front [] first e = absurd cc
front (x ∷ waiting) first e = let same : x ≡ first = cc in ap (λ y. y ∷ waiting) same

none_left : (waiting : List Waiting) → slice_get waiting 0 ≡ None → waiting ≡ []
none_left [] e = refl
none_left (x ∷ waiting) e = absurd cc

nothing : (waiting : List Waiting) → length waiting ≤ 0 → waiting ≡ []
nothing [] le = refl
nothing (x ∷ waiting) le = absurd (omega arith)

-- the loop over what waits
pub record AreDrained (whole : Sending × Stream) (sending : Sending) (stream : Stream) (n : ℕ) : Type 0 where
  pub same : drained sending stream ≡ whole
  pub few : length stream.waiting ≤ n

pub starts : (whole : Sending × Stream) (sending : Sending) (stream : Stream) (n : ℕ) → drained sending stream ≡ whole → n ≡ length stream.waiting → AreDrained whole sending stream n
starts whole sending stream n e en = record { same = e; few = omega (arith, en) }

pub at_end : (whole : Sending × Stream) (sending : Sending) (stream : Stream) (n : ℕ) → n ≡ 0 → AreDrained whole sending stream n → (sending, stream) ≡ whole
unfolding drained_from
at_end whole sending stream n en left =
    let none : stream.waiting ≡ [] = nothing stream.waiting (omega (arith, left.few)) in
    ap (λ (x : List Waiting). (sending, holding x stream)) none ∙ rw none at left.same

pub is_done : (whole : Sending × Stream) (sending : Sending) (stream new : Stream) (n : ℕ) → slice_get stream.waiting 0 ≡ None → new ≡ holding (drop 1 stream.waiting) stream → AreDrained whole sending stream n → (sending, new) ≡ whole
unfolding drained_from
is_done whole sending stream new n e en left =
    let none : stream.waiting ≡ [] = none_left stream.waiting e in
    ap (λ (x : Stream). (sending, x)) en ∙ ap (λ (x : List Waiting). (sending, holding (drop 1 x) stream)) none ∙ rw none at left.same

-- what comes first, and the rest
split : (whole : Sending × Stream) (sending : Sending) (stream : Stream) (n : ℕ) (first : Waiting) → slice_get stream.waiting 0 ≡ Some first → AreDrained whole sending stream n → drained_from sending stream (first ∷ drop 1 stream.waiting) ≡ whole
split whole sending stream n first e left = ap (λ x. drained_from sending stream x) (sym (front stream.waiting first e)) ∙ left.same

fewer : (waiting : List Waiting) (first : Waiting) (n more : ℕ) → slice_get waiting 0 ≡ Some first → length waiting ≤ n → n ≡ suc more → length (drop 1 waiting) ≤ more
fewer [] first n more e le en = absurd cc
fewer (x ∷ waiting) first n more e le en = omega arith

pub goes_on : (whole : Sending × Stream) (sending new_sending : Sending) (stream taken new : Stream) (n more : ℕ) (first : Waiting) → n ≡ suc more → slice_get stream.waiting 0 ≡ Some first
    → taken ≡ holding (drop 1 stream.waiting) stream → GoesOut first sending taken new_sending new None
    → AreDrained whole sending stream n → AreDrained whole new_sending new more
unfolding drained_from
goes_on whole sending new_sending stream taken new n more (waitings.Data message) en e et out left =
    let held = drop 1 stream.waiting in
    let fits : nat_lt (allowance sending stream) (length message) ≡ false = rw et at out.0 in
    let next : drained_from (with_data stream.number message sending) (spent (length message) stream) held ≡ whole = rw fits at (split whole sending stream n (waitings.Data message) e left) in
    rw (out.1, out.2, et) (record {
      same = unaware (with_data stream.number message sending) (spent (length message) stream) held held ∙ next;
      few = fewer stream.waiting (waitings.Data message) n more e left.few en;
    })
goes_on whole sending new_sending stream taken new n more (waitings.Headers block true) en e et out left =
    rw (out.0, out.1, et) (record {
      same = unaware (with_block stream.number true block sending) (ended_if true stream) (drop 1 stream.waiting) (drop 1 stream.waiting) ∙ split whole sending stream n (waitings.Headers block true) e left;
      few = fewer stream.waiting (waitings.Headers block true) n more e left.few en;
    })
goes_on whole sending new_sending stream taken new n more (waitings.Headers block false) en e et out left =
    rw (out.0, out.1, et) (record {
      same = unaware (with_block stream.number false block sending) stream (drop 1 stream.waiting) (drop 1 stream.waiting) ∙ split whole sending stream n (waitings.Headers block false) e left;
      few = fewer stream.waiting (waitings.Headers block false) n more e left.few en;
    })

pub stays : (whole : Sending × Stream) (sending new_sending : Sending) (stream taken sent new : Stream) (n : ℕ) (first rest : Waiting) → slice_get stream.waiting 0 ≡ Some first
    → taken ≡ holding (drop 1 stream.waiting) stream → GoesOut first sending taken new_sending sent (Some rest) → new ≡ holding (rest ∷ sent.waiting) sent
    → AreDrained whole sending stream n → (new_sending, new) ≡ whole
unfolding drained_from
stays whole sending new_sending stream taken sent new n (waitings.Data message) (waitings.Data rest) e et out en left =
    let long : nat_lt (allowance sending stream) (length message) ≡ true = rw et at out.0 in
    rw (en, out.3, out.2, out.1, et) (rw long at (split whole sending stream n (waitings.Data message) e left))
stays whole sending new_sending stream taken sent new n (waitings.Data message) (waitings.Headers block end_stream) e et out en left = absurd out
stays whole sending new_sending stream taken sent new n (waitings.Headers block end_stream) rest e et out en left = absurd out
