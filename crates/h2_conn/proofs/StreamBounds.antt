-- How many streams there are, and what waits on them, behind a change of them.
use Rattle.std.proofs.Common.{◌≡◌, ℕ, suc, ◌+◌, ◌≤◌, ◌==◌, Bool, true, false, cond, List, [], ◌∷◌, length, take, drop, length-drop, Some, None, refl, ap, ap₂, ◌∙◌, arith}
use Rattle.std.specs.Prelude.{not, ◌&&◌, ◌||◌, nat_lt, sum_by, All, filter}
use Rattle.std.specs.List.{list_any}
use Rattle.std.proofs.lemmas.Bool.{cond_both, not-true, and_parts}
use Rattle.std.proofs.lemmas.List.Sums.{sum_by-cons, sum_by_push, length-filter, count_by-le-length}
use Rattle.std.proofs.lemmas.List.Filters.{sum_by-filter_both}
use Rattle.std.proofs.lemmas.List.Elements.{All-weaker, filter_passes}
use Rattle.std.proofs.lemmas.Map.Views.{any-filter_same}
use Rattle.h2_streams.specs.declared.stream.Stream.{Stream}
use Rattle.h2_streams.specs.declared.stream.Waiting.{Waiting}
use Rattle.h2_streams.specs.declared.stream.Waiting.TheVariants as waitings
use Rattle.h2_streams.specs.Streams.{is_over, stream_at, changed, open_count, swept, queued, spent}
use Rattle.h2_streams.specs.Sending.{Sending, with_data, with_block, allowance, ended_if, drained_from, drained, flushed}
use Rattle.h2_conn.specs.Bounds.{waiting_size, load, IsLive}

-- 1 where this side can still send on the stream
abbrev pub openness : Stream → ℕ
openness stream = cond (not stream.ended) 1 0

-- these streams are no more than those, but that so much more waits
pub record AreFewer (more : ℕ) (old new : List Stream) : Type 0 where
  pub sendable : open_count new ≤ open_count old
  pub count : length new ≤ length old
  pub waiting : sum_by load new ≤ sum_by load old + more

pub fewer_same : (streams : List Stream) → AreFewer 0 streams streams
fewer_same streams = record { sendable = omega arith; count = omega arith; waiting = omega arith }

pub fewer_joined : (more : ℕ) (first second third : List Stream) → AreFewer more first second → AreFewer 0 second third → AreFewer more first third
fewer_joined more first second third a b = record { sendable = omega (arith, a.sendable, b.sendable); count = omega (arith, a.count, b.count); waiting = omega (arith, a.waiting, b.waiting) }

-- ---- a change of one stream

length_changed : (number : ℕ) (change : Stream → Stream) (streams : List Stream) → length (changed number change streams) ≡ length streams
unfolding changed
length_changed number change [] = refl
length_changed number change (stream ∷ streams) =
    cond_both (stream.number == number) (change stream ∷ streams) (stream ∷ changed number change streams) (λ (x : List Stream). length x ≡ length (stream ∷ streams)) (λ e. refl) (λ e. ap suc (length_changed number change streams))

sum_changed : (f : Stream → ℕ) (change : Stream → Stream) (more number : ℕ) → ((s : Stream) → f (change s) ≤ f s + more) → (streams : List Stream) → sum_by f (changed number change streams) ≤ sum_by f streams + more
unfolding changed
sum_changed f change more number each [] = omega arith
sum_changed f change more number each (stream ∷ streams) =
    let rest = sum_changed f change more number each streams in
    let here = each stream in
    cond_both (stream.number == number) (change stream ∷ streams) (stream ∷ changed number change streams) (λ (x : List Stream). sum_by f x ≤ sum_by f (stream ∷ streams) + more)
    (λ e. omega (arith, sum_by-cons f stream streams, sum_by-cons f (change stream) streams, here))
    (λ e. omega (arith, sum_by-cons f stream streams, sum_by-cons f stream (changed number change streams), rest))

pub fewer_changed : (change : Stream → Stream) (more number : ℕ) → ((s : Stream) → openness (change s) ≤ openness s + 0) → ((s : Stream) → load (change s) ≤ load s + more) → (streams : List Stream) → AreFewer more streams (changed number change streams)
fewer_changed change more number opens loads streams = record {
  sendable = omega (arith, sum_changed openness change 0 number opens streams);
  count = omega (arith, length_changed number change streams);
  waiting = sum_changed load change more number loads streams;
}

pub load_queued : (waiting : Waiting) (end_stream : Bool) (stream : Stream) → load (queued waiting end_stream stream) ≤ load stream + waiting_size waiting
load_queued waiting end_stream stream = omega (arith, sum_by_push waiting_size stream.waiting waiting)

-- ---- streams that are let go of

sum_filter : (f : Stream → ℕ) (p : Stream → Bool) (streams : List Stream) → sum_by f (filter p streams) ≤ sum_by f streams
sum_filter f p streams = omega (arith, sum_by-filter_both p (λ x. not (p x)) (λ x. refl) f streams)

pub fewer_swept : (streams : List Stream) → AreFewer 0 streams (swept streams)
fewer_swept streams = record {
  sendable = sum_filter openness (λ s. not (is_over s)) streams;
  count = omega (arith, length-filter (λ s. not (is_over s)) streams, count_by-le-length (λ s. not (is_over s)) streams);
  waiting = omega (arith, sum_filter load (λ s. not (is_over s)) streams);
}

pub all_live : (streams : List Stream) → All IsLive (swept streams)
all_live streams = All-weaker (λ s. not (is_over s) ≡ true) IsLive (λ s e. not-true (is_over s) e) (swept streams) (filter_passes (λ s. not (is_over s)) streams)

-- ---- what goes out

-- these are the same of a stream
pub record SameName (old new : Stream) : Type 0 where
  pub number : new.number ≡ old.number
  pub peer_ended : new.peer_ended ≡ old.peer_ended

-- what drains of a stream
record IsDrained (waiting : List Waiting) (old new : Stream) : Type 0 where
  pub same : SameName old new
  pub sendable : openness new ≤ openness old
  pub waits : load new ≤ sum_by waiting_size waiting

ended_open : (end_stream : Bool) (stream : Stream) → openness (ended_if end_stream stream) ≤ openness stream
ended_open true stream = omega arith
ended_open false stream = omega arith

ended_same : (end_stream : Bool) (stream : Stream) → SameName stream (ended_if end_stream stream)
ended_same true stream = record { number = refl; peer_ended = refl }
ended_same false stream = record { number = refl; peer_ended = refl }

longer : (first : Waiting) (waiting : List Waiting) (old middle new : Stream) → SameName old middle → openness middle ≤ openness old → IsDrained waiting middle new → IsDrained (first ∷ waiting) old new
longer first waiting old middle new s o d = record {
  same = record { number = d.same.number ∙ s.number; peer_ended = d.same.peer_ended ∙ s.peer_ended };
  sendable = omega (arith, d.sendable, o);
  waits = omega (arith, d.waits, sum_by-cons waiting_size first waiting);
}

part_left : (message : List ℕ) (waiting : List Waiting) (stream : Stream) (count : ℕ) → IsDrained (waitings.Data message ∷ waiting) stream (record (spent count stream) { waiting = waitings.Data (drop count message) ∷ waiting })
part_left message waiting stream count = record {
  same = record { number = refl; peer_ended = refl };
  sendable = omega arith;
  waits = omega (arith, sum_by-cons waiting_size (waitings.Data message) waiting, sum_by-cons waiting_size (waitings.Data (drop count message)) waiting, length-drop count message);
}

is_drained : (waiting : List Waiting) (sending : Sending) (stream : Stream) → IsDrained waiting stream (drained_from sending stream waiting).1
unfolding drained_from
is_drained [] sending stream = record { same = record { number = refl; peer_ended = refl }; sendable = omega arith; waits = omega arith }
is_drained (waitings.Data message ∷ waiting) sending stream =
    let count = allowance sending stream in
    let next = spent (length message) stream in
    cond_both (nat_lt count (length message))
    (with_data stream.number (take count message) sending, record (spent count stream) { waiting = waitings.Data (drop count message) ∷ waiting })
    (drained_from (with_data stream.number message sending) next waiting)
    (λ (x : Sending × Stream). IsDrained (waitings.Data message ∷ waiting) stream x.1)
    (λ e. part_left message waiting stream count)
    (λ e. longer (waitings.Data message) waiting stream next (drained_from (with_data stream.number message sending) next waiting).1 (record { number = refl; peer_ended = refl }) (omega arith) (is_drained waiting (with_data stream.number message sending) next))
is_drained (waitings.Headers block end_stream ∷ waiting) sending stream =
    let next = ended_if end_stream stream in
    let out = with_block stream.number end_stream block sending in
    longer (waitings.Headers block end_stream) waiting stream next (drained_from out next waiting).1 (ended_same end_stream stream) (ended_open end_stream stream) (is_drained waiting out next)

sum_flushed : (f : Stream → ℕ) → ((sending : Sending) (s : Stream) → f (drained sending s).1 ≤ f s) → (streams : List Stream) (sending : Sending) → sum_by f (flushed sending streams).1 ≤ sum_by f streams
unfolding flushed
sum_flushed f each [] sending = omega arith
sum_flushed f each (stream ∷ streams) sending =
    let here = each sending stream in
    let rest = sum_flushed f each streams (drained sending stream).0 in
    omega (arith, sum_by-cons f stream streams, sum_by-cons f (drained sending stream).1 (flushed (drained sending stream).0 streams).1, here, rest)

length_flushed : (streams : List Stream) (sending : Sending) → length (flushed sending streams).1 ≡ length streams
unfolding flushed
length_flushed [] sending = refl
length_flushed (stream ∷ streams) sending = ap suc (length_flushed streams (drained sending stream).0)

pub fewer_flushed : (streams : List Stream) (sending : Sending) → AreFewer 0 streams (flushed sending streams).1
fewer_flushed streams sending = record {
  sendable = sum_flushed openness (λ out s. (is_drained s.waiting out s).sendable) streams sending;
  count = omega (arith, length_flushed streams sending);
  waiting = omega (arith, sum_flushed load (λ out s. (is_drained s.waiting out s).waits) streams sending);
}

-- ---- a stream that the peer has not ended stays

abbrev pub is_kept : ℕ → List Stream → Bool
is_kept number streams = list_any (λ s. s.number == number && not s.peer_ended) streams

same_test : (number : ℕ) (old new : Stream) → SameName old new → (new.number == number && not new.peer_ended) ≡ (old.number == number && not old.peer_ended)
same_test number old new s = ap₂ (λ n b. n == number && not b) s.number s.peer_ended

pub kept_changed : (number other : ℕ) (change : Stream → Stream) → ((s : Stream) → SameName s (change s)) → (streams : List Stream) → is_kept number (changed other change streams) ≡ is_kept number streams
unfolding changed
kept_changed number other change each [] = refl
kept_changed number other change each (stream ∷ streams) =
    cond_both (stream.number == other) (change stream ∷ streams) (stream ∷ changed other change streams) (λ (x : List Stream). is_kept number x ≡ is_kept number (stream ∷ streams))
    (λ e. ap (λ b. b || is_kept number streams) (same_test number stream (change stream) (each stream)))
    (λ e. ap (λ b. (stream.number == number && not stream.peer_ended) || b) (kept_changed number other change each streams))

pub kept_flushed : (number : ℕ) (streams : List Stream) (sending : Sending) → is_kept number (flushed sending streams).1 ≡ is_kept number streams
unfolding flushed
kept_flushed number [] sending = refl
kept_flushed number (stream ∷ streams) sending =
    ap₂ (λ a b. a || b) (same_test number stream (drained sending stream).1 (is_drained stream.waiting sending stream).same) (kept_flushed number streams (drained sending stream).0)

not_over : (number : ℕ) (s : Stream) → (s.number == number && not s.peer_ended) ≡ true → not (is_over s) ≡ true
not_over number s e = let unended = not-true s.peer_ended (and_parts (s.number == number) (not s.peer_ended) e).1 in rw unended refl

pub kept_swept : (number : ℕ) (streams : List Stream) → is_kept number (swept streams) ≡ is_kept number streams
kept_swept number streams = any-filter_same (λ s. s.number == number && not s.peer_ended) (λ s. not (is_over s)) true (λ s e. not_over number s e) streams

kept_at : (number : ℕ) (stream : Stream) (streams : List Stream) (found : Stream) (b : Bool) → (stream.number == number) ≡ b → stream_at number (stream ∷ streams) ≡ Some found → found.peer_ended ≡ false
    → (stream_at number streams ≡ Some found → is_kept number streams ≡ true) → is_kept number (stream ∷ streams) ≡ true
kept_at number stream streams found true eb e unended rest = let seen = rw eb at e in let same : stream ≡ found = cc in rw (eb, same, unended) refl
kept_at number stream streams found false eb e unended rest = rw eb (rest (rw eb at e))

pub kept_found : (number : ℕ) (streams : List Stream) (found : Stream) → stream_at number streams ≡ Some found → found.peer_ended ≡ false → is_kept number streams ≡ true
kept_found number [] found e unended = absurd cc
kept_found number (stream ∷ streams) found e unended = kept_at number stream streams found (stream.number == number) refl e unended (λ ee. kept_found number streams found ee unended)

some_is : (stream : Stream) → Some stream ≡ None → ⊥
some_is stream e = absurd cc

not_kept_at : (number : ℕ) (stream : Stream) (streams : List Stream) (b : Bool) → (stream.number == number) ≡ b → stream_at number (stream ∷ streams) ≡ None
    → (stream_at number streams ≡ None → is_kept number streams ≡ false) → is_kept number (stream ∷ streams) ≡ false
not_kept_at number stream streams true eb e rest = absurd (some_is stream (rw eb at e))
not_kept_at number stream streams false eb e rest = rw eb (rest (rw eb at e))

pub not_kept : (number : ℕ) (streams : List Stream) → stream_at number streams ≡ None → is_kept number streams ≡ false
not_kept number [] e = refl
not_kept number (stream ∷ streams) e = not_kept_at number stream streams (stream.number == number) refl e (not_kept number streams)
