-- How many bytes go out.
use Rattle.std.proofs.Common.{◌≡◌, ℕ, zero, suc, ◌+◌, ◌-◌, ◌*◌, ◌/◌, ◌%◌, ◌≤◌, ◌<◌, Bool, true, false, List, [], ◌∷◌, ◌++◌, length, take, drop, length-take, length-drop, None, refl, ap, ◌∙◌, arith}
use Rattle.std.specs.Prelude.{nat_lt, ◌==◌, sum_by}
use Rattle.std.proofs.lemmas.Bool.{cond_both, ltb-true, eqb-false}
use Rattle.std.proofs.lemmas.List.{length-append}
use Rattle.std.proofs.lemmas.List.Concat.{flat_map-cons}
use Rattle.std.proofs.lemmas.List.Sums.{sum_by-cons}
use Rattle.h2_frames.specs.declared.frame.Frame.{Frame}
use Rattle.h2_frames.specs.declared.frame.Frame.TheVariants as frames
use Rattle.h2_frames.specs.Layout.{payload_of, spelling}
use Rattle.canon_bytes.specs.Base128.{base_128}
use Rattle.canon_bytes.proofs.Base128Steps.{one_byte}
use Rattle.hpack_tables.specs.Writing.{update_bytes}
use Rattle.h2_streams.specs.declared.stream.Stream.{Stream}
use Rattle.h2_streams.specs.declared.stream.Waiting.{Waiting}
use Rattle.h2_streams.specs.declared.stream.Waiting.TheVariants as waitings
use Rattle.h2_streams.specs.Streams.{spent}
use Rattle.h2_streams.specs.Sending.{Sending, spellings, with_frames, data_frames, continuations, header_frames, told, with_block, with_data, allowance, ended_if, drained_from, drained, flushed}
use Rattle.h2_conn.specs.Bounds.{waiting_size, load}

positive : (n : ℕ) → (n ≡ 0 → ⊥) → 1 ≤ n
positive zero none = absurd (none refl)
positive (suc n) none = omega arith

-- ---- frames

pub length_spelling : (frame : Frame) → length (spelling frame) ≡ 9 + length (payload_of frame)
length_spelling frame = omega arith

pub frames_long : (frame : Frame) (frames : List Frame) → length (spellings (frame ∷ frames)) ≡ 9 + length (payload_of frame) + length (spellings frames)
frames_long frame frames =
    ap length (flat_map-cons spelling frame frames) ∙ length-append (spelling frame) (spellings frames) ∙ ap (λ n. n + length (spellings frames)) (length_spelling frame)

data_long : (n size stream : ℕ) (bytes : List ℕ) → 1 ≤ size → 1 ≤ length bytes → length (spellings (data_frames n size stream bytes)) ≤ 10 * length bytes
unfolding data_frames
data_long zero size stream bytes some long = omega (arith, frames_long (frames.Data stream false bytes) [], some, long)
data_long (suc n) size stream bytes some long =
    let front = frames.Data stream false (take size bytes) in
    cond_both (nat_lt size (length bytes)) (front ∷ data_frames n size stream (drop size bytes)) (frames.Data stream false bytes ∷ []) (λ (x : List Frame). length (spellings x) ≤ 10 * length bytes)
    (λ e. let less = ltb-true size (length bytes) e in
    omega (arith, frames_long front (data_frames n size stream (drop size bytes)), data_long n size stream (drop size bytes) some (omega (arith, less, length-drop size bytes)), length-take size bytes, length-drop size bytes, less, some))
    (λ e. omega (arith, frames_long (frames.Data stream false bytes) [], long))

continued_long : (n size stream : ℕ) (block : List ℕ) → 1 ≤ size → length (spellings (continuations n size stream block)) ≤ 9 + 10 * length block
unfolding continuations
continued_long zero size stream block some = omega (arith, frames_long (frames.Continuation stream true block) [])
continued_long (suc n) size stream block some =
    let front = frames.Continuation stream false (take size block) in
    cond_both (nat_lt size (length block)) (front ∷ continuations n size stream (drop size block)) (frames.Continuation stream true block ∷ []) (λ (x : List Frame). length (spellings x) ≤ 9 + 10 * length block)
    (λ e. let less = ltb-true size (length block) e in
    omega (arith, frames_long front (continuations n size stream (drop size block)), continued_long n size stream (drop size block) some, length-take size block, length-drop size block, less, some))
    (λ e. omega (arith, frames_long (frames.Continuation stream true block) []))

-- a header block, and an update of at most three bytes before it
header_long : (size stream most : ℕ) (end_stream : Bool) (block : List ℕ) → 16384 ≤ size → length block ≤ most + 3 → length (spellings (header_frames size stream end_stream block)) ≤ 12 + 10 * most
header_long size stream most end_stream block wide short =
    let front = frames.Headers stream end_stream false None (take size block) in
    let whole = frames.Headers stream end_stream true None block in
    let rest = continuations (length block) size stream (drop size block) in
    cond_both (nat_lt size (length block)) (front ∷ rest) (whole ∷ []) (λ (x : List Frame). length (spellings x) ≤ 12 + 10 * most)
    (λ e. let less = ltb-true size (length block) e in
    omega (arith, frames_long front rest, continued_long (length block) size stream (drop size block) (omega (arith, wide)), length-take size block, length-drop size block, less, wide, short))
    (λ e. omega (arith, frames_long whole [], short))

one_digit : (k value : ℕ) → value < 128 → length (base_128 k value) ≤ 1
unfolding base_128
one_digit zero value less = omega arith
one_digit (suc k) value less = rw (one_byte k value less) (omega arith)

two_digits : (k value : ℕ) → value < 16384 → length (base_128 k value) ≤ 2
unfolding base_128
two_digits zero value less = omega arith
two_digits (suc k) value less =
    let rest = one_digit k (value / 128) (omega (arith, less)) in
    cond_both (nat_lt value 128) (value ∷ []) ((value % 128 + 128) ∷ base_128 k (value / 128)) (λ (x : List ℕ). length x ≤ 2) (λ e. omega arith) (λ e. omega (arith, rest))

update_long : (size : ℕ) → size ≤ 4096 → length (update_bytes size) ≤ 3
update_long size small =
    let rest = two_digits 10 (size - 31) (omega (arith, small)) in
    cond_both (nat_lt size 31) ((32 + size) ∷ []) (63 ∷ base_128 10 (size - 31)) (λ (x : List ℕ). length x ≤ 3) (λ e. omega arith) (λ e. omega (arith, rest))

-- ---- what is to be sent

-- the settings of the peer are within their limits
pub record IsSane (sending : Sending) : Type 0 where
  pub wide : 16384 ≤ sending.max_frame
  pub small : sending.table_size ≤ 4096

told_long : (sending : Sending) (block : List ℕ) → IsSane sending → length (told sending block) ≤ length block + 3
told_long sending block sane =
    cond_both sending.update_due (update_bytes sending.table_size ++ block) block (λ (x : List ℕ). length x ≤ length block + 3)
    (λ e. omega (arith, length-append (update_bytes sending.table_size) block, update_long sending.table_size sane.small)) (λ e. omega arith)

-- so many bytes more are to be sent at most
pub record Adds (more : ℕ) (old new : Sending) : Type 0 where
  pub sane : IsSane new
  pub grown : length new.output ≤ length old.output + more

pub frame_adds : (frame : Frame) (sending : Sending) → IsSane sending → Adds (9 + length (payload_of frame)) sending (with_frames (frame ∷ []) sending)
frame_adds frame sending sane = record {
  sane = record { wide = sane.wide; small = sane.small };
  grown = omega (arith, length-append sending.output (spellings (frame ∷ [])), frames_long frame []);
}

data_adds : (stream : ℕ) (bytes : List ℕ) (sending : Sending) → IsSane sending → Adds (10 * length bytes) sending (with_data stream bytes sending)
data_adds stream bytes sending sane =
    let sent = spellings (data_frames (length bytes) sending.max_frame stream bytes) in
    let after : Sending = record sending { output = sending.output ++ sent; window = sending.window - length bytes } in
    cond_both (length bytes == 0) sending after (λ (x : Sending). Adds (10 * length bytes) sending x)
    (λ e. record { sane = sane; grown = omega arith })
    (λ e. let long : 1 ≤ length bytes = positive (length bytes) (eqb-false (length bytes) 0 e) in
    record {
      sane = record { wide = sane.wide; small = sane.small };
      grown = omega (arith, length-append sending.output sent, data_long (length bytes) sending.max_frame stream bytes (omega (arith, sane.wide)) long);
    })

block_adds : (stream : ℕ) (end_stream : Bool) (block : List ℕ) (sending : Sending) → IsSane sending → Adds (12 + 10 * length block) sending (with_block stream end_stream block sending)
block_adds stream end_stream block sending sane =
    let sent = spellings (header_frames sending.max_frame stream end_stream (told sending block)) in
    record {
      sane = record { wide = sane.wide; small = sane.small };
      grown = omega (arith, length-append sending.output sent, header_long sending.max_frame stream (length block) end_stream (told sending block) sane.wide (told_long sending block sane));
    }

-- ---- what waits goes out

-- what is to be sent and twelve times what waits is no more than before
record Drains (before : ℕ) (after : Sending × Stream) : Type 0 where
  pub sane : IsSane after.0
  pub held : length after.0.output + 12 * load after.1 ≤ before

drains_on : (less more : ℕ) (after : Sending × Stream) → less ≤ more → Drains less after → Drains more after
drains_on less more after le d = record { sane = d.sane; held = omega (arith, le, d.held) }

part_drains : (message : List ℕ) (waiting : List Waiting) (sending : Sending) (stream : Stream) (count : ℕ) → IsSane sending → count ≤ length message
    → Drains (length sending.output + 12 * sum_by waiting_size (waitings.Data message ∷ waiting)) (with_data stream.number (take count message) sending, record (spent count stream) { waiting = waitings.Data (drop count message) ∷ waiting })
part_drains message waiting sending stream count sane le =
    let adds = data_adds stream.number (take count message) sending sane in
    record {
      sane = adds.sane;
      held = omega (arith, adds.grown, length-take count message, length-drop count message, le, sum_by-cons waiting_size (waitings.Data message) waiting, sum_by-cons waiting_size (waitings.Data (drop count message)) waiting);
    }

drained_held : (waiting : List Waiting) (sending : Sending) (stream : Stream) → IsSane sending → Drains (length sending.output + 12 * sum_by waiting_size waiting) (drained_from sending stream waiting)
unfolding drained_from
drained_held [] sending stream sane = record { sane = sane; held = omega arith }
drained_held (waitings.Data message ∷ waiting) sending stream sane =
    let count = allowance sending stream in
    let next = with_data stream.number message sending in
    let adds = data_adds stream.number message sending sane in
    let before = length sending.output + 12 * sum_by waiting_size (waitings.Data message ∷ waiting) in
    cond_both (nat_lt count (length message))
    (with_data stream.number (take count message) sending, record (spent count stream) { waiting = waitings.Data (drop count message) ∷ waiting })
    (drained_from next (spent (length message) stream) waiting)
    (λ (x : Sending × Stream). Drains before x)
    (λ e. part_drains message waiting sending stream count sane (omega (arith, ltb-true count (length message) e)))
    (λ e. drains_on (length next.output + 12 * sum_by waiting_size waiting) before (drained_from next (spent (length message) stream) waiting)
    (omega (arith, adds.grown, sum_by-cons waiting_size (waitings.Data message) waiting)) (drained_held waiting next (spent (length message) stream) adds.sane))
drained_held (waitings.Headers block end_stream ∷ waiting) sending stream sane =
    let next = with_block stream.number end_stream block sending in
    let adds = block_adds stream.number end_stream block sending sane in
    drains_on (length next.output + 12 * sum_by waiting_size waiting) (length sending.output + 12 * sum_by waiting_size (waitings.Headers block end_stream ∷ waiting)) (drained_from next (ended_if end_stream stream) waiting)
    (omega (arith, adds.grown, sum_by-cons waiting_size (waitings.Headers block end_stream) waiting)) (drained_held waiting next (ended_if end_stream stream) adds.sane)

-- the same of all streams
pub record AllDrain (before : ℕ) (after : Sending × List Stream) : Type 0 where
  pub sane : IsSane after.0
  pub held : length after.0.output + 12 * sum_by load after.1 ≤ before

pub flushed_held : (streams : List Stream) (sending : Sending) → IsSane sending → AllDrain (length sending.output + 12 * sum_by load streams) (flushed sending streams)
unfolding flushed
flushed_held [] sending sane = record { sane = sane; held = omega arith }
flushed_held (stream ∷ streams) sending sane =
    let out = drained sending stream in
    let here = drained_held stream.waiting sending stream sane in
    let rest = flushed_held streams out.0 here.sane in
    record {
      sane = rest.sane;
      held = omega (arith, here.held, rest.held, sum_by-cons load stream streams, sum_by-cons load out.1 (flushed out.0 streams).1);
    }
