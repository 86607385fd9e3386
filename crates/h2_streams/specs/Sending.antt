-- What a connection sends, and what waits for a window (RFC 9113, sections 4.3, 5.2, 6.1, 6.2, 6.9 and 6.10).
use Rattle.std.specs.Prelude.{◌≡◌, Option, Some, ℕ, zero, suc, ◌-◌, min, ◌==◌, nat_lt, Bool, true, false, if◌then◌else◌, List, [], ◌∷◌, ◌++◌, length, take, drop, None}
use Rattle.std.specs.List.{flat_map}
use Rattle.h2_frames.specs.declared.frame.Frame.{Frame}
use Rattle.h2_frames.specs.declared.frame.Frame.TheVariants as frames
use Rattle.h2_frames.specs.Layout.{spelling}
use Rattle.hpack_tables.specs.Writing.{update_bytes}
use Rattle.h2_streams.specs.declared.stream.Stream.{Stream}
use Rattle.h2_streams.specs.declared.stream.Waiting.{Waiting}
use Rattle.h2_streams.specs.declared.stream.Waiting.TheVariants as waitings
use Rattle.h2_streams.specs.Streams.{window_of, spent}

-- what the peer lets this side send, and what is to be sent
pub record Sending : Type 0 where
  -- the connection's window
  pub window : ℕ
  -- the initial size of a stream's window
  pub initial_window : ℕ
  -- the longest payload
  pub max_frame : ℕ
  -- the size of the dynamic table for the header blocks that are sent, and whether the peer is still to be told of it
  pub table_size : ℕ
  pub update_due : Bool
  -- the bytes that are to be sent
  pub output : List ℕ

-- nothing is to be sent, and nothing was heard of the peer's settings
abbrev pub fresh : Sending
fresh = record { window = 65535; initial_window = 65535; max_frame = 16384; table_size = 4096; update_due = false; output = [] }

-- the bytes of frames
abbrev pub spellings : List Frame → List ℕ
spellings frames = flat_map spelling frames

-- these frames are to be sent
abbrev pub with_frames : List Frame → Sending → Sending
with_frames frames sending = record sending { output = sending.output ++ spellings frames }

-- DATA frames of these bytes, the last of which may be shorter than the longest payload. There are at most so many before it.
unfoldable pub data_frames : ℕ → ℕ → ℕ → List ℕ → List Frame
data_frames zero size stream bytes = frames.Data stream false bytes ∷ []
data_frames (suc more) size stream bytes = if nat_lt size (length bytes) then frames.Data stream false (take size bytes) ∷ data_frames more size stream (drop size bytes) else frames.Data stream false bytes ∷ []

-- CONTINUATION frames of the rest of a header block, at most so many before the last
unfoldable pub continuations : ℕ → ℕ → ℕ → List ℕ → List Frame
continuations zero size stream block = frames.Continuation stream true block ∷ []
continuations (suc more) size stream block = if nat_lt size (length block) then frames.Continuation stream false (take size block) ∷ continuations more size stream (drop size block) else frames.Continuation stream true block ∷ []

-- a header block as HEADERS, and CONTINUATION where it is longer than a payload may be
abbrev pub header_frames : ℕ → ℕ → Bool → List ℕ → List Frame
header_frames size stream end_stream block =
    if nat_lt size (length block) then frames.Headers stream end_stream false None (take size block) ∷ continuations (length block) size stream (drop size block) else frames.Headers stream end_stream true None block ∷ []

-- a header block as it is sent: where the peer is to be told of a smaller table, that comes first
abbrev pub told : Sending → List ℕ → List ℕ
told sending block = if sending.update_due then update_bytes sending.table_size ++ block else block

-- a header block is sent on a stream
abbrev pub with_block : ℕ → Bool → List ℕ → Sending → Sending
with_block stream end_stream block sending = record (with_frames (header_frames sending.max_frame stream end_stream (told sending block)) sending) { update_due = false }

-- data is sent on a stream; no byte sends no frame
abbrev pub with_data : ℕ → List ℕ → Sending → Sending
with_data stream bytes sending = if length bytes == 0 then sending else record (with_frames (data_frames (length bytes) sending.max_frame stream bytes) sending) { window = sending.window - length bytes }

-- how many bytes may be sent on a stream now
abbrev pub allowance : Sending → Stream → ℕ
allowance sending stream = min sending.window (window_of sending.initial_window stream)

-- the stream, on which this side has ended where the flag says so
abbrev pub ended_if : Bool → Stream → Stream
ended_if end_stream stream = if end_stream then record stream { ended = true } else stream

-- What waits on a stream goes out in its order, as far as the windows allow: of a message that is longer than they allow as much as they do, and what is behind it waits on.
unfoldable pub drained_from : Sending → Stream → List Waiting → Sending × Stream
drained_from sending stream [] = (sending, record stream { waiting = [] })
drained_from sending stream (waitings.Data message ∷ waiting) =
    if nat_lt (allowance sending stream) (length message)
    then (with_data stream.number (take (allowance sending stream) message) sending, record (spent (allowance sending stream) stream) { waiting = waitings.Data (drop (allowance sending stream) message) ∷ waiting })
    else drained_from (with_data stream.number message sending) (spent (length message) stream) waiting
drained_from sending stream (waitings.Headers block end_stream ∷ waiting) = drained_from (with_block stream.number end_stream block sending) (ended_if end_stream stream) waiting

-- what waits on a stream goes out
abbrev pub drained : Sending → Stream → Sending × Stream
drained sending stream = drained_from sending stream stream.waiting

-- what waits on the streams goes out, by their order
unfoldable pub flushed : Sending → List Stream → Sending × List Stream
flushed sending [] = (sending, [])
flushed sending (stream ∷ streams) = ((flushed (drained sending stream).0 streams).0, (drained sending stream).1 ∷ (flushed (drained sending stream).0 streams).1)

-- What waits first goes out as far as the windows allow, and this is left of it. It is taken from the stream before, and the stream holds what is behind it.
abbrev pub GoesOut : Waiting → Sending → Stream → Sending → Stream → Option Waiting → Type 0
GoesOut (waitings.Data message) old stream new next None = (nat_lt (allowance old stream) (length message) ≡ false) × (new ≡ with_data stream.number message old) × (next ≡ spent (length message) stream)
GoesOut (waitings.Data message) old stream new next (Some (waitings.Data rest)) =
    (nat_lt (allowance old stream) (length message) ≡ true) × (rest ≡ drop (allowance old stream) message)
    × (new ≡ with_data stream.number (take (allowance old stream) message) old) × (next ≡ spent (allowance old stream) stream)
GoesOut (waitings.Headers block end_stream) old stream new next None = (new ≡ with_block stream.number end_stream block old) × (next ≡ ended_if end_stream stream)
GoesOut (waitings.Data message) old stream new next (Some (waitings.Headers block end_stream)) = ⊥
GoesOut (waitings.Headers block end_stream) old stream new next (Some rest) = ⊥
