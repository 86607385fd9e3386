-- The streams of a connection and their windows (RFC 9113, sections 5.1, 5.2 and 6.9).
use Rattle.std.specs.Prelude.{◌≡◌, ◌<◌, length, Some, slice_index_or, slice_set, ℕ, ◌+◌, ◌-◌, ◌^◌, ◌&&◌, ◌||◌, ◌++◌, ◌==◌, not, nat_lt, Bool, true, if◌then◌else◌, List, [], ◌∷◌, find, count_by, filter, Option}
use Rattle.std.specs.List.{list_any}
use Rattle.h2_streams.specs.declared.stream.Stream.{Stream}
use Rattle.h2_streams.specs.declared.stream.Waiting.{Waiting}

-- the greatest size of a window
abbrev pub max_window : ℕ
max_window = 2 ^ 31 - 1

-- A stream that the peer opened, of which nothing has come yet behind its headers. Each side may send 65,535 bytes before the other gives it more, or changes the initial size.
abbrev pub opened : ℕ → Bool → Bool → Stream
opened number peer_ended ended = record { number = number; peer_ended = peer_ended; ended = ended; closing = ended; receive_window = 65535; credit = 0; debt = 0; waiting = [] }

-- the window for what is sent on a stream, 0 where it is negative: the initial size, and what was given beyond what was sent, or less what was sent beyond what was given
abbrev pub window_of : ℕ → Stream → ℕ
window_of initial stream = initial + stream.credit - stream.debt

-- the window is above the greatest size
abbrev pub is_too_wide : ℕ → Stream → Bool
is_too_wide initial stream = nat_lt (max_window + stream.debt) (initial + stream.credit)

-- so many bytes were sent on the stream
abbrev pub spent : ℕ → Stream → Stream
spent count stream = record stream { credit = stream.credit - count; debt = stream.debt + (count - stream.credit) }

-- the peer gave so many bytes more
abbrev pub granted : ℕ → Stream → Stream
granted count stream = record stream { credit = stream.credit + (count - stream.debt); debt = stream.debt - count }

-- both sides have ended the stream
abbrev pub is_over : Stream → Bool
is_over stream = stream.peer_ended && stream.ended

-- the stream of this number, if it is kept
abbrev pub stream_at : ℕ → List Stream → Option Stream
stream_at number streams = find (λ stream. stream.number == number) streams

-- the streams with the one of this number changed
unfoldable pub changed : ℕ → (Stream → Stream) → List Stream → List Stream
changed number change [] = []
changed number change (stream ∷ streams) = if stream.number == number then change stream ∷ streams else stream ∷ changed number change streams

-- the streams on which this side can still send
abbrev pub open_count : List Stream → ℕ
open_count streams = count_by (λ stream. not stream.ended) streams

-- the streams that one side at least has not ended
abbrev pub swept : List Stream → List Stream
swept streams = filter (λ stream. not (is_over stream)) streams

-- with this initial size the window of an open stream is above the greatest size
abbrev pub any_too_wide : ℕ → List Stream → Bool
any_too_wide initial streams = list_any (λ stream. not stream.ended && is_too_wide initial stream) streams

-- the stream of this number stands at this place, seen at any default
pub record IsPlace (number : ℕ) (streams : List Stream) (place : ℕ) : Type 0 where
  pub within : place < length streams
  pub found : (d : Stream) → stream_at number streams ≡ Some (slice_index_or streams place d)
  pub change : (change : Stream → Stream) (d : Stream) → changed number change streams ≡ slice_set streams place (change (slice_index_or streams place d))

-- A DATA frame of so many bytes came. The peer's window is full again behind it, unless a side has ended the stream.
abbrev pub received : ℕ → Bool → Stream → Stream
received count end_stream stream = record stream { peer_ended = end_stream; receive_window = if end_stream || stream.ended then stream.receive_window - count else stream.receive_window }

-- the peer has ended the stream, where the flag says so
abbrev pub ended_by_peer : Bool → Stream → Stream
ended_by_peer end_stream stream = record stream { peer_ended = end_stream }

-- both sides have ended the stream
abbrev pub reset : Stream → Stream
reset stream = record stream { peer_ended = true; ended = true }

-- this waits at the end, and this side ends the stream with it where the flag says so
abbrev pub queued : Waiting → Bool → Stream → Stream
queued waiting end_stream stream = record stream { waiting = stream.waiting ++ waiting ∷ []; closing = end_stream }
