-- What the events of a connection make of the calls on it.
use Rattle.std.specs.Prelude.{◌≡◌, ℕ, ◌==◌, nat_le, Bool, true, false, if◌then◌else◌, List, [], ◌∷◌, ◌++◌, map, find, fold, length, slice_index_or, ◌<◌, Option, Some, None, Result, Ok, Err}
use Rattle.std.specs.List.{remove}
use Rattle.std.specs.Result.{is_err}
use Rattle.list_types.specs.declared.memory.NoMemory.{NoMemory}
use Rattle.hpack_tables.specs.declared.header.Header.{Header}
use Rattle.h2_conn.specs.declared.event.H2Event.{H2Event}
use Rattle.h2_conn.specs.declared.event.H2Event.TheVariants as h2_events
use Rattle.p4_types.specs.declared.calls.Method.{Method}
use Rattle.p4_types.specs.declared.calls.Method.TheVariants as methods
use Rattle.p4_types.specs.declared.code.Code.{Code}
use Rattle.p4_types.specs.declared.code.Code.TheVariants as codes_of
use Rattle.grpc_streams.specs.declared.event.GrpcEvent.{GrpcEvent}
use Rattle.grpc_streams.specs.declared.event.GrpcEvent.TheVariants as events
use Rattle.grpc_streams.specs.declared.event.GrpcRefusal.{GrpcRefusal}
use Rattle.grpc_streams.specs.declared.event.GrpcRefusal.TheVariants as refusals
use Rattle.grpc_streams.specs.declared.stream.CallStream.{CallStream}
use Rattle.grpc_streams.specs.declared.stream.Received.{Received}
use Rattle.grpc_streams.specs.declared.stream.Received.TheVariants as received
use Rattle.grpc_streams.specs.declared.table.OpenCalls.{OpenCalls}
use Rattle.grpc_streams.specs.declared.splitting.Split.{Split}
use Rattle.grpc_streams.specs.Messages.{split_of}
use Rattle.grpc_streams.specs.Requests.{judged}

-- ---- the calls that are open

-- nothing has come
abbrev pub no_calls : OpenCalls
no_calls = record { greatest = 0; channel = None; streams = [] }

-- the stream of this number, if a call is open on it
abbrev pub stream_at : ℕ → List CallStream → Option CallStream
stream_at number streams = find (λ stream. stream.number == number) streams

-- the streams without the first of this number
unfoldable pub without : ℕ → List CallStream → List CallStream
without number [] = []
without number (stream ∷ streams) = if stream.number == number then streams else stream ∷ without number streams

-- the stream of this number stands at this place, seen at any default
pub record IsPlace (number : ℕ) (streams : List CallStream) (place : ℕ) : Type 0 where
  pub within : place < length streams
  pub found : (d : CallStream) → stream_at number streams ≡ Some (slice_index_or streams place d)
  pub others : without number streams ≡ remove streams place

-- the stream of this number is as this one
abbrev pub with_stream : ℕ → CallStream → OpenCalls → OpenCalls
with_stream number stream calls = record calls { streams = without number calls.streams ++ stream ∷ [] }

-- the stream, if anything more is read on it
abbrev pub still_read : Option CallStream → Option CallStream
still_read None = None
still_read (Some stream) = if stream.finished then None else Some stream

-- a stream on which a method is asked for
abbrev pub opened : ℕ → Method → CallStream
opened number method = record { number = number; method = method; unread = []; received = received.Nothing; finished = false; begun = false }

-- the one method whose messages come one by one
abbrev pub is_channel : Method → Bool
is_channel methods.StreamChannel = true
is_channel method = false

-- this is the number
abbrev pub is_this : ℕ → Option ℕ → Bool
is_this number None = false
is_this number (Some channel) = channel == number

-- the open channel, unless it is this one
abbrev pub channel_without : ℕ → Option ℕ → Option ℕ
channel_without number channel = if is_this number channel then None else channel

-- the calls once this one is over: answered, or reset
abbrev pub over : ℕ → OpenCalls → OpenCalls
over number calls = record calls { channel = channel_without number calls.channel; streams = without number calls.streams }

-- What taking a stream out gives, and leaves. Where there is none, nothing changes.
abbrev pub TakesOut : ℕ → Option CallStream → List CallStream → List CallStream → Type 0
TakesOut number None old new = (stream_at number old ≡ None) × (new ≡ old)
TakesOut number (Some stream) old new = (stream_at number old ≡ Some stream) × (new ≡ without number old)

-- the same of a stream on which something more is read
abbrev pub TakesRead : ℕ → Option CallStream → OpenCalls → OpenCalls → Type 0
TakesRead number None old new = (still_read (stream_at number old.streams) ≡ None) × (new ≡ old)
TakesRead number (Some stream) old new = (still_read (stream_at number old.streams) ≡ Some stream) × (new ≡ record old { streams = without number old.streams })

-- ---- HEADERS: the first of a stream ask for a method, later ones say nothing

abbrev pub requested : ℕ → Result Method GrpcRefusal → OpenCalls → OpenCalls × List GrpcEvent
requested number (Err refusal) calls = (calls, events.Refused number refusal ∷ [])
requested number (Ok method) calls = (record calls { channel = if is_channel method then Some number else calls.channel; streams = calls.streams ++ opened number method ∷ [] }, [])

unfoldable pub headers_taken : ℕ → List Header → OpenCalls → OpenCalls × List GrpcEvent
headers_taken number headers calls = if nat_le number calls.greatest then (calls, []) else requested number (judged calls.channel headers) (record calls { greatest = number })

-- ---- DATA: messages, or the refusal of one

-- one message more
abbrev pub one_more : Received → List ℕ → Received
one_more received.Nothing message = received.One message
one_more (received.One first) message = received.More
one_more received.More message = received.More

-- all these messages more
abbrev pub with_messages : Received → List (List ℕ) → Received
with_messages before messages = fold one_more before messages

-- the bytes behind whole messages, where they are not refused
abbrev pub kept : Result (List ℕ) Code → List ℕ
kept (Ok rest) = rest
kept (Err code) = []

-- what is refused behind whole messages
abbrev pub refusal_of : ℕ → Result (List ℕ) Code → List GrpcEvent
refusal_of number (Ok rest) = []
refusal_of number (Err code) = events.Refused number (refusals.Status code) ∷ []

-- Each message of the channel makes a call by itself; another method waits for the end of the stream.
abbrev pub read_on : CallStream → Split → CallStream
read_on stream split = record stream { unread = kept split.rest; finished = is_err split.rest; received = if is_channel stream.method then stream.received else with_messages stream.received split.messages }

abbrev pub read_events : ℕ → Method → Split → List GrpcEvent
read_events number method split = (if is_channel method then map (λ message. events.Message number method message) split.messages else []) ++ refusal_of number split.rest

unfoldable pub data_taken : ℕ → List ℕ → OpenCalls → Option CallStream → OpenCalls × List GrpcEvent
data_taken number bytes calls None = (calls, [])
data_taken number bytes calls (Some stream) = (with_stream number (read_on stream (split_of (stream.unread ++ bytes))) calls, read_events number stream.method (split_of (stream.unread ++ bytes)))

-- ---- the end of a stream, and its reset

-- the open channel is closed by the peer, if it is this one
abbrev pub closing : ℕ → OpenCalls → List GrpcEvent
closing number calls = if is_this number calls.channel then events.Closed number ∷ [] else []

-- The call of another method than the channel: its one message, where nothing else was sent.
abbrev pub whole_call : ℕ → Method → List ℕ → Received → GrpcEvent
whole_call number method [] (received.One message) = events.Message number method message
whole_call number method unread others = events.Refused number (refusals.Status codes_of.InvalidArgument)

-- nothing more is read on a stream
abbrev pub finished : CallStream → CallStream
finished stream = record stream { unread = []; received = received.Nothing; finished = true }

-- A cut-off message of the channel is dropped.
unfoldable pub end_taken : ℕ → OpenCalls → Option CallStream → OpenCalls × List GrpcEvent
end_taken number calls None = (calls, [])
end_taken number calls (Some stream) = (
  with_stream number (finished stream) (record calls { channel = channel_without number calls.channel }),
  if is_channel stream.method then closing number calls else whole_call number stream.method stream.unread stream.received ∷ [],
)

abbrev pub reset_taken : ℕ → OpenCalls → OpenCalls × List GrpcEvent
reset_taken number calls = (over number calls, closing number calls)

-- ---- events

-- what an event of the connection makes of the calls, and the events that it gives
abbrev pub taken : H2Event → OpenCalls → OpenCalls × List GrpcEvent
taken (h2_events.Headers number headers) calls = headers_taken number headers calls
taken (h2_events.Data number bytes) calls = data_taken number bytes calls (still_read (stream_at number calls.streams))
taken (h2_events.End number) calls = end_taken number calls (still_read (stream_at number calls.streams))
taken (h2_events.Reset number) calls = reset_taken number calls

-- what events make of them one after another, and all events that they give
unfoldable pub all_taken : List H2Event → OpenCalls → OpenCalls × List GrpcEvent
all_taken [] calls = (calls, [])
all_taken (event ∷ rest) calls = ((all_taken rest (taken event calls).0).0, (taken event calls).1 ++ (all_taken rest (taken event calls).0).1)

-- What a call over the calls gives is what the definition says. Without memory they are lost, and each later call finds none either.
abbrev pub Gives : Result (List GrpcEvent) NoMemory → Option OpenCalls → Option OpenCalls → H2Event → Type 0
Gives (Ok given) (Some old) new event = (new ≡ Some (taken event old).0) × (given ≡ (taken event old).1)
Gives (Ok given) None new event = ⊥
Gives (Err e) old new event = new ≡ None
