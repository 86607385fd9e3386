-- What answers make a connection send (gRPC over HTTP/2, "Responses").
use Rattle.std.specs.Prelude.{◌≡◌, ℕ, ◌==◌, ◌||◌, not, Bool, true, false, if◌then◌else◌, List, [], ◌∷◌, ◌++◌, length, fold, Option, Some, None, Result, Ok, Err}
use Rattle.list_types.specs.declared.memory.NoMemory.{NoMemory}
use Rattle.hpack_tables.specs.declared.header.Header.{Header}
use Rattle.h2_conn.specs.declared.phase.Phase.{Phase}
use Rattle.h2_conn.specs.Sends.{headers_sent, data_sent}
use Rattle.p4_types.specs.declared.code.Code.{Code}
use Rattle.p4_types.specs.declared.code.Code.TheVariants as codes_of
use Rattle.grpc_streams.specs.declared.event.GrpcRefusal.{GrpcRefusal}
use Rattle.grpc_streams.specs.declared.event.GrpcRefusal.TheVariants as refusals
use Rattle.grpc_streams.specs.declared.stream.CallStream.{CallStream}
use Rattle.grpc_streams.specs.declared.table.OpenCalls.{OpenCalls}
use Rattle.grpc_streams.specs.Messages.{framed}
use Rattle.grpc_streams.specs.Taking.{stream_at, with_stream, over, is_channel}
use Rattle.grpc_streams.specs.Answers.{response_headers, unsupported, status_header, explained}

-- ---- what goes out on a stream, of whose answer the headers were sent or not

-- the headers of an answer, unless they were sent
abbrev pub unsent : Bool → List Header
unsent was_begun = if was_begun then [] else response_headers

-- they go out first
abbrev pub begun : ℕ → Bool → Phase → Phase
begun number was_begun conn = if was_begun then conn else headers_sent number response_headers false conn

-- messages, one after another
abbrev pub messages_sent : ℕ → List (List ℕ) → Phase → Phase
messages_sent number messages conn = fold (λ before message. data_sent number (framed message) before) conn messages

-- an answer to its end: headers, messages, and the trailers of OK
abbrev pub completed : ℕ → Bool → List (List ℕ) → Phase → Phase
completed number was_begun messages conn = headers_sent number (status_header codes_of.Ok ∷ []) true (messages_sent number messages (begun number was_begun conn))

-- A failure: where nothing was sent before it, headers and trailers are one.
abbrev pub failed : ℕ → Bool → Code → List Header → Phase → Phase
failed number was_begun code explanation conn = headers_sent number (unsent was_begun ++ status_header code ∷ [] ++ explanation) true conn

-- messages of a channel, with the headers of its answer before the first
abbrev pub delivered : ℕ → Bool → List (List ℕ) → Phase → Phase
delivered number was_begun [] conn = conn
delivered number was_begun (message ∷ messages) conn = messages_sent number (message ∷ messages) (begun number was_begun conn)

-- ---- the same over the calls that are open

-- the headers of a call's answer were sent
abbrev pub was_begun : Option CallStream → Bool
was_begun None = false
was_begun (Some stream) = stream.begun

-- the call is a channel's
abbrev pub is_on_channel : Option CallStream → Bool
is_on_channel None = false
is_on_channel (Some stream) = is_channel stream.method

-- the call succeeded
abbrev pub is_ok : Code → Bool
is_ok codes_of.Ok = true
is_ok code = false

-- messages were sent on a channel
abbrev pub delivering : CallStream → List (List ℕ) → CallStream
delivering stream messages = record stream { begun = stream.begun || not (length messages == 0) }

-- the same over the calls
abbrev pub marked : ℕ → List (List ℕ) → Option CallStream → OpenCalls → OpenCalls
marked number messages None calls = calls
marked number messages (Some stream) calls = with_stream number (delivering stream messages) calls

-- An answer of OK ends the stream, but for the channel's, which stays open.
abbrev pub answered : ℕ → List (List ℕ) → Option CallStream → OpenCalls → Phase → OpenCalls × Phase
answered number messages found calls conn =
    if is_on_channel found
    then (marked number messages found calls, delivered number (was_begun found) messages conn)
    else (over number calls, completed number (was_begun found) messages conn)

-- Each other code ends the stream, and so closes the channel.
unfoldable pub reply_spelled : ℕ → Code → List (List ℕ) → OpenCalls → Phase → OpenCalls × Phase
reply_spelled number code messages calls conn =
    if is_ok code
    then answered number messages (stream_at number calls.streams) calls conn
    else (over number calls, failed number (was_begun (stream_at number calls.streams)) code (explained messages) conn)

-- a refusal ends the stream, and closes the channel where it came on it
unfoldable pub refusal_spelled : ℕ → GrpcRefusal → OpenCalls → Phase → OpenCalls × Phase
refusal_spelled number refusals.NotGrpc calls conn = (over number calls, headers_sent number unsupported true conn)
refusal_spelled number (refusals.Status code) calls conn = (over number calls, failed number (was_begun (stream_at number calls.streams)) code [] conn)

-- the answer to a channel that the peer has ended
abbrev pub end_spelled : ℕ → OpenCalls → Phase → OpenCalls × Phase
end_spelled number calls conn = (over number calls, completed number (was_begun (stream_at number calls.streams)) [] conn)

-- a message on a stream, if a call is open there
abbrev pub message_on : ℕ → List ℕ → Option CallStream → OpenCalls → Phase → OpenCalls × Phase
message_on number message None calls conn = (calls, conn)
message_on number message (Some stream) calls conn = (marked number (message ∷ []) (Some stream) calls, delivered number stream.begun (message ∷ []) conn)

-- a message on this channel, if there is one
abbrev pub message_to : List ℕ → Option ℕ → OpenCalls → Phase → OpenCalls × Phase
message_to message None calls conn = (calls, conn)
message_to message (Some number) calls conn = message_on number message (stream_at number calls.streams) calls conn

-- a message on the open channel
unfoldable pub message_spelled : List ℕ → OpenCalls → Phase → OpenCalls × Phase
message_spelled message calls conn = message_to message calls.channel calls conn

-- the open channel
abbrev pub channel_of : Option OpenCalls → Option ℕ
channel_of None = None
channel_of (Some calls) = calls.channel

-- What a call over the calls sends is what the definition says. Without memory they are lost, and each later call finds none either.
abbrev pub Spells : Result Unit NoMemory → Option OpenCalls → Phase → Option OpenCalls → Phase → (OpenCalls → Phase → OpenCalls × Phase) → Type 0
Spells (Ok x) (Some old) conn new after spelled = (new ≡ Some (spelled old conn).0) × (after ≡ (spelled old conn).1)
Spells (Ok x) None conn new after spelled = ⊥
Spells (Err e) old conn new after spelled = new ≡ None
