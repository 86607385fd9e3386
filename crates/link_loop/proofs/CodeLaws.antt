-- Messages and overflows leave a connection without a breach one without a breach.
use Rattle.std.proofs.Common.{◌≡◌, ℕ, Bool, true, false, List, [], ◌∷◌, Option, Some, None, refl, ◌∙◌}
use Rattle.std.specs.Prelude.{if◌then◌else◌, fold, ◌&&◌, not}
use Rattle.h2_frames.specs.declared.codes.H2Code.{H2Code}
use Rattle.h2_streams.specs.declared.stream.Waiting.{Waiting}
use Rattle.h2_conn.specs.declared.phase.Phase.{Phase}
use Rattle.h2_conn.specs.declared.phase.Phase.TheVariants.{Open, Broken, OutOfMemory}
use Rattle.h2_conn.specs.Bytes.{code_of, without_output}
use Rattle.h2_conn.specs.Sends.{sent, data_sent}
use Rattle.grpc_streams.specs.declared.event.GrpcRefusal.TheVariants as refusals
use Rattle.grpc_streams.specs.declared.stream.CallStream.{CallStream}
use Rattle.grpc_streams.specs.declared.table.OpenCalls.{OpenCalls}
use Rattle.grpc_streams.specs.Messages.{framed}
use Rattle.grpc_streams.specs.Taking.{stream_at}
use Rattle.grpc_streams.specs.Spelling.{begun, messages_sent, message_on, message_to, message_spelled, refusal_spelled, channel_of}
use Rattle.p4_types.specs.declared.calls.Call.TheVariants as calls_of
use Rattle.p4_types.specs.declared.calls.Reply.{Reply}
use Rattle.p4_types.specs.declared.code.Code.TheVariants as codes_of
use Rattle.p4_types.specs.declared.messages.StreamMessageResponse.{StreamMessageResponse}
use Rattle.p4rt_service.specs.declared.link.Link.{Link}
use Rattle.p4rt_service.specs.Dialogues.{Dialogue, Ends, Asks, ◌>>=◌, Exchange, Runs}
use Rattle.p4rt_service.specs.Serving.{spelled_over, spelled, message_bytes, delivered, is_open}
use Rattle.p4rt_service.specs.Turns.{Served, Overflow, flushed, untold, closed_for_room, overflowed, message_served, turn_served}

-- ---- what is sent on a connection

sent_code : (number : ℕ) (waiting : Waiting) (end_stream : Bool) (phase : Phase) → code_of (sent number waiting end_stream phase) ≡ code_of phase
sent_code number waiting end_stream (Open conn) = refl
sent_code number waiting end_stream (Broken code output) = refl
sent_code number waiting end_stream OutOfMemory = refl

begun_code : (number : ℕ) (was_begun : Bool) (phase : Phase) → code_of (begun number was_begun phase) ≡ code_of phase
begun_code number true phase = refl
begun_code number false phase = sent_code number _ false phase

messages_code : (number : ℕ) (messages : List (List ℕ)) (phase : Phase) → code_of (messages_sent number messages phase) ≡ code_of phase
messages_code number [] phase = refl
messages_code number (message ∷ messages) phase = messages_code number messages (data_sent number (framed message) phase) ∙ sent_code number _ false phase

on_code : (number : ℕ) (message : List ℕ) (found : Option CallStream) (calls : OpenCalls) (phase : Phase) → code_of (message_on number message found calls phase).1 ≡ code_of phase
on_code number message None calls phase = refl
on_code number message (Some stream) calls phase = messages_code number (message ∷ []) (begun number stream.begun phase) ∙ begun_code number stream.begun phase

to_code : (message : List ℕ) (channel : Option ℕ) (calls : OpenCalls) (phase : Phase) → code_of (message_to message channel calls phase).1 ≡ code_of phase
to_code message None calls phase = refl
to_code message (Some number) calls phase = on_code number message (stream_at number calls.streams) calls phase

message_code : (message : List ℕ) (calls : OpenCalls) (phase : Phase) → code_of (message_spelled message calls phase).1 ≡ code_of phase
unfolding message_spelled
message_code message calls phase = to_code message calls.channel calls phase

refusal_code : (number : ℕ) (calls : OpenCalls) (phase : Phase) → code_of (refusal_spelled number (refusals.Status codes_of.ResourceExhausted) calls phase).1 ≡ code_of phase
unfolding refusal_spelled
refusal_code number calls phase = sent_code number _ true phase

without_code : (phase : Phase) → code_of (without_output phase) ≡ code_of phase
without_code (Open conn) = refl
without_code (Broken code output) = refl
without_code OutOfMemory = refl

-- ---- links

over_code : (calls : Option OpenCalls) (answer : OpenCalls → Phase → OpenCalls × Phase) (link : Link) → ((c : OpenCalls) (phase : Phase) → code_of (answer c phase).1 ≡ code_of phase) → code_of (spelled_over calls answer link).conn ≡ code_of link.conn
over_code None answer link f = refl
over_code (Some calls) answer link f = f calls link.conn

-- a message for the channel
pub message_keeps : (message : StreamMessageResponse) (link : Link) → code_of (message_served message (untold link)).link.conn ≡ code_of link.conn
message_keeps message link =
    without_code (delivered message link).conn ∙ over_code link.calls (message_spelled (message_bytes message)) link (message_code (message_bytes message))

-- ---- more waits than may

abbrev Always : {X : Type 0} → (X → Type 0) → Dialogue X → Type 0
Always holds (Ends x) = holds x
Always holds (Asks call by) = (reply : Reply) → Always holds (by reply)

then_always : {X Y : Type 0} (one : X → Type 0) (two : Y → Type 0) (first : Dialogue X) (next : X → Dialogue Y) → Always one first → ((x : X) → one x → Always two (next x)) → Always two (first >>= next)
then_always one two (Ends x) next a f = f x a
then_always one two (Asks call by) next a f = λ reply. then_always one two (by reply) next (a reply) f

at_end : {X : Type 0} (holds : X → Type 0) (dialogue : Dialogue X) (exchanges : List Exchange) (end : X) → Runs dialogue exchanges end → Always holds dialogue → holds end
at_end holds (Ends x) [] end r a = rw r a
at_end holds (Ends x) (exchange ∷ rest) end r a = absurd r
at_end holds (Asks call by) [] end r a = absurd r
at_end holds (Asks call by) (exchange ∷ rest) end r a = at_end holds (by exchange.reply) rest end r.1 (a exchange.reply)

abbrev IsWhole : Link → Type 0
IsWhole link = code_of link.conn ≡ None

abbrev ServesWhole : Served → Type 0
ServesWhole served = code_of served.link.conn ≡ None

either : {X : Type 0} (holds : X → Type 0) (b : Bool) (one two : Dialogue X) → Always holds one → Always holds two → Always holds (if b then one else two)
either holds true one two h k = h
either holds false one two h k = k

closed_whole : (channel : Option ℕ) (code : Option H2Code) (link : Link) → IsWhole link → Always IsWhole (closed_for_room channel code link)
closed_whole (Some stream) None link h =
    let after = spelled (refusal_spelled stream (refusals.Status codes_of.ResourceExhausted)) link in
    let k : IsWhole after = over_code link.calls (refusal_spelled stream (refusals.Status codes_of.ResourceExhausted)) link (refusal_code stream) ∙ h in
    either IsWhole (true && not (is_open after)) (Asks calls_of.Leave (λ reply. Ends after)) (Ends after) (λ reply. k) k
closed_whole (Some stream) (Some code) link h = h
closed_whole None code link h = h

pub overflow_keeps : (link : Link) (exchanges : List Exchange) (end : Served) → code_of link.conn ≡ None → Runs (turn_served Overflow (untold link)) exchanges end → code_of end.link.conn ≡ None
unfolding turn_served
overflow_keeps link exchanges end h r =
    at_end ServesWhole (turn_served Overflow (untold link)) exchanges end r
    (then_always IsWhole ServesWhole (overflowed link) (λ l. Ends (flushed (record { link = l; sent = [] }))) (closed_whole (channel_of link.calls) (code_of link.conn) link h) (λ l k. without_code l.conn ∙ k))
