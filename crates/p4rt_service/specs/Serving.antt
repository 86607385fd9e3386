-- What a client's bytes make of a link: calls of a desk, and what is sent (P4Runtime 1.3.0, "P4Runtime Service"; the order is this project's profile).
use Rattle.std.specs.Prelude.{ℕ, ◌==◌, ◌&&◌, not, Bool, if◌then◌else◌, List, [], fold, is_some, Option, Some, None}
use Rattle.h2_conn.specs.declared.event.H2Event.{H2Event}
use Rattle.h2_conn.specs.declared.phase.Phase.{Phase}
use Rattle.h2_conn.specs.Bytes.{next}
use Rattle.p4_types.specs.declared.calls.Call.{Call}
use Rattle.p4_types.specs.declared.calls.Call.TheVariants as calls_of
use Rattle.p4_types.specs.declared.calls.Method.{Method}
use Rattle.p4_types.specs.declared.calls.Notice.{Notice}
use Rattle.p4_types.specs.declared.calls.Reply.{Reply}
use Rattle.p4_types.specs.declared.messages.StreamMessageResponse.{StreamMessageResponse}
use Rattle.grpc_streams.specs.declared.event.GrpcEvent.{GrpcEvent}
use Rattle.grpc_streams.specs.declared.event.GrpcEvent.TheVariants as events
use Rattle.grpc_streams.specs.declared.table.OpenCalls.{OpenCalls}
use Rattle.grpc_streams.specs.Taking.{taken, is_channel, is_this}
use Rattle.grpc_streams.specs.Spelling.{reply_spelled, refusal_spelled, end_spelled, message_spelled, channel_of}
use Rattle.p4v1_read.specs.Calls.{call_of}
use Rattle.p4v1_wire.specs.Rows.{fields_by}
use Rattle.p4v1_wire.specs.StreamRows.{stream_rows}
use Rattle.wire_fields.specs.Spelling.{spelling}
use Rattle.p4rt_service.specs.declared.link.Link.{Link}
use Rattle.p4rt_service.specs.Dialogues.{Dialogue, Ends, Asks, each}

-- ---- what is sent

-- the link after an answer, where these are its calls
abbrev pub spelled_over : Option OpenCalls → (OpenCalls → Phase → OpenCalls × Phase) → Link → Link
spelled_over None answer link = link
spelled_over (Some calls) answer link = record link { calls = Some (answer calls link.conn).0; conn = (answer calls link.conn).1 }

-- the link after an answer
abbrev pub spelled : (OpenCalls → Phase → OpenCalls × Phase) → Link → Link
spelled answer link = spelled_over link.calls answer link

-- a message of the stream channel, as its bytes
abbrev pub message_bytes : StreamMessageResponse → List ℕ
message_bytes message = spelling (fields_by stream_rows message)

-- it is sent on the open channel, if there is one
abbrev pub delivered : StreamMessageResponse → Link → Link
delivered message link = spelled (message_spelled (message_bytes message)) link

-- a notice is sent, if it is to this lane
abbrev pub noticed : Link → Notice → Link
noticed link notice = if notice.lane == link.lane then delivered notice.message link else link

-- A reply goes out on its stream, directly behind its notices to the lane that made the call.
abbrev pub replied : ℕ → Reply → Link → Link
replied stream reply link = spelled (reply_spelled stream reply.code reply.messages) (fold noticed link reply.notices)

-- ---- what is asked

-- the stream channel is open
abbrev pub is_open : Link → Bool
is_open link = is_some (channel_of link.calls)

-- Where the channel was open and is not any more, the controller leaves.
abbrev pub left_where : Bool → Link → Dialogue Link
left_where was_open link = if was_open && not (is_open link) then Asks calls_of.Leave (λ reply. Ends link) else Ends link

-- A call is made and answered; a reply that closes the channel is a Leave.
abbrev pub asked : ℕ → Call → Link → Dialogue Link
asked stream call link = Asks call (λ reply. left_where (is_open link) (replied stream reply link))

-- a message of a channel that is not open any more
abbrev pub is_late : ℕ → Method → Link → Bool
is_late stream method link = is_channel method && not (is_this stream (channel_of link.calls))

-- what an event of the calls does: a late message makes no call
unfoldable pub event_served : GrpcEvent → Link → Dialogue Link
event_served (events.Message stream method bytes) link = if is_late stream method link then Ends link else asked stream (call_of method bytes) link
event_served (events.Closed stream) link = Asks calls_of.Leave (λ reply. Ends (spelled (end_spelled stream) link))
event_served (events.Refused stream refusal) link = left_where (is_open link) (spelled (refusal_spelled stream refusal) link)

-- ---- what comes

-- the calls after an event of the connection
abbrev pub calls_after : H2Event → Option OpenCalls → Option OpenCalls
calls_after event None = None
calls_after event (Some calls) = Some (taken event calls).0

-- what it gives
abbrev pub given_by : H2Event → Option OpenCalls → List GrpcEvent
given_by event None = []
given_by event (Some calls) = (taken event calls).1

-- what an event of the connection does
abbrev pub event_taken : H2Event → Link → Dialogue Link
event_taken event link = each event_served (given_by event link.calls) (record link { calls = calls_after event link.calls })

-- What a byte does: first what its frame makes the connection send, then the answers of its calls.
abbrev pub byte_taken : ℕ → Link → Dialogue Link
byte_taken byte link = each event_taken (next link.conn byte).1 (record link { conn = (next link.conn byte).0 })
