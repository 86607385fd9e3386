-- A link over all that happens to it, and all that is sent on it.
use Rattle.std.specs.Prelude.{◌≡◌, ℕ, Bool, true, false, List, [], ◌++◌, take, Option, Some, None, Result, Ok, Err}
use Rattle.list_types.specs.declared.memory.NoMemory.{NoMemory}
use Rattle.h2_frames.specs.declared.codes.H2Code.{H2Code}
use Rattle.h2_conn.specs.Bytes.{code_of, opening, output_of, without_output}
use Rattle.p4_types.specs.declared.calls.Call.{Call}
use Rattle.p4_types.specs.declared.calls.Reply.{Reply}
use Rattle.p4_types.specs.declared.code.Code.TheVariants as codes_of
use Rattle.p4_types.specs.declared.messages.StreamMessageResponse.{StreamMessageResponse}
use Rattle.grpc_streams.specs.declared.event.GrpcRefusal.TheVariants as refusals
use Rattle.grpc_streams.specs.Taking.{no_calls}
use Rattle.grpc_streams.specs.Spelling.{refusal_spelled, channel_of}
use Rattle.p4rt_service.specs.declared.link.Link.{Link}
use Rattle.p4rt_service.specs.declared.standing.Standing.{Standing}
use Rattle.p4rt_service.specs.declared.standing.Standing.TheVariants as standings
use Rattle.p4rt_service.specs.Dialogues.{Dialogue, Ends, ◌>>=◌, each, Held, Begun, noting}
use Rattle.p4rt_service.specs.Serving.{spelled, delivered, is_open, left_where, byte_taken}

-- a link, and the bytes that were sent on it
pub record Served : Type 0 where
  pub link : Link
  pub sent : List ℕ

-- what happens to a link: bytes of the client, a message for its channel, or more of them than wait for it
pub data Turn : Type 0 where
  Piece : List ℕ → Turn
  Message : StreamMessageResponse → Turn
  Overflow : Turn

-- a link on which nothing has come: SETTINGS are to be sent
abbrev pub opened : ℕ → Link
opened lane = record { lane = lane; calls = Some no_calls; conn = opening }

-- what is to be sent goes out
abbrev pub flushed : Served → Served
flushed served = record { link = record served.link { conn = without_output served.link.conn }; sent = served.sent ++ output_of served.link.conn }

-- what was sent before, with a link
abbrev pub on_link : List ℕ → Link → Dialogue Served
on_link sent link = Ends (record { link = link; sent = sent })

-- A byte is read once all that earlier ones caused has gone out.
abbrev pub byte_served : ℕ → Served → Dialogue Served
byte_served byte served = byte_taken byte (flushed served).link >>= on_link (flushed served).sent

-- bytes, one after another
abbrev pub piece_served : List ℕ → Served → Dialogue Served
piece_served piece served = each byte_served piece served >>= λ end. Ends (flushed end)

-- The first bytes of a piece, so many, are served; or, for want of memory, the piece is begun.
abbrev pub NotesSome : {P : Type 0} → (P → Call → Reply → P → Type 0) → P → P → Bool → Bool → Result ℕ NoMemory → List ℕ → Served → Served → Type 0
NotesSome answers old new before after (Ok used) piece start end = Held (noting answers) (old, before) (new, after) (each byte_served (take used piece) start) end
NotesSome answers old new before after (Err e) piece start end = Begun (noting answers) (old, before) (new, after) (each byte_served piece start)

-- the open channel, if there is one, closed by RESOURCE_EXHAUSTED, unless a breach has ended the connection
abbrev pub closed_for_room : Option ℕ → Option H2Code → Link → Dialogue Link
closed_for_room (Some stream) None link = left_where true (spelled (refusal_spelled stream (refusals.Status codes_of.ResourceExhausted)) link)
closed_for_room channel code link = Ends link

-- more waits for the open channel than may
abbrev pub overflowed : Link → Dialogue Link
overflowed link = closed_for_room (channel_of link.calls) (code_of link.conn) link

-- a message for the channel
abbrev pub message_served : StreamMessageResponse → Served → Served
message_served message served = flushed (record served { link = delivered message served.link })

-- what a turn does, and sends behind what was sent
unfoldable pub turn_served : Turn → Served → Dialogue Served
turn_served (Piece piece) served = piece_served piece served
turn_served (Message message) served = Ends (message_served message served)
turn_served Overflow served = overflowed served.link >>= λ link. Ends (flushed (record served { link = link }))

-- turns, one after another
abbrev pub turns_served : List Turn → Served → Dialogue Served
turns_served turns served = each turn_served turns served

-- ---- what a service does

-- a link of which nothing that was sent is told
abbrev pub untold : Link → Served
untold link = record { link = link; sent = [] }

-- A turn is held to its end, with these bytes sent, or, for want of memory, begun; whether the controller is still to leave is noted.
abbrev pub NotesSent : {P : Type 0} → (P → Call → Reply → P → Type 0) → P → P → Bool → Bool → Result (List ℕ) NoMemory → Dialogue Served → Link → Type 0
NotesSent answers old new before after (Ok sent) dialogue link = Held (noting answers) (old, before) (new, after) dialogue (record { link = link; sent = sent })
NotesSent answers old new before after (Err e) dialogue link = Begun (noting answers) (old, before) (new, after) dialogue

-- memory was missing
abbrev pub IsLost : Standing → Type 0
IsLost (standings.Serving link) = ⊥
IsLost (standings.Lost due) = Unit {0}

-- the link is taken out, where there is one
abbrev pub TakesLink : Option Link → Standing → Standing → Type 0
TakesLink (Some link) old new = old ≡ standings.Serving link
TakesLink None old new = IsLost old × (new ≡ old)

-- What is sent in a turn, in which calls may be made, is what the definition says. Without memory the service is lost, and each later call finds none either: the calls that were made are the first of the turn, and the controller is still to leave where its channel was open and those calls do not end with its Leave, or where they open it.
abbrev pub Serves : {P : Type 0} → (P → Call → Reply → P → Type 0) → P → P → Result (List ℕ) NoMemory → Standing → Standing → Turn → Type 0
Serves answers before after (Ok sent) (standings.Serving old) (standings.Serving new) turn = Held answers before after (turn_served turn (untold old)) (record { link = new; sent = sent })
Serves answers before after (Ok sent) (standings.Serving old) (standings.Lost due) turn = ⊥
Serves answers before after (Ok sent) (standings.Lost due) new turn = ⊥
Serves answers before after (Err e) (standings.Serving old) (standings.Serving new) turn = ⊥
Serves answers before after (Err e) (standings.Serving old) (standings.Lost due) turn = Begun (noting answers) (before, is_open old) (after, due) (turn_served turn (untold old))
Serves answers before after (Err e) (standings.Lost due) new turn = (new ≡ standings.Lost due) × (after ≡ before)

-- The same of a message for the channel, for which no call is made.
abbrev pub Delivers : Result (List ℕ) NoMemory → Standing → Standing → StreamMessageResponse → Type 0
Delivers (Ok sent) (standings.Serving old) (standings.Serving new) message = ◌≡◌ {A = Served} (record { link = new; sent = sent }) (message_served message (untold old))
Delivers (Ok sent) (standings.Serving old) (standings.Lost due) message = ⊥
Delivers (Ok sent) (standings.Lost due) new message = ⊥
Delivers (Err e) (standings.Serving old) new message = new ≡ standings.Lost (is_open old)
Delivers (Err e) (standings.Lost due) new message = new ≡ standings.Lost due

-- the bytes of an answer that also tells the code of a breach
abbrev pub sent_of : Result (List ℕ × Option H2Code) NoMemory → Result (List ℕ) NoMemory
sent_of (Ok x) = Ok x.0
sent_of (Err e) = Err e

-- the code of the breach that has ended the connection, if one has
abbrev pub breach_of : Standing → Option H2Code
breach_of (standings.Lost due) = None
breach_of (standings.Serving link) = code_of link.conn

-- the controller is still to leave: its channel is open, or was where memory was missing
abbrev pub is_to_leave : Standing → Bool
is_to_leave (standings.Lost due) = due
is_to_leave (standings.Serving link) = is_open link
