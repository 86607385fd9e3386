-- A link stays that of its lane.
use Rattle.std.proofs.Common.{◌≡◌, ℕ, Bool, true, false, List, [], ◌∷◌, Option, Some, None, refl, ◌∙◌}
use Rattle.std.specs.Prelude.{if◌then◌else◌, fold, ◌==◌, ◌&&◌, not}
use Rattle.h2_conn.specs.declared.event.H2Event.{H2Event}
use Rattle.h2_conn.specs.declared.phase.Phase.{Phase}
use Rattle.h2_conn.specs.Bytes.{next, code_of}
use Rattle.h2_frames.specs.declared.codes.H2Code.{H2Code}
use Rattle.grpc_streams.specs.declared.event.GrpcEvent.{GrpcEvent}
use Rattle.grpc_streams.specs.declared.event.GrpcEvent.TheVariants as events
use Rattle.grpc_streams.specs.declared.event.GrpcRefusal.TheVariants as refusals
use Rattle.grpc_streams.specs.declared.table.OpenCalls.{OpenCalls}
use Rattle.grpc_streams.specs.Spelling.{reply_spelled, refusal_spelled, end_spelled, message_spelled, channel_of}
use Rattle.p4_types.specs.declared.calls.Call.{Call}
use Rattle.p4_types.specs.declared.calls.Call.TheVariants as calls_of
use Rattle.p4_types.specs.declared.calls.Notice.{Notice}
use Rattle.p4_types.specs.declared.calls.Reply.{Reply}
use Rattle.p4_types.specs.declared.code.Code.TheVariants as codes_of
use Rattle.p4v1_read.specs.Calls.{call_of}
use Rattle.p4rt_service.specs.declared.link.Link.{Link}
use Rattle.p4rt_service.specs.Dialogues.{Dialogue, Ends, Asks, ◌>>=◌, each, Exchange, Runs}
use Rattle.p4rt_service.specs.Serving.{spelled_over, spelled, message_bytes, delivered, noticed, replied, is_open, left_where, asked, is_late, event_served, calls_after, given_by, event_taken, byte_taken}
use Rattle.p4rt_service.specs.Turns.{Served, Turn, Piece, Message, Overflow, flushed, on_link, byte_served, piece_served, closed_for_room, overflowed, message_served, turn_served, turns_served}

-- ---- what holds of each end of a dialogue

abbrev Always : {X : Type 0} → (X → Type 0) → Dialogue X → Type 0
Always holds (Ends x) = holds x
Always holds (Asks call by) = (reply : Reply) → Always holds (by reply)

then_always : {X Y : Type 0} (one : X → Type 0) (two : Y → Type 0) (first : Dialogue X) (next : X → Dialogue Y) → Always one first → ((x : X) → one x → Always two (next x)) → Always two (first >>= next)
then_always one two (Ends x) next a f = f x a
then_always one two (Asks call by) next a f = λ reply. then_always one two (by reply) next (a reply) f

each_always : {A S : Type 0} (holds : S → Type 0) (act : A → S → Dialogue S) (xs : List A) (s : S) → ((x : A) (t : S) → holds t → Always holds (act x t)) → holds s → Always holds (each act xs s)
each_always holds act [] s f h = h
each_always holds act (x ∷ xs) s f h = then_always holds holds (act x s) (each act xs) (f x s h) (λ t k. each_always holds act xs t f k)

at_end : {X : Type 0} (holds : X → Type 0) (dialogue : Dialogue X) (exchanges : List Exchange) (end : X) → Runs dialogue exchanges end → Always holds dialogue → holds end
at_end holds (Ends x) [] end r a = rw r a
at_end holds (Ends x) (exchange ∷ rest) end r a = absurd r
at_end holds (Asks call by) [] end r a = absurd r
at_end holds (Asks call by) (exchange ∷ rest) end r a = at_end holds (by exchange.reply) rest end r.1 (a exchange.reply)

-- ---- links

-- the link is of this lane
abbrev IsOf : ℕ → Link → Type 0
IsOf lane link = link.lane ≡ lane

over_stays : (calls : Option OpenCalls) (answer : OpenCalls → Phase → OpenCalls × Phase) (link : Link) → (spelled_over calls answer link).lane ≡ link.lane
over_stays None answer link = refl
over_stays (Some calls) answer link = refl

spelled_stays : (answer : OpenCalls → Phase → OpenCalls × Phase) (link : Link) → (spelled answer link).lane ≡ link.lane
spelled_stays answer link = over_stays link.calls answer link

chosen : (b : Bool) (lane : ℕ) (one two : Link) → IsOf lane one → IsOf lane two → IsOf lane (if b then one else two)
chosen true lane one two h k = h
chosen false lane one two h k = k

notices_stay : (lane : ℕ) (notices : List Notice) (link : Link) → IsOf lane link → IsOf lane (fold noticed link notices)
notices_stay lane [] link h = h
notices_stay lane (notice ∷ notices) link h =
    notices_stay lane notices (noticed link notice) (chosen (notice.lane == link.lane) lane (delivered notice.message link) link (spelled_stays (message_spelled (message_bytes notice.message)) link ∙ h) h)

either : {X : Type 0} (holds : X → Type 0) (b : Bool) (one two : Dialogue X) → Always holds one → Always holds two → Always holds (if b then one else two)
either holds true one two h k = h
either holds false one two h k = k

left_stays : (lane : ℕ) (was_open : Bool) (link : Link) → IsOf lane link → Always (IsOf lane) (left_where was_open link)
left_stays lane was_open link h = either (IsOf lane) (was_open && not (is_open link)) (Asks calls_of.Leave (λ reply. Ends link)) (Ends link) (λ reply. h) h

asked_stays : (lane stream : ℕ) (call : Call) (link : Link) → IsOf lane link → Always (IsOf lane) (asked stream call link)
asked_stays lane stream call link h = λ reply.
    left_stays lane (is_open link) (replied stream reply link) (spelled_stays (reply_spelled stream reply.code reply.messages) (fold noticed link reply.notices) ∙ notices_stay lane reply.notices link h)

event_stays : (lane : ℕ) (event : GrpcEvent) (link : Link) → IsOf lane link → Always (IsOf lane) (event_served event link)
unfolding event_served
event_stays lane (events.Message stream method bytes) link h = either (IsOf lane) (is_late stream method link) (Ends link) (asked stream (call_of method bytes) link) h (asked_stays lane stream (call_of method bytes) link h)
event_stays lane (events.Closed stream) link h = λ reply. spelled_stays (end_spelled stream) link ∙ h
event_stays lane (events.Refused stream refusal) link h = left_stays lane (is_open link) (spelled (refusal_spelled stream refusal) link) (spelled_stays (refusal_spelled stream refusal) link ∙ h)

taken_stays : (lane : ℕ) (event : H2Event) (link : Link) → IsOf lane link → Always (IsOf lane) (event_taken event link)
taken_stays lane event link h = each_always (IsOf lane) event_served (given_by event link.calls) (record link { calls = calls_after event link.calls }) (event_stays lane) h

byte_stays : (lane byte : ℕ) (link : Link) → IsOf lane link → Always (IsOf lane) (byte_taken byte link)
byte_stays lane byte link h = each_always (IsOf lane) event_taken (next link.conn byte).1 (record link { conn = (next link.conn byte).0 }) (taken_stays lane) h

-- ---- turns

abbrev ServesLane : ℕ → Served → Type 0
ServesLane lane served = served.link.lane ≡ lane

served_stays : (lane byte : ℕ) (served : Served) → ServesLane lane served → Always (ServesLane lane) (byte_served byte served)
served_stays lane byte served h = then_always (IsOf lane) (ServesLane lane) (byte_taken byte (flushed served).link) (on_link (flushed served).sent) (byte_stays lane byte (flushed served).link h) (λ link k. k)

closed_stays : (lane : ℕ) (channel : Option ℕ) (code : Option H2Code) (link : Link) → IsOf lane link → Always (IsOf lane) (closed_for_room channel code link)
closed_stays lane (Some stream) None link h =
    left_stays lane true (spelled (refusal_spelled stream (refusals.Status codes_of.ResourceExhausted)) link) (spelled_stays (refusal_spelled stream (refusals.Status codes_of.ResourceExhausted)) link ∙ h)
closed_stays lane (Some stream) (Some code) link h = h
closed_stays lane None code link h = h

turn_stays : (lane : ℕ) (turn : Turn) (served : Served) → ServesLane lane served → Always (ServesLane lane) (turn_served turn served)
unfolding turn_served
turn_stays lane (Piece piece) served h = then_always (ServesLane lane) (ServesLane lane) (each byte_served piece served) (λ end. Ends (flushed end)) (each_always (ServesLane lane) byte_served piece served (served_stays lane) h) (λ end k. k)
turn_stays lane (Message message) served h = spelled_stays (message_spelled (message_bytes message)) served.link ∙ h
turn_stays lane Overflow served h =
    then_always (IsOf lane) (ServesLane lane) (overflowed served.link) (λ link. Ends (flushed (record served { link = link }))) (closed_stays lane (channel_of served.link.calls) (code_of served.link.conn) served.link h) (λ link k. k)

pub lane_stays : (turns : List Turn) (served end : Served) (exchanges : List Exchange) → Runs (turns_served turns served) exchanges end → end.link.lane ≡ served.link.lane
lane_stays turns served end exchanges r = at_end (ServesLane served.link.lane) (turns_served turns served) exchanges end r (each_always (ServesLane served.link.lane) turn_served turns served (turn_stays served.link.lane) refl)
