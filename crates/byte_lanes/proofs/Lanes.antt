-- What is served on a lane, behind what was sent on it; and that the calls that bytes make are those of records.
use Rattle.std.proofs.Common.{◌≡◌, ℕ, Bool, true, false, cond, List, [], ◌∷◌, ◌++◌, map, Result, Ok, Err, refl, sym, ap, subst, ◌∙◌, append-nil}
use Rattle.list_types.specs.declared.memory.NoMemory.{NoMemory}
use Rattle.h2_conn.specs.declared.event.H2Event.{H2Event}
use Rattle.h2_conn.specs.Bytes.{next}
use Rattle.grpc_streams.specs.declared.event.GrpcEvent.{GrpcEvent}
use Rattle.grpc_streams.specs.declared.event.GrpcEvent.TheVariants as events
use Rattle.p4_types.specs.declared.calls.Call.{Call}
use Rattle.p4_types.specs.declared.calls.Reply.{Reply}
use Rattle.p4v1_read.specs.Calls.{call_of}
use Rattle.switch_spec.specs.Answer.{called}
use Rattle.switch_spec.specs.declared.calls.LaneCall.{LaneCall}
use Rattle.switch_spec.specs.declared.calls.LaneCall.TheVariants as lane_calls
use Rattle.p4rt_service.specs.declared.link.Link.{Link}
use Rattle.p4rt_service.specs.declared.standing.Standing.{Standing}
use Rattle.p4rt_service.specs.declared.standing.Standing.TheVariants as standings
use Rattle.p4rt_service.specs.Dialogues.{Dialogue, Ends, Asks, ◌>>=◌, each, Exchange, Runs, Passes, Held}
use Rattle.p4rt_service.specs.Laws.{behind}
use Rattle.grpc_streams.specs.Spelling.{refusal_spelled}
use Rattle.p4rt_service.specs.Serving.{spelled, is_open, left_where, asked, is_late, replied, event_served, given_by, calls_after, event_taken, byte_taken}
use Rattle.p4rt_service.specs.Turns.{Served, Piece, flushed, untold, opened, on_link, byte_served, piece_served, turn_served, Serves}
use Rattle.p4rt_service.proofs.Cuts.{sent_before}
use Rattle.byte_lanes.specs.Filling.{Asked, exchange_of, greeted}
use Rattle.byte_lanes.specs.Lane.{LaneState, IsLane}

-- ---- behind what was sent

-- a dialogue, and what is made of its end
runs_then : {X Y : Type 0} (f : X → Y) (dialogue : Dialogue X) (exchanges : List Exchange) (end : X) → Runs dialogue exchanges end → Runs (dialogue >>= λ x. Ends (f x)) exchanges (f end)
runs_then f (Ends x) [] end r = ap f r
runs_then f (Ends x) (exchange ∷ rest) end r = absurd r
runs_then f (Asks call by) [] end r = absurd r
runs_then f (Asks call by) (exchange ∷ rest) end r = (r.0, runs_then f (by exchange.reply) rest end r.1)

abbrev on : Link → List ℕ → Served
on link sent = record { link = link; sent = sent }

behind_is : (served : Served) → behind served.sent (untold served.link) ≡ served
behind_is served = ap (on served.link) (append-nil served.sent)

piece_behind : (piece : List ℕ) (served end : Served) (exchanges : List Exchange) → Runs (piece_served piece (untold served.link)) exchanges end → Runs (piece_served piece served) exchanges (behind served.sent end)
unfolding turn_served
piece_behind piece served end exchanges r =
    let whole : ◌≡◌ {A = Dialogue Served} (piece_served piece (behind served.sent (untold served.link))) (piece_served piece (untold served.link) >>= λ e. Ends (behind served.sent e)) =
    sent_before (Piece piece) served.sent (untold served.link) in
    subst (λ (s : Served). Runs (piece_served piece s) exchanges (behind served.sent end)) (behind_is served)
    (subst (λ (d : Dialogue Served). Runs d exchanges (behind served.sent end)) (sym whole) (runs_then (behind served.sent) (piece_served piece (untold served.link)) exchanges end r))

abbrev pub state_of : Standing → List ℕ → LaneState
state_of standing sent = record { standing = standing; sent = sent }

pub held_lane : {P : Type 0} (answers : P → Call → Reply → P → Type 0) (old new : P) (piece : List ℕ) (before after : Standing) (sent : List ℕ) (r : Result (List ℕ) NoMemory) (more : List ℕ) → r ≡ Ok more
    → Serves answers old new r before after (Piece piece) → (served : Served) → IsLane (state_of before sent) served → (end : Served) × IsLane (state_of after (sent ++ more)) end × Held answers old new (piece_served piece served) end
unfolding turn_served
held_lane answers old new piece (standings.Serving link) (standings.Serving next) sent (Ok bytes) more is held served lane =
    let same : link ≡ served.link = cc (lane.0) in
    let given : bytes ≡ more = cc in
    let runs = piece_behind piece served (on next bytes) held.exchanges (subst (λ (l : Link). Runs (piece_served piece (untold l)) held.exchanges (on next bytes)) same held.runs) in
    (behind served.sent (on next bytes), (refl, ap (λ (w : List ℕ). w ++ more) lane.1 ∙ ap (λ (w : List ℕ). served.sent ++ w) (sym given)), record { exchanges = held.exchanges; passes = held.passes; runs = runs })
held_lane answers old new piece (standings.Serving link) (standings.Lost due) sent (Ok bytes) more is held served lane = absurd held
held_lane answers old new piece (standings.Lost due) after sent (Ok bytes) more is held served lane = absurd held
held_lane answers old new piece before after sent (Err e) more is held served lane = absurd cc

none_held : (x end : Served) (exchanges : List Exchange) → Runs (Ends x) exchanges end → (end ≡ x) × (exchanges ≡ [])
none_held x end [] r = (r, refl)
none_held x end (exchange ∷ rest) r = absurd r

-- no bytes send what is sent first
pub greeted_lane : {P : Type 0} (answers : P → Call → Reply → P → Type 0) (old new : P) (lane : ℕ) (before after : Standing) (sent : List ℕ) → before ≡ standings.Serving (opened lane)
    → Serves answers old new (Ok sent) before after (Piece []) → IsLane (state_of after sent) (greeted lane) × (new ≡ old)
unfolding turn_served
greeted_lane answers old new lane (standings.Serving link) (standings.Serving next) sent is held =
    let same : link ≡ opened lane = cc in
    let n = none_held (flushed (untold link)) (on next sent) held.exchanges held.runs in
    let end : on next sent ≡ greeted lane = n.0 ∙ ap (λ (l : Link). flushed (untold l)) same in
    ((ap (λ (s : Served). standings.Serving s.link) end, ap (λ (s : Served). s.sent) end), subst (λ (l : List Exchange). Passes answers old l new) n.1 held.passes)
greeted_lane answers old new lane (standings.Serving link) (standings.Lost due) sent is held = absurd held
greeted_lane answers old new lane (standings.Lost due) after sent is held = absurd held

-- ---- the calls that bytes make are those of records

-- a record of a tape would bring the call
abbrev IsSpelled : Call → Type 0
IsSpelled call = (spelled : LaneCall) × (called spelled ≡ call)

-- each call of a dialogue is such
abbrev AreSpelled : {X : Type 0} → Dialogue X → Type 0
AreSpelled (Ends x) = Unit {0}
AreSpelled (Asks call by) = IsSpelled call × ((reply : Reply) → AreSpelled (by reply))

then_spelled : {X Y : Type 0} (dialogue : Dialogue X) (next : X → Dialogue Y) → AreSpelled dialogue → ((x : X) → AreSpelled (next x)) → AreSpelled (dialogue >>= next)
then_spelled (Ends x) next a f = f x
then_spelled (Asks call by) next a f = (a.0, λ reply. then_spelled (by reply) next (a.1 reply) f)

each_spelled : {A S : Type 0} (act : A → S → Dialogue S) (xs : List A) (s : S) → ((x : A) (t : S) → AreSpelled (act x t)) → AreSpelled (each act xs s)
each_spelled act [] s f = tt
each_spelled act (x ∷ xs) s f = then_spelled (act x s) (each act xs) (f x s) (λ t. each_spelled act xs t f)

leave_by : (b : Bool) (link : Link) → AreSpelled (cond b (Asks (called lane_calls.Leaves) (λ reply. Ends link)) (Ends link))
leave_by true link = ((lane_calls.Leaves, refl), λ reply. tt)
leave_by false link = tt

left_spelled : (was_open : Bool) (link : Link) → AreSpelled (left_where was_open link)
left_spelled was_open link = leave_by _ link

message_by : (b : Bool) (stream : ℕ) (call : Call) (link : Link) → IsSpelled call → AreSpelled (cond b (Ends link) (asked stream call link))
message_by true stream call link is = tt
message_by false stream call link is = (is, λ reply. left_spelled (is_open link) (replied stream reply link))

event_spelled : (event : GrpcEvent) (link : Link) → AreSpelled (event_served event link)
unfolding event_served
event_spelled (events.Message stream method bytes) link = message_by (is_late stream method link) stream (call_of method bytes) link (lane_calls.Asks method bytes, refl)
event_spelled (events.Closed stream) link = ((lane_calls.Leaves, refl), λ reply. tt)
event_spelled (events.Refused stream refusal) link = left_spelled (is_open link) (spelled (refusal_spelled stream refusal) link)

taken_spelled : (event : H2Event) (link : Link) → AreSpelled (event_taken event link)
taken_spelled event link = each_spelled event_served (given_by event link.calls) (record link { calls = calls_after event link.calls }) event_spelled

byte_spelled : (byte : ℕ) (served : Served) → AreSpelled (byte_served byte served)
byte_spelled byte served =
    let link = (flushed served).link in
    then_spelled (byte_taken byte link) (on_link (flushed served).sent) (each_spelled event_taken (next link.conn byte).1 (record link { conn = (next link.conn byte).0 }) taken_spelled) (λ link. tt)

piece_spelled : (piece : List ℕ) (served : Served) → AreSpelled (piece_served piece served)
piece_spelled piece served = then_spelled (each byte_served piece served) (λ end. Ends (flushed end)) (each_spelled byte_served piece served byte_spelled) (λ end. tt)

abbrev exchange_with : Call → Reply → Exchange
exchange_with call reply = record { call = call; reply = reply }

spelled_as : {X : Type 0} (dialogue : Dialogue X) (exchanges : List Exchange) (end : X) → AreSpelled dialogue → Runs dialogue exchanges end → (asked : List Asked) × (map exchange_of asked ≡ exchanges)
spelled_as (Ends x) [] end a r = ([], refl)
spelled_as (Ends x) (exchange ∷ rest) end a r = absurd r
spelled_as (Asks call by) [] end a r = absurd r
spelled_as (Asks call by) (exchange ∷ rest) end a r =
    let below = spelled_as (by exchange.reply) rest end (a.1 exchange.reply) r.1 in
    let one : Asked = record { call = a.0.0; reply = exchange.reply } in
    let same : exchange_of one ≡ exchange = ap (λ (c : Call). exchange_with c exchange.reply) (a.0.1 ∙ sym r.0) in
    (one ∷ below.0, ap (λ (e : Exchange). e ∷ map exchange_of below.0) same ∙ ap (λ (l : List Exchange). exchange ∷ l) below.1)

-- what bytes make is spelled by these calls
pub piece_asks : (piece : List ℕ) (served end : Served) (exchanges : List Exchange) → Runs (piece_served piece served) exchanges end → (asked : List Asked) × (map exchange_of asked ≡ exchanges)
piece_asks piece served end exchanges r = spelled_as (piece_served piece served) exchanges end (piece_spelled piece served) r
