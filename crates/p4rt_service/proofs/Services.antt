-- What a service gives.
use Rattle.std.proofs.Common.{◌≡◌, ℕ, Bool, List, [], ◌∷◌, Option, Some, None, Result, Ok, Err, refl, ap}
use Rattle.std.specs.Prelude.{IsErr}
use Rattle.list_types.specs.declared.memory.NoMemory.{NoMemory}
use Rattle.h2_frames.specs.declared.codes.H2Code.{H2Code}
use Rattle.p4_types.specs.declared.calls.Call.{Call}
use Rattle.p4_types.specs.declared.calls.Reply.{Reply}
use Rattle.p4_types.specs.declared.messages.StreamMessageResponse.{StreamMessageResponse}
use Rattle.p4rt_service.specs.declared.link.Link.{Link}
use Rattle.p4rt_service.specs.declared.standing.Standing.{Standing}
use Rattle.p4rt_service.specs.declared.standing.Standing.TheVariants as standings
use Rattle.p4rt_service.specs.Dialogues.{Dialogue, Ends, ◌>>=◌, Exchange, Passes, Held, Begun, noting}
use Rattle.p4rt_service.specs.Serving.{is_open}
use Rattle.p4rt_service.specs.Turns.{Turn, Piece, Overflow, Served, flushed, untold, piece_served, overflowed, turn_served, message_served, NotesSent, TakesLink, Serves, Delivers, sent_of}
use Rattle.p4rt_service.proofs.Holding.{ended, held_then, begun_then, begins_whole}

-- a dialogue that was held was begun
pub held_begun : {P X : Type 0} (answers : P → Call → Reply → P → Type 0) (old new : P) (dialogue : Dialogue X) (end : X) → Held answers old new dialogue end → Begun answers old new dialogue
held_begun answers old new dialogue end h = record { exchanges = h.exchanges; passes = h.passes; begins = begins_whole dialogue h.exchanges end h.runs }

module _ {P : Type 0} (answers : P → Call → Reply → P → Type 0) where
  -- the same exchanges, of which nothing is noted
  unnoted : (exchanges : List Exchange) (old new : P × Bool) → Passes (noting answers) old exchanges new → Passes answers old.0 exchanges new.0
  unnoted [] old new p = ap (λ x. x.0) p
  unnoted (exchange ∷ rest) old new p = (p.0.0, p.1.0, unnoted rest p.0 new p.2)

  -- ---- a piece

  pub fed : (old new : P) (before after : Bool) (link end told : Link) (sent none : List ℕ) (piece : List ℕ) → none ≡ []
      → Held (noting answers) (old, before) (new, after) (piece_served piece (record { link = link; sent = none })) (record { link = end; sent = sent }) → told ≡ end
      → NotesSent answers old new before after (Ok sent) (turn_served (Piece piece) (untold link)) told
  unfolding turn_served
  fed old new before after link end told sent none piece en h et = rw et (rw en at h)

  pub fed_short : (old new : P) (before after : Bool) (r : Result (List ℕ × Option H2Code) NoMemory) (link end : Link) (none : List ℕ) (piece : List ℕ) → IsErr r → none ≡ []
      → Begun (noting answers) (old, before) (new, after) (piece_served piece (record { link = link; sent = none })) → NotesSent answers old new before after (sent_of r) (turn_served (Piece piece) (untold link)) end
  unfolding turn_served
  fed_short old new before after (Ok x) link end none piece e en b = absurd cc
  fed_short old new before after (Err x) link end none piece e en b = rw en at b

  -- ---- more waits than may

  pub overflown : (old new : P) (before after : Bool) (link closed end : Link) (sent none : List ℕ) → none ≡ [] → Held (noting answers) (old, before) (new, after) (overflowed link) closed
      → end ≡ (flushed (untold closed)).link → sent ≡ (flushed (record { link = closed; sent = none })).sent → NotesSent answers old new before after (Ok sent) (turn_served Overflow (untold link)) end
  unfolding turn_served
  overflown old new before after link closed end sent none en h ee es =
      let sent_is : sent ≡ (flushed (untold closed)).sent = rw en at es in
      let whole : Held (noting answers) (old, before) (new, after) (overflowed link >>= (λ l. Ends (flushed (untold l)))) (flushed (untold closed)) =
      held_then (noting answers) (old, before) (new, after) (new, after) (overflowed link) (λ l. Ends (flushed (untold l))) closed (flushed (untold closed)) h (ended (noting answers) (new, after) (new, after) (flushed (untold closed)) (flushed (untold closed)) refl refl) in
      rw (ee, sent_is) whole

  pub overflown_short : (old new : P) (before after : Bool) (r : Result (List ℕ) NoMemory) (link end : Link) → IsErr r → Begun (noting answers) (old, before) (new, after) (overflowed link)
      → NotesSent answers old new before after r (turn_served Overflow (untold link)) end
  unfolding turn_served
  overflown_short old new before after (Ok x) link end e b = absurd cc
  overflown_short old new before after (Err x) link end e b = begun_then (noting answers) (old, before) (new, after) (overflowed link) (λ l. Ends (flushed (record { link = l; sent = [] }))) b

  -- ---- the service

  pub served_whole : (old new : P) (before after : Bool) (standing : Standing) (link end : Link) (sent : List ℕ) (turn : Turn) → standing ≡ standings.Serving link
      → NotesSent answers old new before after (Ok sent) (turn_served turn (untold link)) end → Serves answers old new (Ok sent) standing (standings.Serving end) turn
  served_whole old new before after standing link end sent turn es h = rw es (record { exchanges = h.exchanges; passes = unnoted h.exchanges (old, before) (new, after) h.passes; runs = h.runs })

  pub served_short : (old new : P) (before after : Bool) (e : NoMemory) (standing : Standing) (link end : Link) (turn : Turn) → standing ≡ standings.Serving link → before ≡ is_open link
      → NotesSent answers old new before after (Err e) (turn_served turn (untold link)) end → Serves answers old new (Err e) standing (standings.Lost after) turn
  served_short old new before after e standing link end turn es eb h = rw es (rw eb at h)

  pub served_none : (pass : P) (e : NoMemory) (old new : Standing) (turn : Turn) → TakesLink None old new → Serves answers pass pass (Err e) old new turn
  served_none pass e (standings.Serving link) new turn t = absurd t.0
  served_none pass e (standings.Lost due) new turn t = (t.1, refl)

pub delivered_whole : (standing : Standing) (link end : Link) (sent : List ℕ) (message : StreamMessageResponse) → standing ≡ standings.Serving link
    → ◌≡◌ {A = Served} (record { link = end; sent = sent }) (message_served message (untold link)) → Delivers (Ok sent) standing (standings.Serving end) message
delivered_whole standing link end sent message es h = rw es h

pub delivered_short : (e : NoMemory) (standing : Standing) (link : Link) (due : Bool) (message : StreamMessageResponse) → standing ≡ standings.Serving link → due ≡ is_open link → Delivers (Err e) standing (standings.Lost due) message
delivered_short e standing link due message es ed = rw es (ap (λ x. standings.Lost x) ed)

pub delivered_none : (e : NoMemory) (old new : Standing) (message : StreamMessageResponse) → TakesLink None old new → Delivers (Err e) old new message
delivered_none e (standings.Serving link) new message t = absurd t.0
delivered_none e (standings.Lost due) new message t = t.1
