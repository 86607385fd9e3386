-- Bytes, and what is sent meanwhile.
use Rattle.std.proofs.Common.{◌≡◌, ℕ, ◌+◌, ◌<◌, ◌≤◌, Bool, List, [], ◌∷◌, ◌++◌, length, take, drop, Result, Ok, Err, refl, sym, ap, subst, ◌∙◌, append_assoc, arith}
use Rattle.std.proofs.Math.Path.{fun_ext}
use Rattle.std.specs.Prelude.{OnOk, IsErr}
use Rattle.std.proofs.lemmas.List.{append-nil, length-append, length-take, take-append-drop}
use Rattle.list_types.specs.declared.memory.NoMemory.{NoMemory}
use Rattle.h2_conn.specs.declared.event.H2Event.{H2Event}
use Rattle.h2_conn.specs.declared.phase.Phase.{Phase}
use Rattle.h2_conn.specs.declared.phase.Phase.TheVariants as phases
use Rattle.h2_conn.specs.Bytes.{next, run, output_of, without_output, AreQuietToLast}
use Rattle.p4_types.specs.declared.calls.Call.{Call}
use Rattle.p4_types.specs.declared.calls.Reply.{Reply}
use Rattle.p4rt_service.specs.declared.link.Link.{Link}
use Rattle.p4rt_service.specs.Dialogues.{Dialogue, Ends, Asks, ◌>>=◌, each, Held, Begun, Holds, noting}
use Rattle.p4rt_service.specs.Serving.{event_taken, byte_taken}
use Rattle.p4rt_service.specs.Turns.{Served, flushed, on_link, byte_served, piece_served, NotesSome}
use Rattle.p4rt_service.proofs.Holding.{each_behind, ended, held_then, begun_then, begun_behind, unbegun}
use Rattle.p4rt_service.proofs.Cuts.{flushed_twice}

-- ---- what is to be sent, where there is nothing

unsent : (phase : Phase) → output_of phase ≡ [] → without_output phase ≡ phase
unsent (phases.Open conn) e = ap (λ (o : List ℕ). phases.Open (record conn { outgoing = record conn.outgoing { output = o } })) (sym e)
unsent (phases.Broken code output) e = ap (λ (o : List ℕ). phases.Broken code o) (sym e)
unsent phases.OutOfMemory e = refl

emptied : (phase : Phase) → output_of (without_output phase) ≡ []
emptied (phases.Open conn) = refl
emptied (phases.Broken code output) = refl
emptied phases.OutOfMemory = refl

flushed_none : (served : Served) → output_of served.link.conn ≡ [] → flushed served ≡ served
flushed_none served e =
    ap (λ c. record { link = record served.link { conn = c }; sent = served.sent ++ output_of served.link.conn }) (unsent served.link.conn e)
    ∙ ap (λ o. record { link = served.link; sent = served.sent ++ o }) e
    ∙ ap (λ s. record { link = served.link; sent = s }) (append-nil served.sent)

-- ---- bytes of which only the last causes anything

-- what they give of a connection is what the last of them does
abbrev given_last : List ℕ → Served → Dialogue Served
given_last bytes served = each event_taken (run served.link.conn bytes).1 (record served.link { conn = (run served.link.conn bytes).0 }) >>= on_link served.sent

unchanged : {X : Type 0} (dialogue : Dialogue X) → (dialogue >>= (λ x. Ends x)) ≡ dialogue
unchanged (Ends x) = refl
unchanged (Asks call by) = ap (λ f. Asks call f) (fun_ext (λ reply. unchanged (by reply)))

quiet_served : (bytes : List ℕ) (served : Served) → 0 < length bytes → output_of served.link.conn ≡ [] → AreQuietToLast served.link.conn bytes → each byte_served bytes served ≡ given_last bytes served
unfolding run AreQuietToLast
quiet_served [] served some e q = absurd (omega arith)
quiet_served (byte ∷ []) served some e q =
    let after : Phase × List H2Event = next served.link.conn byte in
    ap (λ (s : Served). (byte_taken byte s.link >>= on_link s.sent) >>= (λ end. Ends end)) (flushed_none served e)
    ∙ unchanged (byte_taken byte served.link >>= on_link served.sent)
    ∙ ap (λ (events : List H2Event). each event_taken events (record served.link { conn = after.0 }) >>= on_link served.sent) (sym (append-nil after.1))
quiet_served (byte ∷ second ∷ rest) served some e q =
    let after : Phase × List H2Event = next served.link.conn byte in
    let last : Phase × List H2Event = run after.0 (second ∷ rest) in
    let behind : Served = record { link = record served.link { conn = after.0 }; sent = served.sent } in
    let one : byte_served byte served ≡ Ends behind =
    ap (λ (s : Served). byte_taken byte s.link >>= on_link s.sent) (flushed_none served e) ∙ ap (λ (events : List H2Event). each event_taken events behind.link >>= on_link served.sent) q.0 in
    ap (λ d. d >>= each byte_served (second ∷ rest)) one
    ∙ quiet_served (second ∷ rest) behind (omega arith) (q.1 ∙ e) q.2
    ∙ ap (λ (events : List H2Event). each event_taken (events ++ last.1) (record served.link { conn = last.0 }) >>= on_link served.sent) (sym q.0)

-- what is to be sent goes out before the first
flushed_before : (bytes : List ℕ) (served : Served) → 0 < length bytes → each byte_served bytes (flushed served) ≡ each byte_served bytes served
flushed_before [] served some = absurd (omega arith)
flushed_before (byte ∷ rest) served some = ap (λ (s : Served). (byte_taken byte s.link >>= on_link s.sent) >>= each byte_served rest) (flushed_twice served)

some_served : (bytes : List ℕ) (served : Served) → 0 < length bytes → AreQuietToLast (flushed served).link.conn bytes → each byte_served bytes served ≡ given_last bytes (flushed served)
some_served bytes served some q = sym (flushed_before bytes served some) ∙ quiet_served bytes (flushed served) some (emptied served.link.conn) q

-- where these are what was read
read_served : (bytes : List ℕ) (served : Served) (link read : Link) (events : List H2Event) → 0 < length bytes → link ≡ (flushed served).link → AreQuietToLast link.conn bytes
    → read ≡ record link { conn = (run link.conn bytes).0 } → events ≡ (run link.conn bytes).1 → each byte_served bytes served ≡ (each event_taken events read >>= on_link (flushed served).sent)
read_served bytes served link read events some el q er ee =
    let same : link.conn ≡ (flushed served).link.conn = ap (λ (l : Link). l.conn) el in
    let quiet : AreQuietToLast (flushed served).link.conn bytes = subst (λ (p : Phase). AreQuietToLast p bytes) same q in
    let read_is : read ≡ record (flushed served).link { conn = (run (flushed served).link.conn bytes).0 } = er ∙ ap (λ (l : Link). record l { conn = (run l.conn bytes).0 }) el in
    let events_are : events ≡ (run (flushed served).link.conn bytes).1 = ee ∙ ap (λ (p : Phase). (run p bytes).1) same in
    some_served bytes served some quiet
    ∙ ap (λ (x : List H2Event). each event_taken x (record (flushed served).link { conn = (run (flushed served).link.conn bytes).0 }) >>= on_link (flushed served).sent) (sym events_are)
    ∙ ap (λ (l : Link). each event_taken events l >>= on_link (flushed served).sent) (sym read_is)

pub flush_is : (r : Result Unit NoMemory) (before : Served) (link : Link) (sent : List ℕ) → link ≡ (flushed before).link → OnOk r (sent ≡ (flushed before).sent) → OnOk r (record { link = link; sent = sent } ≡ flushed before)
flush_is (Ok x) before link sent el es = ap (λ l. record { link = l; sent = sent }) el ∙ ap (λ s. record { link = (flushed before).link; sent = s }) es
flush_is (Err e) before link sent el es = tt

module _ {P : Type 0} (answers : P → Call → Reply → P → Type 0) where
  -- the first bytes of a piece
  pub some_held : {old new : P} (bytes : List ℕ) (before : Served) (link read end : Link) (sent : List ℕ) (events : List H2Event) → 0 < length bytes → link ≡ (flushed before).link → sent ≡ (flushed before).sent → AreQuietToLast link.conn bytes
      → read ≡ record link { conn = (run link.conn bytes).0 } → events ≡ (run link.conn bytes).1 → Held answers old new (each event_taken events read) end → Held answers old new (each byte_served bytes before) (record { link = end; sent = sent })
  some_held {old} {new} bytes before link read end sent events some el es q er ee h =
      rw (read_served bytes before link read events some el q er ee)
      (held_then answers old new new (each event_taken events read) (on_link (flushed before).sent) end (record { link = end; sent = sent }) h (ended answers new new _ _ refl (ap (λ s. record { link = end; sent = s }) es)))

  -- the piece is begun
  pub some_begun : {old new : P} (piece : List ℕ) (used : ℕ) (before : Served) (link read : Link) (events : List H2Event) → 0 < length (take used piece) → link ≡ (flushed before).link → AreQuietToLast link.conn (take used piece)
      → read ≡ record link { conn = (run link.conn (take used piece)).0 } → events ≡ (run link.conn (take used piece)).1 → Begun answers old new (each event_taken events read) → Begun answers old new (each byte_served piece before)
  some_begun {old} {new} piece used before link read events some el q er ee b =
      let bytes = take used piece in
      let first : Begun answers old new (each byte_served bytes before) = rw (read_served bytes before link read events some el q er ee) (begun_then answers old new (each event_taken events read) (on_link (flushed before).sent) b) in
      let both : Begun answers old new (each byte_served (bytes ++ drop used piece) before) = rw (each_behind byte_served bytes (drop used piece) before) (begun_then answers old new (each byte_served bytes before) (each byte_served (drop used piece)) first) in
      subst (λ (l : List ℕ). Begun answers old new (each byte_served l before)) (take-append-drop used piece) both

  -- what is to be sent goes out last
  pub piece_done : (old new : P) (r : Result Unit NoMemory) (piece : List ℕ) (before between after : Served) → Held answers old new (each byte_served piece before) between → OnOk r (after ≡ flushed between)
      → Holds answers old new r (piece_served piece before) after
  piece_done old new (Ok x) piece before between after h e = held_then answers old new new (each byte_served piece before) (λ end. Ends (flushed end)) between after h (ended answers new new (flushed between) after refl e)
  piece_done old new (Err e) piece before between after h f = begun_behind answers old new new (each byte_served piece before) (λ end. Ends (flushed end)) between h (unbegun answers new new (Ends (flushed between)) refl)

  pub piece_begun : {old new : P} (piece : List ℕ) (before : Served) → Begun answers old new (each byte_served piece before) → Begun answers old new (piece_served piece before)
  piece_begun {old} {new} piece before b = begun_then answers old new (each byte_served piece before) (λ end. Ends (flushed end)) b

-- some bytes of a piece, if it has any
pub taken_some : (piece : List ℕ) (used : ℕ) → 0 < length piece → (used ≤ length piece) × (0 < length piece → 0 < used) → 0 < length (take used piece)
taken_some piece used some within = omega (arith, length-take used piece, within.0, within.1 some)

-- the front of a piece, and what is behind it
front_and_rest : (piece after : List ℕ) (used : ℕ) → after ≡ drop used piece → piece ≡ take used piece ++ after
front_and_rest piece after used e = sym (ap (λ x. take used piece ++ x) e ∙ take-append-drop used piece)

pub some_halted : {P : Type 0} {old new : P} (answers : P → Call → Reply → P → Type 0) (before after : Bool) (r : Result ℕ NoMemory) (piece : List ℕ) (start end : Served) → IsErr r
    → Begun (noting answers) (old, before) (new, after) (each byte_served piece start) → NotesSome answers old new before after r piece start end
some_halted answers before after (Ok x) piece start end e b = absurd cc
some_halted answers before after (Err x) piece start end e b = b

-- Some first bytes of a piece are served, and these of it are left, so many at most.
pub record AreServed {P : Type 0} (answers : P → Call → Reply → P → Type 0) (old new : P) (piece rest : List ℕ) (start now : Served) (n : ℕ) : Type 0 where
  pub served : List ℕ
  pub whole : served ++ rest ≡ piece
  pub held : Held answers old new (each byte_served served start) now
  pub few : length rest ≤ n

module _ {P : Type 0} (answers : P → Call → Reply → P → Type 0) where
  -- none so far
  pub none_served : (old : P) (piece : List ℕ) (start : Served) (n : ℕ) → length piece ≤ n → AreServed answers old old piece piece start start n
  none_served old piece start n le = record { served = []; whole = refl; held = ended answers old old start start refl refl; few = le }

  -- some more
  more_served : {old between new : P} (piece rest bytes after : List ℕ) (start now next : Served) (n more : ℕ) → rest ≡ bytes ++ after → 0 < length bytes → n ≤ more + 1
      → Held answers between new (each byte_served bytes now) next → AreServed answers old between piece rest start now n → AreServed answers old new piece after start next more
  more_served {old} {between} {new} piece rest bytes after start now next n more er some le h a = record {
    served = a.served ++ bytes;
    whole = append_assoc a.served bytes after ∙ ap (λ l. a.served ++ l) (sym er) ∙ a.whole;
    held = rw (each_behind byte_served a.served bytes start) (held_then answers old between new (each byte_served a.served start) (each byte_served bytes) now next a.held h);
    few = omega (arith, ap length er, length-append bytes after, a.few);
  }

  pub next_served : {old between new : P} (piece rest after : List ℕ) (used : ℕ) (start now next : Served) (n more : ℕ) → 0 < used → used ≤ length rest → after ≡ drop used rest → n ≤ more + 1
      → Held answers between new (each byte_served (take used rest) now) next → AreServed answers old between piece rest start now n → AreServed answers old new piece after start next more
  next_served piece rest after used start now next n more some within ea le h a =
      more_served piece rest (take used rest) after start now next n more (front_and_rest rest after used ea) (omega (arith, length-take used rest, some, within)) le h a

  -- no more, for want of memory
  pub served_short : {old between new : P} (piece rest : List ℕ) (start now : Served) (n : ℕ) → Begun answers between new (each byte_served rest now) → AreServed answers old between piece rest start now n → Begun answers old new (each byte_served piece start)
  served_short {old} {between} {new} piece rest start now n b a =
      subst (λ (l : List ℕ). Begun answers old new (each byte_served l start)) a.whole (rw (each_behind byte_served a.served rest start) (begun_behind answers old between new (each byte_served a.served start) (each byte_served rest) now a.held b))

  -- all of them
  pub all_served : {old new : P} (piece rest : List ℕ) (start now : Served) (n : ℕ) → length rest ≤ 0 → AreServed answers old new piece rest start now n → Held answers old new (each byte_served piece start) now
  all_served {old} {new} piece [] start now n le a = subst (λ (l : List ℕ). Held answers old new (each byte_served l start) now) (sym (append-nil a.served) ∙ a.whole) a.held
  all_served piece (byte ∷ rest) start now n le a = absurd (omega arith)
