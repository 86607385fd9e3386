-- Steps of a link's loop.
use Rattle.std.proofs.Common.{◌≡◌, ℕ, ◌-◌, ◌<◌, ◌≤◌, ◌⊎◌, inl, inr, Bool, true, false, List, [], ◌∷◌, take, Option, Some, None, Result, Ok, Err, refl, sym, ap, subst, ◌∙◌, arith, append-nil}
use Rattle.std.specs.Prelude.{IfOk, ◌&&◌, ◌||◌, not, fold}
use Rattle.std.proofs.lemmas.Grind.{fold-append}
use Rattle.list_types.specs.declared.memory.NoMemory.{NoMemory}
use Rattle.sw_edge.specs.Answers.{Puts}
use Rattle.sw_edge.specs.Counts.{Rose, HasCause, StaysUnless}
use Rattle.sw_edge.specs.declared.answers.Sent.{Sent}
use Rattle.sw_edge.specs.declared.answers.Sent.TheVariants as sent
use Rattle.sw_edge.specs.Told.{Keeps, Consumes, Appends, AppendsPrefix}
use Rattle.sw_edge.proofs.ToldLaws.{Keeps-refl, Keeps-trans, Consumes-nil, Consumes-Keeps, Appends-nil, Appends-trans, AppendsPrefix-all, Keeps-Appends}
use Rattle.h2_frames.specs.declared.codes.H2Code.{H2Code}
use Rattle.h2_conn.specs.Bytes.{code_of}
use Rattle.p4_types.specs.declared.calls.Call.{Call}
use Rattle.p4_types.specs.declared.calls.Reply.{Reply}
use Rattle.p4_types.specs.declared.messages.StreamMessageResponse.{StreamMessageResponse}
use Rattle.mail_room.specs.declared.next.Next.{Next}
use Rattle.p4rt_service.specs.declared.link.Link.{Link}
use Rattle.p4rt_service.specs.declared.standing.Standing.{Standing}
use Rattle.p4rt_service.specs.declared.standing.Standing.TheVariants as standings
use Rattle.p4rt_service.specs.Dialogues.{Ends, each, Exchange, Runs, Begins, Passes, Held, Begun, noting}
use Rattle.p4rt_service.specs.Serving.{is_open}
use Rattle.p4rt_service.specs.Turns.{Served, Turn, Piece, Message, Overflow, opened, untold, message_served, turn_served, turns_served, Serves, Delivers, sent_of, breach_of, is_to_leave}
use Rattle.p4rt_service.proofs.Holding.{ended, held_then}
use Rattle.link_loop.specs.declared.TheConstants.{MOST_MESSAGES}
use Rattle.link_loop.specs.declared.ends.LinkEnd.{LinkEnd}
use Rattle.link_loop.specs.declared.ends.LinkEnd.TheVariants as ends
use Rattle.link_loop.specs.Doings.{Doing, Pulled, Waited, Given, turn_given, packet_given, turn_of, exchanges_in, Carries, more_behind}
use Rattle.link_loop.specs.declared.watch.Watch.{Watch}
use Rattle.link_loop.specs.Watches.{unwatched, watched, told, piece_seen, is_unopened, is_quiet}
use Rattle.link_loop.specs.Courses as courses
use Rattle.link_loop.specs.Courses.{Outside, Leads, Course, SaysGoodbye, Lasts, IsUntouched, IsServed, Leaves, greeted, due_behind}
use Rattle.link_loop.specs.Steps.{Pushes, PushesPiece, HeldTurns, BegunTurn, Takes, TakesOn, Steps, StepsOn, LastsOn, is_given_up, Delivered, DeliversOn, PullsNone, Pulls, PullsOn, GreetsOn}
use Rattle.link_loop.proofs.CodeLaws.{message_keeps, overflow_keeps}
use Rattle.link_loop.proofs.DoingLaws.{unnoted, noted, carries_none}
use Rattle.link_loop.proofs.CourseLaws.{leads_none, course_none, course_one, course_then, ends_behind, given_up_behind, gives_up}

-- what was kept is nothing that was sent
sent_nothing : {A : Type 0} (old new : Option (List A)) → Keeps old new → Appends old new []
sent_nothing old new k = Keeps-Appends old new new [] k (Appends-nil new)

-- an answer that is not that a link is closed
pub never_closed : (end : Option LinkEnd) (before now : ℕ) → now ≡ before → ¬ (end ≡ Some ends.Closed) → HasCause before now (end ≡ Some ends.Closed)
never_closed end before now e n = record { later = omega (arith, e); cause = λ closed. absurd (n closed) }

pub last_closed : (end : LinkEnd) (before now : ℕ) → now ≡ before → ¬ (Some end ≡ Some ends.Closed) → HasCause before now (end ≡ ends.Closed)
last_closed end before now e n = record { later = omega (arith, e); cause = λ closed. absurd (n (ap (λ x. Some x) closed)) }

-- no packet
pub none_carried : (ports : Option (List (ℕ × List ℕ))) (faults : ℕ) (packets : List (ℕ × List ℕ)) → packets ≡ [] → Carries ports ports faults faults packets
none_carried ports faults packets e = rw e (carries_none ports faults)

-- one packet, which is put or at which the ports fail
pub put_carried : (answer : Sent) (old new : Option (List (ℕ × List ℕ))) (before now port : ℕ) (packet : List ℕ) → Puts old new answer port packet → HasCause before now (answer ≡ sent.Failed) → StaysUnless before now (answer ≡ sent.Failed)
    → Carries old new before now ((port, packet) ∷ [])
put_carried sent.All old new before now port packet p cause stays =
    record { put = (port, packet) ∷ []; lost = 0; left_out = inl ([], refl, (refl, refl)); sent = p; faults = stays (λ e. absurd cc) }
put_carried sent.Failed old new before now port packet p cause stays =
    record { put = []; lost = 1; left_out = inr (0, refl, (refl, refl)); sent = sent_nothing old new p; faults = cause.cause refl }

-- both of two, of which the second is that something is not so
and_first : (a b : Bool) → (a && b) ≡ true → a ≡ true
and_first true b e = refl
and_first false b e = e

and_not : (a b : Bool) → (a && not b) ≡ true → b ≡ false
and_not true true e = sym e
and_not true false e = refl
and_not false true e = sym e
and_not false false e = refl

module _ {P : Type 0} (answers : P → Call → Reply → P → Type 0) where
  -- ---- turns

  held_one : (old new : P) (turn : Turn) (before end : Served) → Held answers old new (turn_served turn before) end → Held answers old new (turns_served (turn ∷ []) before) end
  held_one old new turn before end h = held_then answers old new new (turn_served turn before) (each turn_served []) end end h (ended answers new new end end refl refl)

  -- a turn that was served, and whose end is without a breach
  pub record Done (old new : P) (before : Link) (standing : Standing) (sent : List ℕ) (turn : Turn) : Type 0 where
    pub held : HeldTurns answers old new before standing (turn ∷ [])
    pub sent_is : held.served.sent ≡ sent
    pub runs : (exchanges : List Exchange) × Runs (turn_served turn (untold before)) exchanges held.served

  serves_whole : (old new : P) (before : Link) (standing : Standing) (sent : List ℕ) (turn : Turn) → Serves answers old new (Ok sent) (standings.Serving before) standing turn → Done old new before standing sent turn
  serves_whole old new before (standings.Serving after) sent turn h = record {
    held = record { served = record { link = after; sent = sent }; held = held_one old new turn (untold before) (record { link = after; sent = sent }) h; standing_is = refl };
    sent_is = refl;
    runs = (h.exchanges, h.runs);
  }
  serves_whole old new before (standings.Lost due) sent turn h = absurd h

  serves_short : (old new : P) (e : NoMemory) (before : Link) (standing : Standing) (turn : Turn) → Serves answers old new (Err e) (standings.Serving before) standing turn → BegunTurn answers old new before standing (turn ∷ [])
  serves_short old new e before (standings.Serving after) turn h = absurd h
  serves_short old new e before (standings.Lost due) turn h = record { turn = turn; turn_is = refl; begun = h }

  -- a turn that does not tell a breach
  turn_taken : (end : Option LinkEnd) (served : Result (List ℕ) NoMemory) (old new : P) (old_sent new_sent : Option (List ℕ)) (before standing : Standing) (turn : Turn)
      → ((link : Link) (exchanges : List Exchange) (s : Served) → code_of link.conn ≡ None → Runs (turn_served turn (untold link)) exchanges s → code_of s.link.conn ≡ None)
      → Serves answers old new served before standing turn → Pushes end old_sent new_sent served → TakesOn answers end old new old_sent new_sent before standing (turn ∷ [])
  turn_taken None (Ok sent) old new old_sent new_sent before standing turn f h p = λ link e code.
      let d = serves_whole old new link standing sent turn (rw e at h) in
      (d.held, rw d.sent_is p, f link d.runs.0 d.held.served code d.runs.1)
  turn_taken None (Err e) old new old_sent new_sent before standing turn f h p = absurd p
  turn_taken (Some ends.Closed) (Ok sent) old new old_sent new_sent before standing turn f h p = absurd p
  turn_taken (Some ends.Closed) (Err e) old new old_sent new_sent before standing turn f h p = absurd p
  turn_taken (Some ends.Fault) (Ok sent) old new old_sent new_sent before standing turn f h p = λ link e code.
      let d = serves_whole old new link standing sent turn (rw e at h) in
      (d.held, rw d.sent_is p)
  turn_taken (Some ends.Fault) (Err e) old new old_sent new_sent before standing turn f h p = absurd p
  turn_taken (Some (ends.Refused c)) (Ok sent) old new old_sent new_sent before standing turn f h p = absurd p
  turn_taken (Some (ends.Refused c)) (Err e) old new old_sent new_sent before standing turn f h p = absurd p
  turn_taken (Some ends.Quiet) (Ok sent) old new old_sent new_sent before standing turn f h p = absurd p
  turn_taken (Some ends.Quiet) (Err e) old new old_sent new_sent before standing turn f h p = absurd p
  turn_taken (Some ends.Memory) (Ok sent) old new old_sent new_sent before standing turn f h p = absurd p
  turn_taken (Some ends.Memory) (Err e) old new old_sent new_sent before standing turn f h p = λ link el code. (serves_short old new e link standing turn (rw el at h), p)

  -- more waits than may
  pub overflow_taken : (end : Option LinkEnd) (served : Result (List ℕ) NoMemory) (old new : P) (old_sent new_sent : Option (List ℕ)) (before standing : Standing)
      → Serves answers old new served before standing Overflow → Pushes end old_sent new_sent served → TakesOn answers end old new old_sent new_sent before standing (Overflow ∷ [])
  overflow_taken end served old new old_sent new_sent before standing h p =
      turn_taken end served old new old_sent new_sent before standing Overflow (λ link exchanges s code runs. overflow_keeps link exchanges s code runs) h p

  code_is : (old new : P) (before : Link) (standing : Standing) (turns : List Turn) (h : HeldTurns answers old new before standing turns) → breach_of standing ≡ code_of h.served.link.conn
  code_is old new before standing turns h = ap breach_of h.standing_is

  -- a piece
  pub piece_taken : (end : Option LinkEnd) (served : Result (List ℕ × Option H2Code) NoMemory) (old new : P) (old_sent new_sent : Option (List ℕ)) (before standing : Standing) (piece : List ℕ)
      → Serves answers old new (sent_of served) before standing (Piece piece) → IfOk served (λ x. x.1 ≡ breach_of standing) → PushesPiece end old_sent new_sent served → TakesOn answers end old new old_sent new_sent before standing (Piece piece ∷ [])
  piece_taken None (Ok x) old new old_sent new_sent before standing piece h c p = λ link e code.
      let d = serves_whole old new link standing x.0 (Piece piece) (rw e at h) in
      (d.held, rw d.sent_is p.0, sym (code_is old new link standing (Piece piece ∷ []) d.held) ∙ sym c ∙ p.1)
  piece_taken None (Err e) old new old_sent new_sent before standing piece h c p = absurd p
  piece_taken (Some ends.Closed) (Ok x) old new old_sent new_sent before standing piece h c p = absurd p
  piece_taken (Some ends.Closed) (Err e) old new old_sent new_sent before standing piece h c p = absurd p
  piece_taken (Some ends.Fault) (Ok x) old new old_sent new_sent before standing piece h c p = λ link e code.
      let d = serves_whole old new link standing x.0 (Piece piece) (rw e at h) in
      (d.held, rw d.sent_is p)
  piece_taken (Some ends.Fault) (Err e) old new old_sent new_sent before standing piece h c p = absurd p
  piece_taken (Some (ends.Refused k)) (Ok x) old new old_sent new_sent before standing piece h c p = λ link e code.
      let d = serves_whole old new link standing x.0 (Piece piece) (rw e at h) in
      (d.held, rw d.sent_is p.0, sym (code_is old new link standing (Piece piece ∷ []) d.held) ∙ sym c ∙ p.1)
  piece_taken (Some (ends.Refused k)) (Err e) old new old_sent new_sent before standing piece h c p = absurd p
  piece_taken (Some ends.Quiet) (Ok x) old new old_sent new_sent before standing piece h c p = absurd p
  piece_taken (Some ends.Quiet) (Err e) old new old_sent new_sent before standing piece h c p = absurd p
  piece_taken (Some ends.Memory) (Ok x) old new old_sent new_sent before standing piece h c p = absurd p
  piece_taken (Some ends.Memory) (Err e) old new old_sent new_sent before standing piece h c p = λ link el code. (serves_short old new e link standing (Piece piece) (rw el at h), p)

  -- turns, behind what was kept
  takes_before : (end : Option LinkEnd) (old new : P) (first middle last : Option (List ℕ)) (before : Link) (standing : Standing) (turns : List Turn) → Keeps first middle → Takes answers end old new middle last before standing turns
      → Takes answers end old new first last before standing turns
  takes_before None old new first middle last before standing turns k t = (t.0, Keeps-Appends first middle last t.0.served.sent k t.1, t.2)
  takes_before (Some ends.Closed) old new first middle last before standing turns k t = absurd t
  takes_before (Some ends.Fault) old new first middle last before standing turns k t = (t.0, (t.1.0, t.1.1, Keeps-Appends first middle last (take t.1.0 t.0.served.sent) k t.1.2))
  takes_before (Some (ends.Refused code)) old new first middle last before standing turns k t = (t.0, Keeps-Appends first middle last t.0.served.sent k t.1, t.2)
  takes_before (Some ends.Quiet) old new first middle last before standing turns k t = absurd t
  takes_before (Some ends.Memory) old new first middle last before standing turns k t = (t.0, Keeps-trans first middle last k t.1)

  -- a pull that gave bytes
  pub pull_served : (end : Option LinkEnd) (old new : P) (left between left_now : Option (List ℕ)) (quiets quiets_between quiets_now : ℕ) (first middle last : Option (List ℕ)) (before standing : Standing) (piece : List ℕ) (watch seen : Watch)
      → seen ≡ piece_seen piece watch → Consumes left between piece → Keeps between left_now → quiets_between ≡ quiets → quiets_now ≡ quiets_between → Keeps first middle → TakesOn answers end old new middle last before standing (Piece piece ∷ [])
      → PullsOn answers end old new left left_now quiets quiets_now first last before standing watch seen
  pull_served end old new left between left_now quiets quiets_between quiets_now first middle last before standing piece watch seen es c kl eb en ks t = λ link e code.
      inl (piece, Consumes-Keeps left between left_now piece c kl, en ∙ eb, es, takes_before end old new first middle last link standing (Piece piece ∷ []) ks (t link e code))

  -- no turn
  pub none_taken : (pass : P) (sent : Option (List ℕ)) (standing : Standing) (turns : List Turn) → turns ≡ [] → TakesOn answers None pass pass sent sent standing standing turns
  none_taken pass sent standing turns et = λ link e code. rw et (record { served = untold link; held = ended answers pass pass (untold link) (untold link) refl refl; standing_is = e }, Appends-nil sent, code)

  -- a message for the channel, which makes no call
  message_held : (pass : P) (link : Link) (standing : Standing) (message : StreamMessageResponse) → standing ≡ standings.Serving (message_served message (untold link)).link → HeldTurns answers pass pass link standing (Message message ∷ [])
  unfolding turn_served
  message_held pass link standing message e = record {
    served = message_served message (untold link);
    held = held_one pass pass (Message message) (untold link) (message_served message (untold link)) (ended answers pass pass (message_served message (untold link)) (message_served message (untold link)) refl refl);
    standing_is = e;
  }

  message_sent : (pass : P) (link : Link) (standing : Standing) (message : StreamMessageResponse) (e : standing ≡ standings.Serving (message_served message (untold link)).link)
      → (message_held pass link standing message e).served ≡ message_served message (untold link)
  unfolding message_held
  message_sent pass link standing message e = refl

  message_step : (end : Option LinkEnd) (pass : P) (old_sent new_sent : Option (List ℕ)) (link : Link) (standing : Standing) (message : StreamMessageResponse)
      → code_of link.conn ≡ None → Delivered end old_sent new_sent link standing message → Takes answers end pass pass old_sent new_sent link standing (Message message ∷ [])
  message_step None pass old_sent new_sent link standing message code d =
      let h = message_held pass link standing message d.0 in
      let e : h.served ≡ message_served message (untold link) = message_sent pass link standing message d.0 in
      (h, rw e d.1, ap (λ s. code_of s.link.conn) e ∙ message_keeps message link ∙ code)
  message_step (Some ends.Closed) pass old_sent new_sent link standing message code d = absurd d
  message_step (Some ends.Fault) pass old_sent new_sent link standing message code d =
      let h = message_held pass link standing message d.0 in
      let e : h.served ≡ message_served message (untold link) = message_sent pass link standing message d.0 in
      (h, rw e d.1)
  message_step (Some (ends.Refused c)) pass old_sent new_sent link standing message code d = absurd d
  message_step (Some ends.Quiet) pass old_sent new_sent link standing message code d = absurd d
  message_step (Some ends.Memory) pass old_sent new_sent link standing message code d =
      (record { turn = Message message; turn_is = refl; begun = record { exchanges = []; passes = ap (λ s. (pass, is_to_leave s)) d.0; begins = tt } }, d.1)

  pub message_taken : (end : Option LinkEnd) (pass : P) (old_sent new_sent : Option (List ℕ)) (before standing : Standing) (message : StreamMessageResponse)
      → DeliversOn end old_sent new_sent before standing message → TakesOn answers end pass pass old_sent new_sent before standing (Message message ∷ [])
  message_taken end pass old_sent new_sent before standing message d = λ link e code. message_step end pass old_sent new_sent link standing message code (d link e)

delivered_on : (end : Option LinkEnd) (served : Result (List ℕ) NoMemory) (old_sent new_sent : Option (List ℕ)) (link : Link) (standing : Standing) (message : StreamMessageResponse)
    → Delivers served (standings.Serving link) standing message → Pushes end old_sent new_sent served → Delivered end old_sent new_sent link standing message
delivered_on None (Ok sent) old_sent new_sent link (standings.Serving after) message d p = (ap (λ s. standings.Serving s.link) d, rw (sym (ap (λ s. s.sent) d)) p)
delivered_on None (Ok sent) old_sent new_sent link (standings.Lost due) message d p = absurd d
delivered_on None (Err e) old_sent new_sent link standing message d p = absurd p
delivered_on (Some ends.Closed) (Ok sent) old_sent new_sent link standing message d p = absurd p
delivered_on (Some ends.Closed) (Err e) old_sent new_sent link standing message d p = absurd p
delivered_on (Some ends.Fault) (Ok sent) old_sent new_sent link (standings.Serving after) message d p = (ap (λ s. standings.Serving s.link) d, subst (AppendsPrefix old_sent new_sent) (ap (λ s. s.sent) d) p)
delivered_on (Some ends.Fault) (Ok sent) old_sent new_sent link (standings.Lost due) message d p = absurd d
delivered_on (Some ends.Fault) (Err e) old_sent new_sent link standing message d p = absurd p
delivered_on (Some (ends.Refused c)) (Ok sent) old_sent new_sent link standing message d p = absurd p
delivered_on (Some (ends.Refused c)) (Err e) old_sent new_sent link standing message d p = absurd p
delivered_on (Some ends.Quiet) (Ok sent) old_sent new_sent link standing message d p = absurd p
delivered_on (Some ends.Quiet) (Err e) old_sent new_sent link standing message d p = absurd p
delivered_on (Some ends.Memory) (Ok sent) old_sent new_sent link standing message d p = absurd p
delivered_on (Some ends.Memory) (Err e) old_sent new_sent link standing message d p = (d, p)

pub message_delivered : (end : Option LinkEnd) (served : Result (List ℕ) NoMemory) (old_sent new_sent : Option (List ℕ)) (before standing : Standing) (message : StreamMessageResponse)
    → Delivers served before standing message → Pushes end old_sent new_sent served → DeliversOn end old_sent new_sent before standing message
message_delivered end served old_sent new_sent before standing message d p = λ link e. delivered_on end served old_sent new_sent link standing message (rw e at d) p

module _ {P : Type 0} (answers : P → Call → Reply → P → Type 0) (gives : P → ℕ → Option Next → P → Type 0) where
  -- ---- doings

  leads_pulled : (old new : Outside P) (more : ℕ) (piece : List ℕ) (exchanges : List Exchange) → Passes answers old.pass exchanges new.pass → Consumes old.left new.left piece → new.quiets ≡ old.quiets
      → new.put ≡ old.put → new.faults ≡ old.faults → new.moment ≡ old.moment → more ≡ 0 → Leads answers gives old new more MOST_MESSAGES (Pulled piece exchanges ∷ [])
  leads_pulled old new more piece exchanges p c eq et ef em en = record {
    passes = (new.pass, p, refl);
    pulled = rw (append-nil piece) c;
    waited = eq;
    moments = omega (arith, em);
    put = rw (et, ef) (carries_none old.put old.faults);
    asked = (en, refl);
  }

  leads_waited : (old new : Outside P) (more : ℕ) → new.pass ≡ old.pass → Keeps old.left new.left → Rose old.quiets new.quiets
      → new.put ≡ old.put → new.faults ≡ old.faults → new.moment ≡ old.moment → more ≡ 0 → Leads answers gives old new more MOST_MESSAGES (Waited ∷ [])
  leads_waited old new more ep kl rose et ef em en = record {
    passes = (new.pass, ep, refl);
    pulled = Consumes-Keeps old.left old.left new.left [] (Consumes-nil old.left) kl;
    waited = rose;
    moments = omega (arith, em);
    put = rw (et, ef) (carries_none old.put old.faults);
    asked = (en, refl);
  }

  leads_given : (old new : Outside P) (more left now : ℕ) (next : Option Next) (exchanges : List Exchange) (between : P) → gives old.pass now next between → Passes answers between exchanges new.pass
      → Keeps old.left new.left → new.quiets ≡ old.quiets → Carries old.put new.put old.faults new.faults (packet_given next) → old.moment ≤ now → now ≡ new.moment → 0 < more → left ≡ more_behind next more
      → Leads answers gives old new more left (Given now next exchanges ∷ [])
  leads_given old new more left now next exchanges between g p kl eq c low high lt el = record {
    passes = (new.pass, (between, g, p), refl);
    pulled = Consumes-Keeps old.left old.left new.left [] (Consumes-nil old.left) kl;
    waited = eq;
    moments = (low, omega (arith, high));
    put = rw (append-nil (packet_given next)) c;
    asked = (lt, el);
  }

  -- turns that were taken in one doing
  took : (end : Option LinkEnd) (between : P) (old new : Outside P) (old_sent new_sent : Option (List ℕ)) (before : Link) (standing : Standing) (turns : List Turn) (more left : ℕ) (watch seen : Watch) (doing : List Exchange → Doing)
      → ((exchanges : List Exchange) → seen ≡ watched watch (doing exchanges)) → ((exchanges : List Exchange) → turn_of (doing exchanges) ≡ turns) → ((exchanges : List Exchange) → exchanges_in (doing exchanges) ≡ exchanges)
      → ((exchanges : List Exchange) → Passes answers between exchanges new.pass → Leads answers gives old new more left (doing exchanges ∷ []))
      → Takes answers end between new.pass old_sent new_sent before standing turns → Steps answers gives end old new old_sent new_sent before standing more left watch seen
  took None between old new old_sent new_sent before standing turns more left watch seen doing es et ee leads t = (
    course_one answers gives old new before more left (doing t.0.held.exchanges) turns t.0.held.exchanges t.0.served (leads t.0.held.exchanges t.0.held.passes) (et t.0.held.exchanges) (ee t.0.held.exchanges) t.0.held.runs,
    t.1,
    t.0.standing_is,
    refl,
    refl,
    es t.0.held.exchanges,
    t.2,
  )
  took (Some ends.Closed) between old new old_sent new_sent before standing turns more left watch seen doing es et ee leads t = absurd t
  took (Some ends.Fault) between old new old_sent new_sent before standing turns more left watch seen doing es et ee leads t = (
    course_one answers gives old new before more left (doing t.0.held.exchanges) turns t.0.held.exchanges t.0.served (leads t.0.held.exchanges t.0.held.passes) (et t.0.held.exchanges) (ee t.0.held.exchanges) t.0.held.runs,
    t.1,
    ap is_to_leave t.0.standing_is,
  )
  took (Some (ends.Refused code)) between old new old_sent new_sent before standing turns more left watch seen doing es et ee leads t = (
    course_one answers gives old new before more left (doing t.0.held.exchanges) turns t.0.held.exchanges t.0.served (leads t.0.held.exchanges t.0.held.passes) (et t.0.held.exchanges) (ee t.0.held.exchanges) t.0.held.runs,
    t.1,
    ap is_to_leave t.0.standing_is,
    t.2,
  )
  took (Some ends.Quiet) between old new old_sent new_sent before standing turns more left watch seen doing es et ee leads t = absurd t
  took (Some ends.Memory) between old new old_sent new_sent before standing turns more left watch seen doing es et ee leads t =
      let begun = t.0.begun in
      record {
        between = old;
        course = course_none answers gives old old (untold before) more (leads_none answers gives old old more refl (Keeps-refl old.left) refl refl refl refl);
        sent = sent_nothing old_sent new_sent t.1;
        last = doing begun.exchanges;
        rest = left;
        leads = leads begun.exchanges (unnoted answers gives begun.exchanges (between, is_open before) (new.pass, is_to_leave standing) begun.passes);
        turn = t.0.turn;
        turn_is = et begun.exchanges ∙ t.0.turn_is;
        begins = rw (ee begun.exchanges) begun.begins;
        due_is = noted answers gives begun.exchanges (between, is_open before) (new.pass, is_to_leave standing) begun.passes ∙ ap (due_behind (is_open before)) (sym (ee begun.exchanges));
      }

  -- what waited, handed on
  pub given_step : (end : Option LinkEnd) (between : P) (old new : Outside P) (old_sent new_sent : Option (List ℕ)) (before standing : Standing) (more left now : ℕ) (next : Option Next) (watch seen : Watch)
      → seen ≡ told now watch → gives old.pass now next between → TakesOn answers end between new.pass old_sent new_sent before standing (turn_given next)
      → Keeps old.left new.left → new.quiets ≡ old.quiets → Carries old.put new.put old.faults new.faults (packet_given next) → old.moment ≤ now → now ≡ new.moment → 0 < more → left ≡ more_behind next more
      → StepsOn answers gives end old new old_sent new_sent before standing more left watch seen
  given_step end between old new old_sent new_sent before standing more left now next watch seen es g t kl eq c low high lt el = λ link e code.
      took end between old new old_sent new_sent link standing (turn_given next) more left watch seen (Given now next) (λ exchanges. es) (λ exchanges. refl) (λ exchanges. refl)
      (λ exchanges p. leads_given old new more left now next exchanges between g p kl eq c low high lt el) (t link e code)

  -- a course of which nothing is done
  course_still : (old new : Outside P) (before : Link) (more : ℕ) → new.pass ≡ old.pass → Keeps old.left new.left → new.quiets ≡ old.quiets
      → new.put ≡ old.put → new.faults ≡ old.faults → new.moment ≡ old.moment → Leads answers gives old new more more []
  course_still old new before more ep kl eq et ef em = leads_none answers gives old new more ep kl eq et ef em

  pulls_none : (end : Option LinkEnd) (old new : Outside P) (old_sent new_sent : Option (List ℕ)) (link : Link) (standing : Standing) (more : ℕ) (watch seen : Watch)
      → PullsNone end old.left new.left old.quiets new.quiets → new.pass ≡ old.pass → Keeps old_sent new_sent → standing ≡ standings.Serving link
      → new.put ≡ old.put → new.faults ≡ old.faults → new.moment ≡ old.moment → more ≡ 0 → code_of link.conn ≡ None → seen ≡ watch → Steps answers gives end old new old_sent new_sent link standing more MOST_MESSAGES watch seen
  pulls_none None old new old_sent new_sent link standing more watch seen n ep ks es et ef em en code ew = (
    course_one answers gives old new link more MOST_MESSAGES Waited [] [] (untold link) (leads_waited old new more ep n.0 n.1 et ef em en) refl refl refl,
    sent_nothing old_sent new_sent ks,
    es,
    refl,
    refl,
    ew,
    code,
  )
  pulls_none (Some ends.Closed) old new old_sent new_sent link standing more watch seen n ep ks es et ef em en code ew = (
    course_none answers gives old new (untold link) more (leads_none answers gives old new more ep n.0.2 n.1 et ef em),
    sent_nothing old_sent new_sent ks,
    ap is_to_leave es,
    en,
    n.0.1,
    code,
  )
  pulls_none (Some ends.Fault) old new old_sent new_sent link standing more watch seen n ep ks es et ef em en code ew = (
    course_none answers gives old new (untold link) more (leads_none answers gives old new more ep n.0 n.1 et ef em),
    AppendsPrefix-all old_sent new_sent [] (sent_nothing old_sent new_sent ks),
    ap is_to_leave es,
  )
  pulls_none (Some (ends.Refused c)) old new old_sent new_sent link standing more watch seen n ep ks es et ef em en code ew = absurd n
  pulls_none (Some ends.Quiet) old new old_sent new_sent link standing more watch seen n ep ks es et ef em en code ew = absurd n
  pulls_none (Some ends.Memory) old new old_sent new_sent link standing more watch seen n ep ks es et ef em en code ew = absurd n

  pulls_step : (end : Option LinkEnd) (old new : Outside P) (old_sent new_sent : Option (List ℕ)) (link : Link) (standing : Standing) (more : ℕ) (watch seen : Watch)
      → Pulls answers end old.pass new.pass old.left new.left old.quiets new.quiets old_sent new_sent link standing watch seen
      → new.put ≡ old.put → new.faults ≡ old.faults → new.moment ≡ old.moment → more ≡ 0 → code_of link.conn ≡ None → Steps answers gives end old new old_sent new_sent link standing more MOST_MESSAGES watch seen
  pulls_step end old new old_sent new_sent link standing more watch seen (inl w) et ef em en code =
      took end old.pass old new old_sent new_sent link standing (Piece w.0 ∷ []) more MOST_MESSAGES watch seen (Pulled w.0) (λ exchanges. w.3) (λ exchanges. refl) (λ exchanges. refl)
      (λ exchanges p. leads_pulled old new more w.0 exchanges p w.1 w.2 et ef em en) w.4
  pulls_step end old new old_sent new_sent link standing more watch seen (inr w) et ef em en code = pulls_none end old new old_sent new_sent link standing more watch seen w.0 w.1 w.2 w.3 et ef em en code w.4

  -- a pull, where nothing more is asked for
  pub pulled_step : (end : Option LinkEnd) (old new : Outside P) (old_sent new_sent : Option (List ℕ)) (before standing : Standing) (more : ℕ) (watch seen : Watch)
      → PullsOn answers end old.pass new.pass old.left new.left old.quiets new.quiets old_sent new_sent before standing watch seen
      → new.put ≡ old.put → new.faults ≡ old.faults → new.moment ≡ old.moment → more ≡ 0 → StepsOn answers gives end old new old_sent new_sent before standing more MOST_MESSAGES watch seen
  pulled_step end old new old_sent new_sent before standing more watch seen p et ef em en = λ link e code. pulls_step end old new old_sent new_sent link standing more watch seen (p link e code) et ef em en code

  -- ---- the loop

  -- a course so far
  pub record Going (old new : Outside P) (old_sent new_sent : Option (List ℕ)) (before : Link) (standing : Standing) (left : ℕ) (watch : Watch) : Type 0 where
    pub course : Course answers gives old new (untold before) MOST_MESSAGES
    pub sent : Appends old_sent new_sent course.served.sent
    pub standing_is : standing ≡ standings.Serving course.served.link
    pub left_is : left ≡ course.left
    pub seen : watch ≡ fold watched unwatched course.doings
    pub whole : code_of course.served.link.conn ≡ None

  abbrev pub GoingOn : Outside P → Outside P → Option (List ℕ) → Option (List ℕ) → Standing → Standing → ℕ → Watch → Type 0
  GoingOn old new old_sent new_sent before standing left watch = (link : Link) → before ≡ standings.Serving link → code_of link.conn ≡ None → Going old new old_sent new_sent link standing left watch

  pub going_start : (old : Outside P) (sent : Option (List ℕ)) (standing : Standing) (left : ℕ) (watch : Watch) → left ≡ MOST_MESSAGES → watch ≡ unwatched → GoingOn old old sent sent standing standing left watch
  going_start old sent standing left watch el ew = λ link e code. record {
    course = course_none answers gives old old (untold link) MOST_MESSAGES (leads_none answers gives old old MOST_MESSAGES refl (Keeps-refl old.left) refl refl refl refl);
    sent = Appends-nil sent;
    standing_is = e;
    left_is = el;
    seen = ew;
    whole = code;
  }

  going_then : (old between new : Outside P) (first middle last : Option (List ℕ)) (before : Link) (standing after : Standing) (more left : ℕ) (watch seen : Watch) (g : Going old between first middle before standing more watch)
      → Steps answers gives None between new middle last g.course.served.link after g.course.left left watch seen → Going old new first last before after left seen
  going_then old between new first middle last before standing after more left watch seen g s = record {
    course = course_then answers gives old between new (untold before) MOST_MESSAGES g.course s.0;
    sent = Appends-trans first middle last g.course.served.sent s.0.served.sent g.sent s.1;
    standing_is = s.2;
    left_is = s.3;
    seen = s.5 ∙ ap (λ w. fold watched w s.0.doings) g.seen ∙ sym (fold-append watched unwatched g.course.doings s.0.doings);
    whole = s.6;
  }

  pub going_more : (old between new : Outside P) (first middle last : Option (List ℕ)) (before standing after : Standing) (more left : ℕ) (watch seen : Watch) → GoingOn old between first middle before standing more watch
      → StepsOn answers gives None between new middle last standing after more left watch seen → GoingOn old new first last before after left seen
  going_more old between new first middle last before standing after more left watch seen g s = λ link e code.
      let here = g link e code in
      let step : Steps answers gives None between new middle last here.course.served.link after here.course.left left watch seen = subst (λ k. Steps answers gives None between new middle last here.course.served.link after k left watch seen) here.left_is (s here.course.served.link here.standing_is here.whole) in
      going_then old between new first middle last link standing after more left watch seen here step

  pub going_ends : (end : LinkEnd) (old between new : Outside P) (first middle last : Option (List ℕ)) (before standing after : Standing) (more left : ℕ) (watch seen : Watch) → GoingOn old between first middle before standing more watch
      → StepsOn answers gives (Some end) between new middle last standing after more left watch seen → LastsOn answers gives end old new first last before after
  going_ends end old between new first middle last before standing after more left watch seen g s = λ link e code.
      let here = g link e code in
      let ends : courses.Ends answers gives end between new (untold here.course.served.link) middle last here.course.left (is_to_leave after) =
      subst (λ k. courses.Ends answers gives end between new (untold here.course.served.link) middle last k (is_to_leave after)) here.left_is (s here.course.served.link here.standing_is here.whole) in
      inl (ends_behind answers gives end old between new (untold link) first middle last MOST_MESSAGES (is_to_leave after) here.course here.sent ends)

  -- behind a course the link is given up
  pub going_given_up : (end : LinkEnd) (old between new : Outside P) (first middle last : Option (List ℕ)) (before standing : Standing) (left : ℕ) (watch : Watch) → GoingOn old between first middle before standing left watch
      → is_given_up watch standing ≡ true → SaysGoodbye end middle last []
      → new.pass ≡ between.pass → Keeps between.left new.left → new.quiets ≡ between.quiets → new.put ≡ between.put → new.faults ≡ between.faults → new.moment ≡ between.moment
      → LastsOn answers gives end old new first last before standing
  going_given_up end old between new first middle last before standing left watch g due says ep kl eq et ef em = λ link e code.
      let here = g link e code in
      let late : (is_unopened watch || is_quiet watch) ≡ true = and_first (is_unopened watch || is_quiet watch) (not (is_to_leave standing)) due in
      let stays : is_to_leave standing ≡ false = and_not (is_unopened watch || is_quiet watch) (is_to_leave standing) due in
      inr (gives_up answers gives end old between new (untold link) first middle last (is_to_leave standing) here.course here.sent ep kl eq et ef em says (rw here.seen at late) (sym (ap is_to_leave here.standing_is) ∙ stays) here.whole stays)

  -- ---- the beginning

  lasts_behind : (end : LinkEnd) (old between new : Outside P) (start : Served) (first middle last : Option (List ℕ)) (due : Bool) → Leads answers gives old between MOST_MESSAGES MOST_MESSAGES [] → Appends first middle start.sent
      → Lasts answers gives end between new (untold start.link) middle last due → Lasts answers gives end old new start first last due
  lasts_behind end old between new start first middle last due leads sent (inl e) =
      inl (ends_behind answers gives end old between new start first middle last MOST_MESSAGES due (course_none answers gives old between start MOST_MESSAGES leads) sent e)
  lasts_behind end old between new start first middle last due leads sent (inr e) = inr (given_up_behind answers gives end old between new start first middle last due leads sent e)

  alone : {X : Type 0} (x end : X) (exchanges : List Exchange) (old new : P) → Passes answers old exchanges new → Runs (Ends x) exchanges end → (new ≡ old) × (end ≡ x)
  alone x end [] old new p r = (p, r)
  alone x end (exchange ∷ rest) old new p r = absurd r

  begun_alone : {X : Type 0} (x : X) (exchanges : List Exchange) (old new : P × Bool) → Passes (noting answers) old exchanges new → Begins (Ends x) exchanges → new ≡ old
  begun_alone x [] old new p b = p
  begun_alone x (exchange ∷ rest) old new p b = absurd b

  greeting_held : (lane : ℕ) (old new : P) (standing : Standing) (h : HeldTurns answers old new (opened lane) standing (Piece [] ∷ [])) → (new ≡ old) × (h.served ≡ greeted lane)
  unfolding turn_served
  greeting_held lane old new standing h = alone (greeted lane) h.served h.held.exchanges old new h.held.passes h.held.runs

  greeting_begun : (lane : ℕ) (old new : P) (standing : Standing) (turn : Turn) → turn ≡ Piece [] → Begun (noting answers) (old, is_open (opened lane)) (new, is_to_leave standing) (turn_served turn (untold (opened lane))) → (new ≡ old) × (is_to_leave standing ≡ false)
  unfolding turn_served
  greeting_begun lane old new standing turn et b =
      let b2 : Begun (noting answers) (old, is_open (opened lane)) (new, is_to_leave standing) (turn_served (Piece []) (untold (opened lane))) = rw et at b in
      let e = begun_alone (greeted lane) b2.exchanges (old, is_open (opened lane)) (new, is_to_leave standing) b2.passes b2.begins in
      (ap (λ x. x.0) e, ap (λ x. x.1) e)

  greeting_ends : (end : LinkEnd) (lane : ℕ) (old new : Outside P) (old_sent new_sent : Option (List ℕ)) (standing : Standing) → Takes answers (Some end) old.pass new.pass old_sent new_sent (opened lane) standing (Piece [] ∷ [])
      → (new.pass ≡ old.pass → Leads answers gives old new MOST_MESSAGES MOST_MESSAGES [])
      → Lasts answers gives end old new (greeted lane) old_sent new_sent (is_to_leave standing) ⊎ (IsUntouched answers gives end old new old_sent new_sent × (is_to_leave standing ≡ false))
  greeting_ends ends.Closed lane old new old_sent new_sent standing t leads = absurd t
  greeting_ends ends.Fault lane old new old_sent new_sent standing t leads =
      let h = greeting_held lane old.pass new.pass standing t.0 in
      inl (inl (course_none answers gives old new (greeted lane) MOST_MESSAGES (leads h.0), subst (λ s. AppendsPrefix old_sent new_sent s.sent) h.1 t.1, ap is_to_leave t.0.standing_is ∙ ap (λ s. is_open s.link) h.1))
  greeting_ends (ends.Refused code) lane old new old_sent new_sent standing t leads =
      let h = greeting_held lane old.pass new.pass standing t.0 in
      inl (inl (
        course_none answers gives old new (greeted lane) MOST_MESSAGES (leads h.0),
        subst (λ s. Appends old_sent new_sent s.sent) h.1 t.1,
        ap is_to_leave t.0.standing_is ∙ ap (λ s. is_open s.link) h.1,
        ap (λ s. code_of s.link.conn) (sym h.1) ∙ t.2,
      ))
  greeting_ends ends.Quiet lane old new old_sent new_sent standing t leads = absurd t
  greeting_ends ends.Memory lane old new old_sent new_sent standing t leads =
      let et : t.0.turn ≡ Piece [] = cc t.0.turn_is in
      let h = greeting_begun lane old.pass new.pass standing t.0.turn et t.0.begun in
      inr ((refl, leads h.0, t.1), h.1)

  pub greeting_last : (end : LinkEnd) (old new : Outside P) (old_sent new_sent : Option (List ℕ)) (before standing : Standing) → TakesOn answers (Some end) old.pass new.pass old_sent new_sent before standing (Piece [] ∷ [])
      → Keeps old.left new.left → new.quiets ≡ old.quiets → new.put ≡ old.put → new.faults ≡ old.faults → new.moment ≡ old.moment → GreetsOn answers gives end old new old_sent new_sent before standing
  greeting_last end old new old_sent new_sent before standing t kl eq et ef em = λ lane e.
      greeting_ends end lane old new old_sent new_sent standing (t (opened lane) e refl) (λ ep. leads_none answers gives old new MOST_MESSAGES ep kl eq et ef em)

  pub greeting_on : (end : LinkEnd) (old between new : Outside P) (first middle last : Option (List ℕ)) (before standing after : Standing) → TakesOn answers None old.pass between.pass first middle before standing (Piece [] ∷ [])
      → Keeps old.left between.left → between.quiets ≡ old.quiets → between.put ≡ old.put → between.faults ≡ old.faults → between.moment ≡ old.moment
      → LastsOn answers gives end between new middle last standing after → GreetsOn answers gives end old new first last before after
  greeting_on end old between new first middle last before standing after t kl eq et ef em l = λ lane e.
      let s = t (opened lane) e refl in
      let h = greeting_held lane old.pass between.pass standing s.0 in
      let rest : Lasts answers gives end between new (untold (greeted lane).link) middle last (is_to_leave after) =
      subst (λ x. Lasts answers gives end between new (untold x.link) middle last (is_to_leave after)) h.1 (l s.0.served.link s.0.standing_is s.2) in
      inl (lasts_behind end old between new (greeted lane) first middle last (is_to_leave after) (leads_none answers gives old between MOST_MESSAGES h.0 kl eq et ef em) (subst (λ x. Appends first middle x.sent) h.1 s.1) rest)

  -- ---- the end

  untouched_to_end : (end : LinkEnd) (old new : Outside P) (old_sent new_sent : Option (List ℕ)) (pass : P) → pass ≡ new.pass → IsUntouched answers gives end old new old_sent new_sent → IsUntouched answers gives end old (record new { pass = pass }) old_sent new_sent
  untouched_to_end end old new old_sent new_sent pass e u = subst (λ p. IsUntouched answers gives end old (record new { pass = p }) old_sent new_sent) (sym e) u

  pub served_to_end : (lane : ℕ) (end : LinkEnd) (old new : Outside P) (old_sent new_sent : Option (List ℕ)) (before standing : Standing) (pass : P) → GreetsOn answers gives end old new old_sent new_sent before standing
      → before ≡ standings.Serving (opened lane) → Leaves answers (is_to_leave standing) new.pass pass → IsServed answers gives lane end old (record new { pass = pass }) old_sent new_sent
  served_to_end lane end old new old_sent new_sent before standing pass g e leaves =
      elim (g lane e) as (λ _. IsServed answers gives lane end old (record new { pass = pass }) old_sent new_sent) [
        | inl lasts ↦ inl (record { middle = new.pass; due = is_to_leave standing; lasts = lasts; leaves = leaves })
        | inr w ↦ let stays : Leaves answers false new.pass pass = rw w.1 at leaves in inr (untouched_to_end end old new old_sent new_sent pass stays w.0)
      ]

  -- nothing was done for want of memory
  pub served_none : (lane : ℕ) (old : Outside P) (sent : Option (List ℕ)) → IsServed answers gives lane ends.Memory old old sent sent
  served_none lane old sent = inr (refl, leads_none answers gives old old MOST_MESSAGES refl (Keeps-refl old.left) refl refl refl refl, Keeps-refl sent)
