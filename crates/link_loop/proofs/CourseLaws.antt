-- Courses, one behind another.
use Rattle.std.proofs.Common.{◌≡◌, ℕ, ◌+◌, List, [], ◌∷◌, ◌++◌, Option, Bool, true, false, None, fold, refl, sym, ap, subst, ◌∙◌, arith, append_assoc, append-nil}
use Rattle.std.specs.Prelude.{◌||◌}
use Rattle.std.specs.List.{flat_map, sum_by}
use Rattle.std.proofs.Math.Path.{fun_ext}
use Rattle.std.proofs.lemmas.Grind.{flat_map-append}
use Rattle.std.proofs.lemmas.List.Sums.{sum_by-append}
use Rattle.sw_edge.specs.Told.{Keeps, Consumes, Appends, AppendsPrefix}
use Rattle.sw_edge.proofs.ToldLaws.{Consumes-nil, Consumes-trans, Consumes-Keeps, Appends-trans, Appends-AppendsPrefix}
use Rattle.p4_types.specs.declared.calls.Call.{Call}
use Rattle.p4_types.specs.declared.calls.Reply.{Reply}
use Rattle.mail_room.specs.declared.next.Next.{Next}
use Rattle.p4rt_service.specs.declared.link.Link.{Link}
use Rattle.p4rt_service.specs.Dialogues.{Dialogue, Ends, Asks, ◌>>=◌, each, Exchange, Runs}
use Rattle.p4rt_service.specs.Laws.{behind}
use Rattle.h2_conn.specs.Bytes.{code_of}
use Rattle.p4rt_service.specs.Serving.{is_open}
use Rattle.p4rt_service.specs.Turns.{Served, Turn, untold, turn_served, turns_served}
use Rattle.p4rt_service.proofs.Holding.{associative, each_behind}
use Rattle.p4rt_service.proofs.Cuts.{sent_before}
use Rattle.link_loop.specs.declared.ends.LinkEnd.{LinkEnd}
use Rattle.link_loop.specs.declared.ends.LinkEnd.TheVariants as ends
use Rattle.link_loop.specs.Doings.{Doing, turn_of, turns_of, exchanges_in, exchanges_of, bytes_in, packet_in, moment_in, wait_in, waits_of, risen}
use Rattle.link_loop.specs.declared.TheConstants.{MOST_MESSAGES}
use Rattle.link_loop.specs.Watches.{unwatched, watched, is_unopened, is_quiet, goodbye}
use Rattle.link_loop.specs.Courses as courses
use Rattle.link_loop.specs.Courses.{Outside, Leads, Course, SaysGoodbye, GivenUp}
use Rattle.link_loop.proofs.DoingLaws.{goes_then, asked_then, rises_then, risen_then, carries_then, carries_none}

-- ---- dialogues

pub runs_then : {X Y : Type 0} (one : Dialogue X) (two : X → Dialogue Y) (first second : List Exchange) (x : X) (y : Y) → Runs one first x → Runs (two x) second y → Runs (one >>= two) (first ++ second) y
runs_then (Ends a) two [] second x y e r = rw e at r
runs_then (Ends a) two (exchange ∷ first) second x y e r = absurd e
runs_then (Asks call by) two [] second x y e r = absurd e
runs_then (Asks call by) two (exchange ∷ first) second x y e r = (e.0, runs_then (by exchange.reply) two first second x y e.1 r)

-- the same exchanges, to the end that is made of another
runs_to : {X Y : Type 0} (dialogue : Dialogue X) (f : X → Y) (exchanges : List Exchange) (x : X) → Runs dialogue exchanges x → Runs (dialogue >>= (λ end. Ends (f end))) exchanges (f x)
runs_to (Ends a) f [] x r = ap f r
runs_to (Ends a) f (exchange ∷ rest) x r = absurd r
runs_to (Asks call by) f [] x r = absurd r
runs_to (Asks call by) f (exchange ∷ rest) x r = (r.0, runs_to (by exchange.reply) f rest x r.1)

-- what was sent before turns
turns_behind : (turns : List Turn) (sent : List ℕ) (served : Served) → turns_served turns (behind sent served) ≡ (turns_served turns served >>= (λ end. Ends (behind sent end)))
turns_behind [] sent served = refl
turns_behind (turn ∷ turns) sent served =
    ap (λ d. d >>= each turn_served turns) (sent_before turn sent served)
    ∙ associative (turn_served turn served) (λ end. Ends (behind sent end)) (each turn_served turns)
    ∙ ap (λ f. turn_served turn served >>= f) (fun_ext (λ between. turns_behind turns sent between))
    ∙ sym (associative (turn_served turn served) (each turn_served turns) (λ end. Ends (behind sent end)))

behind_is : (served : Served) → behind served.sent (untold served.link) ≡ served
behind_is served = ap (λ sent. record { link = served.link; sent = sent }) (append-nil served.sent)

-- turns on a link, behind what was sent on it
pub runs_behind : (turns : List Turn) (served end : Served) (exchanges : List Exchange) → Runs (turns_served turns (untold served.link)) exchanges end → Runs (turns_served turns served) exchanges (behind served.sent end)
runs_behind turns served end exchanges r =
    let told : Runs (turns_served turns (untold served.link) >>= (λ e. Ends (behind served.sent e))) exchanges (behind served.sent end) = runs_to (turns_served turns (untold served.link)) (behind served.sent) exchanges end r in
    let moved : Runs (turns_served turns (behind served.sent (untold served.link))) exchanges (behind served.sent end) =
    subst (λ d. Runs d exchanges (behind served.sent end)) (sym (turns_behind turns served.sent (untold served.link))) told in
    subst (λ s. Runs (turns_served turns s) exchanges (behind served.sent end)) (behind_is served) moved

module _ {P : Type 0} (answers : P → Call → Reply → P → Type 0) (gives : P → ℕ → Option Next → P → Type 0) where
  pub leads_then : (old between new : Outside P) (more middle left : ℕ) (first second : List Doing) → Leads answers gives old between more middle first → Leads answers gives between new middle left second
      → Leads answers gives old new more left (first ++ second)
  leads_then old between new more middle left first second c d = record {
    passes = goes_then answers gives first second old.pass between.pass new.pass c.passes d.passes;
    pulled = rw (flat_map-append bytes_in first second) (Consumes-trans old.left between.left new.left (flat_map bytes_in first) (flat_map bytes_in second) c.pulled d.pulled);
    waited = d.waited ∙ ap (risen (waits_of second)) c.waited ∙ risen_then (waits_of first) (waits_of second) old.quiets ∙ ap (λ n. risen n old.quiets) (sym (sum_by-append wait_in first second));
    moments = rw (flat_map-append moment_in first second) (rises_then (flat_map moment_in first) (flat_map moment_in second) old.moment between.moment new.moment c.moments d.moments);
    put = rw (flat_map-append packet_in first second) (carries_then old.put between.put new.put old.faults between.faults new.faults (flat_map packet_in first) (flat_map packet_in second) c.put d.put);
    asked = asked_then first second more middle left c.asked d.asked;
  }

  -- nothing is done
  pub leads_none : (old new : Outside P) (more : ℕ) → new.pass ≡ old.pass → Keeps old.left new.left → new.quiets ≡ old.quiets → new.put ≡ old.put → new.faults ≡ old.faults → new.moment ≡ old.moment → Leads answers gives old new more more []
  leads_none old new more ep kl eq et ef em = record {
    passes = ep;
    pulled = Consumes-Keeps old.left old.left new.left [] (Consumes-nil old.left) kl;
    waited = eq;
    moments = omega (arith, em);
    put = rw (et, ef) (carries_none old.put old.faults);
    asked = refl;
  }

  abbrev pub course_then : (old between new : Outside P) (before : Served) (more : ℕ) (one : Course answers gives old between before more) → Course answers gives between new (untold one.served.link) one.left → Course answers gives old new before more
  course_then old between new before more one two = record {
    doings = one.doings ++ two.doings;
    left = two.left;
    served = behind one.served.sent two.served;
    leads = leads_then old between new more one.left two.left one.doings two.doings one.leads two.leads;
    runs =
        rw (flat_map-append turn_of one.doings two.doings, flat_map-append exchanges_in one.doings two.doings, each_behind turn_served (turns_of one.doings) (turns_of two.doings) before)
        (runs_then (turns_served (turns_of one.doings) before) (each turn_served (turns_of two.doings)) (exchanges_of one.doings) (exchanges_of two.doings) one.served (behind one.served.sent two.served) one.runs (runs_behind (turns_of two.doings) one.served two.served (exchanges_of two.doings) two.runs));
  }

  -- a course of which nothing is done
  abbrev pub course_none : (old new : Outside P) (before : Served) (more : ℕ) → Leads answers gives old new more more [] → Course answers gives old new before more
  course_none old new before more leads = record { doings = []; left = more; served = before; leads = leads; runs = refl }

  -- a course of one doing, whose turns are held on a link
  abbrev pub course_one : (old new : Outside P) (before : Link) (more left : ℕ) (doing : Doing) (turns : List Turn) (exchanges : List Exchange) (served : Served) → Leads answers gives old new more left (doing ∷ [])
      → turn_of doing ≡ turns → exchanges_in doing ≡ exchanges → Runs (turns_served turns (untold before)) exchanges served → Course answers gives old new (untold before) more
  course_one old new before more left doing turns exchanges served leads et ee runs = record {
    doings = doing ∷ [];
    left = left;
    served = served;
    leads = leads;
    runs = rw (append-nil (turn_of doing), append-nil (exchanges_in doing), et, ee) runs;
  }

  -- a course behind which only what is left is told anew
  abbrev pub course_kept : (old between new : Outside P) (before : Served) (more : ℕ) (one : Course answers gives old between before more) → new.pass ≡ between.pass → Keeps between.left new.left → new.quiets ≡ between.quiets → new.put ≡ between.put
      → new.faults ≡ between.faults → new.moment ≡ between.moment → Course answers gives old new before more
  course_kept old between new before more one ep kl eq et ef em = record {
    doings = one.doings;
    left = one.left;
    served = one.served;
    leads = record {
      passes = rw ep one.leads.passes;
      pulled = Consumes-Keeps old.left between.left new.left (flat_map bytes_in one.doings) one.leads.pulled kl;
      waited = eq ∙ one.leads.waited;
      moments = rw em one.leads.moments;
      put = rw (et, ef) one.leads.put;
      asked = one.leads.asked;
    };
    runs = one.runs;
  }

  -- what was said to a client that is given up, behind what was sent before
  says_behind : (end : LinkEnd) (first middle last : Option (List ℕ)) (before after : List ℕ) → Appends first middle before → SaysGoodbye end middle last after → SaysGoodbye end first last (before ++ after)
  says_behind ends.Quiet first middle last before after sent s = rw (append_assoc before after goodbye) (Appends-trans first middle last before (after ++ goodbye) sent s)
  says_behind ends.Fault first middle last before after sent s = rw (append_assoc before after goodbye) (Appends-AppendsPrefix first middle last before (after ++ goodbye) sent s)
  says_behind ends.Closed first middle last before after sent s = absurd s
  says_behind (ends.Refused code) first middle last before after sent s = absurd s
  says_behind ends.Memory first middle last before after sent s = absurd s

  -- a link that is given up, whose first course is nothing
  pub given_up_behind : (end : LinkEnd) (old between new : Outside P) (start : Served) (first middle last : Option (List ℕ)) (due : Bool) → Leads answers gives old between MOST_MESSAGES MOST_MESSAGES [] → Appends first middle start.sent
      → GivenUp answers gives end between new (untold start.link) middle last due → GivenUp answers gives end old new start first last due
  given_up_behind end old between new start first middle last due leads sent g = record {
    course = course_then old between new start MOST_MESSAGES (course_none old between start MOST_MESSAGES leads) g.course;
    says = says_behind end first middle last start.sent g.course.served.sent sent g.says;
    is_late = g.is_late;
    is_shut = g.is_shut;
    is_whole = g.is_whole;
    due_is = g.due_is;
  }

  -- a link that is given up behind a course
  pub gives_up : (end : LinkEnd) (old between new : Outside P) (before : Served) (first middle last : Option (List ℕ)) (due : Bool) (one : Course answers gives old between before MOST_MESSAGES) → Appends first middle one.served.sent
      → new.pass ≡ between.pass → Keeps between.left new.left → new.quiets ≡ between.quiets → new.put ≡ between.put → new.faults ≡ between.faults → new.moment ≡ between.moment
      → SaysGoodbye end middle last [] → (is_unopened (fold watched unwatched one.doings) || is_quiet (fold watched unwatched one.doings)) ≡ true → is_open one.served.link ≡ false → code_of one.served.link.conn ≡ None → due ≡ false
      → GivenUp answers gives end old new before first last due
  gives_up end old between new before first middle last due one sent ep kl eq et ef em says late shut whole e = record {
    course = course_kept old between new before MOST_MESSAGES one ep kl eq et ef em;
    says = subst (SaysGoodbye end first last) (append-nil one.served.sent) (says_behind end first middle last one.served.sent [] sent says);
    is_late = late;
    is_shut = shut;
    is_whole = whole;
    due_is = e;
  }

  -- an end, behind a course
  pub ends_behind : (end : LinkEnd) (old between new : Outside P) (before : Served) (first middle last : Option (List ℕ)) (more : ℕ) (due : _) (one : Course answers gives old between before more) → Appends first middle one.served.sent
      → courses.Ends answers gives end between new (untold one.served.link) middle last one.left due → courses.Ends answers gives end old new before first last more due
  ends_behind ends.Closed old between new before first middle last more due one sent e =
      (course_then old between new before more one e.0, Appends-trans first middle last one.served.sent e.0.served.sent sent e.1, e.2, e.3, e.4, e.5)
  ends_behind ends.Fault old between new before first middle last more due one sent e =
      (course_then old between new before more one e.0, Appends-AppendsPrefix first middle last one.served.sent e.0.served.sent sent e.1, e.2)
  ends_behind (ends.Refused code) old between new before first middle last more due one sent e =
      (course_then old between new before more one e.0, Appends-trans first middle last one.served.sent e.0.served.sent sent e.1, e.2, e.3)
  ends_behind ends.Memory old between new before first middle last more due one sent e = record {
    between = e.between;
    course = course_then old between e.between before more one e.course;
    sent = Appends-trans first middle last one.served.sent e.course.served.sent sent e.sent;
    last = e.last;
    rest = e.rest;
    leads = e.leads;
    turn = e.turn;
    turn_is = e.turn_is;
    begins = e.begins;
    due_is = e.due_is;
  }
  ends_behind ends.Quiet old between new before first middle last more due one sent e = absurd e
