-- What stands behind the lock once a call was made.
use Rattle.std.proofs.Common.{◌≡◌, ℕ, zero, suc, ◌+◌, ◌-◌, ◌^◌, ◌<◌, ◌≤◌, min, Bool, true, false, List, [], ◌∷◌, ◌++◌, length, slice_index, set, Option, refl, ap, sym, subst, ◌∙◌, arith, length-append, length-set, append-nil}
use Rattle.std.specs.Prelude.{IfNone, IfSome, replicate, sum_by}
use Rattle.std.proofs.lemmas.List.{get_or-set_same, get_or-set_other, length-replicate}
use Rattle.std.proofs.lemmas.List.Sums.{fold-append, sum_by-append}
use mathlib.Core.Logic.{dite}
use native.Mathlib.Decide.{ℕ_discrete}
use Rattle.ctl_core.specs.Core.{Core, Handled, HandledBy, raised}
use Rattle.event_log.specs.Lists.{ListName}
use Rattle.lane_table.proofs.Keeping.{of_same, of_other}
use Rattle.lane_table.specs.Lanes.{Lane, with_call}
use Rattle.live_desk.proofs.Callers.{AllBy, all_steps, answer_by, count_all, count_append, count_none, made_by_of}
use Rattle.live_desk.specs.Callers.{IsCounted}
use Rattle.live_desk.specs.Locked.{IsMade, IsSigned, IsStanding, calls_on, figures_of}
use Rattle.live_desk.specs.declared.call_steps.CallSteps.{CallSteps}
use Rattle.p4_types.specs.declared.calls.Call.{Call}
use Rattle.p4_types.specs.declared.calls.Reply.{Reply}
use Rattle.p4_types.specs.declared.events.Start.{Start}
use Rattle.plane_image.specs.Image.{steps_of}
use Rattle.plane_spec.specs.Config.{Event}
use Rattle.plane_spec.specs.Legal.{Legal}
use Rattle.plane_spec.specs.Planes.{ControlState, opened, apply, applied}
use Rattle.pub_snap.specs.Beginnings.{Beginning, Begins}
use Rattle.pub_snap.specs.Snapshots.{Feed, all_of}
use Rattle.snap_worker.specs.Working.{state_after}
use Rattle.switch_spec.proofs.Answers.{answer_to_sound}
use Rattle.switch_spec.specs.Answer.{Answer, answer_to}
use Rattle.switch_spec.specs.Counts.{Figures}
use Rattle.switch_spec.specs.History.{is_unavailable}

-- what a call adds to the list
record IsMore (lane : ℕ) (old new : ControlState) (steps after : ℕ) (given now : List Event) : Type 0 where
  own : List Event
  by_lane : AllBy lane own
  events : now ≡ given ++ own
  control : new ≡ applied old own
  number : after ≡ steps + length own
  each_step : sum_by steps_of own ≡ length own

more_by : (b : Bool) (old new : ControlState) (steps lane k : ℕ) (g : Figures) (call : Call) (given now : List Event) (reply : Reply) → steps ≡ length given → length now ≤ 2 ^ 64 - 1
    → HandledBy b old steps given (answer_to old g lane k call) reply new now → IsMore lane old new steps reply.steps given now
more_by true old new steps lane k g call given now reply is few h = record {
  own = [];
  by_lane = tt;
  events = h.handed ∙ sym (append-nil given);
  control = h.control;
  number = (let r = ap (λ (r : Reply). r.steps) h.reply_is in omega (arith, r));
  each_step = refl;
}
more_by false old new steps lane k g call given now reply is few h =
    let own : List Event = (answer_to old g lane k call).events in
    record {
      own = own;
      by_lane = answer_by call old g lane k;
      events = h.handed;
      control = h.control;
      number = (let r = ap (λ (r : Reply). r.steps) h.reply_is in omega (arith, r, is, few, ap length h.handed, length-append given own));
      each_step = all_steps lane own (answer_by call old g lane k);
    }

abbrev lane_of : CallSteps → ℕ
lane_of made = made.lane

-- how many calls each lane has made
calls_more : (lane place : ℕ) (old new : List ℕ) (made : List CallSteps) (steps : ℕ) → lane < 32 → length old ≡ 32 → new ≡ set old lane (raised (slice_index old lane) 1)
    → slice_index old place ≡ min (length (calls_on place made)) (2 ^ 64 - 1)
    → slice_index new place ≡ min (length (calls_on place (made ++ (record { lane = lane; steps = steps }) ∷ []))) (2 ^ 64 - 1)
calls_more lane place old new made steps below wide is before =
    let call : CallSteps = record { lane = lane; steps = steps } in
    dite (ℕ_discrete lane place)
    (λ (e : lane ≡ place).
    let count : slice_index old lane ≡ min (length (calls_on place made)) (2 ^ 64 - 1) = ap (slice_index old) e ∙ before in
    let one : length (calls_on place (made ++ call ∷ [])) ≡ length (calls_on place made) + 1 = ap length (of_same lane_of place made call e) ∙ length-append (calls_on place made) (call ∷ []) in
    let here : slice_index new place ≡ raised (slice_index old lane) 1 =
    ap (λ (c : List ℕ). slice_index c place) is
    ∙ ap (λ (i : ℕ). slice_index (set old lane (raised (slice_index old lane) 1)) i) (sym e)
    ∙ get_or-set_same old lane _ 0 (omega (arith, wide, below)) in
    omega (arith, count, one, here))
    (λ ne.
    ap (λ (c : List ℕ). slice_index c place) is
    ∙ get_or-set_other old lane place _ 0 (λ e. ne (sym e))
    ∙ before
    ∙ ap (λ (l : List CallSteps). min (length l) (2 ^ 64 - 1)) (sym (of_other lane_of place made call ne)))

-- how many events of each lane the list has
own_more : (lane place : ℕ) (given own now : List Event) (made : List CallSteps) (steps : ℕ) → now ≡ given ++ own → AllBy lane own → steps ≡ length own → IsCounted place given (calls_on place made)
    → IsCounted place now (calls_on place (made ++ (record { lane = lane; steps = steps }) ∷ []))
own_more lane place given own now made steps is by many before =
    let call : CallSteps = record { lane = lane; steps = steps } in
    let split : made_by_of place now ≡ made_by_of place given + made_by_of place own = ap (made_by_of place) is ∙ count_append place given own in
    dite (ℕ_discrete lane place)
    (λ (e : lane ≡ place).
    let all : made_by_of place own ≡ length own = ap (λ (l : ℕ). made_by_of l own) (sym e) ∙ count_all lane own by in
    let sums : sum_by (λ (c : CallSteps). c.steps) (calls_on place (made ++ call ∷ [])) ≡ sum_by (λ (c : CallSteps). c.steps) (calls_on place made) + (0 + steps) =
    ap (sum_by (λ (c : CallSteps). c.steps)) (of_same lane_of place made call e) ∙ sum_by-append (λ (c : CallSteps). c.steps) (calls_on place made) (call ∷ []) in
    omega (arith, split, all, sums, before, many))
    (λ ne.
    let none : made_by_of place own ≡ 0 = count_none lane place own by ne in
    let sums : sum_by (λ (c : CallSteps). c.steps) (calls_on place (made ++ call ∷ [])) ≡ sum_by (λ (c : CallSteps). c.steps) (calls_on place made) =
    ap (sum_by (λ (c : CallSteps). c.steps)) (of_other lane_of place made call ne) in
    omega (arith, split, none, sums, before))

-- once a call was handled
pub standing_more : (base told : Beginning) (old new : Core) (made : List CallSteps) (lane : ℕ) (g : Figures) (call : Call) (reply : Reply) → IsStanding base old made → lane < 32
    → told.start ≡ base.start → length told.events ≤ 2 ^ 64 - 1
    → Handled old.control old.steps base.events (answer_to old.control g lane (raised (slice_index old.calls lane) 1) call) reply new.control told.events
    → reply.steps ≡ new.steps → new.calls ≡ set old.calls lane (raised (slice_index old.calls lane) 1)
    → IsStanding told new (made ++ (record { lane = lane; steps = new.steps - old.steps }) ∷ [])
standing_more base told old new made lane g call reply h below start few handled steps calls_are =
    let more = more_by (is_unavailable reply.code) old.control new.control old.steps lane (raised (slice_index old.calls lane) 1) g call base.events told.events reply h.steps few handled in
    let many : new.steps - old.steps ≡ length more.own = omega (arith, steps, more.number) in
    record {
      control =
          more.control
          ∙ ap (λ (x : ControlState). applied x more.own) h.control
          ∙ sym (fold-append apply (opened base.start) base.events more.own)
          ∙ ap (applied (opened base.start)) (sym more.events)
          ∙ ap (λ s. applied (opened s) told.events) (sym start);
      steps = omega (arith, steps, more.number, h.steps, ap length more.events, length-append base.events more.own);
      each_step =
          let split : sum_by steps_of told.events ≡ sum_by steps_of base.events + sum_by steps_of more.own = ap (sum_by steps_of) more.events ∙ sum_by-append steps_of base.events more.own in
          omega (arith, split, h.each_step, more.each_step, ap length more.events, length-append base.events more.own);
      wide = ap length calls_are ∙ length-set old.calls lane _ ∙ h.wide;
      calls = λ place within. calls_more lane place old.calls new.calls made (new.steps - old.steps) below h.wide calls_are (h.calls place within);
      own = λ place. own_more lane place base.events more.own told.events made (new.steps - old.steps) more.events more.by_lane many (h.own place);
    }

zeros : (n place : ℕ) → slice_index (replicate n 0) place ≡ 0
zeros zero place = refl
zeros (suc n) zero = refl
zeros (suc n) (suc place) = zeros n place

-- before the first call
pub standing_new : (told : Beginning) (core : Core) → told.events ≡ [] → core.control ≡ opened told.start → core.steps ≡ 0 → core.calls ≡ replicate 32 0 → IsStanding told core []
standing_new told core none control steps calls = record {
  control = control ∙ ap (applied (opened told.start)) (sym none);
  steps = steps ∙ ap length (sym none);
  each_step = ap (sum_by steps_of) none ∙ ap length (sym none);
  wide = ap length calls ∙ length-replicate {A = ℕ} 32 0;
  calls = λ lane within. ap (λ (l : List ℕ). slice_index l lane) calls ∙ zeros 32 lane;
  own = λ lane. ap (made_by_of lane) none;
}

short_by : (b : Bool) (c new : ControlState) (n lane k : ℕ) (g : Figures) (call : Call) (given now : List Event) (reply : Reply) → HandledBy b c n given (answer_to c g lane k call) reply new now
    → IfSome reply.packet (λ packet. length packet ≤ 9216)
short_by true c new n lane k g call given now reply h = let P : Reply → Type 0 = λ r. IfSome r.packet (λ packet. length packet ≤ 9216) in subst P (sym h.reply_is) tt
short_by false c new n lane k g call given now reply h =
    let P : Reply → Type 0 = λ r. IfSome r.packet (λ packet. length packet ≤ 9216) in subst P (sym h.reply_is) (answer_to_sound call c g lane k).short_packet

-- a packet that a call makes enter is short
pub short : (c new : ControlState) (n lane k : ℕ) (g : Figures) (call : Call) (given now : List Event) (reply : Reply) → Handled c n given (answer_to c g lane k call) reply new now
    → IfSome reply.packet (λ packet. length packet ≤ 9216)
short c new n lane k g call given now reply h = short_by (is_unavailable reply.code) c new n lane k g call given now reply h

no_fewer_by : (b : Bool) (c new : ControlState) (n : ℕ) (given now : List Event) (a : Answer) (reply : Reply) → n ≤ 2 ^ 64 - 1 → HandledBy b c n given a reply new now → n ≤ reply.steps
no_fewer_by true c new n given now a reply few h = (let r = ap (λ (r : Reply). r.steps) h.reply_is in omega (arith, r))
no_fewer_by false c new n given now a reply few h = (let r = ap (λ (r : Reply). r.steps) h.reply_is in omega (arith, r, few))

-- a reply tells no fewer steps than there were
pub no_fewer : (c new : ControlState) (n : ℕ) (given now : List Event) (a : Answer) (reply : Reply) → n ≤ 2 ^ 64 - 1 → Handled c n given a reply new now → n ≤ reply.steps
no_fewer c new n given now a reply few h = no_fewer_by (is_unavailable reply.code) c new n given now a reply few h

-- what was handled behind the lock is a call that was made behind the published list
pub is_made : (base told : Beginning) (old new : Core) (made more : List CallSteps) (lane count : ℕ) (figures : Option (List (ℕ × ℕ))) (call : Call) (reply : Reply)
    → IsStanding base old made → IsStanding told new more → lane < 32 → told.list ≡ base.list → told.start ≡ base.start → Legal (opened told.start) told.events
    → IfNone figures (is_unavailable reply.code ≡ true) → count ≡ length (calls_on lane made)
    → Handled old.control old.steps base.events (answer_to old.control (figures_of figures) lane (raised (slice_index old.calls lane) 1) call) reply new.control told.events
    → reply.steps ≡ new.steps → length told.events ≤ 2 ^ 64 - 1 → IsMade lane (raised count 1) call figures base reply told
is_made base told old new made more lane count figures call reply h after below list start legal refused count_is handled steps few =
    let g : Figures = figures_of figures in
    let c : ControlState = state_after base in
    let k : ℕ = raised (slice_index old.calls lane) 1 in
    let number : k ≡ raised count 1 = omega (arith, h.calls lane below, count_is) in
    let first = subst (λ (x : ControlState). Handled x old.steps base.events (answer_to x g lane k call) reply new.control told.events) h.control handled in
    let second = subst (λ (n : ℕ). Handled c n base.events (answer_to c g lane k call) reply new.control told.events) h.steps first in
    let third = subst (λ (n : ℕ). Handled c (length base.events) base.events (answer_to c g lane n call) reply new.control told.events) number second in
    record {
      list = list;
      start = start;
      legal = legal;
      refused = refused;
      steps = omega (arith, steps, after.steps, after.each_step, few);
      handled = subst (λ (x : ControlState). Handled c (length base.events) base.events (answer_to c g lane (raised count 1) call) reply x told.events) after.control third;
    }

-- the list only goes on
pub goes_on : (base told : Beginning) (lane k n : ℕ) (g : Figures) (call : Call) (old new : ControlState) (reply : Reply) → told.list ≡ base.list → told.start ≡ base.start → n ≡ length base.events → length told.events ≤ 2 ^ 64 - 1
    → Handled old n base.events (answer_to old g lane k call) reply new told.events → Begins base told
goes_on base told lane k n g call old new reply list start is few h =
    let more = more_by (is_unavailable reply.code) old new n lane k g call base.events told.events reply is few h in
    record { list = list; start = start; events = (more.own, sym more.events) }

-- ---- A call that was made and signed behind the lock

-- what stands there then, and what is known of the lane's own calls
pub record IsDone (lane : ℕ) (call : Call) (figures : Option (List (ℕ × ℕ))) (base told : Beginning) (reply : Reply) (before after : Lane CallSteps) (core : Core) (made : List CallSteps) : Type 0 where
  pub standing : IsStanding told core made
  pub signed : IsSigned lane call figures base before after reply told

pub is_done : (list : ListName) (start : Start) (line pushed : Feed) (told : Beginning) (old new : Core) (made : List CallSteps) (seat after : Lane CallSteps) (lane : ℕ) (figures : Option (List (ℕ × ℕ))) (call : Call) (reply : Reply)
    (before : ℕ) (signed : CallSteps)
    → line.pending ≡ [] → line.told.list ≡ list → line.told.start ≡ start → IsStanding line.told old made → lane < 32 → seat.number ≡ lane
    → told.events ≡ all_of pushed → told.list ≡ list → told.start ≡ start → Legal (opened start) told.events → length told.events ≤ 2 ^ 64 - 1
    → IfNone figures (is_unavailable reply.code ≡ true)
    → Handled old.control old.steps (all_of line) (answer_to old.control (figures_of figures) lane (raised (slice_index old.calls lane) 1) call) reply new.control (all_of pushed)
    → reply.steps ≡ new.steps → new.calls ≡ set old.calls lane (raised (slice_index old.calls lane) 1)
    → before ≡ old.steps → signed ≡ record { lane = lane; steps = new.steps - before } → seat.entries ≡ calls_on seat.number made → after ≡ with_call seat signed
    → IsDone lane call figures line.told told reply seat after new (made ++ signed ∷ [])
is_done list start line pushed told old new made seat after lane figures call reply before signed none list_is start_is h below number events told_list told_start legal few refused handled steps calls before_is signed_is agrees after_is =
    let base : Beginning = line.told in
    let g : Figures = figures_of figures in
    let k : ℕ = raised (slice_index old.calls lane) 1 in
    let given_is : all_of line ≡ base.events = ap (λ (l : List Event). base.events ++ l) none ∙ append-nil base.events in
    let there = subst (λ (l : List Event). Handled old.control old.steps l (answer_to old.control g lane k call) reply new.control (all_of pushed)) given_is handled in
    let listed = subst (λ (l : List Event). Handled old.control old.steps base.events (answer_to old.control g lane k call) reply new.control l) (sym events) there in
    let same_list : told.list ≡ base.list = told_list ∙ sym list_is in
    let same_start : told.start ≡ base.start = told_start ∙ sym start_is in
    let all_legal : Legal (opened told.start) told.events = subst (λ (s : Start). Legal (opened s) told.events) (sym told_start) legal in
    let one : signed ≡ record { lane = lane; steps = new.steps - old.steps } = signed_is ∙ ap (λ (n : ℕ). record { lane = lane; steps = new.steps - n }) before_is in
    let stands : IsStanding told new (made ++ signed ∷ []) =
    subst (λ (s : CallSteps). IsStanding told new (made ++ s ∷ [])) (sym one) (standing_more base told old new made lane g call reply h below same_start few listed steps calls) in
    let own : seat.entries ≡ calls_on lane made = agrees ∙ ap (λ (n : ℕ). calls_on n made) number in
    let entries : after.entries ≡ seat.entries ++ signed ∷ [] = ap (λ (l : Lane CallSteps). l.entries) after_is in
    let more : calls_on lane (made ++ signed ∷ []) ≡ after.entries =
    of_same lane_of lane made signed (ap lane_of one) ∙ ap (λ (l : List CallSteps). l ++ signed ∷ []) (sym own) ∙ sym entries in
    record {
      standing = stands;
      signed = record {
        made = is_made base told old new made (made ++ signed ∷ []) lane (length seat.entries) figures call reply h stands below same_list same_start all_legal refused (ap length own) listed steps few;
        own_before = subst (λ (l : List CallSteps). IsCounted lane base.events l) (sym own) (h.own lane);
        own_after = subst (λ (l : List CallSteps). IsCounted lane told.events l) more (stands.own lane);
        one = ap length entries ∙ length-append seat.entries (signed ∷ []);
        begins = goes_on base told lane k old.steps g call old.control new.control reply same_list same_start h.steps few listed;
        size = short old.control new.control old.steps lane k g call base.events told.events reply listed;
      };
    }
