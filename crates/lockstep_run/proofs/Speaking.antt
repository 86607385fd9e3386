-- What a lane's bytes made of the run: the calls that they made, each played as its record would be.
use Rattle.std.proofs.Common.{◌≡◌, ℕ, true, false, List, [], ◌∷◌, ◌++◌, map, refl, sym, ap, subst, ◌∙◌, append_assoc, append-nil, inl, inr}
use Rattle.std.specs.Prelude.{fold}
use Rattle.std.specs.List.{AllByRecursion}
use Rattle.p4_types.specs.declared.calls.Call.{Call}
use Rattle.p4_types.specs.declared.calls.Reply.{Reply}
use Rattle.p4_types.specs.declared.journal.Entry.{Entry}
use Rattle.p4_types.specs.declared.tape.TapeRecord.{TapeRecord}
use Rattle.switch_spec.specs.Answer.{called}
use Rattle.p4rt_service.specs.Dialogues.{Exchange, Passes, Runs}
use Rattle.p4rt_service.specs.Turns.{Served, piece_served}
use Rattle.run_spec.specs.Play.{Played, Turn, call_item, items_of, play}
use Rattle.byte_lanes.specs.Filling.{Asked, exchange_of}
use Rattle.byte_lanes.specs.Lane.{LaneState, IsLane, FeedsLane}
use Rattle.byte_lanes.proofs.Lanes.{piece_asks}
use Rattle.lockstep_run.specs.Session.{played_of}
use Rattle.lockstep_run.specs.Speaking.{Speaking, MayGoOn, SpeaksOrNot, Brings, Feeds}
use Rattle.lockstep_run.proofs.SessionBounds.{call_turn}

-- what calls of a lane made of the run
record Spoken (lane : ℕ) (asked : List Asked) (old new : Speaking) : Type 0 where
  was : old.is_short ≡ false
  turns : List Turn
  items_are : items_of turns ≡ map (λ one. call_item lane one.call) asked
  played_is : played_of new.session ≡ fold play (played_of old.session) turns
  own : List Entry
  noted : new.session.journal ≡ old.session.journal ++ own
  replies : map (λ entry. entry.reply) own ≡ map (λ one. one.reply) asked
  of_lane : AllByRecursion (λ entry. entry.lane ≡ lane) own

none_spoken : (lane : ℕ) (old new : Speaking) → new ≡ old → new.is_short ≡ false → Spoken lane [] old new
none_spoken lane old new is quiet = record {
  was = ap (λ (s : Speaking). s.is_short) (sym is) ∙ quiet;
  turns = [];
  items_are = refl;
  played_is = ap (λ (s : Speaking). played_of s.session) is;
  own = [];
  noted = ap (λ (s : Speaking). s.session.journal) is ∙ sym (append-nil old.session.journal);
  replies = refl;
  of_lane = tt;
}

both : true ≡ false → ⊥
both e = absurd cc

one_spoken : (lane : ℕ) (one : Asked) (asked : List Asked) (call : Call) (reply : Reply) (old between new : Speaking) → called one.call ≡ call → one.reply ≡ reply → old.lane ≡ lane → SpeaksOrNot old call reply between
    → Spoken lane asked between new → Spoken lane (one ∷ asked) old new
one_spoken lane one asked call reply old between new is same of (inl short) below = absurd (both (sym short ∙ below.was))
one_spoken lane one asked call reply old between new is same of (inr speaks) below =
    let t = call_turn old.lane one.call (played_of old.session) (played_of between.session) (speaks.asked.plays one.call is) in
    record {
      was = speaks.was;
      turns = t.turn ∷ below.turns;
      items_are = ap (λ (i : TapeRecord). i ∷ items_of below.turns) (t.item_is ∙ ap (λ (l : ℕ). call_item l one.call) of) ∙ ap (λ (l : List TapeRecord). call_item lane one.call ∷ l) below.items_are;
      played_is = below.played_is ∙ ap (λ (p : Played). fold play p below.turns) t.played_is;
      own = speaks.asked.entry ∷ below.own;
      noted = below.noted ∙ ap (λ (j : List Entry). j ++ below.own) speaks.asked.noted ∙ append_assoc old.session.journal (speaks.asked.entry ∷ []) below.own;
      replies = ap (λ (r : Reply). r ∷ map (λ (entry : Entry). entry.reply) below.own) (speaks.asked.reply_is ∙ sym same) ∙ ap (λ (l : List Reply). one.reply ∷ l) below.replies;
      of_lane = (speaks.asked.of_lane ∙ of, below.of_lane);
    }

stays : (old between : Speaking) (call : Call) (reply : Reply) (lane : ℕ) (new : Speaking) (asked : List Asked) → old.lane ≡ lane → SpeaksOrNot old call reply between → between.is_short ≡ false → between.lane ≡ lane
stays old between call reply lane new asked of (inl short) quiet = absurd (both (sym short ∙ quiet))
stays old between call reply lane new asked of (inr speaks) quiet = speaks.lane_is ∙ of

first_exchange : (one : Asked) (asked : List Asked) (exchange : Exchange) (rest : List Exchange) → exchange_of one ∷ map exchange_of asked ≡ exchange ∷ rest → (exchange_of one ≡ exchange) × (map exchange_of asked ≡ rest)
first_exchange one asked exchange rest e = (cc, cc)

-- in the end memory was not missing, and so it was before
quiet_before : (exchanges : List Exchange) (old new : Speaking) → Passes SpeaksOrNot old exchanges new → new.is_short ≡ false → old.is_short ≡ false
quiet_before [] old new passes quiet = ap (λ (s : Speaking). s.is_short) (sym passes) ∙ quiet
quiet_before (exchange ∷ rest) old new passes quiet =
    elim passes.1 [
      | inl short ↦ absurd (both (sym short ∙ quiet_before rest passes.0 new passes.2 quiet))
      | inr speaks ↦ speaks.was
    ]

spoken : (lane : ℕ) (asked : List Asked) (exchanges : List Exchange) (old new : Speaking) → old.lane ≡ lane → map exchange_of asked ≡ exchanges → Passes SpeaksOrNot old exchanges new → new.is_short ≡ false → Spoken lane asked old new
spoken lane [] [] old new of same passes quiet = none_spoken lane old new passes quiet
spoken lane [] (exchange ∷ rest) old new of same passes quiet = absurd cc
spoken lane (one ∷ asked) [] old new of same passes quiet = absurd cc
spoken lane (one ∷ asked) (exchange ∷ rest) old new of same passes quiet =
    let e = first_exchange one asked exchange rest same in
    let between = passes.0 in
    let was = quiet_before rest between new passes.2 quiet in
    one_spoken lane one asked exchange.call exchange.reply old between new (ap (λ (x : Exchange). x.call) e.0) (ap (λ (x : Exchange). x.reply) e.0) of passes.1
    (spoken lane asked rest between new (stays old between exchange.call exchange.reply lane new asked of passes.1 was) e.1 passes.2 quiet)

-- a lane's bytes, of which all calls were played
brought : (lane : ℕ) (piece : List ℕ) (before after : LaneState) (old given new : Speaking) (served : Served) → given ≡ record old { lane = lane } → FeedsLane SpeaksOrNot given new piece before after → new.is_short ≡ false → IsLane before served
    → Brings lane piece before after old new served
brought lane piece before after old given new served is feeds quiet lane_is =
    let f = feeds served lane_is in
    let a = piece_asks piece served f.0 f.2.exchanges f.2.runs in
    let s = spoken lane a.0 f.2.exchanges given new (ap (λ (x : Speaking). x.lane) is) a.1 f.2.passes quiet in
    record {
      asked = a.0;
      end = f.0;
      lane_is = f.1;
      runs = subst (λ (l : List Exchange). Runs (piece_served piece served) l f.0) (sym a.1) f.2.runs;
      turns = s.turns;
      items_are = s.items_are;
      played_is = s.played_is ∙ ap (λ (x : Speaking). fold play (played_of x.session) s.turns) is;
      own = s.own;
      noted = s.noted ∙ ap (λ (x : Speaking). x.session.journal ++ s.own) is;
      replies = s.replies;
      of_lane = s.of_lane;
    }

pub fed : (lane : ℕ) (piece : List ℕ) (before after : LaneState) (old given new : Speaking) → given ≡ record old { lane = lane } → FeedsLane SpeaksOrNot given new piece before after → new.is_short ≡ false → MayGoOn new
    → Feeds lane piece before after old new
fed lane piece before after old given new is feeds quiet goes = record {
  brings = λ served lane_is. brought lane piece before after old given new served is feeds quiet lane_is;
  quiet = quiet;
  goes_on = goes quiet;
}
