-- From the first item of a tape to the report.
use Rattle.std.proofs.Common.{◌≡◌, ℕ, ◌<◌, false, List, [], ◌∷◌, ◌++◌, length, set, get_or, Result, Ok, Err, IfOk, OnOk, refl, sym, ap, subst, ◌∙◌, arith}
use Rattle.std.proofs.lemmas.List.{get_or_default}
use Rattle.list_types.specs.declared.memory.NoMemory.{NoMemory}
use Rattle.p4_types.specs.declared.events.Start.{Start}
use Rattle.p4_types.specs.declared.journal.Entry.{Entry}
use Rattle.p4_types.specs.declared.journal.Report.{Report}
use Rattle.p4_types.specs.declared.tape.TapeRecord.{TapeRecord}
use Rattle.p4rt_service.specs.Turns.{Served}
use Rattle.run_spec.specs.Play.{Played, begun, played_report}
use Rattle.tape_spec.specs.Items.{IsItem}
use Rattle.tape_spec.specs.declared.item.TapeItem.{TapeItem}
use Rattle.tape_spec.specs.declared.item.TapeItem.TheVariants.{Record, Bytes}
use Rattle.byte_lanes.specs.Filling.{greeted, sent_lines}
use Rattle.byte_lanes.specs.Lane.{LaneState}
use Rattle.byte_lanes.specs.Laws.{FollowsOn}
use Rattle.lockstep_run.specs.Playing.{AreLanes, HasPlayed, PlaysItem, IsPlayedReport}
use Rattle.lockstep_run.specs.Session.{played_of, with_sent}
use Rattle.lockstep_run.specs.Speaking.{Speaking, MayGoOn, Takes}
use Rattle.lockstep_run.specs.Speaking.{Feeds as FeedsOn}
use Rattle.lockstep_run.proofs.Items.{record_more, bytes_more}

-- before the first item
pub begun_played : (start : Start) (lanes : List LaneState) (first s : Speaking) → played_of first.session ≡ begun start → first.is_short ≡ false → AreLanes lanes greeted → s.session ≡ first.session → s.is_short ≡ first.is_short → MayGoOn s
    → HasPlayed start [] lanes s
begun_played start lanes first s began quiet are session short may =
    let played_is : played_of s.session ≡ begun start = ap played_of session ∙ began in
    record {
      filled = [];
      served = greeted;
      turns = [];
      items_are = refl;
      turns_are = refl;
      played_is = played_is;
      follows = ap (λ (p : Played). p.journal) played_is;
      feeds = λ lane. refl;
      lanes_are = are;
      quiet = short ∙ quiet;
      goes_on = may (short ∙ quiet);
    }

on_ok : {A : Type 0} (r : Result A NoMemory) (P Q : Type 0) → (P → Q) → OnOk r P → OnOk r Q
on_ok (Ok x) P Q f p = f p
on_ok (Err e) P Q f p = tt

-- a record more
pub record_played : (r : Result Unit NoMemory) (item : TapeItem) (it : TapeRecord) (lanes : List LaneState) (old new : Speaking) → item ≡ Record it → OnOk r (Takes it old new) → OnOk r (PlaysItem item lanes lanes old new)
record_played r item it lanes old new is takes =
    on_ok r (Takes it old new) (PlaysItem item lanes lanes old new) (λ t start items h. subst (λ (x : TapeItem). HasPlayed start (items ++ x ∷ []) lanes new) (sym is) (record_more start items lanes old new it h t)) takes

-- bytes of a lane more
pub bytes_played : (r : Result Unit NoMemory) (item : TapeItem) (lane place : ℕ) (bytes piece : List ℕ) (lanes : List LaneState) (link after : LaneState) (old new : Speaking) → item ≡ Bytes lane bytes → IsItem item → length lanes ≡ 32 → place ≡ lane
    → piece ≡ bytes → OnOk r (FeedsOn lane piece (get_or lanes place link) after old new) → OnOk r (PlaysItem item lanes (set lanes place after) old new)
bytes_played r item lane place bytes piece lanes link after old new is of wide at same feeds =
    let lt : lane < 32 = (subst IsItem is of).of_controller in
    let there : get_or lanes place link ≡ get_or lanes lane after = ap (λ (k : ℕ). get_or lanes k link) at ∙ get_or_default lanes lane link after (omega (arith, lt, wide)) in
    on_ok r (FeedsOn lane piece (get_or lanes place link) after old new) (PlaysItem item lanes (set lanes place after) old new)
    (λ f start items h. subst (λ (x : TapeItem). HasPlayed start (items ++ x ∷ []) (set lanes place after) new) (sym is)
    (bytes_more start items lanes (set lanes place after) old new lane bytes after h lt
    (subst (λ (l : LaneState). FeedsOn lane bytes l after old new) there (subst (λ (p : List ℕ). FeedsOn lane p (get_or lanes place link) after old new) same f))
    (ap (λ (k : ℕ). set lanes k after) at)))
    feeds

-- the report at the end
pub report_played : (start : Start) (items : List TapeItem) (lanes : List LaneState) (s : Speaking) (journal : List Entry) (sent : List (ℕ × List ℕ)) (r : Result Report NoMemory) → HasPlayed start items lanes s → journal ≡ s.session.journal
    → ((served : ℕ → Served) → AreLanes lanes served → sent ≡ sent_lines items journal served) → IfOk r (λ report. report ≡ with_sent sent (played_report (played_of s.session))) → IfOk r (IsPlayedReport start items)
report_played start items lanes s journal sent (Ok report) h noted lines is = record {
  served = h.served;
  turns = h.turns;
  run = record { filled = h.filled; items_are = h.items_are; turns_are = h.turns_are; follows = subst (FollowsOn h.filled) (ap (λ (p : Played). p.journal) h.played_is) h.follows; feeds = h.feeds };
  report_is =
      is
      ∙ ap (λ (x : List (ℕ × List ℕ)). with_sent x (played_report (played_of s.session))) (lines h.served h.lanes_are ∙ ap (λ (j : List Entry). sent_lines items j h.served) noted)
      ∙ ap (λ (p : Played). with_sent (sent_lines items p.journal h.served) (played_report p)) h.played_is;
}
report_played start items lanes s journal sent (Err e) h noted lines is = tt
