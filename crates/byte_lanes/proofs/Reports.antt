-- A run in one pass over a tape with lanes of bytes gives the report that follows the tape.
use Rattle.std.proofs.Common.{◌≡◌, ℕ, ◌+◌, ◌≤◌, ◌==◌, ◌&&◌, ◌⊎◌, Bool, true, false, not, cond, eqb, List, [], ◌∷◌, ◌++◌, map, refl, sym, ap, subst, ◌∙◌, append_assoc, arith, inl, inr}
use Rattle.std.specs.List.{flat_map, AllByRecursion}
use Rattle.std.proofs.lemmas.Bool.{eqb-true, eq-eqb}
use Rattle.std.proofs.lemmas.List.{map-append}
use Rattle.std.proofs.lemmas.List.Elements.{filter-append}
use Rattle.p4_types.specs.declared.events.Start.{Start}
use Rattle.p4_types.specs.declared.journal.Entry.{Entry}
use Rattle.p4_types.specs.declared.journal.Report.{Report}
use Rattle.p4_types.specs.declared.calls.Reply.{Reply}
use Rattle.p4_types.specs.declared.tape.TapeRecord.{TapeRecord}
use Rattle.p4_types.specs.declared.tape.TapeRecord.TheVariants.{Call, Packet, Leave, Meet}
use Rattle.switch_spec.specs.declared.calls.LaneCall.{LaneCall}
use Rattle.switch_spec.specs.declared.calls.LaneCall.TheVariants.{Asks, Leaves}
use Rattle.switch_spec.specs.Counts.{no_figures}
use Rattle.run_spec.specs.Tape.{Lanes, no_lanes, lanes_after, NameMade}
use Rattle.run_spec.specs.Play.{Turn, items_of, begun, played, call_item}
use Rattle.run_spec.specs.Report.{IsRun, Lockstep, IsLockstepReport, report_of}
use Rattle.run_spec.specs.ReportText.{report_text}
use Rattle.run_spec.proofs.Playing.{made, carried, journal_played, lockstep_played}
use Rattle.run_spec.proofs.Fitting.{run_played, report_played}
use Rattle.run_counts.proofs.Bounded.{lockstep_is_bounded}
use Rattle.p4rt_service.specs.Turns.{Served}
use Rattle.tape_spec.specs.declared.item.TapeItem.{TapeItem}
use Rattle.tape_spec.specs.declared.item.TapeItem.TheVariants.{Record, Bytes}
use Rattle.tape_spec.specs.Items.{ItemLanes, no_item_lanes, lanes_behind, takes_bytes, AreItems}
use Rattle.byte_lanes.specs.Filling.{Filled, Kept, Fed, Asked, item_of, records_of, Feed, feeds_on, asked_on, entries_on, AreAnswered, sent_lines, IsItemLockstepReport}
use Rattle.byte_lanes.specs.Laws.{FollowsOn, IsFilledRun, filled_report, FilledIsReport, LockstepIsFree}

-- ---- meets name calls that were made before them

-- at least as many calls of each lane
abbrev AtLeast : Lanes → Lanes → Type 0
AtLeast a b = (lane : ℕ) → a.calls lane ≤ b.calls lane

more_by : (b : Bool) (x y : ℕ) → x ≤ y → cond b (x + 1) x ≤ cond b (y + 1) y
more_by true x y le = omega (arith, le)
more_by false x y le = le

grown_by : (b : Bool) (x y : ℕ) → x ≤ y → x ≤ cond b (y + 1) y
grown_by true x y le = omega (arith, le)
grown_by false x y le = le

-- a call names nothing, and counts
names_first : (call : LaneCall) (lane : ℕ) (q : Lanes) (rest : List TapeRecord) → ((r : Lanes) → AtLeast q r → NameMade r rest) → NameMade q (call_item lane call ∷ rest)
names_first (Asks method message) lane q rest f = (tt, f (lanes_after q (Call lane method message)) (λ c. grown_by (eqb c lane) (q.calls c) (q.calls c) (omega arith)))
names_first Leaves lane q rest f = (tt, f (lanes_after q (Leave lane)) (λ c. grown_by (eqb c lane) (q.calls c) (q.calls c) (omega arith)))

-- the same of all that bytes make
names_calls : (lane : ℕ) (asked : List Asked) (q : Lanes) (rest : List TapeRecord) → ((r : Lanes) → AtLeast q r → NameMade r rest) → NameMade q (map (λ one. call_item lane one.call) asked ++ rest)
names_calls lane [] q rest f = f q (λ c. omega arith)
names_calls lane (one ∷ asked) q rest f =
    names_first one.call lane q (map (λ one. call_item lane one.call) asked ++ rest) (λ r more. names_calls lane asked r rest (λ s again. f s (λ c. omega (arith, more c, again c))))

pub names_filled : (filled : List Filled) (lanes : ItemLanes) (p : Lanes) → AtLeast lanes.lanes p → AreItems lanes (map item_of filled) → NameMade p (records_of filled)
names_filled [] lanes p le each = tt
names_filled (Kept (Call lane method message) ∷ rest) lanes p le each =
    (tt, names_filled rest (lanes_behind lanes (Record (Call lane method message))) (lanes_after p (Call lane method message)) (λ c. more_by (eqb c lane) (lanes.lanes.calls c) (p.calls c) (le c)) each.1)
names_filled (Kept (Packet lane port packet) ∷ rest) lanes p le each = (tt, names_filled rest lanes p le each.1)
names_filled (Kept (Leave lane) ∷ rest) lanes p le each =
    (tt, names_filled rest (lanes_behind lanes (Record (Leave lane))) (lanes_after p (Leave lane)) (λ c. more_by (eqb c lane) (lanes.lanes.calls c) (p.calls c) (le c)) each.1)
names_filled (Kept (Meet lane controller call) ∷ rest) lanes p le each = (omega (arith, each.0.1, le controller), names_filled rest lanes p le each.1)
names_filled (Fed lane piece asked ∷ rest) lanes p le each =
    names_calls lane asked p (records_of rest) (λ r more. names_filled rest (lanes_behind lanes (Bytes lane piece)) r (λ c. omega (arith, le c, more c)) each.1)

-- ---- a lane's bytes come before its records

-- the lane has asked by a record, or has left
abbrev IsPast : ItemLanes → ℕ → Type 0
IsPast lanes lane = (lanes.asks lane ≡ true) ⊎ (lanes.lanes.has_left lane ≡ true)

closed_by : (a b : Bool) → (a ≡ true) ⊎ (b ≡ true) → (not a && not b) ≡ true → ⊥
closed_by true b (inl e) t = absurd cc
closed_by false true (inr e) t = absurd cc
closed_by false b (inl e) t = absurd cc
closed_by true b (inr e) t = absurd cc
closed_by false false (inr e) t = absurd cc

kept_true : (t b : Bool) → b ≡ true → cond t true b ≡ true
kept_true true b e = refl
kept_true false b e = e

past_behind : (lanes : ItemLanes) (lane : ℕ) (item : TapeItem) → IsPast lanes lane → IsPast (lanes_behind lanes item) lane
past_behind lanes lane (Record (Call other method message)) (inl e) = inl (kept_true (eqb lane other) (lanes.asks lane) e)
past_behind lanes lane (Record (Call other method message)) (inr e) = inr e
past_behind lanes lane (Record (Packet other port packet)) past = past
past_behind lanes lane (Record (Leave other)) (inl e) = inl e
past_behind lanes lane (Record (Leave other)) (inr e) = inr (kept_true (eqb lane other) (lanes.lanes.has_left lane) e)
past_behind lanes lane (Record (Meet other controller call)) past = past
past_behind lanes lane (Bytes other bytes) past = past

-- what one item adds to a lane's feeds
abbrev with_feed : Bool → Feed → List Feed → List Feed
with_feed b feed rest = cond b (feed ∷ rest) rest

abbrev feed_of : List ℕ → List Asked → Feed
feed_of piece asked = record { piece = piece; asked = asked }

pub fed_by : (b : Bool) (lane other : ℕ) (piece : List ℕ) (asked : List Asked) (rest : List Filled) → eqb lane other ≡ b → feeds_on lane (Fed other piece asked ∷ rest) ≡ with_feed b (feed_of piece asked) (feeds_on lane rest)
fed_by true lane other piece asked rest e = rw e refl
fed_by false lane other piece asked rest e = rw e refl

no_feeds_by : (b : Bool) (other : ℕ) (piece : List ℕ) (asked : List Asked) (rest : List Filled) (lanes : ItemLanes) (lane : ℕ) → eqb lane other ≡ b → IsPast lanes lane → takes_bytes lanes other ≡ true
    → feeds_on lane rest ≡ [] → feeds_on lane (Fed other piece asked ∷ rest) ≡ []
no_feeds_by true other piece asked rest lanes lane e past takes below =
    let is : lane ≡ other = eqb-true lane other e in
    absurd (closed_by (lanes.asks other) (lanes.lanes.has_left other) (subst (IsPast lanes) is past) takes)
no_feeds_by false other piece asked rest lanes lane e past takes below = fed_by false lane other piece asked rest e ∙ below

pub no_feeds : (filled : List Filled) (lanes : ItemLanes) (lane : ℕ) → IsPast lanes lane → AreItems lanes (map item_of filled) → feeds_on lane filled ≡ []
no_feeds [] lanes lane past each = refl
no_feeds (Kept it ∷ rest) lanes lane past each = no_feeds rest (lanes_behind lanes (Record it)) lane (past_behind lanes lane (Record it) past) each.1
no_feeds (Fed other piece asked ∷ rest) lanes lane past each =
    no_feeds_by (eqb lane other) other piece asked rest lanes lane refl past each.0.1 (no_feeds rest (lanes_behind lanes (Bytes other piece)) lane past each.1)

-- ---- the replies of a lane's calls are those of its bytes, and behind them that of its Leave

abbrev pub replies : List Entry → List Reply
replies entries = map (λ entry. entry.reply) entries

abbrev pub given : List Asked → List Reply
given asked = map (λ one. one.reply) asked

-- entries of one lane
pub own_on : (lane other : ℕ) (own : List Entry) → lane ≡ other → AllByRecursion (λ entry. entry.lane ≡ other) own → entries_on lane own ≡ own
own_on lane other [] is each = refl
own_on lane other (entry ∷ own) is each =
    ap (λ b. cond b (entry ∷ entries_on lane own) (entries_on lane own)) (eq-eqb lane entry.lane (is ∙ sym each.0)) ∙ ap (λ l. entry ∷ l) (own_on lane other own is each.1)

pub others_on : (lane other : ℕ) (own : List Entry) → eqb lane other ≡ false → AllByRecursion (λ entry. entry.lane ≡ other) own → entries_on lane own ≡ []
others_on lane other [] e each = refl
others_on lane other (entry ∷ own) e each =
    ap (λ b. cond b (entry ∷ entries_on lane own) (entries_on lane own)) (ap (eqb lane) each.0 ∙ e) ∙ others_on lane other own e each.1

-- entries that are of no call of the lane's bytes, where nothing of its bytes comes behind them
pub left_over : (lane : ℕ) (filled : List Filled) (entries : List Entry) → feeds_on lane filled ≡ [] → AreAnswered (asked_on lane filled) entries
left_over lane filled entries none = record { left = replies entries; replies = ap (λ feeds. given (flat_map (λ feed. feed.asked) feeds) ++ replies entries) (sym none) }

-- entries of other lanes in front
passed_over : (lane : ℕ) (asked : List Asked) (own later : List Entry) → entries_on lane own ≡ [] → AreAnswered asked (entries_on lane later) → AreAnswered asked (entries_on lane (own ++ later))
passed_over lane asked own later none h = record {
  left = h.left;
  replies = ap replies (filter-append (λ entry. lane == entry.lane) own later ∙ ap (λ l. l ++ entries_on lane later) none) ∙ h.replies;
}

-- entries of the lane's bytes in front
joined : (lane other : ℕ) (asked rest : List Asked) (own later : List Entry) → lane ≡ other → AllByRecursion (λ entry. entry.lane ≡ other) own → replies own ≡ given asked → AreAnswered rest (entries_on lane later)
    → AreAnswered (asked ++ rest) (entries_on lane (own ++ later))
joined lane other asked rest own later is each same h = record {
  left = h.left;
  replies =
      ap replies (filter-append (λ entry. lane == entry.lane) own later ∙ ap (λ l. l ++ entries_on lane later) (own_on lane other own is each))
      ∙ map-append (λ (entry : Entry). entry.reply) own (entries_on lane later)
      ∙ ap (λ l. l ++ replies (entries_on lane later)) same
      ∙ ap (λ l. given asked ++ l) h.replies
      ∙ sym (append_assoc (given asked) (given rest) h.left)
      ∙ ap (λ l. l ++ h.left) (sym (map-append (λ (one : Asked). one.reply) asked rest));
}

fed_answered : (b : Bool) (lane other : ℕ) (piece : List ℕ) (asked : List Asked) (rest : List Filled) (own later : List Entry) → eqb lane other ≡ b → replies own ≡ given asked → AllByRecursion (λ entry. entry.lane ≡ other) own
    → AreAnswered (asked_on lane rest) (entries_on lane later) → AreAnswered (asked_on lane (Fed other piece asked ∷ rest)) (entries_on lane (own ++ later))
fed_answered true lane other piece asked rest own later e same each h =
    subst (λ feeds. AreAnswered (flat_map (λ feed. feed.asked) feeds) (entries_on lane (own ++ later))) (sym (fed_by true lane other piece asked rest e))
    (joined lane other asked (asked_on lane rest) own later (eqb-true lane other e) each same h)
fed_answered false lane other piece asked rest own later e same each h =
    subst (λ feeds. AreAnswered (flat_map (λ feed. feed.asked) feeds) (entries_on lane (own ++ later))) (sym (fed_by false lane other piece asked rest e))
    (passed_over lane (asked_on lane rest) own later (others_on lane other own e each) h)

-- a record's call, which is on the lane, behind which its bytes bring nothing, or on another
call_answered : (b : Bool) (lane other : ℕ) (rest : List Filled) (own later : List Entry) → eqb lane other ≡ b → AllByRecursion (λ entry. entry.lane ≡ other) own → (lane ≡ other → feeds_on lane rest ≡ [])
    → AreAnswered (asked_on lane rest) (entries_on lane later) → AreAnswered (asked_on lane rest) (entries_on lane (own ++ later))
call_answered true lane other rest own later e each none h = left_over lane rest (entries_on lane (own ++ later)) (none (eqb-true lane other e))
call_answered false lane other rest own later e each none h = passed_over lane (asked_on lane rest) own later (others_on lane other own e each) h

pub true_here : (lane other : ℕ) (b : Bool) → lane ≡ other → cond (eqb lane other) true b ≡ true
true_here lane other b is = ap (λ t. cond t true b) (eq-eqb lane other is)

answered_on : (filled : List Filled) (lanes : ItemLanes) (lane : ℕ) (journal : List Entry) → AreItems lanes (map item_of filled) → FollowsOn filled journal → AreAnswered (asked_on lane filled) (entries_on lane journal)
answered_on [] lanes lane journal each follows = record { left = []; replies = ap (λ l. replies (entries_on lane l)) follows }
answered_on (Kept (Call other method message) ∷ rest) lanes lane journal each follows =
    let own = follows.0 in let later = follows.1 in
    let behind = lanes_behind lanes (Record (Call other method message)) in
    subst (λ l. AreAnswered (asked_on lane rest) (entries_on lane l)) (sym follows.2)
    (call_answered (eqb lane other) lane other rest own later refl follows.3 (λ is. no_feeds rest behind lane (inl (true_here lane other (lanes.asks lane) is)) each.1) (answered_on rest behind lane later each.1 follows.4))
answered_on (Kept (Packet other port packet) ∷ rest) lanes lane journal each follows =
    subst (λ l. AreAnswered (asked_on lane rest) (entries_on lane l)) (sym follows.2)
    (passed_over lane (asked_on lane rest) follows.0 follows.1 (ap (entries_on lane) follows.3) (answered_on rest lanes lane follows.1 each.1 follows.4))
answered_on (Kept (Leave other) ∷ rest) lanes lane journal each follows =
    let own = follows.0 in let later = follows.1 in
    let behind = lanes_behind lanes (Record (Leave other)) in
    subst (λ l. AreAnswered (asked_on lane rest) (entries_on lane l)) (sym follows.2)
    (call_answered (eqb lane other) lane other rest own later refl follows.3 (λ is. no_feeds rest behind lane (inr (true_here lane other (lanes.lanes.has_left lane) is)) each.1) (answered_on rest behind lane later each.1 follows.4))
answered_on (Kept (Meet other controller call) ∷ rest) lanes lane journal each follows =
    subst (λ l. AreAnswered (asked_on lane rest) (entries_on lane l)) (sym follows.2)
    (passed_over lane (asked_on lane rest) follows.0 follows.1 (ap (entries_on lane) follows.3) (answered_on rest lanes lane follows.1 each.1 follows.4))
answered_on (Fed other piece asked ∷ rest) lanes lane journal each follows =
    subst (λ l. AreAnswered (asked_on lane (Fed other piece asked ∷ rest)) (entries_on lane l)) (sym follows.2)
    (fed_answered (eqb lane other) lane other piece asked rest follows.0 follows.1 refl follows.3 follows.4 (answered_on rest (lanes_behind lanes (Bytes other piece)) lane follows.1 each.1 follows.5))

-- ---- the report

abbrev with_sent : List (ℕ × List ℕ) → Report → Report
with_sent sent report = record report { sent = sent }

-- over the records that the turns are
reported : (start : Start) (items : List TapeItem) (served : ℕ → Served) (turns : List Turn) → AreItems no_item_lanes items → (run : IsFilledRun start items served turns)
    → (records : List TapeRecord) → records ≡ records_of run.filled → items_of turns ≡ records
    → IsItemLockstepReport start items (report_text (filled_report start items served turns))
reported start items served turns each run records are is =
    let p = played start turns in
    let journal = made (begun start) turns in
    let packets = carried (begun start) turns in
    let same : items_of turns ≡ records_of run.filled = is ∙ are in
    let stands : AreItems no_item_lanes (map item_of run.filled) = subst (AreItems no_item_lanes) (sym run.items_are) each in
    let names : NameMade no_lanes (items_of turns) = subst (NameMade no_lanes) (sym same) (names_filled run.filled no_item_lanes no_lanes (λ c. omega arith) stands) in
    let entries : p.journal ≡ map (λ m. m.entry) journal = journal_played (begun start) turns in
    record {
      report = record {
        filled = run.filled;
        served = served;
        journal = journal;
        packets = packets;
        run = record {
          items_are = run.items_are;
          run = subst (λ r. IsRun start r journal packets) same (run_played start turns names);
          feeds = run.feeds;
          answered = λ lane. subst (λ j. AreAnswered (asked_on lane run.filled) (entries_on lane j)) entries (answered_on run.filled no_item_lanes lane p.journal stands run.follows);
        };
        written =
            ap (λ r. report_text (with_sent (sent_lines items p.journal served) r)) (report_played start turns names)
            ∙ ap (λ j. report_text (with_sent (sent_lines items j served) (report_of start (items_of turns) journal packets))) entries
            ∙ ap (λ r. report_text (with_sent (sent_lines items (map (λ m. m.entry) journal) served) (report_of start r journal packets))) same;
      };
      lockstep = subst (λ r. Lockstep start 0 no_figures r journal packets) same (lockstep_played start (begun start) turns refl);
    }

pub filled_is_report : FilledIsReport
filled_is_report start items served turns each run = reported start items served turns each run (records_of run.filled) refl run.turns_are

pub lockstep_is_free : LockstepIsFree
lockstep_is_free start items text h =
    let r = h.report in
    let plain : IsLockstepReport start (records_of r.filled) (report_text (report_of start (records_of r.filled) r.journal r.packets)) = record {
      report = record { journal = r.journal; records = r.packets; run = r.run.run; written = refl };
      lockstep = h.lockstep;
    } in
    record { report = r; read = lockstep_is_bounded start (records_of r.filled) (report_text (report_of start (records_of r.filled) r.journal r.packets)) plain }
