-- Where no call is refused for memory, the items of a tape determine its report.
use Rattle.std.proofs.Common.{◌≡◌, ℕ, suc, Bool, true, false, cond, eqb, if◌then◌else◌, List, [], ◌∷◌, ◌++◌, length, map, fold, Option, Some, None, refl, sym, ap, subst, ◌∙◌, append_assoc, inl, inr, arith}
use Rattle.std.specs.List.{AllByRecursion, cons_option, filter_map, flat_map, list_any}
use Rattle.std.proofs.lemmas.Bool.{eqb-true, eq-eqb}
use Rattle.std.proofs.lemmas.List.{map-append}
use Rattle.std.proofs.lemmas.List.Elements.{filter-append}
use Rattle.p4_types.specs.declared.calls.Call.{Call as Read}
use Rattle.p4_types.specs.declared.calls.Reply.{Reply}
use Rattle.p4_types.specs.declared.events.Start.{Start}
use Rattle.p4_types.specs.declared.journal.Entry.{Entry}
use Rattle.p4_types.specs.declared.journal.Report.{Report}
use Rattle.p4_types.specs.declared.tape.TapeRecord.{TapeRecord}
use Rattle.p4_types.specs.declared.tape.TapeRecord.TheVariants.{Call, Packet, Leave, Meet}
use Rattle.p4_types.specs.declared.tape.Who.TheVariants.{Worker}
use Rattle.switch_spec.specs.Answer.{Answer, answer, answer_to, called}
use Rattle.switch_spec.specs.History.{Made, reply_of, steps_of}
use Rattle.switch_spec.specs.declared.calls.LaneCall.{LaneCall}
use Rattle.switch_spec.specs.declared.calls.LaneCall.TheVariants.{Asks, Leaves}
use Rattle.plane_spec.specs.Planes.{applied}
use Rattle.run_spec.specs.Play.{Played, Turn, Answers, Refuses, Carries, Finds, begun, next_call, play_call, play_refusal, play_packet, play_out, call_item, items_of, play, played_report, answering}
use Rattle.run_spec.specs.Report.{IsLockstepReport, report_of}
use Rattle.run_spec.specs.ReportText.{report_text}
use Rattle.run_spec.specs.Tape.{no_lanes, NameMade}
use Rattle.run_spec.specs.Text.{count_up}
use Rattle.run_spec.proofs.Determined.{NoneRefused, only_run}
use Rattle.run_spec.proofs.Fitting.{report_played}
use Rattle.run_spec.proofs.Playing.{made, made_call, made_refusal, carried, journal_played}
use Rattle.p4rt_service.specs.Dialogues.{Dialogue, Ends, Asks as Asking, Runs}
use Rattle.p4rt_service.specs.Turns.{Served, piece_served}
use Rattle.tape_spec.specs.declared.item.TapeItem.{TapeItem}
use Rattle.tape_spec.specs.declared.item.TapeItem.TheVariants.{Record, Bytes}
use Rattle.tape_spec.specs.Items.{ItemLanes, no_item_lanes, lanes_behind, AreItems}
use Rattle.byte_lanes.specs.Filling.{Filled, Kept, Fed, Asked, item_of, records_of, Feed, feeds_on, asked_on, entries_on, exchange_of, Feeds, greeted, AreAnswered, brings, sent_to, sent_lines, IsItemLockstepReport}
use Rattle.byte_lanes.specs.Laws.{ItemsDetermineReport}
use Rattle.byte_lanes.proofs.Reports.{fed_by, given, left_over, names_filled, no_feeds, others_on, own_on, replies, true_here}

-- ---- a call as it is read, in a run in one pass

abbrev answer_next : Played → ℕ → Read → Answer
answer_next p lane call = answer_to p.control p.figures lane (next_call lane p) call

abbrev reply_next : Played → ℕ → Read → Reply
reply_next p lane call = reply_of p.steps (answer_next p lane call)

-- the run behind it
abbrev play_read : Played → ℕ → Read → Played
play_read p lane call =
    let a = answer_next p lane call in
    let entry : Entry = record { lane = lane; call = next_call lane p; steps = steps_of a.events; reply = reply_of p.steps a } in
    let q : Played = record p { control = applied p.control a.events; steps = entry.reply.steps; journal = p.journal ++ entry ∷ [] } in
    play_out q lane a.packet

-- a dialogue held with the switch by a lane: the run and the link behind it
converse : Dialogue Served → ℕ → Played → Played × Served
converse (Ends x) lane p = (p, x)
converse (Asking call by) lane p = converse (by (reply_next p lane call)) lane (play_read p lane call)

-- this link on a lane, and the others as they are
abbrev with_served : (ℕ → Served) → ℕ → Served → ℕ → Served
with_served links lane link other = cond (eqb other lane) link (links other)

-- the items in one pass: the run and all links behind them
item_run : Played → (ℕ → Served) → List TapeItem → Played × (ℕ → Served)
item_run p links [] = (p, links)
item_run p links (Record it ∷ items) = item_run (play p (answering it)) links items
item_run p links (Bytes lane piece ∷ items) =
    item_run (converse (piece_served piece (links lane)) lane p).0 (with_served links lane (converse (piece_served piece (links lane)) lane p).1) items

-- ---- the records that bytes come to

abbrev calls_of : ℕ → List Asked → List TapeRecord
calls_of lane asked = map (λ one. call_item lane one.call) asked

abbrev turns_of : List TapeRecord → List Turn
turns_of records = map answering records

abbrev entries_from : Played → List Turn → List Entry
entries_from p turns = map (λ m. m.entry) (made p turns)

abbrev behind_all : Played → List Turn → Played
behind_all p turns = fold play p turns

-- ---- lists

split_same : {A : Type 0} (a b c d : List A) → length a ≡ length c → a ++ b ≡ c ++ d → (a ≡ c) × (b ≡ d)
split_same [] b [] d len is = (refl, is)
split_same [] b (y ∷ c) d len is = absurd cc
split_same (x ∷ a) b [] d len is = absurd cc
split_same (x ∷ a) b (y ∷ c) d len is =
    let first : x ≡ y = cc in
    let shorter : length a ≡ length c = cc in
    let others : a ++ b ≡ c ++ d = cc in
    let rest = split_same a b c d shorter others in
    (ap (λ z. z ∷ a) first ∙ ap (λ l. y ∷ l) rest.0, rest.1)

entries_append : (p : Played) (xs ys : List Turn) → entries_from p (xs ++ ys) ≡ entries_from p xs ++ entries_from (behind_all p xs) ys
unfolding play
entries_append p [] ys = refl
entries_append p (Answers lane call ∷ xs) ys = ap (λ (l : List Entry). (made_call p lane call).entry ∷ l) (entries_append (play_call p lane call) xs ys)
entries_append p (Refuses lane call ∷ xs) ys = ap (λ (l : List Entry). (made_refusal p lane call).entry ∷ l) (entries_append (play_refusal p lane) xs ys)
entries_append p (Carries lane port packet ∷ xs) ys = entries_append (play_packet p (Worker lane) port packet) xs ys
entries_append p (Finds lane controller call ∷ xs) ys = entries_append p xs ys

behind_append : (p : Played) (xs ys : List Turn) → behind_all p (xs ++ ys) ≡ behind_all (behind_all p xs) ys
behind_append p [] ys = refl
behind_append p (turn ∷ xs) ys = behind_append (play p turn) xs ys

records_again : (records : List TapeRecord) → items_of (turns_of records) ≡ records
records_again [] = refl
records_again (Call lane method message ∷ records) = ap (λ (l : List TapeRecord). Call lane method message ∷ l) (records_again records)
records_again (Packet lane port packet ∷ records) = ap (λ (l : List TapeRecord). Packet lane port packet ∷ l) (records_again records)
records_again (Leave lane ∷ records) = ap (λ (l : List TapeRecord). Leave lane ∷ l) (records_again records)
records_again (Meet lane controller call ∷ records) = ap (λ (l : List TapeRecord). Meet lane controller call ∷ l) (records_again records)

-- ---- the calls of a lane's bytes

turn_is : (lane : ℕ) (call : LaneCall) → answering (call_item lane call) ≡ Answers lane call
turn_is lane (Asks method message) = refl
turn_is lane Leaves = refl

abbrev asked_turns : ℕ → List Asked → List Turn
asked_turns lane asked = map (λ one. Answers lane one.call) asked

turns_asked : (lane : ℕ) (asked : List Asked) → turns_of (calls_of lane asked) ≡ asked_turns lane asked
turns_asked lane [] = refl
turns_asked lane (one ∷ asked) = ap (λ (t : Turn). t ∷ turns_of (calls_of lane asked)) (turn_is lane one.call) ∙ ap (λ (l : List Turn). Answers lane one.call ∷ l) (turns_asked lane asked)

of_lane : (p : Played) (lane : ℕ) (asked : List Asked) → AllByRecursion (λ entry. entry.lane ≡ lane) (entries_from p (asked_turns lane asked))
of_lane p lane [] = tt
of_lane p lane (one ∷ asked) = (refl, of_lane (play_call p lane one.call) lane asked)

as_many : (p : Played) (lane : ℕ) (asked : List Asked) → length (replies (entries_from p (asked_turns lane asked))) ≡ length (given asked)
as_many p lane [] = refl
as_many p lane (one ∷ asked) = ap suc (as_many (play_call p lane one.call) lane asked)

abbrev first_of : Reply → List Reply → Reply
first_of other [] = other
first_of other (first ∷ rest) = first

abbrev rest_of : List Reply → List Reply
rest_of [] = []
rest_of (first ∷ rest) = rest

-- a dialogue whose replies are those of the run goes as it does with the switch
talk : (d : Dialogue Served) (asked : List Asked) (end : Served) (lane : ℕ) (p : Played) → Runs d (map exchange_of asked) end → replies (entries_from p (asked_turns lane asked)) ≡ given asked
    → converse d lane p ≡ (behind_all p (asked_turns lane asked), end)
unfolding answer play converse
talk (Ends x) [] end lane p runs same = ap (λ (y : Served). (p, y)) (sym runs)
talk (Ends x) (one ∷ asked) end lane p runs same = absurd runs
talk (Asking call by) [] end lane p runs same = absurd runs
talk (Asking call by) (one ∷ asked) end lane p runs same =
    let first : reply_next p lane (called one.call) ≡ one.reply = ap (first_of one.reply) same in
    let later : replies (entries_from (play_call p lane one.call) (asked_turns lane asked)) ≡ given asked = ap rest_of same in
    ap (λ (c : Read). converse (by (reply_next p lane c)) lane (play_read p lane c)) (sym runs.0)
    ∙ ap (λ (y : Reply). converse (by y) lane (play_read p lane (called one.call))) first
    ∙ talk (by one.reply) asked end lane (play_call p lane one.call) runs.1 later

-- ---- what is asked of the rest of a run

abbrev FeedsAll : (ℕ → Served) → List Filled → (ℕ → Served) → Type 0
FeedsAll links filled ends = (lane : ℕ) → Feeds (links lane) (feeds_on lane filled) (ends lane)

abbrev AnswersAll : Played → List Filled → Type 0
AnswersAll p filled = (lane : ℕ) → AreAnswered (asked_on lane filled) (entries_on lane (entries_from p (turns_of (records_of filled))))

-- the run and the links are those of the items in one pass
record IsOnePass (p : Played) (links : ℕ → Served) (filled : List Filled) (ends : ℕ → Served) : Type 0 where
  run : (item_run p links (map item_of filled)).0 ≡ behind_all p (turns_of (records_of filled))
  served : (lane : ℕ) → ends lane ≡ (item_run p links (map item_of filled)).1 lane

-- an entry in front that is another lane's, or behind which the lane's bytes bring nothing
behind_entry : (b : Bool) (lane other : ℕ) (rest : List Filled) (entry : Entry) (later : List Entry) → eqb lane other ≡ b → entry.lane ≡ other → (lane ≡ other → feeds_on lane rest ≡ [])
    → AreAnswered (asked_on lane rest) (entries_on lane (entry ∷ later)) → AreAnswered (asked_on lane rest) (entries_on lane later)
behind_entry true lane other rest entry later e is none h = left_over lane rest (entries_on lane later) (none (eqb-true lane other e))
behind_entry false lane other rest entry later e is none h =
    subst (AreAnswered (asked_on lane rest)) (ap (λ b. cond b (entry ∷ entries_on lane later) (entries_on lane later)) (ap (eqb lane) is ∙ e)) h

-- bytes in front: their replies, and what is asked of those behind
record AreSplit (p : Played) (lane : ℕ) (asked : List Asked) (rest : List Filled) : Type 0 where
  same : replies (entries_from p (asked_turns lane asked)) ≡ given asked
  later : AreAnswered (asked_on lane rest) (entries_on lane (entries_from (behind_all p (asked_turns lane asked)) (turns_of (records_of rest))))

turns_split : (lane : ℕ) (asked : List Asked) (rest : List Filled) → turns_of (calls_of lane asked ++ records_of rest) ≡ asked_turns lane asked ++ turns_of (records_of rest)
turns_split lane asked rest = map-append answering (calls_of lane asked) (records_of rest) ∙ ap (λ (l : List Turn). l ++ turns_of (records_of rest)) (turns_asked lane asked)

entries_split : (p : Played) (lane : ℕ) (asked : List Asked) (rest : List Filled)
    → entries_from p (turns_of (calls_of lane asked ++ records_of rest)) ≡ entries_from p (asked_turns lane asked) ++ entries_from (behind_all p (asked_turns lane asked)) (turns_of (records_of rest))
entries_split p lane asked rest = ap (entries_from p) (turns_split lane asked rest) ∙ entries_append p (asked_turns lane asked) (turns_of (records_of rest))

asked_here : (lane : ℕ) (piece : List ℕ) (asked : List Asked) (rest : List Filled) → asked_on lane (Fed lane piece asked ∷ rest) ≡ asked ++ asked_on lane rest
asked_here lane piece asked rest = ap (λ (feeds : List Feed). flat_map (λ feed. feed.asked) feeds) (fed_by true lane lane piece asked rest (eq-eqb lane lane refl))

split : (p : Played) (lane : ℕ) (piece : List ℕ) (asked : List Asked) (rest : List Filled) → AnswersAll p (Fed lane piece asked ∷ rest) → AreSplit p lane asked rest
split p lane piece asked rest answers =
    let own = entries_from p (asked_turns lane asked) in
    let later = entries_from (behind_all p (asked_turns lane asked)) (turns_of (records_of rest)) in
    let h = answers lane in
    let entries : entries_on lane (entries_from p (turns_of (calls_of lane asked ++ records_of rest))) ≡ own ++ entries_on lane later =
    ap (entries_on lane) (entries_split p lane asked rest) ∙ filter-append (λ (entry : Entry). eqb lane entry.lane) own later
    ∙ ap (λ (l : List Entry). l ++ entries_on lane later) (own_on lane lane own refl (of_lane p lane asked)) in
    let both : replies own ++ replies (entries_on lane later) ≡ given asked ++ (given (asked_on lane rest) ++ h.left) =
    sym (map-append (λ (entry : Entry). entry.reply) own (entries_on lane later)) ∙ ap replies (sym entries) ∙ h.replies
    ∙ ap (λ (l : List Asked). given l ++ h.left) (asked_here lane piece asked rest)
    ∙ ap (λ (l : List Reply). l ++ h.left) (map-append (λ (one : Asked). one.reply) asked (asked_on lane rest))
    ∙ append_assoc (given asked) (given (asked_on lane rest)) h.left in
    let parts = split_same (replies own) (replies (entries_on lane later)) (given asked) (given (asked_on lane rest) ++ h.left) (as_many p lane asked) both in
    record { same = parts.0; later = record { left = h.left; replies = parts.1 } }

-- another lane's bytes in front
beside : (p : Played) (lane other : ℕ) (piece : List ℕ) (asked : List Asked) (rest : List Filled) → eqb lane other ≡ false → AreAnswered (asked_on lane (Fed other piece asked ∷ rest)) (entries_on lane (entries_from p (turns_of (calls_of other asked ++ records_of rest))))
    → AreAnswered (asked_on lane rest) (entries_on lane (entries_from (behind_all p (asked_turns other asked)) (turns_of (records_of rest))))
beside p lane other piece asked rest e h =
    let own = entries_from p (asked_turns other asked) in
    let later = entries_from (behind_all p (asked_turns other asked)) (turns_of (records_of rest)) in
    let entries : entries_on lane (entries_from p (turns_of (calls_of other asked ++ records_of rest))) ≡ entries_on lane later =
    ap (entries_on lane) (entries_split p other asked rest) ∙ filter-append (λ (entry : Entry). eqb lane entry.lane) own later
    ∙ ap (λ (l : List Entry). l ++ entries_on lane later) (others_on lane other own e (of_lane p other asked)) in
    subst (AreAnswered (asked_on lane rest)) entries
    (subst (λ (feeds : List Feed). AreAnswered (flat_map (λ feed. feed.asked) feeds) (entries_on lane (entries_from p (turns_of (calls_of other asked ++ records_of rest))))) (fed_by false lane other piece asked rest e) h)

answers_by : (b : Bool) (p : Played) (lane other : ℕ) (piece : List ℕ) (asked : List Asked) (rest : List Filled) → eqb lane other ≡ b → AnswersAll p (Fed other piece asked ∷ rest) → AreSplit p other asked rest
    → AreAnswered (asked_on lane rest) (entries_on lane (entries_from (behind_all p (asked_turns other asked)) (turns_of (records_of rest))))
answers_by true p lane other piece asked rest e answers parts =
    subst (λ (l : ℕ). AreAnswered (asked_on l rest) (entries_on l (entries_from (behind_all p (asked_turns other asked)) (turns_of (records_of rest))))) (sym (eqb-true lane other e)) parts.later
answers_by false p lane other piece asked rest e answers parts = beside p lane other piece asked rest e (answers lane)

feeds_by : (b : Bool) (links ends : ℕ → Served) (lane other : ℕ) (piece : List ℕ) (asked : List Asked) (rest : List Filled) (between : Served) → eqb lane other ≡ b → FeedsAll links (Fed other piece asked ∷ rest) ends
    → Feeds between (feeds_on other rest) (ends other) → Feeds (cond b between (links lane)) (feeds_on lane rest) (ends lane)
feeds_by true links ends lane other piece asked rest between e feeds onward = subst (λ (l : ℕ). Feeds between (feeds_on l rest) (ends l)) (sym (eqb-true lane other e)) onward
feeds_by false links ends lane other piece asked rest between e feeds onward = subst (λ (l : List Feed). Feeds (links lane) l (ends lane)) (fed_by false lane other piece asked rest e) (feeds lane)

one_pass : (filled : List Filled) (lanes : ItemLanes) (p : Played) (links ends : ℕ → Served) → AreItems lanes (map item_of filled) → FeedsAll links filled ends → AnswersAll p filled → IsOnePass p links filled ends
unfolding play item_run
one_pass [] lanes p links ends each feeds answers = record { run = refl; served = feeds }
one_pass (Kept (Call other method message) ∷ rest) lanes p links ends each feeds answers =
    let behind = lanes_behind lanes (Record (Call other method message)) in
    let q : Played = play_call p other (Asks method message) in
    let later = one_pass rest behind q links ends each.1 feeds
    (λ lane. behind_entry (eqb lane other) lane other rest _ (entries_from q (turns_of (records_of rest))) refl refl (λ is. no_feeds rest behind lane (inl (true_here lane other (lanes.asks lane) is)) each.1) (answers lane)) in
    record { run = later.run; served = later.served }
one_pass (Kept (Packet other port packet) ∷ rest) lanes p links ends each feeds answers =
    let later = one_pass rest lanes (play_packet p (Worker other) port packet) links ends each.1 feeds answers in
    record { run = later.run; served = later.served }
one_pass (Kept (Leave other) ∷ rest) lanes p links ends each feeds answers =
    let behind = lanes_behind lanes (Record (Leave other)) in
    let q : Played = play_call p other Leaves in
    let later = one_pass rest behind q links ends each.1 feeds
    (λ lane. behind_entry (eqb lane other) lane other rest _ (entries_from q (turns_of (records_of rest))) refl refl (λ is. no_feeds rest behind lane (inr (true_here lane other (lanes.lanes.has_left lane) is)) each.1) (answers lane)) in
    record { run = later.run; served = later.served }
one_pass (Kept (Meet other controller call) ∷ rest) lanes p links ends each feeds answers =
    let later = one_pass rest lanes p links ends each.1 feeds answers in
    record { run = later.run; served = later.served }
one_pass (Fed other piece asked ∷ rest) lanes p links ends each feeds answers =
    let q : Played = behind_all p (asked_turns other asked) in
    let parts = split p other piece asked rest answers in
    let fed : Feeds (links other) (record { piece = piece; asked = asked } ∷ feeds_on other rest) (ends other) =
    subst (λ (l : List Feed). Feeds (links other) l (ends other)) (fed_by true other other piece asked rest (eq-eqb other other refl)) (feeds other) in
    let between : Served = fed.0 in
    let said = talk (piece_served piece (links other)) asked between other p fed.1 parts.same in
    let later = one_pass rest (lanes_behind lanes (Bytes other piece)) q (with_served links other between) ends each.1
    (λ lane. feeds_by (eqb lane other) links ends lane other piece asked rest between refl feeds fed.2)
    (λ lane. answers_by (eqb lane other) p lane other piece asked rest refl answers parts) in
    let there : item_run p links (Bytes other piece ∷ map item_of rest) ≡ item_run q (with_served links other between) (map item_of rest) =
    ap (λ (x : Played × Served). item_run x.0 (with_served links other x.1) (map item_of rest)) said in
    record {
      run = ap (λ (x : Played × (ℕ → Served)). x.0) there ∙ later.run
          ∙ sym (ap (behind_all p) (turns_split other asked rest) ∙ behind_append p (asked_turns other asked) (turns_of (records_of rest)));
      served = λ lane. later.served lane ∙ sym (ap (λ (x : Played × (ℕ → Served)). x.1 lane) there);
    }

-- ---- the report

abbrev line_of : List TapeItem → List Entry → (ℕ → Served) → ℕ → Option (ℕ × List ℕ)
line_of items journal served lane = if list_any (brings lane) items then Some (lane, sent_to lane journal (served lane)) else None

map_same : {X : Type 0} (f g : ℕ → Option X) (xs : List ℕ) → ((x : ℕ) → f x ≡ g x) → filter_map f xs ≡ filter_map g xs
map_same f g [] same = refl
map_same f g (x ∷ xs) same = ap (λ o. cons_option o (filter_map f xs)) (same x) ∙ ap (λ l. cons_option (g x) l) (map_same f g xs same)

same_lines : (items : List TapeItem) (journal : List Entry) (s t : ℕ → Served) → ((lane : ℕ) → s lane ≡ t lane) → sent_lines items journal s ≡ sent_lines items journal t
same_lines items journal s t same =
    map_same (line_of items journal s) (line_of items journal t) (count_up 0 32)
    (λ lane. ap (λ (x : Served). if list_any (brings lane) items then Some (lane, sent_to lane journal x) else None) (same lane))

abbrev with_sent : List (ℕ × List ℕ) → Report → Report
with_sent sent report = record report { sent = sent }

-- the text of the items' only report
abbrev text_of : Start → List TapeItem → List ℕ
text_of start items =
    let end = item_run (begun start) greeted items in
    report_text (with_sent (sent_lines items end.0.journal end.1) (played_report end.0))

-- a lockstep report of the items with no call refused for memory has that text
only_text : (start : Start) (items : List TapeItem) (text : List ℕ) → AreItems no_item_lanes items → (a : IsItemLockstepReport start items text) → NoneRefused a.report.journal → text ≡ text_of start items
only_text start items text each a none =
    let r = a.report in
    let records = records_of r.filled in
    let turns = turns_of records in
    let p : Played = behind_all (begun start) turns in
    let end = item_run (begun start) greeted items in
    let plain : IsLockstepReport start records (report_text (report_of start records r.journal r.packets)) = record {
      report = record { journal = r.journal; records = r.packets; run = r.run.run; written = refl };
      lockstep = a.lockstep;
    } in
    let same = only_run start records (report_text (report_of start records r.journal r.packets)) plain none in
    let entries : map (λ m. m.entry) r.journal ≡ entries_from (begun start) turns = ap (λ (j : List Made). map (λ m. m.entry) j) same.0 in
    let stands : AreItems no_item_lanes (map item_of r.filled) = subst (AreItems no_item_lanes) (sym r.run.items_are) each in
    let pass = one_pass r.filled no_item_lanes (begun start) greeted r.served stands r.run.feeds (λ lane. subst (λ j. AreAnswered (asked_on lane r.filled) (entries_on lane j)) entries (r.run.answered lane)) in
    let run : (item_run (begun start) greeted items).0 ≡ p = ap (λ (l : List TapeItem). (item_run (begun start) greeted l).0) (sym r.run.items_are) ∙ pass.run in
    let served : (lane : ℕ) → r.served lane ≡ end.1 lane = λ lane. pass.served lane ∙ ap (λ (l : List TapeItem). (item_run (begun start) greeted l).1 lane) r.run.items_are in
    let names : NameMade no_lanes (items_of turns) = subst (NameMade no_lanes) (sym (records_again records)) (names_filled r.filled no_item_lanes no_lanes (λ c. omega arith) stands) in
    r.written
    ∙ ap (λ (j : List Made). report_text (with_sent (sent_lines items (map (λ m. m.entry) j) r.served) (report_of start records j r.packets))) same.0
    ∙ ap (λ packets. report_text (with_sent (sent_lines items (entries_from (begun start) turns) r.served) (report_of start records (made (begun start) turns) packets))) same.1
    ∙ ap (λ (l : List TapeRecord). report_text (with_sent (sent_lines items (entries_from (begun start) turns) r.served) (report_of start l (made (begun start) turns) (carried (begun start) turns)))) (sym (records_again records))
    ∙ ap (λ (x : Report). report_text (with_sent (sent_lines items (entries_from (begun start) turns) r.served) x)) (sym (report_played start turns names))
    ∙ ap (λ (j : List Entry). report_text (with_sent (sent_lines items j r.served) (played_report p))) (sym (journal_played (begun start) turns))
    ∙ ap (λ sent. report_text (with_sent sent (played_report p))) (same_lines items p.journal r.served end.1 served)
    ∙ ap (λ (x : Played). report_text (with_sent (sent_lines items x.journal end.1) (played_report x))) (sym run)

pub items_determine : ItemsDetermineReport
items_determine start items one other each a b left right = only_text start items one each a left ∙ sym (only_text start items other each b right)
