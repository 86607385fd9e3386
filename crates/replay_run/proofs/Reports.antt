-- What lanes at their ends make is the report of a run.
use Rattle.std.proofs.Common.{◌≡◌, ℕ, ◌+◌, ◌%◌, ◌^◌, ◌<◌, ◌≤◌, List, [], ◌∷◌, ◌++◌, length, map, fold, Option, refl, ap, sym, subst, ◌∙◌, arith}
use Rattle.std.specs.Prelude.{sum_by}
use Rattle.std.specs.List.{AllByRecursion, flat_map}
use Rattle.std.proofs.lemmas.List.{map-append}
use Rattle.std.proofs.lemmas.List.Sums.{fold-append, sum_by-append}
use Rattle.std.proofs.lemmas.Grind.{flat_map-append}
use Rattle.counter_bank.specs.Account.{Account, AreTotals, NoneAbove}
use Rattle.counter_bank.specs.Account as accounts
use Rattle.counter_bank.specs.Figures.{packets_of, bytes_of}
use Rattle.ctl_lock.specs.Calls.{journal_of}
use Rattle.ctl_core.specs.Core.{Core}
use Rattle.ctl_lock.specs.Locked.{IsStanding, SeeAll}
use Rattle.ctl_lock.specs.declared.signed.Signed.{Signed}
use Rattle.lane_work.proofs.Totals.{joined_are_counted, pairs}
use Rattle.lane_work.specs.Running.{beside}
use Rattle.lane_work.specs.Shares.{Share, joined, outcomes}
use Rattle.lane_work.specs.Work.{Work}
use Rattle.p4_types.specs.declared.events.Event.TheVariants as events
use Rattle.p4_types.specs.declared.events.Start.{Start}
use Rattle.p4_types.specs.declared.journal.CellLine.{CellLine}
use Rattle.p4_types.specs.declared.journal.CountLine.{CountLine}
use Rattle.p4_types.specs.declared.journal.Entry.{Entry}
use Rattle.p4_types.specs.declared.journal.Report.{Report}
use Rattle.p4_types.specs.declared.records.Record.{Record}
use Rattle.p4_types.specs.declared.tape.TapeRecord.{TapeRecord}
use Rattle.plane_spec.specs.Config.{Event}
use Rattle.plane_spec.specs.Legal.{Legal}
use Rattle.plane_spec.specs.Planes.{ControlState, Plane, apply, applied, opened}
use Rattle.pub_snap.specs.Beginnings.{Beginning}
use Rattle.replay_run.proofs.Sums.{added_by_all, records_by, sums_by}
use Rattle.replay_run.specs.Ends.{figures_at}
use Rattle.replay_run.specs.Running.{IsRunReport}
use Rattle.run_counts.proofs.Hits.{runs_are_within}
use Rattle.run_counts.proofs.Lines.{totals_are_counts}
use Rattle.run_counts.specs.Totals.{AreWithin, in_words}
use Rattle.run_lanes.proofs.Gathering.{all_shared, lanes_make_a_run}
use Rattle.run_lanes.specs.Gathered.{AreGathered, HasCalled, HasCarried, HasRead, OfEach, all_shares, caller_share, shares_of, worker_share}
use Rattle.replay_run.proofs.Bounded.{reads_are_bounded}
use Rattle.run_spec.specs.Report.{IsRun, report_of}
use Rattle.run_spec.specs.Tape.{IsRecord}
use Rattle.snap_worker.specs.Laws.{added_by}
use Rattle.switch_spec.specs.Carrying.{final, made_on}
use Rattle.switch_spec.specs.CountLaws.{figures_of}
use Rattle.switch_spec.specs.Counts.{Carried, count_lines, cell_lines, counts_in, cells_in}
use Rattle.switch_spec.specs.History.{Made, journal_events, published}
use Rattle.switch_spec.specs.declared.calls.LaneCall.{LaneCall}
use Rattle.switch_spec.specs.declared.calls.WorkerItem.{WorkerItem}
use Rattle.tape_lanes.specs.Lanes.{calls_in, items_in}

-- the records of all lanes
all_records : (start : Start) (tape : List TapeRecord) (journal : List Made) (last : Beginning) (callers workers : List Work) → AreGathered start tape journal last callers workers
    → outcomes (joined (all_shares start tape journal callers workers)) ≡ flat_map (λ (w : Work). w.records) workers ++ flat_map (λ (w : Work). w.records) callers
all_records start tape journal last callers workers h =
    let ours : List Share = shares_of (caller_share start journal) 32 callers in
    let theirs : List Share = shares_of (worker_share (items_in tape)) 16 workers in
    ap outcomes (flat_map-append (λ (s : Share). s.carried) theirs ours)
    ∙ map-append (λ (c : Carried). c.outcome) (joined theirs) (joined ours)
    ∙ ap (λ (rs : List Record). rs ++ outcomes (joined ours)) (records_by (HasCarried last (items_in tape) journal) (worker_share (items_in tape)) 16 workers (λ lane work carried. carried.work_is.recorded) h.carried)
    ∙ ap (λ (rs : List Record). flat_map (λ (w : Work). w.records) workers ++ rs)
    (records_by (HasCalled last (calls_in tape) journal) (caller_share start journal) 32 callers
    (λ lane work called. subst (λ (s : Start). outcomes (caller_share s journal lane work).carried ≡ work.records) h.start_is called.work_is.recorded) h.called)

-- what all seats have added of a figure
all_added : (start : Start) (tape : List TapeRecord) (journal : List Made) (last : Beginning) (callers workers : List Work) (figure : Account → ℕ) → AreGathered start tape journal last callers workers
    → sum_by (λ (s : Share). figure s.seat) (all_shares start tape journal callers workers) ≡ sum_by figure (map (λ (w : Work). w.seat) workers ++ map (λ (w : Work). w.seat) callers)
all_added start tape journal last callers workers figure h =
    let ours : List Share = shares_of (caller_share start journal) 32 callers in
    let theirs : List Share = shares_of (worker_share (items_in tape)) 16 workers in
    let a = sums_by (HasCarried last (items_in tape) journal) (worker_share (items_in tape)) figure 16 workers (λ lane work. refl) h.carried in
    let b = sums_by (HasCalled last (calls_in tape) journal) (caller_share start journal) figure 32 callers (λ lane work. refl) h.called in
    omega (
      arith,
      a,
      b,
      sum_by-append (λ (s : Share). figure s.seat) theirs ours,
      sum_by-append figure (map (λ (w : Work). w.seat) workers) (map (λ (w : Work). w.seat) callers),
    )

-- Close leaves the planes
still_active : (start : Start) (journal : List Made) → (final start journal).active ≡ (applied (opened start) (journal_events (opened start) journal)).active
still_active start journal = ap (λ (c : ControlState). c.active) (fold-append apply (opened start) (journal_events (opened start) journal) (events.Close ∷ []))

entries_in : (signed : List Signed) → map (λ (s : Signed). s.entry) signed ≡ map (λ (m : Made). m.entry) (journal_of signed)
entries_in [] = refl
entries_in (s ∷ signed) = ap (λ (l : List Entry). s.entry ∷ l) (entries_in signed)

-- two reports with the same parts
same_report : (a b : Report) → a.journal ≡ b.journal → a.sent ≡ b.sent → a.records ≡ b.records → a.counts ≡ b.counts → a.cells ≡ b.cells → a ≡ b
same_report a b journal sent records counts cells =
    ap (λ (x : List Entry). record a { journal = x }) journal
    ∙ ap (λ (x : List (ℕ × List ℕ)). record a { journal = b.journal; sent = x }) sent
    ∙ ap (λ (x : List Record). record b { records = x; counts = a.counts; cells = a.cells }) records
    ∙ ap (λ (x : List CountLine). record b { counts = x; cells = a.cells }) counts
    ∙ ap (λ (x : List CellLine). record b { cells = x }) cells

-- lanes at their ends, the closed list and the journal
pub gathered : (start : Start) (tape : List TapeRecord) (signed : List Signed) (told : Beginning) (callers workers : List Work) (calls : ℕ → List LaneCall) (items : ℕ → List WorkerItem)
    → AllByRecursion IsRecord tape → calls ≡ calls_in tape → items ≡ items_in tape → {core : Core} → IsStanding start (journal_events (opened start) (journal_of signed)) core (journal_of signed)
    → told.start ≡ start → told.events ≡ published start (journal_of signed) → Legal (opened told.start) told.events → ((lane : ℕ) → 32 ≤ lane → made_on lane (journal_of signed) ≡ [])
    → OfEach (HasCalled told calls (journal_of signed)) 32 callers → OfEach (HasCarried told items (journal_of signed)) 16 workers → AreGathered start tape (journal_of signed) told callers workers
gathered start tape signed told callers workers calls items each calls_are items_are standing start_is list_is legal others called carried =
    let legal_here : Legal (opened start) told.events = subst (λ (s : Start). Legal (opened s) told.events) start_is legal in
    record {
      records = each;
      numbered = standing.numbered;
      history = standing.history;
      start_is = start_is;
      list_is = list_is;
      legal = subst (λ (l : List Event). Legal (opened start) l) list_is legal_here;
      others = others;
      called = subst (λ (f : ℕ → List LaneCall). OfEach (HasCalled told f (journal_of signed)) 32 callers) calls_are called;
      carried = subst (λ (f : ℕ → List WorkerItem). OfEach (HasCarried told f (journal_of signed)) 16 workers) items_are carried;
    }

pub reported : (start : Start) (tape : List TapeRecord) (signed : List Signed) (last : Beginning) (callers workers : List Work) (control : ControlState) (rest seat : Account) (totals : List ℕ) (report : Report)
    → AreGathered start tape (journal_of signed) last callers workers → OfEach (HasRead start signed) 32 callers → SeeAll (opened start) signed → length tape ≤ 1000000 → control ≡ applied (opened start) (journal_events (opened start) (journal_of signed))
    → rest.added ≡ [] → seat ≡ fold accounts.joined (fold accounts.joined rest (map (λ (w : Work). w.seat) workers)) (map (λ (w : Work). w.seat) callers)
    → AreTotals totals start.slots seat.added → NoneAbove seat.noted seat.added
    → report.journal ≡ map (λ (s : Signed). s.entry) signed → report.sent ≡ [] → report.records ≡ flat_map (λ (w : Work). w.records) workers ++ flat_map (λ (w : Work). w.records) callers
    → report.counts ≡ count_lines (figures_at totals) control.active → report.cells ≡ cell_lines (figures_at totals) control.active
    → IsRunReport start tape report
reported start tape signed last callers workers control rest seat totals report h read seen number control_is nothing seat_is are_totals none_above journal_is sent_is records_are counts_are cells_are =
    let journal : List Made = journal_of signed in
    let shares : List Share = all_shares start tape journal callers workers in
    let packets : List Carried = joined shares in
    let run : IsRun start tape journal packets = lanes_make_a_run start tape journal last callers workers h in
    let same : outcomes packets ≡ report.records = all_records start tape journal last callers workers h ∙ sym records_are in
    let within : AreWithin packets = runs_are_within start tape journal packets run h.records (omega (arith, number)) in
    let seats : List Account = map (λ (w : Work). w.seat) workers ++ map (λ (w : Work). w.seat) callers in
    let joined_is : seat ≡ fold accounts.joined rest seats = seat_is ∙ sym (fold-append accounts.joined rest (map (λ (w : Work). w.seat) workers) (map (λ (w : Work). w.seat) callers)) in
    let added : (slot : ℕ) → added_by seat slot ≡ figures_of packets slot = λ slot.
    let counted = joined_are_counted start (published start journal) shares (all_shared start tape journal last callers workers h) slot in
    let all = added_by_all rest seats slot nothing in
    let p = all_added start tape journal last callers workers (λ (a : Account). packets_of a.added slot) h in
    let b = all_added start tape journal last callers workers (λ (a : Account). bytes_of a.added slot) h in
    ap (λ (a : Account). added_by a slot) joined_is ∙ all ∙ pairs _ _ (sym p) (sym b) ∙ sym counted in
    let words : (slot : ℕ) → slot < start.slots → figures_at totals slot ≡ in_words (figures_of packets) slot = λ slot lt.
    are_totals slot lt ∙ ap (λ (x : ℕ × ℕ). (x.0 % 2 ^ 64, x.1 % 2 ^ 64)) (added slot) in
    let lines = totals_are_counts start tape journal packets (figures_at totals) run within words in
    let active : control.active ≡ (final start journal).active = ap (λ (c : ControlState). c.active) control_is ∙ sym (still_active start journal) in
    record {
      journal = journal;
      records = packets;
      run = run;
      read = reads_are_bounded start tape signed last callers workers rest seat h read seen number seat_is none_above added;
      report_is = same_report report (report_of start tape journal packets) (journal_is ∙ entries_in signed) sent_is (sym same)
          (counts_are ∙ ap (λ (p : Option Plane). count_lines (figures_at totals) p) active ∙ lines.0)
          (cells_are ∙ ap (λ (p : Option Plane). cell_lines (figures_at totals) p) active ∙ lines.1);
    }
