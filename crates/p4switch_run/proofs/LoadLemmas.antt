-- The summary of a run of a made tape sums up the report that follows the tape.
use Rattle.std.proofs.Common.{◌≡◌, ◌≤◌, ℕ, List, [], ◌∷◌, map, All, refl, sym, ap, subst, ◌∙◌, arith}
use Rattle.std.specs.List.{AllByRecursion}
use Rattle.p4_types.specs.declared.events.Start.{Start}
use Rattle.p4_types.specs.declared.journal.Report.{Report}
use Rattle.p4_types.specs.declared.tape.TapeRecord.TheVariants.{Call, Packet, Leave, Meet}
use Rattle.switch_spec.specs.Counts.{no_figures}
use Rattle.run_spec.specs.Play.{items_of, begun, played}
use Rattle.run_spec.specs.Report.{IsRun, Lockstep, report_of}
use Rattle.run_spec.specs.ReportText.{report_text}
use Rattle.run_spec.specs.Rows.{bare_start}
use Rattle.run_spec.specs.Tape.{no_lanes, NameMade}
use Rattle.run_spec.proofs.Fitting.{run_played, report_played}
use Rattle.run_spec.proofs.Playing.{made, carried, journal_played, lockstep_played}
use Rattle.tape_spec.specs.declared.item.TapeItem.{TapeItem}
use Rattle.tape_spec.specs.Items.{no_item_lanes, AreItems, IsItem}
use Rattle.byte_lanes.specs.Filling.{Filled, Kept, Fed, item_of, records_of, feeds_on, entries_on, sent_lines, item_report, IsItemLockstepReport}
use Rattle.byte_lanes.proofs.Reports.{names_filled, left_over}
use Rattle.lockstep_run.specs.Playing.{IsPlayedReport}
use Rattle.tape_form.proofs.Standing.{all_of}
use Rattle.gen_tape.specs.Generated.{generated}
use Rattle.gen_tape.specs.Laws.{IsPlain}
use Rattle.gen_tape.specs.Summary.{summary}
use Rattle.gen_tape.proofs.Grammar.{plain, within}
use Rattle.p4switch_run.specs.Load.{IsSummary}

-- what a made tape has is an item each
pub each_item : (number : ℕ) → number ≤ 64 → All IsItem (generated number)
each_item number high = all_of no_item_lanes (generated number) (within number high).each

-- no bytes of a lane stand among calls and packets
no_feeds : (filled : List Filled) (lane : ℕ) → AllByRecursion IsPlain (map item_of filled) → feeds_on lane filled ≡ []
no_feeds [] lane each = refl
no_feeds (Kept it ∷ rest) lane each = no_feeds rest lane each.1
no_feeds (Fed other piece asked ∷ rest) lane each = absurd each.0

abbrev with_sent : List (ℕ × List ℕ) → Report → Report
with_sent sent report = record report { sent = sent }

-- what the run in one pass reports is what the report shows of it
same_report : (start : Start) (items : List TapeItem) (report : Report) (run : IsPlayedReport start items report) → NameMade no_lanes (items_of run.turns)
    → report ≡ item_report start items run.run.filled run.served (made (begun start) run.turns) (carried (begun start) run.turns)
same_report start items report run names =
    let p = played start run.turns in
    let journal = made (begun start) run.turns in
    let packets = carried (begun start) run.turns in
    run.report_is
    ∙ ap (λ r. with_sent (sent_lines items p.journal run.served) r) (report_played start run.turns names)
    ∙ ap (λ j. with_sent (sent_lines items j run.served) (report_of start (items_of run.turns) journal packets)) (journal_played (begun start) run.turns)
    ∙ ap (λ r. with_sent (sent_lines items (map (λ m. m.entry) journal) run.served) (report_of start r journal packets)) run.run.turns_are

-- the report of a run of calls and packets follows their tape, and what sums it up sums up what the tape's report shows
summed : (start : Start) (items : List TapeItem) (report : Report) (text : List ℕ) → AreItems no_item_lanes items → AllByRecursion IsPlain items → IsPlayedReport start items report → text ≡ summary report
    → (follows : IsItemLockstepReport start items (report_text report)) × (text ≡ summary (item_report start items follows.report.filled follows.report.served follows.report.journal follows.report.packets))
summed start items report text stand each run is =
    let journal = made (begun start) run.turns in
    let packets = carried (begun start) run.turns in
    let filled = run.run.filled in
    let same : items_of run.turns ≡ records_of filled = run.run.turns_are in
    let stands : AreItems no_item_lanes (map item_of filled) = subst (AreItems no_item_lanes) (sym run.run.items_are) stand in
    let every : AllByRecursion IsPlain (map item_of filled) = subst (AllByRecursion IsPlain) (sym run.run.items_are) each in
    let names : NameMade no_lanes (items_of run.turns) = subst (NameMade no_lanes) (sym same) (names_filled filled no_item_lanes no_lanes (λ c. omega arith) stands) in
    let shown : report ≡ item_report start items filled run.served journal packets = same_report start items report run names in (
      record {
        report = record {
          filled = filled;
          served = run.served;
          journal = journal;
          packets = packets;
          run = record {
            items_are = run.run.items_are;
            run = subst (λ r. IsRun start r journal packets) same (run_played start run.turns names);
            feeds = run.run.feeds;
            answered = λ lane. left_over lane filled (entries_on lane (map (λ m. m.entry) journal)) (no_feeds filled lane every);
          };
          written = ap report_text shown;
        };
        lockstep = subst (λ r. Lockstep start 0 no_figures r journal packets) same (lockstep_played start (begun start) run.turns refl);
      },
      is ∙ ap summary shown,
    )

-- the summary of a played report of the tape of a number
pub is_summary : (number : ℕ) (report : Report) (text : List ℕ) → number ≤ 64 → IsPlayedReport bare_start (generated number) report → text ≡ summary report → IsSummary number text
is_summary number report text high run is =
    let whole = summed bare_start (generated number) report text (within number high).each (plain number) run is in
    record { full = report_text report; follows = whole.0; text_is = whole.1 }
