-- A tape whose items are records alone is the tape of these records.
use Rattle.std.proofs.Common.{◌≡◌, ℕ, false, if◌then◌else◌, List, [], ◌∷◌, map, Option, Some, None, refl, sym, ap, subst, ◌∙◌}
use Rattle.std.specs.List.{filter_map, flat_map, list_any}
use Rattle.p4_types.specs.declared.events.Start.{Start}
use Rattle.p4_types.specs.declared.journal.Entry.{Entry}
use Rattle.p4_types.specs.declared.journal.Report.{Report}
use Rattle.p4_types.specs.declared.tape.TapeRecord.{TapeRecord}
use Rattle.switch_spec.specs.Counts.{Carried}
use Rattle.switch_spec.specs.History.{Made}
use Rattle.run_spec.specs.Report.{IsRun, IsReport, report_of}
use Rattle.run_spec.specs.ReportText.{report_text}
use Rattle.run_spec.specs.Text.{count_up}
use Rattle.p4rt_service.specs.Turns.{Served}
use Rattle.tape_spec.specs.declared.item.TapeItem.{TapeItem}
use Rattle.tape_spec.specs.declared.item.TapeItem.TheVariants.{Record, Bytes}
use Rattle.tape_spec.specs.Items.{is_piece, record_in}
use Rattle.byte_lanes.specs.Filling.{Filled, Kept, Fed, Asked, item_of, records_of, Feed, feeds_on, asked_on, entries_on, greeted, Feeds, AreAnswered, brings, sent_to, sent_lines}
use Rattle.byte_lanes.specs.Laws.{RecordsAreItems, ItemsAreRecords}

-- what records come to
abbrev kept : List TapeRecord → List Filled
kept records = map Kept records

items_kept : (items : List TapeItem) → list_any is_piece items ≡ false → map item_of (kept (filter_map record_in items)) ≡ items
items_kept [] none = refl
items_kept (Record it ∷ items) none = ap (λ (l : List TapeItem). Record it ∷ l) (items_kept items none)
items_kept (Bytes lane bytes ∷ items) none = absurd cc

records_kept : (records : List TapeRecord) → records_of (kept records) ≡ records
records_kept [] = refl
records_kept (it ∷ records) = ap (λ (l : List TapeRecord). it ∷ l) (records_kept records)

feeds_kept : (lane : ℕ) (records : List TapeRecord) → feeds_on lane (kept records) ≡ []
feeds_kept lane [] = refl
feeds_kept lane (it ∷ records) = feeds_kept lane records

asked_kept : (lane : ℕ) (records : List TapeRecord) → asked_on lane (kept records) ≡ []
asked_kept lane records = ap (λ (l : List Feed). flat_map (λ feed. feed.asked) l) (feeds_kept lane records)

answered_kept : (lane : ℕ) (records : List TapeRecord) (entries : List Entry) → AreAnswered (asked_on lane (kept records)) entries
answered_kept lane records entries =
    subst (λ (l : List Asked). AreAnswered l entries) (sym (asked_kept lane records)) (record { left = map (λ entry. entry.reply) entries; replies = refl })

-- no lane brings bytes
brings_none : (lane : ℕ) (items : List TapeItem) → list_any is_piece items ≡ false → list_any (brings lane) items ≡ false
brings_none lane [] none = refl
brings_none lane (Record it ∷ items) none = brings_none lane items none
brings_none lane (Bytes other bytes ∷ items) none = absurd cc

-- the line of a lane, if it brings bytes
abbrev line_for : List TapeItem → List Entry → (ℕ → Served) → ℕ → Option (ℕ × List ℕ)
line_for items journal served lane = if list_any (brings lane) items then Some (lane, sent_to lane journal (served lane)) else None

no_line : (items : List TapeItem) (journal : List Entry) (served : ℕ → Served) (lane : ℕ) → list_any is_piece items ≡ false → line_for items journal served lane ≡ None
no_line items journal served lane none = rw (brings_none lane items none) refl

lines_none : (items : List TapeItem) (journal : List Entry) (served : ℕ → Served) (lanes : List ℕ) → list_any is_piece items ≡ false → filter_map (line_for items journal served) lanes ≡ []
lines_none items journal served [] none = refl
lines_none items journal served (lane ∷ lanes) none = rw (no_line items journal served lane none) (lines_none items journal served lanes none)

sent_none : (items : List TapeItem) (journal : List Entry) (served : ℕ → Served) → list_any is_piece items ≡ false → sent_lines items journal served ≡ []
sent_none items journal served none = lines_none items journal served (count_up 0 32) none

abbrev with_sent : Report → List (ℕ × List ℕ) → Report
with_sent report sent = record report { sent = sent }

-- the report of the records is that of the items
same_text : (start : Start) (items : List TapeItem) (served : ℕ → Served) (records other : List TapeRecord) (journal : List Made) (packets : List Carried) → list_any is_piece items ≡ false → records ≡ other
    → report_text (with_sent (report_of start records journal packets) (sent_lines items (map (λ made. made.entry) journal) served)) ≡ report_text (report_of start other journal packets)
same_text start items served records other journal packets none is =
    ap (λ (sent : List (ℕ × List ℕ)). report_text (with_sent (report_of start records journal packets) sent)) (sent_none items (map (λ made. made.entry) journal) served none)
    ∙ ap (λ (r : List TapeRecord). report_text (report_of start r journal packets)) is

pub records_are_items : RecordsAreItems
records_are_items start items text none report bounded =
    let records = filter_map record_in items in
    record {
      report = record {
        filled = kept records;
        served = greeted;
        journal = report.journal;
        packets = report.records;
        run = record {
          items_are = items_kept items none;
          run = subst (λ (r : List TapeRecord). IsRun start r report.journal report.records) (sym (records_kept records)) report.run;
          feeds = λ lane. subst (λ (l : List Feed). Feeds (greeted lane) l (greeted lane)) (sym (feeds_kept lane records)) refl;
          answered = λ lane. answered_kept lane records (entries_on lane (map (λ made. made.entry) report.journal));
        };
        written = report.written ∙ sym (same_text start items greeted (records_of (kept records)) records report.journal report.records none (records_kept records));
      };
      read = bounded;
    }

-- what items that are records come to
records_filled : (filled : List Filled) → list_any is_piece (map item_of filled) ≡ false → records_of filled ≡ filter_map record_in (map item_of filled)
records_filled [] none = refl
records_filled (Kept it ∷ filled) none = ap (λ (l : List TapeRecord). it ∷ l) (records_filled filled none)
records_filled (Fed lane piece asked ∷ filled) none = absurd cc

records_in_items : (filled : List Filled) (items : List TapeItem) → map item_of filled ≡ items → list_any is_piece items ≡ false → records_of filled ≡ filter_map record_in items
records_in_items filled items is none =
    subst (λ (l : List TapeItem). records_of filled ≡ filter_map record_in l) is (records_filled filled (subst (λ (l : List TapeItem). list_any is_piece l ≡ false) (sym is) none))

pub items_are_records : ItemsAreRecords
items_are_records start items text none free =
    let r = free.report in
    let same = records_in_items r.filled items r.run.items_are none in
    let report : IsReport start (filter_map record_in items) text = record {
      journal = r.journal;
      records = r.packets;
      run = subst (λ (l : List TapeRecord). IsRun start l r.journal r.packets) same r.run.run;
      written = r.written ∙ same_text start items r.served (records_of r.filled) (filter_map record_in items) r.journal r.packets none same;
    } in
    (report, free.read)
