-- What holds of runs of tapes with lanes of bytes.
use Rattle.std.specs.Prelude.{◌≡◌, ℕ, false, List, [], ◌∷◌, ◌++◌, map}
use Rattle.std.specs.List.{AllByRecursion, filter_map, list_any}
use Rattle.p4_types.specs.declared.events.Start.{Start}
use Rattle.p4_types.specs.declared.journal.Entry.{Entry}
use Rattle.p4_types.specs.declared.journal.Report.{Report}
use Rattle.p4_types.specs.declared.tape.TapeRecord.{TapeRecord}
use Rattle.p4_types.specs.declared.tape.TapeRecord.TheVariants.{Call, Packet, Leave, Meet}
use Rattle.switch_spec.specs.History.{is_refused_for_memory}
use Rattle.run_spec.specs.Play.{Turn, items_of, played, played_report}
use Rattle.run_spec.specs.Report.{IsReport}
use Rattle.run_spec.specs.ReportText.{report_text}
use Rattle.run_counts.specs.Reading.{FiguresAreBounded}
use Rattle.p4rt_service.specs.Turns.{Served}
use Rattle.tape_spec.specs.declared.item.TapeItem.{TapeItem}
use Rattle.tape_spec.specs.Items.{no_item_lanes, AreItems, is_piece, record_in}
use Rattle.byte_lanes.specs.Filling.{Filled, Kept, Fed, item_of, records_of, feeds_on, greeted, Feeds, sent_lines, IsItemLockstepReport, IsItemFreeReport}

-- the entries of a record's call, if it is one
abbrev pub AreOwn : TapeRecord → List Entry → Type 0
AreOwn (Call lane method message) own = AllByRecursion (λ entry. entry.lane ≡ lane) own
AreOwn (Packet lane port packet) own = own ≡ []
AreOwn (Leave lane) own = AllByRecursion (λ entry. entry.lane ≡ lane) own
AreOwn (Meet lane controller call) own = own ≡ []

-- The entries of a journal are those of what the items came to, in their order: bytes have an entry for each call that they make, on their lane and with its reply.
abbrev pub FollowsOn : List Filled → List Entry → Type 0
FollowsOn [] journal = journal ≡ []
FollowsOn (Kept it ∷ rest) journal = (own later : List Entry) × (journal ≡ own ++ later) × AreOwn it own × FollowsOn rest later
FollowsOn (Fed lane piece asked ∷ rest) journal =
    (own later : List Entry) × (journal ≡ own ++ later) × (map (λ entry. entry.reply) own ≡ map (λ one. one.reply) asked) × AllByRecursion (λ entry. entry.lane ≡ lane) own × FollowsOn rest later

-- a run in one pass of what the items of a tape came to
pub record IsFilledRun (start : Start) (items : List TapeItem) (served : ℕ → Served) (turns : List Turn) : Type 0 where
  pub filled : List Filled
  pub items_are : map item_of filled ≡ items
  pub turns_are : items_of turns ≡ records_of filled
  pub follows : FollowsOn filled (played start turns).journal
  pub feeds : (lane : ℕ) → Feeds (greeted lane) (feeds_on lane filled) (served lane)

-- what the report shows of it
abbrev pub filled_report : Start → List TapeItem → (ℕ → Served) → List Turn → Report
filled_report start items served turns = record (played_report (played start turns)) { sent = sent_lines items (played start turns).journal served }

-- A run in one pass gives the report that follows the tape.
abbrev pub FilledIsReport : Type 0
FilledIsReport = (start : Start) (items : List TapeItem) (served : ℕ → Served) (turns : List Turn) → AreItems no_item_lanes items → IsFilledRun start items served turns
    → IsItemLockstepReport start items (report_text (filled_report start items served turns))

-- The report that follows the tape is one in some interleaving of its lanes, too.
abbrev pub LockstepIsFree : Type 0
LockstepIsFree = (start : Start) (items : List TapeItem) (text : List ℕ) → IsItemLockstepReport start items text → IsItemFreeReport start items text

-- Where no lane brings bytes, a report of a run of the records is one of the tape, with the same journal and packets ..
abbrev pub RecordsAreItems : Type 0
RecordsAreItems = (start : Start) (items : List TapeItem) (text : List ℕ) → list_any is_piece items ≡ false → (report : IsReport start (filter_map record_in items) text) → FiguresAreBounded start report.journal report.records
    → IsItemFreeReport start items text

-- .. and one of the tape is one of a run of its records.
abbrev pub ItemsAreRecords : Type 0
ItemsAreRecords = (start : Start) (items : List TapeItem) (text : List ℕ) → list_any is_piece items ≡ false → IsItemFreeReport start items text
    → (report : IsReport start (filter_map record_in items) text) × FiguresAreBounded start report.journal report.records

-- Where no call is refused for memory the tape determines the report, also where lanes bring bytes.
abbrev pub ItemsDetermineReport : Type 0
ItemsDetermineReport = (start : Start) (items : List TapeItem) (one other : List ℕ) → AreItems no_item_lanes items → (a : IsItemLockstepReport start items one) (b : IsItemLockstepReport start items other)
    → AllByRecursion (λ made. is_refused_for_memory made ≡ false) a.report.journal → AllByRecursion (λ made. is_refused_for_memory made ≡ false) b.report.journal → one ≡ other
