-- What a tape with lanes of bytes comes to in a run, and what it is for a text to be its report (this project's profile).
use Rattle.std.specs.Prelude.{◌≡◌, ℕ, ◌==◌, Bool, false, if◌then◌else◌, List, [], ◌∷◌, ◌++◌, filter, fold, map, Option, Some, None}
use Rattle.std.specs.List.{filter_map, flat_map, list_any}
use Rattle.p4_types.specs.declared.calls.Notice.{Notice}
use Rattle.p4_types.specs.declared.calls.Reply.{Reply}
use Rattle.p4_types.specs.declared.events.Start.{Start}
use Rattle.p4_types.specs.declared.journal.Entry.{Entry}
use Rattle.p4_types.specs.declared.journal.Report.{Report}
use Rattle.p4_types.specs.declared.messages.StreamMessageResponse.{StreamMessageResponse}
use Rattle.p4_types.specs.declared.tape.TapeRecord.{TapeRecord}
use Rattle.switch_spec.specs.Answer.{called}
use Rattle.switch_spec.specs.Counts.{Carried, no_figures}
use Rattle.switch_spec.specs.History.{Made}
use Rattle.switch_spec.specs.declared.calls.LaneCall.{LaneCall}
use Rattle.run_spec.specs.Play.{call_item}
use Rattle.run_spec.specs.Report.{IsRun, Lockstep, report_of}
use Rattle.run_spec.specs.ReportText.{report_text}
use Rattle.run_spec.specs.Text.{count_up}
use Rattle.run_counts.specs.Reading.{FiguresAreBounded}
use Rattle.p4rt_service.specs.Dialogues.{Exchange, Runs}
use Rattle.p4rt_service.specs.Turns.{Served, opened, flushed, untold, piece_served, message_served}
use Rattle.tape_spec.specs.declared.item.TapeItem.{TapeItem}
use Rattle.tape_spec.specs.declared.item.TapeItem.TheVariants.{Record, Bytes}

-- a call that a client's bytes made, as a record of a tape would bring it, and its reply
pub record Asked : Type 0 where
  pub call : LaneCall
  pub reply : Reply

-- what an item comes to in a run: a record is played as it is; bytes make these calls, which are answered so
pub data Filled : Type 0 where
  Kept : TapeRecord → Filled
  Fed : (lane : ℕ) (piece : List ℕ) (asked : List Asked) → Filled

-- the item
abbrev pub item_of : Filled → TapeItem
item_of (Kept it) = Record it
item_of (Fed lane piece asked) = Bytes lane piece

-- the records that are played: each call that bytes make is played as its record would be
abbrev pub records_in : Filled → List TapeRecord
records_in (Kept it) = it ∷ []
records_in (Fed lane piece asked) = map (λ one. call_item lane one.call) asked

-- the records of a whole tape
abbrev pub records_of : List Filled → List TapeRecord
records_of filled = flat_map records_in filled

-- bytes that a lane brings, and the calls that they make
pub record Feed : Type 0 where
  pub piece : List ℕ
  pub asked : List Asked

-- those of one lane
abbrev pub feed_on : ℕ → Filled → Option Feed
feed_on lane (Kept it) = None
feed_on lane (Fed other piece asked) = if lane == other then Some (record { piece = piece; asked = asked }) else None

abbrev pub feeds_on : ℕ → List Filled → List Feed
feeds_on lane filled = filter_map (feed_on lane) filled

-- a call with its reply
abbrev pub exchange_of : Asked → Exchange
exchange_of one = record { call = called one.call; reply = one.reply }

-- The bytes, piece by piece, make just these calls of a link that served before, and leave it so.
abbrev pub Feeds : Served → List Feed → Served → Type 0
Feeds before [] after = after ≡ before
Feeds before (feed ∷ rest) after = (between : Served) × Runs (piece_served feed.piece before) (map exchange_of feed.asked) between × Feeds between rest after

-- a lane of which nothing has come, once the server's SETTINGS are sent
abbrev pub greeted : ℕ → Served
greeted lane = flushed (untold (opened lane))

-- The replies to the calls that a lane's bytes make are those that the journal has for the lane; behind them stands at most its Leave.
pub record AreAnswered (asked : List Asked) (entries : List Entry) : Type 0 where
  pub left : List Reply
  pub replies : map (λ entry. entry.reply) entries ≡ map (λ one. one.reply) asked ++ left

-- the calls that a lane's bytes make
abbrev pub asked_on : ℕ → List Filled → List Asked
asked_on lane filled = flat_map (λ feed. feed.asked) (feeds_on lane filled)

-- the calls of a lane in a journal
abbrev pub entries_on : ℕ → List Entry → List Entry
entries_on lane journal = filter (λ entry. lane == entry.lane) journal

-- the notice's message, if it is to this lane
abbrev pub told : ℕ → Notice → Option StreamMessageResponse
told lane notice = if lane == notice.lane then Some notice.message else None

-- the notices of another lane's call to a lane
abbrev pub told_by : ℕ → Entry → List StreamMessageResponse
told_by lane entry = if lane == entry.lane then [] else filter_map (told lane) entry.reply.notices

-- what a lane is sent: its bytes' answers, and then the notices of other lanes' calls, in the order of the journal
abbrev pub sent_to : ℕ → List Entry → Served → List ℕ
sent_to lane journal served = (fold (λ before message. message_served message before) served (flat_map (told_by lane) journal)).sent

-- whether an item brings bytes of a lane
abbrev pub brings : ℕ → TapeItem → Bool
brings lane (Record it) = false
brings lane (Bytes other bytes) = lane == other

-- what each lane that brings bytes is sent, by rising lane
abbrev pub sent_lines : List TapeItem → List Entry → (ℕ → Served) → List (ℕ × List ℕ)
sent_lines items journal served = filter_map (λ lane. if list_any (brings lane) items then Some (lane, sent_to lane journal (served lane)) else None) (count_up 0 32)

-- The journal and the packets are a run of the tape, in some interleaving of its lanes, whose lanes of bytes make just the calls that their bytes spell beside the replies.
pub record IsItemRun (start : Start) (items : List TapeItem) (filled : List Filled) (served : ℕ → Served) (journal : List Made) (packets : List Carried) : Type 0 where
  pub items_are : map item_of filled ≡ items
  pub run : IsRun start (records_of filled) journal packets
  pub feeds : (lane : ℕ) → Feeds (greeted lane) (feeds_on lane filled) (served lane)
  pub answered : (lane : ℕ) → AreAnswered (asked_on lane filled) (entries_on lane (map (λ made. made.entry) journal))

-- what the report shows of it
abbrev pub item_report : Start → List TapeItem → List Filled → (ℕ → Served) → List Made → List Carried → Report
item_report start items filled served journal packets = record (report_of start (records_of filled) journal packets) { sent = sent_lines items (map (λ made. made.entry) journal) served }

-- The text is the report of a run of the tape.
pub record IsItemReport (start : Start) (items : List TapeItem) (text : List ℕ) : Type 0 where
  pub filled : List Filled
  pub served : ℕ → Served
  pub journal : List Made
  pub packets : List Carried
  pub run : IsItemRun start items filled served journal packets
  pub written : text ≡ report_text (item_report start items filled served journal packets)

-- The text is the report of the run that follows the tape: what bytes make is called where they stand.
pub record IsItemLockstepReport (start : Start) (items : List TapeItem) (text : List ℕ) : Type 0 where
  pub report : IsItemReport start items text
  pub lockstep : Lockstep start 0 no_figures (records_of report.filled) report.journal report.packets

-- The text is the report of a run of the tape, in some interleaving of its lanes, whose Reads saw what they could of the counters.
pub record IsItemFreeReport (start : Start) (items : List TapeItem) (text : List ℕ) : Type 0 where
  pub report : IsItemReport start items text
  pub read : FiguresAreBounded start report.journal report.packets
