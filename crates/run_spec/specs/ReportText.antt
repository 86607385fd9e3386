-- The text of a report, line by line (this project's profile).
use Rattle.std.specs.Prelude.{ℕ, ◌+◌, ◌==◌, Bool, false, List, [], ◌∷◌, ◌++◌, length, map, filter, sum_by, codes}
use Rattle.std.specs.List.{flat_map}
use Rattle.std.specs.Fmt.{decimal}
use Rattle.p4_types.specs.CodeNumber.{code_number}
use Rattle.p4_types.specs.declared.calls.Notice.{Notice}
use Rattle.p4_types.specs.declared.journal.StepKind.{StepKind}
use Rattle.p4_types.specs.declared.journal.StepKind.TheVariants as kinds
use Rattle.p4_types.specs.declared.journal.Step.{Step}
use Rattle.p4_types.specs.declared.journal.Entry.{Entry}
use Rattle.p4_types.specs.declared.journal.CountLine.{CountLine}
use Rattle.p4_types.specs.declared.journal.CellLine.{CellLine}
use Rattle.p4_types.specs.declared.journal.Report.{Report}
use Rattle.p4_types.specs.declared.messages.StreamMessageResponse.{StreamMessageResponse}
use Rattle.p4_types.specs.declared.messages.PacketIn.{PacketIn}
use Rattle.p4_types.specs.declared.messages.P4Data.{P4Data}
use Rattle.p4_types.specs.declared.records.CpuMessage.{CpuMessage}
use Rattle.p4_types.specs.declared.records.DropReason.{DropReason}
use Rattle.p4_types.specs.declared.records.DropReason.TheVariants as reasons
use Rattle.p4_types.specs.declared.records.Fate.{Fate}
use Rattle.p4_types.specs.declared.records.Fate.TheVariants as fates
use Rattle.p4_types.specs.declared.records.HitMark.{HitMark}
use Rattle.p4_types.specs.declared.records.HitMark.TheVariants as marks
use Rattle.p4_types.specs.declared.records.Output.{Output}
use Rattle.p4_types.specs.declared.records.Record.{Record}
use Rattle.p4_types.specs.declared.records.Sample.{Sample}
use Rattle.p4_types.specs.declared.tape.Who.{Who}
use Rattle.p4_types.specs.declared.tape.Who.TheVariants as who
use Rattle.p4v1_wire.specs.Rows.{fields_by}
use Rattle.p4v1_wire.specs.StreamRows.{packet_in_rows, p4data_rows, stream_rows}
use Rattle.wire_fields.specs.Spelling.{spelling}
use Rattle.switch_spec.specs.Carrying.{records_of}
use Rattle.run_spec.specs.Text.{hex_word, pair_word, list_word, option_word, line, count_up}

-- the kind of a step
abbrev pub kind_word : StepKind → List ℕ
kind_word kinds.Arbitrate = codes "arbitrate"
kind_word kinds.Leave = codes "leave"
kind_word kinds.Change = codes "change"
kind_word kinds.Batch = codes "batch"
kind_word kinds.Save = codes "save"
kind_word kinds.Commit = codes "commit"

-- the step of number i, of a lane's call
abbrev pub step_line : ℕ → ℕ → ℕ → Step → List ℕ
step_line i lane call step = line (codes "step" ∷ decimal i ∷ decimal lane ∷ decimal call ∷ kind_word step.kind ∷ decimal step.changes ∷ [])

-- the steps after the first i
abbrev pub step_lines : ℕ → ℕ → ℕ → List Step → List ℕ
step_lines i lane call [] = []
step_lines i lane call (step ∷ steps) = step_line (i + 1) lane call step ++ step_lines (i + 1) lane call steps

-- the bytes of a message to a controller
abbrev pub response_bytes : StreamMessageResponse → List ℕ
response_bytes message = spelling (fields_by stream_rows message)

-- a notice: the lane that is told, and the message
abbrev pub notice_line : Notice → List ℕ
notice_line notice = line (codes "notice" ∷ decimal notice.lane ∷ hex_word (response_bytes notice.message) ∷ [])

-- the reply to a lane's call: the steps through it, its code and its messages
abbrev pub reply_line : Entry → List ℕ
reply_line entry = line (codes "reply" ∷ decimal entry.lane ∷ decimal entry.call ∷ decimal entry.reply.steps
    ∷ decimal (code_number entry.reply.code) ∷ list_word hex_word entry.reply.messages ∷ [])

-- a call whose first step comes after i steps
abbrev pub entry_lines : ℕ → Entry → List ℕ
entry_lines i entry = step_lines i entry.lane entry.call entry.steps ++ (flat_map notice_line entry.reply.notices ++ reply_line entry)

-- the calls after i steps
abbrev pub journal_lines : ℕ → List Entry → List ℕ
journal_lines i [] = []
journal_lines i (entry ∷ entries) = entry_lines i entry ++ journal_lines (i + length entry.steps) entries

-- a controller's lane or a worker's, by its letter and its number
abbrev pub who_word : Who → List ℕ
who_word (who.Controller lane) = codes "c" ++ decimal lane
who_word (who.Worker lane) = codes "w" ++ decimal lane

-- the number of a reason for which a packet was dropped
abbrev pub reason_number : DropReason → ℕ
reason_number reasons.ByPipeline = 1
reason_number reasons.WithoutPipeline = 2
reason_number reasons.TooLong = 3
reason_number reasons.TooShortForController = 4

-- the fate of a packet: sent, or dropped and the reason
abbrev pub fate_word : Fate → List ℕ
fate_word fates.Sent = codes "sent"
fate_word (fates.Dropped reason) = codes "drop" ++ decimal (reason_number reason)

-- what leaves at a port
abbrev pub output_word : Output → List ℕ
output_word output = pair_word (decimal output.port) (hex_word output.bytes)

-- the bytes of a PacketIn
abbrev pub packet_in_bytes : PacketIn → List ℕ
packet_in_bytes packet = spelling (fields_by packet_in_rows packet)

-- a packet to a controller's lane, or to none
abbrev pub cpu_word : CpuMessage → List ℕ
cpu_word message = pair_word (option_word decimal message.lane) (hex_word (packet_in_bytes message.packet))

-- the bytes of a digest's data
abbrev pub p4data_bytes : P4Data → List ℕ
p4data_bytes content = spelling (fields_by p4data_rows content)

-- what a packet gives to a digest
abbrev pub sample_word : Sample → List ℕ
sample_word sample = pair_word (decimal sample.digest) (hex_word (p4data_bytes sample.content))

-- what a packet hit: a table's entry by its sequence number, or a counter's cell by its slot
abbrev pub mark_word : HitMark → List ℕ
mark_word (marks.Entry table seq slot) = pair_word (decimal table) (decimal seq)
mark_word (marks.Cell slot) = codes "@" ++ decimal slot

-- a packet: its lane and number, the steps before it, its fate, what it sent and what it hit
abbrev pub packet_line : Record → List ℕ
packet_line r = line (codes "packet" ∷ who_word r.who ∷ decimal r.index ∷ decimal r.steps ∷ fate_word r.fate ∷ list_word output_word r.outputs
    ∷ list_word cpu_word r.cpu ∷ option_word sample_word r.digest ∷ list_word mark_word r.hits ∷ [])

-- the workers' lanes, then the controllers'
abbrev pub lanes : List Who
lanes = map who.Worker (count_up 0 16) ++ map who.Controller (count_up 0 32)

-- lane by lane
abbrev pub packet_lines : List Record → List ℕ
packet_lines records = flat_map (λ lane. flat_map packet_line (records_of lane records)) lanes

-- the bytes sent on a lane of a transport
abbrev pub sent_line : ℕ × List ℕ → List ℕ
sent_line x = line (codes "sent" ∷ decimal x.0 ∷ hex_word x.1 ∷ [])

-- the packets and bytes that an entry of a table with a direct counter has counted
abbrev pub count_line : CountLine → List ℕ
count_line c = line (codes "count" ∷ decimal c.seq ∷ decimal c.table ∷ decimal c.packets ∷ decimal c.bytes ∷ [])

-- the packets and bytes that a cell of an indirect counter has counted
abbrev pub cell_line : CellLine → List ℕ
cell_line c = line (codes "cell" ∷ decimal c.slot ∷ decimal c.counter ∷ decimal c.index ∷ decimal c.packets ∷ decimal c.bytes ∷ [])

-- the last line: how many steps, and how many packets
abbrev pub end_line : Report → List ℕ
end_line r = line (codes "end" ∷ decimal (sum_by (λ entry. length entry.steps) r.journal) ∷ decimal (length r.records) ∷ [])

-- the text of a report: the calls, the bytes sent, the packets, the counts, and the last line
abbrev pub report_text : Report → List ℕ
report_text r = journal_lines 0 r.journal ++ (flat_map sent_line r.sent ++ (packet_lines r.records
    ++ (flat_map count_line r.counts ++ (flat_map cell_line r.cells ++ end_line r))))
