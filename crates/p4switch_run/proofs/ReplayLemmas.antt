-- What a replay that wrote its report says.
use Rattle.std.proofs.Common.{◌≡◌, ℕ, false, List, refl, ap, ◌∙◌, sym, subst}
use Rattle.std.specs.List.{filter_map, list_any}
use Rattle.list_types.specs.declared.memory.Refusal.{Refusal}
use Rattle.list_types.specs.declared.memory.Refusal.TheVariants as refusals
use Rattle.p4_types.specs.declared.events.Start.{Start}
use Rattle.p4_types.specs.declared.journal.Report.{Report}
use Rattle.replay_run.specs.Running.{IsRunReport}
use Rattle.run_spec.specs.ReportText.{report_text}
use Rattle.tape_spec.specs.declared.item.TapeItem.{TapeItem}
use Rattle.tape_spec.specs.Items.{no_item_lanes, AreItems, is_piece, record_in}
use Rattle.byte_lanes.specs.Filling.{IsItemLockstepReport, IsItemFreeReport}
use Rattle.byte_lanes.proofs.Records.{records_are_items}
use Rattle.byte_lanes.proofs.Reports.{filled_is_report}
use Rattle.lockstep_run.specs.Playing.{IsPlayedReport}
use Rattle.tape_form.specs.TapeRead.{HidesNothing}
use Rattle.tape_form.specs.declared.fault.TapeFault.{TapeFault}
use Rattle.tape_form.specs.declared.fault.TapeFault.TheVariants as faults
use Rattle.tape_form.proofs.Judging.{bad_at, too_long, fault_rose, unfinished}
use Rattle.sw_edge.specs.Told.{Keeps}
use Rattle.command_words.specs.declared.words.Mode.{Mode}
use Rattle.p4switch_run.specs.Command.{fault_status}
use Rattle.p4switch_run.specs.Replay.{Streams, ReadWith, Answers}

-- a tape that is not read is answered by its fault, and nothing is written
pub not_read : (mode : Mode) (start : Start) (fault : Refusal TapeFault) (old new : Streams) → Keeps old.sent new.sent → new.write_faults ≡ old.write_faults → ReadWith fault old new
    → (fault ≡ refusals.NoMemory → HidesNothing old.left new.left old.read_ends new.read_ends) → Answers mode start (fault_status fault) old new
not_read mode start (refusals.For (faults.Bad place)) old new kept sound read cut = record { kept = kept; sound_sink = sound; «because» = (bad_at old.left new.left old.read_faults new.read_faults place read, read) }
not_read mode start (refusals.For faults.TooLong) old new kept sound read cut = record { kept = kept; sound_sink = sound; «because» = (too_long old.left new.left old.read_faults new.read_faults read, read) }
not_read mode start (refusals.For faults.Fault) old new kept sound read cut = record { kept = kept; sound_sink = sound; «because» = (fault_rose old.left new.left old.read_faults new.read_faults read, read) }
not_read mode start refusals.NoMemory old new kept sound read cut =
    record { kept = kept; sound_sink = sound; «because» = record { unfinished = unfinished old.left new.left old.read_faults new.read_faults read; hides_nothing = cut refl } }

-- the text of a run of a tape's items, one after the other
pub in_order : (start : Start) (items : List TapeItem) (report : Report) (text : List ℕ) → AreItems no_item_lanes items → IsPlayedReport start items report → text ≡ report_text report → IsItemLockstepReport start items text
in_order start items report text stand played is =
    subst (IsItemLockstepReport start items) (sym (is ∙ ap report_text played.report_is)) (filled_is_report start items played.served played.turns stand played.run)

-- the text of a run of its records on threads
pub freely : (start : Start) (items : List TapeItem) (report : Report) (text : List ℕ) → list_any is_piece items ≡ false → IsRunReport start (filter_map record_in items) report → text ≡ report_text report
    → IsItemFreeReport start items text
freely start items report text none run is =
    records_are_items start items text none (record { journal = run.journal; records = run.records; run = run.run; written = is ∙ ap report_text run.report_is }) run.read
