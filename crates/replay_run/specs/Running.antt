-- What the report of a run says (this project's profile).
use Rattle.std.specs.Prelude.{◌≡◌, List}
use Rattle.p4_types.specs.declared.events.Start.{Start}
use Rattle.p4_types.specs.declared.journal.Report.{Report}
use Rattle.p4_types.specs.declared.tape.TapeRecord.{TapeRecord}
use Rattle.run_counts.specs.Reading.{FiguresAreBounded}
use Rattle.run_spec.specs.Report.{IsRun, report_of}
use Rattle.switch_spec.specs.Counts.{Carried}
use Rattle.switch_spec.specs.History.{Made}

-- The report is that of a run of the tape, in some interleaving of its lanes, whose Reads saw what they could of the counters.
pub record IsRunReport (start : Start) (tape : List TapeRecord) (report : Report) : Type 0 where
  pub journal : List Made
  pub records : List Carried
  pub run : IsRun start tape journal records
  pub read : FiguresAreBounded start journal records
  pub report_is : report ≡ report_of start tape journal records
