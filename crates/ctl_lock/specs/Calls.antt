-- Calls that were made.
use Rattle.std.specs.Prelude.{List, map}
use Rattle.ctl_lock.specs.declared.signed.Signed.{Signed}
use Rattle.snap_worker.specs.Sums.{figures_in}
use Rattle.switch_spec.specs.History.{Made}

-- the call of a journal that was signed
abbrev pub made_of : Signed → Made
made_of signed = record { call = signed.call; figures = figures_in signed.figures; entry = signed.entry }

-- the journal of calls that were signed
abbrev pub journal_of : List Signed → List Made
journal_of list = map made_of list
