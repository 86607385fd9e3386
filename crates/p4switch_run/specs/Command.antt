-- What the words of the command line ask for, and the lines on standard error (this project's profile).
use Rattle.std.specs.Prelude.{◌≡◌, ℕ, List, [], ◌++◌, Some, codes}
use Rattle.std.specs.Fmt.{decimal}
use Rattle.list_types.specs.declared.memory.Refusal.{Refusal}
use Rattle.list_types.specs.declared.memory.Refusal.TheVariants as refusals
use Rattle.p4_types.specs.declared.events.Start.{Start}
use Rattle.tape_form.specs.declared.fault.TapeFault.{TapeFault}
use Rattle.tape_form.specs.declared.fault.TapeFault.TheVariants as faults
use Rattle.p4switch_run.specs.declared.status.Status.{Status}
use Rattle.p4switch_run.specs.declared.status.Status.TheVariants as statuses
use Rattle.p4switch_run.specs.declared.words.Job.{Job}
use Rattle.p4switch_run.specs.declared.words.Job.TheVariants as jobs
use Rattle.command_words.specs.declared.words.Mode.{Mode}
use Rattle.command_words.specs.Words.{command_of}
use Rattle.p4switch_run.specs.Words.{job_for}
use Rattle.serve_run.specs.declared.ending.ServeEnd.{ServeEnd}
use Rattle.serve_run.specs.declared.ending.ServeEnd.TheVariants as ends
use Rattle.serve_run.specs.declared.opening.Serving.{Serving}

-- the words, behind the program's name, ask for a replay in this mode that starts so
abbrev pub IsReplay : Mode → Start → List (List ℕ) → Type 0
IsReplay mode start words = job_for (command_of words) ≡ Some (jobs.Replay mode start)

-- the words ask for the check of a configuration
abbrev pub IsCheck : List (List ℕ) → Type 0
IsCheck words = job_for (command_of words) ≡ Some jobs.Check

-- the words ask for serving
abbrev pub IsServe : List (List ℕ) → Type 0
IsServe words = (serving : Serving) × (job_for (command_of words) ≡ Some (jobs.Serve serving))

-- the words ask for the run of the tape of a number
abbrev pub IsGen : ℕ → List (List ℕ) → Type 0
IsGen number words = job_for (command_of words) ≡ Some (jobs.Gen number)

-- the words are a command
abbrev pub IsCommand : List (List ℕ) → Type 0
IsCommand words = (job : Job) × (job_for (command_of words) ≡ Some job)

-- the exit status
abbrev pub status_number : Status → ℕ
status_number statuses.Done = 0
status_number (statuses.NotATape place) = 1
status_number statuses.WordsRefused = 2
status_number statuses.NoMemory = 3
status_number statuses.ReadFault = 4
status_number statuses.WriteFault = 5
status_number statuses.TooLong = 6
status_number statuses.NetFault = 7
status_number statuses.Refused = 8

-- how a run ends whose tape was not read
abbrev pub fault_status : Refusal TapeFault → Status
fault_status (refusals.For (faults.Bad place)) = statuses.NotATape place
fault_status (refusals.For faults.TooLong) = statuses.TooLong
fault_status (refusals.For faults.Fault) = statuses.ReadFault
fault_status refusals.NoMemory = statuses.NoMemory

-- how a run ends that served
abbrev pub end_status : ServeEnd → Status
end_status ends.Ended = statuses.Done
end_status ends.Fault = statuses.NetFault
end_status ends.Memory = statuses.NoMemory

-- what is said of it, if anything
abbrev pub status_line : Status → List ℕ
status_line statuses.Done = []
status_line (statuses.NotATape place) = codes "p4switch: not a tape after " ++ (decimal place ++ codes " bytes\n")
status_line statuses.WordsRefused = codes "p4switch: words refused\n"
status_line statuses.NoMemory = codes "p4switch: no memory\n"
status_line statuses.ReadFault = codes "p4switch: read fault\n"
status_line statuses.WriteFault = codes "p4switch: write fault\n"
status_line statuses.TooLong = codes "p4switch: tape too long\n"
status_line statuses.NetFault = codes "p4switch: net fault\n"
status_line statuses.Refused = []
