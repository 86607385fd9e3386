-- What the commands ask for (this project's profile).
use Rattle.std.specs.Prelude.{◌≡◌, ◌≤◌, Option, Some, None}
use Rattle.command_words.specs.declared.words.Command.{Command}
use Rattle.command_words.specs.declared.words.Command.TheVariants as commands
use Rattle.p4switch_run.specs.declared.words.Job.{Job}
use Rattle.p4switch_run.specs.declared.words.Job.TheVariants as jobs

-- what a command asks for, if there is one
abbrev pub job_for : Option Command → Option Job
job_for (Some (commands.Replay mode start)) = Some (jobs.Replay mode start)
job_for (Some commands.Check) = Some jobs.Check
job_for (Some (commands.Serve port packets workers start)) = Some (jobs.Serve (record { port = port; packets = packets; workers = workers; start = start }))
job_for (Some (commands.Gen number)) = Some (jobs.Gen number)
job_for None = None

-- the switch that a job starts has 1,048,576 slots of counters
abbrev pub HasSlots : Option Job → Type 0
HasSlots (Some (jobs.Replay mode start)) = start.slots ≡ 1048576
HasSlots (Some (jobs.Serve serving)) = serving.start.slots ≡ 1048576
HasSlots _ = Unit {0}

-- the number of a made tape is 1 to 64
abbrev pub HasNumber : Option Job → Type 0
HasNumber (Some (jobs.Gen number)) = (1 ≤ number) × (number ≤ 64)
HasNumber _ = Unit {0}
