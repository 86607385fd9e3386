-- What the exit status of a run says, from what its job says of its answer.
use Rattle.std.proofs.Common.{◌≡◌, ◌≢◌, ℕ, ◌<◌, ◌≤◌, List, [], length, Option, None, Some, refl, ap, ◌∙◌, sym, subst, ◌⊎◌, inl, inr, arith}
use Rattle.list_types.specs.declared.memory.Refusal.TheVariants as refusals
use Rattle.sw_edge.specs.Counts.{HasCause, Rose}
use Rattle.sw_edge.specs.Told.{Consumes, Keeps}
use Rattle.p4_types.specs.declared.events.Start.{Start}
use Rattle.tape_form.specs.TapeRead.{EndsWithin, IsTooLong, IsUnfinished, HidesNothing}
use Rattle.tape_form.specs.declared.fault.Ended.TheVariants.{AtFault, AtLimit}
use Rattle.tape_form.specs.declared.fault.TapeFault.TheVariants as faults
use Rattle.tape_form.specs.declared.limits.TheConstants.{MAX_TAPE}
use Rattle.p4switch_run.specs.declared.status.Status.{Status}
use Rattle.p4switch_run.specs.declared.status.Status.TheVariants as statuses
use Rattle.p4switch_run.specs.declared.words.Job.{Job}
use Rattle.p4switch_run.specs.declared.words.Job.TheVariants as jobs
use Rattle.command_words.specs.declared.words.Mode.{Mode}
use Rattle.p4switch_run.specs.Command.{IsReplay, IsCheck, IsCommand, IsServe, IsGen, status_number}
use Rattle.p4switch_run.specs.Replay.{Streams, Answers}
use Rattle.p4switch_run.specs.Run.{EndsBy, IsServeStatus, IsUnusedBy, NetBy, ReadsNothing, Reports, Serves, SumsUp, Breaks, Approves, BreaksLine, BreaksSummary, IsUnread, Misreads, Stops, Rejects, Lines, IsTold, NamesPlace, HoldsTape, HoldsBytes}
use Rattle.command_words.specs.Words.{command_of}
use Rattle.p4switch_run.specs.Words.{job_for}
use Rattle.p4switch_run.proofs.Completeness as completeness
use Rattle.p4switch_run.specs.Check.{Checks}
use Rattle.p4switch_run.proofs.LoadEndings.{sums_number, summed, summed_short, unsummed, sound_sums, whole_sums, unread_unfinished}
use Rattle.serve_run.specs.declared.opening.Serving.{Serving}

unlike : (n : ℕ) (status : Status) → status ≡ statuses.WordsRefused → status_number status ≡ n → n ≢ 2 → ⊥
unlike n status is e not = not (sym e ∙ ap status_number is)

serve_number : (status : Status) → IsServeStatus status → (status_number status ≡ 0) ⊎ ((status_number status ≡ 3) ⊎ (status_number status ≡ 7))
serve_number status (inl is) = inl (ap status_number is)
serve_number status (inr (inl is)) = inr (inl (ap status_number is))
serve_number status (inr (inr is)) = inr (inr (ap status_number is))

served_whole : (status : Status) → IsServeStatus status → status_number status ≡ 0 → status ≡ statuses.Done
served_whole status (inl is) e = is
served_whole status (inr (inl is)) e = absurd (omega (arith, sym (ap status_number is) ∙ e))
served_whole status (inr (inr is)) e = absurd (omega (arith, sym (ap status_number is) ∙ e))

pub reports : (o : Option Job) (status : Status) (words : List (List ℕ)) (old new : Streams) (e0 e1 f0 f1 : ℕ) → job_for (command_of words) ≡ o → EndsBy o status old new → NetBy o status e0 e1 f0 f1 → status_number status ≡ 0
    → Reports words old new ⊎ (Approves words old new ⊎ (Serves words e0 e1 ⊎ SumsUp words old new))
reports None status words old new e0 e1 f0 f1 is ends net e = absurd (unlike 0 status ends.0 e (λ x. omega (arith, x)))
reports (Some (jobs.Replay mode start)) statuses.Done words old new e0 e1 f0 f1 is ends net e = inl (record { mode = mode; start = start; command = is; written = ends })
reports (Some (jobs.Replay mode start)) (statuses.NotATape place) words old new e0 e1 f0 f1 is ends net e = absurd (omega (arith, e))
reports (Some (jobs.Replay mode start)) statuses.WordsRefused words old new e0 e1 f0 f1 is ends net e = absurd (omega (arith, e))
reports (Some (jobs.Replay mode start)) statuses.NoMemory words old new e0 e1 f0 f1 is ends net e = absurd (omega (arith, e))
reports (Some (jobs.Replay mode start)) statuses.ReadFault words old new e0 e1 f0 f1 is ends net e = absurd (omega (arith, e))
reports (Some (jobs.Replay mode start)) statuses.WriteFault words old new e0 e1 f0 f1 is ends net e = absurd (omega (arith, e))
reports (Some (jobs.Replay mode start)) statuses.TooLong words old new e0 e1 f0 f1 is ends net e = absurd (omega (arith, e))
reports (Some (jobs.Replay mode start)) statuses.NetFault words old new e0 e1 f0 f1 is ends net e = absurd (omega (arith, e))
reports (Some (jobs.Replay mode start)) statuses.Refused words old new e0 e1 f0 f1 is ends net e = absurd (omega (arith, e))
reports (Some jobs.Check) statuses.Done words old new e0 e1 f0 f1 is ends net e = inr (inl (record { command = is; judged = ends }))
reports (Some jobs.Check) (statuses.NotATape place) words old new e0 e1 f0 f1 is ends net e = absurd (omega (arith, e))
reports (Some jobs.Check) statuses.WordsRefused words old new e0 e1 f0 f1 is ends net e = absurd (omega (arith, e))
reports (Some jobs.Check) statuses.NoMemory words old new e0 e1 f0 f1 is ends net e = absurd (omega (arith, e))
reports (Some jobs.Check) statuses.ReadFault words old new e0 e1 f0 f1 is ends net e = absurd (omega (arith, e))
reports (Some jobs.Check) statuses.WriteFault words old new e0 e1 f0 f1 is ends net e = absurd (omega (arith, e))
reports (Some jobs.Check) statuses.TooLong words old new e0 e1 f0 f1 is ends net e = absurd (omega (arith, e))
reports (Some jobs.Check) statuses.NetFault words old new e0 e1 f0 f1 is ends net e = absurd (omega (arith, e))
reports (Some jobs.Check) statuses.Refused words old new e0 e1 f0 f1 is ends net e = absurd (omega (arith, e))
reports (Some (jobs.Gen number)) status words old new e0 e1 f0 f1 is ends net e = inr (inr (inr (record { number = number; command = is; summed = summed number status old.sent new.sent old.write_faults new.write_faults ends.0 e })))
reports (Some (jobs.Serve serving)) status words old new e0 e1 f0 f1 is ends net e = inr (inr (inl (record { command = (serving, is); ended = net.ended.cause (served_whole status ends.0 e) })))

none_of : (o : Option (List ℕ)) → Consumes o o []
none_of None = tt
none_of (Some xs) = refl

pub none_taken : (o : Option (List ℕ)) (faults : ℕ) → IsUnfinished o o faults faults
none_taken o faults = record { taken = []; consumed = none_of o; within = omega arith; sound = refl }

pub no_memory : (o : Option Job) (status : Status) (old new : Streams) → EndsBy o status old new → status_number status ≡ 3 → IsUnfinished old.left new.left old.read_faults new.read_faults
no_memory None status old new ends e = absurd (unlike 3 status ends.0 e (λ x. omega (arith, x)))
no_memory (Some (jobs.Replay mode start)) statuses.Done old new ends e = absurd (omega (arith, e))
no_memory (Some (jobs.Replay mode start)) (statuses.NotATape place) old new ends e = absurd (omega (arith, e))
no_memory (Some (jobs.Replay mode start)) statuses.WordsRefused old new ends e = absurd (omega (arith, e))
no_memory (Some (jobs.Replay mode start)) statuses.NoMemory old new ends e = ends.«because».unfinished
no_memory (Some (jobs.Replay mode start)) statuses.ReadFault old new ends e = absurd (omega (arith, e))
no_memory (Some (jobs.Replay mode start)) statuses.WriteFault old new ends e = absurd (omega (arith, e))
no_memory (Some (jobs.Replay mode start)) statuses.TooLong old new ends e = absurd (omega (arith, e))
no_memory (Some (jobs.Replay mode start)) statuses.NetFault old new ends e = absurd (omega (arith, e))
no_memory (Some (jobs.Replay mode start)) statuses.Refused old new ends e = absurd (omega (arith, e))
no_memory (Some jobs.Check) statuses.Done old new ends e = absurd (omega (arith, e))
no_memory (Some jobs.Check) (statuses.NotATape place) old new ends e = absurd (omega (arith, e))
no_memory (Some jobs.Check) statuses.WordsRefused old new ends e = absurd (omega (arith, e))
no_memory (Some jobs.Check) statuses.NoMemory old new ends e = ends.«because»
no_memory (Some jobs.Check) statuses.ReadFault old new ends e = absurd (omega (arith, e))
no_memory (Some jobs.Check) statuses.WriteFault old new ends e = absurd (omega (arith, e))
no_memory (Some jobs.Check) statuses.TooLong old new ends e = absurd (omega (arith, e))
no_memory (Some jobs.Check) statuses.NetFault old new ends e = absurd (omega (arith, e))
no_memory (Some jobs.Check) statuses.Refused old new ends e = absurd (omega (arith, e))
no_memory (Some (jobs.Gen number)) status old new ends e = unread_unfinished old new ends.1
no_memory (Some (jobs.Serve serving)) status old new ends e = let P : Streams → Type 0 = λ x. IsUnfinished old.left x.left old.read_faults x.read_faults in subst P (sym ends.1) (none_taken old.left old.read_faults)

pub hides_nothing : (o : Option Job) (status : Status) (words : List (List ℕ)) (old new : Streams) → job_for (command_of words) ≡ o → EndsBy o status old new → status_number status ≡ 3
    → IsCheck words ⊎ HidesNothing old.left new.left old.read_ends new.read_ends
hides_nothing None status words old new is ends e = absurd (unlike 3 status ends.0 e (λ x. omega (arith, x)))
hides_nothing (Some (jobs.Replay mode start)) statuses.Done words old new is ends e = absurd (omega (arith, e))
hides_nothing (Some (jobs.Replay mode start)) (statuses.NotATape place) words old new is ends e = absurd (omega (arith, e))
hides_nothing (Some (jobs.Replay mode start)) statuses.WordsRefused words old new is ends e = absurd (omega (arith, e))
hides_nothing (Some (jobs.Replay mode start)) statuses.NoMemory words old new is ends e = inr ends.«because».hides_nothing
hides_nothing (Some (jobs.Replay mode start)) statuses.ReadFault words old new is ends e = absurd (omega (arith, e))
hides_nothing (Some (jobs.Replay mode start)) statuses.WriteFault words old new is ends e = absurd (omega (arith, e))
hides_nothing (Some (jobs.Replay mode start)) statuses.TooLong words old new is ends e = absurd (omega (arith, e))
hides_nothing (Some (jobs.Replay mode start)) statuses.NetFault words old new is ends e = absurd (omega (arith, e))
hides_nothing (Some (jobs.Replay mode start)) statuses.Refused words old new is ends e = absurd (omega (arith, e))
hides_nothing (Some jobs.Check) statuses.Done words old new is ends e = absurd (omega (arith, e))
hides_nothing (Some jobs.Check) (statuses.NotATape place) words old new is ends e = absurd (omega (arith, e))
hides_nothing (Some jobs.Check) statuses.WordsRefused words old new is ends e = absurd (omega (arith, e))
hides_nothing (Some jobs.Check) statuses.NoMemory words old new is ends e = inl is
hides_nothing (Some jobs.Check) statuses.ReadFault words old new is ends e = absurd (omega (arith, e))
hides_nothing (Some jobs.Check) statuses.WriteFault words old new is ends e = absurd (omega (arith, e))
hides_nothing (Some jobs.Check) statuses.TooLong words old new is ends e = absurd (omega (arith, e))
hides_nothing (Some jobs.Check) statuses.NetFault words old new is ends e = absurd (omega (arith, e))
hides_nothing (Some jobs.Check) statuses.Refused words old new is ends e = absurd (omega (arith, e))
hides_nothing (Some (jobs.Gen number)) status words old new is ends e = inr (inl ends.1.not_ended)
hides_nothing (Some (jobs.Serve serving)) status words old new is ends e = inr (inl (ap (λ (x : Streams). x.read_ends) ends.1))

pub read_fault : (o : Option Job) (status : Status) (words : List (List ℕ)) (old new : Streams) → job_for (command_of words) ≡ o → EndsBy o status old new → status_number status ≡ 4 → Rose old.read_faults new.read_faults
read_fault None status words old new is ends e = absurd (unlike 4 status ends.0 e (λ x. omega (arith, x)))
read_fault (Some (jobs.Replay mode start)) statuses.Done words old new is ends e = absurd (omega (arith, e))
read_fault (Some (jobs.Replay mode start)) (statuses.NotATape place) words old new is ends e = absurd (omega (arith, e))
read_fault (Some (jobs.Replay mode start)) statuses.WordsRefused words old new is ends e = absurd (omega (arith, e))
read_fault (Some (jobs.Replay mode start)) statuses.NoMemory words old new is ends e = absurd (omega (arith, e))
read_fault (Some (jobs.Replay mode start)) statuses.ReadFault words old new is ends e = ends.«because».0
read_fault (Some (jobs.Replay mode start)) statuses.WriteFault words old new is ends e = absurd (omega (arith, e))
read_fault (Some (jobs.Replay mode start)) statuses.TooLong words old new is ends e = absurd (omega (arith, e))
read_fault (Some (jobs.Replay mode start)) statuses.NetFault words old new is ends e = absurd (omega (arith, e))
read_fault (Some (jobs.Replay mode start)) statuses.Refused words old new is ends e = absurd (omega (arith, e))
read_fault (Some jobs.Check) statuses.Done words old new is ends e = absurd (omega (arith, e))
read_fault (Some jobs.Check) (statuses.NotATape place) words old new is ends e = absurd (omega (arith, e))
read_fault (Some jobs.Check) statuses.WordsRefused words old new is ends e = absurd (omega (arith, e))
read_fault (Some jobs.Check) statuses.NoMemory words old new is ends e = absurd (omega (arith, e))
read_fault (Some jobs.Check) statuses.ReadFault words old new is ends e = ends.«because».so
read_fault (Some jobs.Check) statuses.WriteFault words old new is ends e = absurd (omega (arith, e))
read_fault (Some jobs.Check) statuses.TooLong words old new is ends e = absurd (omega (arith, e))
read_fault (Some jobs.Check) statuses.NetFault words old new is ends e = absurd (omega (arith, e))
read_fault (Some jobs.Check) statuses.Refused words old new is ends e = absurd (omega (arith, e))
read_fault (Some (jobs.Gen number)) status words old new is ends e = absurd (omega (arith, sums_number number status old.sent new.sent old.write_faults new.write_faults ends.0, e))
read_fault (Some (jobs.Serve serving)) status words old new is ends e = absurd (omega (arith, serve_number status ends.0, e))

pub write_fault : (o : Option Job) (status : Status) (words : List (List ℕ)) (old new : Streams) → job_for (command_of words) ≡ o → EndsBy o status old new → status_number status ≡ 5 → Breaks words old new ⊎ (BreaksLine words old new ⊎ BreaksSummary words old new)
write_fault None status words old new is ends e = absurd (unlike 5 status ends.0 e (λ x. omega (arith, x)))
write_fault (Some (jobs.Replay mode start)) statuses.Done words old new is ends e = absurd (omega (arith, e))
write_fault (Some (jobs.Replay mode start)) (statuses.NotATape place) words old new is ends e = absurd (omega (arith, e))
write_fault (Some (jobs.Replay mode start)) statuses.WordsRefused words old new is ends e = absurd (omega (arith, e))
write_fault (Some (jobs.Replay mode start)) statuses.NoMemory words old new is ends e = absurd (omega (arith, e))
write_fault (Some (jobs.Replay mode start)) statuses.ReadFault words old new is ends e = absurd (omega (arith, e))
write_fault (Some (jobs.Replay mode start)) statuses.WriteFault words old new is ends e = inl (record { mode = mode; start = start; command = is; cut = ends })
write_fault (Some (jobs.Replay mode start)) statuses.TooLong words old new is ends e = absurd (omega (arith, e))
write_fault (Some (jobs.Replay mode start)) statuses.NetFault words old new is ends e = absurd (omega (arith, e))
write_fault (Some (jobs.Replay mode start)) statuses.Refused words old new is ends e = absurd (omega (arith, e))
write_fault (Some jobs.Check) statuses.Done words old new is ends e = absurd (omega (arith, e))
write_fault (Some jobs.Check) (statuses.NotATape place) words old new is ends e = absurd (omega (arith, e))
write_fault (Some jobs.Check) statuses.WordsRefused words old new is ends e = absurd (omega (arith, e))
write_fault (Some jobs.Check) statuses.NoMemory words old new is ends e = absurd (omega (arith, e))
write_fault (Some jobs.Check) statuses.ReadFault words old new is ends e = absurd (omega (arith, e))
write_fault (Some jobs.Check) statuses.WriteFault words old new is ends e = inr (inl (record { command = is; short = ends }))
write_fault (Some jobs.Check) statuses.TooLong words old new is ends e = absurd (omega (arith, e))
write_fault (Some jobs.Check) statuses.NetFault words old new is ends e = absurd (omega (arith, e))
write_fault (Some jobs.Check) statuses.Refused words old new is ends e = absurd (omega (arith, e))
write_fault (Some (jobs.Gen number)) status words old new is ends e = inr (inr (record { number = number; command = is; short = summed_short number status old.sent new.sent old.write_faults new.write_faults ends.0 e }))
write_fault (Some (jobs.Serve serving)) status words old new is ends e = absurd (omega (arith, serve_number status ends.0, e))

past_limit : (taken : List ℕ) → EndsWithin AtLimit taken → MAX_TAPE < length taken
past_limit taken within = omega (arith, within)

pub too_long : (o : Option Job) (status : Status) (words : List (List ℕ)) (old new : Streams) → job_for (command_of words) ≡ o → EndsBy o status old new → status_number status ≡ 6 → IsTooLong old.left new.left
too_long None status words old new is ends e = absurd (unlike 6 status ends.0 e (λ x. omega (arith, x)))
too_long (Some (jobs.Replay mode start)) statuses.Done words old new is ends e = absurd (omega (arith, e))
too_long (Some (jobs.Replay mode start)) (statuses.NotATape place) words old new is ends e = absurd (omega (arith, e))
too_long (Some (jobs.Replay mode start)) statuses.WordsRefused words old new is ends e = absurd (omega (arith, e))
too_long (Some (jobs.Replay mode start)) statuses.NoMemory words old new is ends e = absurd (omega (arith, e))
too_long (Some (jobs.Replay mode start)) statuses.ReadFault words old new is ends e = absurd (omega (arith, e))
too_long (Some (jobs.Replay mode start)) statuses.WriteFault words old new is ends e = absurd (omega (arith, e))
too_long (Some (jobs.Replay mode start)) statuses.TooLong words old new is ends e = ends.«because».0
too_long (Some (jobs.Replay mode start)) statuses.NetFault words old new is ends e = absurd (omega (arith, e))
too_long (Some (jobs.Replay mode start)) statuses.Refused words old new is ends e = absurd (omega (arith, e))
too_long (Some jobs.Check) statuses.Done words old new is ends e = absurd (omega (arith, e))
too_long (Some jobs.Check) (statuses.NotATape place) words old new is ends e = absurd (omega (arith, e))
too_long (Some jobs.Check) statuses.WordsRefused words old new is ends e = absurd (omega (arith, e))
too_long (Some jobs.Check) statuses.NoMemory words old new is ends e = absurd (omega (arith, e))
too_long (Some jobs.Check) statuses.ReadFault words old new is ends e = absurd (omega (arith, e))
too_long (Some jobs.Check) statuses.WriteFault words old new is ends e = absurd (omega (arith, e))
too_long (Some jobs.Check) statuses.TooLong words old new is ends e = record { taken = ends.«because».taken; consumed = ends.«because».consumed; past = inl (past_limit ends.«because».taken ends.«because».within) }
too_long (Some jobs.Check) statuses.NetFault words old new is ends e = absurd (omega (arith, e))
too_long (Some jobs.Check) statuses.Refused words old new is ends e = absurd (omega (arith, e))
too_long (Some (jobs.Gen number)) status words old new is ends e = absurd (omega (arith, sums_number number status old.sent new.sent old.write_faults new.write_faults ends.0, e))
too_long (Some (jobs.Serve serving)) status words old new is ends e = absurd (omega (arith, serve_number status ends.0, e))

pub flawed : (o : Option Job) (status : Status) (words : List (List ℕ)) (old new : Streams) → job_for (command_of words) ≡ o → EndsBy o status old new → status_number status ≡ 8 → Rejects words old new
flawed None status words old new is ends e = absurd (unlike 8 status ends.0 e (λ x. omega (arith, x)))
flawed (Some (jobs.Replay mode start)) statuses.Done words old new is ends e = absurd (omega (arith, e))
flawed (Some (jobs.Replay mode start)) (statuses.NotATape place) words old new is ends e = absurd (omega (arith, e))
flawed (Some (jobs.Replay mode start)) statuses.WordsRefused words old new is ends e = absurd (omega (arith, e))
flawed (Some (jobs.Replay mode start)) statuses.NoMemory words old new is ends e = absurd (omega (arith, e))
flawed (Some (jobs.Replay mode start)) statuses.ReadFault words old new is ends e = absurd (omega (arith, e))
flawed (Some (jobs.Replay mode start)) statuses.WriteFault words old new is ends e = absurd (omega (arith, e))
flawed (Some (jobs.Replay mode start)) statuses.TooLong words old new is ends e = absurd (omega (arith, e))
flawed (Some (jobs.Replay mode start)) statuses.NetFault words old new is ends e = absurd (omega (arith, e))
flawed (Some (jobs.Replay mode start)) statuses.Refused words old new is ends e = absurd ends
flawed (Some jobs.Check) statuses.Done words old new is ends e = absurd (omega (arith, e))
flawed (Some jobs.Check) (statuses.NotATape place) words old new is ends e = absurd (omega (arith, e))
flawed (Some jobs.Check) statuses.WordsRefused words old new is ends e = absurd (omega (arith, e))
flawed (Some jobs.Check) statuses.NoMemory words old new is ends e = absurd (omega (arith, e))
flawed (Some jobs.Check) statuses.ReadFault words old new is ends e = absurd (omega (arith, e))
flawed (Some jobs.Check) statuses.WriteFault words old new is ends e = absurd (omega (arith, e))
flawed (Some jobs.Check) statuses.TooLong words old new is ends e = absurd (omega (arith, e))
flawed (Some jobs.Check) statuses.NetFault words old new is ends e = absurd (omega (arith, e))
flawed (Some jobs.Check) statuses.Refused words old new is ends e = record { command = is; refused = ends }
flawed (Some (jobs.Gen number)) status words old new is ends e = absurd (omega (arith, sums_number number status old.sent new.sent old.write_faults new.write_faults ends.0, e))
flawed (Some (jobs.Serve serving)) status words old new is ends e = absurd (omega (arith, serve_number status ends.0, e))

pub not_a_tape : (o : Option Job) (status : Status) (lines : Lines) (old new : Streams) → EndsBy o status old new → IsTold lines status → status_number status ≡ 1 → NamesPlace old.left new.left lines
not_a_tape None status lines old new ends told e = absurd (unlike 1 status ends.0 e (λ x. omega (arith, x)))
not_a_tape (Some (jobs.Replay mode start)) statuses.Done lines old new ends told e = absurd (omega (arith, e))
not_a_tape (Some (jobs.Replay mode start)) (statuses.NotATape place) lines old new ends told e = record { place = place; bad = ends.«because».0; told = told }
not_a_tape (Some (jobs.Replay mode start)) statuses.WordsRefused lines old new ends told e = absurd (omega (arith, e))
not_a_tape (Some (jobs.Replay mode start)) statuses.NoMemory lines old new ends told e = absurd (omega (arith, e))
not_a_tape (Some (jobs.Replay mode start)) statuses.ReadFault lines old new ends told e = absurd (omega (arith, e))
not_a_tape (Some (jobs.Replay mode start)) statuses.WriteFault lines old new ends told e = absurd (omega (arith, e))
not_a_tape (Some (jobs.Replay mode start)) statuses.TooLong lines old new ends told e = absurd (omega (arith, e))
not_a_tape (Some (jobs.Replay mode start)) statuses.NetFault lines old new ends told e = absurd (omega (arith, e))
not_a_tape (Some (jobs.Replay mode start)) statuses.Refused lines old new ends told e = absurd (omega (arith, e))
not_a_tape (Some jobs.Check) statuses.Done lines old new ends told e = absurd (omega (arith, e))
not_a_tape (Some jobs.Check) (statuses.NotATape place) lines old new ends told e = absurd ends
not_a_tape (Some jobs.Check) statuses.WordsRefused lines old new ends told e = absurd (omega (arith, e))
not_a_tape (Some jobs.Check) statuses.NoMemory lines old new ends told e = absurd (omega (arith, e))
not_a_tape (Some jobs.Check) statuses.ReadFault lines old new ends told e = absurd (omega (arith, e))
not_a_tape (Some jobs.Check) statuses.WriteFault lines old new ends told e = absurd (omega (arith, e))
not_a_tape (Some jobs.Check) statuses.TooLong lines old new ends told e = absurd (omega (arith, e))
not_a_tape (Some jobs.Check) statuses.NetFault lines old new ends told e = absurd (omega (arith, e))
not_a_tape (Some jobs.Check) statuses.Refused lines old new ends told e = absurd (omega (arith, e))
not_a_tape (Some (jobs.Gen number)) status lines old new ends told e = absurd (omega (arith, sums_number number status old.sent new.sent old.write_faults new.write_faults ends.0, e))
not_a_tape (Some (jobs.Serve serving)) status lines old new ends told e = absurd (omega (arith, serve_number status ends.0, e))

no_job : (job : Job) → None ≡ Some job → ⊥
no_job job e = cc

pub refused : (o : Option Job) (status : Status) (words : List (List ℕ)) (old new : Streams) → job_for (command_of words) ≡ o → EndsBy o status old new → status_number status ≡ 2 → IsCommand words → ⊥
refused None status words old new is ends e command = no_job command.0 (sym is ∙ command.1)
refused (Some (jobs.Replay mode start)) statuses.Done words old new is ends e command = omega (arith, e)
refused (Some (jobs.Replay mode start)) (statuses.NotATape place) words old new is ends e command = omega (arith, e)
refused (Some (jobs.Replay mode start)) statuses.WordsRefused words old new is ends e command = ends
refused (Some (jobs.Replay mode start)) statuses.NoMemory words old new is ends e command = omega (arith, e)
refused (Some (jobs.Replay mode start)) statuses.ReadFault words old new is ends e command = omega (arith, e)
refused (Some (jobs.Replay mode start)) statuses.WriteFault words old new is ends e command = omega (arith, e)
refused (Some (jobs.Replay mode start)) statuses.TooLong words old new is ends e command = omega (arith, e)
refused (Some (jobs.Replay mode start)) statuses.NetFault words old new is ends e command = omega (arith, e)
refused (Some (jobs.Replay mode start)) statuses.Refused words old new is ends e command = omega (arith, e)
refused (Some jobs.Check) statuses.Done words old new is ends e command = omega (arith, e)
refused (Some jobs.Check) (statuses.NotATape place) words old new is ends e command = omega (arith, e)
refused (Some jobs.Check) statuses.WordsRefused words old new is ends e command = ends
refused (Some jobs.Check) statuses.NoMemory words old new is ends e command = omega (arith, e)
refused (Some jobs.Check) statuses.ReadFault words old new is ends e command = omega (arith, e)
refused (Some jobs.Check) statuses.WriteFault words old new is ends e command = omega (arith, e)
refused (Some jobs.Check) statuses.TooLong words old new is ends e command = omega (arith, e)
refused (Some jobs.Check) statuses.NetFault words old new is ends e command = omega (arith, e)
refused (Some jobs.Check) statuses.Refused words old new is ends e command = omega (arith, e)
refused (Some (jobs.Gen number)) status words old new is ends e command = omega (arith, sums_number number status old.sent new.sent old.write_faults new.write_faults ends.0, e)
refused (Some (jobs.Serve serving)) status words old new is ends e command = omega (arith, serve_number status ends.0, e)

pub untouched : (o : Option Job) (status : Status) (old new : Streams) → EndsBy o status old new → status_number status ≡ 2 → new ≡ old
untouched None status old new ends e = ends.1
untouched (Some (jobs.Replay mode start)) statuses.Done old new ends e = absurd (omega (arith, e))
untouched (Some (jobs.Replay mode start)) (statuses.NotATape place) old new ends e = absurd (omega (arith, e))
untouched (Some (jobs.Replay mode start)) statuses.WordsRefused old new ends e = absurd ends
untouched (Some (jobs.Replay mode start)) statuses.NoMemory old new ends e = absurd (omega (arith, e))
untouched (Some (jobs.Replay mode start)) statuses.ReadFault old new ends e = absurd (omega (arith, e))
untouched (Some (jobs.Replay mode start)) statuses.WriteFault old new ends e = absurd (omega (arith, e))
untouched (Some (jobs.Replay mode start)) statuses.TooLong old new ends e = absurd (omega (arith, e))
untouched (Some (jobs.Replay mode start)) statuses.NetFault old new ends e = absurd (omega (arith, e))
untouched (Some (jobs.Replay mode start)) statuses.Refused old new ends e = absurd (omega (arith, e))
untouched (Some jobs.Check) statuses.Done old new ends e = absurd (omega (arith, e))
untouched (Some jobs.Check) (statuses.NotATape place) old new ends e = absurd (omega (arith, e))
untouched (Some jobs.Check) statuses.WordsRefused old new ends e = absurd ends
untouched (Some jobs.Check) statuses.NoMemory old new ends e = absurd (omega (arith, e))
untouched (Some jobs.Check) statuses.ReadFault old new ends e = absurd (omega (arith, e))
untouched (Some jobs.Check) statuses.WriteFault old new ends e = absurd (omega (arith, e))
untouched (Some jobs.Check) statuses.TooLong old new ends e = absurd (omega (arith, e))
untouched (Some jobs.Check) statuses.NetFault old new ends e = absurd (omega (arith, e))
untouched (Some jobs.Check) statuses.Refused old new ends e = absurd (omega (arith, e))
untouched (Some (jobs.Gen number)) status old new ends e = absurd (omega (arith, sums_number number status old.sent new.sent old.write_faults new.write_faults ends.0, e))
untouched (Some (jobs.Serve serving)) status old new ends e = ends.1

pub command : (o : Option Job) (status : Status) (words : List (List ℕ)) (old new : Streams) → job_for (command_of words) ≡ o → EndsBy o status old new → status_number status ≢ 2 → IsCommand words
command None status words old new is ends not = absurd (not (ap status_number ends.0))
command (Some job) status words old new is ends not = (job, is)

keeps_same : (o : Option (List ℕ)) → Keeps o o
keeps_same None = tt
keeps_same (Some xs) = refl

pub nothing : (o : Option Job) (status : Status) (old new : Streams) → EndsBy o status old new → status_number status ≢ 0 → status_number status ≢ 5 → status_number status ≢ 8 → Keeps old.sent new.sent
nothing None status old new ends a b c = let P : Streams → Type 0 = λ x. Keeps old.sent x.sent in subst P (sym ends.1) (keeps_same old.sent)
nothing (Some (jobs.Replay mode start)) statuses.Done old new ends a b c = absurd (a refl)
nothing (Some (jobs.Replay mode start)) (statuses.NotATape place) old new ends a b c = ends.kept
nothing (Some (jobs.Replay mode start)) statuses.WordsRefused old new ends a b c = absurd ends
nothing (Some (jobs.Replay mode start)) statuses.NoMemory old new ends a b c = ends.kept
nothing (Some (jobs.Replay mode start)) statuses.ReadFault old new ends a b c = ends.kept
nothing (Some (jobs.Replay mode start)) statuses.WriteFault old new ends a b c = absurd (b refl)
nothing (Some (jobs.Replay mode start)) statuses.TooLong old new ends a b c = ends.kept
nothing (Some (jobs.Replay mode start)) statuses.NetFault old new ends a b c = absurd ends
nothing (Some (jobs.Replay mode start)) statuses.Refused old new ends a b c = absurd ends
nothing (Some jobs.Check) statuses.Done old new ends a b c = absurd (a refl)
nothing (Some jobs.Check) (statuses.NotATape place) old new ends a b c = absurd ends
nothing (Some jobs.Check) statuses.WordsRefused old new ends a b c = absurd ends
nothing (Some jobs.Check) statuses.NoMemory old new ends a b c = ends.kept
nothing (Some jobs.Check) statuses.ReadFault old new ends a b c = ends.kept
nothing (Some jobs.Check) statuses.WriteFault old new ends a b c = absurd (b refl)
nothing (Some jobs.Check) statuses.TooLong old new ends a b c = ends.kept
nothing (Some jobs.Check) statuses.NetFault old new ends a b c = absurd ends
nothing (Some jobs.Check) statuses.Refused old new ends a b c = absurd (c refl)
nothing (Some (jobs.Gen number)) status old new ends a b c = unsummed number status old.sent new.sent old.write_faults new.write_faults ends.0 a b
nothing (Some (jobs.Serve serving)) status old new ends a b c = let P : Streams → Type 0 = λ x. Keeps old.sent x.sent in subst P (sym ends.1) (keeps_same old.sent)

-- a status of what was read whole, or not begun to be read
abbrev IsOther : ℕ → Type 0
IsOther n = (n ≢ 1) × ((n ≢ 4) × (n ≢ 6))

not_both : (n : ℕ) → IsUnread n → IsOther n → ⊥
not_both n (inl a) other = other.0 a
not_both n (inr (inl b)) other = other.1.0 b
not_both n (inr (inr c)) other = other.1.1 c

other_number : (n : ℕ) → (n ≡ 0) ⊎ ((n ≡ 2) ⊎ ((n ≡ 3) ⊎ ((n ≡ 5) ⊎ (n ≡ 8)))) → IsOther n
other_number n h = (λ e. omega (arith, h, e), (λ e. omega (arith, h, e), λ e. omega (arith, h, e)))

serve_other : (n : ℕ) → (n ≡ 0) ⊎ ((n ≡ 3) ⊎ (n ≡ 7)) → IsOther n
serve_other n h = (λ e. omega (arith, h, e), (λ e. omega (arith, h, e), λ e. omega (arith, h, e)))

gen_other : (n : ℕ) → (n ≡ 0) ⊎ ((n ≡ 3) ⊎ (n ≡ 5)) → IsOther n
gen_other n h = (λ e. omega (arith, h, e), (λ e. omega (arith, h, e), λ e. omega (arith, h, e)))

pub first : (o : Option Job) (status : Status) (words : List (List ℕ)) (old new : Streams) → job_for (command_of words) ≡ o → EndsBy o status old new → IsUnread (status_number status)
    → Misreads (status_number status) words old new ⊎ Stops (status_number status) words old new
first None status words old new is ends u = absurd (not_both (status_number status) u (other_number (status_number status) (inr (inl (ap status_number ends.0)))))
first (Some (jobs.Replay mode start)) statuses.Done words old new is ends u = absurd (not_both 0 u (other_number 0 (inl refl)))
first (Some (jobs.Replay mode start)) (statuses.NotATape place) words old new is ends u = inl (record { mode = mode; start = start; command = is; fault = (refusals.For (faults.Bad place)); number_is = refl; read = ends.«because».1 })
first (Some (jobs.Replay mode start)) statuses.WordsRefused words old new is ends u = absurd (not_both 2 u (other_number 2 (inr (inl refl))))
first (Some (jobs.Replay mode start)) statuses.NoMemory words old new is ends u = absurd (not_both 3 u (other_number 3 (inr (inr (inl refl)))))
first (Some (jobs.Replay mode start)) statuses.ReadFault words old new is ends u = inl (record { mode = mode; start = start; command = is; fault = (refusals.For faults.Fault); number_is = refl; read = ends.«because».1 })
first (Some (jobs.Replay mode start)) statuses.WriteFault words old new is ends u = absurd (not_both 5 u (other_number 5 (inr (inr (inr (inl refl))))))
first (Some (jobs.Replay mode start)) statuses.TooLong words old new is ends u = inl (record { mode = mode; start = start; command = is; fault = (refusals.For faults.TooLong); number_is = refl; read = ends.«because».1 })
first (Some (jobs.Replay mode start)) statuses.NetFault words old new is ends u = absurd ends
first (Some (jobs.Replay mode start)) statuses.Refused words old new is ends u = absurd (not_both 8 u (other_number 8 (inr (inr (inr (inr refl))))))
first (Some jobs.Check) statuses.Done words old new is ends u = absurd (not_both 0 u (other_number 0 (inl refl)))
first (Some jobs.Check) (statuses.NotATape place) words old new is ends u = absurd ends
first (Some jobs.Check) statuses.WordsRefused words old new is ends u = absurd (not_both 2 u (other_number 2 (inr (inl refl))))
first (Some jobs.Check) statuses.NoMemory words old new is ends u = absurd (not_both 3 u (other_number 3 (inr (inr (inl refl)))))
first (Some jobs.Check) statuses.ReadFault words old new is ends u = inr (record { command = is; ended = AtFault; status = statuses.ReadFault; ended_is = refl; number_is = refl; read = ends.«because» })
first (Some jobs.Check) statuses.WriteFault words old new is ends u = absurd (not_both 5 u (other_number 5 (inr (inr (inr (inl refl))))))
first (Some jobs.Check) statuses.TooLong words old new is ends u = inr (record { command = is; ended = AtLimit; status = statuses.TooLong; ended_is = refl; number_is = refl; read = ends.«because» })
first (Some jobs.Check) statuses.NetFault words old new is ends u = absurd ends
first (Some jobs.Check) statuses.Refused words old new is ends u = absurd (not_both 8 u (other_number 8 (inr (inr (inr (inr refl))))))
first (Some (jobs.Gen number)) status words old new is ends u = absurd (not_both (status_number status) u (gen_other (status_number status) (sums_number number status old.sent new.sent old.write_faults new.write_faults ends.0)))
first (Some (jobs.Serve serving)) status words old new is ends u = absurd (not_both (status_number status) u (serve_other (status_number status) (serve_number status ends.0)))

pub sound_sink : (o : Option Job) (status : Status) (old new : Streams) → EndsBy o status old new → status_number status ≢ 5 → new.write_faults ≡ old.write_faults
sound_sink None status old new ends not = ap (λ (x : Streams). x.write_faults) ends.1
sound_sink (Some (jobs.Replay mode start)) statuses.Done old new ends not = ends.sound_sink
sound_sink (Some (jobs.Replay mode start)) (statuses.NotATape place) old new ends not = ends.sound_sink
sound_sink (Some (jobs.Replay mode start)) statuses.WordsRefused old new ends not = absurd ends
sound_sink (Some (jobs.Replay mode start)) statuses.NoMemory old new ends not = ends.sound_sink
sound_sink (Some (jobs.Replay mode start)) statuses.ReadFault old new ends not = ends.sound_sink
sound_sink (Some (jobs.Replay mode start)) statuses.WriteFault old new ends not = absurd (not refl)
sound_sink (Some (jobs.Replay mode start)) statuses.TooLong old new ends not = ends.sound_sink
sound_sink (Some (jobs.Replay mode start)) statuses.NetFault old new ends not = absurd ends
sound_sink (Some (jobs.Replay mode start)) statuses.Refused old new ends not = absurd ends
sound_sink (Some jobs.Check) statuses.Done old new ends not = ends.sound_sink
sound_sink (Some jobs.Check) (statuses.NotATape place) old new ends not = absurd ends
sound_sink (Some jobs.Check) statuses.WordsRefused old new ends not = absurd ends
sound_sink (Some jobs.Check) statuses.NoMemory old new ends not = ends.sound_sink
sound_sink (Some jobs.Check) statuses.ReadFault old new ends not = ends.sound_sink
sound_sink (Some jobs.Check) statuses.WriteFault old new ends not = absurd (not refl)
sound_sink (Some jobs.Check) statuses.TooLong old new ends not = ends.sound_sink
sound_sink (Some jobs.Check) statuses.NetFault old new ends not = absurd ends
sound_sink (Some jobs.Check) statuses.Refused old new ends not = ends.judged.sound_sink
sound_sink (Some (jobs.Gen number)) status old new ends not = sound_sums number status old.sent new.sent old.write_faults new.write_faults ends.0 not
sound_sink (Some (jobs.Serve serving)) status old new ends not = ap (λ (x : Streams). x.write_faults) ends.1

pub at_most_8 : (status : Status) → status_number status ≤ 8
at_most_8 statuses.Done = omega arith
at_most_8 (statuses.NotATape place) = omega arith
at_most_8 statuses.WordsRefused = omega arith
at_most_8 statuses.NoMemory = omega arith
at_most_8 statuses.ReadFault = omega arith
at_most_8 statuses.WriteFault = omega arith
at_most_8 statuses.TooLong = omega arith
at_most_8 statuses.NetFault = omega arith
at_most_8 statuses.Refused = omega arith

is_net_fault : (status : Status) → status_number status ≡ 7 → status ≡ statuses.NetFault
is_net_fault statuses.Done e = absurd (omega (arith, e))
is_net_fault (statuses.NotATape place) e = absurd (omega (arith, e))
is_net_fault statuses.WordsRefused e = absurd (omega (arith, e))
is_net_fault statuses.NoMemory e = absurd (omega (arith, e))
is_net_fault statuses.ReadFault e = absurd (omega (arith, e))
is_net_fault statuses.WriteFault e = absurd (omega (arith, e))
is_net_fault statuses.TooLong e = absurd (omega (arith, e))
is_net_fault statuses.NetFault e = refl
is_net_fault statuses.Refused e = absurd (omega (arith, e))

pub net_fault : (o : Option Job) (status : Status) (old new : Streams) (e0 e1 f0 f1 : ℕ) → EndsBy o status old new → NetBy o status e0 e1 f0 f1 → status_number status ≡ 7 → Rose f0 f1
net_fault None status old new e0 e1 f0 f1 ends net e = absurd (unlike 7 status ends.0 e (λ x. omega (arith, x)))
net_fault (Some (jobs.Replay mode start)) status old new e0 e1 f0 f1 ends net e = let P : Status → Type 0 = λ x. Answers mode start x old new in absurd (subst P (is_net_fault status e) ends)
net_fault (Some jobs.Check) status old new e0 e1 f0 f1 ends net e = let P : Status → Type 0 = λ x. Checks x old new in absurd (subst P (is_net_fault status e) ends)
net_fault (Some (jobs.Gen number)) status old new e0 e1 f0 f1 ends net e = absurd (omega (arith, sums_number number status old.sent new.sent old.write_faults new.write_faults ends.0, e))
net_fault (Some (jobs.Serve serving)) status old new e0 e1 f0 f1 ends net e = net.failed.cause (is_net_fault status e)

pub sound_net : (o : Option Job) (status : Status) (e0 e1 f0 f1 : ℕ) → NetBy o status e0 e1 f0 f1 → status_number status ≢ 7 → f1 ≡ f0
sound_net None status e0 e1 f0 f1 net not = net.1
sound_net (Some (jobs.Replay mode start)) status e0 e1 f0 f1 net not = net.1
sound_net (Some jobs.Check) status e0 e1 f0 f1 net not = net.1
sound_net (Some (jobs.Gen number)) status e0 e1 f0 f1 net not = net.1
sound_net (Some (jobs.Serve serving)) status e0 e1 f0 f1 net not = net.no_fault (λ is. not (ap status_number is))

pub unended_net : (o : Option Job) (status : Status) (e0 e1 f0 f1 : ℕ) → NetBy o status e0 e1 f0 f1 → status_number status ≢ 0 → e1 ≡ e0
unended_net None status e0 e1 f0 f1 net not = net.0
unended_net (Some (jobs.Replay mode start)) status e0 e1 f0 f1 net not = net.0
unended_net (Some jobs.Check) status e0 e1 f0 f1 net not = net.0
unended_net (Some (jobs.Gen number)) status e0 e1 f0 f1 net not = net.0
unended_net (Some (jobs.Serve serving)) status e0 e1 f0 f1 net not = net.not_ended (λ is. not (ap status_number is))

pub unused : {A : Type 0} (o : Option Job) (words : List (List ℕ)) (old new : A) → job_for (command_of words) ≡ o → IsUnusedBy o old new → (IsServe words → ⊥) → new ≡ old
unused None words old new is same not = same
unused (Some (jobs.Replay mode start)) words old new is same not = same
unused (Some jobs.Check) words old new is same not = same
unused (Some (jobs.Gen number)) words old new is same not = same
unused (Some (jobs.Serve serving)) words old new is same not = absurd (not (serving, is))

replay_no_serve : (mode : Mode) (start : Start) (serving : Serving) → Some (jobs.Replay mode start) ≡ Some (jobs.Serve serving) → ⊥
replay_no_serve mode start serving e = cc

check_no_serve : (serving : Serving) → Some jobs.Check ≡ Some (jobs.Serve serving) → ⊥
check_no_serve serving e = cc

gen_no_serve : (number : ℕ) (serving : Serving) → Some (jobs.Gen number) ≡ Some (jobs.Serve serving) → ⊥
gen_no_serve number serving e = cc

-- serving reads and writes nothing beside its net
pub left_alone : (o : Option Job) (status : Status) (words : List (List ℕ)) (old new : Streams) → job_for (command_of words) ≡ o → EndsBy o status old new → IsServe words → new ≡ old
left_alone None status words old new is ends serves = ends.1
left_alone (Some (jobs.Replay mode start)) status words old new is ends serves = absurd (replay_no_serve mode start serves.0 (sym is ∙ serves.1))
left_alone (Some jobs.Check) status words old new is ends serves = absurd (check_no_serve serves.0 (sym is ∙ serves.1))
left_alone (Some (jobs.Gen number)) status words old new is ends serves = absurd (gen_no_serve number serves.0 (sym is ∙ serves.1))
left_alone (Some (jobs.Serve serving)) status words old new is ends serves = ends.1

whole_or_no_memory : (status : Status) (f0 f1 : ℕ) → IsServeStatus status → HasCause f0 f1 (status ≡ statuses.NetFault) → (Rose f0 f1 → ⊥) → (status_number status ≡ 0) ⊎ (status_number status ≡ 3)
whole_or_no_memory status f0 f1 (inl is) failed sound = inl (ap status_number is)
whole_or_no_memory status f0 f1 (inr (inl is)) failed sound = inr (ap status_number is)
whole_or_no_memory status f0 f1 (inr (inr is)) failed sound = absurd (sound (failed.cause is))

pub served : (o : Option Job) (status : Status) (words : List (List ℕ)) (old new : Streams) (e0 e1 f0 f1 : ℕ) → job_for (command_of words) ≡ o → EndsBy o status old new → NetBy o status e0 e1 f0 f1 → IsServe words
    → (Rose f0 f1 → ⊥) → (status_number status ≡ 0) ⊎ (status_number status ≡ 3)
served None status words old new e0 e1 f0 f1 is ends net serves sound = absurd (no_job (jobs.Serve serves.0) (sym is ∙ serves.1))
served (Some (jobs.Replay mode start)) status words old new e0 e1 f0 f1 is ends net serves sound = absurd (replay_no_serve mode start serves.0 (sym is ∙ serves.1))
served (Some jobs.Check) status words old new e0 e1 f0 f1 is ends net serves sound = absurd (check_no_serve serves.0 (sym is ∙ serves.1))
served (Some (jobs.Gen number)) status words old new e0 e1 f0 f1 is ends net serves sound = absurd (gen_no_serve number serves.0 (sym is ∙ serves.1))
served (Some (jobs.Serve serving)) status words old new e0 e1 f0 f1 is ends net serves sound = whole_or_no_memory status f0 f1 ends.0 net.failed sound

other_job : (mode : Mode) (start : Start) → Some jobs.Check ≡ Some (jobs.Replay mode start) → ⊥
other_job mode start e = cc

gen_no_replay : (number : ℕ) (mode : Mode) (start : Start) → Some (jobs.Gen number) ≡ Some (jobs.Replay mode start) → ⊥
gen_no_replay number mode start e = cc

gen_no_check : (number : ℕ) → Some (jobs.Gen number) ≡ Some jobs.Check → ⊥
gen_no_check number e = cc

pub complete : (o : Option Job) (status : Status) (words : List (List ℕ)) (old new : Streams) → job_for (command_of words) ≡ o → EndsBy o status old new → (mode : Mode) (start : Start) → IsReplay mode start words → HoldsTape old.left
    → (Rose old.read_faults new.read_faults → ⊥) → (Rose old.write_faults new.write_faults → ⊥) → (status_number status ≡ 0) ⊎ (status_number status ≡ 3)
complete None status words old new is ends mode start command holds reads writes = absurd (no_job (jobs.Replay mode start) (sym is ∙ command))
complete (Some (jobs.Replay own other)) status words old new is ends mode start command holds reads writes = completeness.complete status own other old new ends holds reads writes
complete (Some jobs.Check) status words old new is ends mode start command holds reads writes = absurd (other_job mode start (sym is ∙ command))
complete (Some (jobs.Gen number)) status words old new is ends mode start command holds reads writes = absurd (gen_no_replay number mode start (sym is ∙ command))
complete (Some (jobs.Serve serving)) status words old new is ends mode start command holds reads writes = absurd (replay_no_serve mode start serving (sym command ∙ is))

pub judged : (o : Option Job) (status : Status) (words : List (List ℕ)) (old new : Streams) → job_for (command_of words) ≡ o → EndsBy o status old new → IsCheck words → HoldsBytes old.left
    → (Rose old.read_faults new.read_faults → ⊥) → (Rose old.write_faults new.write_faults → ⊥) → (status_number status ≡ 0) ⊎ ((status_number status ≡ 3) ⊎ (status_number status ≡ 8))
judged None status words old new is ends command holds reads writes = absurd (no_job jobs.Check (sym is ∙ command))
judged (Some (jobs.Replay mode start)) status words old new is ends command holds reads writes = absurd (other_job mode start (sym command ∙ is))
judged (Some jobs.Check) status words old new is ends command holds reads writes = completeness.checked status old new ends holds reads writes
judged (Some (jobs.Gen number)) status words old new is ends command holds reads writes = absurd (gen_no_check number (sym is ∙ command))
judged (Some (jobs.Serve serving)) status words old new is ends command holds reads writes = absurd (check_no_serve serving (sym command ∙ is))

-- a made tape is not read
pub unread : (o : Option Job) (status : Status) (words : List (List ℕ)) (old new : Streams) → job_for (command_of words) ≡ o → EndsBy o status old new → (number : ℕ) → IsGen number words → ReadsNothing old new
unread None status words old new is ends number command = absurd (no_job (jobs.Gen number) (sym is ∙ command))
unread (Some (jobs.Replay mode start)) status words old new is ends number command = absurd (gen_no_replay number mode start (sym command ∙ is))
unread (Some jobs.Check) status words old new is ends number command = absurd (gen_no_check number (sym command ∙ is))
unread (Some (jobs.Gen own)) status words old new is ends number command = ends.1
unread (Some (jobs.Serve serving)) status words old new is ends number command = absurd (gen_no_serve number serving (sym command ∙ is))

pub gen_summed : (o : Option Job) (status : Status) (words : List (List ℕ)) (old new : Streams) → job_for (command_of words) ≡ o → EndsBy o status old new → (number : ℕ) → IsGen number words
    → (status_number status ≡ 0) ⊎ ((status_number status ≡ 3) ⊎ ((status_number status ≡ 5) × Rose old.write_faults new.write_faults))
gen_summed None status words old new is ends number command = absurd (no_job (jobs.Gen number) (sym is ∙ command))
gen_summed (Some (jobs.Replay mode start)) status words old new is ends number command = absurd (gen_no_replay number mode start (sym command ∙ is))
gen_summed (Some jobs.Check) status words old new is ends number command = absurd (gen_no_check number (sym command ∙ is))
gen_summed (Some (jobs.Gen own)) status words old new is ends number command = whole_sums own status old.sent new.sent old.write_faults new.write_faults ends.0
gen_summed (Some (jobs.Serve serving)) status words old new is ends number command = absurd (gen_no_serve number serving (sym command ∙ is))
