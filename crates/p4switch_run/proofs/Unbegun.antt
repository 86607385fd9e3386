-- Want of memory before anything was done.
use Rattle.std.proofs.Common.{◌≡◌, ℕ, true, true≢false, List, Option, None, Some, refl, ap, sym, inl, inr, arith}
use Rattle.std.specs.Option.{is_some}
use Rattle.sw_edge.specs.Told.{Keeps}
use Rattle.p4switch_run.specs.declared.status.Status.TheVariants as statuses
use Rattle.p4switch_run.specs.declared.words.Job.{Job}
use Rattle.p4switch_run.specs.declared.words.Job.TheVariants as jobs
use Rattle.p4switch_run.specs.Command.{status_number}
use Rattle.p4switch_run.specs.Replay.{Streams}
use Rattle.p4switch_run.specs.Run.{EndsBy, IsUnusedBy, NetBy}
use Rattle.p4switch_run.proofs.Endings.{none_taken}

keeps : (o : Option (List ℕ)) → Keeps o o
keeps None = tt
keeps (Some xs) = refl

-- a job that is not begun reads and writes nothing
pub unbegun : (o : Option Job) (old : Streams) → is_some o ≡ true → EndsBy o statuses.NoMemory old old
unbegun None old e = absurd (true≢false (sym e))
unbegun (Some (jobs.Replay mode start)) old e = record {
  kept = keeps old.sent;
  sound_sink = refl;
  «because» = record { unfinished = none_taken old.left old.read_faults; hides_nothing = inl refl };
}
unbegun (Some jobs.Check) old e = record { kept = keeps old.sent; sound_sink = refl; «because» = none_taken old.left old.read_faults }
unbegun (Some (jobs.Gen number)) old e = (record { kept = keeps old.sent; sound_sink = refl }, record { left = refl; sound_source = refl; not_ended = refl })
unbegun (Some (jobs.Serve serving)) old e = (inr (inl refl), refl)

-- it serves no net
pub net_unbegun : (o : Option Job) (ends faults : ℕ) → NetBy o statuses.NoMemory ends ends faults faults
net_unbegun None ends faults = (refl, refl)
net_unbegun (Some (jobs.Replay mode start)) ends faults = (refl, refl)
net_unbegun (Some jobs.Check) ends faults = (refl, refl)
net_unbegun (Some (jobs.Gen number)) ends faults = (refl, refl)
net_unbegun (Some (jobs.Serve serving)) ends faults = record {
  ended = record { later = omega arith; cause = λ e. absurd (omega (arith, ap status_number e)) };
  not_ended = λ _. refl;
  failed = record { later = omega arith; cause = λ e. absurd (omega (arith, ap status_number e)) };
  no_fault = λ _. refl;
}

pub unused : {A : Type 0} (o : Option Job) (x : A) → IsUnusedBy o x x
unused None x = refl
unused (Some (jobs.Replay mode start)) x = refl
unused (Some jobs.Check) x = refl
unused (Some (jobs.Gen number)) x = refl
unused (Some (jobs.Serve serving)) x = tt
