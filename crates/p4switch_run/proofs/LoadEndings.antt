-- What the exit status of a run of a made tape says.
use Rattle.std.proofs.Common.{◌≡◌, ◌≢◌, ℕ, ◌≤◌, List, [], Option, None, Some, refl, ◌⊎◌, inl, inr, arith, subst, sym}
use Rattle.sw_edge.specs.Counts.{Rose}
use Rattle.sw_edge.specs.Told.{Consumes, Keeps}
use Rattle.tape_form.specs.TapeRead.{IsUnfinished}
use Rattle.p4switch_run.specs.declared.status.Status.{Status}
use Rattle.p4switch_run.specs.declared.status.Status.TheVariants as statuses
use Rattle.p4switch_run.specs.Command.{status_number}
use Rattle.p4switch_run.specs.Load.{Sums, IsSummed, IsSummedShort}
use Rattle.p4switch_run.specs.Replay.{Streams}
use Rattle.p4switch_run.specs.Run.{ReadsNothing}

-- the statuses that it may have
pub sums_number : (number : ℕ) (status : Status) (old new : Option (List ℕ)) (before now : ℕ) → Sums number status old new before now → (status_number status ≡ 0) ⊎ ((status_number status ≡ 3) ⊎ (status_number status ≡ 5))
sums_number number statuses.Done old new before now sums = inl refl
sums_number number (statuses.NotATape place) old new before now sums = absurd sums
sums_number number statuses.WordsRefused old new before now sums = absurd sums
sums_number number statuses.NoMemory old new before now sums = inr (inl refl)
sums_number number statuses.ReadFault old new before now sums = absurd sums
sums_number number statuses.WriteFault old new before now sums = inr (inr refl)
sums_number number statuses.TooLong old new before now sums = absurd sums
sums_number number statuses.NetFault old new before now sums = absurd sums
sums_number number statuses.Refused old new before now sums = absurd sums

pub summed : (number : ℕ) (status : Status) (old new : Option (List ℕ)) (before now : ℕ) → Sums number status old new before now → status_number status ≡ 0 → IsSummed number old new before now
summed number statuses.Done old new before now sums e = sums
summed number (statuses.NotATape place) old new before now sums e = absurd sums
summed number statuses.WordsRefused old new before now sums e = absurd sums
summed number statuses.NoMemory old new before now sums e = absurd (omega (arith, e))
summed number statuses.ReadFault old new before now sums e = absurd sums
summed number statuses.WriteFault old new before now sums e = absurd (omega (arith, e))
summed number statuses.TooLong old new before now sums e = absurd sums
summed number statuses.NetFault old new before now sums e = absurd sums
summed number statuses.Refused old new before now sums e = absurd sums

pub summed_short : (number : ℕ) (status : Status) (old new : Option (List ℕ)) (before now : ℕ) → Sums number status old new before now → status_number status ≡ 5 → IsSummedShort number old new before now
summed_short number statuses.Done old new before now sums e = absurd (omega (arith, e))
summed_short number (statuses.NotATape place) old new before now sums e = absurd sums
summed_short number statuses.WordsRefused old new before now sums e = absurd sums
summed_short number statuses.NoMemory old new before now sums e = absurd (omega (arith, e))
summed_short number statuses.ReadFault old new before now sums e = absurd sums
summed_short number statuses.WriteFault old new before now sums e = sums
summed_short number statuses.TooLong old new before now sums e = absurd sums
summed_short number statuses.NetFault old new before now sums e = absurd sums
summed_short number statuses.Refused old new before now sums e = absurd sums

-- where neither all of it nor a part was written, nothing was
pub unsummed : (number : ℕ) (status : Status) (old new : Option (List ℕ)) (before now : ℕ) → Sums number status old new before now → status_number status ≢ 0 → status_number status ≢ 5 → Keeps old new
unsummed number statuses.Done old new before now sums a b = absurd (a refl)
unsummed number (statuses.NotATape place) old new before now sums a b = absurd sums
unsummed number statuses.WordsRefused old new before now sums a b = absurd sums
unsummed number statuses.NoMemory old new before now sums a b = sums.kept
unsummed number statuses.ReadFault old new before now sums a b = absurd sums
unsummed number statuses.WriteFault old new before now sums a b = absurd (b refl)
unsummed number statuses.TooLong old new before now sums a b = absurd sums
unsummed number statuses.NetFault old new before now sums a b = absurd sums
unsummed number statuses.Refused old new before now sums a b = absurd sums

-- the sink fails with one status alone
pub sound_sums : (number : ℕ) (status : Status) (old new : Option (List ℕ)) (before now : ℕ) → Sums number status old new before now → status_number status ≢ 5 → now ≡ before
sound_sums number statuses.Done old new before now sums a = sums.sound_sink
sound_sums number (statuses.NotATape place) old new before now sums a = absurd sums
sound_sums number statuses.WordsRefused old new before now sums a = absurd sums
sound_sums number statuses.NoMemory old new before now sums a = sums.sound_sink
sound_sums number statuses.ReadFault old new before now sums a = absurd sums
sound_sums number statuses.WriteFault old new before now sums a = absurd (a refl)
sound_sums number statuses.TooLong old new before now sums a = absurd sums
sound_sums number statuses.NetFault old new before now sums a = absurd sums
sound_sums number statuses.Refused old new before now sums a = absurd sums

-- without a fault of the sink all of it was written, or there was no memory
pub whole_sums : (number : ℕ) (status : Status) (old new : Option (List ℕ)) (before now : ℕ) → Sums number status old new before now
    → (status_number status ≡ 0) ⊎ ((status_number status ≡ 3) ⊎ ((status_number status ≡ 5) × Rose before now))
whole_sums number statuses.Done old new before now sums = inl refl
whole_sums number (statuses.NotATape place) old new before now sums = absurd sums
whole_sums number statuses.WordsRefused old new before now sums = absurd sums
whole_sums number statuses.NoMemory old new before now sums = inr (inl refl)
whole_sums number statuses.ReadFault old new before now sums = absurd sums
whole_sums number statuses.WriteFault old new before now sums = inr (inr (refl, sums.fault))
whole_sums number statuses.TooLong old new before now sums = absurd sums
whole_sums number statuses.NetFault old new before now sums = absurd sums
whole_sums number statuses.Refused old new before now sums = absurd sums

none_of : (o : Option (List ℕ)) → Consumes o o []
none_of None = tt
none_of (Some xs) = refl

-- what is not read is not taken up to its end
pub unread_unfinished : (old new : Streams) → ReadsNothing old new → IsUnfinished old.left new.left old.read_faults new.read_faults
unread_unfinished old new nothing = record {
  taken = [];
  consumed = (let P : Option (List ℕ) → Type 0 = λ o. Consumes old.left o [] in subst P (sym nothing.left) (none_of old.left));
  within = omega arith;
  sound = nothing.sound_source;
}
