-- A tape within the limits is reported, unless the source or the sink fails or memory is out.
use Rattle.std.proofs.Common.{◌≡◌, ℕ, ◌≤◌, List, length, Option, None, Some, Ok, Err, refl, ap, ◌∙◌, sym, subst, ◌⊎◌, inl, inr, arith, length-append}
use Rattle.list_types.specs.declared.memory.Refusal.{Refusal}
use Rattle.list_types.specs.declared.memory.Refusal.TheVariants as refusals
use Rattle.sw_edge.proofs.ToldLaws.{Consumes-all}
use Rattle.sw_edge.specs.Counts.{Rose}
use Rattle.sw_edge.specs.Told.{Consumes}
use Rattle.tape_spec.specs.declared.item.TapeItem.{TapeItem}
use Rattle.tape_spec.specs.Reading.{tape_at}
use Rattle.tape_spec.proofs.Tapes.{tape_is_read}
use Rattle.tape_form.specs.TapeRead.{IsOutcome, EndsSo, EndsWithin, judged, outcome}
use Rattle.tape_form.specs.declared.limits.TheConstants.{MAX_TAPE, MAX_RECORDS}
use Rattle.tape_form.specs.declared.fault.Ended.{Ended}
use Rattle.tape_form.specs.declared.fault.Ended.TheVariants.{AtEnd, AtFault, AtLimit}
use Rattle.tape_form.specs.declared.fault.TapeFault.{TapeFault}
use Rattle.tape_form.specs.declared.fault.TapeFault.TheVariants as faults
use Rattle.p4switch_run.specs.declared.status.Status.{Status}
use Rattle.p4switch_run.specs.declared.status.Status.TheVariants as statuses
use Rattle.p4_types.specs.declared.events.Start.{Start}
use Rattle.command_words.specs.declared.words.Mode.{Mode}
use Rattle.p4switch_run.specs.Check.{Checks}
use Rattle.p4switch_run.specs.Command.{status_number}
use Rattle.p4switch_run.specs.Replay.{Streams, Answers}
use Rattle.p4switch_run.specs.Run.{HoldsTape, HoldsBytes}

-- no more is taken than there is
taken_within : (bytes : List ℕ) (new : Option (List ℕ)) (taken : List ℕ) → Consumes (Some bytes) new taken → length taken ≤ length bytes
taken_within bytes None taken consumed = absurd consumed
taken_within bytes (Some rest) taken consumed = omega (arith, ap length consumed, length-append taken rest)

refuted : (bytes taken : List ℕ) (items : List TapeItem) (new : Option (List ℕ)) (before now : ℕ) (fault : Refusal TapeFault) (ended : Ended)
    → tape_at MAX_RECORDS bytes ≡ Ok items → length bytes ≤ MAX_TAPE → Consumes (Some bytes) new taken → (Rose before now → ⊥)
    → EndsSo ended new before now → EndsWithin ended taken → outcome taken ended ≡ Err fault → ⊥
refuted bytes taken items new before now fault AtEnd read size consumed sound so within same =
    let all : taken ≡ bytes = Consumes-all bytes new taken consumed so in
    let e : Ok items ≡ Err fault =
    sym (ap (λ r. judged (length taken) AtEnd r) (ap (tape_at MAX_RECORDS) all ∙ read)) ∙ same in
    cc
refuted bytes taken items new before now _ AtFault read size consumed sound so within same = sound so
refuted bytes taken items new before now _ AtLimit read size consumed sound so within same =
    absurd (omega (arith, taken_within bytes new taken consumed, size, within))

-- such a tape is not answered with a fault but that of the source
pub not_refused : (left new : Option (List ℕ)) (before now : ℕ) (fault : Refusal TapeFault) → HoldsTape left → (Rose before now → ⊥)
    → (taken : List ℕ) → Consumes left new taken → IsOutcome (Err fault) taken new before now → ⊥
not_refused left new before now fault holds sound taken consumed h =
    let P : Option (List ℕ) → Type 0 = λ l. Consumes l new taken in
    refuted holds.bytes taken holds.items new before now fault h.ended
    (tape_is_read MAX_RECORDS holds.bytes holds.items holds.tape holds.count) holds.size (subst P holds.left_is consumed) sound h.so h.within h.same

-- the statuses that are left
pub complete : (status : Status) (mode : Mode) (start : Start) (old new : Streams) → Answers mode start status old new → HoldsTape old.left
    → (Rose old.read_faults new.read_faults → ⊥) → (Rose old.write_faults new.write_faults → ⊥) → (status_number status ≡ 0) ⊎ (status_number status ≡ 3)
complete statuses.Done mode start old new ends holds reads writes = inl refl
complete (statuses.NotATape place) mode start old new ends holds reads writes =
    let read = ends.«because».1 in absurd (not_refused old.left new.left _ _ (refusals.For (faults.Bad place)) holds reads read.taken read.from.consumed read.answers)
complete statuses.WordsRefused mode start old new ends holds reads writes = absurd ends
complete statuses.NoMemory mode start old new ends holds reads writes = inr refl
complete statuses.ReadFault mode start old new ends holds reads writes = absurd (reads ends.«because».0)
complete statuses.WriteFault mode start old new ends holds reads writes = absurd (writes ends.fault)
complete statuses.TooLong mode start old new ends holds reads writes =
    let read = ends.«because».1 in absurd (not_refused old.left new.left _ _ (refusals.For faults.TooLong) holds reads read.taken read.from.consumed read.answers)
complete statuses.NetFault mode start old new ends holds reads writes = absurd ends
complete statuses.Refused mode start old new ends holds reads writes = absurd ends

past_within : (bytes taken : List ℕ) → length taken ≤ length bytes → length bytes ≤ 67108864 → EndsWithin AtLimit taken → ⊥
past_within bytes taken within size past = omega (arith, within, size, past)

-- the same of a check
pub checked : (status : Status) (old new : Streams) → Checks status old new → HoldsBytes old.left
    → (Rose old.read_faults new.read_faults → ⊥) → (Rose old.write_faults new.write_faults → ⊥) → (status_number status ≡ 0) ⊎ ((status_number status ≡ 3) ⊎ (status_number status ≡ 8))
checked statuses.Done old new ends holds reads writes = inl refl
checked (statuses.NotATape place) old new ends holds reads writes = absurd ends
checked statuses.WordsRefused old new ends holds reads writes = absurd ends
checked statuses.NoMemory old new ends holds reads writes = inr (inl refl)
checked statuses.ReadFault old new ends holds reads writes = absurd (reads ends.«because».so)
checked statuses.WriteFault old new ends holds reads writes = absurd (writes ends.fault)
checked statuses.TooLong old new ends holds reads writes =
    let P : Option (List ℕ) → Type 0 = λ l. Consumes l new.left ends.«because».taken in
    absurd (past_within holds.bytes ends.«because».taken (taken_within holds.bytes new.left ends.«because».taken (subst P holds.left_is ends.«because».consumed)) holds.size ends.«because».within)
checked statuses.NetFault old new ends holds reads writes = absurd ends
checked statuses.Refused old new ends holds reads writes = inr (inr refl)
