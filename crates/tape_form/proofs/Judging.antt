-- What the answer to bytes says of them.
use Rattle.std.proofs.Common.{◌≡◌, ℕ, zero, suc, ◌-◌, ◌≤◌, ◌<◌, Bool, true, false, cond, eqb, List, length, Option, Result, Ok, Err, refl, sym, ap, subst, ◌∙◌, ◌⊎◌, arith, inl, inr}
use Rattle.std.specs.Prelude.{IfOk, OnOk, IsErrOf}
use Rattle.list_types.specs.declared.memory.Refusal.{Refusal}
use Rattle.list_types.specs.declared.memory.Refusal.TheVariants as refusals
use Rattle.tape_spec.specs.declared.item.TapeItem.{TapeItem}
use Rattle.sw_edge.specs.Counts.{Rose}
use Rattle.tape_spec.specs.Items.{IsLongestFront}
use Rattle.tape_spec.specs.Reading.{Flaw, Bad, TooMany, tape_at}
use Rattle.tape_spec.proofs.Tapes.{read_is_tape, bad_is_exact, too_many_is_exact}
use Rattle.tape_form.specs.declared.limits.TheConstants.{MAX_TAPE, MAX_RECORDS}
use Rattle.tape_form.specs.declared.fault.TapeFault.{TapeFault}
use Rattle.tape_form.specs.declared.fault.TapeFault.TheVariants as faults
use Rattle.tape_form.specs.declared.fault.Ended.{Ended}
use Rattle.tape_form.specs.declared.fault.Ended.TheVariants.{AtEnd, AtFault, AtLimit}
use Rattle.tape_form.specs.Parsed.{GivesAll}
use Rattle.tape_form.specs.declared.parse.Flaw.{Flaw as Found}
use Rattle.tape_form.specs.declared.parse.Flaw.TheVariants as found
use Rattle.tape_form.specs.TapeRead.{InLimits, EndsWithin, EndsSo, EndsSoundly, when_whole, when_short, when_bad, judged, answer_of, outcome, IsDue, IsOutcome, IsTakenFrom, IsReadFrom, IsUnfinished, HidesNothing, IsWholeTape, IsBadAt, IsTooLong}

whole_within : (ended : Ended) (bytes : List ℕ) (records : List TapeItem) → EndsWithin ended bytes → tape_at MAX_RECORDS bytes ≡ Ok records → ended ≡ AtEnd → InLimits records
whole_within ended bytes records within e end =
    let r = read_is_tape MAX_RECORDS bytes records e in
    let size : length bytes ≤ MAX_TAPE = subst (λ (n : Ended). EndsWithin n bytes) end within in
    record { each = r.0.each; count = r.1; size = subst (λ (w : List ℕ). length w ≤ MAX_TAPE) r.0.spelled size }

left_within : (bytes : List ℕ) (left : ℕ) → tape_at MAX_RECORDS bytes ≡ Err (Bad left) → left ≤ length bytes
left_within bytes left e = (bad_is_exact MAX_RECORDS bytes left e).1

pub kept_within : {X E : Type 0} (view : X → List TapeItem) (ended : Ended) (bytes : List ℕ) (read : Result (Result X E) Found) → EndsWithin ended bytes → GivesAll view read (tape_at MAX_RECORDS bytes)
    → ended ≡ AtEnd → IfOk read (λ kept. IfOk kept (λ x. InLimits (view x)))
kept_within view ended bytes (Ok (Ok x)) within h end = subst InLimits (sym h.1) (whole_within ended bytes h.0 within h.2 end)
kept_within view ended bytes (Ok (Err e)) within h end = tt
kept_within view ended bytes (Err flaw) within h end = tt

pub flaw_within : {X E : Type 0} (view : X → List TapeItem) (bytes : List ℕ) (read : Result (Result X E) Found) → GivesAll view read (tape_at MAX_RECORDS bytes) → (left : ℕ) → IsErrOf read (found.Bad left) → left ≤ length bytes
flaw_within view bytes (Ok kept) h left e = absurd cc
flaw_within view bytes (Err (found.Bad l)) h left e = let same : l ≡ left = cc in left_within bytes left (subst (λ (n : ℕ). tape_at MAX_RECORDS bytes ≡ Err (Bad n)) same h)
flaw_within view bytes (Err (found.TooMany l)) h left e = absurd cc

-- ---- what each answer comes from

abbrev Answer : Type 0
Answer = Result (List TapeItem) (Refusal TapeFault)

whole_ok : (records found : List TapeItem) (ended : Ended) → when_whole records ended ≡ Ok found → (records ≡ found) × (ended ≡ AtEnd)
whole_ok records found AtEnd e = (cc, refl)
whole_ok records found AtFault e = absurd cc
whole_ok records found AtLimit e = absurd cc

short_ok : (taken : ℕ) (found : List TapeItem) (ended : Ended) → when_short taken ended ≡ Ok found → ⊥
short_ok taken found AtEnd e = absurd cc
short_ok taken found AtFault e = absurd cc
short_ok taken found AtLimit e = absurd cc

abbrev fault : Refusal TapeFault → Answer
fault f = Err f

abbrev good : List TapeItem → Answer
good records = Ok records

tells : {f : Refusal TapeFault} {records : List TapeItem} → fault f ≡ good records → ⊥
tells e = absurd cc

bad_or_fault : {place : ℕ} → fault (refusals.For (faults.Bad place)) ≡ fault (refusals.For faults.Fault) → ⊥
bad_or_fault e = absurd cc

long_or_fault : fault (refusals.For faults.TooLong) ≡ fault (refusals.For faults.Fault) → ⊥
long_or_fault e = absurd cc

bad_or_long : {place : ℕ} → fault (refusals.For (faults.Bad place)) ≡ fault (refusals.For faults.TooLong) → ⊥
bad_or_long e = absurd cc

one_place : (a b : ℕ) → fault (refusals.For (faults.Bad a)) ≡ fault (refusals.For (faults.Bad b)) → a ≡ b
one_place a b e = cc

at_limit : (place : ℕ) (t : Bool) → eqb place MAX_TAPE ≡ t → (when_bad place AtLimit ≡ Err (refusals.For (faults.Bad place))) ⊎ ((when_bad place AtLimit ≡ Err (refusals.For faults.TooLong)) × (AtLimit ≡ AtLimit))
at_limit place true e = inr (ap (λ (t : Bool). cond t (fault (refusals.For faults.TooLong)) (fault (refusals.For (faults.Bad place)))) e, refl)
at_limit place false e = inl (ap (λ (t : Bool). cond t (fault (refusals.For faults.TooLong)) (fault (refusals.For (faults.Bad place)))) e)

-- a bad byte is answered by its place, or by the limit in its place
bad_is : (place : ℕ) (ended : Ended) → (when_bad place ended ≡ Err (refusals.For (faults.Bad place))) ⊎ ((when_bad place ended ≡ Err (refusals.For faults.TooLong)) × (ended ≡ AtLimit))
bad_is place AtEnd = inl refl
bad_is place AtFault = inl refl
bad_is place AtLimit = at_limit place (eqb place MAX_TAPE) refl

judged_ok : (taken : ℕ) (ended : Ended) (read : Result (List TapeItem) Flaw) (found : List TapeItem) → judged taken ended read ≡ Ok found → (read ≡ Ok found) × (ended ≡ AtEnd)
judged_ok taken ended (Ok records) found e = let w = whole_ok records found ended e in (ap (λ (x : List TapeItem). Ok x) w.0, w.1)
judged_ok taken ended (Err (TooMany left)) found e = absurd cc
judged_ok taken ended (Err (Bad zero)) found e = absurd (short_ok taken found ended e)
judged_ok taken ended (Err (Bad (suc left))) found e =
    elim (bad_is (taken - suc left) ended) [ inl b ↦ absurd (tells (sym b ∙ e)) | inr b ↦ absurd (tells (sym b.0 ∙ e)) ]

judged_fault : (taken : ℕ) (ended : Ended) (read : Result (List TapeItem) Flaw) → judged taken ended read ≡ Err (refusals.For faults.Fault) → ended ≡ AtFault
judged_fault taken AtEnd (Ok records) e = absurd cc
judged_fault taken AtFault (Ok records) e = refl
judged_fault taken AtLimit (Ok records) e = absurd cc
judged_fault taken ended (Err (TooMany left)) e = absurd cc
judged_fault taken AtEnd (Err (Bad zero)) e = absurd cc
judged_fault taken AtFault (Err (Bad zero)) e = refl
judged_fault taken AtLimit (Err (Bad zero)) e = absurd cc
judged_fault taken ended (Err (Bad (suc left))) e =
    elim (bad_is (taken - suc left) ended) [ inl b ↦ absurd (bad_or_fault (sym b ∙ e)) | inr b ↦ absurd (long_or_fault (sym b.0 ∙ e)) ]

judged_long : (taken : ℕ) (ended : Ended) (read : Result (List TapeItem) Flaw) → judged taken ended read ≡ Err (refusals.For faults.TooLong) → (ended ≡ AtLimit) ⊎ ((left : ℕ) × (read ≡ Err (TooMany left)))
judged_long taken AtEnd (Ok records) e = absurd cc
judged_long taken AtFault (Ok records) e = absurd cc
judged_long taken AtLimit (Ok records) e = inl refl
judged_long taken ended (Err (TooMany left)) e = inr (left, refl)
judged_long taken AtEnd (Err (Bad zero)) e = absurd cc
judged_long taken AtFault (Err (Bad zero)) e = absurd cc
judged_long taken AtLimit (Err (Bad zero)) e = inl refl
judged_long taken ended (Err (Bad (suc left))) e =
    elim (bad_is (taken - suc left) ended) [ inl b ↦ absurd (bad_or_long (sym b ∙ e)) | inr b ↦ inl b.1 ]

-- a bad byte is answered as is due
due_bad : (place : ℕ) (ended : Ended) (due : Answer) → due ≡ when_bad place ended → IsDue (when_bad place ended) due
due_bad place ended due e =
    elim (bad_is place ended) [
      | inl b ↦ subst (λ (a : Answer). IsDue a due) (sym b) (e ∙ b)
      | inr b ↦ subst (λ (a : Answer). IsDue a due) (sym b.0) (e ∙ b.0)
    ]

answered : {X E : Type 0} (view : X → List TapeItem) (bytes : List ℕ) (ended : Ended) (read : Result (Result X E) Found) → GivesAll view read (tape_at MAX_RECORDS bytes) → IsDue (answer_of view (length bytes) ended read) (outcome bytes ended)
answered view bytes AtEnd (Ok (Ok x)) h = ap (judged (length bytes) AtEnd) h.2 ∙ ap good (sym h.1)
answered view bytes AtFault (Ok (Ok x)) h = ap (judged (length bytes) AtFault) h.2
answered view bytes AtLimit (Ok (Ok x)) h = ap (judged (length bytes) AtLimit) h.2
answered view bytes AtEnd (Ok (Err e)) h = (h.0, ap (judged (length bytes) AtEnd) h.2)
answered view bytes AtFault (Ok (Err e)) h = ap (judged (length bytes) AtFault) h.2
answered view bytes AtLimit (Ok (Err e)) h = ap (judged (length bytes) AtLimit) h.2
answered view bytes ended (Err (found.TooMany left)) h = ap (judged (length bytes) ended) h
answered view bytes AtEnd (Err (found.Bad zero)) h = ap (judged (length bytes) AtEnd) h
answered view bytes AtFault (Err (found.Bad zero)) h = ap (judged (length bytes) AtFault) h
answered view bytes AtLimit (Err (found.Bad zero)) h = ap (judged (length bytes) AtLimit) h
answered view bytes ended (Err (found.Bad (suc left))) h = due_bad (length bytes - suc left) ended (outcome bytes ended) (ap (judged (length bytes) ended) h)

-- the answer to what was read is the outcome, or want of memory in the place of records
pub is_due : {X E : Type 0} (view : X → List TapeItem) (bytes : List ℕ) (ended : Ended) (read : Result (Result X E) Found) (answer : Result (List TapeItem) (Refusal TapeFault)) → GivesAll view read (tape_at MAX_RECORDS bytes)
    → answer_of view (length bytes) ended read ≡ answer → IsDue answer (outcome bytes ended)
is_due view bytes ended read answer h e = subst (λ (a : Answer). IsDue a (outcome bytes ended)) e (answered view bytes ended read h)

-- what a bad place comes from
record FromBad (taken : ℕ) (ended : Ended) (read : Result (List TapeItem) Flaw) (place : ℕ) : Type 0 where
  left : ℕ
  bad : read ≡ Err (Bad left)
  at : taken - left ≡ place
  shown : (0 < left) ⊎ (ended ≡ AtEnd)

judged_bad : (taken : ℕ) (ended : Ended) (read : Result (List TapeItem) Flaw) (place : ℕ) → judged taken ended read ≡ Err (refusals.For (faults.Bad place)) → FromBad taken ended read place
judged_bad taken AtEnd (Ok records) place e = absurd cc
judged_bad taken AtFault (Ok records) place e = absurd cc
judged_bad taken AtLimit (Ok records) place e = absurd cc
judged_bad taken ended (Err (TooMany left)) place e = absurd cc
judged_bad taken AtEnd (Err (Bad zero)) place e = let same : taken ≡ place = cc in record { left = 0; bad = refl; at = omega arith; shown = inr refl }
judged_bad taken AtFault (Err (Bad zero)) place e = absurd cc
judged_bad taken AtLimit (Err (Bad zero)) place e = absurd cc
judged_bad taken ended (Err (Bad (suc left))) place e =
    elim (bad_is (taken - suc left) ended) [
      | inl b ↦ record { left = suc left; bad = refl; at = one_place (taken - suc left) place (sym b ∙ e); shown = inl (omega arith) }
      | inr b ↦ absurd (bad_or_long (sym e ∙ b.0))
    ]

-- ---- what the answer to a source says

soundly_at_end : (new : Option (List ℕ)) (before now : ℕ) (ended : Ended) → ended ≡ AtEnd → EndsSoundly ended new before now → EndsSoundly AtEnd new before now
soundly_at_end new before now ended e soundly = subst (λ (n : Ended). EndsSoundly n new before now) e soundly

read_tape : (old new : Option (List ℕ)) (before now : ℕ) (records : List TapeItem) → IsReadFrom old new before now (Ok records) → IsWholeTape old new records
read_tape old new before now records r =
    let o = r.answers in
    let j = judged_ok (length r.taken) o.ended (tape_at MAX_RECORDS r.taken) records o.same in
    let t = read_is_tape MAX_RECORDS r.taken records j.0 in
    record {
      taken = r.taken;
      consumed = r.from.consumed;
      tape = t.0;
      at_end = subst (λ (n : Ended). EndsSo n new before now) j.1 o.so;
      size = subst (λ (n : Ended). EndsWithin n r.taken) j.1 o.within;
      count = t.1;
    }

pub whole_tape : (old new : Option (List ℕ)) (before now : ℕ) (answer : Result (List TapeItem) (Refusal TapeFault)) → IsReadFrom old new before now answer → IfOk answer (λ records. IsWholeTape old new records)
whole_tape old new before now (Ok records) r = read_tape old new before now records r
whole_tape old new before now (Err _) r = tt

-- a source of which a tape was read has not failed
pub whole_sound : (old new : Option (List ℕ)) (before now : ℕ) (answer : Result (List TapeItem) (Refusal TapeFault)) → IsReadFrom old new before now answer → OnOk answer (now ≡ before)
whole_sound old new before now (Ok records) r =
    let o = r.answers in
    let j = judged_ok (length r.taken) o.ended (tape_at MAX_RECORDS r.taken) records o.same in
    (soundly_at_end new before now o.ended j.1 o.soundly).1
whole_sound old new before now (Err _) r = tt

pub bad_at : (old new : Option (List ℕ)) (before now place : ℕ) → IsReadFrom old new before now (Err (refusals.For (faults.Bad place))) → IsBadAt old new place
bad_at old new before now place r =
    let o = r.answers in
    let b = judged_bad (length r.taken) o.ended (tape_at MAX_RECORDS r.taken) place o.same in
    let x = bad_is_exact MAX_RECORDS r.taken b.left b.bad in
    record {
      taken = r.taken;
      consumed = r.from.consumed;
      exact = subst (IsLongestFront r.taken) b.at x.0;
      no_tape = x.2;
      shown = elim b.shown [ inl pos ↦ inl (omega (arith, b.at, x.1)) | inr end ↦ inr (subst (λ (n : Ended). EndsSo n new before now) end o.so) ];
    }

pub too_long : (old new : Option (List ℕ)) (before now : ℕ) → IsReadFrom old new before now (Err (refusals.For faults.TooLong)) → IsTooLong old new
too_long old new before now r =
    let o = r.answers in
    record {
      taken = r.taken;
      consumed = r.from.consumed;
      past = elim (judged_long (length r.taken) o.ended (tape_at MAX_RECORDS r.taken) o.same) [
        | inl end ↦ inl (let size : length r.taken ≡ suc MAX_TAPE = subst (λ (n : Ended). EndsWithin n r.taken) end o.within in omega arith)
        | inr m ↦ inr (m.0, too_many_is_exact MAX_RECORDS r.taken m.0 m.1)
      ];
    }

pub fault_rose : (old new : Option (List ℕ)) (before now : ℕ) → IsReadFrom old new before now (Err (refusals.For faults.Fault)) → Rose before now
fault_rose old new before now r =
    let o = r.answers in
    subst (λ (n : Ended). EndsSo n new before now) (judged_fault (length r.taken) o.ended (tape_at MAX_RECORDS r.taken) o.same) o.so

whole_within_limit : (taken : List ℕ) (new : Option (List ℕ)) (before now : ℕ) (records : List TapeItem) → IsOutcome (Ok records) taken new before now → (now ≡ before) × (length taken ≤ MAX_TAPE)
whole_within_limit taken new before now records o =
    let j = judged_ok (length taken) o.ended (tape_at MAX_RECORDS taken) records o.same in
    ((soundly_at_end new before now o.ended j.1 o.soundly).1, subst (λ (n : Ended). EndsWithin n taken) j.1 o.within)

pub unfinished : (old new : Option (List ℕ)) (before now : ℕ) → IsReadFrom old new before now (Err refusals.NoMemory) → IsUnfinished old new before now
unfinished old new before now r =
    elim r.answers [
      | inl b ↦ record { taken = r.taken; consumed = r.from.consumed; within = b.within; sound = b.sound }
      | inr o ↦ let w = whole_within_limit r.taken new before now o.0 o.1 in record { taken = r.taken; consumed = r.from.consumed; within = w.1; sound = w.0 }
    ]

-- the same, of any answer
pub if_no_memory : (old new : Option (List ℕ)) (before now : ℕ) (answer : Result (List TapeItem) (Refusal TapeFault)) → IsReadFrom old new before now answer → IsErrOf answer refusals.NoMemory → IsUnfinished old new before now
if_no_memory old new before now answer r e = unfinished old new before now (subst (IsReadFrom old new before now) e r)

pub if_bad : (old new : Option (List ℕ)) (before now : ℕ) (answer : Result (List TapeItem) (Refusal TapeFault)) → IsReadFrom old new before now answer → (place : ℕ) → IsErrOf answer (refusals.For (faults.Bad place)) → IsBadAt old new place
if_bad old new before now answer r place e = bad_at old new before now place (subst (IsReadFrom old new before now) e r)

pub if_too_long : (old new : Option (List ℕ)) (before now : ℕ) (answer : Result (List TapeItem) (Refusal TapeFault)) → IsReadFrom old new before now answer → IsErrOf answer (refusals.For faults.TooLong) → IsTooLong old new
if_too_long old new before now answer r e = too_long old new before now (subst (IsReadFrom old new before now) e r)

pub if_fault : (old new : Option (List ℕ)) (before now : ℕ) (answer : Result (List TapeItem) (Refusal TapeFault)) → IsReadFrom old new before now answer → IsErrOf answer (refusals.For faults.Fault) → Rose before now
if_fault old new before now answer r e = fault_rose old new before now (subst (IsReadFrom old new before now) e r)

-- want of memory in the place of a tape that was read whole
pub hides_nothing : (old new : Option (List ℕ)) (before now ends_before ends_now : ℕ) (taken : List ℕ) (ended : Ended) (answer : Result (List TapeItem) (Refusal TapeFault)) → IsTakenFrom old new taken → EndsSo ended new before now → EndsSoundly ended new before now → EndsWithin ended taken
    → IsDue answer (outcome taken ended) → IsErrOf answer refusals.NoMemory → HidesNothing old new ends_before ends_now
hides_nothing old new before now ends_before ends_now taken ended answer from so soundly within due e =
    let d : (items : List TapeItem) × (outcome taken ended ≡ Ok items) = subst (λ (a : Result (List TapeItem) (Refusal TapeFault)). IsDue a (outcome taken ended)) e due in
    inr (d.0, read_tape old new before now d.0 (record { taken = taken; from = from; answers = record { ended = ended; so = so; soundly = soundly; within = within; same = d.1 } }))
