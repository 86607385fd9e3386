-- A tape within the limits is read, unless the source fails or memory runs out.
use Rattle.std.proofs.Common.{◌≡◌, ℕ, zero, suc, ◌≤◌, List, [], ◌∷◌, ◌++◌, length, take, Option, Some, None, Result, Ok, Err, flat_map, refl, sym, ap, subst, ◌∙◌, append_assoc, append-nil, arith, length-append}
use Rattle.std.proofs.lemmas.List.{take_all}
use Rattle.list_types.specs.declared.memory.Refusal.{Refusal}
use Rattle.list_types.specs.declared.memory.Refusal.TheVariants as refusals
use Rattle.tape_spec.specs.declared.item.TapeItem.{TapeItem}
use Rattle.tape_spec.specs.Items.{item_bytes, bytes_of, IsTapeOf, Begins}
use Rattle.run_spec.specs.Tape.{magic}
use Rattle.tape_spec.specs.ReadingLaws.{GoesBeyond}
use Rattle.tape_spec.specs.Reading.{Flaw, Bad, TooMany, tape_at}
use Rattle.tape_spec.proofs.Tapes.{tape_is_read, read_is_tape, bad_is_exact, too_many_is_exact, too_many_is_found, no_tape_begins_another}
use Rattle.tape_form.specs.declared.limits.TheConstants.{MAX_TAPE, MAX_RECORDS}
use Rattle.tape_form.specs.declared.fault.TapeFault.{TapeFault}
use Rattle.tape_form.specs.declared.fault.TapeFault.TheVariants as faults
use Rattle.tape_form.specs.declared.fault.Ended.{Ended}
use Rattle.tape_form.specs.declared.fault.Ended.TheVariants.{AtEnd, AtFault, AtLimit}
use Rattle.tape_form.specs.TapeRead.{InLimits, EndsWithin, EndsSo, judged, AnswersTo, IsOutcome, IsReadFrom, IsAnswerToTape}

abbrev Answer : Type 0
Answer = Result (List TapeItem) (Refusal TapeFault)

-- bytes were taken of a tape within the limits, and rest is left of it
record IsPartOf (records : List TapeItem) (taken rest : List ℕ) : Type 0 where
  tape : IsTapeOf (taken ++ rest) records
  count : length records ≤ MAX_RECORDS
  size : length (taken ++ rest) ≤ MAX_TAPE

-- the taking ended at the end of the tape, or by a fault
abbrev EndsTape : Ended → List ℕ → List ℕ → Type 0
EndsTape AtEnd taken rest = rest ≡ []
EndsTape AtFault taken rest = Unit {0}
EndsTape AtLimit taken rest = ⊥

abbrev good : List TapeItem → Result (List TapeItem) Flaw
good records = Ok records

clash_flaw : {records : List TapeItem} {flaw : Flaw} → good records ≡ Err flaw → ⊥
clash_flaw e = absurd cc

-- of a tape no record is one too many
not_too_many : (records : List TapeItem) (taken rest : List ℕ) (left : ℕ) → IsPartOf records taken rest → tape_at MAX_RECORDS taken ≡ Err (TooMany left) → ⊥
not_too_many records taken rest left part e =
    let p = too_many_is_exact MAX_RECORDS taken left e in
    let spelled : taken ++ rest ≡ magic ++ (flat_map item_bytes p.items ++ p.kind ∷ (p.rest ++ rest)) =
    ap (λ (w : List ℕ). w ++ rest) p.spelled ∙ ap (λ (w : List ℕ). magic ++ w) (append_assoc (flat_map item_bytes p.items) (p.kind ∷ p.rest) rest) in
    let past : GoesBeyond MAX_RECORDS (taken ++ rest) (suc (length (p.rest ++ rest))) = record {
      items = p.items;
      kind = p.kind;
      rest = p.rest ++ rest;
      spelled = spelled;
      each = p.each;
      full = p.full;
      low_kind = p.low_kind;
      high_kind = p.high_kind;
      place = refl;
    } in
    clash_flaw (sym (tape_is_read MAX_RECORDS (taken ++ rest) records part.tape part.count) ∙ too_many_is_found MAX_RECORDS (taken ++ rest) (suc (length (p.rest ++ rest))) past)

-- of a tape no byte is bad, and where it was taken whole, none is missing
not_bad : (records : List TapeItem) (taken rest : List ℕ) (left : ℕ) → IsPartOf records taken rest → tape_at MAX_RECORDS taken ≡ Err (Bad (suc left)) → ⊥
not_bad records taken rest left part e =
    let x = bad_is_exact MAX_RECORDS taken (suc left) e in
    let all : take (length taken) taken ≡ taken = take_all (length taken) taken (omega arith) in
    let begun : Begins taken = record { items = records; more = rest; tape = part.tape } in
    x.0.longest (length taken) (omega (arith, x.1)) (omega arith) (subst Begins (sym all) begun)

not_short : (records : List TapeItem) (taken : List ℕ) → IsTapeOf (taken ++ []) records → tape_at MAX_RECORDS taken ≡ Err (Bad 0) → ⊥
not_short records taken tape e = (bad_is_exact MAX_RECORDS taken 0 e).2 records (subst (λ (w : List ℕ). IsTapeOf w records) (append-nil taken) tape)

-- what is read of a tape
judged_tape : (records : List TapeItem) (taken rest : List ℕ) (ended : Ended) (read : Result (List TapeItem) Flaw) → IsPartOf records taken rest → EndsTape ended taken rest → tape_at MAX_RECORDS taken ≡ read
    → IsAnswerToTape records (judged (length taken) ended read)
judged_tape records taken rest AtEnd (Ok found) part end e =
    (no_tape_begins_another taken rest found records (read_is_tape MAX_RECORDS taken found e).0 part.tape).1
judged_tape records taken rest AtFault (Ok found) part end e = tt
judged_tape records taken rest AtLimit (Ok found) part end e = absurd end
judged_tape records taken rest ended (Err (TooMany left)) part end e = absurd (not_too_many records taken rest left part e)
judged_tape records taken rest AtEnd (Err (Bad zero)) part end e = absurd (not_short records taken (subst (λ (w : List ℕ). IsTapeOf (taken ++ w) records) end part.tape) e)
judged_tape records taken rest AtFault (Err (Bad zero)) part end e = tt
judged_tape records taken rest AtLimit (Err (Bad zero)) part end e = absurd end
judged_tape records taken rest ended (Err (Bad (suc left))) part end e = absurd (not_bad records taken rest left part e)

ends_tape : (ended : Ended) (taken rest : List ℕ) (before now : ℕ) → length (taken ++ rest) ≤ MAX_TAPE → EndsSo ended (Some rest) before now → EndsWithin ended taken → EndsTape ended taken rest
ends_tape AtEnd taken rest before now size so within = so
ends_tape AtFault taken rest before now size so within = tt
ends_tape AtLimit taken rest before now size so within = omega (arith, length-append taken rest)

by_outcome : (records : List TapeItem) (taken rest : List ℕ) (before now : ℕ) (answer : Answer) → IsPartOf records taken rest → IsOutcome answer taken (Some rest) before now → IsAnswerToTape records answer
by_outcome records taken rest before now answer part o =
    subst (IsAnswerToTape records) o.same (judged_tape records taken rest o.ended (tape_at MAX_RECORDS taken) part (ends_tape o.ended taken rest before now part.size o.so o.within) refl)

by_answer : (records : List TapeItem) (taken rest : List ℕ) (before now : ℕ) (answer : Answer) → IsPartOf records taken rest → AnswersTo answer taken (Some rest) before now → IsAnswerToTape records answer
by_answer records taken rest before now (Ok found) part o = by_outcome records taken rest before now (Ok found) part o
by_answer records taken rest before now (Err refusals.NoMemory) part o = tt
by_answer records taken rest before now (Err (refusals.For faults.Fault)) part o = tt
by_answer records taken rest before now (Err (refusals.For (faults.Bad place))) part o = by_outcome records taken rest before now (Err (refusals.For (faults.Bad place))) part o
by_answer records taken rest before now (Err (refusals.For faults.TooLong)) part o = by_outcome records taken rest before now (Err (refusals.For faults.TooLong)) part o

from_tape : (records : List TapeItem) (new : Option (List ℕ)) (before now : ℕ) (answer : Answer) → InLimits records → IsReadFrom (Some (bytes_of records)) new before now answer → IsAnswerToTape records answer
from_tape records None before now answer fits r = absurd r.from.consumed
from_tape records (Some rest) before now answer fits r =
    let whole : bytes_of records ≡ r.taken ++ rest = r.from.consumed in
    by_answer records r.taken rest before now answer
    (record { tape = record { spelled = sym whole; each = fits.each }; count = fits.count; size = subst (λ (w : List ℕ). length w ≤ MAX_TAPE) whole fits.size }) r.answers

pub complete : (old new : Option (List ℕ)) (before now : ℕ) (answer : Result (List TapeItem) (Refusal TapeFault)) → IsReadFrom old new before now answer
    → (records : List TapeItem) → InLimits records → old ≡ Some (bytes_of records) → IsAnswerToTape records answer
complete old new before now answer r records fits e = from_tape records new before now answer fits (subst (λ (o : Option (List ℕ)). IsReadFrom o new before now answer) e r)
