-- Refusals by the rule L1.
use Rattle.std.proofs.Common.{◌≡◌, ℕ, Bool, true, false, cond, List, Option, Some, None, Result, Ok, Err, refl, sym, ap, ◌∙◌, subst}
use Rattle.std.specs.Str.{is_utf8, IsUtf8}
use Rattle.std.proofs.lemmas.Bool.{false≢true}
use Rattle.std.proofs.lemmas.Str.{IsUtf8-from_is_utf8, is_utf8-from_IsUtf8}
use Rattle.serde_json.specs.Data.{Data}
use Rattle.serde_json.specs.Read.{read}
use Rattle.list_types.specs.declared.memory.Refusal.{Refusal}
use Rattle.list_types.specs.declared.memory.Refusal.TheVariants.{NoMemory, For}
use Rattle.bm_json.specs.declared.faults.JsonFault.{JsonFault}
use Rattle.bm_json.specs.Program.{IsOfRule, Refused, Finds, json_in, program_in, flaw_of, flaw_by, Answers}
use Rattle.bm_records.specs.declared.raw.RawProgram.{RawProgram}

-- what is told of the rule L1 is a refusal where nothing is read
pub refuses : {A : Type 0} (e : Refusal JsonFault) (read : Option A) → IsOfRule e 1 → read ≡ None → Refused e read
refuses NoMemory read rule none = tt
refuses (For fault) read rule none = (none, rule)

text_is : (b : Bool) (bytes text : List ℕ) (found : Option Data) → b ≡ true → text ≡ bytes → read text ≡ found → cond b (read bytes) None ≡ found
text_is true bytes text found h e r = ap read (sym e) ∙ r
text_is false bytes text found h e r = absurd (false≢true h)

-- the value of a text in UTF-8
pub of_text : (bytes text : List ℕ) (found : Option Data) → IsUtf8 bytes → text ≡ bytes → read text ≡ found → json_in bytes ≡ found
of_text bytes text found utf8 e r = text_is (is_utf8 bytes) bytes text found (is_utf8-from_IsUtf8 bytes utf8) e r

no_text_if : (b : Bool) (bytes : List ℕ) → is_utf8 bytes ≡ b → (IsUtf8 bytes → ⊥) → cond b (read bytes) None ≡ None
no_text_if true bytes e h = absurd (h (IsUtf8-from_is_utf8 bytes e))
no_text_if false bytes e h = refl

-- bytes that are no UTF-8 are no JSON
pub of_no_text : (bytes : List ℕ) → (IsUtf8 bytes → ⊥) → json_in bytes ≡ None
of_no_text bytes h = no_text_if (is_utf8 bytes) bytes refl h

-- what is told of a rule is the answer where that rule is the first
pub breaks : (bytes : List ℕ) (e : Refusal JsonFault) (program : RawProgram) (rule : ℕ) → IsOfRule e rule → program_in bytes ≡ Some program → flaw_of program ≡ Some rule → Answers bytes (Err e)
breaks bytes NoMemory program rule is found broken = tt
breaks bytes (For fault) program rule is found broken = ap flaw_by found ∙ (broken ∙ ap Some (sym is))

-- a refusal by the rule L1 is the answer
pub is_first : (bytes : List ℕ) (e : Refusal JsonFault) → Refused e (program_in bytes) → Answers bytes (Err e)
is_first bytes NoMemory refused = tt
is_first bytes (For fault) refused = ap flaw_by refused.0 ∙ ap Some (sym refused.1)

refused_by : {A B : Type 0} (e : Refusal JsonFault) (read : Option A) (all : Option B) → Refused e read → (read ≡ None → all ≡ None) → Refused e all
refused_by NoMemory read all refused f = tt
refused_by (For fault) read all refused f = (f refused.0, refused.1)

-- where a part is refused, so is the whole that has nothing without it
pub whole_refused : {A B : Type 0} (x : Result B (Refusal JsonFault)) (e : Refusal JsonFault) (read : Option A) (all : Option B) → x ≡ Err e → Refused e read → (read ≡ None → all ≡ None) → Finds (λ (y : B). y) x all
whole_refused x e read all is refused f = subst (λ y. Finds (λ z. z) y all) (sym is) (refused_by e read all refused f)
