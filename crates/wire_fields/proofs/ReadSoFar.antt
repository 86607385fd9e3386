-- Fields that are read one after another, as a loop over `Fields` reads them.
use Rattle.std.proofs.Common.{◌≡◌, ℕ, List, [], ◌∷◌, ◌++◌, refl, sym, ap, ◌∙◌, subst, append_assoc}
use Rattle.std.proofs.lemmas.List.{append-nil}
use Rattle.wire_fields.specs.Fields.{WireField, FieldSpells, Spells}
use Rattle.wire_fields.specs.Field.{Begins, AreRead}

pub read_none : (bytes : List ℕ) → AreRead [] bytes bytes
read_none bytes = record { front = []; spells = refl; bytes_are = refl }

Spells-push : (fields : List WireField) (front : List ℕ) (field : WireField) (more : List ℕ) → Spells fields front → FieldSpells field more → Spells (fields ++ field ∷ []) (front ++ more)
Spells-push [] front field more before spells = (more, [], spells, refl, ap (λ x. x ++ more) before ∙ sym (append-nil more))
Spells-push (first ∷ fields) front field more before spells =
    (before.0, before.1 ++ more, before.2, Spells-push fields before.1 field more before.3 spells, ap (λ x. x ++ more) before.4 ∙ append_assoc before.0 before.1 more)

pub read_more : (fields : List WireField) (bytes left : List ℕ) (field : WireField) (rest : List ℕ) → AreRead fields bytes left → Begins field left rest → AreRead (fields ++ field ∷ []) bytes rest
read_more fields bytes left field rest read begins = record {
  front = read.front ++ begins.front;
  spells = Spells-push fields read.front field begins.front read.spells begins.spells;
  bytes_are = read.bytes_are ∙ ap (λ x. read.front ++ x) begins.bytes_are ∙ sym (append_assoc read.front begins.front rest);
}

pub read_all : (fields : List WireField) (bytes left : List ℕ) → left ≡ [] → AreRead fields bytes left → Spells fields bytes
read_all fields bytes left e read =
    subst (λ (b : List ℕ). Spells fields b) (sym (read.bytes_are ∙ ap (λ x. read.front ++ x) e ∙ append-nil read.front)) read.spells
