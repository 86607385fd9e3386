-- Where fields and references stand.
use Rattle.std.specs.Prelude.{◌≡◌, ℕ, ◌+◌, ◌≤◌, List, length, slice_index, None, if◌then◌else◌}
use Rattle.std.specs.Borrow.{Bor}
use Rattle.std.specs.BTreeMap.{BTreeMap}
use Rattle.std.specs.Str.{bytes_eq}
use Rattle.bm_records.specs.declared.raw.RawProgram.{RawProgram}
use Rattle.link_spec.specs.Fields.{fields_before}
use Rattle.name_index.specs.Places.{at_name}

-- these are the numbers of fields before each header up to one
abbrev pub AreFirsts : RawProgram → ℕ → List ℕ → Type 0
AreFirsts raw last firsts = (length firsts ≡ last + 1) × ((place : ℕ) → place ≤ last → slice_index firsts place ≡ fields_before raw place)

-- the name has no value any more
abbrev pub Takes : {V : Type 0} → BTreeMap (Bor (List ℕ)) V → BTreeMap (Bor (List ℕ)) V → List ℕ → Type 0
Takes old new name = (q : List ℕ) → at_name new q ≡ (if bytes_eq name q then None else at_name old q)
