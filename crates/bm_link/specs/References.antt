-- The action references of a table by the names of their actions.
use Rattle.std.specs.Prelude.{◌≡◌, ℕ, List, [], ◌∷◌, Option, Some, None, option_map, if◌then◌else◌}
use Rattle.std.specs.Borrow.{Bor}
use Rattle.std.specs.BTreeMap.{BTreeMap}
use Rattle.std.specs.List.{find}
use Rattle.std.specs.Option.{option_or}
use Rattle.p4_types.specs.declared.info.ActionRef.{ActionRef}
use Rattle.p4_types.specs.declared.info.Info.{Info}
use Rattle.p4_types.specs.declared.info.Table.{Table}
use Rattle.p4info_model.specs.Lookups.{action_at}
use Rattle.link_spec.specs.Tables.{has_name, reference_in, is_among}
use Rattle.name_index.specs.Places.{at_name}

-- the id of the first reference to an action of a name
abbrev pub reference_among : Info → List ActionRef → List ℕ → Option ℕ
reference_among info references name = option_map (λ reference. reference.id) (find (λ reference. has_name name (action_at info reference.id)) references)

-- the map has the id of the first reference to an action of each name
abbrev pub AreReferences : Info → List ActionRef → BTreeMap (Bor (List ℕ)) ℕ → Type 0
AreReferences info references ids = (q : List ℕ) → at_name ids q ≡ reference_among info references q

-- a reference is added, unless there is one to an action of its name
abbrev pub AddsReference : Info → BTreeMap (Bor (List ℕ)) ℕ → BTreeMap (Bor (List ℕ)) ℕ → ℕ → Type 0
AddsReference info old new id = (q : List ℕ) → at_name new q ≡ option_or (at_name old q) (if has_name q (action_at info id) then Some id else None)

-- the map has what a table's references give for each name but some
abbrev pub AreLeft : Info → Option Table → List (List ℕ) → BTreeMap (Bor (List ℕ)) ℕ → Type 0
AreLeft info given before ids = (q : List ℕ) → at_name ids q ≡ (if is_among before q then None else reference_in info q given)

-- names with those of some pairs before them, the last one first
abbrev pub behind : List (List ℕ) → List (ℕ × List ℕ) → List (List ℕ)
behind before [] = before
behind before (pair ∷ pairs) = behind (pair.1 ∷ before) pairs
