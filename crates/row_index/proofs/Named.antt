-- The rows that have a name.
use Rattle.std.proofs.Common.{◌≡◌, ◌≢◌, ℕ, ◌∙◌, Bool, true, false, List, Option, Some, None, refl, sym, ap, subst}
use Rattle.std.specs.Prelude.{is_some, slice_get, IfNone}
use Rattle.std.specs.Bool.{OnTrue, OnFalse}
use Rattle.std.specs.Option.{IsSomeAnd, IsSome, option_map}
use Rattle.p4_types.specs.declared.table.Entry.{Entry}
use Rattle.p4_types.specs.declared.table.EntryName.{EntryName}
use Rattle.plane_spec.specs.Entries.{same_name}
use Rattle.plane_spec.proofs.Names.{names_equal}
use Rattle.row_index.specs.declared.asks.Ask.{Ask}
use Rattle.row_index.specs.declared.placed.Placed.{Placed}
use Rattle.row_index.specs.declared.shapes.Shape.{Shape}
use Rattle.row_index.specs.Cuts.{same_cuts, name_print_from}
use Rattle.row_index.specs.Index.{LeadsTo, LeadsToRow}
use Rattle.row_index.specs.Places.{Buckets, place_at}
use Rattle.row_index.specs.Search.{IsSearchable, IsOffered, IsOfShape, IsNamedAt, IsOther}
use Rattle.row_index.specs.Shapes.{Fits, FitsAt}
use Rattle.row_index.proofs.Covering.{read, leads_there, of_some}

clash : (b : Bool) → b ≡ true → b ≡ false → ⊥
clash b h k = cc

false_by : (b : Bool) → (b ≡ true → ⊥) → b ≡ false
false_by true never = absurd (never refl)
false_by false never = refl

pub none_then : (o : Option ℕ) (P Q : Type 0) → (P → Q) → IfNone o P → IfNone o Q
none_then None P Q then none = then none
none_then (Some place) P Q then none = none

-- what is linked at a place, if that is known, is not offered under another shape or fingerprint
pub not_of_shape : (places : List (Option Placed)) (shape print place : ℕ) (placed : Placed) → place_at places place ≡ Some placed → placed.shape ≢ shape → IsOffered places shape print place → ⊥
not_of_shape places shape print place placed e differs offered =
    let there = subst (λ (o : Option Placed). IsSomeAnd o (λ (p : Placed). (p.shape ≡ shape) × (p.print ≡ print))) e offered in
    differs there.0

pub not_of_print : (places : List (Option Placed)) (shape print place : ℕ) (placed : Placed) → place_at places place ≡ Some placed → placed.print ≢ print → IsOffered places shape print place → ⊥
not_of_print places shape print place placed e differs offered =
    let there = subst (λ (o : Option Placed). IsSomeAnd o (λ (p : Placed). (p.shape ≡ shape) × (p.print ≡ print))) e offered in
    differs there.1

some_row : (shapes : List Shape) (placed : Placed) (there : Option Entry) → LeadsToRow shapes placed there → IsSome there
some_row shapes placed None leads = absurd leads
some_row shapes placed (Some entry) leads = refl

-- where something is linked a row stands
pub live : (chains : Buckets) (shapes : List Shape) (asks : List Ask) (rows : ℕ → Option Entry) (place : ℕ) → IsSearchable chains shapes asks rows → IsSome (place_at chains.places place) → IsSome (rows place)
live chains shapes asks rows place searchable some = of_there (place_at chains.places place) refl some
  where
    of_there : (o : Option Placed) → place_at chains.places place ≡ o → IsSome o → IsSome (rows place)
    of_there None e some = cc
    of_there (Some placed) e some = some_row shapes placed (rows place) (searchable.leads place placed e)

named_there : (there : Option Entry) (name row : EntryName) → option_map (λ e. e.name) there ≡ Some row → same_name name row ≡ true → IsSomeAnd there (λ entry. same_name name entry.name ≡ true)
named_there None name row e same = cc
named_there (Some entry) name row e same = subst (λ (n : EntryName). same_name name n ≡ true) (sym (read (Some entry) row entry e refl)) same

-- a row is named, or it is not
pub named_true : (b : Bool) (places : List (Option Placed)) (rows : ℕ → Option Entry) (name row : EntryName) (place : ℕ) → b ≡ same_name name row → option_map (λ e. e.name) (rows place) ≡ Some row → is_some (place_at places place) ≡ true → OnTrue b (IsNamedAt places rows name place)
named_true true places rows name row place is e linked = (linked, named_there (rows place) name row e (sym is))
named_true false places rows name row place is e linked = tt

pub named_false : (b : Bool) (rows : ℕ → Option Entry) (name row : EntryName) (place : ℕ) (P : Type 0) → b ≡ same_name name row → option_map (λ e. e.name) (rows place) ≡ Some row → OnFalse b (P → IsOther rows name place)
named_false true rows name row place P is e = tt
named_false false rows name row place P is e = λ offered entry there. ap (same_name name) (read (rows place) row entry e there) ∙ sym is

module _ (chains : Buckets) (shapes : List Shape) (asks : List Ask) (rows : ℕ → Option Entry) (name : EntryName) (other number : ℕ) (shape : Shape) (searchable : IsSearchable chains shapes asks rows) (at : slice_get shapes number ≡ Some shape) where
  leads_at : (entry : Entry) → rows other ≡ Some entry → (o : Option Placed) → place_at chains.places other ≡ o → IsSomeAnd o (λ placed. placed.shape ≡ number) → (placed : Placed) × (place_at chains.places other ≡ Some placed) × (placed.shape ≡ number) × LeadsTo shapes placed entry.name
  leads_at entry e None there of_shape = absurd of_shape
  leads_at entry e (Some placed) there of_shape = (placed, there, of_shape, leads_there shapes placed (rows other) entry e (searchable.leads other placed there))

  -- a row of a shape that compares other parts has another name
  pub other_cuts : same_cuts shape.tests name.tests ≡ false → IsOfShape chains.places number other → IsOther rows name other
  other_cuts differ of_shape entry e = false_by (same_name name entry.name) (λ same.
      let to = leads_at entry e (place_at chains.places other) refl of_shape in
      let fits = of_some (slice_get shapes number) (Fits entry.name) shape at (subst (λ n. FitsAt shapes n entry.name) to.2 to.3.shape) in
      let equal : entry.name ≡ name = sym (names_equal name entry.name same) in
      clash (same_cuts shape.tests name.tests) (subst (λ (n : EntryName). same_cuts shape.tests n.tests ≡ true) equal fits.cuts) differ)

  -- a row of the shape that has the name has its fingerprint
  pub other_print : (print : ℕ) → print ≡ name_print_from number name.tests → (IsOffered chains.places number print other → IsOther rows name other) → IsOfShape chains.places number other → IsOther rows name other
  other_print print is unless of_shape entry e = false_by (same_name name entry.name) (λ same.
      let to = leads_at entry e (place_at chains.places other) refl of_shape in
      let equal : entry.name ≡ name = sym (names_equal name entry.name same) in
      let own : to.0.print ≡ print = subst (λ n. to.0.print ≡ name_print_from n entry.name.tests) to.2 to.3.print ∙ ap (λ (n : EntryName). name_print_from number n.tests) equal ∙ sym is in
      let offered = subst (λ (o : Option Placed). IsSomeAnd o (λ (p : Placed). (p.shape ≡ number) × (p.print ≡ print))) (sym to.1) (to.2, own) in
      clash (same_name name entry.name) same (unless offered entry e))
