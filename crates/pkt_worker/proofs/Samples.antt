-- Samples of digests, and the cells that counts hit.
use Rattle.std.proofs.Common.{◌≡◌, ◌∙◌, ap, sym, refl, ℕ, Bool, true, false, ◌||◌, if◌then◌else◌, List, [], ◌∷◌, find, map, Option, Some, None, option_map}
use Rattle.std.specs.List.{flat_map, list_any}
use Rattle.std.specs.Option.{is_some}
use Rattle.std.proofs.lemmas.List.Folds.{flat_map-map}
use Rattle.act_exec.specs.declared.marks.Count.{Count}
use Rattle.bm_expr.specs.Store.{Contents}
use Rattle.bm_pipeline.specs.declared.headers.FieldRef.{FieldRef}
use Rattle.canon_bytes.specs.ByteString.{canon}
use Rattle.packet_spec.specs.Walking.{cell_hit}
use Rattle.plane_spec.specs.Planes.{Plane}
use Rattle.pkt_worker.specs.Hits.{counted_by}
use Rattle.program_spec.specs.Actions.{Counted}
use Rattle.program_spec.specs.Stores.{read}

canon_all : (store : Contents) (fields : List FieldRef) → map canon (map (read store) fields) ≡ map (λ field. canon (read store field)) fields
canon_all store [] = refl
canon_all store (field ∷ fields) = ap (λ others. canon (read store field) ∷ others) (canon_all store fields)

-- fields that were read, in canonical form
pub canon_read : (store : Contents) (fields : List FieldRef) (numbers : List ℕ) → numbers ≡ map (read store) fields → map canon numbers ≡ map (λ field. canon (read store field)) fields
canon_read store fields numbers is = ap (λ xs. map canon xs) is ∙ canon_all store fields

-- the cells of counts as the code has them
pub cells_as : (plane : Plane) (counts : List Count) (counted : List Counted) → map counted_by counts ≡ counted
    → flat_map (λ count. cell_hit plane (counted_by count)) counts ≡ flat_map (cell_hit plane) counted
cells_as plane counts counted is = sym (flat_map-map (cell_hit plane) counted_by counts) ∙ ap (flat_map (cell_hit plane)) is

cased : {X : Type 0} (b : Bool) (x : X) (o : Option X) (any : Bool) → is_some o ≡ any → is_some (if b then Some x else o) ≡ (b || any)
cased true x o any rest = refl
cased false x o any rest = rest

found_if_any : {X : Type 0} (p : X → Bool) (xs : List X) → is_some (find p xs) ≡ list_any p xs
found_if_any p [] = refl
found_if_any p (x ∷ xs) = cased (p x) x (find p xs) (list_any p xs) (found_if_any p xs)

seen : {X Y : Type 0} (f : X → Y) (o : Option X) → is_some (option_map f o) ≡ is_some o
seen f None = refl
seen f (Some x) = refl

-- one was found exactly where there is any
pub any_found : {X Y : Type 0} (p : Y → Bool) (ys : List Y) (f : X → Y) (o : Option X) → option_map f o ≡ find p ys → is_some o ≡ list_any p ys
any_found p ys f o is = sym (seen f o) ∙ ap is_some is ∙ found_if_any p ys
