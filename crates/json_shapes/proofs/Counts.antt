-- How many items an array has.
use Rattle.std.proofs.Common.{◌≡◌, suc, not, eqb, List, [], ◌∷◌, length, refl, ap, arith}
use Rattle.std.proofs.lemmas.Bool.Decides.{nat_tests}
use Rattle.serde_json.specs.Data.{Data}
use Rattle.serde_json.specs.View.{items_of}
use Rattle.json_shapes.specs.Shapes.{are_items}
use Rattle.json_shapes.specs.Arrays.{count_of}

pub count_of_items : (ds : List Data) → count_of (items_of ds) ≡ length ds
count_of_items [] = refl
count_of_items (d ∷ ds) = ap suc (count_of_items ds)

pub are_there_items : (ds : List Data) → are_items (items_of ds) ≡ not (eqb (length ds) 0)
are_there_items [] = refl
are_there_items (d ∷ ds) = grind (arith, nat_tests)
