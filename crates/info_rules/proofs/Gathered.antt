-- Lists that are gathered.
use Rattle.std.proofs.Common.{◌≡◌, List, [], ◌∷◌, map, refl, ap}
use Rattle.std.specs.List.{flat_map}

pub flat_map_single : {A B : Type 0} (f : A → B) (xs : List A) → flat_map (λ x. f x ∷ []) xs ≡ map f xs
flat_map_single f [] = refl
flat_map_single f (x ∷ xs) = ap (λ ys. f x ∷ ys) (flat_map_single f xs)
