-- Equality of digest data (P4Runtime 1.3.0, "P4Data").
use Rattle.std.specs.Prelude.{ℕ, Bool, true, false, ◌&&◌, List, [], ◌∷◌}
use Rattle.std.specs.Str.{bytes_eq}
use Rattle.p4_types.specs.declared.messages.P4Data.{P4Data}
use Rattle.p4_types.specs.declared.messages.P4Data.TheVariants as data_of

-- the same byte strings in the same order
abbrev pub same_members : List (List ℕ) → List (List ℕ) → Bool
same_members [] [] = true
same_members [] (other ∷ others) = false
same_members (first ∷ rest) [] = false
same_members (first ∷ rest) (other ∷ others) = bytes_eq first other && same_members rest others

-- both are one bitstring, or both are structs of the same members
abbrev pub same_data : P4Data → P4Data → Bool
same_data (data_of.Bitstring a) (data_of.Bitstring b) = bytes_eq a b
same_data (data_of.Bitstring a) (data_of.Struct members) = false
same_data (data_of.Struct members) (data_of.Bitstring b) = false
same_data (data_of.Struct members) (data_of.Struct others) = same_members members others
