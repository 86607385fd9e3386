-- Equality of digest data.
use Rattle.std.proofs.Common.{◌≡◌, ℕ, Bool, true, false, ◌&&◌, List, [], ◌∷◌, refl, ap, ◌∙◌}
use Rattle.std.specs.Str.{bytes_eq}
use Rattle.std.proofs.lemmas.Bool.{false≢true}
use Rattle.std.proofs.lemmas.Slice.Eq.{bytes_eq-Decides}
use Rattle.p4_types.specs.declared.messages.P4Data.{P4Data}
use Rattle.p4_types.specs.declared.messages.P4Data.TheVariants as data_of
use Rattle.digest_lists.specs.Data.{same_members, same_data}
use Rattle.digest_lists.specs.Laws.{SameIsEqual}

pub and_left : (p q : Bool) → (p && q) ≡ true → p ≡ true
and_left true q h = refl
and_left false q h = h

pub and_right : (p q : Bool) → (p && q) ≡ true → q ≡ true
and_right true q h = h
and_right false q h = absurd (false≢true h)

pub and_both : (p q : Bool) → p ≡ true → q ≡ true → (p && q) ≡ true
and_both true q h k = k
and_both false q h k = h

same_bytes_equal : (a b : List ℕ) → bytes_eq a b ≡ true → a ≡ b
same_bytes_equal a b h = (bytes_eq-Decides a b).0 h

bytes_same : (a : List ℕ) → bytes_eq a a ≡ true
bytes_same a = (bytes_eq-Decides a a).1 refl

members_equal : (a b : List (List ℕ)) → same_members a b ≡ true → a ≡ b
members_equal [] [] h = refl
members_equal [] (other ∷ others) h = absurd (false≢true h)
members_equal (first ∷ rest) [] h = absurd (false≢true h)
members_equal (first ∷ rest) (other ∷ others) h =
    ap (λ x. x ∷ rest) (same_bytes_equal first other (and_left _ _ h)) ∙ ap (λ l. other ∷ l) (members_equal rest others (and_right _ _ h))

members_same : (a : List (List ℕ)) → same_members a a ≡ true
members_same [] = refl
members_same (first ∷ rest) = and_both _ _ (bytes_same first) (members_same rest)

data_equal : (a b : P4Data) → same_data a b ≡ true → a ≡ b
data_equal (data_of.Bitstring a) (data_of.Bitstring b) h = ap data_of.Bitstring (same_bytes_equal a b h)
data_equal (data_of.Bitstring a) (data_of.Struct members) h = absurd (false≢true h)
data_equal (data_of.Struct members) (data_of.Bitstring b) h = absurd (false≢true h)
data_equal (data_of.Struct members) (data_of.Struct others) h = ap data_of.Struct (members_equal members others h)

pub data_same : (a : P4Data) → same_data a a ≡ true
data_same (data_of.Bitstring a) = bytes_same a
data_same (data_of.Struct members) = members_same members

pub same_is_equal : SameIsEqual
same_is_equal = record { equal = data_equal; same = data_same }
