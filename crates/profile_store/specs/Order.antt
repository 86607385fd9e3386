-- Rows by rising keys, and places among them.
use Rattle.std.specs.Prelude.{◌≡◌, ℕ, ◌<◌, ◌≤◌, Bool, true, List, [], ◌∷◌, length, take, drop}
use Rattle.std.specs.List.{AllByRecursion, HoldsAt}
use Rattle.plane_spec.specs.Profiles.{stands_before}
use Rattle.profile_store.specs.declared.rows.GroupRow.{GroupRow}
use Rattle.profile_store.specs.declared.rows.MemberRow.{MemberRow}
use Rattle.profile_store.specs.declared.rows.SetCount.{SetCount}

-- each key is lower than those behind it
abbrev pub AreInOrder : {X K : Type 0} → (K → K → Bool) → (X → K) → List X → Type 0
AreInOrder lower key [] = Unit {0}
AreInOrder lower key (x ∷ xs) = AllByRecursion (λ y. lower (key x) (key y) ≡ true) xs × AreInOrder lower key xs

-- a row of the key stands at the place
pub record StandsAt {X K : Type 0} (key : X → K) (xs : List X) (at : K) (place : ℕ) : Type 0 where
  pub in_range : place < length xs
  pub key_is : HoldsAt (λ x. key x ≡ at) xs place

-- no row has the key, and one of it would go to the place
pub record WouldStandAt {X K : Type 0} (lower : K → K → Bool) (key : X → K) (xs : List X) (at : K) (place : ℕ) : Type 0 where
  pub in_range : place ≤ length xs
  pub below : AllByRecursion (λ x. lower (key x) at ≡ true) (take place xs)
  pub above : AllByRecursion (λ x. lower at (key x) ≡ true) (drop place xs)

-- a profile with an id stands before another
abbrev pub key_before : ℕ × ℕ → ℕ × ℕ → Bool
key_before key other = stands_before key.0 key.1 other.0 other.1

-- the profile and the id of a member
abbrev pub member_key : MemberRow → ℕ × ℕ
member_key row = (row.member.profile, row.member.id)

-- the profile and the id of a group
abbrev pub group_key : GroupRow → ℕ × ℕ
group_key row = (row.group.profile, row.group.id)

-- the profile of a count
abbrev pub set_key : SetCount → ℕ
set_key set = set.profile
