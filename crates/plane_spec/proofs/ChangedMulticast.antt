-- A change of a multicast group that is not refused keeps their order and their number, and needs no more rows than there are.
use Rattle.std.proofs.Common.{◌≡◌, ℕ, ◌+◌, ◌≤◌, ◌||◌, Bool, true, false, cond, not, eqb, ltb, List, [], ◌∷◌, ◌++◌, length, Option, Some, None, is_some, refl, subst, ap, arith}
use Rattle.std.specs.List.{filter, find, sum_by}
use Rattle.std.proofs.lemmas.Bool.{ltb-false}
use Rattle.std.proofs.lemmas.Bool.Decides.{nat_tests}
use Rattle.std.proofs.lemmas.List.Sums.{sum_by-append, sum_by-cons}
use Rattle.p4_types.specs.declared.multicast.MulticastChange.{MulticastChange}
use Rattle.p4_types.specs.declared.multicast.MulticastChange.TheVariants as multicast_changes
use Rattle.p4_types.specs.declared.multicast.MulticastGroup.{MulticastGroup}
use Rattle.p4_types.specs.declared.table.Room.{Room}
use Rattle.plane_spec.specs.Multicast.{multicast_limit, multicast_of, multicast_rows, with_multicast, multicast_changed}
use Rattle.plane_spec.specs.Planes.{if_present, multicast_modify_cause, multicast_cause_in}
use Rattle.plane_spec.proofs.ChangedProfiles.{no_cause, not_broken, neither, fewer}
use Rattle.plane_spec.proofs.KeptPlanes.{AreMulticastRising}
use Rattle.plane_spec.proofs.Keyed.{after_all, passes_filter, rising_filter, length-sum}

-- multicast groups that a plane may have in the place of its own, with so many rows left
pub record MayHave (room : ℕ) (old own : List MulticastGroup) : Type 0 where
  pub rising : AreMulticastRising own
  pub number : length own ≤ multicast_limit
  pub rows : sum_by multicast_rows own ≤ sum_by multicast_rows old + room

one_of_three : (a n v : ℕ) → cond (ltb a n) v 0 + cond (ltb n a) v 0 + cond (eqb a n) v 0 ≡ v
one_of_three a n v = grind (arith, nat_tests)

kept_sum : {X : Type 0} (f : X → ℕ) (b : Bool) (x : X) (ys : List X) → sum_by f (cond b (x ∷ ys) ys) ≡ cond b (f x) 0 + sum_by f ys
kept_sum f true x ys = sum_by-cons f x ys
kept_sum f false x ys = omega arith

-- a sum is that of the lower ones, the higher ones and those of the number
parts : (f : MulticastGroup → ℕ) (n : ℕ) (groups : List MulticastGroup)
    → sum_by f (filter (λ g. ltb g.id n) groups) + sum_by f (filter (λ g. ltb n g.id) groups) + sum_by f (filter (λ g. eqb g.id n) groups) ≡ sum_by f groups
parts f n [] = refl
parts f n (g ∷ groups) = omega (
  arith,
  parts f n groups,
  kept_sum f (ltb g.id n) g (filter (λ g. ltb g.id n) groups),
  kept_sum f (ltb n g.id) g (filter (λ g. ltb n g.id) groups),
  kept_sum f (eqb g.id n) g (filter (λ g. eqb g.id n) groups),
  one_of_three g.id n (f g),
  sum_by-cons f g groups,
)

found_here : (f : MulticastGroup → ℕ) (b : Bool) (g former : MulticastGroup) (others : List MulticastGroup) (o : Option MulticastGroup) → cond b (Some g) o ≡ Some former
    → (o ≡ Some former → f former ≤ sum_by f others) → f former ≤ sum_by f (cond b (g ∷ others) others)
found_here f true g former others o is later =
    let same : g ≡ former = cc in
    subst (λ x. f x ≤ sum_by f (g ∷ others)) same (omega (arith, sum_by-cons f g others))
found_here f false g former others o is later = later is

-- the one of the number is among those of the number
former_part : (f : MulticastGroup → ℕ) (n : ℕ) (former : MulticastGroup) (groups : List MulticastGroup) → multicast_of n groups ≡ Some former → f former ≤ sum_by f (filter (λ g. eqb g.id n) groups)
former_part f n former [] is = absurd (cc)
former_part f n former (g ∷ groups) is = found_here f (eqb g.id n) g former (filter (λ g. eqb g.id n) groups) (multicast_of n groups) is (former_part f n former groups)

-- a sum with one in the place of those of its number
pub sum_with : (f : MulticastGroup → ℕ) (group : MulticastGroup) (groups : List MulticastGroup)
    → sum_by f (with_multicast group groups) + sum_by f (filter (λ g. eqb g.id group.id) groups) ≡ sum_by f groups + f group
sum_with f group groups =
    let low = filter (λ (g : MulticastGroup). ltb g.id group.id) groups in
    let high = filter (λ (g : MulticastGroup). ltb group.id g.id) groups in
    omega (arith, parts f group.id groups, sum_by-append f low (group ∷ high), sum_by-cons f group high)

-- they still rise
rising_with : (group : MulticastGroup) (groups : List MulticastGroup) → AreMulticastRising groups → AreMulticastRising (with_multicast group groups)
rising_with group groups rising =
    let below : MulticastGroup → Bool = λ g. ltb g.id group.id in
    let above : MulticastGroup → Bool = λ g. ltb group.id g.id in
    after_all (λ g. 0) (λ g. g.id) group (filter below groups) (filter above groups) (passes_filter below groups) (passes_filter above groups)
    (rising_filter (λ g. 0) (λ g. g.id) below groups rising) (rising_filter (λ g. 0) (λ g. g.id) above groups rising)

modified : (found : Option MulticastGroup) (room : Room) (old : List MulticastGroup) (group : MulticastGroup) → multicast_of group.id old ≡ found → AreMulticastRising old → length old ≤ multicast_limit
    → multicast_modify_cause found room group ≡ None → MayHave room.rows old (with_multicast group old)
modified None room old group is rising number none = absurd (cc)
modified (Some former) room old group is rising number none =
    let left = ltb-false (room.rows + multicast_rows former) (multicast_rows group) (not_broken _ _ _ none) in record {
      rising = rising_with group old rising;
      number = omega (
        arith,
        number,
        sum_with (λ g. 1) group old,
        former_part (λ g. 1) group.id former old is,
        length-sum old,
        length-sum (with_multicast group old),
      );
      rows = omega (arith, left, sum_with multicast_rows group old, former_part multicast_rows group.id former old is);
    }

pub may_have : (change : MulticastChange) (room : Room) (old : List MulticastGroup) → AreMulticastRising old → length old ≤ multicast_limit → multicast_cause_in room old change ≡ None
    → MayHave room.rows old (multicast_changed old change)
may_have (multicast_changes.Insert group) room old rising number none =
    let present = no_cause (if_present (is_some (multicast_of group.id old))) _ none in
    let full = neither (ltb multicast_limit (length old + 1)) (ltb room.rows (multicast_rows group)) (not_broken _ _ _ present.1) in record {
      rising = rising_with group old rising;
      number = omega (arith, ltb-false multicast_limit (length old + 1) full.0, sum_with (λ g. 1) group old, length-sum old, length-sum (with_multicast group old));
      rows = omega (arith, ltb-false room.rows (multicast_rows group) full.1, sum_with multicast_rows group old);
    }
may_have (multicast_changes.Modify group) room old rising number none = modified (multicast_of group.id old) room old group refl rising number none
may_have (multicast_changes.Delete id) room old rising number none =
    let other : MulticastGroup → Bool = λ g. not (eqb g.id id) in record {
      rising = rising_filter (λ g. 0) (λ g. g.id) other old rising;
      number = omega (arith, number, fewer other (λ g. 1) old, length-sum old, length-sum (filter other old));
      rows = omega (arith, fewer other multicast_rows old);
    }
