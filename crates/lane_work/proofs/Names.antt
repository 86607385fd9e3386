-- Lanes and their names: whose packets are whose.
use Rattle.std.proofs.Common.{◌≡◌, ℕ, zero, suc, Bool, true, false, eqb, List, [], ◌∷◌, ◌++◌, Some, refl, ap, ◌∙◌, arith}
use Rattle.std.specs.Prelude.{slice_get}
use Rattle.std.specs.List.{AllByRecursion}
use Rattle.std.proofs.lemmas.Bool.Decides.{nat_tests}
use Rattle.std.proofs.lemmas.List.Elements.{filter-append}
use Rattle.std.proofs.lemmas.List.{append-nil}
use Rattle.lane_work.proofs.Lists.{some_is, each_of_map, each_at, filter_all, filter_none}
use Rattle.lane_work.specs.Shares.{Share, IsShare, joined, names_of, Differ, outcomes}
use Rattle.p4_types.specs.declared.events.Start.{Start}
use Rattle.p4_types.specs.declared.records.Record.{Record}
use Rattle.p4_types.specs.declared.tape.Who.{Who}
use Rattle.p4_types.specs.declared.tape.Who.TheVariants as who
use Rattle.plane_spec.proofs.Lists.{All-weaken}
use Rattle.plane_spec.specs.Config.{Event}
use Rattle.switch_spec.specs.Carrying.{is_who, carried_on}
use Rattle.switch_spec.specs.Counts.{Carried}

eqb_self : (n : ℕ) → eqb n n ≡ true
eqb_self n = grind (arith, nat_tests)

eqb_other : (m n : ℕ) → eqb m n ≡ eqb n m
eqb_other m n = grind (arith, nat_tests)

pub is_who_self : (name : Who) → is_who name name ≡ true
is_who_self (who.Controller lane) = eqb_self lane
is_who_self (who.Worker lane) = eqb_self lane

pub is_who_other : (a b : Who) → is_who a b ≡ is_who b a
is_who_other (who.Controller a) (who.Controller b) = eqb_other a b
is_who_other (who.Controller a) (who.Worker b) = refl
is_who_other (who.Worker a) (who.Controller b) = refl
is_who_other (who.Worker a) (who.Worker b) = eqb_other a b

-- what is told of the lane is told of each of its records
pub named_alike : (name lane : Who) (b : Bool) (records : List Record) → AllByRecursion (λ (r : Record). r.who ≡ lane) records → is_who name lane ≡ b → AllByRecursion (λ (r : Record). is_who name r.who ≡ b) records
named_alike name lane b records own is = All-weaken (λ (r : Record). r.who ≡ lane) (λ (r : Record). is_who name r.who ≡ b) (λ r same. ap (is_who name) same ∙ is) records own

-- the same of its packets
named_packets : (name : Who) (b : Bool) (share : Share) → AllByRecursion (λ (r : Record). r.who ≡ share.who) (outcomes share.carried) → is_who name share.who ≡ b
    → AllByRecursion (λ (c : Carried). is_who name c.outcome.who ≡ b) share.carried
named_packets name b share own is = each_of_map (λ (r : Record). is_who name r.who ≡ b) (λ (c : Carried). c.outcome) share.carried (named_alike name share.who b (outcomes share.carried) own is)

-- of two lists of packets, those of a name
on_both : (name : Who) (xs ys : List Carried) → carried_on name (xs ++ ys) ≡ carried_on name xs ++ carried_on name ys
on_both name xs ys = filter-append (λ (c : Carried). is_who name c.outcome.who) xs ys

pub others_have_none : (start : Start) (list : List Event) (shares : List Share) (name : Who)
    → AllByRecursion (IsShare start list) shares → AllByRecursion (λ (other : Who). is_who name other ≡ false) (names_of shares) → carried_on name (joined shares) ≡ []
others_have_none start list [] name shared others = refl
others_have_none start list (share ∷ shares) name shared others =
    on_both name share.carried (joined shares)
    ∙ ap (λ (xs : List Carried). xs ++ carried_on name (joined shares)) (filter_none (λ (c : Carried). is_who name c.outcome.who) share.carried (named_packets name false share shared.0.own others.0))
    ∙ others_have_none start list shares name shared.1 others.1

own_of : (share : Share) → AllByRecursion (λ (r : Record). r.who ≡ share.who) (outcomes share.carried) → carried_on share.who share.carried ≡ share.carried
own_of share own = filter_all (λ (c : Carried). is_who share.who c.outcome.who) share.carried (named_packets share.who true share own (is_who_self share.who))

-- the lane at a place, or behind it
at_first : (start : Start) (list : List Event) (first : Share) (shares : List Share) (share : Share)
    → AllByRecursion (IsShare start list) (first ∷ shares) → Differ (names_of (first ∷ shares)) → Some first ≡ Some share → carried_on share.who (joined (first ∷ shares)) ≡ share.carried
at_first start list first shares share shared differ is =
    some_is (λ (s : Share). carried_on s.who (joined (first ∷ shares)) ≡ s.carried) first share is
    (on_both first.who first.carried (joined shares)
    ∙ ap (λ (xs : List Carried). xs ++ carried_on first.who (joined shares)) (own_of first shared.0.own)
    ∙ ap (λ (xs : List Carried). first.carried ++ xs) (others_have_none start list shares first.who shared.1 differ.0)
    ∙ append-nil first.carried)

pub each_has_its_own : (start : Start) (list : List Event) (shares : List Share) (place : ℕ) (share : Share)
    → AllByRecursion (IsShare start list) shares → Differ (names_of shares) → slice_get shares place ≡ Some share → carried_on share.who (joined shares) ≡ share.carried
each_has_its_own start list [] place share shared differ is = absurd (cc)
each_has_its_own start list (first ∷ shares) zero share shared differ is = at_first start list first shares share shared differ is
each_has_its_own start list (first ∷ shares) (suc place) share shared differ is =
    let own = shared.0.own in
    let apart : is_who first.who share.who ≡ false = each_at (λ (other : Share). is_who first.who other.who ≡ false) shares place share (each_of_map (λ (other : Who). is_who first.who other ≡ false) (λ (s : Share). s.who) shares differ.0) is in
    let other : is_who share.who first.who ≡ false = is_who_other share.who first.who ∙ apart in
    on_both share.who first.carried (joined shares)
    ∙ ap (λ (xs : List Carried). xs ++ carried_on share.who (joined shares)) (filter_none (λ (c : Carried). is_who share.who c.outcome.who) first.carried (named_packets share.who false first own other))
    ∙ each_has_its_own start list shares place share shared.1 differ.1 is
