-- The greatest election ids that roles received.
use Rattle.std.proofs.Common.{◌≡◌, ◌≢◌, ℕ, suc, ◌<◌, ◌≤◌, max, Bool, true, false, cond, eqb, ltb, leb, not, ◌&&◌, ◌||◌, List, [], ◌∷◌, length, Some, refl, sym, ap, subst, arith}
use Rattle.std.specs.List.{find}
use Rattle.std.proofs.lemmas.Bool.Decides.{nat_tests}
use Rattle.p4_types.specs.declared.messages.Uint128.{Uint128}
use Rattle.role_arbiter.specs.declared.sessions.NamedRole.{NamedRole}
use Rattle.role_arbiter.specs.Arbitration.{is_named, lacks_role, received, greater}
use Rattle.role_arbiter.specs.Election.{election_number}
use Rattle.role_arbiter.specs.State.{greatest_in, greatest_or_zero}
use Rattle.role_arbiter.specs.Laws.{GreatestIsKept}
use Rattle.role_arbiter.proofs.Places.{raised}

pub zero_id : Uint128
zero_id = record { high = 0; low = 0 }

greater_by : (b : Bool) (x y : Uint128) → b ≡ ltb (election_number x) (election_number y) → election_number (cond b y x) ≡ max (election_number x) (election_number y)
greater_by true x y e = let h : election_number x < election_number y = grind (arith, nat_tests) in omega arith
greater_by false x y e = let h : election_number y ≤ election_number x = grind (arith, nat_tests) in omega arith

greater_is : (x y : Uint128) → election_number (greater x y) ≡ max (election_number x) (election_number y)
greater_is x y = greater_by (ltb (election_number x) (election_number y)) x y refl

yes : (role : ℕ) → eqb role role ≡ true
yes role = grind (arith, nat_tests)

no : (role other : ℕ) → other ≢ role → eqb role other ≡ false
no role other h = grind (arith, nat_tests)

same_head : (known : NamedRole) (rest : List NamedRole) (role : ℕ) (id : Uint128) (b : Bool) → b ≡ eqb known.role role → election_number (greatest_in (received rest role id) role) ≡ max (election_number (greatest_in rest role)) (election_number id)
    → election_number (greatest_in (cond b (raised known id ∷ rest) (known ∷ received rest role id)) role) ≡ max (election_number (greatest_or_zero (cond b (Some known) (find (λ known. eqb known.role role) rest)))) (election_number id)
same_head known rest role id true e h = rw (sym e) (greater_is known.greatest id)
same_head known rest role id false e h = rw (sym e) h

same_role : (named : List NamedRole) (role : ℕ) (id : Uint128) → election_number (greatest_in (received named role id) role) ≡ max (election_number (greatest_in named role)) (election_number id)
same_role [] role id = rw (yes role) (omega arith)
same_role (known ∷ rest) role id = same_head known rest role id (eqb known.role role) refl (same_role rest role id)

other_tail : (known : NamedRole) (b : Bool) (after rest : List NamedRole) (other : ℕ) → greatest_in after other ≡ greatest_in rest other
    → greatest_or_zero (cond b (Some known) (find (λ known. eqb known.role other) after)) ≡ greatest_or_zero (cond b (Some known) (find (λ known. eqb known.role other) rest))
other_tail known true after rest other same = refl
other_tail known false after rest other same = same

other_head : (known : NamedRole) (rest : List NamedRole) (role other : ℕ) (id : Uint128) (b : Bool) → b ≡ eqb known.role role → other ≢ role → greatest_in (received rest role id) other ≡ greatest_in rest other
    → greatest_in (cond b (raised known id ∷ rest) (known ∷ received rest role id)) other ≡ greatest_in (known ∷ rest) other
other_head known rest role other id true e h same = let is : eqb known.role other ≡ false = grind (arith, nat_tests) in rw is refl
other_head known rest role other id false e h same = other_tail known (eqb known.role other) (received rest role id) rest other same

other_role : (named : List NamedRole) (role other : ℕ) (id : Uint128) → other ≢ role → greatest_in (received named role id) other ≡ greatest_in named other
other_role [] role other id h = rw (no role other h) refl
other_role (known ∷ rest) role other id h = other_head known rest role other id (eqb known.role role) refl h (other_role rest role other id h)

pub greatest_is_kept : GreatestIsKept
greatest_is_kept = record { same_role = same_role; other_role = other_role }

-- what a role received is no greater after it
by_role : (named : List NamedRole) (role other : ℕ) (id : Uint128) (b : Bool) → b ≡ eqb other role → election_number (greatest_in named other) ≤ election_number (greatest_in (received named role id) other)
by_role named role other id true e =
    let same : other ≡ role = grind (arith, nat_tests) in
    subst (λ (r : ℕ). election_number (greatest_in named r) ≤ election_number (greatest_in (received named role id) r)) (sym same) (omega (arith, same_role named role id))
by_role named role other id false e =
    let differ : other ≢ role = grind (arith, nat_tests) in
    rw (other_role named role other id differ) (omega arith)

pub rises : (named : List NamedRole) (role other : ℕ) (id : Uint128) → election_number (greatest_in named other) ≤ election_number (greatest_in (received named role id) other)
rises named role other id = by_role named role other id (eqb other role) refl

pub reaches : (named : List NamedRole) (role : ℕ) (id : Uint128) → election_number id ≤ election_number (greatest_in (received named role id) role)
reaches named role id = omega (arith, same_role named role id)

received_length : (b any : Bool) (known : NamedRole) (rest : List NamedRole) (role : ℕ) (id : Uint128) → length (received rest role id) ≡ cond any (length rest) (suc (length rest))
    → length (cond b (raised known id ∷ rest) (known ∷ received rest role id)) ≡ cond (b || any) (suc (length rest)) (suc (suc (length rest)))
received_length true any known rest role id h = refl
received_length false true known rest role id h = ap (λ n. suc n) h
received_length false false known rest role id h = ap (λ n. suc n) h

pub length_received : (named : List NamedRole) (role : ℕ) (id : Uint128) → length (received named role id) ≡ cond (is_named named role) (length named) (suc (length named))
length_received [] role id = refl
length_received (known ∷ rest) role id = received_length (eqb known.role role) (is_named rest role) known rest role id (length_received rest role id)

pub one_more_at_most : (any : Bool) (limit len after : ℕ) → len ≤ limit → (not any && leb limit len) ≡ false → after ≡ cond any len (suc len) → after ≤ limit
one_more_at_most true limit len after few lacks e = omega arith
one_more_at_most false limit len after few lacks e = let room : len < limit = grind (arith, nat_tests) in omega arith

pub few_roles : (named : List NamedRole) (role : ℕ) (id : Uint128) → length named ≤ 64 → lacks_role named role ≡ false → length (received named role id) ≤ 64
few_roles named role id few lacks = one_more_at_most (is_named named role) 64 (length named) _ few lacks (length_received named role id)
