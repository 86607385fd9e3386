-- What the roles have, by where it stands.
use Rattle.std.proofs.Common.{◌≡◌, ℕ, ◌<◌, Bool, true, false, cond, eqb, ltb, leb, not, ◌||◌, ◌&&◌, List, [], ◌∷◌, length, map, get_or, Option, Some, None, refl, sym, ap, ap₂, ◌∙◌, subst, arith}
use Rattle.std.specs.Prelude.{is_none}
use Rattle.std.specs.List.{AllByRecursion as Each, find, list_any, position, position_or_len, slice_get}
use Rattle.std.proofs.lemmas.Bool.Decides.{nat_tests}
use Rattle.std.proofs.lemmas.List.Folds.{find_at}
use Rattle.std.proofs.lemmas.Option.{slice_get_past, slice_get_read}
use Rattle.p4_types.specs.declared.code.ArbitrationRule.{ArbitrationRule}
use Rattle.p4_types.specs.declared.code.ArbitrationRule.TheVariants as rules
use Rattle.p4_types.specs.declared.calls.ArbitrationUpdate.{ArbitrationUpdate}
use Rattle.p4_types.specs.declared.messages.Uint128.{Uint128}
use Rattle.role_arbiter.specs.declared.sessions.NamedRole.{NamedRole}
use Rattle.role_arbiter.specs.declared.sessions.Session.{Session}
use Rattle.role_arbiter.specs.Arbitration.{cause, has_other_role, id_is_taken, received, greater}
use Rattle.role_arbiter.specs.Laws.{IsRising, IsSound}
use Rattle.role_arbiter.specs.Placing.{place_of, place_of_role, placed_at, has_role_beside, lacks, cause_at}
use Rattle.role_arbiter.specs.State.{RolesState, session_in, greatest_in}
use Rattle.role_arbiter.proofs.Places.{of_caller, of_role, raised, any_by_place, at_place}

found_by : {X : Type 0} (xs : List X) (n : ℕ) (b : Bool) → b ≡ ltb n (length xs) → placed_at (cond b (Some n) None) xs ≡ slice_get xs n
found_by xs n true e = refl
found_by xs n false e = sym (slice_get_past xs n (grind (arith, nat_tests)))

-- what stands at the place of the first that passes is the first that passes
pub found_at : {X : Type 0} (p : X → Bool) (xs : List X) → placed_at (position p xs) xs ≡ find p xs
found_at p xs = found_by xs (position_or_len p xs) _ refl ∙ sym (find_at p xs)

none_by : (n : ℕ) (b : Bool) → is_none (cond b (Some n) None) ≡ not b
none_by n true = refl
none_by n false = refl

-- there is no place where none passes
none_placed : {X : Type 0} (p : X → Bool) (xs : List X) → is_none (position p xs) ≡ not (list_any p xs)
none_placed p xs = none_by (position_or_len p xs) _ ∙ ap (λ b. not b) (sym (any_by_place p xs))

lacks_placed : {X : Type 0} (limit : ℕ) (p : X → Bool) (xs : List X) → (not (list_any p xs) && leb limit (length xs)) ≡ lacks limit (position p xs) xs
lacks_placed limit p xs = ap (λ b. b && leb limit (length xs)) (sym (none_placed p xs))

abbrev beside : ℕ → ℕ → Session → Bool
beside caller role session = eqb session.caller caller && not (eqb session.role role)

behind_head : (n caller role : ℕ) (first : Session) (rest : Bool) → n ≡ caller → n < first.caller → rest ≡ false → (beside caller role first || rest) ≡ false
behind_head n caller role first rest e below h = let is : eqb first.caller caller ≡ false = grind (arith, nat_tests) in rw (is, h) refl

-- behind a caller's session none is its
none_behind : (n caller role : ℕ) (sessions : List Session) → n ≡ caller → Each (λ other. n < other) (map (λ session. session.caller) sessions) → list_any (beside caller role) sessions ≡ false
none_behind n caller role [] e all = refl
none_behind n caller role (first ∷ rest) e all = behind_head n caller role first _ e all.0 (none_behind n caller role rest e all.1)

or_false : (b rest : Bool) → rest ≡ false → (b || rest) ≡ b
or_false true rest h = refl
or_false false rest h = h

beside_head : (b : Bool) (first : Session) (rest : List Session) (caller role : ℕ) → b ≡ eqb first.caller caller → Each (λ other. first.caller < other) (map (λ session. session.caller) rest)
    → list_any (beside caller role) rest ≡ has_role_beside role (session_in rest caller) → ((b && not (eqb first.role role)) || list_any (beside caller role) rest) ≡ has_role_beside role (cond b (Some first) (session_in rest caller))
beside_head true first rest caller role e all h = let at : first.caller ≡ caller = grind (arith, nat_tests) in or_false (not (eqb first.role role)) _ (none_behind first.caller caller role rest at all)
beside_head false first rest caller role e all h = h

-- a caller has one session, so that it has another role just where this one has
pub other_role : (sessions : List Session) (caller role : ℕ) → IsRising (map (λ session. session.caller) sessions) → has_other_role sessions caller role ≡ has_role_beside role (session_in sessions caller)
other_role [] caller role rising = refl
other_role (first ∷ rest) caller role rising = beside_head (eqb first.caller caller) first rest caller role refl rising.0 (other_role rest caller role rising.1)

abbrev by_tests : (other unread taken lacks : Bool) → Option ArbitrationRule
by_tests other unread taken lacks = cond other (Some rules.A2) (cond unread (Some rules.A3) (cond taken (Some rules.A4) (cond lacks (Some rules.A5) None)))

-- the rule that an update breaks
pub cause_placed : (state : RolesState) (caller : ℕ) (update : ArbitrationUpdate) → IsSound state
    → cause state caller update ≡ cause_at state (place_of state.sessions caller) (place_of_role state.named update.role) caller update
cause_placed state caller update sound =
    let role = update.role in
    let unread = is_none update.config in
    let taken = id_is_taken state.sessions caller role update.election_id in
    ap₂ (λ (b c : Bool). by_tests b unread taken c)
    (other_role state.sessions caller role sound.rising ∙ ap (has_role_beside role) (sym (found_at (of_caller caller) state.sessions)))
    (ap₂ (λ (b c : Bool). b || c) (lacks_placed 32 (of_caller caller) state.sessions) (lacks_placed 64 (of_role role) state.named))

-- the same, where the places are those
pub judged : (inside state : RolesState) (place known : Option ℕ) (caller : ℕ) (update : ArbitrationUpdate) (answer : Option ArbitrationRule) → IsSound inside → inside ≡ state
    → place ≡ place_of state.sessions caller → known ≡ place_of_role state.named update.role → cause_at state place known caller update ≡ answer → cause state caller update ≡ answer
judged inside state place known caller update answer sound is e f h =
    cause_placed state caller update (subst IsSound is sound) ∙ ap₂ (λ (p k : Option ℕ). cause_at state p k caller update) (sym e) (sym f) ∙ h

-- the greatest election id of a role, after it received one
abbrev greatest_now : Option NamedRole → Uint128 → Uint128
greatest_now None id = id
greatest_now (Some known) id = greater known.greatest id

same : (n : ℕ) → eqb n n ≡ true
same n = grind (arith, nat_tests)

now_head : (known : NamedRole) (rest : List NamedRole) (role : ℕ) (id : Uint128) (b : Bool) → b ≡ eqb known.role role → greatest_in (received rest role id) role ≡ greatest_now (find (of_role role) rest) id
    → greatest_in (cond b (raised known id ∷ rest) (known ∷ received rest role id)) role ≡ greatest_now (cond b (Some known) (find (of_role role) rest)) id
now_head known rest role id true e h = rw (sym e) refl
now_head known rest role id false e h = rw (sym e) h

now_is : (named : List NamedRole) (role : ℕ) (id : Uint128) → greatest_in (received named role id) role ≡ greatest_now (find (of_role role) named) id
now_is [] role id = rw (same role) refl
now_is (known ∷ rest) role id = now_head known rest role id (eqb known.role role) refl (now_is rest role id)

named_is : (named : List NamedRole) (role : ℕ) (id : Uint128) (place : Option ℕ) → place_of_role named role ≡ place → greatest_in (received named role id) role ≡ greatest_now (placed_at place named) id
named_is named role id place e = now_is named role id ∙ ap (λ o. greatest_now o id) (sym (found_at (of_role role) named) ∙ ap (λ (o : Option ℕ). placed_at o named) e)

-- of a role that was not named
pub greatest_new : (named : List NamedRole) (role : ℕ) (id : Uint128) → place_of_role named role ≡ None → greatest_in (received named role id) role ≡ id
greatest_new named role id e = named_is named role id None e

-- of one that was, which this one is
pub greatest_placed : (named : List NamedRole) (role : ℕ) (id : Uint128) (i : ℕ) (known : NamedRole) → place_of_role named role ≡ Some i → known ≡ get_or named i known → greatest_in (received named role id) role ≡ greater known.greatest id
greatest_placed named role id i known e is =
    let at = at_place (of_role role) named i e in
    let within : i < length named = omega (arith, at.0, at.1) in
    named_is named role id (Some i) e ∙ ap (λ o. greatest_now o id) (slice_get_read named (length named) i known refl within is)

-- what the places of a session say
pub session_placed : (sessions : List Session) (caller : ℕ) (place : Option ℕ) → place ≡ place_of sessions caller → placed_at place sessions ≡ session_in sessions caller
session_placed sessions caller place e = ap (λ (o : Option ℕ). placed_at o sessions) e ∙ found_at (of_caller caller) sessions

pub role_placed : (named : List NamedRole) (role : ℕ) (place : Option ℕ) → place ≡ place_of_role named role → placed_at place named ≡ find (of_role role) named
role_placed named role place e = ap (λ (o : Option ℕ). placed_at o named) e ∙ found_at (of_role role) named
