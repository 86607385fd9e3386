-- What undoes a step gives back the roles before it.
use Rattle.std.proofs.Common.{◌≡◌, ℕ, ◌<◌, ◌-◌, Bool, true, false, cond, eqb, ltb, not, ◌||◌, List, [], ◌∷◌, ◌++◌, length, take, map, Option, Some, None, refl, sym, ap, ◌∙◌, subst, arith, length-append}
use Rattle.std.specs.Option.{is_some, option_map}
use Rattle.std.specs.List.{AllByRecursion as Each, filter, find, list_any, position_or_len}
use Rattle.std.proofs.lemmas.Bool.Decides.{nat_tests}
use Rattle.std.proofs.Math.Seq.{take-append_seam}
use Rattle.p4_types.specs.declared.messages.Uint128.{Uint128}
use Rattle.role_arbiter.specs.declared.sessions.Session.{Session}
use Rattle.role_arbiter.specs.declared.sessions.NamedRole.{NamedRole}
use Rattle.role_arbiter.specs.declared.undo.Step.{Step}
use Rattle.role_arbiter.specs.declared.undo.Step.TheVariants as steps
use Rattle.role_arbiter.specs.Arbitration.{replaced, inserted, with_session, received, arbitrated, left}
use Rattle.role_arbiter.specs.Laws.{IsRising, IsSound}
use Rattle.role_arbiter.specs.State.{RolesState, session_in}
use Rattle.role_arbiter.specs.Undo.{session_back, with_greatest, named_back, back}
use Rattle.role_arbiter.proofs.Places.{of_caller, of_role, raised, any_by_place, received_end}
use Rattle.role_arbiter.proofs.Primaries.{of_others, none_found_head}

found_by : {X : Type 0} (b : Bool) (x : X) (others : Option X) (any : Bool) → any ≡ is_some others → (b || any) ≡ is_some (cond b (Some x) others)
found_by true x others any e = refl
found_by false x others any e = e

-- an element passes just where one is found
any_found : {X : Type 0} (p : X → Bool) (xs : List X) → list_any p xs ≡ is_some (find p xs)
any_found p [] = refl
any_found p (x ∷ xs) = found_by (p x) x (find p xs) (list_any p xs) (any_found p xs)

none_found : {X : Type 0} (b : Bool) (x : X) (others : Option X) → cond b (Some x) others ≡ None → (b ≡ false) × (others ≡ None)
none_found false x others e = (refl, e)
none_found true x others e = absurd (cc)

same : (n m : ℕ) → n ≡ m → eqb m n ≡ true
same n m e = grind (arith, nat_tests)

found_caller_head : (b : Bool) (first former : Session) (others : Option Session) (caller : ℕ) → b ≡ eqb first.caller caller → (others ≡ Some former → former.caller ≡ caller) → cond b (Some first) others ≡ Some former → former.caller ≡ caller
found_caller_head true first former others caller e h found = let is : first ≡ former = cc in let at : first.caller ≡ caller = grind (arith, nat_tests) in cc
found_caller_head false first former others caller e h found = h found

-- a caller's session is of this caller
found_caller : (sessions : List Session) (caller : ℕ) (former : Session) → session_in sessions caller ≡ Some former → former.caller ≡ caller
found_caller [] caller former found = absurd (cc)
found_caller (first ∷ rest) caller former found = found_caller_head (of_caller caller first) first former (session_in rest caller) caller refl (found_caller rest caller former) found

-- A session that took the place of its caller's: the former one takes it again.
back_replaced_head : (b : Bool) (first new former : Session) (rest : List Session) → b ≡ eqb first.caller new.caller → former.caller ≡ new.caller → (session_in rest new.caller ≡ Some former → replaced (replaced rest new) former ≡ rest)
    → cond b (Some first) (session_in rest new.caller) ≡ Some former → replaced (cond b (new ∷ rest) (first ∷ replaced rest new)) former ≡ first ∷ rest
back_replaced_head true first new former rest e of h found =
    let is : first ≡ former = cc in
    rw (same former.caller new.caller of) (ap (λ (s : Session). s ∷ rest) (sym is))
back_replaced_head false first new former rest e of h found =
    let other : eqb first.caller former.caller ≡ false = rw of (sym e) in
    rw other (ap (λ l. first ∷ l) (h found))

back_replaced : (sessions : List Session) (new former : Session) → former.caller ≡ new.caller → session_in sessions new.caller ≡ Some former → replaced (replaced sessions new) former ≡ sessions
back_replaced [] new former of found = absurd (cc)
back_replaced (first ∷ rest) new former of found = back_replaced_head (eqb first.caller new.caller) first new former rest refl of (back_replaced rest new former of) found

-- without a caller's session all are of others
all_others_head : (b : Bool) (first : Session) (rest : List Session) (caller : ℕ) → b ≡ false → filter (of_others caller) rest ≡ rest → cond (not b) (first ∷ filter (of_others caller) rest) (filter (of_others caller) rest) ≡ first ∷ rest
all_others_head false first rest caller e h = ap (λ l. first ∷ l) h
all_others_head true first rest caller e h = absurd (cc)

all_others : (sessions : List Session) (caller : ℕ) → session_in sessions caller ≡ None → filter (of_others caller) sessions ≡ sessions
all_others [] caller none = refl
all_others (first ∷ rest) caller none =
    let both = none_found (eqb first.caller caller) first (session_in rest caller) none in
    all_others_head (eqb first.caller caller) first rest caller both.0 (all_others rest caller both.1)

-- A session that was made: it is filtered out.
back_inserted_head : (before : Bool) (first new : Session) (rest : List Session) → eqb first.caller new.caller ≡ false → filter (of_others new.caller) rest ≡ rest → filter (of_others new.caller) (inserted rest new) ≡ rest
    → filter (of_others new.caller) (cond before (new ∷ first ∷ rest) (first ∷ inserted rest new)) ≡ first ∷ rest
back_inserted_head true first new rest other all h = rw (same new.caller new.caller refl, other) (ap (λ l. first ∷ l) all)
back_inserted_head false first new rest other all h = rw other (ap (λ l. first ∷ l) h)

back_inserted : (sessions : List Session) (new : Session) → session_in sessions new.caller ≡ None → filter (of_others new.caller) (inserted sessions new) ≡ sessions
back_inserted [] new none = rw (same new.caller new.caller refl) refl
back_inserted (first ∷ rest) new none =
    let both = none_found (eqb first.caller new.caller) first (session_in rest new.caller) none in
    back_inserted_head (ltb new.caller first.caller) first new rest both.0 (all_others rest new.caller both.1) (back_inserted rest new both.1)

back_by : (sessions : List Session) (new : Session) (former : Option Session) → session_in sessions new.caller ≡ former → session_back new.caller former (cond (is_some former) (replaced sessions new) (inserted sessions new)) ≡ sessions
back_by sessions new None found = back_inserted sessions new found
back_by sessions new (Some former) found = back_replaced sessions new former (found_caller sessions new.caller former found) found

sessions_back : (sessions : List Session) (new : Session) → session_back new.caller (session_in sessions new.caller) (with_session sessions new) ≡ sessions
sessions_back sessions new =
    ap (λ (has : Bool). session_back new.caller (session_in sessions new.caller) (cond has (replaced sessions new) (inserted sessions new))) (any_found (of_caller new.caller) sessions) ∙ back_by sessions new (session_in sessions new.caller) refl

-- A role that was named has the greatest election id again that it had.
greatest_back_head : (b : Bool) (first known : NamedRole) (rest : List NamedRole) (role : ℕ) (id : Uint128) → b ≡ eqb first.role role → (find (of_role role) rest ≡ Some known → with_greatest (received rest role id) role known.greatest ≡ rest)
    → cond b (Some first) (find (of_role role) rest) ≡ Some known → with_greatest (cond b (raised first id ∷ rest) (first ∷ received rest role id)) role known.greatest ≡ first ∷ rest
greatest_back_head true first known rest role id e h found =
    let is : first ≡ known = cc in
    rw (sym e) (ap (λ (k : NamedRole). record { role = first.role; greatest = k.greatest } ∷ rest) (sym is))
greatest_back_head false first known rest role id e h found = rw (sym e) (ap (λ l. first ∷ l) (h found))

greatest_back : (named : List NamedRole) (role : ℕ) (id : Uint128) (known : NamedRole) → find (of_role role) named ≡ Some known → with_greatest (received named role id) role known.greatest ≡ named
greatest_back [] role id known found = absurd (cc)
greatest_back (first ∷ rest) role id known found = greatest_back_head (of_role role first) first known rest role id refl (greatest_back rest role id known) found

-- A role that was not is the last one.
received_last : (named : List NamedRole) (role : ℕ) (id : Uint128) → find (of_role role) named ≡ None → received named role id ≡ named ++ record { role = role; greatest = id } ∷ []
received_last named role id none =
    let past : ltb (position_or_len (of_role role) named) (length named) ≡ false = sym (any_by_place (of_role role) named) ∙ any_found (of_role role) named ∙ ap (λ known. is_some known) none in
    received_end named role id (grind (arith, nat_tests))

without_last : {X : Type 0} (xs : List X) (x : X) → take (length (xs ++ x ∷ []) - 1) (xs ++ x ∷ []) ≡ xs
without_last xs x = let e : length (xs ++ x ∷ []) - 1 ≡ length xs = omega (arith, length-append xs (x ∷ [])) in rw e (take-append_seam xs (x ∷ []))

named_back_by : (named : List NamedRole) (role : ℕ) (id : Uint128) (known : Option NamedRole) → find (of_role role) named ≡ known → named_back role (option_map (λ known. known.greatest) known) (received named role id) ≡ named
named_back_by named role id None found = ap (λ (l : List NamedRole). take (length l - 1) l) (received_last named role id found) ∙ without_last named (record { role = role; greatest = id })
named_back_by named role id (Some known) found = greatest_back named role id known found

named_again : (named : List NamedRole) (role : ℕ) (id : Uint128) → named_back role (option_map (λ known. known.greatest) (find (of_role role) named)) (received named role id) ≡ named
named_again named role id = named_back_by named role id (find (of_role role) named) refl

back_arbitrated : (state : RolesState) (new : Session) → back (steps.Entered new.caller new.role (session_in state.sessions new.caller) (option_map (λ known. known.greatest) (find (of_role new.role) state.named))) (arbitrated state new) ≡ state
back_arbitrated state new = let s = sessions_back state.sessions new in let n = named_again state.named new.role new.election_id in rw (s, n) refl

-- the roles before an arbitration
pub back_entered : (state after : RolesState) (new : Session) (former : Option Session) (greatest : Option Uint128) → former ≡ session_in state.sessions new.caller → greatest ≡ option_map (λ known. known.greatest) (find (of_role new.role) state.named) → after ≡ arbitrated state new
    → back (steps.Entered new.caller new.role former greatest) after ≡ state
back_entered state after new former greatest e1 e2 e3 = rw (e1, e2, e3) (back_arbitrated state new)

-- A session that ended is put back before those of greater callers.
above_found_head : (b : Bool) (n : ℕ) (first session : Session) (others : Option Session) → n < first.caller → (others ≡ Some session → n < session.caller) → cond b (Some first) others ≡ Some session → n < session.caller
above_found_head true n first session others below h found = let is : first ≡ session = cc in subst (λ (s : Session). n < s.caller) is below
above_found_head false n first session others below h found = h found

above_found : (n : ℕ) (sessions : List Session) (caller : ℕ) (session : Session) → Each (λ other. n < other) (map (λ session. session.caller) sessions) → session_in sessions caller ≡ Some session → n < session.caller
above_found n [] caller session all found = absurd (cc)
above_found n (first ∷ rest) caller session all found = above_found_head (of_caller caller first) n first session (session_in rest caller) all.0 (above_found n rest caller session all.1) found

differ : (n caller other : ℕ) → n ≡ caller → n < other → eqb other caller ≡ false
differ n caller other e below = grind (arith, nat_tests)

-- behind a caller's session all are of others
none_behind : (n caller : ℕ) (sessions : List Session) → n ≡ caller → Each (λ other. n < other) (map (λ session. session.caller) sessions) → session_in sessions caller ≡ None
none_behind n caller [] e all = refl
none_behind n caller (first ∷ rest) e all = none_found_head (of_caller caller first) first (session_in rest caller) (differ n caller first.caller e all.0) (none_behind n caller rest e all.1)

before_all : (first : Session) (rest : List Session) → Each (λ other. first.caller < other) (map (λ session. session.caller) rest) → inserted rest first ≡ first ∷ rest
before_all first [] all = refl
before_all first (next ∷ rest) all = let below = all.0 in let is : ltb first.caller next.caller ≡ true = grind (arith, nat_tests) in rw is refl

put_back_head : (b : Bool) (first session : Session) (rest : List Session) (caller : ℕ) → b ≡ eqb first.caller caller → Each (λ other. first.caller < other) (map (λ session. session.caller) rest)
    → (session_in rest caller ≡ Some session → inserted (filter (of_others caller) rest) session ≡ rest) → cond b (Some first) (session_in rest caller) ≡ Some session
    → inserted (cond (not b) (first ∷ filter (of_others caller) rest) (filter (of_others caller) rest)) session ≡ first ∷ rest
put_back_head true first session rest caller e all h found =
    let is : first ≡ session = cc in
    let at : first.caller ≡ caller = grind (arith, nat_tests) in
    ap (λ (l : List Session). inserted l session) (all_others rest caller (none_behind first.caller caller rest at all)) ∙ subst (λ (s : Session). inserted rest s ≡ first ∷ rest) is (before_all first rest all)
put_back_head false first session rest caller e all h found =
    let below = above_found first.caller rest caller session all found in
    let is : ltb session.caller first.caller ≡ false = grind (arith, nat_tests) in
    rw is (ap (λ l. first ∷ l) (h found))

put_back : (sessions : List Session) (caller : ℕ) (session : Session) → IsRising (map (λ session. session.caller) sessions) → session_in sessions caller ≡ Some session → inserted (filter (of_others caller) sessions) session ≡ sessions
put_back [] caller session rising found = absurd (cc)
put_back (first ∷ rest) caller session rising found = put_back_head (of_caller caller first) first session rest caller refl rising.0 (put_back rest caller session rising.1) found

-- the roles before a session ended
pub back_left : (state after : RolesState) (caller : ℕ) (session copy : Session) (step : Step) → IsSound state → Some session ≡ session_in state.sessions caller → copy ≡ session → step ≡ steps.Left copy → after ≡ left state caller → back step after ≡ state
back_left state after caller session copy step sound found e1 e2 e3 = let s = put_back state.sessions caller session sound.rising (sym found) in rw (e2, e1, e3) (rw s refl)

-- a caller without a session leaves the roles as they are
pub back_unchanged : (state after : RolesState) (caller : ℕ) (step : Step) → None ≡ session_in state.sessions caller → step ≡ steps.Nothing → after ≡ left state caller → back step after ≡ state
back_unchanged state after caller step none e1 e2 = let s = all_others state.sessions caller (sym none) in rw (e1, e2) (rw s refl)
