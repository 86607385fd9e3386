-- Where a session or a role stands in its list.
use Rattle.std.proofs.Common.{◌≡◌, ℕ, suc, ◌<◌, ◌≤◌, Bool, true, false, cond, eqb, ltb, leb, not, ◌||◌, ◌&&◌, List, [], ◌∷◌, ◌++◌, length, get_or, set, Some, None, refl, sym, ap, ◌∙◌, arith}
use Rattle.std.proofs.lemmas.Bool.{false≢true}
use Rattle.std.proofs.lemmas.Bool.Decides.{nat_tests}
use Rattle.std.specs.List.{list_any, position_or_len, position, insert}
use Rattle.role_arbiter.specs.declared.sessions.Session.{Session}
use Rattle.role_arbiter.specs.declared.sessions.NamedRole.{NamedRole}
use Rattle.p4_types.specs.declared.messages.Uint128.{Uint128}
use Rattle.role_arbiter.specs.Arbitration.{has_session, is_named, lacks_session, lacks_role, with_session, replaced, inserted, received, greater}
use Rattle.role_arbiter.specs.Undo.{with_greatest}

-- a session of this caller
abbrev pub of_caller : ℕ → Session → Bool
of_caller caller session = eqb session.caller caller

abbrev pub above : ℕ → Session → Bool
above caller session = ltb caller session.caller

abbrev pub of_role : ℕ → NamedRole → Bool
of_role role known = eqb known.role role

at_head : (any b : Bool) (n m len : ℕ) → any ≡ ltb n len → m ≡ suc n → (b || any) ≡ ltb (cond (not b) m 0) (suc len)
at_head any true n m len h e = grind (arith, nat_tests)
at_head any false n m len h e = rw (e, h) (grind (arith, nat_tests))

-- a list has an element that passes just where there is a place of one
pub any_by_place : {X : Type 0} (p : X → Bool) (xs : List X) → list_any p xs ≡ ltb (position_or_len p xs) (length xs)
any_by_place p [] = refl
any_by_place p (x ∷ xs) = at_head (list_any p xs) (p x) (position_or_len p xs) _ (length xs) (any_by_place p xs) (omega arith)

replaced_head : (session new : Session) (rest : List Session) (n m : ℕ) (b : Bool) → m ≡ suc n → (n < length rest → replaced rest new ≡ set rest n new) → cond (not b) m 0 < suc (length rest)
    → cond b (new ∷ rest) (session ∷ replaced rest new) ≡ set (session ∷ rest) (cond (not b) m 0) new
replaced_head session new rest n m true e h within = refl
replaced_head session new rest n m false e h within = rw e (ap (λ l. session ∷ l) (h (omega arith)))

pub replaced_at : (sessions : List Session) (new : Session) → position_or_len (of_caller new.caller) sessions < length sessions → replaced sessions new ≡ set sessions (position_or_len (of_caller new.caller) sessions) new
replaced_at [] new within = refl
replaced_at (session ∷ rest) new within = replaced_head session new rest (position_or_len (of_caller new.caller) rest) _ (of_caller new.caller session) (omega arith) (replaced_at rest new) within

inserted_head : (session new : Session) (rest : List Session) (n m : ℕ) (b : Bool) → m ≡ suc n → inserted rest new ≡ insert rest n new
    → cond b (new ∷ session ∷ rest) (session ∷ inserted rest new) ≡ insert (session ∷ rest) (cond (not b) m 0) new
inserted_head session new rest n m true e h = refl
inserted_head session new rest n m false e h = rw e (ap (λ l. session ∷ l) h)

pub inserted_at : (sessions : List Session) (new : Session) → inserted sessions new ≡ insert sessions (position_or_len (above new.caller) sessions) new
inserted_at [] new = refl
inserted_at (session ∷ rest) new = inserted_head session new rest (position_or_len (above new.caller) rest) _ (above new.caller session) (omega arith) (inserted_at rest new)

abbrev pub raised : NamedRole → Uint128 → NamedRole
raised known id = record known { greatest = greater known.greatest id }

received_head : (known d : NamedRole) (rest : List NamedRole) (role : ℕ) (id : Uint128) (n m : ℕ) (b : Bool) → m ≡ suc n → (n < length rest → received rest role id ≡ set rest n (raised (get_or rest n d) id)) → cond (not b) m 0 < suc (length rest)
    → cond b (raised known id ∷ rest) (known ∷ received rest role id) ≡ set (known ∷ rest) (cond (not b) m 0) (raised (get_or (known ∷ rest) (cond (not b) m 0) d) id)
received_head known d rest role id n m true e h within = refl
received_head known d rest role id n m false e h within = rw e (ap (λ l. known ∷ l) (h (omega arith)))

pub received_at : (named : List NamedRole) (role : ℕ) (id : Uint128) (d : NamedRole) → position_or_len (of_role role) named < length named
    → received named role id ≡ set named (position_or_len (of_role role) named) (raised (get_or named (position_or_len (of_role role) named) d) id)
received_at [] role id d within = absurd (omega arith)
received_at (known ∷ rest) role id d within = received_head known d rest role id (position_or_len (of_role role) rest) _ (of_role role known) (omega arith) (received_at rest role id d) within

received_past : (known : NamedRole) (rest : List NamedRole) (role : ℕ) (id : Uint128) (n m : ℕ) (b : Bool) → m ≡ suc n → (length rest ≤ n → received rest role id ≡ rest ++ record { role = role; greatest = id } ∷ []) → suc (length rest) ≤ cond (not b) m 0
    → cond b (raised known id ∷ rest) (known ∷ received rest role id) ≡ known ∷ (rest ++ record { role = role; greatest = id } ∷ [])
received_past known rest role id n m true e h past = absurd (omega arith)
received_past known rest role id n m false e h past = ap (λ l. known ∷ l) (h (omega arith))

pub received_end : (named : List NamedRole) (role : ℕ) (id : Uint128) → length named ≤ position_or_len (of_role role) named → received named role id ≡ named ++ record { role = role; greatest = id } ∷ []
received_end [] role id past = refl
received_end (known ∷ rest) role id past = received_past known rest role id (position_or_len (of_role role) rest) _ (of_role role known) (omega arith) (received_end rest role id) past

same_place : (i n : ℕ) → Some n ≡ Some i → i ≡ n
same_place i n e = cc

no_place : (i : ℕ) → None ≡ Some i → ⊥
no_place i e = cc

some_place : (i n len : ℕ) (b : Bool) → b ≡ ltb n len → cond b (Some n) None ≡ Some i → (i ≡ n) × (n < len)
some_place i n len true t e = (same_place i n e, grind (arith, nat_tests))
some_place i n len false t e = absurd (no_place i e)

none_place : (n len : ℕ) (b : Bool) → b ≡ ltb n len → cond b (Some n) None ≡ None → len ≤ n
none_place n len true t e = absurd (no_place n (sym e))
none_place n len false t e = grind (arith, nat_tests)

pub at_place : {X : Type 0} (p : X → Bool) (xs : List X) (i : ℕ) → position p xs ≡ Some i → (i ≡ position_or_len p xs) × (position_or_len p xs < length xs)
at_place p xs i e = some_place i (position_or_len p xs) (length xs) _ refl e

pub at_no_place : {X : Type 0} (p : X → Bool) (xs : List X) → position p xs ≡ None → length xs ≤ position_or_len p xs
at_no_place p xs e = none_place (position_or_len p xs) (length xs) _ refl e

step_within : (b : Bool) (n len m : ℕ) → n ≤ len → m ≡ suc n → cond (not b) m 0 ≤ suc len
step_within true n len m h e = omega arith
step_within false n len m h e = omega arith

pub place_within : {X : Type 0} (p : X → Bool) (xs : List X) → position_or_len p xs ≤ length xs
place_within p [] = omega arith
place_within p (x ∷ xs) = step_within (p x) (position_or_len p xs) (length xs) _ (place_within p xs) (omega arith)

pub first_greater_some : (sessions : List Session) (caller i : ℕ) → position (above caller) sessions ≡ Some i → i ≡ position_or_len (above caller) sessions
first_greater_some sessions caller i e = (at_place (above caller) sessions i e).0

pub first_greater_none : (sessions : List Session) (caller : ℕ) → position (above caller) sessions ≡ None → length sessions ≡ position_or_len (above caller) sessions
first_greater_none sessions caller e = omega (arith, at_no_place (above caller) sessions e, place_within (above caller) sessions)

with_has : (has : Bool) (l m : List Session) → has ≡ true → cond has l m ≡ l
with_has true l m h = refl
with_has false l m h = absurd (false≢true h)

with_none : (has : Bool) (l m : List Session) → has ≡ false → cond has l m ≡ m
with_none false l m h = refl
with_none true l m h = absurd (false≢true (sym h))

is_within : (n len : ℕ) → n < len → ltb n len ≡ true
is_within n len h = grind (arith, nat_tests)

is_past : (n len : ℕ) → len ≤ n → ltb n len ≡ false
is_past n len h = grind (arith, nat_tests)

-- a session takes the place of its caller's
pub replaced_where : (sessions : List Session) (new : Session) (i : ℕ) → position (of_caller new.caller) sessions ≡ Some i → replaced sessions new ≡ set sessions i new
replaced_where sessions new i e =
    let at = at_place (of_caller new.caller) sessions i e in
    replaced_at sessions new at.1 ∙ ap (λ k. set sessions k new) (sym at.0)

replaced_nowhere_head : (session new : Session) (rest : List Session) (n m : ℕ) (b : Bool) → m ≡ suc n → (length rest ≤ n → replaced rest new ≡ rest) → suc (length rest) ≤ cond (not b) m 0 → cond b (new ∷ rest) (session ∷ replaced rest new) ≡ session ∷ rest
replaced_nowhere_head session new rest n m true e h past = absurd (omega arith)
replaced_nowhere_head session new rest n m false e h past = ap (λ l. session ∷ l) (h (omega arith))

replaced_past : (sessions : List Session) (new : Session) → length sessions ≤ position_or_len (of_caller new.caller) sessions → replaced sessions new ≡ sessions
replaced_past [] new past = refl
replaced_past (session ∷ rest) new past = replaced_nowhere_head session new rest (position_or_len (of_caller new.caller) rest) _ (of_caller new.caller session) (omega arith) (replaced_past rest new) past

pub replaced_nowhere : (sessions : List Session) (new : Session) → position (of_caller new.caller) sessions ≡ None → replaced sessions new ≡ sessions
replaced_nowhere sessions new e = replaced_past sessions new (at_no_place (of_caller new.caller) sessions e)

-- a caller that has a session
pub put_at : (sessions : List Session) (new : Session) (i : ℕ) → position (of_caller new.caller) sessions ≡ Some i → with_session sessions new ≡ set sessions i new
put_at sessions new i e =
    let at = at_place (of_caller new.caller) sessions i e in
    with_has _ _ _ (any_by_place (of_caller new.caller) sessions ∙ is_within _ _ at.1) ∙ replaced_where sessions new i e

-- a caller that has none
pub put_new : (sessions : List Session) (new : Session) → position (of_caller new.caller) sessions ≡ None → with_session sessions new ≡ inserted sessions new
put_new sessions new e = with_none _ _ _ (any_by_place (of_caller new.caller) sessions ∙ is_past _ _ (at_no_place (of_caller new.caller) sessions e))

no_room : (has : Bool) (limit len : ℕ) → has ≡ false → (not has && leb limit len) ≡ false → len < limit
no_room false limit len h e = grind (arith, nat_tests)
no_room true limit len h e = absurd (false≢true (sym h))

pub room_for_session : (sessions : List Session) (caller : ℕ) → position (of_caller caller) sessions ≡ None → lacks_session sessions caller ≡ false → length sessions < 32
room_for_session sessions caller e served = no_room (has_session sessions caller) 32 (length sessions) (any_by_place (of_caller caller) sessions ∙ is_past _ _ (at_no_place (of_caller caller) sessions e)) served

pub room_for_role : (named : List NamedRole) (role : ℕ) → position (of_role role) named ≡ None → lacks_role named role ≡ false → length named < 64
room_for_role named role e served = no_room (is_named named role) 64 (length named) (any_by_place (of_role role) named ∙ is_past _ _ (at_no_place (of_role role) named e)) served

pub receive_at : (named : List NamedRole) (role : ℕ) (id : Uint128) (i : ℕ) (d : NamedRole) → position (of_role role) named ≡ Some i → received named role id ≡ set named i (raised (get_or named i d) id)
receive_at named role id i d e =
    let at = at_place (of_role role) named i e in
    received_at named role id d at.1 ∙ ap (λ k. set named k (raised (get_or named k d) id)) (sym at.0)

pub receive_new : (named : List NamedRole) (role : ℕ) (id : Uint128) → position (of_role role) named ≡ None → received named role id ≡ named ++ record { role = role; greatest = id } ∷ []
receive_new named role id e = received_end named role id (at_no_place (of_role role) named e)

-- a role that was named has this as its greatest election id
abbrev given : NamedRole → Uint128 → NamedRole
given known id = record { role = known.role; greatest = id }

given_head : (known d : NamedRole) (rest : List NamedRole) (role : ℕ) (id : Uint128) (n m : ℕ) (b : Bool) → m ≡ suc n → (n < length rest → with_greatest rest role id ≡ set rest n (given (get_or rest n d) id)) → cond (not b) m 0 < suc (length rest)
    → cond b (given known id ∷ rest) (known ∷ with_greatest rest role id) ≡ set (known ∷ rest) (cond (not b) m 0) (given (get_or (known ∷ rest) (cond (not b) m 0) d) id)
given_head known d rest role id n m true e h within = refl
given_head known d rest role id n m false e h within = rw e (ap (λ l. known ∷ l) (h (omega arith)))

given_at : (named : List NamedRole) (role : ℕ) (id : Uint128) (d : NamedRole) → position_or_len (of_role role) named < length named
    → with_greatest named role id ≡ set named (position_or_len (of_role role) named) (given (get_or named (position_or_len (of_role role) named) d) id)
given_at [] role id d within = absurd (omega arith)
given_at (known ∷ rest) role id d within = given_head known d rest role id (position_or_len (of_role role) rest) _ (of_role role known) (omega arith) (given_at rest role id d) within

pub greatest_where : (named : List NamedRole) (role : ℕ) (id : Uint128) (i : ℕ) (d : NamedRole) → position (of_role role) named ≡ Some i → with_greatest named role id ≡ set named i (given (get_or named i d) id)
greatest_where named role id i d e =
    let at = at_place (of_role role) named i e in
    given_at named role id d at.1 ∙ ap (λ k. set named k (given (get_or named k d) id)) (sym at.0)

given_nowhere_head : (known : NamedRole) (rest : List NamedRole) (role : ℕ) (id : Uint128) (n m : ℕ) (b : Bool) → m ≡ suc n → (length rest ≤ n → with_greatest rest role id ≡ rest) → suc (length rest) ≤ cond (not b) m 0 → cond b (given known id ∷ rest) (known ∷ with_greatest rest role id) ≡ known ∷ rest
given_nowhere_head known rest role id n m true e h past = absurd (omega arith)
given_nowhere_head known rest role id n m false e h past = ap (λ l. known ∷ l) (h (omega arith))

given_past : (named : List NamedRole) (role : ℕ) (id : Uint128) → length named ≤ position_or_len (of_role role) named → with_greatest named role id ≡ named
given_past [] role id past = refl
given_past (known ∷ rest) role id past = given_nowhere_head known rest role id (position_or_len (of_role role) rest) _ (of_role role known) (omega arith) (given_past rest role id) past

pub greatest_nowhere : (named : List NamedRole) (role : ℕ) (id : Uint128) → position (of_role role) named ≡ None → with_greatest named role id ≡ named
greatest_nowhere named role id e = given_past named role id (at_no_place (of_role role) named e)

pub inserted_by_place : (sessions : List Session) (new : Session) (i : ℕ) → i ≡ position_or_len (above new.caller) sessions → inserted sessions new ≡ insert sessions i new
inserted_by_place sessions new i e = inserted_at sessions new ∙ ap (λ k. insert sessions k new) (sym e)

pub is_ok_items : (ok : Bool) (after before inserted wanted : List Session) → after ≡ cond ok inserted before → ok ≡ true → wanted ≡ inserted → after ≡ wanted
is_ok_items true after before inserted wanted e h w = e ∙ sym w
is_ok_items false after before inserted wanted e h w = absurd (false≢true h)
