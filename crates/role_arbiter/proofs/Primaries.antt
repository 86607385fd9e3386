-- There is one primary at most, and none takes over.
use Rattle.std.proofs.Common.{◌≡◌, ℕ, Bool, true, false, cond, eqb, not, List, [], ◌∷◌, Option, Some, None, refl, sym, ap, ◌∙◌, subst, arith, inl, inr}
use Rattle.std.specs.List.{AllByRecursion as Each, filter, find}
use Rattle.std.proofs.lemmas.Bool.{false≢true}
use Rattle.std.proofs.lemmas.Bool.Decides.{nat_tests}
use Rattle.p4_types.specs.declared.messages.Uint128.{Uint128}
use Rattle.role_arbiter.specs.declared.sessions.Session.{Session}
use Rattle.role_arbiter.specs.Election.{election_number}
use Rattle.role_arbiter.specs.State.{greatest_in, bears}
use Rattle.role_arbiter.specs.Telling.{is_caller}
use Rattle.role_arbiter.specs.Laws.{HaveOwnIds, EachHasOwnId, IsAmong, OnePrimary, NobodyTakesOver}

-- what it is that a session bears an election id
record Bears (role : ℕ) (id : Uint128) (session : Session) : Type 0 where
  role_is : session.role ≡ role
  id_is : election_number session.election_id ≡ election_number id
  not_zero : election_number session.election_id ≡ 0 → ⊥

bears_is : (role : ℕ) (id : Uint128) (session : Session) → bears role id session ≡ true → Bears role id session
bears_is role id session e = record { role_is = grind (arith, nat_tests); id_is = grind (arith, nat_tests); not_zero = λ zero. grind (arith, nat_tests) }

never_both : (role : ℕ) (id : Uint128) (a b : Session) → HaveOwnIds a b → bears role id a ≡ true → bears role id b ≡ true → ⊥
never_both role id a b own e f =
    let first = bears_is role id a e in
    let second = bears_is role id b f in
    first.not_zero (own.zero_alone (first.role_is ∙ sym second.role_is) (first.id_is ∙ sym second.id_is))

own_of : (a b : Session) (sessions : List Session) → Each (HaveOwnIds a) sessions → IsAmong b sessions → HaveOwnIds a b
own_of a b [] all among = absurd among
own_of a b (first ∷ rest) all (inl e) = subst (λ (x : Session). HaveOwnIds a x) (sym e) all.0
own_of a b (first ∷ rest) all (inr among) = own_of a b rest all.1 among

found_first : (b : Bool) (session first : Session) (others : Option Session) → session ≡ first → b ≡ true → cond b (Some first) others ≡ Some session
found_first true session first others e h = ap (λ x. Some x) (sym e)
found_first false session first others e h = absurd (false≢true h)

found_behind : (role : ℕ) (id : Uint128) (session first : Session) (b : Bool) (others : Option Session) → b ≡ bears role id first → HaveOwnIds first session → bears role id session ≡ true → others ≡ Some session → cond b (Some first) others ≡ Some session
found_behind role id session first true others e own is h = absurd (never_both role id first session own (sym e) is)
found_behind role id session first false others e own is h = h

find_bearer : (role : ℕ) (id : Uint128) (session : Session) (sessions : List Session) → EachHasOwnId sessions → IsAmong session sessions → bears role id session ≡ true → find (λ other. bears role id other) sessions ≡ Some session
find_bearer role id session [] own among is = absurd among
find_bearer role id session (first ∷ rest) own (inl e) is = found_first (bears role id first) session first _ e (sym (ap (λ (x : Session). bears role id x) e) ∙ is)
find_bearer role id session (first ∷ rest) own (inr among) is =
    found_behind role id session first (bears role id first) _ refl (own_of first session rest own.0 among) is (find_bearer role id session rest own.1 among is)

pub one_primary : OnePrimary
one_primary state session sound among is = find_bearer session.role (greatest_in state.named session.role) session state.sessions sound.own_ids among is

bears_not : (role : ℕ) (id : Uint128) (a b : Session) (t : Bool) → t ≡ bears role id b → HaveOwnIds a b → bears role id a ≡ true → t ≡ false
bears_not role id a b false e own is = refl
bears_not role id a b true e own is = absurd (never_both role id a b own is (sym e))

pub none_found_head : {X : Type 0} (b : Bool) (x : X) (others : Option X) → b ≡ false → others ≡ None → cond b (Some x) others ≡ None
none_found_head false x others e h = h
none_found_head true x others e h = absurd (false≢true (sym e))

-- behind one that bears the election id there is none that does, and none is kept
none_behind_head : (role : ℕ) (id : Uint128) (first : Session) (kept : Bool) (rest : List Session) → bears role id first ≡ false → find (λ other. bears role id other) rest ≡ None → find (λ other. bears role id other) (cond kept (first ∷ rest) rest) ≡ None
none_behind_head role id first true rest e h = none_found_head _ first _ e h
none_behind_head role id first false rest e h = h

none_behind : (role : ℕ) (id : Uint128) (test : Session → Bool) (bearer : Session) (sessions : List Session) → bears role id bearer ≡ true → Each (HaveOwnIds bearer) sessions → find (λ other. bears role id other) (filter test sessions) ≡ None
none_behind role id test bearer [] is own = refl
none_behind role id test bearer (first ∷ rest) is own =
    none_behind_head role id first (test first) (filter test rest) (bears_not role id bearer first _ refl own.0 is) (none_behind role id test bearer rest is own.1)

abbrev pub of_others : ℕ → Session → Bool
of_others caller session = not (eqb session.caller caller)

ended_head : (role : ℕ) (id : Uint128) (caller : ℕ) (first : Session) (b same : Bool) (rest : List Session) → b ≡ bears role id first → same ≡ eqb first.caller caller → Each (HaveOwnIds first) rest
    → is_caller caller (cond b (Some first) (find (λ other. bears role id other) rest)) ≡ true
    → (is_caller caller (find (λ other. bears role id other) rest) ≡ true → find (λ other. bears role id other) (filter (of_others caller) rest) ≡ None)
    → find (λ other. bears role id other) (cond (not same) (first ∷ filter (of_others caller) rest) (filter (of_others caller) rest)) ≡ None
ended_head role id caller first true true rest e f own is h = none_behind role id (of_others caller) first rest (sym e) own
ended_head role id caller first true false rest e f own is h = absurd (false≢true (f ∙ is))
ended_head role id caller first false true rest e f own is h = h is
ended_head role id caller first false false rest e f own is h = none_found_head _ first _ (sym e) (h is)

ended : (role : ℕ) (id : Uint128) (caller : ℕ) (sessions : List Session) → EachHasOwnId sessions → is_caller caller (find (λ other. bears role id other) sessions) ≡ true → find (λ other. bears role id other) (filter (of_others caller) sessions) ≡ None
ended role id caller [] own is = absurd (false≢true is)
ended role id caller (first ∷ rest) own is = ended_head role id caller first (bears role id first) (eqb first.caller caller) rest refl refl own.0 is (λ more. ended role id caller rest own.1 more)

stays_head : (role : ℕ) (id : Uint128) (caller : ℕ) (first : Session) (b same : Bool) (rest : List Session) → b ≡ bears role id first → same ≡ eqb first.caller caller
    → is_caller caller (cond b (Some first) (find (λ other. bears role id other) rest)) ≡ false
    → (is_caller caller (find (λ other. bears role id other) rest) ≡ false → find (λ other. bears role id other) (filter (of_others caller) rest) ≡ find (λ other. bears role id other) rest)
    → find (λ other. bears role id other) (cond (not same) (first ∷ filter (of_others caller) rest) (filter (of_others caller) rest)) ≡ cond b (Some first) (find (λ other. bears role id other) rest)
stays_head role id caller first true true rest e f is h = absurd (false≢true (sym (f ∙ is)))
stays_head role id caller first true false rest e f is h = rw (sym e) refl
stays_head role id caller first false true rest e f is h = h is
stays_head role id caller first false false rest e f is h = rw (sym e) (h is)

stays : (role : ℕ) (id : Uint128) (caller : ℕ) (sessions : List Session) → is_caller caller (find (λ other. bears role id other) sessions) ≡ false → find (λ other. bears role id other) (filter (of_others caller) sessions) ≡ find (λ other. bears role id other) sessions
stays role id caller [] is = refl
stays role id caller (first ∷ rest) is = stays_head role id caller first (bears role id first) (eqb first.caller caller) rest refl refl is (λ more. stays role id caller rest more)

pub nobody_takes_over : NobodyTakesOver
nobody_takes_over = record {
  primary_ends = λ state caller role sound is. ended role (greatest_in state.named role) caller state.sessions sound.own_ids is;
  other_ends = λ state caller role is. stays role (greatest_in state.named role) caller state.sessions is;
}
