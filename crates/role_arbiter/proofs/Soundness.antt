-- Each step keeps a sound state sound.
use Rattle.std.proofs.Common.{◌≡◌, ◌≢◌, ℕ, suc, ◌<◌, ◌≤◌, Bool, true, false, cond, eqb, ltb, leb, not, ◌&&◌, ◌||◌, List, [], ◌∷◌, length, map, Option, Some, None, refl, sym, ap, ◌∙◌, subst, arith}
use Rattle.std.specs.List.{AllByRecursion as Each, filter, list_any}
use Rattle.std.proofs.lemmas.Bool.{false≢true}
use Rattle.std.proofs.lemmas.Bool.Decides.{nat_tests}
use Rattle.p4_types.specs.declared.calls.ArbitrationUpdate.{ArbitrationUpdate}
use Rattle.p4_types.specs.declared.messages.Uint128.{Uint128}
use Rattle.role_arbiter.specs.declared.sessions.Session.{Session}
use Rattle.role_arbiter.specs.Arbitration.{cause, asked, arbitrated, left, is_refused, has_other_role, has_session, id_is_taken, lacks_session, lacks_role, replaced, inserted, received}
use Rattle.role_arbiter.specs.Election.{election_number}
use Rattle.role_arbiter.specs.State.{RolesState, no_roles, bears, primary_of, session_in}
use Rattle.role_arbiter.specs.Laws.{IsRising, HaveOwnIds, EachHasOwnId, IsAtMostGreatest, IsSound, StaysSound, ToldInOrder}
use Rattle.role_arbiter.specs.Telling.{is_caller, others_of, told_by_end}
use Rattle.role_arbiter.proofs.Greatest.{rises, reaches, few_roles, one_more_at_most}
use Rattle.role_arbiter.proofs.Settling.{not_refused}

abbrev callers : List Session → List ℕ
callers sessions = map (λ session. session.caller) sessions

each_weaker : {X : Type 0} (P Q : X → Type 0) → ((x : X) → P x → Q x) → (xs : List X) → Each P xs → Each Q xs
each_weaker P Q h [] all = tt
each_weaker P Q h (x ∷ xs) all = (h x all.0, each_weaker P Q h xs all.1)

each_both : {X : Type 0} (P Q R : X → Type 0) → ((x : X) → P x → Q x → R x) → (xs : List X) → Each P xs → Each Q xs → Each R xs
each_both P Q R h [] all both = tt
each_both P Q R h (x ∷ xs) all both = (h x all.0 both.0, each_both P Q R h xs all.1 both.1)

kept_head : {X : Type 0} (P : X → Type 0) (x : X) (b : Bool) (xs : List X) → P x → Each P xs → Each P (cond b (x ∷ xs) xs)
kept_head P x true xs p all = (p, all)
kept_head P x false xs p all = all

each_kept : {X : Type 0} (P : X → Type 0) (test : X → Bool) (xs : List X) → Each P xs → Each P (filter test xs)
each_kept P test [] all = tt
each_kept P test (x ∷ xs) all = kept_head P x (test x) (filter test xs) all.0 (each_kept P test xs all.1)

-- the callers of the sessions that are kept are above what all were
above_kept_head : (n : ℕ) (s : Session) (b : Bool) (rest : List Session) → n < s.caller → Each (λ other. n < other) (callers rest) → Each (λ other. n < other) (callers (cond b (s ∷ rest) rest))
above_kept_head n s true rest p all = (p, all)
above_kept_head n s false rest p all = all

above_kept : (n : ℕ) (test : Session → Bool) (sessions : List Session) → Each (λ other. n < other) (callers sessions) → Each (λ other. n < other) (callers (filter test sessions))
above_kept n test [] all = tt
above_kept n test (s ∷ rest) all = above_kept_head n s (test s) (filter test rest) all.0 (above_kept n test rest all.1)

rising_kept_head : (s : Session) (b : Bool) (rest : List Session) → Each (λ other. s.caller < other) (callers rest) → IsRising (callers rest) → IsRising (callers (cond b (s ∷ rest) rest))
rising_kept_head s true rest all rising = (all, rising)
rising_kept_head s false rest all rising = rising

rising_kept : (test : Session → Bool) (sessions : List Session) → IsRising (callers sessions) → IsRising (callers (filter test sessions))
rising_kept test [] rising = tt
rising_kept test (s ∷ rest) rising = rising_kept_head s (test s) (filter test rest) (above_kept s.caller test rest rising.0) (rising_kept test rest rising.1)

own_kept_head : (s : Session) (b : Bool) (rest : List Session) → Each (HaveOwnIds s) rest → EachHasOwnId rest → EachHasOwnId (cond b (s ∷ rest) rest)
own_kept_head s true rest all own = (all, own)
own_kept_head s false rest all own = own

own_kept : (test : Session → Bool) (sessions : List Session) → EachHasOwnId sessions → EachHasOwnId (filter test sessions)
own_kept test [] own = tt
own_kept test (s ∷ rest) own = own_kept_head s (test s) (filter test rest) (each_kept (HaveOwnIds s) test rest own.0) (own_kept test rest own.1)

length_kept_head : {X : Type 0} (x : X) (b : Bool) (xs : List X) (n : ℕ) → length xs ≤ n → length (cond b (x ∷ xs) xs) ≤ suc n
length_kept_head x true xs n h = omega arith
length_kept_head x false xs n h = omega arith

length_kept : {X : Type 0} (test : X → Bool) (xs : List X) → length (filter test xs) ≤ length xs
length_kept test [] = omega arith
length_kept test (x ∷ xs) = length_kept_head x (test x) (filter test xs) (length xs) (length_kept test xs)

pub leave : (state : RolesState) (caller : ℕ) → IsSound state → IsSound (left state caller)
leave state caller sound =
    let test = λ (session : Session). not (eqb session.caller caller) in
    record {
      rising = rising_kept test state.sessions sound.rising;
      own_ids = own_kept test state.sessions sound.own_ids;
      at_most_greatest = each_kept (λ session. IsAtMostGreatest state.named session) test state.sessions sound.at_most_greatest;
      few_sessions = let few = sound.few_sessions in omega (arith, length_kept test state.sessions);
      few_roles = sound.few_roles;
    }

-- A session is put in the place of its caller's, or before those of greater callers. What holds of it and of all others holds of all.
each_replaced_head : (P : Session → Type 0) (s new : Session) (b : Bool) (rest after : List Session) → P new → P s → Each P rest → Each P after → Each P (cond b (new ∷ rest) (s ∷ after))
each_replaced_head P s new true rest after p q all both = (p, all)
each_replaced_head P s new false rest after p q all both = (q, both)

each_replaced : (P : Session → Type 0) (sessions : List Session) (new : Session) → P new → Each P sessions → Each P (replaced sessions new)
each_replaced P [] new p all = tt
each_replaced P (s ∷ rest) new p all = each_replaced_head P s new (eqb s.caller new.caller) rest (replaced rest new) p all.0 all.1 (each_replaced P rest new p all.1)

each_inserted_head : (P : Session → Type 0) (s new : Session) (b : Bool) (rest after : List Session) → P new → P s → Each P rest → Each P after → Each P (cond b (new ∷ s ∷ rest) (s ∷ after))
each_inserted_head P s new true rest after p q all both = (p, (q, all))
each_inserted_head P s new false rest after p q all both = (q, both)

each_inserted : (P : Session → Type 0) (sessions : List Session) (new : Session) → P new → Each P sessions → Each P (inserted sessions new)
each_inserted P [] new p all = (p, tt)
each_inserted P (s ∷ rest) new p all = each_inserted_head P s new (ltb new.caller s.caller) rest (inserted rest new) p all.0 all.1 (each_inserted P rest new p all.1)

same_callers_head : (s new : Session) (b : Bool) (rest after : List Session) → b ≡ eqb s.caller new.caller → callers after ≡ callers rest → callers (cond b (new ∷ rest) (s ∷ after)) ≡ s.caller ∷ callers rest
same_callers_head s new true rest after e h = let same : new.caller ≡ s.caller = grind (arith, nat_tests) in ap (λ n. n ∷ callers rest) same
same_callers_head s new false rest after e h = ap (λ l. s.caller ∷ l) h

same_callers : (sessions : List Session) (new : Session) → callers (replaced sessions new) ≡ callers sessions
same_callers [] new = refl
same_callers (s ∷ rest) new = same_callers_head s new (eqb s.caller new.caller) rest (replaced rest new) refl (same_callers rest new)

above_inserted_head : (n : ℕ) (s new : Session) (b : Bool) (rest after : List Session) → n < new.caller → n < s.caller → Each (λ other. n < other) (callers rest) → Each (λ other. n < other) (callers after) → Each (λ other. n < other) (callers (cond b (new ∷ s ∷ rest) (s ∷ after)))
above_inserted_head n s new true rest after p q all both = (p, (q, all))
above_inserted_head n s new false rest after p q all both = (q, both)

above_inserted : (n : ℕ) (sessions : List Session) (new : Session) → n < new.caller → Each (λ other. n < other) (callers sessions) → Each (λ other. n < other) (callers (inserted sessions new))
above_inserted n [] new p all = (p, tt)
above_inserted n (s ∷ rest) new p all = above_inserted_head n s new (ltb new.caller s.caller) rest (inserted rest new) p all.0 all.1 (above_inserted n rest new p all.1)

rising_inserted_head : (s new : Session) (b : Bool) (rest : List Session) → b ≡ ltb new.caller s.caller → s.caller ≢ new.caller → Each (λ other. s.caller < other) (callers rest) → IsRising (callers rest) → IsRising (callers (inserted rest new)) → IsRising (callers (cond b (new ∷ s ∷ rest) (s ∷ inserted rest new)))
rising_inserted_head s new true rest e differ all rising after =
    let below : new.caller < s.caller = grind (arith, nat_tests) in
    ((below, each_weaker (λ other. s.caller < other) (λ other. new.caller < other) (λ other h. omega arith) (callers rest) all), (all, rising))
rising_inserted_head s new false rest e differ all rising after =
    let below : s.caller < new.caller = grind (arith, nat_tests) in
    (above_inserted s.caller rest new below all, after)

abbrev OfOther : Session → Session → Type 0
OfOther new session = session.caller ≢ new.caller

rising_inserted : (sessions : List Session) (new : Session) → Each (OfOther new) sessions → IsRising (callers sessions) → IsRising (callers (inserted sessions new))
rising_inserted [] new others rising = (tt, tt)
rising_inserted (s ∷ rest) new others rising = rising_inserted_head s new (ltb new.caller s.caller) rest refl others.0 rising.0 rising.1 (rising_inserted rest new others.1 rising.1)

any_head : (a b : Bool) → (a || b) ≡ false → (a ≡ false) × (b ≡ false)
any_head false b e = (refl, e)
any_head true b e = absurd (false≢true (sym e))

none_passes : {X : Type 0} (test : X → Bool) (xs : List X) → list_any test xs ≡ false → Each (λ x. test x ≡ false) xs
none_passes test [] e = tt
none_passes test (x ∷ xs) e = let both = any_head (test x) (list_any test xs) e in (both.0, none_passes test xs both.1)

-- none of the others bears the election id of the session
abbrev OwnAmongOthers : Session → Session → Type 0
OwnAmongOthers new session = session.caller ≢ new.caller → HaveOwnIds new session

flipped : (a b : Session) → HaveOwnIds a b → HaveOwnIds b a
flipped a b own = record { zero_alone = λ same_role same_id. same_id ∙ own.zero_alone (sym same_role) (sym same_id) }

not_below : (s new first : Session) → s.caller ≡ new.caller → s.caller < first.caller → first.caller ≡ new.caller → ⊥
not_below s new first same below e = omega arith

-- sessions behind one of this caller are of others
others_behind : (new s : Session) (rest : List Session) → s.caller ≡ new.caller → Each (λ other. s.caller < other) (callers rest) → Each (OfOther new) rest
others_behind new s [] same all = tt
others_behind new s (first ∷ rest) same all = (λ e. (not_below s new first same all.0 e), others_behind new s rest same all.1)

own_of_others : (new : Session) (sessions : List Session) → Each (OwnAmongOthers new) sessions → Each (OfOther new) sessions → Each (HaveOwnIds new) sessions
own_of_others new sessions own others = each_both (OwnAmongOthers new) (OfOther new) (HaveOwnIds new) (λ x p q. p q) sessions own others

own_replaced_head : (s new : Session) (b : Bool) (rest : List Session) → b ≡ eqb s.caller new.caller → OwnAmongOthers new s → Each (OwnAmongOthers new) rest → Each (λ other. s.caller < other) (callers rest) → Each (HaveOwnIds s) rest → EachHasOwnId rest → EachHasOwnId (replaced rest new)
    → EachHasOwnId (cond b (new ∷ rest) (s ∷ replaced rest new))
own_replaced_head s new true rest e own owns above all each after =
    let same : s.caller ≡ new.caller = grind (arith, nat_tests) in
    (own_of_others new rest owns (others_behind new s rest same above), each)
own_replaced_head s new false rest e own owns above all each after =
    let differ : s.caller ≢ new.caller = grind (arith, nat_tests) in
    (each_replaced (HaveOwnIds s) rest new (flipped new s (own differ)) all, after)

own_replaced : (sessions : List Session) (new : Session) → IsRising (callers sessions) → Each (OwnAmongOthers new) sessions → EachHasOwnId sessions → EachHasOwnId (replaced sessions new)
own_replaced [] new rising owns each = tt
own_replaced (s ∷ rest) new rising owns each = own_replaced_head s new (eqb s.caller new.caller) rest refl owns.0 owns.1 rising.0 each.0 each.1 (own_replaced rest new rising.1 owns.1 each.1)

own_inserted_head : (s new : Session) (b : Bool) (rest : List Session) → HaveOwnIds new s → Each (HaveOwnIds new) rest → Each (HaveOwnIds s) rest → EachHasOwnId rest → EachHasOwnId (inserted rest new) → EachHasOwnId (cond b (new ∷ s ∷ rest) (s ∷ inserted rest new))
own_inserted_head s new true rest own owns all each after = ((own, owns), (all, each))
own_inserted_head s new false rest own owns all each after = (each_inserted (HaveOwnIds s) rest new (flipped new s own) all, after)

own_inserted : (sessions : List Session) (new : Session) → Each (HaveOwnIds new) sessions → EachHasOwnId sessions → EachHasOwnId (inserted sessions new)
own_inserted [] new owns each = (tt, tt)
own_inserted (s ∷ rest) new owns each = own_inserted_head s new (ltb new.caller s.caller) rest owns.0 owns.1 each.0 each.1 (own_inserted rest new owns.1 each.1)

length_replaced_head : (s new : Session) (b : Bool) (rest after : List Session) → length after ≡ length rest → length (cond b (new ∷ rest) (s ∷ after)) ≡ suc (length rest)
length_replaced_head s new true rest after h = refl
length_replaced_head s new false rest after h = ap (λ n. suc n) h

length_replaced : (sessions : List Session) (new : Session) → length (replaced sessions new) ≡ length sessions
length_replaced [] new = refl
length_replaced (s ∷ rest) new = length_replaced_head s new (eqb s.caller new.caller) rest (replaced rest new) (length_replaced rest new)

length_inserted_head : (s new : Session) (b : Bool) (rest after : List Session) → length after ≡ suc (length rest) → length (cond b (new ∷ s ∷ rest) (s ∷ after)) ≡ suc (suc (length rest))
length_inserted_head s new true rest after h = refl
length_inserted_head s new false rest after h = ap (λ n. suc n) h

pub length_inserted : (sessions : List Session) (new : Session) → length (inserted sessions new) ≡ suc (length sessions)
length_inserted [] new = refl
length_inserted (s ∷ rest) new = length_inserted_head s new (ltb new.caller s.caller) rest (inserted rest new) (length_inserted rest new)

-- the sessions are rising, each has its own election id, and P holds of each
record Kept (P : Session → Type 0) (sessions : List Session) : Type 0 where
  rising : IsRising (callers sessions)
  own_ids : EachHasOwnId sessions
  each : Each P sessions
  few : length sessions ≤ 32

of_others : (caller : ℕ) (new session : Session) → new.caller ≡ caller → eqb session.caller caller ≡ false → OfOther new session
of_others caller new session same e = grind (arith, nat_tests)

put_by : (P : Session → Type 0) (sessions : List Session) (new : Session) (has : Bool) → has ≡ has_session sessions new.caller → Kept P sessions → P new → Each (OwnAmongOthers new) sessions → (not has && leb 32 (length sessions)) ≡ false
    → Kept P (cond has (replaced sessions new) (inserted sessions new))
put_by P sessions new true e kept p owns lacks = record {
  rising = subst (λ (l : List ℕ). IsRising l) (sym (same_callers sessions new)) kept.rising;
  own_ids = own_replaced sessions new kept.rising owns kept.own_ids;
  each = each_replaced P sessions new p kept.each;
  few = let few = kept.few in omega (arith, length_replaced sessions new);
}
put_by P sessions new false e kept p owns lacks =
    let others : Each (OfOther new) sessions = each_weaker (λ session. eqb session.caller new.caller ≡ false) (OfOther new) (λ session h. of_others new.caller new session refl h) sessions (none_passes (λ session. eqb session.caller new.caller) sessions (sym e)) in
    record {
      rising = rising_inserted sessions new others kept.rising;
      own_ids = own_inserted sessions new (own_of_others new sessions owns others) kept.own_ids;
      each = each_inserted P sessions new p kept.each;
      few = one_more_at_most false 32 (length sessions) _ kept.few lacks (length_inserted sessions new);
    }

not_taken : (caller role : ℕ) (id : Uint128) (session : Session) → (not (eqb session.caller caller) && bears role id session) ≡ false → session.caller ≢ caller → role ≡ session.role → election_number id ≡ election_number session.election_id → election_number id ≡ 0
not_taken caller role id session e differ same_role same_id = grind (arith, nat_tests)

owns_among : (sessions : List Session) (new : Session) → id_is_taken sessions new.caller new.role new.election_id ≡ false → Each (OwnAmongOthers new) sessions
owns_among sessions new free = each_weaker (λ session. (not (eqb session.caller new.caller) && bears new.role new.election_id session) ≡ false) (OwnAmongOthers new) (λ session e differ. record { zero_alone = λ same_role same_id. not_taken new.caller new.role new.election_id session e differ same_role same_id }) sessions (none_passes _ sessions free)

none_refused : (a b c d : Bool) → (a || b || c || d) ≡ false → (b ≡ false) × (c ≡ false) × (d ≡ false)
none_refused false false false false e = (refl, refl, refl)
none_refused true b c d e = absurd (false≢true (sym e))
none_refused false true c d e = absurd (false≢true (sym e))
none_refused false false true d e = absurd (false≢true (sym e))
none_refused false false false true e = absurd (false≢true (sym e))

-- a session that is not refused
pub entered : (state : RolesState) (new : Session) → IsSound state → is_refused state new ≡ false → IsSound (arbitrated state new)
entered state new sound accepted =
    let free =
    none_refused (has_other_role state.sessions new.caller new.role) (id_is_taken state.sessions new.caller new.role new.election_id) (lacks_session state.sessions new.caller) (lacks_role state.named new.role) accepted in
    let P : Session → Type 0 = λ session. IsAtMostGreatest (received state.named new.role new.election_id) session in
    let before : Kept P state.sessions = record { rising = sound.rising; own_ids = sound.own_ids; each = each_weaker (λ session. IsAtMostGreatest state.named session) P (λ session h. omega (arith, h, rises state.named new.role session.role new.election_id)) state.sessions sound.at_most_greatest; few = sound.few_sessions } in
    let after = put_by P state.sessions new (has_session state.sessions new.caller) refl before (reaches state.named new.role new.election_id) (owns_among state.sessions new free.0) free.1 in
    record {
      rising = after.rising;
      own_ids = after.own_ids;
      at_most_greatest = after.each;
      few_sessions = after.few;
      few_roles = few_roles state.named new.role new.election_id sound.few_roles free.2;
    }

arbitration : (state : RolesState) (caller : ℕ) (update : ArbitrationUpdate) → IsSound state → cause state caller update ≡ None → IsSound (arbitrated state (asked caller update))
arbitration state caller update sound accepted = entered state (asked caller update) sound (not_refused state caller update accepted)

pub at_first : IsSound no_roles
at_first = record { rising = tt; own_ids = tt; at_most_greatest = tt; few_sessions = omega arith; few_roles = omega arith }

pub stays_sound : StaysSound
stays_sound = record { at_first = at_first; arbitration = arbitration; leave = leave }

told_others : (primary : Bool) (caller role : ℕ) (sessions : List Session) → IsRising (callers sessions) → IsRising (cond primary (others_of caller role sessions) [])
told_others true caller role sessions rising = rising_kept (λ session. not (eqb session.caller caller) && eqb session.role role) sessions rising
told_others false caller role sessions rising = tt

told_by : (ended : Option Session) (state : RolesState) → IsSound state → IsRising (told_by_end ended state)
told_by None state sound = tt
told_by (Some ended) state sound = told_others (is_caller ended.caller (primary_of state ended.role)) ended.caller ended.role state.sessions sound.rising

pub told_in_order : ToldInOrder
told_in_order = record {
  arbitration = λ state caller update sound accepted. rising_kept _ (arbitrated state (asked caller update)).sessions (arbitration state caller update sound accepted).rising;
  leave = λ state caller sound. told_by (session_in state.sessions caller) state sound;
}
