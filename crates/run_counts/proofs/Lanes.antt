-- Names of lanes in lists: where each stands at most as often in one list as in another, the one is not longer.
use Rattle.std.proofs.Common.{◌≡◌, ℕ, suc, ◌+◌, ◌≤◌, Bool, true, false, cond, eqb, List, [], ◌∷◌, length, refl, sym, ap, ◌∙◌, subst, arith}
use Rattle.std.specs.List.{count_by}
use Rattle.std.proofs.lemmas.Bool.{eq-eqb, eqb-true}
use Rattle.p4_types.specs.declared.tape.Who.{Who}
use Rattle.p4_types.specs.declared.tape.Who.TheVariants.{Controller, Worker}
use Rattle.run_counts.proofs.Lists.{count_cons}
use Rattle.switch_spec.specs.Carrying.{is_who}

pub is_who_self : (who : Who) → is_who who who ≡ true
is_who_self (Controller lane) = eq-eqb lane lane refl
is_who_self (Worker lane) = eq-eqb lane lane refl

same_who : (a b : Who) → is_who a b ≡ true → a ≡ b
same_who (Controller a) (Controller b) is = ap (λ (n : ℕ). Controller n) (eqb-true a b is)
same_who (Controller a) (Worker b) is = absurd (cc)
same_who (Worker a) (Controller b) is = absurd (cc)
same_who (Worker a) (Worker b) is = ap (λ (n : ℕ). Worker n) (eqb-true a b is)

-- the names without the first that is this one
abbrev without : Who → List Who → List Who
without who [] = []
without who (first ∷ names) = cond (is_who who first) names (first ∷ without who names)

-- of a name that stands there one is gone, and of each other none
record IsOneGone (who : Who) (names fewer : List Who) : Type 0 where
  length_is : length names ≡ suc (length fewer)
  counts_are : (other : Who) → count_by (is_who other) names ≡ cond {A = ℕ} (is_who other who) 1 0 + count_by (is_who other) fewer

gone_here : (b : Bool) (who first : Who) (names : List Who) → is_who who first ≡ b → 1 ≤ count_by (is_who who) (first ∷ names)
    → (1 ≤ count_by (is_who who) names → IsOneGone who names (without who names)) → IsOneGone who (first ∷ names) (cond b names (first ∷ without who names))
gone_here true who first names is there later = record {
  length_is = refl;
  counts_are = λ other. count_cons (is_who other) first names ∙ ap (λ w. cond {A = ℕ} (is_who other w) 1 0 + count_by (is_who other) names) (sym (same_who who first is));
}
gone_here false who first names is there later =
    let none : cond {A = ℕ} (is_who who first) 1 0 ≡ 0 = ap (λ b. cond {A = ℕ} b 1 0) is in
    let rest = later (omega (arith, none, there, count_cons (is_who who) first names)) in
    record {
      length_is = ap suc rest.length_is;
      counts_are = λ other. omega (arith, count_cons (is_who other) first names, count_cons (is_who other) first (without who names), rest.counts_are other);
    }

one_gone : (who : Who) (names : List Who) → 1 ≤ count_by (is_who who) names → IsOneGone who names (without who names)
one_gone who [] there = absurd (omega arith)
one_gone who (first ∷ names) there = gone_here (is_who who first) who first names refl there (one_gone who names)

pub fewer : (xs ys : List Who) → ((who : Who) → count_by (is_who who) xs ≤ count_by (is_who who) ys) → length xs ≤ length ys
fewer [] ys h = omega arith
fewer (x ∷ xs) ys h =
    let one : cond {A = ℕ} (is_who x x) 1 0 ≡ 1 = ap (λ b. cond {A = ℕ} b 1 0) (is_who_self x) in
    let gone = one_gone x ys (omega (arith, one, h x, count_cons (is_who x) x xs)) in
    let rest = fewer xs (without x ys) (λ who. omega (arith, h who, count_cons (is_who who) x xs, gone.counts_are who)) in
    omega (arith, rest, gone.length_is)
