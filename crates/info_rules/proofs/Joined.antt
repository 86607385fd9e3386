-- Pairs that were put into sets.
use Rattle.std.proofs.Common.{◌≡◌, ℕ, ◌+◌, ◌<◌, ◌||◌, not, Bool, true, false, List, [], ◌∷◌, length, take, map, Option, Some, None, IfSome, Result, subst, refl, sym, ap, ◌∙◌, arith}
use Rattle.std.specs.declared.cmp.Ordering.{Ordering}
use Rattle.std.specs.declared.cmp.Ordering.TheVariants.{Less, Equal, Greater}
use Rattle.std.specs.List.{list_any, flat_map, fold}
use Rattle.std.specs.Set.{is_member}
use Rattle.std.specs.Ordering.{eq_by_cmp, is_eq, match_ordering}
use Rattle.std.specs.BTreeSet.{insert_key}
use Rattle.std.proofs.lemmas.Bool.Decides.{nat_tests}
use Rattle.std.proofs.Math.ListN.{get_or}
use Rattle.std.proofs.lemmas.List.Sums.{fold_more}
use Rattle.std.proofs.lemmas.List.Folds.{fold-map, list_any-append}
use Rattle.info_rules.specs.Rules.{lacks_some, differ, same_pair}
use Rattle.info_rules.proofs.Sameness.{list_any_same, list_any_map}
use Rattle.list_types.specs.declared.memory.Refusal.{Refusal}
use Rattle.wire_messages.specs.declared.errors.Unreadable.{Unreadable}
use Rattle.wire_messages.specs.Answers.{ReadsInMemory}
use Rattle.info_rules.specs.Pairs.{named_pairs, pair_cmp, joined}

-- the order of pairs tells them apart
same_by_order : (x y : ℕ × ℕ) → eq_by_cmp pair_cmp x y ≡ same_pair x y
same_by_order x y = grind (arith, nat_tests)

-- whether a set has a pair
pub by_order : (pairs : List (ℕ × ℕ)) (pair : ℕ × ℕ) → is_member (eq_by_cmp pair_cmp) pairs pair ≡ is_member same_pair pairs pair
by_order pairs pair = list_any_same (eq_by_cmp pair_cmp pair) (same_pair pair) (same_by_order pair) pairs

-- one more pair
pub put_next : (start before after given : List (ℕ × ℕ)) (i : ℕ) (d : ℕ × ℕ) → i < length given → before ≡ joined start (take i given) → after ≡ insert_key pair_cmp before (get_or given i d)
    → after ≡ joined start (take (i + 1) given)
put_next start before after given i d below so_far e =
    e ∙ (ap (λ pairs. insert_key pair_cmp pairs (get_or given i d)) so_far ∙ sym (fold_more (λ pairs pair. insert_key pair_cmp pairs pair) start given i d below))

pub joined_map : (pairs : List (ℕ × ℕ)) (pair : ℕ → ℕ × ℕ) (xs : List ℕ) → joined pairs (map pair xs) ≡ fold (λ before x. insert_key pair_cmp before (pair x)) pairs xs
joined_map pairs pair xs = fold-map (λ before pair. insert_key pair_cmp before pair) pair pairs xs

same_value : {V : Type 0} (x y : V) → Some x ≡ Some y → x ≡ y
same_value x y e = cc

or_none : (a : Bool) → a ≡ (a || false)
or_none true = refl
or_none false = refl

or_again : (a b : Bool) → (a || b) ≡ (a || (a || b))
or_again true b = refl
or_again false b = refl

or_across : (a b c : Bool) → (a || (b || c)) ≡ (b || (a || c))
or_across true true c = refl
or_across true false c = refl
or_across false b c = refl

or_moved : (a b c : Bool) → ((a || b) || c) ≡ (b || (a || c))
or_moved true true c = refl
or_moved true false c = refl
or_moved false b c = refl

-- a pair that is the same as one of two that are the same
same_as : (a b q : ℕ × ℕ) → same_pair a b ≡ true → same_pair q a ≡ same_pair q b
same_as a b q same = grind (arith, nat_tests)

-- a pair that is sought among others, into which one was put
sought : (o : Ordering) (pair first q : ℕ × ℕ) (others : List (ℕ × ℕ)) → o ≡ pair_cmp pair first
    → is_member same_pair (insert_key pair_cmp others pair) q ≡ (same_pair q pair || is_member same_pair others q)
    → is_member same_pair (match_ordering o (pair ∷ first ∷ others) (first ∷ others) (first ∷ insert_key pair_cmp others pair)) q ≡ (same_pair q pair || is_member same_pair (first ∷ others) q)
sought Less pair first q others e h = refl
sought Equal pair first q others e h =
    let same : same_pair pair first ≡ true = sym (same_by_order pair first) ∙ ap is_eq (sym e) in
    or_again (same_pair q first) (is_member same_pair others q) ∙ ap (λ b. b || (same_pair q first || is_member same_pair others q)) (sym (same_as pair first q same))
sought Greater pair first q others e h = ap (λ b. same_pair q first || b) h ∙ or_across (same_pair q first) (same_pair q pair) (is_member same_pair others q)

put_in : (pairs : List (ℕ × ℕ)) (pair q : ℕ × ℕ) → is_member same_pair (insert_key pair_cmp pairs pair) q ≡ (same_pair q pair || is_member same_pair pairs q)
put_in [] pair q = refl
put_in (first ∷ others) pair q = sought (pair_cmp pair first) pair first q others refl (put_in others pair q)

among_joined : (pairs given : List (ℕ × ℕ)) (q : ℕ × ℕ) → is_member same_pair (joined pairs given) q ≡ (is_member same_pair pairs q || is_member same_pair given q)
among_joined pairs [] q = or_none (is_member same_pair pairs q)
among_joined pairs (pair ∷ given) q =
    among_joined (insert_key pair_cmp pairs pair) given q ∙ ap (λ b. b || is_member same_pair given q) (put_in pairs pair q)
    ∙ or_moved (same_pair q pair) (is_member same_pair pairs q) (is_member same_pair given q)

-- what is not in a set of pairs is none of them
pub lacks_joined : (given parts : List (ℕ × ℕ)) → lacks_some same_pair (joined [] given) parts ≡ lacks_some same_pair given parts
lacks_joined given parts = list_any_same (λ part. not (is_member same_pair (joined [] given) part)) (λ part. not (is_member same_pair given part)) (λ part. ap not (among_joined [] given part)) parts

any_of_lists : {A B : Type 0} (p : B → Bool) (f : A → List B) (xs : List A) → list_any p (flat_map f xs) ≡ list_any (λ x. list_any p (f x)) xs
any_of_lists p f [] = refl
any_of_lists p f (x ∷ xs) = list_any-append p (f x) (flat_map f xs) ∙ ap (λ b. list_any p (f x) || b) (any_of_lists p f xs)

-- whether one of the lists has a pair that is not in a set of pairs
some_lack : {A : Type 0} (gives : A → List (ℕ × ℕ)) (given keys : List (ℕ × ℕ)) → keys ≡ joined [] given → (all : List A)
    → list_any (λ x. lacks_some same_pair keys (gives x)) all ≡ lacks_some same_pair given (flat_map gives all)
some_lack gives given keys e all =
    ap (λ whole. list_any (λ x. lacks_some same_pair whole (gives x)) all) e
    ∙ (sym (any_of_lists (λ part. not (is_member same_pair (joined [] given) part)) gives all) ∙ lacks_joined given (flat_map gives all))

told_as : {A V W : Type 0} (read : Option A) (f g : A → V) (view : W → V) (answer : Result W (Refusal Unreadable)) → ((x : A) → f x ≡ g x)
    → IfSome read (λ x. ReadsInMemory view answer (Some (f x))) → IfSome read (λ x. ReadsInMemory view answer (Some (g x)))
told_as None f g view answer same h = tt
told_as {V} (Some x) f g view answer same h = subst (λ (v : V). ReadsInMemory view answer (Some v)) (same x) h

-- whether an object that was asked gives a pair that is none of these
pub other_asked : {A : Type 0} (read : Option (List A)) (gives : A → List (ℕ × ℕ)) (given start keys : List (ℕ × ℕ)) (answer : Result Bool (Refusal Unreadable))
    → start ≡ [] → keys ≡ joined start given
    → IfSome read (λ all. ReadsInMemory (λ x. x) answer (Some (list_any (λ x. lacks_some same_pair keys (gives x)) all)))
    → IfSome read (λ all. ReadsInMemory (λ x. x) answer (Some (lacks_some same_pair given (flat_map gives all))))
other_asked read gives given start keys answer none e h =
    told_as read (λ all. list_any (λ x. lacks_some same_pair keys (gives x)) all) (λ all. lacks_some same_pair given (flat_map gives all)) (λ x. x) answer
    (some_lack gives given keys (e ∙ ap (λ s. joined s given) none)) h

-- whether one of these pairs is not in a set of those that objects gave
pub none_asked : {A : Type 0} (read : Option (List A)) (gives : A → List (ℕ × ℕ)) (given start keys : List (ℕ × ℕ)) (answer : Bool)
    → start ≡ [] → IfSome read (λ all. Some (joined start (flat_map gives all)) ≡ Some keys) → answer ≡ lacks_some same_pair keys given
    → IfSome read (λ all. Some (lacks_some same_pair (flat_map gives all) given) ≡ Some answer)
none_asked None gives given start keys answer none put e = tt
none_asked (Some all) gives given start keys answer none put e =
    let named : keys ≡ joined [] (flat_map gives all) = same_value _ _ (sym put) ∙ ap (λ s. joined s (flat_map gives all)) none in
    ap (λ b. Some b) (sym (e ∙ (ap (λ whole. lacks_some same_pair whole given) named ∙ lacks_joined (flat_map gives all) given)))

-- what is found of an id and a list that were read
pub found_beside : {T V : Type 0} (read : Option T) (id_of : T → ℕ) (list_of : T → List ℕ) (value : ℕ → List ℕ → V) (id : ℕ) (items given : List ℕ) (found : V)
    → IfSome read (λ t. Some (id_of t) ≡ Some id) → IfSome read (λ t. Some (list_of t) ≡ Some items) → given ≡ items → found ≡ value id given
    → IfSome read (λ t. Some (value (id_of t) (list_of t)) ≡ Some found)
found_beside None id_of list_of value id items given found i l same e = tt
found_beside (Some t) id_of list_of value id items given found i l same e = cc

-- an id with one of those that are named is not in a set
pub lacks_beside : (pairs : List (ℕ × ℕ)) (pair : ℕ → ℕ → ℕ × ℕ) (own : ℕ) (named : List ℕ) → lacks_some same_pair pairs (named_pairs pair own named) ≡ list_any (λ x. not (is_member same_pair pairs (pair own x))) named
lacks_beside pairs pair own named = list_any_map (λ part. not (is_member same_pair pairs part)) (pair own) named

or_turned : (a b : Bool) → (a || b) ≡ (b || a)
or_turned true true = refl
or_turned true false = refl
or_turned false b = or_none b

pub differ_turned : (xs ys : List (ℕ × ℕ)) → differ same_pair xs ys ≡ differ same_pair ys xs
differ_turned xs ys = or_turned (lacks_some same_pair ys xs) (lacks_some same_pair xs ys)
