-- Where a digest stands in the list, and what a change of it makes of the list.
use Rattle.std.proofs.Common.{◌≡◌, ℕ, suc, ◌+◌, ◌<◌, ◌≤◌, Bool, true, false, cond, eqb, ltb, not, ◌||◌, List, [], ◌∷◌, length, get_or, set, Option, Some, None, refl, sym, ap, ◌∙◌, arith}
use Rattle.std.proofs.lemmas.Bool.{false≢true}
use Rattle.std.proofs.lemmas.Bool.Decides.{nat_tests}
use Rattle.std.specs.List.{find, list_any, position_or_len, position, insert}
use Rattle.p4_types.specs.declared.messages.DigestConfig.{DigestConfig}
use Rattle.digest_lists.specs.State.{DigestState, new_digest}
use Rattle.digest_lists.specs.Fold.{change_first, inserted, is_set, with_config, has_room}

same_place : (i n : ℕ) → Some n ≡ Some i → i ≡ n
same_place i n e = cc

no_place : (i : ℕ) → None ≡ Some i → ⊥
no_place i e = cc

some_place : (i n len : ℕ) (b : Bool) → b ≡ ltb n len → cond b (Some n) None ≡ Some i → (i ≡ n) × (n < len)
some_place i n len true t e = (same_place i n e, grind (arith, nat_tests))
some_place i n len false t e = absurd (no_place i e)

none_place : (n len : ℕ) (b : Bool) → b ≡ ltb n len → cond b (Some n) None ≡ None → len ≤ n
none_place n len true t e = absurd (no_place n (sym e))
none_place n len false t e = grind (arith, nat_tests)

pub at_place : {X : Type 0} (p : X → Bool) (xs : List X) (i : ℕ) → position p xs ≡ Some i → (i ≡ position_or_len p xs) × (position_or_len p xs < length xs)
at_place p xs i e = some_place i (position_or_len p xs) (length xs) _ refl e

pub at_no_place : {X : Type 0} (p : X → Bool) (xs : List X) → position p xs ≡ None → length xs ≤ position_or_len p xs
at_no_place p xs e = none_place (position_or_len p xs) (length xs) _ refl e

changed_head : (digest d : DigestState) (rest : List DigestState) (p : DigestState → Bool) (f : DigestState → DigestState) (n m : ℕ) (b : Bool) → m ≡ suc n
    → (n < length rest → change_first p f rest ≡ set rest n (f (get_or rest n d))) → cond (not b) m 0 < suc (length rest)
    → cond b (f digest ∷ rest) (digest ∷ change_first p f rest) ≡ set (digest ∷ rest) (cond (not b) m 0) (f (get_or (digest ∷ rest) (cond (not b) m 0) d))
changed_head digest d rest p f n m true e h within = refl
changed_head digest d rest p f n m false e h within = rw e (ap (λ l. digest ∷ l) (h (omega arith)))

changed_at : (p : DigestState → Bool) (f : DigestState → DigestState) (digests : List DigestState) (d : DigestState) → position_or_len p digests < length digests
    → change_first p f digests ≡ set digests (position_or_len p digests) (f (get_or digests (position_or_len p digests) d))
changed_at p f [] d within = absurd (omega arith)
changed_at p f (digest ∷ rest) d within = changed_head digest d rest p f (position_or_len p rest) _ (p digest) (omega arith) (changed_at p f rest d) within

-- the first that passes is changed where it stands
pub change_first_at : (p : DigestState → Bool) (f : DigestState → DigestState) (digests : List DigestState) (i : ℕ) (d : DigestState) → position p digests ≡ Some i → change_first p f digests ≡ set digests i (f (get_or digests i d))
change_first_at p f digests i d e =
    let at = at_place p digests i e in
    changed_at p f digests d at.1 ∙ ap (λ k. set digests k (f (get_or digests k d))) (sym at.0)

unchanged_head : (digest : DigestState) (rest : List DigestState) (p : DigestState → Bool) (f : DigestState → DigestState) (n m : ℕ) (b : Bool) → m ≡ suc n
    → (length rest ≤ n → change_first p f rest ≡ rest) → suc (length rest) ≤ cond (not b) m 0
    → cond b (f digest ∷ rest) (digest ∷ change_first p f rest) ≡ digest ∷ rest
unchanged_head digest rest p f n m true e h past = absurd (omega arith)
unchanged_head digest rest p f n m false e h past = ap (λ l. digest ∷ l) (h (omega arith))

unchanged_past : (p : DigestState → Bool) (f : DigestState → DigestState) (digests : List DigestState) → length digests ≤ position_or_len p digests → change_first p f digests ≡ digests
unchanged_past p f [] past = refl
unchanged_past p f (digest ∷ rest) past = unchanged_head digest rest p f (position_or_len p rest) _ (p digest) (omega arith) (unchanged_past p f rest) past

-- where none passes nothing is changed
pub change_first_none : (p : DigestState → Bool) (f : DigestState → DigestState) (digests : List DigestState) → position p digests ≡ None → change_first p f digests ≡ digests
change_first_none p f digests e = unchanged_past p f digests (at_no_place p digests e)

found_head : {X : Type 0} (x d : X) (xs : List X) (p : X → Bool) (n m : ℕ) (b : Bool) → m ≡ suc n → (n < length xs → find p xs ≡ Some (get_or xs n d)) → cond (not b) m 0 < suc (length xs)
    → cond b (Some x) (find p xs) ≡ Some (get_or (x ∷ xs) (cond (not b) m 0) d)
found_head x d xs p n m true e h within = refl
found_head x d xs p n m false e h within = rw e (h (omega arith))

found_at : {X : Type 0} (p : X → Bool) (xs : List X) (d : X) → position_or_len p xs < length xs → find p xs ≡ Some (get_or xs (position_or_len p xs) d)
found_at p [] d within = absurd (omega arith)
found_at p (x ∷ xs) d within = found_head x d xs p (position_or_len p xs) _ (p x) (omega arith) (found_at p xs d) within

-- the first that passes is found where it stands
pub find_by_place : {X : Type 0} (p : X → Bool) (xs : List X) (i : ℕ) (d : X) → position p xs ≡ Some i → find p xs ≡ Some (get_or xs i d)
find_by_place p xs i d e =
    let at = at_place p xs i e in
    found_at p xs d at.1 ∙ ap (λ k. Some (get_or xs k d)) (sym at.0)

missed_head : {X : Type 0} (x : X) (xs : List X) (p : X → Bool) (n m : ℕ) (b : Bool) → m ≡ suc n → (length xs ≤ n → find p xs ≡ None) → suc (length xs) ≤ cond (not b) m 0 → cond b (Some x) (find p xs) ≡ None
missed_head x xs p n m true e h past = absurd (omega arith)
missed_head x xs p n m false e h past = h (omega arith)

missed_past : {X : Type 0} (p : X → Bool) (xs : List X) → length xs ≤ position_or_len p xs → find p xs ≡ None
missed_past p [] past = refl
missed_past p (x ∷ xs) past = missed_head x xs p (position_or_len p xs) _ (p x) (omega arith) (missed_past p xs) past

-- where none passes none is found
pub find_none : {X : Type 0} (p : X → Bool) (xs : List X) → position p xs ≡ None → find p xs ≡ None
find_none p xs e = missed_past p xs (at_no_place p xs e)

-- one element passes just where there is a place of one
any_head : (any b : Bool) (n m len : ℕ) → any ≡ ltb n len → m ≡ suc n → (b || any) ≡ ltb (cond (not b) m 0) (suc len)
any_head any true n m len h e = grind (arith, nat_tests)
any_head any false n m len h e = rw (e, h) (grind (arith, nat_tests))

any_by_place : {X : Type 0} (p : X → Bool) (xs : List X) → list_any p xs ≡ ltb (position_or_len p xs) (length xs)
any_by_place p [] = refl
any_by_place p (x ∷ xs) = any_head (list_any p xs) (p x) (position_or_len p xs) _ (length xs) (any_by_place p xs) (omega arith)

is_past : (n len : ℕ) → len ≤ n → ltb n len ≡ false
is_past n len h = grind (arith, nat_tests)

is_within : (n len : ℕ) → n < len → ltb n len ≡ true
is_within n len h = grind (arith, nat_tests)

with_true : (b : Bool) (l m : List DigestState) → b ≡ true → cond b l m ≡ l
with_true true l m h = refl
with_true false l m h = absurd (false≢true h)

with_false : (b : Bool) (l m : List DigestState) → b ≡ false → cond b l m ≡ m
with_false false l m h = refl
with_false true l m h = absurd (false≢true (sym h))

-- a digest by its id
abbrev pub of_id : ℕ → DigestState → Bool
of_id id digest = eqb digest.id id

-- a digest of a greater id
abbrev pub above : ℕ → DigestState → Bool
above id digest = ltb id digest.id

inserted_head : (digest new : DigestState) (rest : List DigestState) (n m : ℕ) (b : Bool) → m ≡ suc n → inserted rest new ≡ insert rest n new
    → cond b (new ∷ digest ∷ rest) (digest ∷ inserted rest new) ≡ insert (digest ∷ rest) (cond (not b) m 0) new
inserted_head digest new rest n m true e h = refl
inserted_head digest new rest n m false e h = rw e (ap (λ l. digest ∷ l) h)

inserted_at : (digests : List DigestState) (new : DigestState) → inserted digests new ≡ insert digests (position_or_len (above new.id) digests) new
inserted_at [] new = refl
inserted_at (digest ∷ rest) new = inserted_head digest new rest (position_or_len (above new.id) rest) _ (above new.id digest) (omega arith) (inserted_at rest new)

pub inserted_by_place : (digests : List DigestState) (new : DigestState) (i : ℕ) → i ≡ position_or_len (above new.id) digests → inserted digests new ≡ insert digests i new
inserted_by_place digests new i e = inserted_at digests new ∙ ap (λ k. insert digests k new) (sym e)

pub is_ok_items : (ok : Bool) (after before inserted wanted : List DigestState) → after ≡ cond ok inserted before → ok ≡ true → wanted ≡ inserted → after ≡ wanted
is_ok_items true after before inserted wanted e h w = e ∙ sym w
is_ok_items false after before inserted wanted e h w = absurd (false≢true h)

length_head : (b : Bool) (digest new : DigestState) (rest : List DigestState) → length (inserted rest new) ≡ suc (length rest) → length (cond b (new ∷ digest ∷ rest) (digest ∷ inserted rest new)) ≡ suc (suc (length rest))
length_head true digest new rest h = refl
length_head false digest new rest h = ap suc h

pub length-inserted : (digests : List DigestState) (new : DigestState) → length (inserted digests new) ≡ suc (length digests)
length-inserted [] new = refl
length-inserted (digest ∷ rest) new = length_head (above new.id digest) digest new rest (length-inserted rest new)

step_within : (b : Bool) (n len m : ℕ) → n ≤ len → m ≡ suc n → cond (not b) m 0 ≤ suc len
step_within true n len m h e = omega arith
step_within false n len m h e = omega arith

pub place_within : {X : Type 0} (p : X → Bool) (xs : List X) → position_or_len p xs ≤ length xs
place_within p [] = omega arith
place_within p (x ∷ xs) = step_within (p x) (position_or_len p xs) (length xs) _ (place_within p xs) (omega arith)

pub first_greater_none : (digests : List DigestState) (id : ℕ) → position (above id) digests ≡ None → length digests ≡ position_or_len (above id) digests
first_greater_none digests id e = omega (arith, at_no_place (above id) digests e, place_within (above id) digests)

-- a digest that is not set yet
pub with_config_new : (digests : List DigestState) (id : ℕ) (config : DigestConfig) → position (of_id id) digests ≡ None → with_config digests id config ≡ inserted digests (new_digest id config)
with_config_new digests id config e = with_false _ _ _ (any_by_place (of_id id) digests ∙ is_past _ _ (at_no_place (of_id id) digests e))

pub room_for_new : (digests : List DigestState) (id : ℕ) (config : DigestConfig) → position (of_id id) digests ≡ None → length (with_config digests id config) ≤ 128 → length digests < 128
room_for_new digests id config e few = omega (arith, ap length (with_config_new digests id config e), length-inserted digests (new_digest id config))

-- the change of the digest at the place at which the first one passes
pub changed_by : (p : DigestState → Bool) (f : DigestState → DigestState) (digests : List DigestState) (i : ℕ) (d new : DigestState) → position p digests ≡ Some i → d ≡ get_or digests i d → new ≡ f d → set digests i new ≡ change_first p f digests
changed_by p f digests i d new e at is = ap (λ x. set digests i x) (is ∙ ap f at) ∙ sym (change_first_at p f digests i d e)

pub found_by : {X : Type 0} (p : X → Bool) (xs : List X) (i : ℕ) (d : X) → position p xs ≡ Some i → d ≡ get_or xs i d → find p xs ≡ Some d
found_by p xs i d e at = find_by_place p xs i d e ∙ ap Some (sym at)

-- a digest that is set already
pub with_config_old : (digests : List DigestState) (id : ℕ) (config : DigestConfig) (i : ℕ) (d new : DigestState) → position (of_id id) digests ≡ Some i → d ≡ get_or digests i d → new ≡ record d { config = config } → set digests i new ≡ with_config digests id config
with_config_old digests id config i d new e at is =
    changed_by (of_id id) (λ x. record x { config = config }) digests i d new e at is
    ∙ sym (with_true _ _ _ (any_by_place (of_id id) digests ∙ is_within _ _ (at_place (of_id id) digests i e).1))

pub first_greater_some : (digests : List DigestState) (id i : ℕ) → position (above id) digests ≡ Some i → i ≡ position_or_len (above id) digests
first_greater_some digests id i e = (at_place (above id) digests i e).0

pub no_some : (r : Option ℕ) → ((i : ℕ) → r ≡ Some i → ⊥) → r ≡ None
no_some None h = refl
no_some (Some i) h = absurd (h i refl)

length_changed_head : (b : Bool) (digest changed : DigestState) (rest others : List DigestState) → length others ≡ length rest → length (cond b (changed ∷ rest) (digest ∷ others)) ≡ suc (length rest)
length_changed_head true digest changed rest others h = refl
length_changed_head false digest changed rest others h = ap suc h

length_changed : (p : DigestState → Bool) (f : DigestState → DigestState) (digests : List DigestState) → length (change_first p f digests) ≡ length digests
length_changed p f [] = refl
length_changed p f (digest ∷ rest) = length_changed_head (p digest) digest (f digest) rest (change_first p f rest) (length_changed p f rest)

one_at_most : (b : Bool) (n : ℕ) (l m : List DigestState) → length l ≡ n → length m ≡ suc n → length (cond b l m) ≤ suc n
one_at_most true n l m e h = omega arith
one_at_most false n l m e h = omega arith

-- a setting adds one digest at most
pub config_adds_one : (digests : List DigestState) (id : ℕ) (config : DigestConfig) → length (with_config digests id config) ≤ length digests + 1
config_adds_one digests id config =
    omega (arith, one_at_most (is_set digests id) (length digests) _ _ (length_changed (of_id id) (λ d. record d { config = config }) digests) (length-inserted digests (new_digest id config)))

below_limit : (n : ℕ) → ltb n 128 ≡ true → n < 128
below_limit n h = grind (arith, nat_tests)

room_kept : (b : Bool) (changed more : List DigestState) (n : ℕ) → (b || ltb n 128) ≡ true → n ≤ 128 → length changed ≡ n → length more ≡ suc n → length (cond b changed more) ≤ 128
room_kept true changed more n room few same one = omega (arith, few, same)
room_kept false changed more n room few same one = (let below = below_limit n room in omega (arith, below, one))

-- what has room leaves at most 128 digests set
pub room_left : (digests : List DigestState) (id : ℕ) (config : DigestConfig) → has_room digests id ≡ true → length digests ≤ 128 → length (with_config digests id config) ≤ 128
room_left digests id config room few =
    room_kept (is_set digests id) _ (inserted digests (new_digest id config)) (length digests) room few (length_changed _ _ digests) (length-inserted digests (new_digest id config))
