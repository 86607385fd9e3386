-- The ids of the lists that a digest sends.
use Rattle.std.proofs.Common.{◌≡◌, ◌≢◌, ℕ, zero, suc, ◌+◌, ◌-◌, ◌<◌, ◌≤◌, ◌^◌, ◌⊎◌, min, Bool, true, false, cond, eqb, ltb, not, List, [], ◌∷◌, ◌++◌, length, map, Option, Some, None, refl, sym, ap, ◌∙◌, arith, inl, inr, append-nil, length-append, subst}
use Rattle.std.specs.List.{AllByRecursion as Each, filter, find, fold}
use Rattle.std.specs.Option.{option_map, option_and_then, option_to_list}
use Rattle.std.proofs.lemmas.Bool.{false≢true}
use Rattle.std.proofs.lemmas.Bool.Decides.{nat_tests}
use Rattle.std.proofs.lemmas.List.{map-append}
use Rattle.std.proofs.lemmas.List.Elements.{filter-append}
use Rattle.p4_types.specs.declared.messages.DigestConfig.{DigestConfig}
use Rattle.p4_types.specs.declared.messages.DigestList.{DigestList}
use Rattle.digest_lists.specs.State.{DigestState, new_digest}
use Rattle.digest_lists.specs.Sending.{is_passed_over, is_full, is_due, list_of, with_sample, after_sending, sent_by_sample, after_sample, after_ack}
use Rattle.digest_lists.specs.Fold.{change_first, inserted, is_set, with_config, set_digest, Call, step, Run, go_on, run_of}
use Rattle.digest_lists.specs.Fold as calls
use Rattle.digest_lists.specs.Laws.{IsRising, IsSound, list_ids, counting, Keeps, CountsFromOne}
use Rattle.digest_lists.proofs.Places.{of_id}
use Rattle.digest_lists.proofs.Soundness.{each_call, or_false_left, or_false_right, same_after_sample}

-- how many lists a digest has sent, none where it is not set
abbrev last_of : Option DigestState → ℕ
last_of None = 0
last_of (Some digest) = digest.last_list

abbrev last_in : ℕ → List DigestState → ℕ
last_in id digests = last_of (find (of_id id) digests)

different : (a b : ℕ) → a ≢ b → eqb a b ≡ false
different a b h = grind (arith, nat_tests)

equal : (a b : ℕ) → a ≡ b → eqb a b ≡ true
equal a b h = grind (arith, nat_tests)

equal_is : (a b : ℕ) → eqb a b ≡ true → a ≡ b
equal_is a b h = grind (arith, nat_tests)

different_is : (a b : ℕ) → eqb a b ≡ false → a ≢ b
different_is a b h = λ e. false≢true (sym h ∙ equal a b e)

take_first : {X : Type 0} (b : Bool) (x y : X) → b ≡ true → cond b x y ≡ x
take_first true x y h = refl
take_first false x y h = absurd (false≢true h)

take_second : {X : Type 0} (b : Bool) (x y : X) → b ≡ false → cond b x y ≡ y
take_second false x y h = refl
take_second true x y h = absurd (false≢true (sym h))

below_not : {a b : ℕ} → a < b → a ≡ b → ⊥
below_not h e = omega arith

some_is : (x d : DigestState) → Some x ≡ Some d → x ≡ d
some_is x d e = cc

none_is_not : (d : DigestState) → None ≡ Some d → ⊥
none_is_not d e = cc

-- what all have has the one that is found
found_head : (P : DigestState → Type 0) (b : Bool) (x d : DigestState) (found : Option DigestState) → cond b (Some x) found ≡ Some d → P x → (found ≡ Some d → P d) → P d
found_head P true x d found e p h = subst P (some_is x d e) p
found_head P false x d found e p h = h e

each_found : (P : DigestState → Type 0) (p : DigestState → Bool) (d : DigestState) (digests : List DigestState) → Each P digests → find p digests ≡ Some d → P d
each_found P p d [] all e = absurd (none_is_not d e)
each_found P p d (x ∷ rest) all e = found_head P (p x) x d (find p rest) e all.0 (each_found P p d rest all.1)

same_head : (b : Bool) (x changed : DigestState) (rest others : List DigestState) (found : Option DigestState) → cond b (Some x) found ≡ None → (found ≡ None → others ≡ rest) → cond b (changed ∷ rest) (x ∷ others) ≡ x ∷ rest
same_head true x changed rest others found e h = absurd (none_is_not x (sym e))
same_head false x changed rest others found e h = ap (λ l. x ∷ l) (h e)

-- nothing is changed where none passes
unchanged : (p : DigestState → Bool) (f : DigestState → DigestState) (digests : List DigestState) → find p digests ≡ None → change_first p f digests ≡ digests
unchanged p f [] e = refl
unchanged p f (x ∷ rest) e = same_head (p x) x (f x) rest (change_first p f rest) (find p rest) e (unchanged p f rest)

other_head : (id : ℕ) (b : Bool) (x d changed : DigestState) (rest others : List DigestState) (found : Option DigestState) → cond b (Some x) found ≡ Some d → d.id ≢ id → changed.id ≡ x.id
    → (found ≡ Some d → find (of_id id) others ≡ find (of_id id) rest) → find (of_id id) (cond b (changed ∷ rest) (x ∷ others)) ≡ find (of_id id) (x ∷ rest)
other_head id true x d changed rest others found e apart same h =
    let x_apart : x.id ≢ id = λ eq. apart (sym (ap (λ (s : DigestState). s.id) (some_is x d e)) ∙ eq) in
    take_second (eqb changed.id id) _ _ (different _ _ (λ eq. x_apart (sym same ∙ eq))) ∙ sym (take_second (eqb x.id id) _ _ (different _ _ x_apart))
other_head id false x d changed rest others found e apart same h = ap (λ found. cond (eqb x.id id) (Some x) found) (h e)

-- a change of another digest
other_changed : (id : ℕ) (p : DigestState → Bool) (f : DigestState → DigestState) → ((d : DigestState) → (f d).id ≡ d.id) → (d : DigestState) → d.id ≢ id → (digests : List DigestState) → find p digests ≡ Some d → find (of_id id) (change_first p f digests) ≡ find (of_id id) digests
other_changed id p f same d apart [] e = absurd (none_is_not d e)
other_changed id p f same d apart (x ∷ rest) e = other_head id (p x) x d (f x) rest (change_first p f rest) (find p rest) e apart (same x) (other_changed id p f same d apart rest)

this_head : (id : ℕ) (f : DigestState → DigestState) (b : Bool) (x d : DigestState) (rest others : List DigestState) (found : Option DigestState) → cond b (Some x) found ≡ Some d → d.id ≡ id → (f x).id ≡ x.id
    → (found ≡ Some d → x.id < d.id) → (found ≡ Some d → (find (of_id id) rest ≡ Some d) × (find (of_id id) others ≡ Some (f d)))
    → (find (of_id id) (x ∷ rest) ≡ Some d) × (find (of_id id) (cond b (f x ∷ rest) (x ∷ others)) ≡ Some (f d))
this_head id f true x d rest others found e is same below h =
    let x_is : x ≡ d = some_is x d e in
    let x_id : x.id ≡ id = ap (λ (s : DigestState). s.id) x_is ∙ is in
    (take_first (eqb x.id id) _ _ (equal _ _ x_id) ∙ ap Some x_is, take_first (eqb (f x).id id) _ _ (equal _ _ (same ∙ x_id)) ∙ ap (λ s. Some (f s)) x_is)
this_head id f false x d rest others found e is same below h =
    let lower : x.id < d.id = below e in
    let apart : eqb x.id id ≡ false = different x.id id (λ eq. below_not lower (eq ∙ sym is)) in
    (take_second (eqb x.id id) _ _ apart ∙ (h e).0, take_second (eqb x.id id) _ _ apart ∙ (h e).1)

-- a change of this digest
this_changed : (id : ℕ) (p : DigestState → Bool) (f : DigestState → DigestState) → ((d : DigestState) → (f d).id ≡ d.id) → (d : DigestState) → d.id ≡ id → (digests : List DigestState) → IsRising digests → find p digests ≡ Some d
    → (find (of_id id) digests ≡ Some d) × (find (of_id id) (change_first p f digests) ≡ Some (f d))
this_changed id p f same d is [] rising e = absurd (none_is_not d e)
this_changed id p f same d is (x ∷ rest) rising e =
    this_head id f (p x) x d rest (change_first p f rest) (find p rest) e is (same x) (each_found (λ other. x.id < other.id) p d rest rising.0) (this_changed id p f same d is rest rising.1)

-- the next id behind this one
abbrev behind : ℕ → ℕ
behind n = min (n + 1) (2 ^ 64 - 1)

-- either no list of the digest is sent and its count stays, or one is sent, whose id is the next one
abbrev Counts : ℕ → ℕ → ℕ → Option DigestList → Type 0
Counts id before after sent = ((list_ids id (option_to_list sent) ≡ []) × (after ≡ before)) ⊎ ((list_ids id (option_to_list sent) ≡ behind before ∷ []) × (after ≡ behind before))

-- the same of one digest's own call
abbrev CountsOne : DigestState → DigestState → Option DigestList → Type 0
CountsOne d after None = after.last_list ≡ d.last_list
CountsOne d after (Some list) = (list.digest_id ≡ d.id) × (list.list_id ≡ behind d.last_list) × (after.last_list ≡ behind d.last_list)

of_other : (id : ℕ) (d after : DigestState) (sent : Option DigestList) → d.id ≢ id → CountsOne d after sent → list_ids id (option_to_list sent) ≡ []
of_other id d after None apart h = refl
of_other id d after (Some list) apart h = ap (map (λ (l : DigestList). l.list_id)) (take_second (eqb list.digest_id id) _ _ (different _ _ (λ eq. apart (sym h.0 ∙ eq))))

of_this : (id before now : ℕ) (d after : DigestState) (sent : Option DigestList) → d.id ≡ id → before ≡ d.last_list → now ≡ after.last_list → CountsOne d after sent → Counts id before now sent
of_this id before now d after None is b n h = inl (refl, n ∙ (h ∙ sym b))
of_this id before now d after (Some list) is b n h =
    inr (ap (map (λ (l : DigestList). l.list_id)) (take_first (eqb list.digest_id id) _ _ (equal _ _ (h.0 ∙ is))) ∙ ap (λ k. k ∷ []) (h.1 ∙ ap behind (sym b)), n ∙ (h.2 ∙ ap behind (sym b)))

by_id : (id : ℕ) (p : DigestState → Bool) (f : DigestState → DigestState) (g : DigestState → Option DigestList) → ((d : DigestState) → (f d).id ≡ d.id) → ((d : DigestState) → CountsOne d (f d) (g d))
    → (digests : List DigestState) → IsRising digests → (d : DigestState) → find p digests ≡ Some d → (b : Bool) → eqb d.id id ≡ b → Counts id (last_in id digests) (last_in id (change_first p f digests)) (g d)
by_id id p f g same one digests rising d e true t =
    let found : (find (of_id id) digests ≡ Some d) × (find (of_id id) (change_first p f digests) ≡ Some (f d)) = this_changed id p f same d (equal_is _ _ t) digests rising e in
    of_this id _ _ d (f d) (g d) (equal_is _ _ t) (ap last_of found.0) (ap last_of found.1) (one d)
by_id id p f g same one digests rising d e false t =
    inl (of_other id d (f d) (g d) (different_is _ _ t) (one d), ap last_of (other_changed id p f same d (different_is _ _ t) digests e))

by_found : (id : ℕ) (p : DigestState → Bool) (f : DigestState → DigestState) (g : DigestState → Option DigestList) → ((d : DigestState) → (f d).id ≡ d.id) → ((d : DigestState) → CountsOne d (f d) (g d))
    → (digests : List DigestState) → IsRising digests → (found : Option DigestState) → find p digests ≡ found → Counts id (last_in id digests) (last_in id (change_first p f digests)) (option_and_then g found)
by_found id p f g same one digests rising None e = inl (refl, ap (last_in id) (unchanged p f digests e))
by_found id p f g same one digests rising (Some d) e = by_id id p f g same one digests rising d e (eqb d.id id) refl

-- a digest that is not set is not found
unset_found : (id : ℕ) (digests : List DigestState) → is_set digests id ≡ false → find (of_id id) digests ≡ None
unset_found id [] h = refl
unset_found id (x ∷ rest) h = take_second (eqb x.id id) _ _ (or_false_left _ _ h) ∙ unset_found id rest (or_false_right _ _ h)

last_if : (b : Bool) (x : DigestState) (found other : Option DigestState) → last_of found ≡ last_of other → last_of (cond b (Some x) found) ≡ last_of (cond b (Some x) other)
last_if true x found other h = refl
last_if false x found other h = h

last_new : (b : Bool) (new : DigestState) (found : Option DigestState) → new.last_list ≡ 0 → (b ≡ true → found ≡ None) → last_of (cond b (Some new) found) ≡ last_of found
last_new true new found zeroed h = zeroed ∙ sym (ap last_of (h refl))
last_new false new found zeroed h = refl

last_inserted_head : (id : ℕ) (b : Bool) (x new : DigestState) (rest others : List DigestState) → new.last_list ≡ 0 → (eqb new.id id ≡ true → find (of_id id) (x ∷ rest) ≡ None) → last_in id others ≡ last_in id rest
    → last_in id (cond b (new ∷ x ∷ rest) (x ∷ others)) ≡ last_in id (x ∷ rest)
last_inserted_head id true x new rest others zeroed h k = last_new (eqb new.id id) new (find (of_id id) (x ∷ rest)) zeroed h
last_inserted_head id false x new rest others zeroed h k = last_if (eqb x.id id) x (find (of_id id) others) (find (of_id id) rest) k

last_inserted : (id : ℕ) (new : DigestState) → new.last_list ≡ 0 → (digests : List DigestState) → is_set digests new.id ≡ false → last_in id (inserted digests new) ≡ last_in id digests
last_inserted id new zeroed [] unset = last_new (eqb new.id id) new None zeroed (λ h. refl)
last_inserted id new zeroed (x ∷ rest) unset =
    last_inserted_head id (ltb new.id x.id) x new rest (inserted rest new) zeroed (λ is. unset_found id (x ∷ rest) (ap (is_set (x ∷ rest)) (sym (equal_is _ _ is)) ∙ unset)) (last_inserted id new zeroed rest (or_false_right _ _ unset))

forgotten_head : (id other : ℕ) (b : Bool) (x : DigestState) (rest kept : List DigestState) → b ≡ eqb x.id other → other ≢ id → find (of_id id) kept ≡ find (of_id id) rest → find (of_id id) (cond (not b) (x ∷ kept) kept) ≡ find (of_id id) (x ∷ rest)
forgotten_head id other true x rest kept e apart h =
    let x_apart : x.id ≢ id = λ eq. apart (sym (equal_is _ _ (sym e)) ∙ eq) in
    h ∙ sym (take_second (eqb x.id id) _ _ (different _ _ x_apart))
forgotten_head id other false x rest kept e apart h = ap (λ found. cond (eqb x.id id) (Some x) found) h

other_forgotten : (id other : ℕ) → other ≢ id → (digests : List DigestState) → find (of_id id) (filter (λ d. not (eqb d.id other)) digests) ≡ find (of_id id) digests
other_forgotten id other apart [] = refl
other_forgotten id other apart (x ∷ rest) = forgotten_head id other (eqb x.id other) x rest _ refl apart (other_forgotten id other apart rest)

one_sample : (over full : Bool) (d more : DigestState) (now : ℕ) → more.id ≡ d.id → more.last_list ≡ d.last_list → CountsOne d (cond over d (cond full (after_sending more now) more)) (cond over None (cond full (Some (list_of more now)) None))
one_sample true full d more now p q = refl
one_sample false true d more now p q = (p, ap behind q, ap behind q)
one_sample false false d more now p q = q

nothing_sent : (id before after : ℕ) (found : Option DigestState) → Counts id before after (option_and_then (λ (d : DigestState). None) found) → Counts id before after None
nothing_sent id before after None h = h
nothing_sent id before after (Some d) h = h

configured : (id other : ℕ) (config : DigestConfig) (digests : List DigestState) → IsRising digests → (b : Bool) → is_set digests other ≡ b
    → Counts id (last_in id digests) (last_in id (cond b (change_first (of_id other) (λ d. record d { config = config }) digests) (inserted digests (new_digest other config)))) None
configured id other config digests rising true e = nothing_sent id _ _ _ (by_found id (of_id other) (λ d. record d { config = config }) (λ d. None) (λ d. refl) (λ d. refl) digests rising (find (of_id other) digests) refl)
configured id other config digests rising false e = inl (refl, last_inserted id (new_digest other config) refl digests e)

by_map : (f : DigestState → DigestList) (found : Option DigestState) → option_and_then (λ d. Some (f d)) found ≡ option_map f found
by_map f None = refl
by_map f (Some d) = refl

step_counts : (id : ℕ) (digests : List DigestState) (call : Call) → IsRising digests → Keeps id call → Counts id (last_in id digests) (last_in id (step digests call).digests) (step digests call).sent
step_counts id digests (calls.Set other None) rising keeps = inl (refl, ap last_of (other_forgotten id other keeps digests))
step_counts id digests (calls.Set other (Some config)) rising keeps = configured id other config digests rising (is_set digests other) refl
step_counts id digests (calls.Sample other content now) rising keeps =
    by_found id (of_id other) (λ d. after_sample d content now) (λ d. sent_by_sample d content now) (same_after_sample content now)
    (λ d. one_sample (is_passed_over d content now) (is_full (with_sample d content now)) d (with_sample d content now) now refl refl) digests rising (find (of_id other) digests) refl
step_counts id digests (calls.Ack other list) rising keeps = nothing_sent id _ _ _ (by_found id (of_id other) (λ d. after_ack d list) (λ d. None) (λ d. refl) (λ d. refl) digests rising (find (of_id other) digests) refl)
step_counts id digests (calls.Tick now) rising keeps =
    let P : Option DigestList → Type 0 = λ sent. Counts id (last_in id digests) (last_in id (change_first (λ d. is_due d now) (λ d. after_sending d now) digests)) sent in
    subst P (by_map (λ d. list_of d now) (find (λ d. is_due d now) digests))
    (by_found id (λ d. is_due d now) (λ d. after_sending d now) (λ d. Some (list_of d now)) (λ d. refl) (λ d. (refl, refl, refl)) digests rising (find (λ d. is_due d now) digests) refl)

ids-append : (id : ℕ) (lists more : List DigestList) → list_ids id (lists ++ more) ≡ list_ids id lists ++ list_ids id more
ids-append id lists more =
    ap (map (λ (l : DigestList). l.list_id)) (filter-append (λ (l : DigestList). eqb l.digest_id id) lists more) ∙ map-append (λ (l : DigestList). l.list_id) (filter (λ (l : DigestList). eqb l.digest_id id) lists) (filter (λ (l : DigestList). eqb l.digest_id id) more)

-- after n calls
record Counted (id n : ℕ) (run : Run) : Type 0 where
  sound : IsSound run.digests
  ids : list_ids id run.sent ≡ counting (last_in id run.digests)
  few : last_in id run.digests ≤ n

next_is : (n : ℕ) → n < 2 ^ 64 - 1 → behind n ≡ suc n
next_is n h = omega arith

ids_after : (id before after : ℕ) (lists : List DigestList) (sent : Option DigestList) → list_ids id lists ≡ counting before → before < 2 ^ 64 - 1 → Counts id before after sent → list_ids id (lists ++ option_to_list sent) ≡ counting after
ids_after id before after lists sent e small (inl (none, same)) = ids-append id lists (option_to_list sent) ∙ (ap (λ l. list_ids id lists ++ l) none ∙ (append-nil _ ∙ (e ∙ ap counting (sym same))))
ids_after id before after lists sent e small (inr (one, rises)) =
    ids-append id lists (option_to_list sent) ∙ (ap (λ l. list_ids id lists ++ l) (one ∙ ap (λ k. k ∷ []) (next_is before small)) ∙ (ap (λ l. l ++ suc before ∷ []) e ∙ ap counting (sym (rises ∙ next_is before small))))

few_after : (id before after n : ℕ) (sent : Option DigestList) → before ≤ n → Counts id before after sent → after ≤ suc n
few_after id before after n sent few (inl (none, same)) = omega arith
few_after id before after n sent few (inr (one, rises)) = omega arith

counted_step : (id n : ℕ) (run : Run) (call : Call) → Counted id n run → n < 2 ^ 64 - 1 → Keeps id call → Counted id (suc n) (go_on run call)
counted_step id n run call counted small keeps =
    let counts : Counts id (last_in id run.digests) (last_in id (step run.digests call).digests) (step run.digests call).sent = step_counts id run.digests call counted.sound.rising keeps in
    record {
      sound = each_call run.digests call counted.sound;
      ids = ids_after id _ _ run.sent _ counted.ids (omega (arith, counted.few)) counts;
      few = few_after id _ _ n _ counted.few counts;
    }

length-counting : (n : ℕ) → length (counting n) ≡ n
length-counting zero = refl
length-counting (suc n) = length-append (counting n) (suc n ∷ []) ∙ omega (arith, length-counting n)

self_counting : (ids : List ℕ) (n : ℕ) → ids ≡ counting n → ids ≡ counting (length ids)
self_counting ids n e = e ∙ ap counting (sym (ap length e ∙ length-counting n))

counted_calls : (id : ℕ) (made : List Call) (n : ℕ) (run : Run) → Counted id n run → n + length made < 2 ^ 64 → Each (Keeps id) made → list_ids id (fold go_on run made).sent ≡ counting (length (list_ids id (fold go_on run made).sent))
counted_calls id [] n run counted small keeps = self_counting _ (last_in id run.digests) counted.ids
counted_calls id (call ∷ made) n run counted small keeps = counted_calls id made (suc n) (go_on run call) (counted_step id n run call counted (omega arith) keeps.0) (omega arith) keeps.1

pub counts_from_one : CountsFromOne
counts_from_one made id small keeps = counted_calls id made 0 (record { digests = []; sent = [] }) (record { sound = record { rising = tt; few_wait = tt }; ids = refl; few = omega arith }) (omega arith) keeps
