-- What each call keeps, and which list a tick sends.
use Rattle.std.proofs.Common.{◌≡◌, ℕ, suc, ◌-◌, ◌<◌, ◌≤◌, ◌⊎◌, Bool, true, false, cond, eqb, ltb, not, ◌||◌, List, [], ◌∷◌, ◌++◌, length, get_or, set, Option, Some, None, IsSomeAnd, Result, Ok, Err, OnOk, OnErr, refl, sym, ap, ◌∙◌, subst, arith, inl, inr, length-drop}
use Rattle.std.specs.List.{AllByRecursion as Each, filter, find, position}
use Rattle.std.specs.Option.{option_map}
use Rattle.std.proofs.lemmas.Bool.{false≢true}
use Rattle.std.proofs.lemmas.Bool.Decides.{nat_tests}
use Rattle.p4_types.specs.declared.messages.P4Data.{P4Data}
use Rattle.digest_lists.specs.declared.samples.SentList.{SentList}
use Rattle.digest_lists.specs.State.{DigestState, new_digest}
use Rattle.digest_lists.specs.Sending.{is_passed_over, is_full, is_due, list_of, newest_64, sent_list, with_sample, after_sending, after_sample, after_ack}
use Rattle.digest_lists.specs.Fold.{change_first, inserted, is_set, with_config, set_digest, sent_at_tick, Call, step}
use Rattle.digest_lists.specs.Fold as calls
use Rattle.digest_lists.specs.Laws.{IsAmong, IsRising, IsSound, StaysSound, LowestIsSent}
use Rattle.digest_lists.proofs.Places.{changed_by}

each_weaker : {X : Type 0} (P Q : X → Type 0) → ((x : X) → P x → Q x) → (xs : List X) → Each P xs → Each Q xs
each_weaker P Q h [] all = tt
each_weaker P Q h (x ∷ xs) all = (h x all.0, each_weaker P Q h xs all.1)

changed_head : (P : DigestState → Type 0) (b : Bool) (d changed : DigestState) (rest others : List DigestState) → (P d → P changed) → P d → Each P rest → Each P others → Each P (cond b (changed ∷ rest) (d ∷ others))
changed_head P true d changed rest others h p all kept = (h p, all)
changed_head P false d changed rest others h p all kept = (p, kept)

-- what each digest has and a change keeps
each_changed : (P : DigestState → Type 0) (p : DigestState → Bool) (f : DigestState → DigestState) → ((d : DigestState) → P d → P (f d)) → (digests : List DigestState) → Each P digests → Each P (change_first p f digests)
each_changed P p f h [] all = tt
each_changed P p f h (d ∷ rest) all = changed_head P (p d) d (f d) rest (change_first p f rest) (h d) all.0 all.1 (each_changed P p f h rest all.1)

above_same : (n a b : ℕ) → b ≡ a → n < a → n < b
above_same n a b e h = omega arith

below_same : (a b n : ℕ) → b ≡ a → a < n → b < n
below_same a b n e h = omega arith

rising_head : (b : Bool) (d changed : DigestState) (rest others : List DigestState) → changed.id ≡ d.id → Each (λ other. d.id < other.id) rest → Each (λ other. d.id < other.id) others → IsRising rest → IsRising others → IsRising (cond b (changed ∷ rest) (d ∷ others))
rising_head true d changed rest others e all kept rising still = (each_weaker (λ other. d.id < other.id) (λ other. changed.id < other.id) (λ other. below_same d.id changed.id other.id e) rest all, rising)
rising_head false d changed rest others e all kept rising still = (kept, still)

rising_changed : (p : DigestState → Bool) (f : DigestState → DigestState) → ((d : DigestState) → (f d).id ≡ d.id) → (digests : List DigestState) → IsRising digests → IsRising (change_first p f digests)
rising_changed p f same [] rising = tt
rising_changed p f same (d ∷ rest) rising =
    rising_head (p d) d (f d) rest (change_first p f rest) (same d) rising.0 (each_changed (λ other. d.id < other.id) p f (λ other. above_same d.id other.id (f other).id (same other)) rest rising.0) rising.1 (rising_changed p f same rest rising.1)

kept_head : {X : Type 0} (P : X → Type 0) (x : X) (b : Bool) (xs : List X) → P x → Each P xs → Each P (cond b (x ∷ xs) xs)
kept_head P x true xs p all = (p, all)
kept_head P x false xs p all = all

each_kept : {X : Type 0} (P : X → Type 0) (test : X → Bool) (xs : List X) → Each P xs → Each P (filter test xs)
each_kept P test [] all = tt
each_kept P test (x ∷ xs) all = kept_head P x (test x) (filter test xs) all.0 (each_kept P test xs all.1)

rising_kept_head : (d : DigestState) (b : Bool) (rest : List DigestState) → Each (λ other. d.id < other.id) rest → IsRising rest → IsRising (cond b (d ∷ rest) rest)
rising_kept_head d true rest all rising = (all, rising)
rising_kept_head d false rest all rising = rising

rising_kept : (test : DigestState → Bool) (digests : List DigestState) → IsRising digests → IsRising (filter test digests)
rising_kept test [] rising = tt
rising_kept test (d ∷ rest) rising = rising_kept_head d (test d) (filter test rest) (each_kept (λ other. d.id < other.id) test rest rising.0) (rising_kept test rest rising.1)

-- some of the digests are as sound as all
pub kept_sound : (test : DigestState → Bool) (digests : List DigestState) → IsSound digests → IsSound (filter test digests)
kept_sound test digests h = record { rising = rising_kept test digests h.rising; few_wait = each_kept _ test digests h.few_wait }

inserted_head : (P : DigestState → Type 0) (b : Bool) (d new : DigestState) (rest others : List DigestState) → P d → P new → Each P rest → Each P others → Each P (cond b (new ∷ d ∷ rest) (d ∷ others))
inserted_head P true d new rest others p q all more = (q, (p, all))
inserted_head P false d new rest others p q all more = (p, more)

each_inserted : (P : DigestState → Type 0) (new : DigestState) → P new → (digests : List DigestState) → Each P digests → Each P (inserted digests new)
each_inserted P new q [] all = (q, tt)
each_inserted P new q (d ∷ rest) all = inserted_head P (ltb new.id d.id) d new rest (inserted rest new) all.0 q all.1 (each_inserted P new q rest all.1)

pub or_false_left : (p q : Bool) → (p || q) ≡ false → p ≡ false
or_false_left false q h = refl
or_false_left true q h = absurd (false≢true (sym h))

pub or_false_right : (p q : Bool) → (p || q) ≡ false → q ≡ false
or_false_right false q h = h
or_false_right true q h = absurd (false≢true (sym h))

rising_inserted_head : (b : Bool) (d new : DigestState) (rest others : List DigestState) → b ≡ ltb new.id d.id → eqb d.id new.id ≡ false → Each (λ other. d.id < other.id) rest → IsRising rest
    → (d.id < new.id → Each (λ other. d.id < other.id) others) → IsRising others → IsRising (cond b (new ∷ d ∷ rest) (d ∷ others))
rising_inserted_head true d new rest others e other all rising more still =
    let below : new.id < d.id = grind (arith, nat_tests) in
    ((below, each_weaker (λ (o : DigestState). d.id < o.id) (λ o. new.id < o.id) (λ o h. omega arith) rest all), (all, rising))
rising_inserted_head false d new rest others e other all rising more still = (more (grind (arith, nat_tests)), still)

rising_inserted : (new : DigestState) (digests : List DigestState) → is_set digests new.id ≡ false → IsRising digests → IsRising (inserted digests new)
rising_inserted new [] unset rising = (tt, tt)
rising_inserted new (d ∷ rest) unset rising =
    rising_inserted_head (ltb new.id d.id) d new rest (inserted rest new) refl (or_false_left _ _ unset) rising.0 rising.1 (λ below. each_inserted (λ other. d.id < other.id) new below rest rising.0) (rising_inserted new rest (or_false_right _ _ unset) rising.1)

-- at most 64 of its lists wait
abbrev FewWait : DigestState → Type 0
FewWait d = length d.waiting ≤ 64

pub few_newest : (lists : List SentList) → length (newest_64 lists) ≤ 64
few_newest lists = omega (arith, length-drop (length lists - 64) lists)

filter_head : (b : Bool) (sent : SentList) (rest : List SentList) (n : ℕ) → length rest ≤ n → length (cond b (sent ∷ rest) rest) ≤ suc n
filter_head true sent rest n h = omega arith
filter_head false sent rest n h = omega arith

filter_length : (test : SentList → Bool) (lists : List SentList) → length (filter test lists) ≤ length lists
filter_length test [] = omega arith
filter_length test (sent ∷ rest) = filter_head (test sent) sent (filter test rest) (length rest) (filter_length test rest)

few_after_ack : (list : ℕ) (d : DigestState) → FewWait d → FewWait (after_ack d list)
few_after_ack list d few = omega (arith, filter_length (λ sent. not (eqb sent.list_id list)) d.waiting)

few_if : (over full : Bool) (d more after : DigestState) → FewWait d → FewWait more → FewWait after → FewWait (cond over d (cond full after more))
few_if true full d more after p q r = p
few_if false true d more after p q r = r
few_if false false d more after p q r = q

pub few_after_sample : (content : P4Data) (now : ℕ) (d : DigestState) → FewWait d → FewWait (after_sample d content now)
few_after_sample content now d few = few_if (is_passed_over d content now) (is_full (with_sample d content now)) d (with_sample d content now) (after_sending (with_sample d content now) now) few few (few_newest (d.waiting ++ sent_list (with_sample d content now) now ∷ []))

same_id_if : (over full : Bool) (d more after : DigestState) → more.id ≡ d.id → after.id ≡ d.id → (cond over d (cond full after more)).id ≡ d.id
same_id_if true full d more after p q = refl
same_id_if false true d more after p q = q
same_id_if false false d more after p q = p

pub same_after_sample : (content : P4Data) (now : ℕ) (d : DigestState) → (after_sample d content now).id ≡ d.id
same_after_sample content now d = same_id_if (is_passed_over d content now) (is_full (with_sample d content now)) d (with_sample d content now) (after_sending (with_sample d content now) now) refl refl

changed_sound : (p : DigestState → Bool) (f : DigestState → DigestState) → ((d : DigestState) → (f d).id ≡ d.id) → ((d : DigestState) → FewWait d → FewWait (f d)) → (digests : List DigestState) → IsSound digests → IsSound (change_first p f digests)
changed_sound p f same few digests sound = record {
  rising = rising_changed p f same digests sound.rising;
  few_wait = each_changed FewWait p f few digests sound.few_wait;
}

inserted_sound : (new : DigestState) (digests : List DigestState) → is_set digests new.id ≡ false → FewWait new → IsSound digests → IsSound (inserted digests new)
inserted_sound new digests unset few sound = record {
  rising = rising_inserted new digests unset sound.rising;
  few_wait = each_inserted FewWait new few digests sound.few_wait;
}

configured_sound : (b : Bool) (changed more : List DigestState) → IsSound changed → (b ≡ false → IsSound more) → IsSound (cond b changed more)
configured_sound true changed more h k = h
configured_sound false changed more h k = k refl

pub each_call : (digests : List DigestState) (call : Call) → IsSound digests → IsSound (step digests call).digests
each_call digests (calls.Set id None) sound = record {
  rising = rising_kept (λ d. not (eqb d.id id)) digests sound.rising;
  few_wait = each_kept FewWait (λ d. not (eqb d.id id)) digests sound.few_wait;
}
each_call digests (calls.Set id (Some config)) sound =
    configured_sound (is_set digests id) _ _
    (changed_sound (λ d. eqb d.id id) (λ d. record d { config = config }) (λ d. refl) (λ d few. few) digests sound)
    (λ unset. inserted_sound (new_digest id config) digests unset (omega arith) sound)
each_call digests (calls.Sample id content now) sound = changed_sound (λ d. eqb d.id id) (λ d. after_sample d content now) (same_after_sample content now) (few_after_sample content now) digests sound
each_call digests (calls.Ack id list) sound = changed_sound (λ d. eqb d.id id) (λ d. after_ack d list) (λ d. refl) (few_after_ack list) digests sound
each_call digests (calls.Tick now) sound = changed_sound (λ d. is_due d now) (λ d. after_sending d now) (λ d. refl) (λ d few. few_newest (d.waiting ++ sent_list d now ∷ [])) digests sound

-- where a digest is changed at its place, or stays as it was
pub sound_at : {X E : Type 0} (r : Result X E) (p : DigestState → Bool) (f : DigestState → DigestState) → ((d : DigestState) → (f d).id ≡ d.id) → ((d : DigestState) → length d.waiting ≤ 64 → length (f d).waiting ≤ 64)
    → (digests : List DigestState) (i : ℕ) (d new : DigestState) → position p digests ≡ Some i → d ≡ get_or digests i d → OnOk r (new ≡ f d) → OnErr r (new ≡ d) → IsSound digests → IsSound (set digests i new)
sound_at (Ok x) p f same few digests i d new at there ok err sound = subst IsSound (sym (changed_by p f digests i d new at there ok)) (changed_sound p f same few digests sound)
sound_at (Err e) p f same few digests i d new at there ok err sound = subst IsSound (sym (changed_by p (λ x. x) digests i d new at there err)) (changed_sound p (λ x. x) (λ x. refl) (λ x h. h) digests sound)

pub stays_sound : StaysSound
stays_sound = record { at_first = record { rising = tt; few_wait = tt }; each_call = each_call }

at_or_above : (digest : DigestState) (n : ℕ) (digests : List DigestState) → Each (λ other. n < other.id) digests → IsAmong digest digests → n ≤ digest.id
at_or_above digest n [] all among = absurd among
at_or_above digest n (first ∷ rest) all (inl same) = omega (arith, ap (λ (d : DigestState). d.id) same)
at_or_above digest n (first ∷ rest) all (inr among) = at_or_above digest n rest all.1 among

lowest_head : (b : Bool) (first digest : DigestState) (rest : List DigestState) (now : ℕ) → b ≡ is_due first now → Each (λ other. first.id < other.id) rest → is_due digest now ≡ true → ((digest ≡ first) ⊎ IsAmong digest rest)
    → (IsAmong digest rest → IsSomeAnd (option_map (λ d. list_of d now) (find (λ d. is_due d now) rest)) (λ list. list.digest_id ≤ digest.id))
    → IsSomeAnd (option_map (λ d. list_of d now) (cond b (Some first) (find (λ d. is_due d now) rest))) (λ list. list.digest_id ≤ digest.id)
lowest_head true first digest rest now e all due (inl same) h = omega (arith, ap (λ (d : DigestState). d.id) same)
lowest_head true first digest rest now e all due (inr among) h = at_or_above digest first.id rest all among
lowest_head false first digest rest now e all due (inl same) h = absurd (false≢true (e ∙ (ap (λ d. is_due d now) (sym same) ∙ due)))
lowest_head false first digest rest now e all due (inr among) h = h among

lowest : (digests : List DigestState) (now : ℕ) (digest : DigestState) → IsRising digests → IsAmong digest digests → is_due digest now ≡ true → IsSomeAnd (sent_at_tick digests now) (λ list. list.digest_id ≤ digest.id)
lowest [] now digest rising among due = absurd among
lowest (first ∷ rest) now digest rising among due = lowest_head (is_due first now) first digest rest now refl rising.0 due among (λ later. lowest rest now digest rising.1 later due)

none_head : (b : Bool) (first : DigestState) (found : Option DigestState) → b ≡ false → found ≡ None → cond b (Some first) found ≡ None
none_head true first found h k = absurd (false≢true (sym h))
none_head false first found h k = k

none_found : (digests : List DigestState) (now : ℕ) → Each (λ digest. is_due digest now ≡ false) digests → find (λ d. is_due d now) digests ≡ None
none_found [] now all = refl
none_found (first ∷ rest) now all = none_head (is_due first now) first _ all.0 (none_found rest now all.1)

pub lowest_is_sent : LowestIsSent
lowest_is_sent = record {
  lowest = lowest;
  none = λ digests now all. ap (option_map (λ d. list_of d now)) (none_found digests now all);
}
