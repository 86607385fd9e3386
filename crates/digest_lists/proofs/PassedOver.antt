-- What is passed over.
use Rattle.std.proofs.Common.{◌≡◌, ℕ, ◌-◌, ◌<◌, ◌≤◌, Bool, true, false, cond, eqb, ltb, not, ◌||◌, ◌&&◌, List, [], ◌∷◌, ◌++◌, length, drop, refl, sym, ap, ◌∙◌, arith, inl, inr, length-append}
use Rattle.std.specs.List.{AllByRecursion as Each, list_any, filter}
use Rattle.std.proofs.lemmas.Bool.{false≢true}
use Rattle.std.proofs.lemmas.Bool.Decides.{nat_tests}
use Rattle.std.proofs.lemmas.List.{drop-append-le}
use Rattle.std.proofs.lemmas.List.Folds.{list_any-append}
use Rattle.p4_types.specs.declared.messages.P4Data.{P4Data}
use Rattle.digest_lists.specs.declared.samples.TakenSample.{TakenSample}
use Rattle.digest_lists.specs.declared.samples.SentList.{SentList}
use Rattle.digest_lists.specs.Data.{same_data}
use Rattle.digest_lists.specs.State.{DigestState, natural}
use Rattle.digest_lists.specs.Sending.{is_fresh, has_sample, is_passed_over, next_samples, sent_list, after_sending}
use Rattle.digest_lists.specs.Laws.{IsAmong, PassedOver}
use Rattle.digest_lists.proofs.SameData.{data_same, and_both}

or_left : (p q : Bool) → p ≡ true → (p || q) ≡ true
or_left true q h = refl
or_left false q h = absurd (false≢true h)

or_right : (p q : Bool) → q ≡ true → (p || q) ≡ true
or_right true q h = refl
or_right false q h = h

-- the last one is kept where some of the others are dropped
last_passes : (test : SentList → Bool) (lists : List SentList) (last : SentList) (k : ℕ) → k ≤ length lists → test last ≡ true → list_any test (drop k (lists ++ last ∷ [])) ≡ true
last_passes test lists last k within h =
    ap (list_any test) (drop-append-le k lists (last ∷ []) within) ∙ (list_any-append test (drop k lists) (last ∷ []) ∙ or_right _ _ (or_left _ _ h))

has_it : (content : P4Data) (samples : List TakenSample) (sample : TakenSample) → sample.content ≡ content → IsAmong sample samples → list_any (λ s. same_data s.content content) samples ≡ true
has_it content [] sample e among = absurd among
has_it content (first ∷ rest) sample e (inl same) = or_left _ _ (ap (λ x. same_data x content) (sym (ap (λ (s : TakenSample). s.content) same) ∙ e) ∙ data_same content)
has_it content (first ∷ rest) sample e (inr among) = or_right _ _ (has_it content rest sample e among)

at_sent : (digest : DigestState) (now later : ℕ) (sample : TakenSample) → IsAmong sample (next_samples digest) → later - now < natural digest.config.ack_timeout_ns → is_passed_over (after_sending digest now) sample.content later ≡ true
at_sent digest now later sample among young =
    last_passes (λ sent. is_fresh digest.config later sent && has_sample sample.content sent) digest.waiting (sent_list digest now) _
    (omega (arith, length-append digest.waiting (sent_list digest now ∷ [])))
    (and_both _ _ (grind (arith, nat_tests)) (has_it sample.content (next_samples digest) sample refl among))

none_head : (p q r : Bool) → p ≡ false → r ≡ false → (p && q || r) ≡ false
none_head true q r h k = absurd (false≢true (sym h))
none_head false q r h k = k

at_old : (ack now : ℕ) (content : P4Data) (waiting : List SentList) → Each (λ sent. ack ≤ now - sent.sent_at) waiting → list_any (λ sent. ltb (now - sent.sent_at) ack && has_sample content sent) waiting ≡ false
at_old ack now content [] all = refl
at_old ack now content (sent ∷ rest) all = none_head _ (has_sample content sent) _ (let old : ack ≤ now - sent.sent_at = all.0 in grind (arith, nat_tests)) (at_old ack now content rest all.1)

ack_head : (same fresh has : Bool) (test : SentList → Bool) (sent : SentList) (rest : List SentList) → test sent ≡ (fresh && has) → (has ≡ true → same ≡ true) → list_any test rest ≡ false → list_any test (cond (not same) (sent ∷ rest) rest) ≡ false
ack_head true fresh has test sent rest e h k = k
ack_head false fresh true test sent rest e h k = absurd (false≢true (h refl))
ack_head false true false test sent rest e h k = rw (e, k) refl
ack_head false false false test sent rest e h k = rw (e, k) refl

same_id : (a b : ℕ) → a ≡ b → eqb a b ≡ true
same_id a b h = grind (arith, nat_tests)

at_ack : (digest : DigestState) (list : ℕ) (content : P4Data) (now : ℕ) (waiting : List SentList) → Each (λ sent. has_sample content sent ≡ true → sent.list_id ≡ list) waiting
    → list_any (λ sent. is_fresh digest.config now sent && has_sample content sent) (filter (λ sent. not (eqb sent.list_id list)) waiting) ≡ false
at_ack digest list content now [] all = refl
at_ack digest list content now (sent ∷ rest) all =
    ack_head (eqb sent.list_id list) (is_fresh digest.config now sent) (has_sample content sent) (λ sent. is_fresh digest.config now sent && has_sample content sent) sent _ refl (λ has. same_id _ _ (all.0 has)) (at_ack digest list content now rest all.1)

pub passed_over : PassedOver
passed_over = record {
  sent = at_sent;
  acknowledged = λ digest list content now all. at_ack digest list content now digest.waiting all;
  old = λ digest content now all. at_old (natural digest.config.ack_timeout_ns) now content digest.waiting all;
}
