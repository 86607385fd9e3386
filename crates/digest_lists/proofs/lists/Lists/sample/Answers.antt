use Rattle.std.proofs.Common.{◌≡◌, ℕ, false, List, Option, Some, Result, Ok, Err, IfOk, IsSomeAnd, OnOk, OnErr, sym, ap, subst, ◌∙◌}
use Rattle.std.specs.List.{position, find}
use Rattle.std.specs.Option.{option_and_then}
use Rattle.list_types.specs.declared.memory.NoMemory.{NoMemory}
use Rattle.p4_types.specs.declared.messages.DigestList.{DigestList}
use Rattle.p4_types.specs.declared.messages.P4Data.{P4Data}
use Rattle.digest_lists.specs.State.{DigestState}
use Rattle.digest_lists.specs.Sending.{is_passed_over, sent_by_sample, after_sample}
use Rattle.digest_lists.specs.Fold.{IsTaken, take_sample, sent_at_sample}
use Rattle.digest_lists.proofs.Places.{of_id, changed_by, found_by, change_first_none, find_none}
use Rattle.digest_lists.proofs.Soundness.{sound_at, same_after_sample, few_after_sample}
use Rattle.digest_lists.proofs.lists.Lists.sample.Goals as goal

-- what the digest's own call sends is what the digests send
sent_one : (r : Result (Option DigestList) NoMemory) (digests : List DigestState) (id : ℕ) (content : P4Data) (now i : ℕ) (d : DigestState) → find (of_id id) digests ≡ Some d
    → IfOk r (λ sent. sent ≡ sent_by_sample d content now) → IfOk r (λ sent. sent ≡ sent_at_sample digests id content now)
sent_one (Ok sent) digests id content now i d e h = h ∙ sym (ap (option_and_then (λ digest. sent_by_sample digest content now)) e)
sent_one (Err e') digests id content now i d e h = h

changed_one : (r : Result (Option DigestList) NoMemory) (new wanted : DigestState) (left right : List DigestState) → (new ≡ wanted → left ≡ right) → OnOk r (new ≡ wanted) → OnOk r (left ≡ right)
changed_one (Ok sent) new wanted left right f h = f h
changed_one (Err e) new wanted left right f h = h

-- what the digest's own call needs memory for is a sample that the digests take
taken_one : (r : Result (Option DigestList) NoMemory) (digests : List DigestState) (id : ℕ) (content : P4Data) (now : ℕ) (d : DigestState) → find (of_id id) digests ≡ Some d
    → OnErr r (is_passed_over d content now ≡ false) → OnErr r (IsTaken digests id content now)
taken_one (Ok sent) digests id content now d e h = h
taken_one (Err e') digests id content now d e h = subst (λ found. IsSomeAnd found (λ digest. is_passed_over digest content now ≡ false)) (sym e) h

pub returns-in-Some-clause-taken : goal.returns-in-Some-clause-taken
returns-in-Some-clause-taken c =
    taken_one c.sample.result c.args.self.now c.args.digest c.args.sample c.args.now c.index_mut.result.now
    (ap (find (of_id c.args.digest)) (sym c.self.view_is) ∙ found_by (of_id c.args.digest) c.self.inside.digests.items c.in-Some.place c.index_mut.result.now (ap (λ l. position (of_id c.args.digest) l) (sym c.deref.ensures.value) ∙ sym c.in-Some.ensures) c.index_mut.ensures.value)
    c.sample.ensures.taken

pub returns-in-Some-clause-sent : goal.returns-in-Some-clause-sent
returns-in-Some-clause-sent c =
    sent_one c.sample.result c.args.self.now c.args.digest c.args.sample c.args.now c.in-Some.place c.index_mut.result.now
    (ap (find (of_id c.args.digest)) (sym c.self.view_is) ∙ found_by (of_id c.args.digest) c.self.inside.digests.items c.in-Some.place c.index_mut.result.now (ap (λ l. position (of_id c.args.digest) l) (sym c.deref.ensures.value) ∙ sym c.in-Some.ensures) c.index_mut.ensures.value)
    c.sample.ensures.sent

pub returns-in-Some-clause-state : goal.returns-in-Some-clause-state
returns-in-Some-clause-state c =
    changed_one c.sample.result c.sample.new.self (after_sample c.index_mut.result.now c.args.sample c.args.now) _ _
    (λ (e : c.sample.new.self ≡ after_sample c.index_mut.result.now c.args.sample c.args.now).
    changed_by (of_id c.args.digest) (λ digest. after_sample digest c.args.sample c.args.now) c.self.inside.digests.items c.in-Some.place c.index_mut.result.now c.sample.new.self (ap (λ l. position (of_id c.args.digest) l) (sym c.deref.ensures.value) ∙ sym c.in-Some.ensures) c.index_mut.ensures.value e
    ∙ ap (λ l. take_sample l c.args.digest c.args.sample c.args.now) c.self.view_is)
    c.sample.ensures.state

pub returns-in-None-clause-sent : goal.returns-in-None-clause-sent
returns-in-None-clause-sent c =
    sym (ap (option_and_then (λ digest. sent_by_sample digest c.args.sample c.args.now)) (find_none (of_id c.args.digest) c.args.self.now (ap (λ l. position (of_id c.args.digest) l) (sym c.self.view_is ∙ sym c.deref.ensures.value) ∙ sym c.in-None.ensures)))

pub returns-in-None-clause-state : goal.returns-in-None-clause-state
returns-in-None-clause-state c =
    sym (change_first_none (of_id c.args.digest) (λ digest. after_sample digest c.args.sample c.args.now) c.args.self.now (ap (λ l. position (of_id c.args.digest) l) (sym c.self.view_is ∙ sym c.deref.ensures.value) ∙ sym c.in-None.ensures))

pub invariant_of-self : goal.invariant_of-self
invariant_of-self c = (
  c.self.invariant.0,
  c.self.invariant.1,
  sound_at c.sample.result (of_id c.args.digest) (λ digest. after_sample digest c.args.sample c.args.now) (same_after_sample c.args.sample c.args.now) (few_after_sample c.args.sample c.args.now)
      c.self.inside.digests.items c.in-Some.place c.index_mut.result.now c.sample.new.self (ap (λ l. position (of_id c.args.digest) l) (sym c.deref.ensures.value) ∙ sym c.in-Some.ensures) c.index_mut.ensures.value
      c.sample.ensures.state c.sample.ensures.kept c.self.invariant.2,
)
