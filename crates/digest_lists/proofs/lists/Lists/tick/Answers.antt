use Rattle.std.proofs.Common.{◌≡◌, ℕ, List, None, Some, sym, ap, ◌∙◌}
use Rattle.std.specs.List.{position, find}
use Rattle.std.specs.Option.{option_map}
use Rattle.p4_types.specs.declared.messages.DigestList.{DigestList}
use Rattle.digest_lists.specs.State.{DigestState}
use Rattle.digest_lists.specs.Sending.{is_due, list_of, after_sending}
use Rattle.digest_lists.specs.Fold.{send_due, sent_at_tick}
use Rattle.digest_lists.proofs.Places.{changed_by, found_by, change_first_none, find_none}
use Rattle.std.proofs.Common.{refl, ◌++◌, [], ◌∷◌}
use Rattle.digest_lists.specs.Sending.{sent_list}
use Rattle.digest_lists.proofs.Soundness.{sound_at, few_newest}
use Rattle.digest_lists.proofs.lists.Lists.tick.Goals as goal

never : (list : DigestList) → None ≡ Some list → ⊥
never list e = cc

-- where a digest is due, a list is sent
sends : (digests : List DigestState) (now : ℕ) (d : DigestState) → find (λ digest. is_due digest now) digests ≡ Some d → sent_at_tick digests now ≡ None → ⊥
sends digests now d e none = never (list_of d now) (sym none ∙ ap (option_map (λ digest. list_of digest now)) e)

pub returns-in_err-list-in-Some-clause-none_due : goal.returns-in_err-list-in-Some-clause-none_due
returns-in_err-list-in-Some-clause-none_due c = λ none. absurd (sends c.args.self.now c.args.now c.index_mut.result.now (ap (find (λ digest. is_due digest c.args.now)) (sym c.self.view_is) ∙ found_by (λ (digest : DigestState). is_due digest c.args.now) c.self.inside.digests.items c.in-Some.place c.index_mut.result.now (ap (position (λ digest. is_due digest c.args.now)) (sym c.deref.ensures.value) ∙ sym c.in-Some.ensures) c.index_mut.ensures.value) none)

pub returns-in_ok-list-in-Some-clause-none_due : goal.returns-in_ok-list-in-Some-clause-none_due
returns-in_ok-list-in-Some-clause-none_due c = λ none. absurd (sends c.args.self.now c.args.now c.index_mut.result.now (ap (find (λ digest. is_due digest c.args.now)) (sym c.self.view_is) ∙ found_by (λ (digest : DigestState). is_due digest c.args.now) c.self.inside.digests.items c.in-Some.place c.index_mut.result.now (ap (position (λ digest. is_due digest c.args.now)) (sym c.deref.ensures.value) ∙ sym c.in-Some.ensures) c.index_mut.ensures.value) none)

pub returns-in_ok-list-in-Some-clause-sent : goal.returns-in_ok-list-in-Some-clause-sent
returns-in_ok-list-in-Some-clause-sent c =
    ap Some c.in_ok-list-in-Some.ensures.sent
    ∙ sym (ap (option_map (λ digest. list_of digest c.args.now)) (ap (find (λ digest. is_due digest c.args.now)) (sym c.self.view_is) ∙ found_by (λ (digest : DigestState). is_due digest c.args.now) c.self.inside.digests.items c.in-Some.place c.index_mut.result.now (ap (position (λ digest. is_due digest c.args.now)) (sym c.deref.ensures.value) ∙ sym c.in-Some.ensures) c.index_mut.ensures.value))

pub returns-in_ok-list-in-Some-clause-state : goal.returns-in_ok-list-in-Some-clause-state
returns-in_ok-list-in-Some-clause-state c =
    changed_by (λ digest. is_due digest c.args.now) (λ digest. after_sending digest c.args.now) c.self.inside.digests.items c.in-Some.place c.index_mut.result.now c.send.new.self (ap (position (λ digest. is_due digest c.args.now)) (sym c.deref.ensures.value) ∙ sym c.in-Some.ensures) c.index_mut.ensures.value c.in_ok-list-in-Some.ensures.state
    ∙ ap (λ l. send_due l c.args.now) c.self.view_is

pub returns-in-None-clause-sent : goal.returns-in-None-clause-sent
returns-in-None-clause-sent c =
    sym (ap (option_map (λ digest. list_of digest c.args.now)) (find_none (λ (digest : DigestState). is_due digest c.args.now) c.args.self.now (ap (position (λ digest. is_due digest c.args.now)) (sym c.self.view_is ∙ sym c.deref.ensures.value) ∙ sym c.in-None.ensures)))

pub returns-in-None-clause-state : goal.returns-in-None-clause-state
returns-in-None-clause-state c =
    sym (change_first_none (λ digest. is_due digest c.args.now) (λ digest. after_sending digest c.args.now) c.args.self.now (ap (position (λ digest. is_due digest c.args.now)) (sym c.self.view_is ∙ sym c.deref.ensures.value) ∙ sym c.in-None.ensures))

pub invariant_of-self-in-Some : goal.invariant_of-self-in-Some
invariant_of-self-in-Some c = (
  c.self.invariant.0,
  c.self.invariant.1,
  sound_at c.send.result (λ digest. is_due digest c.args.now) (λ digest. after_sending digest c.args.now) (λ digest. refl) (λ digest few. few_newest (digest.waiting ++ sent_list digest c.args.now ∷ []))
      c.self.inside.digests.items c.in-Some.place c.index_mut.result.now c.send.new.self (ap (position (λ digest. is_due digest c.args.now)) (sym c.deref.ensures.value) ∙ sym c.in-Some.ensures) c.index_mut.ensures.value
      c.send.ensures.state c.send.ensures.kept c.self.invariant.2,
)
