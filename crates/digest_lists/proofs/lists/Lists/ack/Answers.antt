use Rattle.std.proofs.Common.{sym, ap, ◌∙◌}
use Rattle.std.specs.List.{position}
use Rattle.digest_lists.specs.Sending.{after_ack}
use Rattle.digest_lists.specs.Fold.{acknowledge}
use Rattle.digest_lists.proofs.Places.{of_id, changed_by, change_first_none, no_some}
use Rattle.std.proofs.Common.{subst}
use Rattle.digest_lists.specs.Fold as calls
use Rattle.digest_lists.specs.Laws.{IsSound}
use Rattle.digest_lists.proofs.Soundness.{each_call}
use Rattle.digest_lists.proofs.lists.Lists.ack.Goals as goal

pub returns-in-Some : goal.returns-in-Some
returns-in-Some c =
    changed_by (of_id c.args.digest) (λ digest. after_ack digest c.args.list) c.self.inside.digests.items c.in-Some.place c.index_mut.result.now _ (ap (λ l. position (of_id c.args.digest) l) (sym c.deref.ensures.value) ∙ sym c.in-Some.ensures) c.index_mut.ensures.value c.acknowledge.ensures
    ∙ ap (λ l. acknowledge l c.args.digest c.args.list) c.self.view_is

pub returns-in_default : goal.returns-in_default
returns-in_default c =
    sym (change_first_none (of_id c.args.digest) (λ digest. after_ack digest c.args.list) c.args.self.now (ap (λ l. position (of_id c.args.digest) l) (sym c.self.view_is ∙ sym c.deref.ensures.value) ∙ (sym c.place_of.ensures ∙ no_some _ c.in_default.not-Some)))

pub invariant_of-self : goal.invariant_of-self
invariant_of-self c =
    let changed = changed_by (of_id c.args.digest) (λ digest. after_ack digest c.args.list) c.self.inside.digests.items c.in-Some.place c.index_mut.result.now c.acknowledge.new.self (ap (λ l. position (of_id c.args.digest) l) (sym c.deref.ensures.value) ∙ sym c.in-Some.ensures) c.index_mut.ensures.value c.acknowledge.ensures in
    (c.self.invariant.0, c.self.invariant.1, subst IsSound (sym changed) (each_call c.self.inside.digests.items (calls.Ack c.args.digest c.args.list) c.self.invariant.2))
