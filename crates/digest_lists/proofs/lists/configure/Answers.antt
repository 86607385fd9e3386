use Rattle.std.proofs.Common.{arith, sym, ap, ◌∙◌}
use Rattle.std.specs.List.{position}
use Rattle.digest_lists.specs.Fold.{inserted}
use Rattle.digest_lists.proofs.Places.{of_id, with_config_new, with_config_old, room_for_new}
use Rattle.digest_lists.proofs.lists.configure.Goals as goal

pub insert-requires-clause-few : goal.insert-requires-clause-few
insert-requires-clause-few c =
    omega (arith, room_for_new c.args.digests.now.items c.args.id c.args.config (ap (λ l. position (of_id c.args.id) l) (sym c.deref.ensures.value) ∙ sym c.in-None.ensures) c.requires.left)

pub returns-in-Some-clause-items : goal.returns-in-Some-clause-items
returns-in-Some-clause-items c =
    with_config_old c.args.digests.now.items c.args.id c.args.config c.in-Some.place c.index_mut.result.now _ (ap (λ l. position (of_id c.args.id) l) (sym c.deref.ensures.value) ∙ sym c.in-Some.ensures) c.index_mut.ensures.value c.configure.ensures

pub returns-in-None-clause-items : goal.returns-in-None-clause-items
returns-in-None-clause-items c =
    c.insert.ensures.items ∙ (ap (λ d. inserted c.args.digests.now.items d) c.new.ensures ∙ sym (with_config_new c.args.digests.now.items c.args.id c.args.config (ap (λ l. position (of_id c.args.id) l) (sym c.deref.ensures.value) ∙ sym c.in-None.ensures)))
