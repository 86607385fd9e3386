use Rattle.std.proofs.Common.{◌≡◌, is_ok, rules, arith, ap, ◌∙◌}
use Rattle.std.specs.List.{position_or_len}
use Rattle.digest_lists.proofs.Places.{above, inserted_by_place, place_within, is_ok_items}
use Rattle.digest_lists.proofs.lists.insert.Goals as goal

pub insert-requires : goal.insert-requires
insert-requires c =
    let place_is : c.place_before_greater-place.result ≡ position_or_len (above c.args.new.id) c.args.digests.now.items =
    c.place_before_greater-place.ensures ∙ (ap (λ l. position_or_len (above c.id.result) l) c.deref.ensures.value ∙ ap (λ id. position_or_len (above id) c.args.digests.now.items) c.id.ensures) in
    omega (arith, place_within (above c.args.new.id) c.args.digests.now.items)

pub returns-clause-items : goal.returns-clause-items
returns-clause-items c =
    is_ok_items (is_ok c.insert.result) _ _ _ _ c.insert.ensures.items (search rules) (inserted_by_place c.args.digests.now.items c.args.new _ (c.place_before_greater-place.ensures ∙ (ap (λ l. position_or_len (above c.id.result) l) c.deref.ensures.value ∙ ap (λ id. position_or_len (above id) c.args.digests.now.items) c.id.ensures)))
