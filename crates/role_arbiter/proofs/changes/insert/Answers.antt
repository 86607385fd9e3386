use Rattle.std.proofs.Common.{◌≡◌, is_ok, rules, arith, ap, ◌∙◌}
use Rattle.std.specs.List.{position_or_len}
use Rattle.role_arbiter.proofs.Places.{above, inserted_by_place, place_within, is_ok_items}
use Rattle.role_arbiter.proofs.changes.insert.Goals as goal

pub insert-requires : goal.insert-requires
insert-requires c =
    let test = above c.args.session.caller in
    let place_is : c.place_before_greater-place.result ≡ position_or_len test c.args.sessions.now.items =
    c.place_before_greater-place.ensures ∙ ap (λ l. position_or_len test l) c.deref.ensures.value in
    omega (arith, place_within test c.args.sessions.now.items)

pub returns-clause-items : goal.returns-clause-items
returns-clause-items c =
    let test = above c.args.session.caller in
    is_ok_items (is_ok c.insert.result) _ _ _ _ c.insert.ensures.items (search rules) (inserted_by_place c.args.sessions.now.items c.args.session _ (c.place_before_greater-place.ensures ∙ ap (λ l. position_or_len test l) c.deref.ensures.value))
