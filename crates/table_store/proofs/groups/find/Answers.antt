use Rattle.std.proofs.Common.{◌≡◌, List, refl, ap, sym, subst, ◌∙◌, rules}
use Rattle.p4_types.specs.declared.table.Entry.{Entry}
use Rattle.plane_spec.specs.Entries.{entry_named}
use Rattle.match_index.specs.Index.{Covers}
use Rattle.match_index.specs.Order.{AreInOrder}
use Rattle.table_store.proofs.ByTable.{here, named_here, not_named}
use Rattle.table_store.proofs.groups.find.Goals as goal

pub find-requires-clause-order : goal.find-requires-clause-order
find-requires-clause-order c =
    let own : c.as_slice.result.now ≡ c.index-groups-place.result.entries.items = search rules in
    subst AreInOrder (sym own) (here _ c.requires _ _ c.in-Ok.ensures.found _ c.index-groups-place.is).order

pub find-requires-clause-covered : goal.find-requires-clause-covered
find-requires-clause-covered c =
    let own : c.as_slice.result.now ≡ c.index-groups-place.result.entries.items = search rules in
    subst (Covers c.index-groups-place.result.index) (sym own) (here _ c.requires _ _ c.in-Ok.ensures.found _ c.index-groups-place.is).covers

pub returns-in-Ok : goal.returns-in-Ok
returns-in-Ok c =
    let own : c.as_slice.result.now ≡ c.index-groups-place.result.entries.items = search rules in
    c.find.ensures ∙ ap (λ (xs : List Entry). entry_named c.args.name.now xs) own ∙ named_here _ c.requires _ _ c.in-Ok.ensures.found _ c.index-groups-place.is c.args.name.now refl

pub returns-in-Err : goal.returns-in-Err
returns-in-Err c = not_named _ c.requires _ _ c.in-Err.ensures.absent c.args.name.now refl
