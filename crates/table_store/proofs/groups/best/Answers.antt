use Rattle.std.proofs.Common.{◌≡◌, List, ap, sym, subst, ◌∙◌, rules}
use Rattle.p4_types.specs.declared.table.Entry.{Entry}
use Rattle.plane_spec.specs.Entries.{best}
use Rattle.match_index.specs.Index.{Covers}
use Rattle.match_index.specs.Order.{AreInOrder}
use Rattle.table_store.proofs.ByTable.{here, best_here, not_best}
use Rattle.table_store.proofs.groups.best.Goals as goal

pub best-requires-clause-order : goal.best-requires-clause-order
best-requires-clause-order c =
    let own : c.as_slice.result.now ≡ c.index-groups-place.result.entries.items = search rules in
    subst AreInOrder (sym own) (here _ c.requires _ _ c.in-Ok.ensures.found _ c.index-groups-place.is).order

pub best-requires-clause-covered : goal.best-requires-clause-covered
best-requires-clause-covered c =
    let own : c.as_slice.result.now ≡ c.index-groups-place.result.entries.items = search rules in
    subst (Covers c.index-groups-place.result.index) (sym own) (here _ c.requires _ _ c.in-Ok.ensures.found _ c.index-groups-place.is).covers

pub returns-in-Ok : goal.returns-in-Ok
returns-in-Ok c =
    let own : c.as_slice.result.now ≡ c.index-groups-place.result.entries.items = search rules in
    c.best.ensures ∙ ap (λ (xs : List Entry). best c.args.table c.args.key.now xs) own ∙ best_here _ c.requires _ _ c.in-Ok.ensures.found _ c.index-groups-place.is c.args.key.now

pub returns-in-Err : goal.returns-in-Err
returns-in-Err c = not_best _ c.requires _ _ c.in-Err.ensures.absent c.args.key.now
