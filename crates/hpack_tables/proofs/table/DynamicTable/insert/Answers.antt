use Rattle.std.proofs.Common.{◌-◌, arith, sym, ap, ◌∙◌}
use Rattle.hpack_tables.specs.Tables.{fitting}
use Rattle.hpack_tables.proofs.TableSteps.{too_large, has_room}
use Rattle.hpack_tables.proofs.table.DynamicTable.insert.Goals as goal

pub returns-then-size-from : goal.returns-then-size-from
returns-then-size-from c = too_large _ _ _ _ _ _ (sym c.self.view_is) c.entry_size-size.ensures (omega (arith, c.from.ensures)) c.clear.ensures.items

pub returns : goal.returns
returns c = has_room _ _ _ _ _ _ _ (sym c.self.view_is) c.entry_size-size.ensures (omega (arith, c.from.ensures)) (c.evict-self-inside.ensures.entries ∙ ap (λ n. fitting (n - c.entry_size-size.result) c.self.inside.entries.items) c.from-2.ensures) c.in_ok-push_front.ensures.items
