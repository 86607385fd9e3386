use Rattle.std.proofs.Common.{◌≡◌, ◌++◌, [], ◌∷◌, refl, sym, ap, ◌∙◌}
use Rattle.p4_types.specs.declared.table.Entry.{Entry}
use Rattle.match_index.specs.declared.index.Row.{Row}
use Rattle.plane_spec.specs.Entries.{new_entry}
use Rattle.table_store.proofs.OneGroup.{group_added, row_step}
use Rattle.table_store.proofs.rows.add.Goals as goal

pub returns-clause-group : goal.returns-clause-group
returns-clause-group c =
    let number = ap (λ (row : Row). row.seq) c.row-row.ensures ∙ c.next_number-seq.ensures in
    let entry : Entry = new_entry c.args.table.now c.args.room c.args.change.now in
    let made : c.push-2.new.self.items ≡ c.args.group.now.entries.items ++ entry ∷ [] =
    rw (sym c.copy.ensures, sym c.next_number-seq.ensures, sym c.in_ok-action.ensures, sym c.new_slot.ensures) c.in_ok-push-2.ensures.ok in
    group_added _ _ refl c.insert.ensures.kept c.requires.group entry made (rw (sym number) c.in_ok-insert.ensures.row) c.requires.table c.requires.fresh

pub returns-clause-step : goal.returns-clause-step
returns-clause-step c = row_step _ _ refl c.push-2.ensures.before c.insert.ensures.kept
