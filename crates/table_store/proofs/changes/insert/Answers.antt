use Rattle.std.proofs.Common.{ℕ, List, refl, ap, sym, ◌∙◌}
use Rattle.plane_spec.specs.Entries.{insert_cause}
use Rattle.plane_spec.specs.Profiles.{entry_rows}
use Rattle.table_store.specs.declared.groups.Group.{Group}
use Rattle.table_store.specs.Groups.{flat}
use Rattle.table_store.proofs.Undo.{step_none}
use Rattle.table_store.proofs.OfTable.{made_fresh}
use Rattle.table_store.proofs.changes.insert.Goals as goal

pub insert-requires-clause-fresh : goal.insert-requires-clause-fresh
insert-requires-clause-fresh c =
    let rows : ℕ = entry_rows c.args.change.now.action in
    let cause = ap (λ (gs : List Group). insert_cause c.args.table.now rows c.args.room c.args.change.now.name (flat gs)) (sym c.deref.ensures.value) in
    let asked = ap (λ (n : ℕ). insert_cause c.args.table.now n c.args.room c.args.change.now.name (flat c.deref.result.now)) (sym c.entry_rows-rows.ensures) in
    made_fresh _ c.args.table.now rows c.args.room c.args.change.now _ refl (cause ∙ asked ∙ sym c.insert_cause.ensures ∙ c.in_default.is) c.requires.above

pub returns-in-Some-clause-step : goal.returns-in-Some-clause-step
returns-in-Some-clause-step c = step_none _ _
