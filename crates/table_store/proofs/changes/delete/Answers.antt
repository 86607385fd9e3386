use Rattle.std.proofs.Common.{List, ap, sym, ◌∙◌}
use Rattle.plane_spec.specs.Entries.{absence_cause}
use Rattle.table_store.specs.declared.groups.Group.{Group}
use Rattle.table_store.specs.Groups.{flat}
use Rattle.table_store.proofs.OfTable.{is_named}
use Rattle.table_store.proofs.Undo.{step_none}
use Rattle.table_store.proofs.changes.delete.Goals as goal

pub returns-in-Some-clause-step : goal.returns-in-Some-clause-step
returns-in-Some-clause-step c = step_none _ _

pub returns-clause-one : goal.returns-clause-one
returns-clause-one c = c.in_ok-remove.ensures.one (is_named c.args.name.now (flat c.args.groups.now.items) (ap (λ (gs : List Group). absence_cause c.args.name.now (flat gs)) (sym c.deref.ensures.value) ∙ sym c.absence_cause.ensures ∙ c.in_default.is))
