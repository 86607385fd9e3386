use Rattle.table_store.proofs.Undo.{step_none}
use Rattle.table_store.proofs.changes.modify.Goals as goal

pub returns-in-Some-clause-step : goal.returns-in-Some-clause-step
returns-in-Some-clause-step c = step_none _ _
