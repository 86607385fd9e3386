use Rattle.std.proofs.Common.{is_some, sym, ap, ◌∙◌}
use Rattle.table_store.proofs.OfTable.{is_mapped}
use Rattle.table_store.proofs.causes.has.Goals as goal

pub returns : goal.returns
returns c = c.is_some.ensures ∙ sym (is_mapped _ c.find.result) ∙ ap is_some c.find.ensures
