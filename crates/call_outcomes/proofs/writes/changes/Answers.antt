use Rattle.std.proofs.Common.{List, [], ◌∷◌, ◌++◌, Result, ap, ◌∙◌, sym}
use Rattle.std.proofs.lemmas.List.Elements.{filter_map-append}
use Rattle.std.specs.List.{filter_map}
use Rattle.std.specs.Result.{result_ok}
use Rattle.p4_types.specs.declared.code.Cause.{Cause}
use Rattle.p4_types.specs.declared.table.Change.{Change}
use Rattle.call_outcomes.proofs.writes.changes.Goals as goal

pub loop-outcome-preserved : goal.loop-outcome-preserved
loop-outcome-preserved c =
    let next : List (Result Change Cause) = c.in-Some.outcome ∷ [] in
    c.in_ok-push_change.ensures ∙ ap (λ list. list ++ filter_map result_ok next) c.loop-outcome.invariant ∙ sym (filter_map-append result_ok c.loop-outcome.yielded next)
