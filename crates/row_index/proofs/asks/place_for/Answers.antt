use Rattle.std.proofs.Common.{sym, ◌∙◌, arith}
use Rattle.row_index.proofs.Asking.{all_behind, none_behind}
use Rattle.row_index.proofs.asks.place_for.Goals as goal

pub returns-then-is_before-clause-above : goal.returns-then-is_before-clause-above
returns-then-is_before-clause-above c = λ k d le lt. all_behind c.args.asks.now c.args.ask d _ c.loop-place.place k c.requires (sym c.is_before.ensures ∙ c.if-is_before.true) le lt

pub loop-place-preserved : goal.loop-place-preserved
loop-place-preserved c = λ k d lt. none_behind c.args.asks.now c.args.ask _ c.loop-place.place (omega arith) c.loop-place.invariant (sym c.is_before.ensures ∙ c.if-is_before.false) k d lt
