use Rattle.std.proofs.Common.{rules, not, tests, ◌&&◌}
use Rattle.std.proofs.lemmas.Fn.{filter_same}
use Rattle.h2_streams.proofs.table.sweep.Goals as goal

pub returns : goal.returns
returns c = filter_same _ (λ stream. not (stream.peer_ended && stream.ended)) _ (λ x b q k. search (rules, tests)) _ _ c.retain.ensures.filtered
