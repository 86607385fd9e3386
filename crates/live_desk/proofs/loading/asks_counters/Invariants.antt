use Rattle.std.proofs.Common.{◌≡◌, drop}
use Rattle.std.specs.List.{list_any}
use Rattle.switch_spec.specs.Reading.{is_counter}
use Rattle.live_desk.proofs.loading.asks_counters.Given as goal

abbrev pub invariant-loop-asked : goal.invariant-loop-asked
invariant-loop-asked l = list_any is_counter (drop l.asked-index l.entities) ≡ list_any is_counter l.entities
