use Rattle.std.proofs.Common.{◌≡◌, ◌==◌, drop, map}
use Rattle.std.specs.List.{list_any}
use Rattle.write_rules.proofs.matches.names.Given as goal

abbrev pub invariant-loop-asked : goal.invariant-loop-asked
invariant-loop-asked l = list_any (λ given. given == l.id) (map (λ asked. asked.field_id) (drop l.asked-index l.matches)) ≡ list_any (λ given. given == l.id) (map (λ asked. asked.field_id) l.matches)
