use Rattle.std.proofs.Common.{◌≡◌, map}
use Rattle.std.specs.Prelude.{take}
use Rattle.program_spec.specs.Stores as stores
use Rattle.pkt_walk.proofs.key.Key.of.Given as goal

abbrev pub invariant-loop-field : goal.invariant-loop-field
invariant-loop-field l = l.key ≡ map (stores.read l.store) (take l.field-index l.fields)
