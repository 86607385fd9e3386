use Rattle.std.proofs.Common.{◌≡◌, ◌%◌, ◌^◌, take}
use Rattle.program_spec.specs.Stores.{joined}
use Rattle.pkt_codec.proofs.reading.joined.Given as goal

abbrev pub invariant-loop-field : goal.invariant-loop-field
invariant-loop-field l = l.key ≡ joined l.store (take l.field-index l.fields) % 2 ^ 128
