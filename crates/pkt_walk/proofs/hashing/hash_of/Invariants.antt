use Rattle.std.proofs.Common.{◌≡◌, fold}
use Rattle.std.specs.Prelude.{take}
use Rattle.std.specs.List.{flat_map}
use Rattle.packet_spec.specs.Choosing.{hashed, field_bytes}
use Rattle.pkt_walk.proofs.hashing.hash_of.Given as goal

abbrev pub invariant-loop-field : goal.invariant-loop-field
invariant-loop-field l = l.hash ≡ fold hashed l.initial.hash (flat_map (field_bytes l.store) (take l.field-index l.fields))
