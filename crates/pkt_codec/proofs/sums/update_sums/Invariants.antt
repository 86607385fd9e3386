use Rattle.std.proofs.Common.{◌≡◌, take, fold}
use Rattle.program_spec.specs.Checksums.{updated}
use Rattle.pkt_codec.specs.Room.{AreAsLarge}
use Rattle.pkt_codec.proofs.sums.update_sums.Given as goal

abbrev pub invariant-loop-checksum : goal.invariant-loop-checksum
invariant-loop-checksum l = record {
  done : l.store ≡ fold (updated l.program) l.initial.store (take l.checksum-index l.program.checksums);
  as_large : AreAsLarge l.initial.store l.store;
}
