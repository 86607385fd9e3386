use Rattle.std.proofs.Common.{◌≡◌, ◌+◌, length, take, sum}
use Rattle.program_spec.specs.Deparsing.{laid, numbers_of}
use Rattle.pkt_codec.specs.Laid.{so_far, IsLaying}
use Rattle.pkt_codec.proofs.fields.write_fields.Given as goal

abbrev pub invariant-loop-width : goal.invariant-loop-width
invariant-loop-width l = record {
  end : l.laid.at + l.laid.filled ≡ sum (take l.width-index l.header.widths);
  index : l.index ≡ l.header.place.first + l.width-index;
  laying : IsLaying l.bytes l.laid;
  as_long : length l.bytes ≡ length l.initial.bytes;
  laid : so_far l.bytes l.laid ≡ laid (take l.width-index l.header.widths) (take l.width-index (numbers_of l.header l.store));
}
