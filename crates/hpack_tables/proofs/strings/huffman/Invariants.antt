use Rattle.std.proofs.Common.{drop}
use Rattle.hpack_tables.specs.Strings.{huffman_text}
use Rattle.hpack_tables.proofs.Halves.{IsHalf}
use Rattle.hpack_tables.proofs.strings.huffman.Given as goal

abbrev pub invariant-loop-byte : goal.invariant-loop-byte
invariant-loop-byte l = IsHalf l.text l.left.count l.left.number (drop l.byte-index l.bytes) (huffman_text l.bytes)
