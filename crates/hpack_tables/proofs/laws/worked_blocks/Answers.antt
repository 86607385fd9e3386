use Rattle.std.proofs.Common.{refl}
use Rattle.canon_bytes.specs.Bits.{bits}
use Rattle.hpack_tables.specs.Code.{code_lengths, symbols_from, symbols_of, first_code, symbol_of}
use Rattle.hpack_tables.specs.Integers.{integer_from, integer_at}
use Rattle.hpack_tables.specs.Strings.{text_from, string_at}
use Rattle.hpack_tables.specs.Tables.{static_table, fitting}
use Rattle.hpack_tables.specs.Blocks.{indexed_at, name_at, literal_at, field_at, fields_in, update_at, updates_in, block_at}
use Rattle.hpack_tables.proofs.laws.worked_blocks.Goals as goal

pub returns : goal.returns
unfolding code_lengths symbols_from symbols_of first_code symbol_of integer_from integer_at bits text_from string_at static_table fitting indexed_at name_at literal_at field_at fields_in update_at updates_in block_at
returns c = record {
  first_entry = refl;
  third_entry = refl;
  last_entry = refl;
  no_entry = refl;
  code_of_0 = refl;
  code_of_X = refl;
  code_of_EOS = refl;
  indexed = refl;
  request = refl;
  index_0 = refl;
  index_past = refl;
  all_padding = refl;
  whole_EOS = refl;
  greatest_size = refl;
  size_too_large = refl;
  update_late = refl;
  cut_off = refl;
}
