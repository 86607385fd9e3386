-- What is written of a packet (P4-16, "Packet deparsing"; BMv2 JSON form, "deparsers").
use Rattle.std.specs.Prelude.{ℕ, ◌+◌, if◌then◌else◌, List, [], ◌∷◌, ◌++◌, slice_get, Option, Some, None}
use Rattle.std.specs.List.{flat_map, slice_range}
use Rattle.bm_expr.specs.Store.{Contents, header_valid}
use Rattle.bm_pipeline.specs.declared.headers.Header.{Header}
use Rattle.bm_pipeline.specs.declared.program.Program.{Program}
use Rattle.pkt_bits.specs.Field.{number_bits}
use Rattle.program_spec.specs.Numbers.{bytes_of}

-- the bits of numbers of these widths, laid end to end
abbrev pub laid : List ℕ → List ℕ → List ℕ
laid [] numbers = []
laid (width ∷ widths) [] = []
laid (width ∷ widths) (number ∷ numbers) = number_bits width number ++ laid widths numbers

-- the numbers of a header's fields
abbrev pub numbers_of : Header → Contents → List ℕ
numbers_of header store = slice_range store.fields header.place.first (header.place.first + header.place.count)

-- the bits that a header is written with: none where it is invalid
abbrev pub header_bits : Contents → Option Header → List ℕ
header_bits store None = []
header_bits store (Some header) = if header_valid store header.place.header then laid header.widths (numbers_of header store) else []

-- the bits of all valid headers in the deparser's order
abbrev pub headers_bits : Program → Contents → List ℕ
headers_bits program store = flat_map (λ place. header_bits store (slice_get program.headers place)) program.deparser

-- the bytes of a packet: its valid headers, then the bits that were not extracted
unfoldable pub deparsed : Program → Contents → List ℕ → List ℕ
deparsed program store rest = bytes_of (headers_bits program store ++ rest)

-- how many bytes a packet that leaves may have
abbrev pub longest : ℕ
longest = 10240
