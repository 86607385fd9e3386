-- What enters of a packet that a controller sends (P4Runtime 1.3.0, "Packet I/O"; the order of its refusals: this project's profile).
use Rattle.std.specs.Prelude.{ℕ, ◌^◌, ◌==◌, nat_lt, not, ◌&&◌, Bool, false, if◌then◌else◌, List, [], ◌∷◌, ◌++◌, codes, filter, length, map, Result, Ok, Err}
use Rattle.std.specs.List.{list_all, list_any}
use Rattle.p4_types.specs.declared.info.HeaderField.{HeaderField}
use Rattle.p4_types.specs.declared.info.Info.{Info}
use Rattle.p4_types.specs.declared.messages.PacketMetadata.{PacketMetadata}
use Rattle.p4_types.specs.declared.messages.PacketOut.{PacketOut}
use Rattle.packet_spec.specs.Meaning.{header_named, fields_of, widths_of}
use Rattle.plane_spec.specs.UpdateRules.{is_empty, number}
use Rattle.program_spec.specs.Deparsing.{laid}
use Rattle.program_spec.specs.Numbers.{bytes_of}
use Rattle.packet_out.specs.declared.rule.PacketRule.{PacketRule}
use Rattle.packet_out.specs.declared.rule.PacketRule.TheVariants as rules

-- the fields of the header that stands before a packet of a controller; a program without the header has none
abbrev pub packet_out_fields : Info → List HeaderField
packet_out_fields info = fields_of (header_named (codes "packet_out") info)

-- the values that metadata give for the field of this id
abbrev pub given_for : ℕ → List PacketMetadata → List (List ℕ)
given_for id metadata = map (λ given. given.value) (filter (λ given. given.metadata_id == id) metadata)

-- one value is given, of a byte at least, whose number has so many bits at most
abbrev pub is_one_value : ℕ → List (List ℕ) → Bool
is_one_value width [] = false
is_one_value width (value ∷ []) = not (is_empty value) && nat_lt (number value) (2 ^ width)
is_one_value width (value ∷ other ∷ others) = false

-- metadata give a value for each of the fields, and for nothing else
abbrev pub fills : List HeaderField → List PacketMetadata → Bool
fills fields metadata =
    list_all (λ given. list_any (λ field. field.id == given.metadata_id) fields) metadata
    && list_all (λ field. is_one_value field.bitwidth (given_for field.id metadata)) fields

-- the number of the first value
abbrev pub first_number : List (List ℕ) → ℕ
first_number [] = 0
first_number (value ∷ others) = number value

-- the numbers that metadata give for the fields, in the order of the fields
abbrev pub numbers_for : List HeaderField → List PacketMetadata → List ℕ
numbers_for fields metadata = map (λ field. first_number (given_for field.id metadata)) fields

-- the bytes of a packet: the header's fields in the program's order, most significant bit first, then the payload
abbrev pub packet_bytes : List HeaderField → PacketOut → List ℕ
packet_bytes fields packet = bytes_of (laid (widths_of fields) (numbers_for fields packet.metadata)) ++ packet.payload

-- how many bytes a packet that enters may have
abbrev pub longest : ℕ
longest = 9216

-- the bytes, unless they are too many
abbrev pub unless_long : List ℕ → Result (List ℕ) PacketRule
unless_long bytes = if nat_lt longest (length bytes) then Err rules.P4 else Ok bytes

-- the bytes that enter of a packet with a header of these fields, or the rule by which it is refused
unfoldable pub entering : List HeaderField → PacketOut → Result (List ℕ) PacketRule
entering fields packet = if fills fields packet.metadata then unless_long (packet_bytes fields packet) else Err rules.P3
