-- What is read as a field, and the headers and fields that names stand for.
use Rattle.std.specs.Prelude.{ℕ, Bool, true, not, ◌&&◌, if◌then◌else◌, List, [], Option, Some, None, is_some, option_and_then, option_map, nat_lt, sum_by, ◌+◌, ◌/◌, codes}
use Rattle.std.specs.Str.{bytes_eq}
use Rattle.bm_values.specs.declared.raw.Part.{Part}
use Rattle.bm_values.specs.declared.raw.Part.TheVariants as parts
use Rattle.bm_values.specs.declared.raw.FieldName.{FieldName}
use Rattle.bm_values.specs.Literals.{width_bits}
use Rattle.bm_records.specs.declared.raw.Header.{Header}
use Rattle.bm_records.specs.declared.raw.HeaderType.{HeaderType}
use Rattle.bm_records.specs.declared.raw.TypeField.{TypeField}
use Rattle.bm_records.specs.declared.raw.RawProgram.{RawProgram}
use Rattle.bm_rules.specs.Names.{named}

-- the header of a name
abbrev pub header_named : RawProgram → List ℕ → Option Header
header_named raw name = named (λ header. header.name) name raw.headers

-- there is a header of a name
abbrev pub has_header : RawProgram → List ℕ → Bool
has_header raw name = is_some (header_named raw name)

-- the fields of a type, none where there is no type
abbrev pub fields_in : Option HeaderType → List TypeField
fields_in None = []
fields_in (Some type) = type.fields

-- the type of a header
abbrev pub type_of : RawProgram → Header → Option HeaderType
type_of raw header = named (λ type. type.name) header.header_type raw.header_types

-- the fields of a header
abbrev pub fields_of : RawProgram → Header → List TypeField
fields_of raw header = fields_in (type_of raw header)

-- a field of some
abbrev pub field_among : List ℕ → List TypeField → Option TypeField
field_among name fields = named (λ field. field.name) name fields

-- the field of the names of a header and of itself
abbrev pub field_by_names : RawProgram → List ℕ → List ℕ → Option TypeField
field_by_names raw header field = option_and_then (field_among field) (option_map (fields_of raw) (header_named raw header))

-- the same of both names together
abbrev pub field_named : RawProgram → FieldName → Option TypeField
field_named raw field = field_by_names raw field.header field.field

-- the name stands for whether the header is valid
abbrev pub is_validity : FieldName → Bool
is_validity field = bytes_eq field.field (codes "$valid$")

-- a name that may be read stands for a field or the validity of a header
abbrev pub is_readable : RawProgram → FieldName → Bool
is_readable raw field = if is_validity field then has_header raw field.header else is_some (field_named raw field)

-- a name that may be written stands for a field
abbrev pub is_writable : RawProgram → FieldName → Bool
is_writable raw field = not (is_validity field) && is_some (field_named raw field)

-- a part that is served passes the test
abbrev pub is_part : {A : Type 0} → (A → Bool) → Part A → Bool
is_part test (parts.Served x) = test x
is_part test parts.LeftOut = true

-- the bits of a field, 0 where there is none
abbrev pub field_bits : Option TypeField → ℕ
field_bits None = 0
field_bits (Some field) = width_bits field.width

-- the bits of the field of these names
abbrev pub bits_of_names : RawProgram → List ℕ → List ℕ → ℕ
bits_of_names raw header field = field_bits (field_by_names raw header field)

-- the width in bits of what is read as a field: one bit where it is a validity
abbrev pub read_width : RawProgram → FieldName → ℕ
read_width raw field = if is_validity field then 1 else bits_of_names raw field.header field.field

-- the same of a part
abbrev pub part_width : RawProgram → Part FieldName → ℕ
part_width raw (parts.Served field) = read_width raw field
part_width raw parts.LeftOut = 0

-- the bytes that a field of a key takes
abbrev pub part_bytes : RawProgram → Part FieldName → ℕ
part_bytes raw field = (part_width raw field + 7) / 8

-- the fields of a key take more than so many bytes
abbrev pub exceeds : ℕ → RawProgram → List (Part FieldName) → Bool
exceeds most raw fields = nat_lt most (sum_by (part_bytes raw) fields)
