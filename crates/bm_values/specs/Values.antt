-- Values with a type, and pairs of names (BMv2 JSON form, "The type value object").
use Rattle.std.specs.Prelude.{ℕ, ◌==◌, if◌then◌else◌, List, Option, Some, None, codes}
use Rattle.serde_json.specs.Data.{Data}
use Rattle.serde_json.specs.Find.{as_str}
use Rattle.bm_values.specs.declared.raw.Part.{Part}
use Rattle.bm_values.specs.declared.raw.Part.TheVariants as parts
use Rattle.bm_values.specs.declared.raw.FieldName.{FieldName}
use Rattle.bm_values.specs.declared.kinds.ValueKind.{ValueKind}
use Rattle.bm_values.specs.declared.kinds.ValueKind.TheVariants as kinds
use Rattle.list_types.specs.Options.{◌>>=◌}
use Rattle.json_shapes.specs.Shapes.{required}
use Rattle.json_shapes.specs.Arrays.{item_count, item_at}
use Rattle.bm_values.specs.Kinds.{value_kind}

-- the names of a header and of its field, as the first two items
abbrev pub names_at : Data → Option FieldName
names_at d = do
  header ← item_at as_str 0 d
  field ← item_at as_str 1 d
  Some (record { header = header; field = field })

-- what is read, where there are two items
abbrev pub if_two : {A : Type 0} → ℕ → Option A → Option A
if_two n read = if n == 2 then read else None

-- a field by the names of its header and of itself
unfoldable pub field_name : Data → Option FieldName
field_name d = item_count d >>= λ n. if_two n (names_at d)

-- the kind of a value with a type
unfoldable pub kind_of : Data → Option ValueKind
kind_of d = required as_str (codes "type") d >>= λ kind. Some (value_kind kind)

-- a value that is a field
abbrev pub field_by : ValueKind → Data → Option (Part FieldName)
field_by kinds.Field d = required field_name (codes "value") d >>= λ field. Some (parts.Served field)
field_by kinds.LeftOut d = Some parts.LeftOut
field_by _ d = None

-- the same, by the value's own kind
unfoldable pub field_value : Data → Option (Part FieldName)
field_value d = kind_of d >>= λ kind. field_by kind d

-- a value that is a header
abbrev pub header_by : ValueKind → Data → Option (Part (List ℕ))
header_by kinds.Header d = required as_str (codes "value") d >>= λ name. Some (parts.Served name)
header_by kinds.LeftOut d = Some parts.LeftOut
header_by _ d = None

-- the same, by the value's own kind
unfoldable pub header_value : Data → Option (Part (List ℕ))
header_value d = kind_of d >>= λ kind. header_by kind d
