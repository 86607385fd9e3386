-- Headers, errors, counters, calculations, checksums and digests (BMv2 JSON form).
use Rattle.std.specs.Prelude.{ℕ, ◌==◌, Bool, true, false, if◌then◌else◌, Option, Some, None, unwrap_or, codes}
use Rattle.serde_json.specs.Data.{Data}
use Rattle.serde_json.specs.Find.{as_str, as_bool}
use Rattle.bm_values.specs.declared.raw.Part.{Part}
use Rattle.bm_values.specs.declared.raw.Part.TheVariants as parts
use Rattle.bm_records.specs.declared.raw.TypeField.{TypeField}
use Rattle.bm_records.specs.declared.raw.HeaderType.{HeaderType}
use Rattle.bm_records.specs.declared.raw.Header.{Header}
use Rattle.bm_records.specs.declared.raw.ErrorNumber.{ErrorNumber}
use Rattle.bm_records.specs.declared.raw.CounterArray.{CounterArray}
use Rattle.bm_records.specs.declared.raw.CalculationInput.{CalculationInput}
use Rattle.bm_records.specs.declared.raw.CalculationInput.TheVariants as inputs
use Rattle.bm_records.specs.declared.raw.Calculation.{Calculation}
use Rattle.bm_records.specs.declared.raw.Checksum.{Checksum}
use Rattle.bm_records.specs.declared.raw.LearnList.{LearnList}
use Rattle.bm_values.specs.declared.kinds.ValueKind.{ValueKind}
use Rattle.bm_values.specs.declared.kinds.ValueKind.TheVariants as kinds
use Rattle.list_types.specs.Options.{◌>>=◌}
use Rattle.json_shapes.specs.Shapes.{natural_of, required, optional, list_of, unless_absent}
use Rattle.bm_values.specs.Literals.{literal_of, width_of, field_width_of}
use Rattle.json_shapes.specs.Arrays.{item_count, item_at}
use Rattle.bm_values.specs.Values.{kind_of, field_name, field_value}
use Rattle.bm_values.specs.Expressions.{expression_of}
use Rattle.json_shapes.specs.Arrays.{of_count}

-- a width, which is left out where the field has a sign
abbrev pub width_with : Bool → Part ℕ → Part ℕ
width_with signed width = if signed then parts.LeftOut else width

-- whether a field of n items has a sign: the third item says it
abbrev pub sign_by : ℕ → Data → Option Bool
sign_by n d = if n == 3 then item_at as_bool 2 d else of_count 2 n (Some false)

-- a name and a width, and a mark of a sign where it is there
unfoldable pub type_field_of : Data → Option TypeField
type_field_of d = do
  n ← item_count d
  signed ← sign_by n d
  name ← item_at as_str 0 d
  given ← item_at field_width_of 1 d
  Some (record { name = name; width = width_with signed given.width })

-- a header type: its name and its fields
unfoldable pub header_type_of : Data → Option HeaderType
header_type_of d = do
  name ← required as_str (codes "name") d
  fields ← required (list_of type_field_of) (codes "fields") d
  Some (record { name = name; fields = fields })

-- a header: its name, the name of its type, and whether it is metadata
unfoldable pub header_of : Data → Option Header
header_of d = do
  name ← required as_str (codes "name") d
  header_type ← required as_str (codes "header_type") d
  metadata ← required as_bool (codes "metadata") d
  Some (record { name = name; header_type = header_type; metadata = metadata })

-- an error by the first two items: its name and its number
abbrev pub error_at : Data → Option ErrorNumber
error_at d = do
  name ← item_at as_str 0 d
  number ← item_at natural_of 1 d
  Some (record { name = name; number = number })

-- a name and a number
unfoldable pub error_of : Data → Option ErrorNumber
error_of d = item_count d >>= λ n. of_count 2 n (error_at d)

-- a direct counter has no size
abbrev pub size_by : Bool → Data → Option (Option ℕ)
size_by is_direct d = if is_direct then Some None else required natural_of (codes "size") d >>= λ size. Some (Some size)

-- a counter array: its name, whether it is direct, and its size where it is not
unfoldable pub counter_of : Data → Option CounterArray
counter_of d = do
  name ← required as_str (codes "name") d
  is_direct ← required as_bool (codes "is_direct") d
  size ← size_by is_direct d
  Some (record { name = name; is_direct = is_direct; size = size })

-- a literal that a calculation takes in, with its width
unfoldable pub input_literal : Data → Option CalculationInput
input_literal d = do
  value ← required literal_of (codes "value") d
  width ← required width_of (codes "bitwidth") d
  Some (inputs.Literal value width)

-- an input of a calculation, by the kind of its value
abbrev pub input_by : ValueKind → Data → Option CalculationInput
input_by kinds.Field d = required field_name (codes "value") d >>= λ field. Some (inputs.Field field)
input_by kinds.Literal d = input_literal d
input_by kinds.LeftOut d = Some inputs.LeftOut
input_by _ d = None

-- an input of a calculation: a field, a literal or a form that is left out
unfoldable pub input_of : Data → Option CalculationInput
input_of d = kind_of d >>= λ kind. input_by kind d

-- a calculation: its name, its algorithm and its inputs
unfoldable pub calculation_of : Data → Option Calculation
calculation_of d = do
  name ← required as_str (codes "name") d
  algo ← required as_str (codes "algo") d
  input ← required (list_of input_of) (codes "input") d
  Some (record { name = name; algo = algo; input = input })

-- a checksum is verified where nothing else is said
unfoldable pub checksum_of : Data → Option Checksum
checksum_of d = do
  name ← required as_str (codes "name") d
  target ← required field_name (codes "target") d
  calculation ← required as_str (codes "calculation") d
  update ← required as_bool (codes "update") d
  verify ← unless_absent as_bool (codes "verify") d
  if_cond ← optional expression_of (codes "if_cond") d
  Some (record { name = name; target = target; calculation = calculation; update = update; verify = unwrap_or verify true; if_cond = if_cond })

-- a learn list: its name, its id and the fields of a digest
unfoldable pub learn_list_of : Data → Option LearnList
learn_list_of d = do
  name ← required as_str (codes "name") d
  id ← required natural_of (codes "id") d
  elements ← required (list_of field_value) (codes "elements") d
  Some (record { name = name; id = id; elements = elements })
