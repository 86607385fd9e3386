-- Actions and their primitives (BMv2 JSON form, "actions").
use Rattle.std.specs.Prelude.{ℕ, List, Option, Some, None, codes}
use Rattle.serde_json.specs.Data.{Data}
use Rattle.serde_json.specs.Find.{get, as_str}
use Rattle.bm_records.specs.declared.raw.LearnListName.{LearnListName}
use Rattle.bm_records.specs.declared.raw.LearnListName.TheVariants as names
use Rattle.bm_values.specs.declared.raw.Part.{Part}
use Rattle.bm_values.specs.declared.raw.Part.TheVariants as parts
use Rattle.bm_records.specs.declared.raw.Primitive.{Primitive}
use Rattle.bm_records.specs.declared.raw.Primitive.TheVariants as primitives
use Rattle.bm_records.specs.declared.raw.Datum.{Datum}
use Rattle.bm_records.specs.declared.raw.Action.{Action}
use Rattle.bm_values.specs.declared.kinds.ValueKind.{ValueKind}
use Rattle.bm_values.specs.declared.kinds.ValueKind.TheVariants as kinds
use Rattle.bm_records.specs.declared.operations.PrimitiveKind.{PrimitiveKind}
use Rattle.bm_records.specs.declared.operations.PrimitiveKind.TheVariants as ops
use Rattle.list_types.specs.Options.{◌>>=◌}
use Rattle.json_shapes.specs.Shapes.{natural_of, required, list_of}
use Rattle.bm_values.specs.Literals.{literal_of, width_of}
use Rattle.bm_records.specs.Operations.{primitive_kind}
use Rattle.json_shapes.specs.Arrays.{item_count, item_at, of_count}
use Rattle.bm_values.specs.Values.{kind_of, field_value, header_value}
use Rattle.bm_values.specs.Expressions.{expression_of}

-- the name or the id of a learn list, by the kind of the value
abbrev pub learn_list_by : ValueKind → Data → Option LearnListName
learn_list_by kinds.LearnList d = required as_str (codes "value") d >>= λ name. Some (names.Name name)
learn_list_by kinds.Literal d = required literal_of (codes "value") d >>= λ id. Some (names.Id id)
learn_list_by kinds.LeftOut d = Some names.LeftOut
learn_list_by _ d = None

-- a list of digest data, by its name or its id
unfoldable pub learn_list_name : Data → Option LearnListName
learn_list_name d = kind_of d >>= λ kind. learn_list_by kind d

-- the name of a counter array, by the kind of the value
abbrev pub counter_by : ValueKind → Data → Option (Part (List ℕ))
counter_by kinds.CounterArray d = required as_str (codes "value") d >>= λ name. Some (parts.Served name)
counter_by kinds.LeftOut d = Some parts.LeftOut
counter_by _ d = None

-- a counter array by its name
unfoldable pub counter_name : Data → Option (Part (List ℕ))
counter_name d = kind_of d >>= λ kind. counter_by kind d

-- an assignment to a field: the field and its value
unfoldable pub assign_of : Data → Option Primitive
assign_of d = do
  target ← item_at field_value 0 d
  value ← item_at expression_of 1 d
  Some (primitives.Assign target value)

-- an assignment to a header: its target and its source
unfoldable pub assign_header_of : Data → Option Primitive
assign_header_of d = do
  target ← item_at header_value 0 d
  source ← item_at header_value 1 d
  Some (primitives.AssignHeader target source)

-- a count: the counter array and the index in it
unfoldable pub count_of : Data → Option Primitive
count_of d = do
  counter ← item_at counter_name 0 d
  index ← item_at expression_of 1 d
  Some (primitives.Count counter index)

-- a primitive of a kind, by its parameters, of which there are n
abbrev pub primitive_by : PrimitiveKind → List ℕ → ℕ → Data → Option Primitive
primitive_by ops.Assign op n d = of_count 2 n (assign_of d)
primitive_by ops.AddHeader op n d = of_count 1 n (item_at header_value 0 d >>= λ header. Some (primitives.AddHeader header))
primitive_by ops.RemoveHeader op n d = of_count 1 n (item_at header_value 0 d >>= λ header. Some (primitives.RemoveHeader header))
primitive_by ops.AssignHeader op n d = of_count 2 n (assign_header_of d)
primitive_by ops.Drop op n d = Some primitives.Drop
primitive_by ops.Count op n d = of_count 2 n (count_of d)
primitive_by ops.GenerateDigest op n d = of_count 2 n (item_at learn_list_name 1 d >>= λ name. Some (primitives.GenerateDigest name))
primitive_by ops.NoOp op n d = Some primitives.NoOp
primitive_by ops.LeftOut op n d = Some primitives.LeftOut
primitive_by ops.Unknown op n d = Some (primitives.Unknown op)

-- a primitive of an action, by its `op` and its parameters
unfoldable pub primitive_of : Data → Option Primitive
primitive_of d = do
  op ← required as_str (codes "op") d
  parameters ← get (codes "parameters") d
  n ← item_count parameters
  primitive_by (primitive_kind op) op n parameters

-- a datum of an action: its width
unfoldable pub datum_of : Data → Option Datum
datum_of d = do
  width ← required width_of (codes "bitwidth") d
  Some (record { width = width })

-- an action: its name, its id, its runtime data and its primitives
unfoldable pub action_of : Data → Option Action
action_of d = do
  name ← required as_str (codes "name") d
  id ← required natural_of (codes "id") d
  runtime_data ← required (list_of datum_of) (codes "runtime_data") d
  steps ← required (list_of primitive_of) (codes "primitives") d
  Some (record { name = name; id = id; runtime_data = runtime_data; primitives = steps })
