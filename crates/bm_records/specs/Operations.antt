-- Kinds of primitives and of parsers' operations, by their names in JSON (BMv2 JSON form, "actions" and "parsers").
use Rattle.std.specs.Prelude.{ℕ, Bool, ◌||◌, if◌then◌else◌, List, nat_eq, codes}
use Rattle.std.specs.List.{starts_with}
use Rattle.std.specs.Str.{bytes_eq}
use Rattle.bm_records.specs.declared.operations.PrimitiveKind.{PrimitiveKind}
use Rattle.bm_records.specs.declared.operations.PrimitiveKind.TheVariants as primitives
use Rattle.bm_records.specs.declared.operations.ParserOpKind.{ParserOpKind}
use Rattle.bm_records.specs.declared.operations.ParserOpKind.TheVariants as parser_ops

-- a primitive that is left out by how its `op` begins: of clones, registers, assigned unions and jumps
abbrev pub begins_left_out : List ℕ → Bool
begins_left_out op =
    starts_with nat_eq op (codes "clone") || starts_with nat_eq op (codes "register_") || starts_with nat_eq op (codes "assign_union") || starts_with nat_eq op (codes "_jump")

-- a primitive that is left out by its whole `op`
abbrev pub is_named_left_out : List ℕ → Bool
is_named_left_out op =
    bytes_eq op (codes "resubmit") || bytes_eq op (codes "recirculate") || bytes_eq op (codes "execute_meter") || bytes_eq op (codes "push") || bytes_eq op (codes "pop")
    || bytes_eq op (codes "assign_header_stack") || bytes_eq op (codes "remove_union")

-- clones, what leaves and comes back, registers, meters, stacks, unions and jumps
abbrev pub is_left_out_primitive : List ℕ → Bool
is_left_out_primitive op = begins_left_out op || is_named_left_out op

-- the kind of a primitive, by its `op`
unfoldable pub primitive_kind : List ℕ → PrimitiveKind
primitive_kind op =
    if bytes_eq op (codes "assign") then primitives.Assign
    else if bytes_eq op (codes "add_header") then primitives.AddHeader
    else if bytes_eq op (codes "remove_header") then primitives.RemoveHeader
    else if bytes_eq op (codes "assign_header") then primitives.AssignHeader
    else if bytes_eq op (codes "mark_to_drop") || bytes_eq op (codes "drop") then primitives.Drop
    else if bytes_eq op (codes "count") then primitives.Count
    else if bytes_eq op (codes "generate_digest") then primitives.GenerateDigest
    else if bytes_eq op (codes "no_op") then primitives.NoOp
    else if is_left_out_primitive op then primitives.LeftOut
    else primitives.Unknown

-- the kind of a parser's operation, by its `op`
abbrev pub parser_op_kind : List ℕ → ParserOpKind
parser_op_kind op =
    if bytes_eq op (codes "extract") then parser_ops.Extract
    else if bytes_eq op (codes "set") then parser_ops.Set
    else if bytes_eq op (codes "extract_VL") || bytes_eq op (codes "verify") then parser_ops.LeftOut
    else parser_ops.Unknown
