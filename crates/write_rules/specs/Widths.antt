-- What a valid P4Info says of the widths of its objects.
use Rattle.std.specs.Prelude.{All}
use Rattle.p4_types.specs.declared.info.Action.{Action}
use Rattle.p4_types.specs.declared.info.Table.{Table}
use Rattle.p4info_model.specs.Valid.{IsWidth}

-- every field of the key has a width of 1 to 128 bits
abbrev pub HasWidths : Table → Type 0
HasWidths table = All (λ field. IsWidth field.bitwidth) table.match_fields

-- every parameter has one
abbrev pub HasParamWidths : Action → Type 0
HasParamWidths action = All (λ param. IsWidth param.bitwidth) action.params
