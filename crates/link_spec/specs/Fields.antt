-- Headers and fields by their places, for the names of a program that stand for something.
use Rattle.std.specs.Prelude.{ℕ, ◌+◌, if◌then◌else◌, List, [], ◌∷◌, length, map, take, Option, Some, None, is_some, unwrap_or, option_map, sum, sum_by, codes}
use Rattle.bm_expr.specs.declared.store.FieldPlace.{FieldPlace}
use Rattle.bm_expr.specs.declared.store.HeaderPlace.{HeaderPlace}
use Rattle.bm_pipeline.specs.declared.headers.FieldRef.{FieldRef}
use Rattle.bm_pipeline.specs.declared.headers.FieldRef.TheVariants as refs
use Rattle.bm_pipeline.specs.declared.headers.Header as pipeline
use Rattle.bm_pipeline.specs.declared.headers.StandardMetadata.{StandardMetadata}
use Rattle.bm_values.specs.declared.raw.Part.{Part}
use Rattle.bm_values.specs.declared.raw.Part.TheVariants as parts
use Rattle.bm_values.specs.declared.raw.FieldName.{FieldName}
use Rattle.bm_values.specs.Literals.{width_bits}
use Rattle.bm_records.specs.declared.raw.Header.{Header}
use Rattle.bm_records.specs.declared.raw.TypeField.{TypeField}
use Rattle.bm_records.specs.declared.raw.RawProgram.{RawProgram}
use Rattle.bm_rules.specs.Names.{place_of}
use Rattle.bm_rules.specs.Fields.{header_named, fields_of, field_by_names, bits_of_names, is_validity}

-- the place of an object, 0 where there is none
abbrev pub at : {A : Type 0} → (A → List ℕ) → List ℕ → List A → ℕ
at name_of name objects = unwrap_or (place_of name_of name objects) 0

-- the place of a header
abbrev pub header_at : RawProgram → List ℕ → ℕ
header_at raw name = at (λ header. header.name) name raw.headers

-- the fields of a list, or none
abbrev pub or_none : Option (List TypeField) → List TypeField
or_none None = []
or_none (Some fields) = fields

-- the fields of the header of a name
abbrev pub fields_named : RawProgram → List ℕ → List TypeField
fields_named raw name = or_none (option_map (fields_of raw) (header_named raw name))

-- how many fields the headers before a place have
abbrev pub fields_before : RawProgram → ℕ → ℕ
fields_before raw place = sum_by (λ header. length (fields_of raw header)) (take place raw.headers)

-- where the fields of the header of a name stand
abbrev pub header_place : RawProgram → List ℕ → HeaderPlace
header_place raw name = record { header = header_at raw name; first = fields_before raw (header_at raw name); count = length (fields_named raw name) }

-- the place of the field of the names of its header and of itself
abbrev pub field_by : RawProgram → List ℕ → List ℕ → FieldPlace
field_by raw header field =
    record {
      index = fields_before raw (header_at raw header) + at (λ x. x.name) field (fields_named raw header);
      header = header_at raw header;
      width = bits_of_names raw header field;
    }

-- the same of both names together
abbrev pub field_at : RawProgram → FieldName → FieldPlace
field_at raw name = field_by raw name.header name.field

-- what is read as a field
abbrev pub field_ref : RawProgram → FieldName → FieldRef
field_ref raw name = if is_validity name then refs.Valid (header_at raw name.header) else refs.Field (field_at raw name)

-- what a part that is served gives, and else another value
abbrev pub of_part : {A B : Type 0} → B → (A → B) → Part A → B
of_part other f (parts.Served x) = f x
of_part other f parts.LeftOut = other

-- no field
abbrev pub no_field : FieldPlace
no_field = record { index = 0; header = 0; width = 0 }

-- the place of a field that is written
abbrev pub target_at : RawProgram → Part FieldName → FieldPlace
target_at raw name = of_part no_field (field_at raw) name

-- what is read as a field, of a name that is served
abbrev pub part_ref : RawProgram → Part FieldName → FieldRef
part_ref raw name = of_part (refs.Valid 0) (field_ref raw) name

-- a header at a place, whose fields stand from this one on
abbrev pub header_of : RawProgram → ℕ → ℕ → Header → pipeline.Header
header_of raw place first header =
    record {
      place = record { header = place; first = first; count = length (fields_of raw header) };
      metadata = header.metadata;
      widths = map (λ field. width_bits field.width) (fields_of raw header);
      bits = sum (map (λ field. width_bits field.width) (fields_of raw header));
    }

-- the headers from a place on, one behind the other, and so their fields
abbrev pub headers_from : RawProgram → ℕ → ℕ → List Header → List pipeline.Header
headers_from raw place first [] = []
headers_from raw place first (header ∷ others) = header_of raw place first header ∷ headers_from raw (place + 1) (first + length (fields_of raw header)) others

-- a field of `standard_metadata`, where it is there
abbrev pub standard_field : RawProgram → List ℕ → Option FieldPlace
standard_field raw name = if is_some (field_by_names raw (codes "standard_metadata") name) then Some (field_by raw (codes "standard_metadata") name) else None

-- the fields of `standard_metadata`
abbrev pub standard_metadata_of : RawProgram → StandardMetadata
standard_metadata_of raw =
    record {
      ingress_port = standard_field raw (codes "ingress_port");
      packet_length = standard_field raw (codes "packet_length");
      egress_spec = field_by raw (codes "standard_metadata") (codes "egress_spec");
      egress_port = standard_field raw (codes "egress_port");
      egress_rid = standard_field raw (codes "egress_rid");
      mcast_grp = standard_field raw (codes "mcast_grp");
      parser_error = standard_field raw (codes "parser_error");
      checksum_error = standard_field raw (codes "checksum_error");
    }
