-- What names of headers and fields are linked to is there.
use Rattle.std.proofs.Common.{◌≡◌, ℕ, ◌%◌, ◌<◌, Bool, true, false, cond, not, List, length, Option, Some, None, is_some, refl, sym, ap, ◌∙◌, arith}
use Rattle.std.specs.Prelude.{unwrap_or, option_map, option_and_then}
use Rattle.std.specs.List.{slice_get}
use Rattle.std.specs.Str.{bytes_eq}
use Rattle.std.proofs.lemmas.Bool.{and_parts}
use Rattle.p4_types.specs.declared.info.Info.{Info}
use Rattle.bm_expr.specs.declared.store.HeaderPlace.{HeaderPlace}
use Rattle.bm_expr.specs.Fits.{FieldFits}
use Rattle.bm_pipeline.specs.declared.headers.FieldRef.TheVariants as refs
use Rattle.bm_pipeline.specs.Places.{counts}
use Rattle.bm_pipeline.specs.Validity.{IsWidth, IsHeaderPlace, IsInPackets, IsField, IsRead}
use Rattle.bm_values.specs.declared.raw.Part.{Part}
use Rattle.bm_values.specs.declared.raw.Part.TheVariants as parts
use Rattle.bm_values.specs.declared.raw.FieldName.{FieldName}
use Rattle.bm_values.specs.Literals.{width_bits}
use Rattle.bm_records.specs.declared.raw.Header.{Header}
use Rattle.bm_records.specs.declared.raw.TypeField.{TypeField}
use Rattle.bm_records.specs.declared.raw.RawProgram.{RawProgram}
use Rattle.bm_json.specs.LeftOut.{is_left_out, is_ragged_header, names_ragged}
use Rattle.bm_rules.specs.Fields.{header_named, has_header, fields_of, field_among, field_by_names, is_validity, is_readable, is_writable, is_part, field_bits, bits_of_names}
use Rattle.link_spec.specs.Fields.{at, header_at, or_none, fields_named, fields_before, header_place, field_by, field_at, field_ref, target_at, part_ref, header_of, headers_from}
use Rattle.link_spec.specs.Linked.{program_of}
use Rattle.link_spec.proofs.Found.{Found, found, found_within, of_found, some_has}
use Rattle.link_spec.proofs.Headers.{count_of, headers_length, header_there, fields_together, fields_within, HasTypes, header_widths, whole_bytes}

-- the header of a name is there
abbrev pub HeaderFound : RawProgram → List ℕ → Type 0
HeaderFound raw name = Found Header (λ header. bytes_eq header.name name) raw.headers

-- a header that is known is found
pub header_found : (raw : RawProgram) (name : List ℕ) → has_header raw name ≡ true → HeaderFound raw name
header_found raw name known = found (λ header. bytes_eq header.name name) raw.headers known

-- its place is what the name is linked to
pub header_at_is : (raw : RawProgram) (name : List ℕ) (f : HeaderFound raw name) → header_at raw name ≡ f.place
header_at_is raw name f = ap (λ o. unwrap_or o 0) f.at

-- so are its fields
pub fields_named_is : (raw : RawProgram) (name : List ℕ) (f : HeaderFound raw name) → fields_named raw name ≡ fields_of raw f.object
fields_named_is raw name f = ap (λ o. or_none (option_map (fields_of raw) o)) f.is

-- a header that is known has a place among the headers
pub header_exists : (raw : RawProgram) (info : Info) (name : List ℕ) → has_header raw name ≡ true → header_at raw name < length (program_of raw info).headers
header_exists raw info name known =
    let f : HeaderFound raw name = header_found raw name known in
    omega (arith, header_at_is raw name f, headers_length raw 0 0 raw.headers, found_within (λ header. bytes_eq header.name name) raw.headers f)

-- the header at the place of a name
header_stands_at : (raw : RawProgram) (name : List ℕ) (f : HeaderFound raw name)
    → slice_get (headers_from raw 0 0 raw.headers) (header_at raw name) ≡ Some (header_of raw f.place (fields_before raw f.place) f.object)
header_stands_at raw name f = ap (slice_get (headers_from raw 0 0 raw.headers)) (header_at_is raw name f) ∙ header_there raw f.place f.object f.there

same_place : (header first count header' first' count' : ℕ) → header ≡ header' → first ≡ first' → count ≡ count'
    → ◌≡◌ {A = HeaderPlace} (record { header = header; first = first; count = count }) (record { header = header'; first = first'; count = count' })
same_place header first count header' first' count' p q r = λ i. record { header = p i; first = q i; count = r i }

-- where the fields of a header that is known stand
header_place_is : (raw : RawProgram) (name : List ℕ) (f : HeaderFound raw name)
    → (header_of raw f.place (fields_before raw f.place) f.object).place ≡ header_place raw name
header_place_is raw name f =
    same_place f.place (fields_before raw f.place) (count_of raw f.object) (header_at raw name) (fields_before raw (header_at raw name)) (length (fields_named raw name))
    (sym (header_at_is raw name f)) (ap (fields_before raw) (sym (header_at_is raw name f))) (ap length (sym (fields_named_is raw name f)))

-- a header that is known is linked to the place where it stands
pub header_placed : (raw : RawProgram) (info : Info) (name : List ℕ) → has_header raw name ≡ true → IsHeaderPlace (program_of raw info) (header_place raw name)
header_placed raw info name known =
    let f : HeaderFound raw name = header_found raw name known in
    some_has (λ header. header.place ≡ header_place raw name) (slice_get (headers_from raw 0 0 raw.headers) (header_at raw name)) (header_of raw f.place (fields_before raw f.place) f.object)
    (header_stands_at raw name f) (header_place_is raw name f)

-- one that is read from packets or written to them has whole bytes
pub header_in_packets : (raw : RawProgram) (info : Info) (name : List ℕ) → has_header raw name ≡ true → names_ragged raw.header_types raw.headers name ≡ false
    → IsInPackets (program_of raw info) (header_at raw name)
header_in_packets raw info name known whole =
    let f : HeaderFound raw name = header_found raw name known in
    some_has (λ header. header.bits % 8 ≡ 0) (slice_get (headers_from raw 0 0 raw.headers) (header_at raw name)) (header_of raw f.place (fields_before raw f.place) f.object)
    (header_stands_at raw name f) (whole_bytes raw f.object (sym (ap (is_ragged_header raw.header_types) f.is) ∙ whole))

-- ---- fields

field_header : (raw : RawProgram) (field : List ℕ) (o : Option Header) → is_some (option_and_then (field_among field) (option_map (fields_of raw) o)) ≡ true → is_some o ≡ true
field_header raw field None some = some
field_header raw field (Some header) some = refl

-- the field of the names of a header and of itself
record FieldFound (raw : RawProgram) (header field : List ℕ) : Type 0 where
  in_header : HeaderFound raw header
  own : Found TypeField (λ x. bytes_eq x.name field) (fields_of raw in_header.object)

by_names : (raw : RawProgram) (header field : List ℕ) (f : HeaderFound raw header) → field_by_names raw header field ≡ field_among field (fields_of raw f.object)
by_names raw header field f = ap (λ o. option_and_then (field_among field) (option_map (fields_of raw) o)) f.is

-- a field that is known is found
field_found : (raw : RawProgram) (header field : List ℕ) → is_some (field_by_names raw header field) ≡ true → FieldFound raw header field
field_found raw header field some =
    let f : HeaderFound raw header = header_found raw header (field_header raw field (header_named raw header) some) in
    record { in_header = f; own = found (λ x. bytes_eq x.name field) (fields_of raw f.object) (sym (ap is_some (by_names raw header field f)) ∙ some) }

field_index : (raw : RawProgram) (header field : List ℕ) (f : FieldFound raw header field) → at (λ x. x.name) field (fields_named raw header) ≡ f.own.place
field_index raw header field f =
    ap (λ fields. at (λ x. x.name) field fields) (fields_named_is raw header f.in_header) ∙ ap (λ o. unwrap_or o 0) f.own.at

field_width : (raw : RawProgram) (header field : List ℕ) (f : FieldFound raw header field) → bits_of_names raw header field ≡ width_bits f.own.object.width
field_width raw header field f = ap field_bits (by_names raw header field f.in_header ∙ f.own.is)

-- a field that is known is among the program's
pub field_fits : (raw : RawProgram) (info : Info) (args : ℕ) → HasTypes raw → (header field : List ℕ) → is_some (field_by_names raw header field) ≡ true
    → FieldFits (counts (program_of raw info) args) (field_by raw header field)
field_fits raw info args types header field some =
    let f : FieldFound raw header field = field_found raw header field some in
    let before : fields_before raw (header_at raw header) ≡ fields_before raw f.in_header.place = ap (fields_before raw) (header_at_is raw header f.in_header) in
    let width : IsWidth (width_bits f.own.object.width) =
    of_found (λ x. IsWidth (width_bits x.width)) (λ x. bytes_eq x.name field) (fields_of raw f.in_header.object) f.own.object (header_widths raw types f.in_header.object) f.own.is in
    record {
      field = omega (
        arith,
        before,
        field_index raw header field f,
        found_within (λ x. bytes_eq x.name field) (fields_of raw f.in_header.object) f.own,
        fields_together raw,
        fields_within raw f.in_header.place f.in_header.object f.in_header.there,
      );
      header = header_exists raw info header (ap is_some f.in_header.is);
      width = omega (arith, field_width raw header field f, width.1);
    }

-- a name that may be written is linked to a field
pub writable : (raw : RawProgram) (info : Info) → HasTypes raw → (name : FieldName) → is_writable raw name ≡ true → IsField (program_of raw info) (field_at raw name)
writable raw info types name known = field_fits raw info 0 types name.header name.field (and_parts (not (is_validity name)) (is_some (field_by_names raw name.header name.field)) known).1

read_by : (raw : RawProgram) (info : Info) → HasTypes raw → (name : FieldName) (validity : Bool) → cond validity (has_header raw name.header) (is_some (field_by_names raw name.header name.field)) ≡ true
    → IsRead (program_of raw info) (cond validity (refs.Valid (header_at raw name.header)) (refs.Field (field_at raw name)))
read_by raw info types name true known = header_exists raw info name.header known
read_by raw info types name false known = field_fits raw info 0 types name.header name.field known

-- a name that may be read is linked to a field or the validity of a header
pub readable : (raw : RawProgram) (info : Info) → HasTypes raw → (name : FieldName) → is_readable raw name ≡ true → IsRead (program_of raw info) (field_ref raw name)
readable raw info types name known = read_by raw info types name (is_validity name) known

-- so is a part that is served and may be read
pub part_readable : (raw : RawProgram) (info : Info) → HasTypes raw → (name : Part FieldName) → is_part (is_readable raw) name ≡ true → is_left_out name ≡ false → IsRead (program_of raw info) (part_ref raw name)
part_readable raw info types (parts.Served name) known kept = readable raw info types name known
part_readable raw info types parts.LeftOut known kept = absurd cc

-- a target that is served and may be written is linked to a field
pub target_written : (raw : RawProgram) (info : Info) → HasTypes raw → (name : Part FieldName) → is_part (is_writable raw) name ≡ true → is_left_out name ≡ false → IsField (program_of raw info) (target_at raw name)
target_written raw info types (parts.Served name) known kept = writable raw info types name known
target_written raw info types parts.LeftOut known kept = absurd cc
