-- Headers and their fields stand one behind the other, each at its place.
use Rattle.std.proofs.Common.{◌≡◌, ℕ, zero, suc, ◌+◌, ◌%◌, ◌<◌, ◌≤◌, nat_lt, Bool, true, false, not, ◌&&◌, List, [], ◌∷◌, length, map, take, Option, Some, None, refl, sym, ap, ◌∙◌, subst, arith}
use Rattle.std.specs.Prelude.{All, sum, sum_by, ◌==◌, slice_index_or}
use Rattle.std.specs.List.{slice_get, list_any}
use Rattle.std.specs.Str.{bytes_eq}
use Rattle.std.proofs.lemmas.Bool.Decides.{nat_tests}
use Rattle.std.proofs.lemmas.List.Elements.{All-nil, All-head, All-tail, All-map}
use Rattle.std.proofs.lemmas.List.Sums.{sum_by-cons, sum_by_more_le}
use Rattle.std.proofs.lemmas.List.{take_all, length-map}
use Rattle.std.proofs.lemmas.Option.{slice_get_within, get_or_from_slice_get}
use Rattle.bm_pipeline.specs.Validity.{IsWidth, IsHeader, HeadersStand}
use Rattle.bm_values.specs.declared.raw.Part.{Part}
use Rattle.bm_values.specs.declared.raw.Part.TheVariants as parts
use Rattle.bm_values.specs.Literals.{width_bits}
use Rattle.bm_records.specs.declared.raw.Header.{Header}
use Rattle.bm_records.specs.declared.raw.HeaderType.{HeaderType}
use Rattle.bm_records.specs.declared.raw.TypeField.{TypeField}
use Rattle.bm_records.specs.declared.raw.RawProgram.{RawProgram}
use Rattle.bm_json.specs.LeftOut.{is_left_out, type_left_out, type_named, is_ragged_type, has_ragged_type, is_ragged}
use Rattle.bm_json.specs.Limits as limits
use Rattle.bm_json.specs.Sound.{IsSoundWidth, IsSoundType}
use Rattle.bm_rules.specs.Names.{named}
use Rattle.bm_rules.specs.Fields.{fields_in, fields_of}
use Rattle.link_spec.specs.Fields.{fields_before, header_of, headers_from}
use Rattle.link_spec.proofs.Found.{of_found, each_fails}

-- how many fields a header has
abbrev pub count_of : RawProgram → Header → ℕ
count_of raw header = length (fields_of raw header)

-- ---- places

pub headers_length : (raw : RawProgram) (place first : ℕ) (headers : List Header) → length (headers_from raw place first headers) ≡ length headers
headers_length raw place first [] = refl
headers_length raw place first (header ∷ others) = ap suc (headers_length raw (place + 1) (first + count_of raw header) others)

same_header : (raw : RawProgram) (place first q g : ℕ) (x y : Header) → place ≡ q → first ≡ g → x ≡ y → Some (header_of raw place first x) ≡ Some (header_of raw q g y)
same_header raw place first q g x y e f same = cc

-- the header at a place, whose fields stand behind those of all headers before it
header_from : (raw : RawProgram) (place first : ℕ) (headers : List Header) (i : ℕ) (header : Header) → slice_get headers i ≡ Some header
    → slice_get (headers_from raw place first headers) i ≡ Some (header_of raw (place + i) (first + sum_by (count_of raw) (take i headers)) header)
header_from raw place first [] i header there = absurd cc
header_from raw place first (x ∷ others) zero header there =
    let same : x ≡ header = cc in
    same_header raw place first (place + 0) (first + 0) x header (omega arith) (omega arith) same
header_from raw place first (x ∷ others) (suc i) header there =
    header_from raw (place + 1) (first + count_of raw x) others i header there
    ∙ same_header raw (place + 1 + i) (first + count_of raw x + sum_by (count_of raw) (take i others)) (place + suc i) (first + sum_by (count_of raw) (x ∷ take i others)) header header
    (omega arith) (omega (arith, sum_by-cons (count_of raw) x (take i others))) refl

-- the same of all headers of a program
pub header_there : (raw : RawProgram) (i : ℕ) (header : Header) → slice_get raw.headers i ≡ Some header
    → slice_get (headers_from raw 0 0 raw.headers) i ≡ Some (header_of raw i (fields_before raw i) header)
header_there raw i header there =
    header_from raw 0 0 raw.headers i header there
    ∙ same_header raw (0 + i) (0 + fields_before raw i) i (fields_before raw i) header header (omega arith) (omega arith) refl

-- how many fields there are
pub fields_together : (raw : RawProgram) → fields_before raw (length raw.headers) ≡ sum_by (count_of raw) raw.headers
fields_together raw = ap (sum_by (count_of raw)) (take_all (length raw.headers) raw.headers (omega arith))

-- the fields of a header stand before all fields behind it
pub fields_within : (raw : RawProgram) (i : ℕ) (header : Header) → slice_get raw.headers i ≡ Some header → fields_before raw i + count_of raw header ≤ sum_by (count_of raw) raw.headers
fields_within raw i header there =
    let at = get_or_from_slice_get raw.headers i header header there in
    subst (λ x. fields_before raw i + count_of raw x ≤ sum_by (count_of raw) raw.headers) at
    (sum_by_more_le (count_of raw) raw.headers i header (slice_get_within raw.headers i header there))

before_later : (f : Header → ℕ) (headers : List Header) (i j : ℕ) (header : Header) → slice_get headers i ≡ Some header → i < j → sum_by f (take i headers) + f header ≤ sum_by f (take j headers)
before_later f [] i j header there less = absurd cc
before_later f (x ∷ others) zero zero header there less = absurd (omega arith)
before_later f (x ∷ others) zero (suc j) header there less =
    let same : x ≡ header = cc in
    omega (arith, ap f same, sum_by-cons f x (take j others))
before_later f (x ∷ others) (suc i) zero header there less = absurd (omega arith)
before_later f (x ∷ others) (suc i) (suc j) header there less =
    omega (arith, sum_by-cons f x (take i others), sum_by-cons f x (take j others), before_later f others i j header there (omega arith))

-- the fields of a header stand before those of a later one
pub fields_apart : (raw : RawProgram) (i j : ℕ) (header : Header) → slice_get raw.headers i ≡ Some header → i < j → fields_before raw i + count_of raw header ≤ fields_before raw j
fields_apart raw i j header there less = before_later (count_of raw) raw.headers i j header there less

-- ---- limits

same_count : (o : Option HeaderType) → limits.fields_in o ≡ length (fields_in o)
same_count None = refl
same_count (Some type) = refl

-- two sums of what is the same
pub same_sum : (n m s t f g : ℕ) → n ≡ m → s ≡ t → f ≡ n + s → g ≡ m + t → f ≡ g
same_sum n m s t f g e h i j = omega arith

same_counts : (raw : RawProgram) (headers : List Header) → sum_by (limits.fields_of raw.header_types) headers ≡ sum_by (count_of raw) headers
same_counts raw [] = refl
same_counts raw (header ∷ others) =
    same_sum (limits.fields_of raw.header_types header) (count_of raw header) (sum_by (limits.fields_of raw.header_types) others) (sum_by (count_of raw) others) _ _
    (same_count (type_named raw.header_types header.header_type)) (same_counts raw others)
    (sum_by-cons (limits.fields_of raw.header_types) header others) (sum_by-cons (count_of raw) header others)

-- what is not more than there is room for
pub at_most : (room n m : ℕ) → nat_lt room n ≡ false → n ≡ m → m ≤ room
at_most room n m fits e = grind (arith, nat_tests)

more_fields : (raw : RawProgram) (room : ℕ) (headers : List Header) → limits.has_more_fields room raw.header_types headers ≡ false → sum_by (count_of raw) headers ≤ room
more_fields raw room headers fits = at_most room (sum_by (limits.fields_of raw.header_types) headers) (sum_by (count_of raw) headers) fits (same_counts raw headers)

-- the headers have no more fields than there is room for
pub fields_limit : (raw : RawProgram) (room : ℕ) → limits.has_more_fields room raw.header_types raw.headers ≡ false → fields_before raw (length raw.headers) ≤ room
fields_limit raw room fits = subst (λ n. n ≤ room) (sym (fields_together raw)) (more_fields raw room raw.headers fits)

-- ---- widths

-- a width that is served and in its range is one of 1 to 128 bits
pub is_width : (width : Part ℕ) → IsSoundWidth width → is_left_out width ≡ false → IsWidth (width_bits width)
is_width (parts.Served bits) sound kept = sound
is_width parts.LeftOut sound kept = absurd cc

-- each field has a width of 1 to 128 bits
abbrev pub HaveWidths : List TypeField → Type 0
HaveWidths fields = All (λ field. IsWidth (width_bits field.width)) fields

type_widths : (type : HeaderType) → IsSoundType type → type_left_out type ≡ false → HaveWidths type.fields
type_widths type sound kept = λ k d l. is_width (slice_index_or type.fields k d).width (sound k d l) (each_fails (λ field. is_left_out field.width) type.fields kept k d l)

widths_in : (o : Option HeaderType) → ((type : HeaderType) → o ≡ Some type → HaveWidths type.fields) → HaveWidths (fields_in o)
widths_in None each = All-nil (λ field. IsWidth (width_bits field.width))
widths_in (Some type) each = each type refl

-- the widths of all header types are in their range and served
pub record HasTypes (raw : RawProgram) : Type 0 where
  pub sound : All IsSoundType raw.header_types
  pub kept : list_any type_left_out raw.header_types ≡ false

-- the fields of each header have widths
pub header_widths : (raw : RawProgram) → HasTypes raw → (header : Header) → HaveWidths (fields_of raw header)
header_widths raw types header =
    widths_in (named (λ type. type.name) header.header_type raw.header_types)
    (λ type e. type_widths type (of_found IsSoundType (λ type. bytes_eq type.name header.header_type) raw.header_types type types.sound e)
    (of_found (λ type. type_left_out type ≡ false) (λ type. bytes_eq type.name header.header_type) raw.header_types type (each_fails type_left_out raw.header_types types.kept) e))

-- ---- whole bytes

-- the bits of some fields
abbrev pub bits_together : List TypeField → ℕ
bits_together fields = sum (map (λ field. width_bits field.width) fields)

together : (fields : List TypeField) → sum_by (λ field. width_bits field.width) fields ≡ bits_together fields
together [] = refl
together (field ∷ fields) =
    same_sum (width_bits field.width) (width_bits field.width) (sum_by (λ field. width_bits field.width) fields) (bits_together fields) _ _ refl (together fields)
    (sum_by-cons (λ field. width_bits field.width) field fields) (sum_by-cons (λ n. n) (width_bits field.width) (map (λ field. width_bits field.width) fields))

whole_if : (n m : ℕ) → not (n % 8 == 0) ≡ false → n ≡ m → m % 8 ≡ 0
whole_if n m e f = grind (arith, nat_tests)

whole_type : (o : Option HeaderType) → is_ragged_type o ≡ false → bits_together (fields_in o) % 8 ≡ 0
whole_type None whole = refl
whole_type (Some type) whole = whole_if (sum_by (λ field. width_bits field.width) type.fields) (bits_together type.fields) whole (together type.fields)

-- a header that is not ragged has whole bytes
pub whole_bytes : (raw : RawProgram) (header : Header) → has_ragged_type raw.header_types header ≡ false → bits_together (fields_of raw header) % 8 ≡ 0
whole_bytes raw header whole = whole_type (type_named raw.header_types header.header_type) whole

packet_whole : (metadata ragged : Bool) → (not metadata && ragged) ≡ false → metadata ≡ false → ragged ≡ false
packet_whole true ragged e f = absurd cc
packet_whole false ragged e f = e

-- ---- the headers of a program

header_stands : (raw : RawProgram) → HasTypes raw → (place first : ℕ) (header : Header) → is_ragged raw.header_types header ≡ false → IsHeader place first (header_of raw place first header)
header_stands raw types place first header whole =
    record {
      own = refl;
      first = refl;
      count = sym (length-map (fields_of raw header) (λ field. width_bits field.width));
      widths = All-map IsWidth (λ field. width_bits field.width) (fields_of raw header) (header_widths raw types header);
      bits = refl;
      whole = λ own. whole_bytes raw header (packet_whole header.metadata (has_ragged_type raw.header_types header) whole own);
    }

headers_stand : (raw : RawProgram) → HasTypes raw → (fields place first : ℕ) (headers : List Header) → fields ≡ first + sum_by (count_of raw) headers
    → All (λ header. is_ragged raw.header_types header ≡ false) headers → HeadersStand fields place first (headers_from raw place first headers)
headers_stand raw types fields place first [] total whole = omega arith
headers_stand raw types fields place first (header ∷ others) total whole = (
  header_stands raw types place first header (All-head (λ header. is_ragged raw.header_types header ≡ false) header others whole),
  headers_stand raw types fields (place + 1) (first + count_of raw header) others (omega (arith, total, sum_by-cons (count_of raw) header others))
      (All-tail (λ header. is_ragged raw.header_types header ≡ false) header others whole),
)

-- all headers of a program stand
pub all_stand : (raw : RawProgram) → HasTypes raw → list_any (is_ragged raw.header_types) raw.headers ≡ false
    → HeadersStand (fields_before raw (length raw.headers)) 0 0 (headers_from raw 0 0 raw.headers)
all_stand raw types whole =
    headers_stand raw types (fields_before raw (length raw.headers)) 0 0 raw.headers (fields_together raw ∙ (let e : sum_by (count_of raw) raw.headers ≡ 0 + sum_by (count_of raw) raw.headers = omega arith in e))
    (each_fails (is_ragged raw.header_types) raw.headers whole)
