-- The fields and headers of one packet.
use Rattle.std.specs.Prelude.{ℕ, Bool, true, false, if◌then◌else◌, List, slice_index, slice_index_or, slice_set, replicate, ◌⊎◌, ◌+◌, ◌≤◌, ◌%◌, ◌^◌}
use Rattle.std.specs.List.{splice, slice_range}
use Rattle.bm_expr.specs.declared.store.FieldPlace.{FieldPlace}
use Rattle.bm_expr.specs.declared.store.HeaderPlace.{HeaderPlace}

-- the number of each field, and whether each header is valid
pub record Contents : Type 0 where
  pub fields : List ℕ
  pub valid : List Bool

-- whether a header is valid
abbrev pub header_valid : Contents → ℕ → Bool
header_valid store header = slice_index_or store.valid header false

-- what a field reads: 0 where its header is invalid
abbrev pub field_read : Contents → FieldPlace → ℕ
field_read store place = if header_valid store place.header then slice_index store.fields place.index else 0

-- a field is written, cut to its width
abbrev pub field_written : Contents → FieldPlace → ℕ → Contents
field_written store place value = record store { fields = slice_set store.fields place.index (value % 2 ^ place.width) }

-- a header becomes valid or invalid
abbrev pub validity_written : Contents → ℕ → Bool → Contents
validity_written store header valid = record store { valid = slice_set store.valid header valid }

-- a field is assigned: that of an invalid header stays as it is
abbrev pub assigned : Contents → FieldPlace → ℕ → Contents
assigned store place value = if header_valid store place.header then field_written store place value else store

-- a store in which no header is valid and each field is 0
abbrev pub cleared : ℕ → ℕ → Contents
cleared fields headers = record { fields = replicate fields 0; valid = replicate headers false }

-- the fields of a header become 0
abbrev pub fields_zeroed : Contents → HeaderPlace → Contents
fields_zeroed store place = record store { fields = splice store.fields place.first (place.first + place.count) (replicate place.count 0) }

-- `add_header`: an invalid header becomes valid with all its fields 0, and a valid one stays as it is
abbrev pub header_added : Contents → HeaderPlace → Contents
header_added store place = if header_valid store place.header then store else validity_written (fields_zeroed store place) place.header true

-- `assign_header`: a header takes the fields and the validity of another one of its type
abbrev pub header_assigned : Contents → HeaderPlace → HeaderPlace → Contents
header_assigned store to from =
    record {
      fields = splice store.fields to.first (to.first + from.count) (slice_range store.fields from.first (from.first + from.count));
      valid = slice_set store.valid to.header (header_valid store from.header);
    }

-- the fields of two headers do not overlap
abbrev pub AreApart : HeaderPlace → HeaderPlace → Type 0
AreApart one other = (one.first + one.count ≤ other.first) ⊎ (other.first + other.count ≤ one.first)
