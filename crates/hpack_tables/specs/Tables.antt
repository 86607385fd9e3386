-- The static table and the dynamic table (RFC 7541, section 2.3, section 4 and appendix A).
use Rattle.std.specs.Prelude.{ℕ, zero, suc, ◌+◌, ◌-◌, nat_lt, if◌then◌else◌, codes, List, [], ◌∷◌, ◌++◌, length, slice_get, Option, None}
use Rattle.hpack_tables.specs.declared.header.Header.{Header}

-- a header of this name and this value
abbrev pub header : List ℕ → List ℕ → Header
header name value = record { name = name; value = value }

-- the static table, from index 1 on
unfoldable pub static_table : List Header
static_table =
    header (codes ":authority") ([]) ∷
    header (codes ":method") (codes "GET") ∷
    header (codes ":method") (codes "POST") ∷
    header (codes ":path") (codes "/") ∷
    header (codes ":path") (codes "/index.html") ∷
    header (codes ":scheme") (codes "http") ∷
    header (codes ":scheme") (codes "https") ∷
    header (codes ":status") (codes "200") ∷
    header (codes ":status") (codes "204") ∷
    header (codes ":status") (codes "206") ∷
    header (codes ":status") (codes "304") ∷
    header (codes ":status") (codes "400") ∷
    header (codes ":status") (codes "404") ∷
    header (codes ":status") (codes "500") ∷
    header (codes "accept-charset") ([]) ∷
    header (codes "accept-encoding") (codes "gzip, deflate") ∷
    header (codes "accept-language") ([]) ∷
    header (codes "accept-ranges") ([]) ∷
    header (codes "accept") ([]) ∷
    header (codes "access-control-allow-origin") ([]) ∷
    header (codes "age") ([]) ∷
    header (codes "allow") ([]) ∷
    header (codes "authorization") ([]) ∷
    header (codes "cache-control") ([]) ∷
    header (codes "content-disposition") ([]) ∷
    header (codes "content-encoding") ([]) ∷
    header (codes "content-language") ([]) ∷
    header (codes "content-length") ([]) ∷
    header (codes "content-location") ([]) ∷
    header (codes "content-range") ([]) ∷
    header (codes "content-type") ([]) ∷
    header (codes "cookie") ([]) ∷
    header (codes "date") ([]) ∷
    header (codes "etag") ([]) ∷
    header (codes "expect") ([]) ∷
    header (codes "expires") ([]) ∷
    header (codes "from") ([]) ∷
    header (codes "host") ([]) ∷
    header (codes "if-match") ([]) ∷
    header (codes "if-modified-since") ([]) ∷
    header (codes "if-none-match") ([]) ∷
    header (codes "if-range") ([]) ∷
    header (codes "if-unmodified-since") ([]) ∷
    header (codes "last-modified") ([]) ∷
    header (codes "link") ([]) ∷
    header (codes "location") ([]) ∷
    header (codes "max-forwards") ([]) ∷
    header (codes "proxy-authenticate") ([]) ∷
    header (codes "proxy-authorization") ([]) ∷
    header (codes "range") ([]) ∷
    header (codes "referer") ([]) ∷
    header (codes "refresh") ([]) ∷
    header (codes "retry-after") ([]) ∷
    header (codes "server") ([]) ∷
    header (codes "set-cookie") ([]) ∷
    header (codes "strict-transport-security") ([]) ∷
    header (codes "transfer-encoding") ([]) ∷
    header (codes "user-agent") ([]) ∷
    header (codes "vary") ([]) ∷
    header (codes "via") ([]) ∷
    header (codes "www-authenticate") ([]) ∷ []

-- the size of an entry
abbrev pub entry_size : Header → ℕ
entry_size entry = length entry.name + length entry.value + 32

-- a dynamic table: its entries, the newest first, and how large they may be together
pub record Table : Type 0 where
  pub entries : List Header
  pub max_size : ℕ

-- the newest entries, as many as fit in this room together
unfoldable pub fitting : ℕ → List Header → List Header
fitting room [] = []
fitting room (entry ∷ entries) = if nat_lt room (entry_size entry) then [] else entry ∷ fitting (room - entry_size entry) entries

-- The table with a new entry, for which the oldest make room. One that is larger than the table empties it.
abbrev pub inserted : Header → Table → Table
inserted entry table = record { entries = fitting table.max_size (entry ∷ table.entries); max_size = table.max_size }

-- the table with another maximum
abbrev pub resized : ℕ → Table → Table
resized size table = record { entries = fitting size table.entries; max_size = size }

-- the entry of this index: those of the static table come first, from 1 on
abbrev pub entry_at : Table → ℕ → Option Header
entry_at table zero = None
entry_at table (suc place) = slice_get (static_table ++ table.entries) place
