-- What the readers of bytes in memory answer, against reading on lists.
use Rattle.std.specs.Prelude.{◌≡◌, ℕ, List, [], ◌∷◌, ◌++◌, Option, Some, None, Result, Ok, Err, ⊤}
use Rattle.tape_spec.specs.declared.item.TapeItem.{TapeItem}
use Rattle.p4_types.specs.declared.tape.TapeRecord.{TapeRecord}
use Rattle.p4_types.specs.declared.tape.TapeRecord.TheVariants.{Call, Packet, Leave, Meet}
use Rattle.list_types.specs.Results.{◌>>=◌}
use Rattle.tape_spec.specs.Items.{ItemLanes}
use Rattle.run_spec.specs.TapeReading.{packet_at, meet_at, end_at}
use Rattle.tape_spec.specs.Reading.{Flaw, Bad, TooMany, call_at, piece_at, leave_at, as_item, as_some, nothing_after}
use Rattle.tape_spec.specs.declared.item.TapeItem.TheVariants.{Record, Bytes}
use Rattle.tape_form.specs.declared.parse.BadByte.{BadByte}
use Rattle.tape_form.specs.declared.parse.Flaw.{Flaw as Found}
use Rattle.tape_form.specs.declared.parse.Flaw.TheVariants as found
use Rattle.tape_form.specs.declared.parse.Kind.{Kind}
use Rattle.tape_form.specs.declared.parse.Kind.TheVariants as kinds
use Rattle.tape_form.specs.declared.parse.Seen.{Seen}
use Rattle.tape_form.specs.declared.parse.Seen.TheVariants as seen

-- what a reader of one value answered, seen by view, is what reading gives
abbrev pub Finds : {X Y : Type 0} → (X → Y) → Result X BadByte → Result Y ℕ → Type 0
Finds view (Ok x) read = read ≡ Ok (view x)
Finds view (Err bad) read = read ≡ Err bad.left

-- an item without where its bytes lie in memory
abbrev pub item_of : Seen → TapeItem
item_of (seen.Call lane method message) = Record (Call lane method message.now)
item_of (seen.Packet lane port packet) = Record (Packet lane port packet.now)
item_of (seen.Bytes lane bytes) = Bytes lane bytes.now
item_of (seen.Leave lane) = Record (Leave lane)
item_of (seen.Meet lane controller call) = Record (Meet lane controller call)

-- what is read as a record, as an item
abbrev pub as_record : Result (TapeRecord × List ℕ) ℕ → Result (TapeItem × List ℕ) ℕ
as_record read = read >>= λ x. Ok (Record x.0, x.1)

-- the same, where there is one
abbrev pub item_if_any : Option Seen → Option TapeItem
item_if_any None = None
item_if_any (Some x) = Some (item_of x)

-- what stands behind a kind, where the lanes are so: an item, or none behind that of the end record, and the bytes after it
abbrev pub behind_kind : Kind → ItemLanes → List ℕ → Result (Option TapeItem × List ℕ) ℕ
behind_kind kinds.End lanes rest = end_at rest >>= λ after. Ok (None, after)
behind_kind kinds.Call lanes rest = as_some (call_at lanes rest)
behind_kind kinds.Packet lanes rest = as_item (packet_at rest)
behind_kind kinds.Bytes lanes rest = as_some (piece_at lanes rest)
behind_kind kinds.Leave lanes rest = as_some (leave_at lanes rest)
behind_kind kinds.Meet lanes rest = as_item (meet_at lanes.lanes rest)

-- nothing stands behind the end record, or this is the first byte of it
abbrev pub IsEmptied : {R : Type 0} → Result R BadByte → List ℕ → Type 0
IsEmptied (Ok done) rest = nothing_after rest ≡ Ok []
IsEmptied (Err bad) rest = nothing_after rest ≡ Err (Bad bad.left)

-- the flaw of a reader of many records is that of reading
abbrev pub IsFound : {Y : Type 0} → Found → Result Y Flaw → Type 0
IsFound (found.Bad left) read = read ≡ Err (Bad left)
IsFound (found.TooMany left) read = read ≡ Err (TooMany left)

-- these records are kept, seen by view, or there was no memory for them
abbrev pub IsKept : {X E : Type 0} → (X → List TapeItem) → Result X E → List TapeItem → Type 0
IsKept view (Ok x) records = view x ≡ records
IsKept view (Err e) records = ⊤

-- one more record is kept, or there was no memory for one of them
abbrev pub Grows : {X E : Type 0} → (X → List TapeItem) → Result X E → Result X E → TapeItem → Type 0
Grows view (Ok x) (Ok y) next = view y ≡ view x ++ next ∷ []
Grows view (Err e) (Ok y) next = ⊥
Grows view (Ok x) (Err f) next = ⊤
Grows view (Err e) (Err f) next = ⊤

-- What a reader of many records answered, seen by view, is what reading gives. Want of memory to keep them comes only where
-- reading gives records.
abbrev pub GivesAll : {X E : Type 0} → (X → List TapeItem) → Result (Result X E) Found → Result (List TapeItem) Flaw → Type 0
GivesAll view (Ok kept) read = (records : List TapeItem) × IsKept view kept records × (read ≡ Ok records)
GivesAll view (Err flaw) read = IsFound flaw read

-- no record was left to read, or this is the flaw
abbrev pub EndsAlone : {R : Type 0} → Result R Found → Result (List TapeItem) Flaw → Type 0
EndsAlone (Ok done) read = read ≡ Ok []
EndsAlone (Err flaw) read = IsFound flaw read
