-- What is asked of messages, one after another.
use Rattle.std.specs.Prelude.{⊤}
use Rattle.std.proofs.Common.{◌≡◌, ℕ, ◌+◌, ◌%◌, Bool, List, ◌++◌, length, map, Option, Some, None}
use Rattle.std.specs.List.{list_any, flat_map}
use Rattle.wire_fields.specs.Fields.{Payload}
use Rattle.list_types.specs.Options.{◌>>=◌}
use Rattle.wire_messages.specs.Message.{each, bytes_of}
use Rattle.info_rules.specs.Pairs.{joined}

-- what is read of the messages that are left
abbrev pub read_of : {A : Type 0} → (List ℕ → Option A) → List Payload → Option (List A)
read_of read given = each bytes_of given >>= each read

-- Where all are read, the answer for all is that for those that are left.
abbrev pub Remains : {A : Type 0} → Option (List A) → Option (List A) → (A → Bool) → Type 0
Remains None rest asks = ⊤
Remains (Some all) None asks = ⊥
Remains (Some all) (Some rest) asks = list_any asks all ≡ list_any asks rest

-- Where all are read, what was there before and what all give is what there is now and what those that are left give.
abbrev pub Gathers : {A V : Type 0} → Option (List A) → Option (List A) → (A → List V) → List V → List V → Type 0
Gathers None rest gives before now = ⊤
Gathers (Some all) None gives before now = ⊥
Gathers (Some all) (Some rest) gives before now = before ++ flat_map gives all ≡ now ++ flat_map gives rest

-- Where all are read, a set of pairs there was before with those of all is the set that there is now with those of what is left.
abbrev pub Joins : {A : Type 0} → Option (List A) → Option (List A) → (A → List (ℕ × ℕ)) → List (ℕ × ℕ) → List (ℕ × ℕ) → Type 0
Joins None rest gives before now = ⊤
Joins (Some all) None gives before now = ⊥
Joins (Some all) (Some rest) gives before now = joined before (flat_map gives all) ≡ joined now (flat_map gives rest)

-- Where all are bytes, so many more than those that are left.
abbrev pub Counts : {A : Type 0} → Option (List A) → Option (List A) → ℕ → Type 0
Counts None rest more = ⊤
Counts (Some all) None more = ⊥
Counts (Some all) (Some rest) more = length all ≡ more + length rest

-- The same where each gives one thing.
abbrev pub Adds : {A B : Type 0} → Option (List A) → Option (List A) → (A → B) → List B → List B → Type 0
Adds None rest f before now = ⊤
Adds (Some all) None f before now = ⊥
Adds (Some all) (Some rest) f before now = before ++ map f all ≡ now ++ map f rest

-- Where all are read, their number is that so far and that of those that are left.
abbrev pub Tallies : {A : Type 0} → Option (List A) → Option (List A) → (List A → ℕ) → ℕ → Type 0
Tallies None rest f more = ⊤
Tallies (Some all) None f more = ⊥
Tallies (Some all) (Some rest) f more = f all ≡ more + f rest

-- The same of what is beyond whole bytes.
abbrev pub Exceeds : {A : Type 0} → Option (List A) → Option (List A) → (List A → ℕ) → ℕ → Type 0
Exceeds None rest f more = ⊤
Exceeds (Some all) None f more = ⊥
Exceeds (Some all) (Some rest) f more = f all % 8 ≡ (more + f rest) % 8
