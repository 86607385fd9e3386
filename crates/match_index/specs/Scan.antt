-- Entries by their sequence numbers, and which of some numbers is that of an entry that is looked for.
use Rattle.std.specs.Prelude.{ℕ, ◌==◌, Bool, ◌&&◌, List, [], ◌∷◌, Option, Some, None, if◌then◌else◌}
use Rattle.std.specs.List.{find, fold}
use Rattle.std.specs.Option.{option_or}
use Rattle.p4_types.specs.declared.table.Entry.{Entry}
use Rattle.p4_types.specs.declared.table.EntryName.{EntryName}
use Rattle.plane_spec.specs.Entries.{same_name, hits, beats}
use Rattle.match_index.specs.declared.shapes.Shape.{Shape}
use Rattle.match_index.specs.Bins.{at}
use Rattle.match_index.specs.Cuts.{key_print}

-- the entry of a sequence number
abbrev pub entry_at : List Entry → ℕ → Option Entry
entry_at entries seq = find (λ entry. entry.seq == seq) entries

-- the entry, if it has that name
abbrev pub if_named : EntryName → Option Entry → Option Entry
if_named name None = None
if_named name (Some entry) = if same_name name entry.name then Some entry else None

-- the first of the numbers whose entry has that name
abbrev pub first_named : EntryName → List Entry → List ℕ → Option Entry
first_named name entries [] = None
first_named name entries (seq ∷ seqs) = option_or (if_named name (entry_at entries seq)) (first_named name entries seqs)

-- the entry is hit, and beats the best so far
abbrev pub wins : ℕ → List ℕ → Entry → Option Entry → Bool
wins table key entry None = hits table key entry
wins table key entry (Some other) = hits table key entry && beats entry other

-- the better of the best so far and an entry, if the key hits that
abbrev pub better : ℕ → List ℕ → Option Entry → Option Entry → Option Entry
better table key so_far None = so_far
better table key so_far (Some entry) = if wins table key entry so_far then Some entry else so_far

-- the better of the best so far and the entry of a number
abbrev pub better_at : ℕ → List ℕ → List Entry → Option Entry → ℕ → Option Entry
better_at table key entries so_far seq = better table key so_far (entry_at entries seq)

-- the best of the best so far and the entries of the numbers
abbrev pub best_in : ℕ → List ℕ → List Entry → Option Entry → List ℕ → Option Entry
best_in table key entries so_far seqs = fold (better_at table key entries) so_far seqs

-- the best of the best so far and the entries of a shape in the bin of the key
abbrev pub best_of_shape : ℕ → List ℕ → List Entry → Option Entry → Shape → Option Entry
best_of_shape table key entries so_far shape = best_in table key entries so_far (at shape.bins (key_print shape.cuts.items key))

-- the best of the entries that shapes offer for the key
abbrev pub best_of_shapes : ℕ → List ℕ → List Entry → List Shape → Option Entry
best_of_shapes table key entries shapes = fold (best_of_shape table key entries) None shapes
