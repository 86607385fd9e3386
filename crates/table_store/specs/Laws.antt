-- Laws of names, and of the entry that a key takes.
use Rattle.std.specs.Prelude.{◌≡◌, ◌≢◌, ◌⊎◌, ◌↔◌, ℕ, true, false, List, None, All, IfSome}
use Rattle.std.specs.List.{Contains}
use Rattle.p4_types.specs.declared.table.Entry.{Entry}
use Rattle.p4_types.specs.declared.table.EntryName.{EntryName}
use Rattle.plane_spec.specs.Entries.{same_name, hits, beats, best}

-- Names are the same just where they are equal.
abbrev pub NamesTell : Type 0
NamesTell = (a b : EntryName) → (same_name a b ≡ true) ↔ (a ≡ b)

-- The best entry is one of the entries, is hit, and is beaten by no entry that is hit.
abbrev pub BestWins : Type 0
BestWins = (table : ℕ) (key : List ℕ) (entries : List Entry)
    → IfSome (best table key entries) (λ entry. Contains entries entry × (hits table key entry ≡ true) × All (λ other. hits table key other ≡ true → beats other entry ≡ false) entries)

-- There is no best entry just where none is hit.
abbrev pub NoneIsBest : Type 0
NoneIsBest = (table : ℕ) (key : List ℕ) (entries : List Entry) → (best table key entries ≡ None) ↔ All (λ entry. hits table key entry ≡ false) entries

-- Of two entries with different sequence numbers one beats the other, and is not beaten by it.
abbrev pub OneBeats : Type 0
OneBeats = (a b : Entry) → a.seq ≢ b.seq → ((beats a b ≡ true) × (beats b a ≡ false)) ⊎ ((beats b a ≡ true) × (beats a b ≡ false))
