-- The answers of an index are those of a flat list of its rows.
use Rattle.std.proofs.Common.{◌≡◌, ℕ, ◌∙◌, Bool, true, false, not, List, Option, Some, None, refl, sym, ap, subst}
use Rattle.std.specs.Prelude.{filter}
use Rattle.std.specs.List.{list_any}
use Rattle.std.specs.Option.{IsSomeAnd}
use Rattle.p4_types.specs.declared.table.Entry.{Entry}
use Rattle.p4_types.specs.declared.table.EntryName.{EntryName}
use Rattle.plane_spec.specs.Entries.{hits, beats, best, entry_named, same_name, prefix_length}
use Rattle.plane_spec.proofs.Names.{names_equal, name_is_same}
use Rattle.row_index.specs.Best.{IsBest, IsUnbeaten, IsNamed}
use Rattle.row_index.specs.Laws.{row_of, IsFlat, HaveNumbers, HaveNames, BestIsFlat, NamedIsFlat}
use Rattle.row_index.proofs.Among.{Among, among, contains, find_none, find_only, among_filter, of_filter, none_any, any_none}
use Rattle.row_index.proofs.Ranks.{wins_neither}

clash : (b : Bool) → b ≡ true → b ≡ false → ⊥
clash b h k = cc

not_true : (b : Bool) → not b ≡ true → b ≡ false
not_true true h = cc
not_true false h = refl

false_by : (b : Bool) → (b ≡ true → ⊥) → b ≡ false
false_by true never = absurd (never refl)
false_by false never = refl

same_seq : (a b : Entry) → beats a b ≡ false → beats b a ≡ false → a.seq ≡ b.seq
same_seq a b h k = wins_neither a.name.priority b.name.priority (prefix_length a.name.tests) (prefix_length b.name.tests) a.seq b.seq h k

module _ (linked : ℕ → Bool) (rows : ℕ → Option Entry) (entries : List Entry) (flat : IsFlat linked rows entries) where
  module _ (table : ℕ) (key : List ℕ) (numbers : HaveNumbers entries) where
    best_there : (place : ℕ) (there : Option Entry) → there ≡ rows place → linked place ≡ true → IsSomeAnd there (λ entry. (hits table key entry ≡ true) × IsUnbeaten linked rows table key entry) → there ≡ best table key entries
    unfolding best
    best_there place None is link is_best = absurd is_best
    best_there place (Some entry) is link is_best =
        let here : Among entries entry = among entries entry (flat.each place entry link (sym is)) in
        let among_hits : Among (filter (hits table key) entries) entry = among_filter (hits table key) entries entry here is_best.0 in
        let unbeaten : (other : Entry) → Among (filter (hits table key) entries) other → beats other entry ≡ false = λ other has.
        let r = of_filter (hits table key) entries other has in
        let at = flat.only other (contains entries other r.0) in
        is_best.1 at.0 other at.1 at.2 r.1 in
        sym (find_only (λ (e : Entry). not (list_any (λ other. beats other e) (filter (hits table key) entries))) (filter (hits table key) entries) entry among_hits
        (ap (λ (b : Bool). not b) (none_any (λ (other : Entry). beats other entry) (filter (hits table key) entries) unbeaten))
        (λ y has wins.
        let r = of_filter (hits table key) entries y has in
        let not_beaten : beats entry y ≡ false = any_none (λ (other : Entry). beats other y) (filter (hits table key) entries) (not_true _ wins) entry among_hits in
        numbers y entry (contains entries y r.0) (contains entries entry here) (same_seq y entry (unbeaten y has) not_beaten)))

    none_best : ((place : ℕ) (entry : Entry) → linked place ≡ true → rows place ≡ Some entry → hits table key entry ≡ false) → None ≡ best table key entries
    unfolding best
    none_best none =
        sym (find_none (λ (e : Entry). not (list_any (λ other. beats other e) (filter (hits table key) entries))) (filter (hits table key) entries) (λ x has.
        let r = of_filter (hits table key) entries x has in
        let at = flat.only x (contains entries x r.0) in
        absurd (clash (hits table key x) r.1 (none at.0 x at.1 at.2))))

    pub flat_best : (found : Option ℕ) → IsBest linked rows table key found → row_of rows found ≡ best table key entries
    flat_best None is_best = none_best is_best
    flat_best (Some place) is_best = best_there place (rows place) refl is_best.0 is_best.1

  module _ (name : EntryName) (names : HaveNames entries) where
    named_there : (place : ℕ) (there : Option Entry) → there ≡ rows place → linked place ≡ true → IsSomeAnd there (λ entry. same_name name entry.name ≡ true) → there ≡ entry_named name entries
    unfolding entry_named
    named_there place None is link is_named = absurd is_named
    named_there place (Some entry) is link is_named =
        let here : Among entries entry = among entries entry (flat.each place entry link (sym is)) in
        sym (find_only (λ (e : Entry). same_name name e.name) entries entry here is_named
        (λ y has same.
        let equal : y.name ≡ entry.name = sym (names_equal name y.name same) ∙ names_equal name entry.name is_named in
        names y entry (contains entries y has) (contains entries entry here) (subst (λ (n : EntryName). same_name y.name n ≡ true) equal (name_is_same y.name))))

    none_named : ((place : ℕ) (entry : Entry) → linked place ≡ true → rows place ≡ Some entry → same_name name entry.name ≡ false) → None ≡ entry_named name entries
    unfolding entry_named
    none_named none =
        sym (find_none (λ (e : Entry). same_name name e.name) entries (λ x has.
        let at = flat.only x (contains entries x has) in
        none at.0 x at.1 at.2))

    pub flat_named : (found : Option ℕ) → IsNamed linked rows name found → row_of rows found ≡ entry_named name entries
    flat_named None is_named = none_named is_named
    flat_named (Some place) is_named = named_there place (rows place) refl is_named.0 is_named.1

pub best_is_flat : BestIsFlat
best_is_flat linked rows entries table key found flat numbers is_best = flat_best linked rows entries flat table key numbers found is_best

pub named_is_flat : NamedIsFlat
named_is_flat linked rows entries name found flat names is_named = flat_named linked rows entries flat name names found is_named
