-- What changes of the entries do to sums over them.
use Rattle.std.proofs.Common.{◌≡◌, ℕ, ◌+◌, ◌≤◌, Bool, true, false, cond, not, List, [], ◌∷◌, refl, ltb, leb, arith}
use Rattle.std.specs.List.{filter, sum_by}
use Rattle.std.proofs.lemmas.Bool.Decides.{nat_tests}
use Rattle.std.proofs.lemmas.List.Filters.{sum_by-filter_both}
use Rattle.std.proofs.lemmas.List.Sums.{sum_by-append, sum_by-cons}
use Rattle.p4_types.specs.declared.table.Entry.{Entry}
use Rattle.p4_types.specs.declared.table.EntryChange.{EntryChange}
use Rattle.p4_types.specs.declared.table.EntryName.{EntryName}
use Rattle.plane_spec.specs.Entries.{same_name, inserted, modified, deleted, with_change}

-- the two filters of an INSERT share out the entries
above_is_not_within : (a b : ℕ) → ltb a b ≡ not (leb b a)
above_is_not_within a b = grind (arith, nat_tests)

-- A sum over the entries has the new one's part more, wherever it stands.
pub sum-inserted : (f : Entry → ℕ) (entry : Entry) (entries : List Entry) → sum_by f (inserted entry entries) ≡ sum_by f entries + f entry
unfolding inserted
sum-inserted f entry entries =
    let t = entry.name.table in
    let low : List Entry = filter (λ other. leb other.name.table t) entries in
    let high : List Entry = filter (λ other. ltb t other.name.table) entries in
    let parts : sum_by f low + sum_by f high ≡ sum_by f entries = sum_by-filter_both (λ other. leb other.name.table t) (λ other. ltb t other.name.table) (λ other. above_is_not_within t other.name.table) f entries in
    let all = sum_by-append f low (entry ∷ high) in
    let one = sum_by-cons f entry high in
    omega (arith, parts, all, one)

either : (f : Entry → ℕ) (change : EntryChange) → ((e : Entry) → f (with_change change e) ≡ f e) → (b : Bool) (e : Entry) → f (cond b (with_change change e) e) ≡ f e
either f change keeps true e = keeps e
either f change keeps false e = refl

pub sum-modified : (f : Entry → ℕ) (change : EntryChange) → ((e : Entry) → f (with_change change e) ≡ f e) → (entries : List Entry) → sum_by f (modified change entries) ≡ sum_by f entries
unfolding modified
sum-modified f change keeps [] = refl
sum-modified f change keeps (e ∷ entries) =
    let now : Entry = cond (same_name change.name e.name) (with_change change e) e in
    let same = either f change keeps (same_name change.name e.name) e in
    let rest = sum-modified f change keeps entries in
    let new = sum_by-cons f now (modified change entries) in
    let old = sum_by-cons f e entries in
    omega (arith, same, rest, new, old)

pub sum-deleted : (f : Entry → ℕ) (name : EntryName) (entries : List Entry) → sum_by f (deleted name entries) ≤ sum_by f entries
unfolding deleted
sum-deleted f name entries =
    let p : Entry → Bool = λ e. not (same_name name e.name) in
    omega (arith, sum_by-filter_both p (λ e. not (p e)) (λ e. refl) f entries)
