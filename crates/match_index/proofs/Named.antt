-- The entry of a name is the first of that name among the numbers of its row.
use Rattle.std.proofs.Common.{◌≡◌, ℕ, ◌+◌, ◌<◌, suc, zero, ◌⊎◌, inl, inr, ◌∙◌, Bool, true, false, ◌||◌, eqb, cond, List, [], ◌∷◌, length, get_or, take, add-one, Option, Some, None, refl, sym, ap, subst, arith}
use Rattle.std.specs.List.{AllByRecursion}
use Rattle.std.specs.Option.{option_or, option_map, is_some}
use Rattle.p4_types.specs.declared.table.Entry.{Entry}
use Rattle.p4_types.specs.declared.table.EntryName.{EntryName}
use Rattle.plane_spec.specs.Entries.{same_name, entry_named}
use Rattle.plane_spec.proofs.Names.{names_equal, name_is_same}
use Rattle.match_index.specs.Order.{AreInOrder}
use Rattle.match_index.specs.Scan.{entry_at, if_named, first_named}
use Rattle.match_index.specs.declared.shapes.Shape.{Shape}
use Rattle.match_index.specs.Shapes.{has_number, has_row, numbers_of}
use Rattle.match_index.proofs.Among.{Among, of_each, found_among, none_found}
use Rattle.match_index.proofs.Ordered.{equal, at_number, one_name}

neither : (a b : Option Entry) → option_or a b ≡ None → (a ≡ None) × (b ≡ None)
neither None b h = (refl, h)
neither (Some x) b h = cc

-- a step of the walk over the numbers: those before have no entry of that name, and this one has
first_here : (name : EntryName) (entries : List Entry) (seqs : List ℕ) (place d : ℕ) (entry : Entry) → place < length seqs → first_named name entries (take place seqs) ≡ None
    → if_named name (entry_at entries (get_or seqs place d)) ≡ Some entry → first_named name entries seqs ≡ Some entry
first_here name entries [] place d entry in_range before here = absurd (omega arith)
first_here name entries (seq ∷ seqs) zero d entry in_range before here = ap (λ (o : Option Entry). option_or o (first_named name entries seqs)) here
first_here name entries (seq ∷ seqs) (suc place) d entry in_range before here =
    let n = neither (if_named name (entry_at entries seq)) (first_named name entries (take place seqs)) before in
    ap (λ (o : Option Entry). option_or o (first_named name entries seqs)) n.0 ∙ first_here name entries seqs place d entry (omega arith) n.1 here

first_push : (name : EntryName) (entries : List Entry) (seqs : List ℕ) (place d : ℕ) → place < length seqs → first_named name entries (take place seqs) ≡ None
    → if_named name (entry_at entries (get_or seqs place d)) ≡ None → first_named name entries (take (suc place) seqs) ≡ None
first_push name entries [] place d in_range before here = absurd (omega arith)
first_push name entries (seq ∷ seqs) zero d in_range before here = ap (λ (o : Option Entry). option_or o None) here
first_push name entries (seq ∷ seqs) (suc place) d in_range before here =
    let n = neither (if_named name (entry_at entries seq)) (first_named name entries (take place seqs)) before in
    ap (λ (o : Option Entry). option_or o (first_named name entries (take (suc place) seqs))) n.0 ∙ first_push name entries seqs place d (omega arith) n.1 here

-- the walk ends where an entry of that name is found, and goes on where none is
pub walk_ends : {R : Type 0} (now : R → Entry) (found : Option R) (name : EntryName) (entries : List Entry) (seqs : List ℕ) (place d : ℕ) → place < length seqs → first_named name entries (take place seqs) ≡ None
    → is_some found ≡ true → option_map now found ≡ if_named name (entry_at entries (get_or seqs place d)) → option_map now found ≡ first_named name entries seqs
walk_ends now None name entries seqs place d in_range before some is = absurd (let c : ⊥ = cc in c)
walk_ends now (Some x) name entries seqs place d in_range before some is = sym (first_here name entries seqs place d (now x) in_range before (sym is))

pub walk_goes_on : {R : Type 0} (now : R → Entry) (found : Option R) (name : EntryName) (entries : List Entry) (seqs : List ℕ) (place d : ℕ) → place < length seqs → first_named name entries (take place seqs) ≡ None
    → is_some found ≡ false → option_map now found ≡ if_named name (entry_at entries (get_or seqs place d)) → first_named name entries (take (place + 1) seqs) ≡ None
walk_goes_on now None name entries seqs place d in_range before none is = ap (λ (n : ℕ). first_named name entries (take n seqs)) (add-one place) ∙ first_push name entries seqs place d in_range before (sym is)
walk_goes_on now (Some x) name entries seqs place d in_range before none is = absurd (let c : ⊥ = cc in c)

-- what if_named gives has the name, and is the entry
named_by : (name : EntryName) (b : Bool) (x entry : Entry) → same_name name x.name ≡ b → cond b (Some x) None ≡ Some entry → (x ≡ entry) × (same_name name entry.name ≡ true)
named_by name true x entry h is = let same : x ≡ entry = cc in (same, subst (λ (e : Entry). same_name name e.name ≡ true) same h)
named_by name false x entry h is = cc

is_named : (name : EntryName) (found : Option Entry) (entry : Entry) → if_named name found ≡ Some entry → (found ≡ Some entry) × (same_name name entry.name ≡ true)
is_named name None entry is = cc
is_named name (Some x) entry is = let r = named_by name (same_name name x.name) x entry refl is in (ap (λ (e : Entry). Some e) r.0, r.1)

module _ (name : EntryName) (entries : List Entry) where
  nowhere_at : (seq : ℕ) (found : Option Entry) → entry_named name entries ≡ None → entry_at entries seq ≡ found → if_named name found ≡ None
  unfolding entry_named
  nowhere_at seq None missed is = refl
  nowhere_at seq (Some x) missed is =
      rw (none_found (λ (e : Entry). same_name name e.name) entries x missed (found_among (λ (e : Entry). eqb e.seq seq) entries x is).0) refl

  nowhere : (seqs : List ℕ) → entry_named name entries ≡ None → first_named name entries seqs ≡ None
  nowhere [] missed = refl
  nowhere (seq ∷ seqs) missed = rw (nowhere_at seq (entry_at entries seq) missed refl) (nowhere seqs missed)

  -- each number has no entry of that name, or this one
  none_or_this : (seq : ℕ) (entry : Entry) → AreInOrder entries → Among entries entry → name ≡ entry.name → (found : Option Entry) → if_named name (entry_at entries seq) ≡ found → (found ≡ None) ⊎ (found ≡ Some entry)
  none_or_this seq entry order among named None is = inl refl
  none_or_this seq entry order among named (Some x) is =
      let r = is_named name (entry_at entries seq) x is in
      let in_x : Among entries x = (found_among (λ (e : Entry). eqb e.seq seq) entries x r.0).0 in
      inr (ap (λ (e : Entry). Some e) (one_name entries name x entry order in_x among (names_equal name x.name r.1) named))

  this_at : (seq : ℕ) (entry : Entry) → AreInOrder entries → Among entries entry → name ≡ entry.name → entry.seq ≡ seq → if_named name (entry_at entries seq) ≡ Some entry
  this_at seq entry order among named same =
      let h : same_name name entry.name ≡ true = subst (λ (n : EntryName). same_name name n ≡ true) named (name_is_same name) in
      rw (at_number entries entry seq order among same, h) refl

  found_here : (seq : ℕ) (seqs : List ℕ) (entry : Entry) → AreInOrder entries → Among entries entry → name ≡ entry.name → (has_number entry.seq seqs ≡ true → first_named name entries seqs ≡ Some entry)
      → (b : Bool) → eqb seq entry.seq ≡ b → (b || has_number entry.seq seqs) ≡ true → (found : Option Entry) → (found ≡ None) ⊎ (found ≡ Some entry) → if_named name (entry_at entries seq) ≡ found
      → option_or (if_named name (entry_at entries seq)) (first_named name entries seqs) ≡ Some entry
  found_here seq seqs entry order among named rest true h has found which is = rw (this_at seq entry order among named (sym (equal seq entry.seq h))) refl
  found_here seq seqs entry order among named rest false h has found (inl none) is = rw (is ∙ none) (rest has)
  found_here seq seqs entry order among named rest false h has found (inr some) is = rw (is ∙ some) refl

  found_in : (seqs : List ℕ) (entry : Entry) → AreInOrder entries → Among entries entry → name ≡ entry.name → has_number entry.seq seqs ≡ true → first_named name entries seqs ≡ Some entry
  found_in [] entry order among named has = cc
  found_in (seq ∷ seqs) entry order among named has =
      found_here seq seqs entry order among named (found_in seqs entry order among named) (eqb seq entry.seq) refl has _ (none_or_this seq entry order among named _ refl) refl

  found_by : (shapes : List Shape) (found : Option Entry) → AreInOrder entries → AllByRecursion (λ entry. has_row shapes entry.name.tests entry.seq ≡ true) entries → entry_named name entries ≡ found
      → first_named name entries (numbers_of shapes name.tests) ≡ found
  unfolding entry_named
  found_by shapes None order covered is = nowhere (numbers_of shapes name.tests) is
  found_by shapes (Some entry) order covered is =
      let r = found_among (λ (e : Entry). same_name name e.name) entries entry is in
      let named : name ≡ entry.name = names_equal name entry.name r.1 in
      let row : has_row shapes entry.name.tests entry.seq ≡ true = of_each (λ (e : Entry). has_row shapes e.name.tests e.seq ≡ true) entries entry covered r.0 in
      found_in (numbers_of shapes name.tests) entry order r.0 named (subst (λ (n : EntryName). has_row shapes n.tests entry.seq ≡ true) (sym named) row)

pub found_by_name : (name : EntryName) (entries : List Entry) (shapes : List Shape) → AreInOrder entries → AllByRecursion (λ entry. has_row shapes entry.name.tests entry.seq ≡ true) entries
    → first_named name entries (numbers_of shapes name.tests) ≡ entry_named name entries
found_by_name name entries shapes order covered = found_by name entries shapes (entry_named name entries) order covered refl
