-- The items of a tape, up to the end record: what is read, what is bad and where, and what is too many.
use Rattle.std.proofs.Common.{cond, Bool, ◌≡◌, ℕ, zero, suc, ◌<◌, ◌≤◌, true, false, leb, List, [], ◌∷◌, ◌++◌, length, Option, Some, None, Result, Ok, Err, flat_map, refl, sym, ap, subst, ◌∙◌, append_assoc, arith, inl, inr}
use Rattle.std.proofs.lemmas.Bool.{and_parts, and_from, leb-true, le-leb}
use Rattle.p4_types.specs.declared.tape.TapeRecord.TheVariants.{Call, Packet, Leave, Meet}
use Rattle.list_types.specs.Results.{◌>>=◌}
use Rattle.run_spec.specs.Tape.{end_bytes}
use Rattle.tape_spec.specs.Reading.{Flaw, Bad, TooMany, or_bad, begins_counted, item_at, item_within, nothing_after, with_first, items_at}
use Rattle.run_spec.proofs.Readers.{bind_ok, bind_err, chosen}
use Rattle.tape_spec.proofs.Flaws.{or_bad_ok, or_bad_err, or_bad_many, fine}
use Rattle.tape_spec.specs.declared.item.TapeItem.{TapeItem}
use Rattle.tape_spec.specs.declared.item.TapeItem.TheVariants.{Record, Bytes}
use Rattle.tape_spec.specs.Items.{ItemLanes, lanes_behind, item_bytes, MayFollow, AreItems}
use Rattle.tape_spec.proofs.ItemReaders.{any_bytes, MayBe, item_found, item_again, item_flawed}

abbrev Item : Type 0
Item = Option TapeItem

nothing_ok : (bytes : List ℕ) (items : List TapeItem) → nothing_after bytes ≡ Ok items → (bytes ≡ []) × ([] ≡ items)
nothing_ok [] items e = (refl, cc)
nothing_ok (b ∷ rest) items e = absurd cc

nothing_bad : (bytes : List ℕ) (left : ℕ) → nothing_after bytes ≡ Err (Bad left) → length bytes ≡ left
nothing_bad [] left e = absurd cc
nothing_bad (b ∷ rest) left e = cc

nothing_many : {T : Type 0} (bytes : List ℕ) (left : ℕ) → nothing_after bytes ≡ Err (TooMany left) → T
nothing_many [] left e = absurd cc
nothing_many (b ∷ rest) left e = absurd cc

-- what is read behind an item, of so many items more
abbrev after : ℕ → ItemLanes → Item × List ℕ → Result (List TapeItem) Flaw
after k lanes x = elim x.0 [ None ↦ nothing_after x.1 | Some first ↦ with_first first (items_at k (lanes_behind lanes first) x.1) ]

abbrev many : {X : Type 0} → ℕ → Result X Flaw
many left = Err (TooMany left)

abbrev bad : {X : Type 0} → ℕ → Result X Flaw
bad left = Err (Bad left)

many_fine : {X T : Type 0} (left : ℕ) (x : X) → many left ≡ fine x → T
many_fine left x e = absurd cc

many_bad : {X T : Type 0} (left n : ℕ) → many {X = X} left ≡ bad n → T
many_bad left n e = absurd cc

many_is : {X : Type 0} (left n : ℕ) → many {X = X} left ≡ many n → left ≡ n
many_is left n e = cc

-- where no record may follow, an item is read that is not counted
uncounted_ok : (lanes : ItemLanes) (bytes : List ℕ) (x : Item × List ℕ) → item_within 0 lanes bytes ≡ Ok x → (begins_counted bytes ≡ false) × (item_at lanes bytes ≡ Ok x)
uncounted_ok lanes bytes x e =
    elim (chosen (begins_counted bytes) (many (length bytes)) (or_bad (item_at lanes bytes)) (Ok x) e) [
      | inl c ↦ many_fine (length bytes) x c.1
      | inr c ↦ (c.0, or_bad_ok (item_at lanes bytes) x c.1)
    ]

uncounted_bad : (lanes : ItemLanes) (bytes : List ℕ) (left : ℕ) → item_within 0 lanes bytes ≡ Err (Bad left) → item_at lanes bytes ≡ Err left
uncounted_bad lanes bytes left e =
    elim (chosen (begins_counted bytes) (many (length bytes)) (or_bad (item_at lanes bytes)) (bad left) e) [
      | inl c ↦ many_bad {X = Item × List ℕ} (length bytes) left c.1
      | inr c ↦ or_bad_err (item_at lanes bytes) left c.1
    ]

counted : (lanes : ItemLanes) (bytes : List ℕ) (left : ℕ) → item_within 0 lanes bytes ≡ Err (TooMany left) → (begins_counted bytes ≡ true) × (length bytes ≡ left)
counted lanes bytes left e =
    elim (chosen (begins_counted bytes) (many (length bytes)) (or_bad (item_at lanes bytes)) (many left) e) [
      | inl c ↦ (c.0, many_is {X = Item × List ℕ} (length bytes) left c.1)
      | inr c ↦ or_bad_many (item_at lanes bytes) left c.1
    ]

apart : true ≡ false → ⊥
apart e = absurd cc

-- an item that is not counted is the end record
uncounted : (o : Item) (bytes rest : List ℕ) → begins_counted bytes ≡ false → bytes ≡ any_bytes o ++ rest → bytes ≡ end_bytes ++ rest
uncounted None bytes rest n e = e
uncounted (Some (Record (Call lane method message))) bytes rest n e = absurd (apart (sym (ap begins_counted e) ∙ n))
uncounted (Some (Record (Packet lane port packet))) bytes rest n e = absurd (apart (sym (ap begins_counted e) ∙ n))
uncounted (Some (Record (Leave lane))) bytes rest n e = absurd (apart (sym (ap begins_counted e) ∙ n))
uncounted (Some (Record (Meet lane controller call))) bytes rest n e = absurd (apart (sym (ap begins_counted e) ∙ n))
uncounted (Some (Bytes lane piece)) bytes rest n e = absurd (apart (sym (ap begins_counted e) ∙ n))

-- ---- reading what is spelled

pub items_end : (limit : ℕ) (lanes : ItemLanes) (rest : List ℕ) → items_at limit lanes (end_bytes ++ rest) ≡ nothing_after rest
unfolding items_at
items_end zero lanes rest = ap (λ (r : Result (Item × List ℕ) ℕ). or_bad r >>= λ x. nothing_after x.1) (item_again lanes None rest tt)
items_end (suc k) lanes rest = ap (λ (r : Result (Item × List ℕ) ℕ). or_bad r >>= after k lanes) (item_again lanes None rest tt)

pub items_more : (k : ℕ) (lanes : ItemLanes) (first : TapeItem) (rest : List ℕ) → MayFollow lanes first → items_at (suc k) lanes (item_bytes first ++ rest) ≡ with_first first (items_at k (lanes_behind lanes first) rest)
unfolding items_at
items_more k lanes first rest fits = ap (λ (r : Result (Item × List ℕ) ℕ). or_bad r >>= after k lanes) (item_again lanes (Some first) rest fits)

pub items_again : (items : List TapeItem) (limit : ℕ) (lanes : ItemLanes) → AreItems lanes items → length items ≤ limit → items_at limit lanes (flat_map item_bytes items ++ end_bytes) ≡ Ok items
items_again [] limit lanes each le = items_end limit lanes []
items_again (first ∷ items) zero lanes each le = absurd (omega arith)
items_again (first ∷ items) (suc k) lanes each le =
    ap (items_at (suc k) lanes) (append_assoc (item_bytes first) (flat_map item_bytes items) end_bytes)
    ∙ items_more k lanes first (flat_map item_bytes items ++ end_bytes) each.0
    ∙ ap (with_first first) (items_again items k (lanes_behind lanes first) each.1 (omega arith))

-- ---- what is read is spelled so

pub record ItemsFound (limit : ℕ) (lanes : ItemLanes) (bytes : List ℕ) (items : List TapeItem) : Type 0 where
  pub spelled : bytes ≡ flat_map item_bytes items ++ end_bytes
  pub each : AreItems lanes items
  pub count : length items ≤ limit

found_end : (limit : ℕ) (lanes : ItemLanes) (bytes rest : List ℕ) (items : List TapeItem) → bytes ≡ end_bytes ++ rest → nothing_after rest ≡ Ok items → ItemsFound limit lanes bytes items
found_end limit lanes bytes rest items spelled e =
    let n = nothing_ok rest items e in
    let none : ItemsFound limit lanes bytes [] = record { spelled = spelled ∙ ap (λ (w : List ℕ). end_bytes ++ w) n.0; each = tt; count = omega arith } in
    subst (ItemsFound limit lanes bytes) n.1 none

found_more : (k : ℕ) (lanes : ItemLanes) (bytes rest : List ℕ) (first : TapeItem) (others : List TapeItem) → bytes ≡ item_bytes first ++ rest → MayFollow lanes first → ItemsFound k (lanes_behind lanes first) rest others
    → ItemsFound (suc k) lanes bytes (first ∷ others)
found_more k lanes bytes rest first others spelled fits f = record {
  spelled = spelled ∙ ap (λ (w : List ℕ). item_bytes first ++ w) f.spelled ∙ sym (append_assoc (item_bytes first) (flat_map item_bytes others) end_bytes);
  each = (fits, f.each);
  count = omega (arith, f.count);
}

found_item : (k : ℕ) (lanes : ItemLanes) (o : Item) (bytes rest : List ℕ) (items : List TapeItem) → bytes ≡ any_bytes o ++ rest → MayBe lanes o → after k lanes (o, rest) ≡ Ok items
    → ((next : ItemLanes) (others : List TapeItem) → items_at k next rest ≡ Ok others → ItemsFound k next rest others) → ItemsFound (suc k) lanes bytes items
found_item k lanes None bytes rest items spelled fits e below = found_end (suc k) lanes bytes rest items spelled e
found_item k lanes (Some first) bytes rest items spelled fits e below =
    let b = bind_ok (items_at k (lanes_behind lanes first) rest) (λ others. Ok (first ∷ others)) items e in
    let same : first ∷ b.0 ≡ items = cc (b.2) in
    subst (ItemsFound (suc k) lanes bytes) same (found_more k lanes bytes rest first b.0 spelled fits (below (lanes_behind lanes first) b.0 b.1))

pub items_found : (limit : ℕ) (lanes : ItemLanes) (bytes : List ℕ) (items : List TapeItem) → items_at limit lanes bytes ≡ Ok items → ItemsFound limit lanes bytes items
unfolding items_at
items_found zero lanes bytes items e =
    let b = bind_ok (item_within 0 lanes bytes) (λ x. nothing_after x.1) items e in
    let u = uncounted_ok lanes bytes b.0 b.1 in
    let f = item_found lanes bytes b.0 u.1 in
    found_end 0 lanes bytes b.0.1 items (uncounted b.0.0 bytes b.0.1 u.0 f.0) b.2
items_found (suc k) lanes bytes items e =
    let b = bind_ok (item_within (suc k) lanes bytes) (after k lanes) items e in
    let f = item_found lanes bytes b.0 (or_bad_ok (item_at lanes bytes) b.0 b.1) in
    found_item k lanes b.0.0 bytes b.0.1 items f.0 f.1 b.2 (λ next others h. items_found k next b.0.1 others h)

-- ---- where no items are read

-- items and the end record go on with these bytes
pub record Completion (lanes : ItemLanes) (front : List ℕ) : Type 0 where
  pub more : List ℕ
  pub items : List TapeItem
  pub spelled : front ++ more ≡ flat_map item_bytes items ++ end_bytes
  pub each : AreItems lanes items

-- Records begin with the front before the flaw, and with the byte at the flaw none begin; and a higher limit changes nothing.
pub record ItemsFlawed (limit : ℕ) (lanes : ItemLanes) (bytes : List ℕ) (left : ℕ) : Type 0 where
  pub front : List ℕ
  pub tail : List ℕ
  pub parts : bytes ≡ front ++ tail
  pub size : length tail ≡ left
  pub goes_on : Completion lanes front
  pub worse : (b : ℕ) (rest more : List ℕ) → tail ≡ b ∷ rest → (k : ℕ) → limit < k → items_at k lanes (front ++ b ∷ more) ≡ Err (Bad (suc (length more)))
  pub still : (k : ℕ) → limit < k → items_at k lanes bytes ≡ Err (Bad left)

completes : (lanes : ItemLanes) (o : Item) (front more : List ℕ) → front ++ more ≡ any_bytes o ++ [] → MayBe lanes o → Completion lanes front
completes lanes None front more e fits = record { more = more; items = []; spelled = e; each = tt }
completes lanes (Some first) front more e fits = record {
  more = more ++ end_bytes;
  items = first ∷ [];
  spelled = sym (append_assoc front more end_bytes) ∙ ap (λ (w : List ℕ). w ++ end_bytes) e;
  each = (fits, tt);
}

items_stop : (limit k left : ℕ) (lanes : ItemLanes) (bytes : List ℕ) → limit < k → item_at lanes bytes ≡ Err left → items_at k lanes bytes ≡ Err (Bad left)
unfolding items_at
items_stop limit zero left lanes bytes lt e = absurd (omega arith)
items_stop limit (suc k) left lanes bytes lt e = ap (λ (r : Result (Item × List ℕ) ℕ). or_bad r >>= after k lanes) e

item_flaw : (limit : ℕ) (lanes : ItemLanes) (bytes : List ℕ) (left : ℕ) → item_at lanes bytes ≡ Err left → ItemsFlawed limit lanes bytes left
item_flaw limit lanes bytes left e =
    let f = item_flawed lanes bytes left e in
    let g = item_found lanes (f.front ++ f.more) (f.value, []) f.goes_on in
    record {
      front = f.front;
      tail = f.tail;
      parts = f.parts;
      size = f.size;
      goes_on = completes lanes f.value f.front f.more g.0 g.1;
      worse = λ b rest more h k lt. items_stop limit k (suc (length more)) lanes (f.front ++ b ∷ more) lt (f.worse b rest more h);
      still = λ k lt. items_stop limit k left lanes bytes lt e;
    }

end_flaw : (limit : ℕ) (lanes : ItemLanes) (bytes rest : List ℕ) (left : ℕ) → bytes ≡ end_bytes ++ rest → nothing_after rest ≡ Err (Bad left) → ItemsFlawed limit lanes bytes left
end_flaw limit lanes bytes rest left spelled e = record {
  front = end_bytes;
  tail = rest;
  parts = spelled;
  size = nothing_bad rest left e;
  goes_on = record { more = []; items = []; spelled = refl; each = tt };
  worse = λ b others more h k lt. items_end k lanes (b ∷ more);
  still = λ k lt. ap (items_at k lanes) spelled ∙ items_end k lanes rest ∙ e;
}

one_more_at : (limit k : ℕ) (lanes : ItemLanes) (first : TapeItem) (rest : List ℕ) (left : ℕ) → MayFollow lanes first → suc limit < k
    → ((j : ℕ) → limit < j → items_at j (lanes_behind lanes first) rest ≡ Err (Bad left)) → items_at k lanes (item_bytes first ++ rest) ≡ Err (Bad left)
one_more_at limit zero lanes first rest left fits lt below = absurd (omega arith)
one_more_at limit (suc k) lanes first rest left fits lt below = items_more k lanes first rest fits ∙ ap (with_first first) (below k (omega arith))

flaw_behind : (limit : ℕ) (lanes : ItemLanes) (first : TapeItem) (bytes rest : List ℕ) (left : ℕ) → bytes ≡ item_bytes first ++ rest → MayFollow lanes first → ItemsFlawed limit (lanes_behind lanes first) rest left
    → ItemsFlawed (suc limit) lanes bytes left
flaw_behind limit lanes first bytes rest left spelled fits f = record {
  front = item_bytes first ++ f.front;
  tail = f.tail;
  parts = spelled ∙ ap (λ (w : List ℕ). item_bytes first ++ w) f.parts ∙ sym (append_assoc (item_bytes first) f.front f.tail);
  size = f.size;
  goes_on = record {
    more = f.goes_on.more;
    items = first ∷ f.goes_on.items;
    spelled = append_assoc (item_bytes first) f.front f.goes_on.more ∙ ap (λ (w : List ℕ). item_bytes first ++ w) f.goes_on.spelled
        ∙ sym (append_assoc (item_bytes first) (flat_map item_bytes f.goes_on.items) end_bytes);
    each = (fits, f.goes_on.each);
  };
  worse = λ b others more h k lt. ap (items_at k lanes) (append_assoc (item_bytes first) f.front (b ∷ more))
      ∙ one_more_at limit k lanes first (f.front ++ b ∷ more) (suc (length more)) fits lt (λ j less. f.worse b others more h j less);
  still = λ k lt. ap (items_at k lanes) spelled ∙ one_more_at limit k lanes first rest left fits lt f.still;
}

with_first_err : (first : TapeItem) (read : Result (List TapeItem) Flaw) (flaw : Flaw) → with_first first read ≡ Err flaw → read ≡ Err flaw
with_first_err first (Ok others) flaw e = absurd cc
with_first_err first (Err d) flaw e = cc

flaw_item : (k : ℕ) (lanes : ItemLanes) (o : Item) (bytes rest : List ℕ) (left : ℕ) → bytes ≡ any_bytes o ++ rest → MayBe lanes o → after k lanes (o, rest) ≡ Err (Bad left)
    → ((next : ItemLanes) → items_at k next rest ≡ Err (Bad left) → ItemsFlawed k next rest left) → ItemsFlawed (suc k) lanes bytes left
flaw_item k lanes None bytes rest left spelled fits e below = end_flaw (suc k) lanes bytes rest left spelled e
flaw_item k lanes (Some first) bytes rest left spelled fits e below =
    flaw_behind k lanes first bytes rest left spelled fits (below (lanes_behind lanes first) (with_first_err first (items_at k (lanes_behind lanes first) rest) (Bad left) e))

pub items_flawed : (limit : ℕ) (lanes : ItemLanes) (bytes : List ℕ) (left : ℕ) → items_at limit lanes bytes ≡ Err (Bad left) → ItemsFlawed limit lanes bytes left
unfolding items_at
items_flawed zero lanes bytes left e =
    elim (bind_err (item_within 0 lanes bytes) (λ x. nothing_after x.1) (Bad left) e) [
      | inl d ↦ item_flaw 0 lanes bytes left (uncounted_bad lanes bytes left d)
      | inr d ↦
          let u = uncounted_ok lanes bytes d.0 d.1 in
          let f = item_found lanes bytes d.0 u.1 in
          end_flaw 0 lanes bytes d.0.1 left (uncounted d.0.0 bytes d.0.1 u.0 f.0) d.2
    ]
items_flawed (suc k) lanes bytes left e =
    elim (bind_err (item_within (suc k) lanes bytes) (after k lanes) (Bad left) e) [
      | inl d ↦ item_flaw (suc k) lanes bytes left (or_bad_err (item_at lanes bytes) left d)
      | inr d ↦
          let f = item_found lanes bytes d.0 (or_bad_ok (item_at lanes bytes) d.0 d.1) in
          flaw_item k lanes d.0.0 bytes d.0.1 left f.0 f.1 d.2 (λ next h. items_flawed k next d.0.1 left h)
    ]

-- ---- where there are too many

-- so many items, and one more that begins
pub record ItemsPast (limit : ℕ) (lanes : ItemLanes) (bytes : List ℕ) (left : ℕ) : Type 0 where
  pub items : List TapeItem
  pub kind : ℕ
  pub rest : List ℕ
  pub spelled : bytes ≡ flat_map item_bytes items ++ kind ∷ rest
  pub each : AreItems lanes items
  pub full : length items ≡ limit
  pub low_kind : 1 ≤ kind
  pub high_kind : kind ≤ 5
  pub place : length (kind ∷ rest) ≡ left

past_now : (lanes : ItemLanes) (bytes : List ℕ) (left : ℕ) → begins_counted bytes ≡ true → length bytes ≡ left → ItemsPast 0 lanes bytes left
past_now lanes [] left n e = absurd (apart (sym n))
past_now lanes (kind ∷ rest) left n e =
    let p = and_parts (leb 1 kind) (leb kind 5) n in
    record { items = []; kind = kind; rest = rest; spelled = refl; each = tt; full = refl; low_kind = leb-true 1 kind p.0; high_kind = leb-true kind 5 p.1; place = e }

past_behind : (k : ℕ) (lanes : ItemLanes) (first : TapeItem) (bytes rest : List ℕ) (left : ℕ) → bytes ≡ item_bytes first ++ rest → MayFollow lanes first → ItemsPast k (lanes_behind lanes first) rest left
    → ItemsPast (suc k) lanes bytes left
past_behind k lanes first bytes rest left spelled fits p = record {
  items = first ∷ p.items;
  kind = p.kind;
  rest = p.rest;
  spelled = spelled ∙ ap (λ (w : List ℕ). item_bytes first ++ w) p.spelled ∙ sym (append_assoc (item_bytes first) (flat_map item_bytes p.items) (p.kind ∷ p.rest));
  each = (fits, p.each);
  full = ap suc p.full;
  low_kind = p.low_kind;
  high_kind = p.high_kind;
  place = p.place;
}

past_item : (k : ℕ) (lanes : ItemLanes) (o : Item) (bytes rest : List ℕ) (left : ℕ) → bytes ≡ any_bytes o ++ rest → MayBe lanes o → after k lanes (o, rest) ≡ Err (TooMany left)
    → ((next : ItemLanes) → items_at k next rest ≡ Err (TooMany left) → ItemsPast k next rest left) → ItemsPast (suc k) lanes bytes left
past_item k lanes None bytes rest left spelled fits e below = nothing_many rest left e
past_item k lanes (Some first) bytes rest left spelled fits e below =
    past_behind k lanes first bytes rest left spelled fits (below (lanes_behind lanes first) (with_first_err first (items_at k (lanes_behind lanes first) rest) (TooMany left) e))

pub items_past : (limit : ℕ) (lanes : ItemLanes) (bytes : List ℕ) (left : ℕ) → items_at limit lanes bytes ≡ Err (TooMany left) → ItemsPast limit lanes bytes left
unfolding items_at
items_past zero lanes bytes left e =
    elim (bind_err (item_within 0 lanes bytes) (λ x. nothing_after x.1) (TooMany left) e) [
      | inl d ↦ let c = counted lanes bytes left d in past_now lanes bytes left c.0 c.1
      | inr d ↦ nothing_many d.0.1 left d.2
    ]
items_past (suc k) lanes bytes left e =
    elim (bind_err (item_within (suc k) lanes bytes) (after k lanes) (TooMany left) e) [
      | inl d ↦ or_bad_many (item_at lanes bytes) left d
      | inr d ↦
          let f = item_found lanes bytes d.0 (or_bad_ok (item_at lanes bytes) d.0 d.1) in
          past_item k lanes d.0.0 bytes d.0.1 left f.0 f.1 d.2 (λ next h. items_past k next d.0.1 left h)
    ]

-- a record that begins behind as many as the limit is one too many
pub past_again : (items : List TapeItem) (lanes : ItemLanes) (kind : ℕ) (rest : List ℕ) → AreItems lanes items → 1 ≤ kind → kind ≤ 5
    → items_at (length items) lanes (flat_map item_bytes items ++ kind ∷ rest) ≡ Err (TooMany (suc (length rest)))
unfolding items_at
past_again [] lanes kind rest each low high =
    let t : begins_counted (kind ∷ rest) ≡ true = and_from (leb 1 kind) (leb kind 5) (le-leb 1 kind low) (le-leb kind 5 high) in
    ap (λ (u : Bool). cond u (many {X = Item × List ℕ} (suc (length rest))) (or_bad (item_at lanes (kind ∷ rest))) >>= λ x. nothing_after x.1) t
past_again (first ∷ items) lanes kind rest each low high =
    ap (items_at (suc (length items)) lanes) (append_assoc (item_bytes first) (flat_map item_bytes items) (kind ∷ rest))
    ∙ items_more (length items) lanes first (flat_map item_bytes items ++ kind ∷ rest) each.0
    ∙ ap (with_first first) (past_again items (lanes_behind lanes first) kind rest each.1 low high)
