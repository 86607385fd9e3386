-- Tapes with lanes of bytes, and their reading: the laws.
use Rattle.std.proofs.Common.{◌≡◌, ℕ, zero, suc, ◌+◌, ◌-◌, ◌<◌, ◌≤◌, Bool, true, false, cond, eqb, List, [], ◌∷◌, ◌++◌, length, take, Result, Ok, Err, flat_map, refl, sym, ap, subst, ◌∙◌, append_assoc, append-nil, arith, inl, inr}
use Rattle.std.proofs.lemmas.Bool.{eq-eqb, eqb-true}
use Rattle.std.proofs.lemmas.List.{take_at, length-append}
use Rattle.list_types.specs.Results.{◌>>=◌}
use Rattle.run_spec.specs.Tape.{magic, end_bytes}
use Rattle.run_spec.specs.TapeReading.{text_at}
use Rattle.tape_spec.specs.Reading.{Flaw, Bad, TooMany, or_bad, with_first, items_at, tape_at}
use Rattle.run_spec.proofs.Readers.{bind_ok, bind_err, chosen, failed, clash, err_is}
use Rattle.tape_spec.proofs.Flaws.{or_bad_ok, or_bad_err, or_bad_many, fine}
use Rattle.tape_spec.specs.declared.item.TapeItem.{TapeItem}
use Rattle.tape_spec.specs.Items.{ItemLanes, lanes_behind, item_bytes, no_item_lanes, AreItems, IsTapeOf, Begins, NoneBeginsAnother}
use Rattle.tape_spec.specs.ReadingLaws.{IsNone, ReadAreItems, ItemsAreRead, BadPlaceIsExact, BeyondIsExact, BeyondIsFound}
use Rattle.tape_spec.proofs.TapeItems.{items_end, items_more, items_again, items_found, ItemsFlawed, items_flawed, items_past, past_again}

-- ---- the text in front

text_again : (text rest : List ℕ) → text_at text (text ++ rest) ≡ Ok rest
unfolding text_at
text_again [] rest = refl
text_again (c ∷ text) rest = ap (λ (t : Bool). cond t (text_at text (text ++ rest)) (Err (suc (length (text ++ rest))))) (eq-eqb c c refl) ∙ text_again text rest

text_found : (text bytes rest : List ℕ) → text_at text bytes ≡ Ok rest → bytes ≡ text ++ rest
unfolding text_at
text_found [] bytes rest e = cc
text_found (c ∷ text) [] rest e = absurd cc
text_found (c ∷ text) (b ∷ bytes) rest e =
    elim (chosen (eqb b c) (text_at text bytes) (failed (suc (length bytes))) (Ok rest) e) [
      | inl h ↦ let same : b ≡ c = eqb-true b c h.0 in ap (λ (d : ℕ). d ∷ bytes) same ∙ ap (λ (w : List ℕ). c ∷ w) (text_found text bytes rest h.1)
      | inr h ↦ clash rest (suc (length bytes)) h.1
    ]

-- the text goes on with the front before the flaw, and not with the byte at the flaw
record TextFlawed (text bytes : List ℕ) (left : ℕ) : Type 0 where
  front : List ℕ
  tail : List ℕ
  more : List ℕ
  parts : bytes ≡ front ++ tail
  size : length tail ≡ left
  goes_on : front ++ more ≡ text
  worse : (b : ℕ) (rest more : List ℕ) → tail ≡ b ∷ rest → text_at text (front ++ b ∷ more) ≡ Err (suc (length more))

other_byte : (c b : ℕ) (text bytes : List ℕ) (left : ℕ) → eqb b c ≡ false → suc (length bytes) ≡ left → TextFlawed (c ∷ text) (b ∷ bytes) left
unfolding text_at
other_byte c b text bytes left t e = record {
  front = [];
  tail = b ∷ bytes;
  more = c ∷ text;
  parts = refl;
  size = e;
  goes_on = refl;
  worse = λ d rest more h. let same : b ≡ d = cc in
      ap (λ (n : ℕ). text_at (c ∷ text) (n ∷ more)) (sym same) ∙ ap (λ (u : Bool). cond u (text_at text more) (failed (suc (length more)))) t;
}

same_byte : (c b : ℕ) (text bytes : List ℕ) (left : ℕ) → eqb b c ≡ true → TextFlawed text bytes left → TextFlawed (c ∷ text) (b ∷ bytes) left
unfolding text_at
same_byte c b text bytes left t f = record {
  front = b ∷ f.front;
  tail = f.tail;
  more = f.more;
  parts = ap (λ (w : List ℕ). b ∷ w) f.parts;
  size = f.size;
  goes_on = ap (λ (w : List ℕ). b ∷ w) f.goes_on ∙ ap (λ (d : ℕ). d ∷ text) (eqb-true b c t);
  worse = λ d rest more h. ap (λ (u : Bool). cond u (text_at text (f.front ++ d ∷ more)) (failed (suc (length (f.front ++ d ∷ more))))) t ∙ f.worse d rest more h;
}

text_flawed : (text bytes : List ℕ) (left : ℕ) → text_at text bytes ≡ Err left → TextFlawed text bytes left
unfolding text_at
text_flawed [] bytes left e = absurd cc
text_flawed (c ∷ text) [] left e = record {
  front = [];
  tail = [];
  more = c ∷ text;
  parts = refl;
  size = err_is {X = List ℕ} 0 left e;
  goes_on = refl;
  worse = λ b rest more h. absurd cc;
}
text_flawed (c ∷ text) (b ∷ bytes) left e =
    elim (chosen (eqb b c) (text_at text bytes) (failed (suc (length bytes))) (Err left) e) [
      | inl h ↦ same_byte c b text bytes left h.0 (text_flawed text bytes left h.1)
      | inr h ↦ other_byte c b text bytes left h.0 (err_is {X = List ℕ} (suc (length bytes)) left h.1)
    ]

-- ---- what is read and what is a tape

pub tape_is_read : ItemsAreRead
unfolding tape_at
tape_is_read limit bytes items tape le =
    ap (tape_at limit) tape.spelled
    ∙ ap (λ (r : Result (List ℕ) ℕ). or_bad r >>= items_at limit no_item_lanes) (text_again magic (flat_map item_bytes items ++ end_bytes))
    ∙ items_again items limit no_item_lanes tape.each le

pub read_is_tape : ReadAreItems
unfolding tape_at
read_is_tape limit bytes items e =
    let b = bind_ok (or_bad (text_at magic bytes)) (items_at limit no_item_lanes) items e in
    let t = text_found magic bytes b.0 (or_bad_ok (text_at magic bytes) b.0 b.1) in
    let f = items_found limit no_item_lanes b.0 items b.2 in
    (record { spelled = t ∙ ap (λ (w : List ℕ). magic ++ w) f.spelled; each = f.each }, f.count)

-- ---- the place of a flaw

-- some tape begins with the front before the flaw, none with the byte at the flaw; and a higher limit changes nothing
record TapeFlawed (limit : ℕ) (bytes : List ℕ) (left : ℕ) : Type 0 where
  front : List ℕ
  tail : List ℕ
  parts : bytes ≡ front ++ tail
  size : length tail ≡ left
  begins : Begins front
  worse : (b : ℕ) (rest more : List ℕ) → tail ≡ b ∷ rest → (k : ℕ) → limit < k → tape_at k (front ++ b ∷ more) ≡ Err (Bad (suc (length more)))
  still : (k : ℕ) → limit < k → tape_at k bytes ≡ Err (Bad left)

magic_flaw : (limit : ℕ) (bytes : List ℕ) (left : ℕ) → text_at magic bytes ≡ Err left → TapeFlawed limit bytes left
unfolding tape_at
magic_flaw limit bytes left e =
    let f = text_flawed magic bytes left e in
    record {
      front = f.front;
      tail = f.tail;
      parts = f.parts;
      size = f.size;
      begins = record {
        items = [];
        more = f.more ++ end_bytes;
        tape = record {
          spelled = sym (append_assoc f.front f.more end_bytes) ∙ ap (λ (w : List ℕ). w ++ end_bytes) f.goes_on;
          each = tt;
        };
      };
      worse = λ b rest more h k lt. ap (λ (r : Result (List ℕ) ℕ). or_bad r >>= items_at k no_item_lanes) (f.worse b rest more h);
      still = λ k lt. ap (λ (r : Result (List ℕ) ℕ). or_bad r >>= items_at k no_item_lanes) e;
    }

record_flaw : (limit : ℕ) (bytes rest : List ℕ) (left : ℕ) → bytes ≡ magic ++ rest → ItemsFlawed limit no_item_lanes rest left → TapeFlawed limit bytes left
unfolding tape_at
record_flaw limit bytes rest left spelled f = record {
  front = magic ++ f.front;
  tail = f.tail;
  parts = spelled ∙ ap (λ (w : List ℕ). magic ++ w) f.parts;
  size = f.size;
  begins = record { items = f.goes_on.items; more = f.goes_on.more; tape = record { spelled = ap (λ (w : List ℕ). magic ++ w) f.goes_on.spelled; each = f.goes_on.each } };
  worse = λ b others more h k lt. ap (λ (r : Result (List ℕ) ℕ). or_bad r >>= items_at k no_item_lanes) (text_again magic (f.front ++ b ∷ more)) ∙ f.worse b others more h k lt;
  still = λ k lt. ap (tape_at k) spelled ∙ ap (λ (r : Result (List ℕ) ℕ). or_bad r >>= items_at k no_item_lanes) (text_again magic rest) ∙ f.still k lt;
}

tape_flawed : (limit : ℕ) (bytes : List ℕ) (left : ℕ) → tape_at limit bytes ≡ Err (Bad left) → TapeFlawed limit bytes left
unfolding tape_at
tape_flawed limit bytes left e =
    elim (bind_err (or_bad (text_at magic bytes)) (items_at limit no_item_lanes) (Bad left) e) [
      | inl d ↦ magic_flaw limit bytes left (or_bad_err (text_at magic bytes) left d)
      | inr d ↦ record_flaw limit bytes d.0 left (text_found magic bytes d.0 (or_bad_ok (text_at magic bytes) d.0 d.1)) (items_flawed limit no_item_lanes d.0 left d.2)
    ]

tells : {X : Type 0} {x : X} {flaw : Flaw} → fine x ≡ Err flaw → ⊥
tells e = absurd cc

no_tape : (limit : ℕ) (bytes : List ℕ) (left : ℕ) → ((k : ℕ) → limit < k → tape_at k bytes ≡ Err (Bad left)) → IsNone bytes
no_tape limit bytes left bad items tape =
    let k = suc (limit + length items) in
    tells (sym (tape_is_read k bytes items tape (omega arith)) ∙ bad k (omega arith))

-- a longer front
take_over : (front tail : List ℕ) (m j : ℕ) → m ≡ length front + j → take m (front ++ tail) ≡ front ++ take j tail
take_over [] tail m j e = ap (λ (n : ℕ). take n tail) (omega arith)
take_over (c ∷ front) tail zero j e = absurd (omega arith)
take_over (c ∷ front) tail (suc m) j e = ap (λ (w : List ℕ). c ∷ w) (take_over front tail m j (omega arith))

longer : (limit : ℕ) (front tail more : List ℕ) (j : ℕ) (items : List TapeItem) → 0 < j → j ≤ length tail
    → ((b : ℕ) (rest more : List ℕ) → tail ≡ b ∷ rest → (k : ℕ) → limit < k → tape_at k (front ++ b ∷ more) ≡ Err (Bad (suc (length more))))
    → IsTapeOf ((front ++ take j tail) ++ more) items → ⊥
longer limit front [] more j items pos le worse tape = omega arith
longer limit front (b ∷ tail) more zero items pos le worse tape = omega arith
longer limit front (b ∷ tail) more (suc j) items pos le worse tape =
    let k = suc (limit + length items) in
    tells (sym (tape_is_read k ((front ++ b ∷ take j tail) ++ more) items tape (omega arith))
    ∙ ap (tape_at k) (append_assoc front (b ∷ take j tail) more) ∙ worse b tail (take j tail ++ more) refl k (omega arith))

pub bad_is_exact : BadPlaceIsExact
bad_is_exact limit bytes left e =
    let f = tape_flawed limit bytes left e in
    let total : length bytes ≡ length f.front + length f.tail = ap length f.parts ∙ length-append f.front f.tail in
    let place : length f.front ≡ length bytes - left = omega (arith, f.size) in
    let front_is : take (length bytes - left) bytes ≡ f.front = ap (take (length bytes - left)) f.parts ∙ take_at f.front f.tail (length bytes - left) place in (
      record {
        within = omega arith;
        begins = subst Begins (sym front_is) f.begins;
        longest = λ m gt le begun.
            let j = m - length f.front in
            let over : take m bytes ≡ f.front ++ take j f.tail = ap (take m) f.parts ∙ take_over f.front f.tail m j (omega arith) in
            longer limit f.front f.tail begun.more j begun.items (omega arith) (omega arith) f.worse (subst (λ (w : List ℕ). IsTapeOf (w ++ begun.more) begun.items) over begun.tape);
      },
      omega (arith, f.size),
      no_tape limit bytes left f.still,
    )

pub too_many_is_exact : BeyondIsExact
unfolding tape_at
too_many_is_exact limit bytes left e =
    elim (bind_err (or_bad (text_at magic bytes)) (items_at limit no_item_lanes) (TooMany left) e) [
      | inl d ↦ or_bad_many (text_at magic bytes) left d
      | inr d ↦
          let t = text_found magic bytes d.0 (or_bad_ok (text_at magic bytes) d.0 d.1) in
          let p = items_past limit no_item_lanes d.0 left d.2 in
          record {
            items = p.items;
            kind = p.kind;
            rest = p.rest;
            spelled = t ∙ ap (λ (w : List ℕ). magic ++ w) p.spelled;
            each = p.each;
            full = p.full;
            low_kind = p.low_kind;
            high_kind = p.high_kind;
            place = p.place;
          }
    ]

-- bytes behind the end record are bad
trailing : (items : List TapeItem) (limit : ℕ) (lanes : ItemLanes) (b : ℕ) (rest : List ℕ) → AreItems lanes items → length items ≤ limit
    → items_at limit lanes (flat_map item_bytes items ++ (end_bytes ++ b ∷ rest)) ≡ Err (Bad (suc (length rest)))
trailing [] limit lanes b rest each le = items_end limit lanes (b ∷ rest)
trailing (first ∷ items) zero lanes b rest each le = absurd (omega arith)
trailing (first ∷ items) (suc k) lanes b rest each le =
    ap (items_at (suc k) lanes) (append_assoc (item_bytes first) (flat_map item_bytes items) (end_bytes ++ b ∷ rest))
    ∙ items_more k lanes first (flat_map item_bytes items ++ (end_bytes ++ b ∷ rest)) each.0
    ∙ ap (with_first first) (trailing items k (lanes_behind lanes first) b rest each.1 (omega arith))

one_reading : (k : ℕ) (bytes : List ℕ) (xs ys : List TapeItem) → tape_at k bytes ≡ Ok xs → tape_at k bytes ≡ Ok ys → xs ≡ ys
one_reading k bytes xs ys e h = let both : fine xs ≡ fine ys = sym e ∙ h in cc

begins_none : (bytes more : List ℕ) (xs ys : List TapeItem) → IsTapeOf bytes xs → IsTapeOf (bytes ++ more) ys → (more ≡ []) × (xs ≡ ys)
unfolding tape_at
begins_none bytes [] xs ys a b =
    let k = length xs + length ys in
    let same : tape_at k bytes ≡ Ok ys = ap (tape_at k) (sym (append-nil bytes)) ∙ tape_is_read k (bytes ++ []) ys b (omega arith) in
    (refl, one_reading k bytes xs ys (tape_is_read k bytes xs a (omega arith)) same)
begins_none bytes (m ∷ more) xs ys a b =
    let k = length xs + length ys in
    let regrouped : bytes ++ m ∷ more ≡ magic ++ (flat_map item_bytes xs ++ (end_bytes ++ m ∷ more)) =
    ap (λ (w : List ℕ). w ++ m ∷ more) a.spelled ∙ ap (λ (w : List ℕ). magic ++ w) (append_assoc (flat_map item_bytes xs) end_bytes (m ∷ more)) in
    let read : tape_at k (bytes ++ m ∷ more) ≡ Err (Bad (suc (length more))) =
    ap (tape_at k) regrouped ∙ ap (λ (r : Result (List ℕ) ℕ). or_bad r >>= items_at k no_item_lanes) (text_again magic (flat_map item_bytes xs ++ (end_bytes ++ m ∷ more)))
    ∙ trailing xs k no_item_lanes m more a.each (omega arith) in
    absurd (tells (sym (tape_is_read k (bytes ++ m ∷ more) ys b (omega arith)) ∙ read))

pub no_tape_begins_another : NoneBeginsAnother
no_tape_begins_another = begins_none

pub too_many_is_found : BeyondIsFound
unfolding tape_at
too_many_is_found limit bytes left p =
    ap (tape_at limit) p.spelled
    ∙ ap (λ (r : Result (List ℕ) ℕ). or_bad r >>= items_at limit no_item_lanes) (text_again magic (flat_map item_bytes p.items ++ p.kind ∷ p.rest))
    ∙ ap (λ (n : ℕ). items_at n no_item_lanes (flat_map item_bytes p.items ++ p.kind ∷ p.rest)) (sym p.full)
    ∙ past_again p.items no_item_lanes p.kind p.rest p.each p.low_kind p.high_kind
    ∙ ap (λ (n : ℕ). Err (TooMany n)) p.place
