-- Headers that are added and assigned.
use Rattle.std.proofs.Common.{◌≡◌, ℕ, ◌+◌, ◌-◌, ◌≤◌, Bool, true, false, if◌then◌else◌, List, ◌++◌, length, take, drop, set, replicate, refl, sym, ap, ◌∙◌, arith, drop-drop}
use Rattle.std.proofs.lemmas.List.{length-append, length-take-le, length-drop, length-set, length-replicate, set-get_or, take-append-drop}
use Rattle.std.specs.List.{splice, slice_range}
use Rattle.bm_expr.specs.declared.store.HeaderPlace.{HeaderPlace}
use Rattle.bm_expr.specs.Store.{Contents, header_valid, header_added, header_assigned}
use Rattle.pkt_codec.specs.Room.{AreAsLarge}

-- a run of as many items takes the place of another
length-splice : {X : Type 0} (xs ys : List X) (i n : ℕ) → length ys ≡ n → i + n ≤ length xs → length (splice xs i (i + n) ys) ≡ length xs
length-splice xs ys i n long within =
    length-append (take i xs) (ys ++ drop (i + n) xs)
    ∙ omega (arith, length-append ys (drop (i + n) xs), length-take-le i xs (omega arith), length-drop (i + n) xs)

-- a run takes its own place
splice_same : {X : Type 0} (xs : List X) (i n : ℕ) → splice xs i (i + n) (slice_range xs i (i + n)) ≡ xs
splice_same xs i n =
    let number : i + n - i ≡ n = omega arith in
    ap (λ k. take i xs ++ (take k (drop i xs) ++ drop (i + n) xs)) number
    ∙ ap (λ ys. take i xs ++ (take n (drop i xs) ++ ys)) (sym (drop-drop n i xs))
    ∙ ap (λ ys. take i xs ++ ys) (take-append-drop n (drop i xs)) ∙ take-append-drop i xs

-- a header that is assigned to itself stays
pub assigned_self : (store : Contents) (place : HeaderPlace) → header_assigned store place place ≡ store
assigned_self store place =
    let made : List ℕ → List Bool → Contents = λ fields valid. record { fields = fields; valid = valid } in
    ap (λ fields. made fields (set store.valid place.header (header_valid store place.header))) (splice_same store.fields place.first place.count)
    ∙ ap (made store.fields) (set-get_or store.valid place.header false)

-- the store stays as large
pub assigned_large : (store : Contents) (to from : HeaderPlace) → to.count ≡ from.count → to.first + to.count ≤ length store.fields → from.first + from.count ≤ length store.fields
    → AreAsLarge store (header_assigned store to from)
assigned_large store to from as_many within inside =
    let long : length (slice_range store.fields from.first (from.first + from.count)) ≡ from.count =
    length-take-le (from.first + from.count - from.first) (drop from.first store.fields) (omega (arith, length-drop from.first store.fields)) ∙ omega arith in
    record {
      fields = length-splice store.fields (slice_range store.fields from.first (from.first + from.count)) to.first from.count long (omega arith);
      headers = length-set store.valid to.header (header_valid store from.header);
    }

pub added_large : (store : Contents) (place : HeaderPlace) → place.first + place.count ≤ length store.fields → AreAsLarge store (header_added store place)
added_large store place within = at (header_valid store place.header)
  where
    at : (b : Bool) → AreAsLarge store (
        if b then store else record {
          fields = splice store.fields place.first (place.first + place.count) (replicate place.count 0);
          valid = set store.valid place.header true;
        }
        )
    at true = record { fields = refl; headers = refl }
    at false = record {
      fields = length-splice store.fields (replicate place.count 0) place.first place.count (length-replicate place.count 0) within;
      headers = length-set store.valid place.header true;
    }
