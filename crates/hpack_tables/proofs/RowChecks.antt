-- The rows of the table are those of the code, by computation.
use Rattle.std.proofs.Common.{◌≡◌, ℕ, zero, suc, ◌+◌, ◌-◌, ◌<◌, ◌≤◌, ◌==◌, nat_lt, nat_le, Bool, true, false, ◌&&◌, ◌||◌, cond, List, [], ◌∷◌, length, take, drop, get_or, slice_index, slice_get, Some, None, refl, ap, length-drop, ◌∙◌, arith, inl, inr}
use Rattle.std.specs.Prelude.{IfSome}
use Rattle.std.specs.List.{list_all}
use Rattle.std.proofs.lemmas.List.{length-take, get_or-take, get_or-drop}
use Rattle.std.proofs.lemmas.Option.{slice_get_past, slice_get-get_or}
use Rattle.std.proofs.lemmas.Bool.{and_parts, cases_lt, eqb-true, leb-true, ltb-true, lt-ltb, le-ltb, lt-leb, le-leb, ne_eqb}
use Rattle.hpack_tables.specs.Rows.{symbol_in}
use Rattle.hpack_tables.specs.declared.code.Row.{Row}
use Rattle.hpack_tables.specs.declared.code.TheConstants.{ROWS, SYMBOLS}
use Rattle.hpack_tables.specs.Code.{code_lengths, symbols_from, symbols_of, first_code, symbol_of}

abbrev pub empty_row : Row
empty_row = record { first_code = 0; count = 0; place = 0 }

row_of : ℕ → Row
row_of bits = get_or ROWS bits empty_row

abbrev pub same : List ℕ → List ℕ → Bool
same [] [] = true
same [] (y ∷ ys) = false
same (x ∷ xs) [] = false
same (x ∷ xs) (y ∷ ys) = (x == y) && same xs ys

is_row : ℕ → Bool
is_row bits = ((row_of bits).first_code == first_code bits) && (same (take (row_of bits).count (drop (row_of bits).place SYMBOLS)) (symbols_of bits) && nat_le ((row_of bits).place + (row_of bits).count) 257)

abbrev pub all_below : (ℕ → Bool) → ℕ → Bool
all_below p zero = true
all_below p (suc n) = p n && all_below p n

are_rows : all_below is_row 31 ≡ true
unfolding is_row row_of code_lengths symbols_from symbols_of first_code
are_rows = refl

pub all_below_at : (p : ℕ → Bool) (n k : ℕ) → all_below p n ≡ true → k < n → p k ≡ true
all_below_at p zero k h lt = absurd (omega arith)
all_below_at p (suc n) k h lt =
    let parts = and_parts (p n) (all_below p n) h in
    elim (cases_lt k n) [
      | inl below ↦ all_below_at p n k parts.1 below
      | inr top ↦
          let e : k ≡ n = omega arith in
          rw e parts.0
    ]

pub same_are : (xs ys : List ℕ) → same xs ys ≡ true → xs ≡ ys
same_are [] [] h = refl
same_are [] (y ∷ ys) h = absurd cc
same_are (x ∷ xs) [] h = absurd cc
same_are (x ∷ xs) (y ∷ ys) h =
    let parts = and_parts (x == y) (same xs ys) h in
    let head = eqb-true x y parts.0 in
    let tail = same_are xs ys parts.1 in
    cc

-- a row is that of its length
pub record IsRow (row : Row) (bits : ℕ) : Type 0 where
  pub first_is : row.first_code ≡ first_code bits
  pub symbols_are : take row.count (drop row.place SYMBOLS) ≡ symbols_of bits
  pub inside : row.place + row.count ≤ 257

checked : (row : Row) (bits : ℕ) → ((row.first_code == first_code bits) && (same (take row.count (drop row.place SYMBOLS)) (symbols_of bits) && nat_le (row.place + row.count) 257)) ≡ true → IsRow row bits
checked row bits h =
    let outer = and_parts (row.first_code == first_code bits) (same (take row.count (drop row.place SYMBOLS)) (symbols_of bits) && nat_le (row.place + row.count) 257) h in
    let inner = and_parts (same (take row.count (drop row.place SYMBOLS)) (symbols_of bits)) (nat_le (row.place + row.count) 257) outer.1 in
    record { first_is = eqb-true row.first_code (first_code bits) outer.0; symbols_are = same_are (take row.count (drop row.place SYMBOLS)) (symbols_of bits) inner.0; inside = leb-true (row.place + row.count) 257 inner.1 }

pub row_is : (bits : ℕ) → bits ≤ 30 → IsRow (get_or ROWS bits empty_row) bits
unfolding is_row row_of
row_is bits le = checked (get_or ROWS bits empty_row) bits (all_below_at is_row 31 bits are_rows (omega arith))

in_row : (row : Row) (symbols : List ℕ) (code : ℕ) → row.place + row.count ≤ length symbols → row.first_code ≤ code → code - row.first_code < row.count
    → slice_get (take row.count (drop row.place symbols)) (code - row.first_code) ≡ Some (slice_index symbols (row.place + (code - row.first_code)))
in_row row symbols code inside le lt =
    let long : code - row.first_code < length (take row.count (drop row.place symbols)) = omega (arith, length-take row.count (drop row.place symbols), length-drop row.place symbols) in
    slice_get-get_or (take row.count (drop row.place symbols)) (code - row.first_code) 0 long
    ∙ ap (λ x. Some x) (get_or-take row.count (drop row.place symbols) (code - row.first_code) 0 lt ∙ get_or-drop row.place symbols (code - row.first_code) 0)

row_same : (row : Row) (symbols : List ℕ) (code : ℕ) → row.place + row.count ≤ length symbols
    → symbol_in row symbols code ≡ cond (nat_lt code row.first_code) None (slice_get (take row.count (drop row.place symbols)) (code - row.first_code))
row_same row symbols code inside =
    elim (cases_lt code row.first_code) [
      | inl lt ↦ rw (lt-ltb code row.first_code lt) refl
      | inr le ↦ elim (cases_lt (code - row.first_code) row.count) [
        | inl within ↦ rw (le-ltb code row.first_code le, lt-leb row.count (code - row.first_code) within, in_row row symbols code inside le within) refl
        | inr past ↦ rw (le-ltb code row.first_code le, le-leb row.count (code - row.first_code) past, slice_get_past (take row.count (drop row.place symbols)) (code - row.first_code) (omega (arith, length-take row.count (drop row.place symbols)))) refl
      ]
    ]

pub row_symbol : (row : Row) (bits code : ℕ) → IsRow row bits → symbol_in row SYMBOLS code ≡ symbol_of bits code
unfolding symbol_of
row_symbol row bits code is = row_same row SYMBOLS code is.inside ∙ rw (is.first_is, is.symbols_are) refl

are_small : list_all (λ symbol. nat_lt symbol 257) SYMBOLS ≡ true
are_small = refl

is_small : (xs : List ℕ) (i : ℕ) → list_all (λ symbol. nat_lt symbol 257) xs ≡ true → get_or xs i 0 ≤ 256
is_small [] i h = omega arith
is_small (x ∷ xs) zero h = let lt = ltb-true x 257 (and_parts _ _ h).0 in omega arith
is_small (x ∷ xs) (suc i) h = is_small xs i (and_parts _ _ h).1

small_in : (row : Row) (symbols : List ℕ) (code : ℕ) → list_all (λ symbol. nat_lt symbol 257) symbols ≡ true → IfSome (symbol_in row symbols code) (λ symbol. symbol ≤ 256)
small_in row symbols code h = elim (nat_lt code row.first_code || nat_le row.count (code - row.first_code)) as (λ b. IfSome (cond b None (Some (slice_index symbols (row.place + (code - row.first_code))))) (λ symbol. symbol ≤ 256)) [
  | true ↦ tt
  | false ↦ is_small symbols (row.place + (code - row.first_code)) h
]

pub row_small : (row : Row) (code : ℕ) → IfSome (symbol_in row SYMBOLS code) (λ symbol. symbol ≤ 256)
row_small row code = small_in row SYMBOLS code are_small

none_that_long : (bits symbol : ℕ) (lengths : List ℕ) → list_all (λ n. nat_lt n 31) lengths ≡ true → 30 < bits → symbols_from bits symbol lengths ≡ []
unfolding symbols_from
none_that_long bits symbol [] h lt = refl
none_that_long bits symbol (first ∷ lengths) h lt =
    let parts = and_parts (nat_lt first 31) (list_all (λ n. nat_lt n 31) lengths) h in
    let small = ltb-true first 31 parts.0 in
    rw (ne_eqb first bits (λ e. omega arith)) (none_that_long bits (suc symbol) lengths parts.1 lt)

lengths_small : list_all (λ n. nat_lt n 31) code_lengths ≡ true
unfolding code_lengths
lengths_small = refl

pub no_symbols : (bits code : ℕ) → symbols_of bits ≡ [] → symbol_of bits code ≡ None
unfolding symbol_of
no_symbols bits code e = rw e (elim (nat_lt code (first_code bits)) as (λ b. cond b None (slice_get {X = ℕ} [] (code - first_code bits)) ≡ None) [
  | true ↦ refl
  | false ↦ refl
])

-- no code is longer than 30 bits
pub past_longest : (bits code : ℕ) → 30 < bits → symbol_of bits code ≡ None
unfolding symbols_of
past_longest bits code lt = no_symbols bits code (none_that_long bits 0 code_lengths lengths_small lt)

no_short_symbols : (bits : ℕ) → bits < 5 → symbols_of bits ≡ []
unfolding symbols_of symbols_from code_lengths
no_short_symbols zero lt = refl
no_short_symbols (suc zero) lt = refl
no_short_symbols (suc (suc zero)) lt = refl
no_short_symbols (suc (suc (suc zero))) lt = refl
no_short_symbols (suc (suc (suc (suc zero)))) lt = refl
no_short_symbols (suc (suc (suc (suc (suc n))))) lt = absurd (omega arith)

-- no code is shorter than 5 bits
pub below_shortest : (bits code : ℕ) → bits < 5 → symbol_of bits code ≡ None
below_shortest bits code lt = no_symbols bits code (no_short_symbols bits lt)
