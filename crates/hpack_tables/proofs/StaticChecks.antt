-- The pieces of the static table's text are its names and values, by computation.
use Rattle.std.proofs.Common.{◌≡◌, ℕ, ◌+◌, ◌*◌, ◌<◌, ◌≤◌, nat_le, Bool, true, ◌&&◌, List, [], length, get_or, slice_get, slice_index, Some, refl, sym, ap, ◌∙◌, arith}
use Rattle.std.specs.Prelude.{slice_range}
use Rattle.std.proofs.lemmas.Bool.{and_parts, leb-true}
use Rattle.std.proofs.lemmas.Option.{slice_get-get_or}
use Rattle.hpack_tables.specs.declared.header.Header.{Header}
use Rattle.hpack_tables.specs.declared.static_table.TheConstants.{TEXT, BOUNDS}
use Rattle.hpack_tables.specs.Tables.{header, static_table}
use Rattle.hpack_tables.proofs.RowChecks.{same, same_are, all_below, all_below_at}

text : List ℕ
text = TEXT

bound : ℕ → ℕ
bound i = slice_index BOUNDS i

entry : ℕ → Header
entry place = get_or static_table place (header [] [])

is_entry : ℕ → Bool
is_entry place =
    (same (slice_range text (bound (2 * place)) (bound (2 * place + 1))) (entry place).name && same (slice_range text (bound (2 * place + 1)) (bound (2 * place + 1 + 1))) (entry place).value)
    && ((nat_le (bound (2 * place)) (bound (2 * place + 1)) && nat_le (bound (2 * place + 1)) (bound (2 * place + 1 + 1))) && nat_le (bound (2 * place + 1 + 1)) (length text))

are_entries : all_below is_entry 61 ≡ true
unfolding is_entry entry bound text static_table
are_entries = refl

pub many : length static_table ≡ 61
unfolding static_table
many = refl

-- the bounds of an entry, and what lies between them
pub record IsEntry (place : ℕ) : Type 0 where
  pub first : slice_index BOUNDS (2 * place) ≤ slice_index BOUNDS (2 * place + 1)
  pub second : slice_index BOUNDS (2 * place + 1) ≤ slice_index BOUNDS (2 * place + 1 + 1)
  pub middle : slice_index BOUNDS (2 * place + 1) ≤ length TEXT
  pub inside : slice_index BOUNDS (2 * place + 1 + 1) ≤ length TEXT
  pub entry_is : slice_get static_table place ≡ Some (header (slice_range TEXT (slice_index BOUNDS (2 * place)) (slice_index BOUNDS (2 * place + 1))) (slice_range TEXT (slice_index BOUNDS (2 * place + 1)) (slice_index BOUNDS (2 * place + 1 + 1))))

pub made : (entry : Header) (name value : List ℕ) → name ≡ entry.name → value ≡ entry.value → entry ≡ header name value
made entry name value en ev = rw (en, ev) refl

checked : (place : ℕ) → place < 61 → is_entry place ≡ true → IsEntry place
unfolding is_entry entry bound text
checked place lt h =
    let outer = and_parts (same (slice_range text (bound (2 * place)) (bound (2 * place + 1))) (entry place).name && same (slice_range text (bound (2 * place + 1)) (bound (2 * place + 1 + 1))) (entry place).value) ((nat_le (bound (2 * place)) (bound (2 * place + 1)) && nat_le (bound (2 * place + 1)) (bound (2 * place + 1 + 1))) && nat_le (bound (2 * place + 1 + 1)) (length text)) h in
    let names = and_parts (same (slice_range text (bound (2 * place)) (bound (2 * place + 1))) (entry place).name) (same (slice_range text (bound (2 * place + 1)) (bound (2 * place + 1 + 1))) (entry place).value) outer.0 in
    let ends = and_parts (nat_le (bound (2 * place)) (bound (2 * place + 1)) && nat_le (bound (2 * place + 1)) (bound (2 * place + 1 + 1))) (nat_le (bound (2 * place + 1 + 1)) (length text)) outer.1 in
    let ordered = and_parts (nat_le (bound (2 * place)) (bound (2 * place + 1))) (nat_le (bound (2 * place + 1)) (bound (2 * place + 1 + 1))) ends.0 in
    record {
      first = leb-true _ _ ordered.0;
      second = leb-true _ _ ordered.1;
      middle = omega (arith, leb-true _ _ ordered.1, leb-true _ _ ends.1);
      inside = leb-true _ _ ends.1;
      entry_is = slice_get-get_or static_table place (header [] []) (omega (arith, many)) ∙ ap (λ x. Some x) (made (entry place) _ _ (same_are _ _ names.0) (same_are _ _ names.1));
    }

pub entry_is : (place : ℕ) → place < 61 → IsEntry place
entry_is place lt = checked place lt (all_below_at is_entry 61 place are_entries lt)

pub given : (place : ℕ) (name value : List ℕ) → IsEntry place → name ≡ slice_range TEXT (slice_index BOUNDS (2 * place)) (slice_index BOUNDS (2 * place + 1))
    → value ≡ slice_range TEXT (slice_index BOUNDS (2 * place + 1)) (slice_index BOUNDS (2 * place + 1 + 1)) → slice_get static_table place ≡ Some (header name value)
given place name value is en ev = is.entry_is ∙ ap (λ (n : List ℕ). Some (header n (slice_range TEXT (slice_index BOUNDS (2 * place + 1)) (slice_index BOUNDS (2 * place + 1 + 1))))) (sym en) ∙ ap (λ (v : List ℕ). Some (header name v)) (sym ev)
