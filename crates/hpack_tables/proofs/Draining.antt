-- Whole codes are decoded from the front of some bits.
use Rattle.std.proofs.Common.{◌≡◌, ℕ, ◌-◌, ◌/◌, ◌%◌, ◌^◌, ◌<◌, ◌≤◌, ◌==◌, false, List, [], ◌∷◌, ◌++◌, Option, Some, None, refl, sym, ap, ◌∙◌, append_assoc, arith}
use Rattle.std.proofs.lemmas.Bool.{ne_eqb}
use Rattle.std.proofs.lemmas.Nat.{shr_split, pow_pos, mod_below}
use Rattle.list_types.specs.declared.memory.Refusal.TheVariants as refusals
use Rattle.pkt_bits.specs.Field.{number_bits}
use Rattle.pkt_bits.proofs.Low.{low-cat}
use Rattle.hpack_tables.specs.declared.fault.HpackFault.TheVariants.{BadHuffman}
use Rattle.hpack_tables.specs.Strings.{after, with_symbol, text_from}
use Rattle.hpack_tables.specs.Windows.{text_of, NoSymbol, Begins, SameText, AreDrained, IsRefused}

pub after_after : (first second : List ℕ) (text : Option (List ℕ)) → after first (after second text) ≡ after (first ++ second) text
after_after first second None = refl
after_after first second (Some text) = ap (λ x. Some x) (sym (append_assoc first second text))

octet : (symbol : ℕ) (text : Option (List ℕ)) → (symbol == 256) ≡ false → with_symbol (Some symbol) None text ≡ after (symbol ∷ []) text
octet symbol text e = rw e refl

end : (text : Option (List ℕ)) → with_symbol (Some 256) None text ≡ None
end text = refl

-- some codes are decoded
pub record IsDraining (old : List ℕ) (count number : ℕ) (new : List ℕ) (left_count left_number : ℕ) : Type 0 where
  pub fits : left_number < 2 ^ left_count
  pub few : left_count ≤ count
  pub same : SameText old count number new left_count left_number

pub starts : (old : List ℕ) (count number : ℕ) → number < 2 ^ count → IsDraining old count number old count number
starts old count number fits = record { fits = fits; few = omega arith; same = λ rest. refl }

low_text : (left number : ℕ) (rest : List ℕ) → text_of left (number % 2 ^ left) rest ≡ text_of left number rest
low_text left number rest =
    let same : number_bits left (number % 2 ^ left) ≡ number_bits left number = sym (low-cat left left (number / 2 ^ left) (number % 2 ^ left) (omega arith)) ∙ ap (number_bits left) (shr_split number left) in
    ap (λ (x : List ℕ). text_from 0 0 (x ++ rest)) same

pub goes_on : (old : List ℕ) (count number : ℕ) (new : List ℕ) (left_count left_number symbol length : ℕ) (next : List ℕ) (next_count next_number : ℕ)
    → IsDraining old count number new left_count left_number → Begins left_count left_number symbol length → symbol ≤ 255
    → next ≡ new ++ symbol ∷ [] → next_count ≡ left_count - length → next_number ≡ left_number % 2 ^ (left_count - length)
    → IsDraining old count number next next_count next_number
goes_on old count number new left_count left_number symbol length next next_count next_number so_far begins small e ec en =
    rw (e, ec, en) (record {
      fits = mod_below left_number (2 ^ (left_count - length)) (pow_pos (left_count - length));
      few = omega (arith, so_far.few);
      same = λ rest. so_far.same rest ∙ ap (after new) (begins.next rest ∙ octet symbol (text_of (left_count - length) left_number rest) (ne_eqb symbol 256 (λ eq. omega arith)))
          ∙ after_after new (symbol ∷ []) (text_of (left_count - length) left_number rest) ∙ ap (after (new ++ symbol ∷ [])) (sym (low_text (left_count - length) left_number rest));
    })

pub refuses : (old : List ℕ) (count number : ℕ) (new : List ℕ) (left_count left_number symbol length : ℕ) → IsDraining old count number new left_count left_number → Begins left_count left_number symbol length
    → symbol ≡ 256 → IsRefused old count number (refusals.For BadHuffman)
refuses old count number new left_count left_number symbol length so_far begins e =
    (refl, λ rest. so_far.same rest ∙ ap (after new) (begins.next rest ∙ ap (λ (s : ℕ). with_symbol (Some s) None (text_of (left_count - length) left_number rest)) e))

pub is_done : (old : List ℕ) (count number : ℕ) (new : List ℕ) (left_count left_number : ℕ) → IsDraining old count number new left_count left_number → NoSymbol left_count left_number
    → AreDrained old count number new left_count left_number
is_done old count number new left_count left_number so_far none = record { fits = so_far.fits; few = so_far.few; same = so_far.same; drained = none }
