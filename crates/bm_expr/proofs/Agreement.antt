-- Expressions over 128 bits agree with those over whole numbers.
use Rattle.std.proofs.Common.{◌≡◌, ℕ, ◌^◌, ◌<◌, Bool, true, false, not, List, length, refl, sym, ap, arith}
use Rattle.std.specs.Prelude.{◌&&◌, if◌then◌else◌, slice_index}
use Rattle.bm_expr.specs.declared.store.FieldPlace.{FieldPlace}
use Rattle.bm_expr.specs.Trees.{Number, Truth, Field, Literal, Datum, Add, Subtract, Multiply, ShiftLeft, ShiftRight, BitAnd, BitOr, BitXor, BitNot, Choose, OfTruth, Constant, Equal, NotEqual, Less, LessOrEqual, Greater, GreaterOrEqual, And, Or, Not, Select, IsValid, OfNumber}
use Rattle.bm_expr.specs.Store.{Contents, header_valid, field_read}
use Rattle.bm_expr.specs.Meaning.{number_value, truth_value, NumberInStore, TruthInStore}
use Rattle.bm_expr.specs.Settled.{is_literal, is_settled, number_operands_settled, truth_operands_settled}
use Rattle.bm_expr.specs.Whole.{whole_number, whole_truth, HasWords, ValueIsLowest, SettledIsWhole, TruthIsWhole}
use Rattle.bm_expr.proofs.Agrees.{Agrees, both, value-lt, word_agrees, add_agrees, subtract_agrees, multiply_agrees, left_agrees, right_agrees, and_agrees, or_agrees, xor_agrees, not_agrees, choose_agrees, truth_agrees}

literal_settled : (x : Number) → is_literal x ≡ true → is_settled x ≡ true
literal_settled (Literal n) e = refl
literal_settled x e = absurd cc

if_word : (b : Bool) (n : ℕ) → n < 2 ^ 128 → (if b then n else 0) < 2 ^ 128
if_word true n lt = lt
if_word false n lt = omega arith

field_word : (store : Contents) (args : List ℕ) (place : FieldPlace) → HasWords store args → place.index < length store.fields → field_read store place < 2 ^ 128
field_word store args place words lt = if_word (header_valid store place.header) (slice_index store.fields place.index) (words.fields place.index 0 lt)

mutual
  number_agrees : (store : Contents) (args : List ℕ) → HasWords store args → (e : Number) → NumberInStore store args e → number_operands_settled e ≡ true
      → Agrees (is_settled e) (whole_number store args e) (number_value store args e)
  number_agrees store args words (Field place) within ok = word_agrees true (field_read store place) (field_word store args place words within.field)
  number_agrees store args words (Literal n) within ok = word_agrees true n within
  number_agrees store args words (Datum i) within ok = word_agrees true (slice_index args i) (words.words i 0 within)
  number_agrees store args words (Add x y) within ok =
      let p = both (number_operands_settled x) (number_operands_settled y) ok in
      add_agrees (number_agrees store args words x within.0 p.0) (number_agrees store args words y within.1 p.1)
  number_agrees store args words (Subtract x y) within ok =
      let p = both (number_operands_settled x) (number_operands_settled y) ok in
      subtract_agrees (number_agrees store args words x within.0 p.0) (number_agrees store args words y within.1 p.1)
  number_agrees store args words (Multiply x y) within ok =
      let p = both (number_operands_settled x) (number_operands_settled y) ok in
      multiply_agrees (number_agrees store args words x within.0 p.0) (number_agrees store args words y within.1 p.1)
  number_agrees store args words (ShiftLeft x y) within ok =
      let p = both (number_operands_settled x && number_operands_settled y) (is_settled y) ok in
      let q = both (number_operands_settled x) (number_operands_settled y) p.0 in
      left_agrees (number_agrees store args words x within.0 q.0) ((number_agrees store args words y within.1 q.1).exact p.1)
  number_agrees store args words (ShiftRight x y) within ok =
      let p = both (number_operands_settled x && number_operands_settled y && is_settled x) (is_settled y) ok in
      let q = both (number_operands_settled x && number_operands_settled y) (is_settled x) p.0 in
      let r = both (number_operands_settled x) (number_operands_settled y) q.0 in
      let a = number_agrees store args words x within.0 r.0 in
      right_agrees (is_settled x) (value-lt a) (a.exact q.1) ((number_agrees store args words y within.1 r.1).exact p.1)
  number_agrees store args words (BitAnd x y) within ok =
      let p = both (number_operands_settled x) (number_operands_settled y) ok in
      and_agrees (literal_settled x) (literal_settled y) (number_agrees store args words x within.0 p.0) (number_agrees store args words y within.1 p.1)
  number_agrees store args words (BitOr x y) within ok =
      let p = both (number_operands_settled x) (number_operands_settled y) ok in
      or_agrees (number_agrees store args words x within.0 p.0) (number_agrees store args words y within.1 p.1)
  number_agrees store args words (BitXor x y) within ok =
      let p = both (number_operands_settled x) (number_operands_settled y) ok in
      xor_agrees (number_agrees store args words x within.0 p.0) (number_agrees store args words y within.1 p.1)
  number_agrees store args words (BitNot x) within ok = not_agrees (number_agrees store args words x within ok)
  number_agrees store args words (Choose c x y) within ok =
      let p = both (truth_operands_settled c && number_operands_settled x) (number_operands_settled y) ok in
      let q = both (truth_operands_settled c) (number_operands_settled x) p.0 in
      choose_agrees (truth_agrees_with store args words c within.0 q.0) (number_agrees store args words x within.1 q.1) (number_agrees store args words y within.2 p.1)
  number_agrees store args words (OfTruth t) within ok = truth_agrees (truth_agrees_with store args words t within ok)

  truth_agrees_with : (store : Contents) (args : List ℕ) → HasWords store args → (t : Truth) → TruthInStore store args t → truth_operands_settled t ≡ true
      → truth_value store args t ≡ whole_truth store args t
  truth_agrees_with store args words (Constant b) within ok = refl
  truth_agrees_with store args words (Equal x y) within ok =
      let p = both (number_operands_settled x && number_operands_settled y && is_settled x) (is_settled y) ok in
      let q = both (number_operands_settled x && number_operands_settled y) (is_settled x) p.0 in
      let r = both (number_operands_settled x) (number_operands_settled y) q.0 in
      rw ((number_agrees store args words x within.0 r.0).exact q.1, (number_agrees store args words y within.1 r.1).exact p.1) refl
  truth_agrees_with store args words (NotEqual x y) within ok =
      let p = both (number_operands_settled x && number_operands_settled y && is_settled x) (is_settled y) ok in
      let q = both (number_operands_settled x && number_operands_settled y) (is_settled x) p.0 in
      let r = both (number_operands_settled x) (number_operands_settled y) q.0 in
      rw ((number_agrees store args words x within.0 r.0).exact q.1, (number_agrees store args words y within.1 r.1).exact p.1) refl
  truth_agrees_with store args words (Less x y) within ok =
      let p = both (number_operands_settled x && number_operands_settled y && is_settled x) (is_settled y) ok in
      let q = both (number_operands_settled x && number_operands_settled y) (is_settled x) p.0 in
      let r = both (number_operands_settled x) (number_operands_settled y) q.0 in
      rw ((number_agrees store args words x within.0 r.0).exact q.1, (number_agrees store args words y within.1 r.1).exact p.1) refl
  truth_agrees_with store args words (LessOrEqual x y) within ok =
      let p = both (number_operands_settled x && number_operands_settled y && is_settled x) (is_settled y) ok in
      let q = both (number_operands_settled x && number_operands_settled y) (is_settled x) p.0 in
      let r = both (number_operands_settled x) (number_operands_settled y) q.0 in
      rw ((number_agrees store args words x within.0 r.0).exact q.1, (number_agrees store args words y within.1 r.1).exact p.1) refl
  truth_agrees_with store args words (Greater x y) within ok =
      let p = both (number_operands_settled x && number_operands_settled y && is_settled x) (is_settled y) ok in
      let q = both (number_operands_settled x && number_operands_settled y) (is_settled x) p.0 in
      let r = both (number_operands_settled x) (number_operands_settled y) q.0 in
      rw ((number_agrees store args words x within.0 r.0).exact q.1, (number_agrees store args words y within.1 r.1).exact p.1) refl
  truth_agrees_with store args words (GreaterOrEqual x y) within ok =
      let p = both (number_operands_settled x && number_operands_settled y && is_settled x) (is_settled y) ok in
      let q = both (number_operands_settled x && number_operands_settled y) (is_settled x) p.0 in
      let r = both (number_operands_settled x) (number_operands_settled y) q.0 in
      rw ((number_agrees store args words x within.0 r.0).exact q.1, (number_agrees store args words y within.1 r.1).exact p.1) refl
  truth_agrees_with store args words (And s t) within ok =
      let p = both (truth_operands_settled s) (truth_operands_settled t) ok in
      rw (truth_agrees_with store args words s within.0 p.0, truth_agrees_with store args words t within.1 p.1) refl
  truth_agrees_with store args words (Or s t) within ok =
      let p = both (truth_operands_settled s) (truth_operands_settled t) ok in
      rw (truth_agrees_with store args words s within.0 p.0, truth_agrees_with store args words t within.1 p.1) refl
  truth_agrees_with store args words (Not t) within ok = ap not (truth_agrees_with store args words t within ok)
  truth_agrees_with store args words (Select c s t) within ok =
      let p = both (truth_operands_settled c && truth_operands_settled s) (truth_operands_settled t) ok in
      let q = both (truth_operands_settled c) (truth_operands_settled s) p.0 in
      rw (truth_agrees_with store args words c within.0 q.0, truth_agrees_with store args words s within.1 q.1, truth_agrees_with store args words t within.2 p.1) refl
  truth_agrees_with store args words (IsValid header) within ok = refl
  truth_agrees_with store args words (OfNumber x) within ok =
      let p = both (number_operands_settled x) (is_settled x) ok in
      rw ((number_agrees store args words x within p.0).exact p.1) refl

pub value_is_lowest : ValueIsLowest
value_is_lowest store args number words within ok = sym (number_agrees store args words number within ok).cut

pub settled_is_whole : SettledIsWhole
settled_is_whole store args number words within ok settled = (number_agrees store args words number within ok).exact settled

pub truth_is_whole : TruthIsWhole
truth_is_whole store args truth words within ok = truth_agrees_with store args words truth within ok
