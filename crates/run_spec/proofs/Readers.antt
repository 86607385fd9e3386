-- Readers of a value from the front of bytes: what is read stays read whatever follows, and the place of a flaw is exact.
use Rattle.std.proofs.Common.{◌≡◌, ℕ, zero, suc, ◌+◌, ◌-◌, ◌*◌, ◌/◌, ◌%◌, ◌^◌, ◌<◌, ◌≤◌, min, Bool, true, false, cond, ltb, ◌||◌, ◌⊎◌, List, [], ◌∷◌, ◌++◌, length, take, drop, replicate, Result, Ok, Err, refl, sym, ap, subst, ◌∙◌, append_assoc, append-nil, arith, inl, inr, pow-suc, div-add-mod', mod-lt}
use Rattle.std.proofs.lemmas.Bool.{ltb-false, ltb-true, le-ltb, or_parts, or_from}
use Rattle.std.proofs.lemmas.List.{take_at, drop_at, take-append-drop, length-append, length-take, length-replicate}
use Rattle.std.proofs.Math.Nat.{div-eq_of_lt-le, mod-eq-sub-div-mul}
use Rattle.list_types.specs.Results.{◌>>=◌}
use Rattle.run_spec.specs.TapeReading.{number_at, bytes_at}

-- the value of a step that did not fail
pub bind_ok : {A B E : Type 0} (r : Result A E) (f : A → Result B E) (y : B) → (r >>= f) ≡ Ok y → (x : A) × (r ≡ Ok x) × (f x ≡ Ok y)
bind_ok (Ok x) f y e = (x, refl, e)
bind_ok (Err d) f y e = absurd cc

-- a reader of a value from the front
abbrev pub Read : Type 0 → Type 0
Read X = List ℕ → Result (X × List ℕ) ℕ

-- the value is read from a front of the bytes, whatever stands behind it
pub record IsTaken {X : Type 0} (read : Read X) (bytes : List ℕ) (value : X) (rest : List ℕ) : Type 0 where
  pub front : List ℕ
  pub parts : bytes ≡ front ++ rest
  pub again : (more : List ℕ) → read (front ++ more) ≡ Ok (value, more)

-- the front before the flaw can be gone on with, and with the byte at the flaw it cannot
pub record IsFlawed {X : Type 0} (read : Read X) (bytes : List ℕ) (left : ℕ) : Type 0 where
  pub front : List ℕ
  pub tail : List ℕ
  pub parts : bytes ≡ front ++ tail
  pub size : length tail ≡ left
  pub more : List ℕ
  pub value : X
  pub goes_on : read (front ++ more) ≡ Ok (value, [])
  pub worse : (b : ℕ) (rest more : List ℕ) → tail ≡ b ∷ rest → read (front ++ b ∷ more) ≡ Err (suc (length more))

-- some bytes are read to their end
pub record Ends {X : Type 0} (read : Read X) : Type 0 where
  pub bytes : List ℕ
  pub value : X
  pub whole : read bytes ≡ Ok (value, [])

pub record IsReader {X : Type 0} (read : Read X) : Type 0 where
  pub taken : (bytes : List ℕ) (value : X) (rest : List ℕ) → read bytes ≡ Ok (value, rest) → IsTaken read bytes value rest
  pub flawed : (bytes : List ℕ) (left : ℕ) → read bytes ≡ Err left → IsFlawed read bytes left
  pub ends : Ends read

-- one reader after another, which depends on the value of the first
abbrev pub then : {X Y : Type 0} → Read X → (X → Read Y) → Read Y
then first second bytes = first bytes >>= λ x. second x.0 x.1

-- what was read to the end, and what is read behind it
goes_on_with : {X Y : Type 0} (first : Read X) (second : X → Read Y) → IsReader first → (a b : List ℕ) (x : X) (y : Y) → first a ≡ Ok (x, []) → second x b ≡ Ok (y, []) → then first second (a ++ b) ≡ Ok (y, [])
goes_on_with first second r a b x y e f =
    let t = r.taken a x [] e in
    let whole : a ≡ t.front = t.parts ∙ append-nil t.front in
    ap (then first second) (ap (λ (w : List ℕ). w ++ b) whole) ∙ rw (t.again b) f

-- each value that is read is so
abbrev pub Gets : {X : Type 0} → Read X → (X → Type 0) → Type 0
Gets {X} read So = (bytes : List ℕ) (x : X) (rest : List ℕ) → read bytes ≡ Ok (x, rest) → So x

then_taken : {X Y : Type 0} (first : Read X) (second : X → Read Y) (So : X → Type 0) → IsReader first → Gets first So → ((x : X) → So x → IsReader (second x)) → (bytes : List ℕ) (y : Y) (rest : List ℕ) → then first second bytes ≡ Ok (y, rest) → IsTaken (then first second) bytes y rest
then_taken first second So r g s bytes y rest e =
    let b = bind_ok (first bytes) (λ x. second x.0 x.1) (y, rest) e in
    let t = r.taken bytes b.0.0 b.0.1 b.1 in
    let u = (s b.0.0 (g bytes b.0.0 b.0.1 b.1)).taken b.0.1 y rest b.2 in
    record {
      front = t.front ++ u.front;
      parts = t.parts ∙ ap (λ (w : List ℕ). t.front ++ w) u.parts ∙ sym (append_assoc t.front u.front rest);
      again = λ more. ap (then first second) (append_assoc t.front u.front more) ∙ rw (t.again (u.front ++ more)) (u.again more);
    }

-- the flaw is in the first or in the second
pub bind_err : {A B E : Type 0} (r : Result A E) (f : A → Result B E) (d : E) → (r >>= f) ≡ Err d → (r ≡ Err d) ⊎ ((x : A) × (r ≡ Ok x) × (f x ≡ Err d))
bind_err (Ok x) f d e = inr (x, refl, e)
bind_err (Err c) f d e = inl cc

first_flawed : {X Y : Type 0} (first : Read X) (second : X → Read Y) (So : X → Type 0) → IsReader first → Gets first So → ((x : X) → So x → IsReader (second x)) → (bytes : List ℕ) (left : ℕ) → first bytes ≡ Err left → IsFlawed (then first second) bytes left
first_flawed first second So r g s bytes left e =
    let f = r.flawed bytes left e in
    let u = (s f.value (g (f.front ++ f.more) f.value [] f.goes_on)).ends in
    record {
      front = f.front;
      tail = f.tail;
      parts = f.parts;
      size = f.size;
      more = f.more ++ u.bytes;
      value = u.value;
      goes_on = ap (then first second) (sym (append_assoc f.front f.more u.bytes)) ∙ goes_on_with first second r (f.front ++ f.more) u.bytes f.value u.value f.goes_on u.whole;
      worse = λ b rest more h. rw (f.worse b rest more h) refl;
    }

second_flawed : {X Y : Type 0} (first : Read X) (second : X → Read Y) (So : X → Type 0) → IsReader first → Gets first So → ((x : X) → So x → IsReader (second x)) → (bytes : List ℕ) (x : X) (after : List ℕ) (left : ℕ) → first bytes ≡ Ok (x, after) → second x after ≡ Err left → IsFlawed (then first second) bytes left
second_flawed first second So r g s bytes x after left e d =
    let t = r.taken bytes x after e in
    let f = (s x (g bytes x after e)).flawed after left d in
    record {
      front = t.front ++ f.front;
      tail = f.tail;
      parts = t.parts ∙ ap (λ (w : List ℕ). t.front ++ w) f.parts ∙ sym (append_assoc t.front f.front f.tail);
      size = f.size;
      more = f.more;
      value = f.value;
      goes_on = ap (then first second) (append_assoc t.front f.front f.more) ∙ rw (t.again (f.front ++ f.more)) f.goes_on;
      worse = λ b rest more h. ap (then first second) (append_assoc t.front f.front (b ∷ more)) ∙ rw (t.again (f.front ++ b ∷ more)) (f.worse b rest more h);
    }

then_ends : {X Y : Type 0} (first : Read X) (second : X → Read Y) (So : X → Type 0) → IsReader first → Gets first So → ((x : X) → So x → IsReader (second x)) → Ends (then first second)
then_ends first second So r g s =
    let a = r.ends in
    let b = (s a.value (g a.bytes a.value [] a.whole)).ends in
    record { bytes = a.bytes ++ b.bytes; value = b.value; whole = goes_on_with first second r a.bytes b.bytes a.value b.value a.whole b.whole }

-- behind each value that the first may read stands a reader
pub then_reader_so : {X Y : Type 0} (first : Read X) (second : X → Read Y) (So : X → Type 0) → IsReader first → Gets first So → ((x : X) → So x → IsReader (second x)) → IsReader (then first second)
then_reader_so first second So r g s = record {
  taken = then_taken first second So r g s;
  flawed = λ bytes left e. elim (bind_err (first bytes) (λ x. second x.0 x.1) left e) [
    | inl d ↦ first_flawed first second So r g s bytes left d
    | inr d ↦ second_flawed first second So r g s bytes d.0.0 d.0.1 left d.1 d.2
  ];
  ends = then_ends first second So r g s;
}

pub then_reader : {X Y : Type 0} (first : Read X) (second : X → Read Y) → IsReader first → ((x : X) → IsReader (second x)) → IsReader (then first second)
then_reader {X} first second r s = then_reader_so first second (λ (x : X). Unit {0}) r (λ bytes x rest e. tt) (λ x so. s x)

-- a value of no bytes
abbrev pub gives : {X : Type 0} → X → Read X
gives x bytes = Ok (x, bytes)

abbrev pub done : {A E : Type 0} → A → Result A E
done x = Ok x

pub ok_is : {A E : Type 0} (x y : A) → done {E = E} x ≡ done y → x ≡ y
ok_is x y e = cc

pub gives_reader : {X : Type 0} (x : X) → IsReader (gives x)
gives_reader {X} x = record {
  taken = λ bytes value rest e. let p : (x, bytes) ≡ (value, rest) = ok_is {E = ℕ} (x, bytes) (value, rest) e in
      record { front = []; parts = ap (λ (q : X × List ℕ). q.1) p; again = λ more. ap (λ (q : X × List ℕ). Ok (q.0, more)) p };
  flawed = λ bytes left e. absurd cc;
  ends = record { bytes = []; value = x; whole = refl };
}

-- the same reader, written otherwise
pub same_reader : {X : Type 0} (read written : Read X) → ((bytes : List ℕ) → written bytes ≡ read bytes) → IsReader read → IsReader written
same_reader read written same r = record {
  taken = λ bytes value rest e. let t = r.taken bytes value rest (sym (same bytes) ∙ e) in
      record { front = t.front; parts = t.parts; again = λ more. same (t.front ++ more) ∙ t.again more };
  flawed = λ bytes left e. let f = r.flawed bytes left (sym (same bytes) ∙ e) in
      record {
        front = f.front;
        tail = f.tail;
        parts = f.parts;
        size = f.size;
        more = f.more;
        value = f.value;
        goes_on = same (f.front ++ f.more) ∙ f.goes_on;
        worse = λ b rest more h. same (f.front ++ b ∷ more) ∙ f.worse b rest more h;
      };
  ends = record { bytes = r.ends.bytes; value = r.ends.value; whole = same r.ends.bytes ∙ r.ends.whole };
}

-- ---- numbers

-- so many digits of a number in base 256, the highest first
abbrev pub digits_of : ℕ → ℕ → List ℕ
digits_of zero n = []
digits_of (suc k) n = n / 256 ^ k ∷ digits_of k (n % 256 ^ k)

-- a range of numbers of so many digits
pub record IsRange (k low high : ℕ) : Type 0 where
  pub order : low ≤ high
  pub fits : high < 256 ^ k

unit_suc : (k : ℕ) → 256 ^ suc k ≡ 256 * 256 ^ k
unit_suc k = omega (arith, pow-suc 256 k)

pub unit_pos : (k : ℕ) → 0 < 256 ^ k
unit_pos zero = omega arith
unit_pos (suc k) = omega (arith, unit_suc k, unit_pos k)

-- what is left of a range behind a digit
rest_range : (u low high b : ℕ) → 0 < u → low ≤ high → b * u ≤ high → low ≤ b * u + (u - 1) → (low - b * u ≤ min (high - b * u) (u - 1)) × (min (high - b * u) (u - 1) < u)
rest_range u low high b pos order lower upper = (omega arith, omega arith)

abbrev out_of_range : ℕ → ℕ → ℕ → ℕ → Bool
out_of_range k low high b = ltb high (b * 256 ^ k) || ltb (b * 256 ^ k + (256 ^ k - 1)) low

-- the digit leaves a range
digit_fits : (k low high b : ℕ) → IsRange (suc k) low high → (ltb high (b * 256 ^ k) || ltb (b * 256 ^ k + (256 ^ k - 1)) low) ≡ false
    → IsRange k (low - b * 256 ^ k) (min (high - b * 256 ^ k) (256 ^ k - 1)) × (b * 256 ^ k ≤ high) × (low ≤ b * 256 ^ k + (256 ^ k - 1))
digit_fits k low high b range e =
    let p = or_parts (ltb high (b * 256 ^ k)) (ltb (b * 256 ^ k + (256 ^ k - 1)) low) e in
    let lower : b * 256 ^ k ≤ high = ltb-false _ _ p.0 in
    let upper : low ≤ b * 256 ^ k + (256 ^ k - 1) = ltb-false _ _ p.1 in
    let r = rest_range (256 ^ k) low high b (unit_pos k) range.order lower upper in
    (record { order = r.0; fits = r.1 }, lower, upper)

-- the digits of a number by its first one
digits_split : (k b x : ℕ) → x < 256 ^ k → digits_of (suc k) (b * 256 ^ k + x) ≡ b ∷ digits_of k x
digits_split k b x lt =
    let q : (b * 256 ^ k + x) / 256 ^ k ≡ b = div-eq_of_lt-le (256 ^ k) (omega arith) (omega arith) in
    let m : (b * 256 ^ k + x) % 256 ^ k ≡ x = mod-eq-sub-div-mul (b * 256 ^ k + x) (256 ^ k) ∙ rw q (omega arith) in
    rw (q, m) refl

abbrev pub IsNumber : ℕ → ℕ → ℕ → List ℕ → ℕ → List ℕ → Type 0
IsNumber k low high bytes n rest = (bytes ≡ digits_of k n ++ rest) × (low ≤ n) × (n ≤ high)

pub chosen : {X : Type 0} (b : Bool) (x y z : X) → cond b x y ≡ z → ((b ≡ true) × (x ≡ z)) ⊎ ((b ≡ false) × (y ≡ z))
chosen true x y z e = inl (refl, e)
chosen false x y z e = inr (refl, e)

abbrev pair_of : ℕ → List ℕ → ℕ × List ℕ
pair_of n rest = (n, rest)

abbrev pub failed : {X : Type 0} → ℕ → Result X ℕ
failed left = Err left

abbrev number_tail : ℕ → ℕ → ℕ → ℕ → List ℕ → Result (ℕ × List ℕ) ℕ
number_tail k low high b bytes = number_at k (low - b * 256 ^ k) (min (high - b * 256 ^ k) (256 ^ k - 1)) bytes >>= λ x. Ok (b * 256 ^ k + x.0, x.1)

pub clash : {X : Type 0} (x : X) (left : ℕ) {T : Type 0} → failed left ≡ done x → T
clash x left e = absurd cc

number_step : (k low high b : ℕ) (bytes : List ℕ) (n : ℕ) (rest : List ℕ) → high < 256 ^ suc k → (x : ℕ × List ℕ)
    → IsRange k (low - b * 256 ^ k) (min (high - b * 256 ^ k) (256 ^ k - 1)) × (b * 256 ^ k ≤ high) × (low ≤ b * 256 ^ k + (256 ^ k - 1))
    → IsNumber k (low - b * 256 ^ k) (min (high - b * 256 ^ k) (256 ^ k - 1)) bytes x.0 x.1 → pair_of (b * 256 ^ k + x.0) x.1 ≡ pair_of n rest → IsNumber (suc k) low high (b ∷ bytes) n rest
number_step k low high b bytes n rest fits x f h p =
    let below : x.0 < 256 ^ k = omega (arith, h.2, unit_pos k) in
    let split = digits_split k b x.0 below in
    let made : IsNumber (suc k) low high (b ∷ bytes) (b * 256 ^ k + x.0) x.1 =
    (ap (λ (w : List ℕ). b ∷ w) h.0 ∙ ap (λ (w : List ℕ). w ++ x.1) (sym split), omega (arith, h.1), omega (arith, h.2, f.1)) in
    subst (λ (q : ℕ × List ℕ). IsNumber (suc k) low high (b ∷ bytes) q.0 q.1) p made

pub number_found : (k low high : ℕ) (bytes : List ℕ) (n : ℕ) (rest : List ℕ) → IsRange k low high → number_at k low high bytes ≡ Ok (n, rest) → IsNumber k low high bytes n rest
unfolding number_at
number_found zero low high bytes n rest range e =
    let p : pair_of 0 bytes ≡ pair_of n rest = ok_is {E = ℕ} (0, bytes) (n, rest) e in
    let v : 0 ≡ n = ap (λ (q : ℕ × List ℕ). q.0) p in
    (ap (λ (q : ℕ × List ℕ). q.1) p, omega (arith, range.order, range.fits), omega (arith, range.order, range.fits))
number_found (suc k) low high [] n rest range e = absurd cc
number_found (suc k) low high (b ∷ bytes) n rest range e =
    elim (chosen (out_of_range k low high b) (failed (length (b ∷ bytes))) (number_tail k low high b bytes) (Ok (n, rest)) e) [
      | inl c ↦ clash _ _ c.1
      | inr c ↦
          let r = bind_ok (number_at k (low - b * 256 ^ k) (min (high - b * 256 ^ k) (256 ^ k - 1)) bytes) (λ x. Ok (b * 256 ^ k + x.0, x.1)) (n, rest) c.1 in
          let f = digit_fits k low high b range c.0 in
          number_step k low high b bytes n rest range.fits r.0 f (number_found k (low - b * 256 ^ k) (min (high - b * 256 ^ k) (256 ^ k - 1)) bytes r.0.0 r.0.1 f.0 r.1) (ok_is {E = ℕ} (b * 256 ^ k + r.0.0, r.0.1) (n, rest) r.2)
    ]

-- the digit of a number passes the test, and the number leaves its rest in the range that is left
digit_again : (k low high n : ℕ) → IsRange (suc k) low high → low ≤ n → n ≤ high → (out_of_range k low high (n / 256 ^ k) ≡ false) × (low - n / 256 ^ k * 256 ^ k ≤ n % 256 ^ k) × (n % 256 ^ k ≤ min (high - n / 256 ^ k * 256 ^ k) (256 ^ k - 1))
digit_again k low high n range lower upper =
    let d = div-add-mod' n (256 ^ k) in
    let m = mod-lt n (unit_pos k) in
    let lower_end : n / 256 ^ k * 256 ^ k ≤ high = omega (arith, d) in
    let upper_end : low ≤ n / 256 ^ k * 256 ^ k + (256 ^ k - 1) = omega (arith, d, m) in
    (or_from _ _ (le-ltb _ _ lower_end) (le-ltb _ _ upper_end), omega (arith, d, m), omega (arith, d, m))

pub number_again : (k low high n : ℕ) (rest : List ℕ) → IsRange k low high → low ≤ n → n ≤ high → number_at k low high (digits_of k n ++ rest) ≡ Ok (n, rest)
unfolding number_at
number_again zero low high n rest range lower upper = let z : 0 ≡ n = omega (arith, range.fits) in ap (λ (m : ℕ). Ok (m, rest)) z
number_again (suc k) low high n rest range lower upper =
    let a = digit_again k low high n range lower upper in
    let f = digit_fits k low high (n / 256 ^ k) range a.0 in
    let i = number_again k (low - n / 256 ^ k * 256 ^ k) (min (high - n / 256 ^ k * 256 ^ k) (256 ^ k - 1)) (n % 256 ^ k) rest f.0 a.1 a.2 in
    let whole : n / 256 ^ k * 256 ^ k + n % 256 ^ k ≡ n = omega (arith, div-add-mod' n (256 ^ k)) in
    ap (λ (t : Bool). cond t (failed (suc (length (digits_of k (n % 256 ^ k) ++ rest)))) (number_tail k low high (n / 256 ^ k) (digits_of k (n % 256 ^ k) ++ rest))) a.0
    ∙ ap (λ (r : Result (ℕ × List ℕ) ℕ). r >>= λ x. Ok (n / 256 ^ k * 256 ^ k + x.0, x.1)) i ∙ ap (λ (m : ℕ). Ok (m, rest)) whole

pub err_is : {X : Type 0} (a b : ℕ) → failed {X = X} a ≡ failed b → a ≡ b
err_is a b e = cc

-- no number of the range begins with this digit
digit_flaw : (k low high b : ℕ) (bytes : List ℕ) (left : ℕ) → IsRange (suc k) low high → out_of_range k low high b ≡ true → failed {X = ℕ × List ℕ} (suc (length bytes)) ≡ failed left → IsFlawed (number_at (suc k) low high) (b ∷ bytes) left
unfolding number_at
digit_flaw k low high b bytes left range t e = record {
  front = [];
  tail = b ∷ bytes;
  parts = refl;
  size = err_is (suc (length bytes)) left e;
  more = digits_of (suc k) low ++ [];
  value = low;
  goes_on = number_again (suc k) low high low [] range (omega arith) range.order;
  worse = λ c rest more h. let same : b ≡ c = cc in
      ap (λ (d : ℕ). number_at (suc k) low high (d ∷ more)) (sym same) ∙ ap (λ (u : Bool). cond u (failed (suc (length more))) (number_tail k low high b more)) t;
}

-- a flaw behind a digit
digit_then_flaw : (k low high b : ℕ) (bytes : List ℕ) (left : ℕ) → out_of_range k low high b ≡ false
    → IsFlawed (number_at k (low - b * 256 ^ k) (min (high - b * 256 ^ k) (256 ^ k - 1))) bytes left → IsFlawed (number_at (suc k) low high) (b ∷ bytes) left
unfolding number_at
digit_then_flaw k low high b bytes left t f = record {
  front = b ∷ f.front;
  tail = f.tail;
  parts = ap (λ (w : List ℕ). b ∷ w) f.parts;
  size = f.size;
  more = f.more;
  value = b * 256 ^ k + f.value;
  goes_on = ap (λ (u : Bool). cond u (failed (suc (length (f.front ++ f.more)))) (number_tail k low high b (f.front ++ f.more))) t
      ∙ ap (λ (r : Result (ℕ × List ℕ) ℕ). r >>= λ x. Ok (b * 256 ^ k + x.0, x.1)) f.goes_on;
  worse = λ c rest more h. ap (λ (u : Bool). cond u (failed (suc (length (f.front ++ c ∷ more)))) (number_tail k low high b (f.front ++ c ∷ more))) t
      ∙ ap (λ (r : Result (ℕ × List ℕ) ℕ). r >>= λ x. Ok (b * 256 ^ k + x.0, x.1)) (f.worse c rest more h);
}

pub clash_err : {X T : Type 0} (x : X) (left : ℕ) → done x ≡ failed left → T
clash_err x left e = absurd cc

-- a number of the range is missing here, or this digit begins none
number_flaw : (k low high : ℕ) (bytes : List ℕ) (left : ℕ) → IsRange k low high → number_at k low high bytes ≡ Err left → IsFlawed (number_at k low high) bytes left
unfolding number_at
number_flaw zero low high bytes left range e = absurd cc
number_flaw (suc k) low high [] left range e = record {
  front = [];
  tail = [];
  parts = refl;
  size = err_is 0 left e;
  more = digits_of (suc k) low;
  value = low;
  goes_on = ap (number_at (suc k) low high) (sym (append-nil (digits_of (suc k) low))) ∙ number_again (suc k) low high low [] range (omega arith) range.order;
  worse = λ b rest more h. absurd cc;
}
number_flaw (suc k) low high (b ∷ bytes) left range e =
    elim (chosen (out_of_range k low high b) (failed (length (b ∷ bytes))) (number_tail k low high b bytes) (Err left) e) [
      | inl c ↦ digit_flaw k low high b bytes left range c.0 c.1
      | inr c ↦
          let f = digit_fits k low high b range c.0 in
          elim (bind_err (number_at k (low - b * 256 ^ k) (min (high - b * 256 ^ k) (256 ^ k - 1)) bytes) (λ x. Ok (b * 256 ^ k + x.0, x.1)) left c.1) [
            | inl d ↦ digit_then_flaw k low high b bytes left c.0 (number_flaw k (low - b * 256 ^ k) (min (high - b * 256 ^ k) (256 ^ k - 1)) bytes left f.0 d)
            | inr d ↦ clash_err _ left d.2
          ]
    ]

pub number_reader : (k low high : ℕ) → IsRange k low high → IsReader (number_at k low high)
number_reader k low high range = record {
  taken = λ bytes n rest e. let f = number_found k low high bytes n rest range e in
      record { front = digits_of k n; parts = f.0; again = λ more. number_again k low high n more range f.1 f.2 };
  flawed = λ bytes left e. number_flaw k low high bytes left range e;
  ends = record { bytes = digits_of k low ++ []; value = low; whole = number_again k low high low [] range (omega arith) range.order };
}

-- ---- bytes

pub bytes_again : (n : ℕ) (bytes rest : List ℕ) → length bytes ≡ n → bytes_at n (bytes ++ rest) ≡ Ok (bytes, rest)
unfolding bytes_at
bytes_again n bytes rest len =
    let long : ltb (length (bytes ++ rest)) n ≡ false = le-ltb _ _ (omega (arith, length-append bytes rest)) in
    rw (long, take_at bytes rest n len, drop_at bytes rest n len) refl

pub bytes_found : (n : ℕ) (bytes front rest : List ℕ) → bytes_at n bytes ≡ Ok (front, rest) → (bytes ≡ front ++ rest) × (length front ≡ n)
unfolding bytes_at
bytes_found n bytes front rest e =
    elim (chosen (ltb (length bytes) n) (failed 0) (done (take n bytes, drop n bytes)) (Ok (front, rest)) e) [
      | inl c ↦ clash _ _ c.1
      | inr c ↦
          let p = ok_is {E = ℕ} (take n bytes, drop n bytes) (front, rest) c.1 in
          let long : n ≤ length bytes = ltb-false _ _ c.0 in
          subst (λ (q : List ℕ × List ℕ). (bytes ≡ q.0 ++ q.1) × (length q.0 ≡ n)) p (sym (take-append-drop n bytes), omega (arith, length-take n bytes))
    ]

bytes_missing : (n : ℕ) (bytes : List ℕ) (left : ℕ) → length bytes < n → 0 ≡ left → IsFlawed (bytes_at n) bytes left
bytes_missing n bytes left short none =
    let zeros : List ℕ = replicate (n - length bytes) 0 in
    record {
      front = bytes;
      tail = [];
      parts = sym (append-nil bytes);
      size = none;
      more = zeros;
      value = bytes ++ zeros;
      goes_on = ap (bytes_at n) (sym (append-nil (bytes ++ zeros))) ∙ bytes_again n (bytes ++ zeros) [] (omega (arith, length-append bytes zeros, length-replicate {A = ℕ} (n - length bytes) 0));
      worse = λ b rest more h. absurd cc;
    }

bytes_flaw : (n : ℕ) (bytes : List ℕ) (left : ℕ) → bytes_at n bytes ≡ Err left → IsFlawed (bytes_at n) bytes left
unfolding bytes_at
bytes_flaw n bytes left e =
    elim (chosen (ltb (length bytes) n) (failed 0) (done (take n bytes, drop n bytes)) (Err left) e) [
      | inl c ↦
          let short : length bytes < n = ltb-true _ _ c.0 in
          bytes_missing n bytes left short (err_is 0 left c.1)
      | inr c ↦ clash_err _ _ c.1
    ]

pub bytes_reader : (n : ℕ) → IsReader (bytes_at n)
bytes_reader n = record {
  taken = λ bytes value rest e. let f = bytes_found n bytes value rest e in
      record { front = value; parts = f.0; again = λ more. bytes_again n value more f.1 };
  flawed = λ bytes left e. bytes_flaw n bytes left e;
  ends = record { bytes = replicate n 0 ++ []; value = replicate n 0; whole = bytes_again n (replicate n 0) [] (length-replicate {A = ℕ} n 0) };
}
