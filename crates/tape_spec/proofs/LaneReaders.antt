-- Lanes read from two bytes: what is read is spelled so, what is spelled so is read, and the place of a flaw is exact.
use Rattle.std.proofs.Common.{◌≡◌, ℕ, zero, suc, ◌<◌, ◌≤◌, Bool, true, false, cond, ltb, ◌||◌, List, [], ◌∷◌, ◌++◌, length, Result, Ok, Err, refl, sym, ap, ap₂, subst, ◌∙◌, ◌⊎◌, arith, inl, inr}
use Rattle.std.proofs.lemmas.Bool.{and_parts, and_from, ltb-true, lt-ltb, or_left, or_right}
use Rattle.list_types.specs.Results.{◌>>=◌}
use Rattle.run_spec.specs.TapeReading.{number_at}
use Rattle.run_spec.proofs.Readers.{bind_ok, ok_is, Read, IsFlawed, IsReader, then, then_reader, same_reader, digits_of, IsRange, number_found, number_again, number_reader, chosen, done, failed, clash, clash_err, err_is}
use Rattle.tape_spec.specs.Reading.{is_lane, some_lane, low_at, lane_at}

-- a controller's lane of these
pub record IsOf (these : ℕ → Bool) (lane : ℕ) : Type 0 where
  pub of_controller : lane < 32
  pub taken : these lane ≡ true

pub of_lane : (these : ℕ → Bool) (lane : ℕ) → is_lane these lane ≡ true → IsOf these lane
of_lane these lane e =
    let p = and_parts (ltb lane 32) (these lane) e in
    record { of_controller = ltb-true lane 32 p.0; taken = p.1 }

pub lane_of : (these : ℕ → Bool) (lane : ℕ) → IsOf these lane → is_lane these lane ≡ true
lane_of these lane c = and_from (ltb lane 32) (these lane) (lt-ltb lane 32 c.of_controller) c.taken

either_true : (x y : Bool) → (x || y) ≡ true → (x ≡ true) ⊎ (y ≡ true)
either_true true y e = inl refl
either_true false y e = inr e

-- where some of the lanes are of these, one of them is, and the other way round
some_of_these : (n : ℕ) (these : ℕ → Bool) → some_lane n these ≡ true → (lane : ℕ) × IsOf these lane
some_of_these zero these e = absurd cc
some_of_these (suc n) these e =
    elim (either_true (is_lane these n) (some_lane n these) e) [
      | inl h ↦ (n, of_lane these n h)
      | inr h ↦ some_of_these n these h
    ]

pub one_of : (these : ℕ → Bool) → some_lane 32 these ≡ true → (lane : ℕ) × IsOf these lane
one_of these e = some_of_these 32 these e

last_or_below : (c n : ℕ) → c < suc n → (c ≡ n) ⊎ (c < n)
last_or_below zero zero lt = inl refl
last_or_below zero (suc n) lt = inr (omega arith)
last_or_below (suc c) zero lt = absurd (omega arith)
last_or_below (suc c) (suc n) lt =
    elim (last_or_below c n (omega arith)) [
      | inl same ↦ inl (ap suc same)
      | inr below ↦ inr (omega (arith, below))
    ]

lane_among : (n : ℕ) (these : ℕ → Bool) (lane : ℕ) → lane < n → is_lane these lane ≡ true → some_lane n these ≡ true
lane_among zero these lane lt e = absurd (omega arith)
lane_among (suc n) these lane lt e =
    elim (last_or_below lane n lt) [
      | inl same ↦ or_left (is_lane these n) (some_lane n these) (subst (λ (c : ℕ). is_lane these c ≡ true) same e)
      | inr below ↦ or_right (is_lane these n) (some_lane n these) (lane_among n these lane below e)
    ]

pub among : (these : ℕ → Bool) (lane : ℕ) → IsOf these lane → some_lane 32 these ≡ true
among these lane c = lane_among 32 these lane c.of_controller (lane_of these lane c)

abbrev pair_of : ℕ → List ℕ → ℕ × List ℕ
pair_of n rest = (n, rest)

-- the byte of such a lane is read, that of another is bad
low_again : (these : ℕ → Bool) (lane : ℕ) (rest : List ℕ) → is_lane these lane ≡ true → low_at these (lane ∷ rest) ≡ Ok (lane, rest)
unfolding low_at
low_again these lane rest e = ap (λ (t : Bool). cond t (done (pair_of lane rest)) (failed (suc (length rest)))) e

low_bad : (these : ℕ → Bool) (b : ℕ) (rest : List ℕ) → is_lane these b ≡ false → low_at these (b ∷ rest) ≡ Err (suc (length rest))
unfolding low_at
low_bad these b rest e = ap (λ (t : Bool). cond t (done (pair_of b rest)) (failed (suc (length rest)))) e

low_found : (these : ℕ → Bool) (bytes : List ℕ) (lane : ℕ) (rest : List ℕ) → low_at these bytes ≡ Ok (lane, rest) → (bytes ≡ lane ∷ rest) × (is_lane these lane ≡ true)
unfolding low_at
low_found these [] lane rest e = clash_err (pair_of lane rest) 0 (sym e)
low_found these (b ∷ bytes) lane rest e =
    elim (chosen (is_lane these b) (done (pair_of b bytes)) (failed (suc (length bytes))) (Ok (lane, rest)) e) [
      | inl c ↦
          let p = ok_is {E = ℕ} (pair_of b bytes) (pair_of lane rest) c.1 in
          (ap (λ (q : ℕ × List ℕ). q.0 ∷ q.1) p, subst (λ (q : ℕ × List ℕ). is_lane these q.0 ≡ true) p c.0)
      | inr c ↦ clash (pair_of lane rest) (suc (length bytes)) c.1
    ]

low_flawed : (these : ℕ → Bool) (lane : ℕ) → is_lane these lane ≡ true → (bytes : List ℕ) (left : ℕ) → low_at these bytes ≡ Err left → IsFlawed (low_at these) bytes left
unfolding low_at
low_flawed these lane is [] left e = record {
  front = [];
  tail = [];
  parts = refl;
  size = err_is {X = ℕ × List ℕ} 0 left e;
  more = lane ∷ [];
  value = lane;
  goes_on = low_again these lane [] is;
  worse = λ b rest more h. absurd cc;
}
low_flawed these lane is (c ∷ bytes) left e =
    elim (chosen (is_lane these c) (done (pair_of c bytes)) (failed (suc (length bytes))) (failed left) e) [
      | inl h ↦ clash_err (pair_of c bytes) left h.1
      | inr h ↦ record {
        front = [];
        tail = c ∷ bytes;
        parts = refl;
        size = err_is {X = ℕ × List ℕ} (suc (length bytes)) left h.1;
        more = lane ∷ [];
        value = lane;
        goes_on = low_again these lane [] is;
        worse = λ b rest more same_tail. let same : c ≡ b = cc in low_bad these b more (subst (λ (d : ℕ). is_lane these d ≡ false) same h.0);
      }
    ]

low_reader : (these : ℕ → Bool) (lane : ℕ) → is_lane these lane ≡ true → IsReader (low_at these)
low_reader these lane is = record {
  taken = λ bytes value rest e. let f = low_found these bytes value rest e in
      record { front = value ∷ []; parts = f.0; again = λ more. low_again these value more f.1 };
  flawed = λ bytes left e. low_flawed these lane is bytes left e;
  ends = record { bytes = lane ∷ []; value = lane; whole = low_again these lane [] is };
}

-- ---- both bytes

zeros_1 : IsRange 1 0 0
zeros_1 = record { order = omega arith; fits = omega arith }

abbrev pub lane_read : (ℕ → Bool) → Read ℕ
lane_read these = then (number_at 1 0 0) (λ high. low_at these)

pub lane_is : (these : ℕ → Bool) (bytes : List ℕ) → lane_at these bytes ≡ lane_read these bytes
unfolding lane_at
lane_is these bytes = refl

pub lane_reader : (these : ℕ → Bool) (lane : ℕ) → IsOf these lane → IsReader (lane_at these)
lane_reader these lane c = same_reader (lane_read these) (lane_at these) (lane_is these)
    (then_reader (number_at 1 0 0) (λ high. low_at these) (number_reader 1 0 0 zeros_1) (λ high. low_reader these lane (lane_of these lane c)))

-- the digits of a controller's lane
lane_digits : (lane : ℕ) → lane < 32 → digits_of 2 lane ≡ 0 ∷ lane ∷ []
lane_digits lane lt = ap₂ (λ (a b : ℕ). a ∷ b ∷ []) (omega arith) (omega arith)

digits_zero : (k n : ℕ) → n ≤ 0 → digits_of k n ≡ digits_of k 0
digits_zero k n le = ap (digits_of k) (omega arith)

pub lane_again : (these : ℕ → Bool) (lane : ℕ) (rest : List ℕ) → IsOf these lane → lane_at these (digits_of 2 lane ++ rest) ≡ Ok (lane, rest)
lane_again these lane rest c =
    ap (λ (w : List ℕ). lane_at these (w ++ rest)) (lane_digits lane c.of_controller) ∙ lane_is these (0 ∷ lane ∷ rest)
    ∙ ap (λ (r : Result (ℕ × List ℕ) ℕ). r >>= λ x. low_at these x.1) (number_again 1 0 0 0 (lane ∷ rest) zeros_1 (omega arith) (omega arith))
    ∙ low_again these lane rest (lane_of these lane c)

pub lane_found : (these : ℕ → Bool) (bytes : List ℕ) (lane : ℕ) (rest : List ℕ) → lane_at these bytes ≡ Ok (lane, rest) → (bytes ≡ digits_of 2 lane ++ rest) × IsOf these lane
lane_found these bytes lane rest e =
    let a = bind_ok (number_at 1 0 0 bytes) (λ y. low_at these y.1) (lane, rest) (sym (lane_is these bytes) ∙ e) in
    let f0 = number_found 1 0 0 bytes a.0.0 a.0.1 zeros_1 a.1 in
    let f1 = low_found these a.0.1 lane rest a.2 in
    let c = of_lane these lane f1.1 in
    let joined : bytes ≡ digits_of 2 lane ++ rest =
    f0.0 ∙ ap (λ (w : List ℕ). w ++ a.0.1) (digits_zero 1 a.0.0 f0.2) ∙ ap (λ (w : List ℕ). 0 ∷ w) f1.0 ∙ ap (λ (w : List ℕ). w ++ rest) (sym (lane_digits lane c.of_controller)) in
    (joined, c)
