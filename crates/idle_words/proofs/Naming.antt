-- Laws of ticks.
use Rattle.std.proofs.Common.{◌≡◌, ℕ, zero, suc, ◌+◌, ◌<◌, ◌≤◌, ◌^◌, max, Bool, true, false, not, ◌&&◌, ◌||◌, cond, List, [], ◌∷◌, map, filter, fold, replicate, All, Option, Some, None, IfSome, ap, refl, sym, ◌∙◌, subst, ⊎_elim, arith}
use Rattle.std.proofs.Math.Nat.{le-max_left, le-max_right, max-le}
use Rattle.std.proofs.lemmas.Bool.{leb-true, leb-false, le-leb, lt-leb, ltb-false, eq-eqb, ne_eqb, and_left, and_right, and_from, cases_Bool, cases_eq, cases_lt}
use Rattle.std.proofs.lemmas.List.Elements.{All-nil, All-cons, All-head, All-tail}
use Rattle.std.specs.Prelude.{◌==◌, nat_lt, nat_le, slice_index, slice_index_or}
use Rattle.std.specs.List.{list_any, AllZip}
use Rattle.counter_bank.specs.Figures.{place, raise_at}
use Rattle.counter_bank.proofs.Places.{raise_at_here, raise_at_else}
use Rattle.idle_words.specs.Moments.{moment_of}
use Rattle.idle_words.specs.Account.{Account, after_look}
use Rattle.idle_words.specs.Idle.{Look, Tick, is_due, was_named, is_named, named, untold_after, moment, next_of, earlier_of, after_looks}
use Rattle.idle_words.specs.Laws.{IsLater, NeverFall, untold_by, NamesTheIdle, OneSeatNeverFalls, IsBehind, NothingBeforeNext, NothingBeforeTheLeast}
use Rattle.idle_words.proofs.Keeping.{raised_least}
use Rattle.idle_words.proofs.Scanning.{looks_noted}

module _ {A : Type 0} where
  -- two tests that agree on a list
  same_filter : (p q : A → Bool) (xs : List A) → All (λ x. p x ≡ q x) xs → filter p xs ≡ filter q xs
  same_filter p q [] h = refl
  same_filter p q (x ∷ xs) h = (λ i. cond (All-head (λ y. p y ≡ q y) x xs h i) (x ∷ filter p xs) (filter p xs)) ∙ ap (λ l. cond (q x) (x ∷ l) l) (same_filter p q xs (All-tail (λ y. p y ≡ q y) x xs h))

  same_any : (p q : A → Bool) (xs : List A) → All (λ x. p x ≡ q x) xs → list_any p xs ≡ list_any q xs
  same_any p q [] h = refl
  same_any p q (x ∷ xs) h = (λ i. All-head (λ y. p y ≡ q y) x xs h i || list_any p xs) ∙ ap (λ b. q x || b) (same_any p q xs (All-tail (λ y. p y ≡ q y) x xs h))

  none_filtered : (p : A → Bool) (xs : List A) → All (λ x. p x ≡ false) xs → filter p xs ≡ []
  none_filtered p [] h = refl
  none_filtered p (x ∷ xs) h = (λ i. cond (All-head (λ y. p y ≡ false) x xs h i) (x ∷ filter p xs) (filter p xs)) ∙ none_filtered p xs (All-tail (λ y. p y ≡ false) x xs h)

-- a number of zeros
zeros : (n s : ℕ) → slice_index (replicate n 0) s ≡ 0
zeros zero s = refl
zeros (suc n) zero = refl
zeros (suc n) (suc s) = zeros n s

-- the look is of this stamp, at this last moment
abbrev is_at : ℕ → ℕ → Look → Bool
is_at s v l = (l.entry.stamp == s) && (l.last == v)

-- what is told with looks that are named by a rule of their own
abbrev told_with : List ℕ → List Look → List ℕ
told_with untold looks = fold (λ before (look : Look). raise_at before look.entry.stamp (look.last + 1)) untold looks

-- behind a look that is named, this stamp is told at this moment exactly where it was or where the look is of it
one_more : (u : List ℕ) (l : Look) (s v : ℕ) (rest : Bool) → (l.entry.stamp ≡ s → l.last ≤ v)
    → (nat_le (slice_index (raise_at u l.entry.stamp (l.last + 1)) s) v && not rest) ≡ (nat_le (slice_index u s) v && not ((is_at s v l && true) || rest))
one_more u l s v rest later = ⊎_elim
    (λ (e : l.entry.stamp ≡ s).
    let here : slice_index (raise_at u l.entry.stamp (l.last + 1)) s ≡ max (slice_index u s) (l.last + 1) = subst (λ x. slice_index (raise_at u l.entry.stamp (l.last + 1)) x ≡ max (slice_index u x) (l.last + 1)) e (raise_at_here u l.entry.stamp (l.last + 1)) in
    ⊎_elim
    (λ (f : l.last ≡ v).
    let above : v < slice_index (raise_at u l.entry.stamp (l.last + 1)) s = omega (arith, here, f, le-max_right (slice_index u s) (l.last + 1)) in
    let is : is_at s v l ≡ true = and_from (l.entry.stamp == s) (l.last == v) (eq-eqb l.entry.stamp s e) (eq-eqb l.last v f) in
    (λ i. lt-leb (slice_index (raise_at u l.entry.stamp (l.last + 1)) s) v above i && not rest) ∙ sym (and_right (nat_le (slice_index u s) v) (not ((is_at s v l && true) || rest)) (λ i. not ((is i && true) || rest))))
    (λ (ne : l.last ≡ v → ⊥).
    let less : l.last + 1 ≤ v = omega (arith, later e, ne) in
    let not_is : is_at s v l ≡ false = and_right (l.entry.stamp == s) (l.last == v) (ne_eqb l.last v ne) in
    (λ i. same_leb (slice_index u s) (l.last + 1) v less (slice_index (raise_at u l.entry.stamp (l.last + 1)) s) here i && not rest) ∙ λ i. nat_le (slice_index u s) v && not ((sym not_is i && true) || rest))
    (cases_eq l.last v))
    (λ (ne : l.entry.stamp ≡ s → ⊥).
    let not_is : is_at s v l ≡ false = and_left (l.entry.stamp == s) (l.last == v) (ne_eqb l.entry.stamp s ne) in
    λ i. nat_le (raise_at_else u l.entry.stamp s (l.last + 1) (λ e. ne (sym e)) i) v && not ((sym not_is i && true) || rest))
    (cases_eq l.entry.stamp s)
  where
    same_leb : (a b v : ℕ) → b ≤ v → (m : ℕ) → m ≡ max a b → nat_le m v ≡ nat_le a v
    same_leb a b v le m is = ⊎_elim
        (λ (lt : v < a). lt-leb m v (omega (arith, is, lt, le-max_left a b)) ∙ sym (lt-leb a v lt))
        (λ (ge : a ≤ v). le-leb m v (omega (arith, is, max-le ge le)) ∙ sym (le-leb a v ge))
        (cases_lt v a)

and_true : (b : Bool) → (b && true) ≡ b
and_true true = refl
and_true false = refl

-- behind the looks ls a stamp is told at a moment exactly where it was or where one of them is named there
abbrev Tells : List ℕ → List ℕ → ℕ → List Look → ℕ → ℕ → Type 0
Tells u was now ls s v = nat_le (slice_index (told_with u (named was now ls)) s) v ≡ (nat_le (slice_index u s) v && not (list_any (λ l. is_at s v l && is_named was now l) ls))

tells_more : (u was : List ℕ) (now : ℕ) (l : Look) (ls : List Look) (s v : ℕ) → (l.entry.stamp ≡ s → l.last ≤ v) → ((x : List ℕ) → Tells x was now ls s v)
    → (b : Bool) → is_named was now l ≡ b → Tells u was now (l ∷ ls) s v
tells_more u was now l ls s v later ih true e =
    let rest : Bool = list_any (λ k. is_at s v k && is_named was now k) ls in
    (λ i. nat_le (slice_index (told_with u (cond (e i) (l ∷ named was now ls) (named was now ls))) s) v)
    ∙ ih (raise_at u l.entry.stamp (l.last + 1)) ∙ one_more u l s v rest later ∙ λ i. nat_le (slice_index u s) v && not ((is_at s v l && sym e i) || rest)
tells_more u was now l ls s v later ih false e =
    let rest : Bool = list_any (λ k. is_at s v k && is_named was now k) ls in
    (λ i. nat_le (slice_index (told_with u (cond (e i) (l ∷ named was now ls) (named was now ls))) s) v)
    ∙ ih u ∙ λ i. nat_le (slice_index u s) v && not (sym (and_right (is_at s v l) (is_named was now l) e) i || rest)

tells : (u was : List ℕ) (now : ℕ) (ls : List Look) (s v : ℕ) → All (λ (l : Look). l.entry.stamp ≡ s → l.last ≤ v) ls → Tells u was now ls s v
tells u was now [] s v later = sym (and_true (nat_le (slice_index u s) v))
tells u was now (l ∷ ls) s v later =
    let P : Look → Type 0 = λ k. k.entry.stamp ≡ s → k.last ≤ v in
    tells_more u was now l ls s v (All-head P l ls later) (λ x. tells x was now ls s v (All-tail P l ls later)) (is_named was now l) refl

-- what is not told says which entries earlier ticks named
abbrev SaysNamed : ℕ → List Tick → Type 0
SaysNamed n earlier = (x : Look) → IsLater earlier x → nat_le (slice_index (untold_by n earlier) x.entry.stamp) x.last ≡ not (was_named earlier x.entry.stamp x.last)

neither : (w hit : Bool) → (not w && not hit) ≡ not (w || hit)
neither true hit = refl
neither false hit = refl

same_names : (n : ℕ) (earlier : List Tick) (now : ℕ) (looks : List Look) → SaysNamed n earlier → All (IsLater earlier) looks
    → All (λ (l : Look). is_named (untold_by n earlier) now l ≡ (is_due now l && not (was_named earlier l.entry.stamp l.last))) looks
same_names n earlier now looks says later = λ k d h i. is_due now (slice_index_or looks k d) && says (slice_index_or looks k d) (later k d h) i

says_named : (n : ℕ) (earlier : List Tick) → NeverFall earlier → SaysNamed n earlier
says_named n [] falls x later = λ i. le-leb (slice_index (replicate n 0) x.entry.stamp) x.last (omega (arith, zeros n x.entry.stamp)) i
says_named n (tick ∷ earlier) falls x later =
    let s : ℕ = x.entry.stamp in
    let v : ℕ = x.last in
    let was : List ℕ = untold_by n earlier in
    let ih : SaysNamed n earlier = says_named n earlier falls.1 in
    let P : Tick → Type 0 = λ t. All (λ (l : Look). l.entry.stamp ≡ s → l.last ≤ v) t.looks in
    let same : All (λ (l : Look). is_named was tick.now l ≡ (is_due tick.now l && not (was_named earlier l.entry.stamp l.last))) tick.looks = same_names n earlier tick.now tick.looks ih falls.0 in
    let hits : list_any (λ l. is_at s v l && is_named was tick.now l) tick.looks ≡ list_any (λ (l : Look). is_at s v l && (is_due tick.now l && not (was_named earlier l.entry.stamp l.last))) tick.looks =
    same_any _ _ tick.looks (λ k d h i. is_at s v (slice_index_or tick.looks k d) && same k d h i) in
    tells was was tick.now tick.looks s v (All-head P tick earlier later)
    ∙ (λ i. ih x (All-tail P tick earlier later) i && not (hits i))
    ∙ neither (was_named earlier s v) (list_any (λ (l : Look). is_at s v l && (is_due tick.now l && not (was_named earlier l.entry.stamp l.last))) tick.looks)

pub names_idle : NamesTheIdle
names_idle n earlier tick falls = ap (λ l. map (λ (look : Look). look.entry.seq) l)
    (same_filter _ _ tick.looks (same_names n earlier tick.now tick.looks (says_named n earlier falls.1) falls.0))

-- a seat knows what it has just found
looks_know : (a : Account) (looks : List Look) → All (λ (l : Look). l.last ≤ moment_of (after_looks a looks).noted l.entry.stamp) looks
looks_know a [] = All-nil _
looks_know a (x ∷ xs) =
    let b : Account = after_look a x.entry.stamp x.last in
    All-cons (λ (l : Look). l.last ≤ moment_of (after_looks b xs).noted l.entry.stamp) x xs
    (omega (arith, raise_at_here a.noted (place x.entry.stamp) x.last, le-max_right (moment_of a.noted x.entry.stamp) x.last, looks_noted b xs x.entry.stamp))
    (looks_know b xs)

pub one_seat : OneSeatNeverFalls
one_seat a earlier tick knows falls since = (
  (
    λ k d h j e g m f t same.
        let look : Look = slice_index_or tick.looks k d in
        let was : Look = slice_index_or (slice_index_or earlier j e).looks m f in
        omega (arith, knows j e g m f t, ap (λ x. moment_of a.noted x) same, (since k d h).since),
    falls,
  ),
  All-cons (λ (t : Tick). All (λ (l : Look). l.last ≤ moment_of (after_looks a tick.looks).noted l.entry.stamp) t.looks) tick earlier
      (looks_know a tick.looks)
      (λ j e g m f t. omega (arith, knows j e g m f t, looks_noted a tick.looks (slice_index_or (slice_index_or earlier j e).looks m f).entry.stamp)),
)

-- the earliest of moments that may come is behind a moment where each of them is
earlier_each : (later : ℕ) (a b : Option ℕ) → IfSome (earlier_of a b) (λ n. later < n) → IfSome a (λ n. later < n) × IfSome b (λ n. later < n)
earlier_each later None b h = (tt, h)
earlier_each later (Some m) None h = (h, tt)
earlier_each later (Some m) (Some n) h = either (nat_le m n) refl h
  where
    either : (b : Bool) → nat_le m n ≡ b → IfSome (cond b (Some m) (Some n)) (λ k. later < k) → (later < m) × (later < n)
    either true e k = (k, omega (arith, k, leb-true m n e))
    either false e k = (omega (arith, k, leb-false m n e), k)

each_next : (later now : ℕ) (acc : Option ℕ) (looks : List Look) → IfSome (fold (λ next look. earlier_of next (next_of now look)) acc looks) (λ n. later < n)
    → IfSome acc (λ n. later < n) × All (λ l. IfSome (next_of now l) (λ n. later < n)) looks
each_next later now acc [] h = (h, All-nil _)
each_next later now acc (x ∷ xs) h =
    let rest = each_next later now (earlier_of acc (next_of now x)) xs h in
    let both = earlier_each later acc (next_of now x) rest.0 in
    (both.0, All-cons (λ l. IfSome (next_of now l) (λ n. later < n)) x xs both.1 rest.1)

told_rises : (u : List ℕ) (ls : List Look) (s : ℕ) → slice_index u s ≤ slice_index (told_with u ls) s
told_rises u [] s = omega arith
told_rises u (l ∷ ls) s = omega (arith, raised_least u l.entry.stamp (l.last + 1) s, told_rises (raise_at u l.entry.stamp (l.last + 1)) ls s)

-- an entry whose timeout has passed at a tick is told behind it
abbrev IsTold : ℕ → List ℕ → Look → Type 0
IsTold now u l = is_due now l ≡ true → l.last < slice_index u l.entry.stamp

told_one : (u was : List ℕ) (now : ℕ) (l : Look) (ls : List Look) → ((s : ℕ) → slice_index was s ≤ slice_index u s)
    → ((x : List ℕ) → ((s : ℕ) → slice_index was s ≤ slice_index x s) → All (IsTold now (told_with x (named was now ls))) ls)
    → (b : Bool) → is_named was now l ≡ b → All (IsTold now (told_with u (cond b (l ∷ named was now ls) (named was now ls)))) (l ∷ ls)
told_one u was now l ls le ih true e =
    let x : List ℕ = raise_at u l.entry.stamp (l.last + 1) in
    All-cons (IsTold now (told_with x (named was now ls))) l ls
    (λ due. omega (arith, raise_at_here u l.entry.stamp (l.last + 1), le-max_right (slice_index u l.entry.stamp) (l.last + 1), told_rises x (named was now ls) l.entry.stamp))
    (ih x (λ s. omega (arith, le s, raised_least u l.entry.stamp (l.last + 1) s)))
told_one u was now l ls le ih false e =
    All-cons (IsTold now (told_with u (named was now ls))) l ls
    (λ due. let above : l.last < slice_index was l.entry.stamp = leb-false (slice_index was l.entry.stamp) l.last (not_right (is_due now l) (nat_le (slice_index was l.entry.stamp) l.last) due e) in
    omega (arith, above, le l.entry.stamp, told_rises u (named was now ls) l.entry.stamp))
    (ih u le)
  where
    not_right : (a b : Bool) → a ≡ true → (a && b) ≡ false → b ≡ false
    not_right true b t f = f
    not_right false b t f = absurd cc

told_each : (u was : List ℕ) (now : ℕ) (looks : List Look) → ((s : ℕ) → slice_index was s ≤ slice_index u s) → All (IsTold now (told_with u (named was now looks))) looks
told_each u was now [] le = All-nil _
told_each u was now (l ∷ ls) le = told_one u was now l ls le (λ x h. told_each x was now ls h) (is_named was now l) refl

-- an entry whose timeout passes later is not due yet
not_due : (now : ℕ) (l : Look) → (0 < l.entry.timeout → now < l.last + l.entry.timeout) → is_due now l ≡ false
not_due now l h = ⊎_elim
    (λ (some : 0 < l.entry.timeout). and_right (nat_lt 0 l.entry.timeout) (nat_le (l.last + l.entry.timeout) now) (lt-leb (l.last + l.entry.timeout) now (h some)))
    (λ (none : l.entry.timeout ≤ 0). and_left (nat_lt 0 l.entry.timeout) (nat_le (l.last + l.entry.timeout) now) (lt-leb 1 l.entry.timeout (omega (arith, none))))
    (cases_lt 0 l.entry.timeout)

-- a moment that is before the next one
before_moment : (later n : ℕ) → later < 2 ^ 64 → IfSome (moment n) (λ m. later < m) → later < n
before_moment later n small h = split (nat_lt n (2 ^ 64)) refl h
  where
    split : (b : Bool) → nat_lt n (2 ^ 64) ≡ b → IfSome (cond b (Some n) None) (λ m. later < m) → later < n
    split true e k = k
    split false e k = omega (arith, small, ltb-false n (2 ^ 64) e)

-- what next_of says of the timeout
before_next : (later now : ℕ) (l : Look) → later < 2 ^ 64 → IfSome (next_of now l) (λ n. later < n) → 0 < l.entry.timeout
    → (is_due now l ≡ true → later < now + l.entry.timeout) × (is_due now l ≡ false → later < l.last + l.entry.timeout)
before_next later now l small h some =
    let timed : (l.entry.timeout == 0) ≡ false = ne_eqb l.entry.timeout 0 (λ e. omega (arith, e, some)) in
    let at : (b : Bool) → is_due now l ≡ b → IfSome (cond b (moment (now + l.entry.timeout)) (moment (l.last + l.entry.timeout))) (λ n. later < n) =
    λ b e. subst (λ x. IfSome (cond x (moment (now + l.entry.timeout)) (moment (l.last + l.entry.timeout))) (λ n. later < n)) e
    (subst (λ x. IfSome (cond x None (cond (is_due now l) (moment (now + l.entry.timeout)) (moment (l.last + l.entry.timeout)))) (λ n. later < n)) timed h) in
    (λ e. before_moment later (now + l.entry.timeout) small (at true e), λ e. before_moment later (l.last + l.entry.timeout) small (at false e))

-- one entry is not named before its next moment
not_named : (u : List ℕ) (now later : ℕ) (was is : Look) → IsBehind now was is → later < 2 ^ 64 → IfSome (next_of now was) (λ n. later < n) → IsTold now u was → is_named u later is ≡ false
not_named u now later was is behind small next told =
    let timeout : was.entry.timeout ≡ is.entry.timeout = ap (λ e. e.timeout) behind.entry in
    let stamp : was.entry.stamp ≡ is.entry.stamp = ap (λ e. e.stamp) behind.entry in
    let early : (0 < is.entry.timeout → later < is.last + is.entry.timeout) → is_named u later is ≡ false = λ h. and_left (is_due later is) (nat_le (slice_index u is.entry.stamp) is.last) (not_due later is h) in
    ⊎_elim
    (λ (due : is_due now was ≡ true). ⊎_elim
    (λ (same : is.last ≡ was.last). and_right (is_due later is) (nat_le (slice_index u is.entry.stamp) is.last)
    (lt-leb (slice_index u is.entry.stamp) is.last (omega (arith, told due, same, ap (λ s. slice_index u s) stamp))))
    (λ (new : now ≤ is.last). early (λ some. omega (arith, (before_next later now was small next (omega (arith, some, timeout))).0 due, new, timeout)))
    (behind.behind due))
    (λ (due : is_due now was ≡ false). early (λ some. omega (arith, (before_next later now was small next (omega (arith, some, timeout))).1 due, behind.rises, timeout)))
    (cases_Bool (is_due now was))

none_named : (u : List ℕ) (now later : ℕ) (looks found : List Look) → AllZip (IsBehind now) looks found → later < 2 ^ 64 → All (λ l. IfSome (next_of now l) (λ n. later < n)) looks → All (IsTold now u) looks
    → All (λ l. is_named u later l ≡ false) found
none_named u now later [] [] zip small next told = All-nil _
none_named u now later [] (y ∷ ys) zip small next told = absurd zip
none_named u now later (x ∷ xs) [] zip small next told = absurd zip
none_named u now later (x ∷ xs) (y ∷ ys) zip small next told =
    let N : Look → Type 0 = λ l. IfSome (next_of now l) (λ n. later < n) in
    All-cons (λ l. is_named u later l ≡ false) y ys
    (not_named u now later x y zip.0 small (All-head N x xs next) (All-head (IsTold now u) x xs told))
    (none_named u now later xs ys zip.1 small (All-tail N x xs next) (All-tail (IsTold now u) x xs told))

pub nothing_before : NothingBeforeNext
nothing_before untold now later looks found zip small next = ap (λ l. map (λ (look : Look). look.entry.seq) l)
    (none_filtered _ found (none_named (untold_after untold now looks) now later looks found zip small (each_next later now None looks next).1 (told_each untold untold now looks (λ s. omega arith))))

none_due : (u : List ℕ) (later : ℕ) (looks found : List Look) → AllZip (λ (was is : Look). (was.entry ≡ is.entry) × (was.last ≤ is.last)) looks found
    → All (λ (look : Look). 0 < look.entry.timeout → later < look.last + look.entry.timeout) looks → All (λ l. is_named u later l ≡ false) found
none_due u later [] [] zip least = All-nil _
none_due u later [] (y ∷ ys) zip least = absurd zip
none_due u later (x ∷ xs) [] zip least = absurd zip
none_due u later (x ∷ xs) (y ∷ ys) zip least =
    let L : Look → Type 0 = λ look. 0 < look.entry.timeout → later < look.last + look.entry.timeout in
    let timeout : x.entry.timeout ≡ y.entry.timeout = ap (λ e. e.timeout) zip.0.0 in
    All-cons (λ l. is_named u later l ≡ false) y ys
    (and_left (is_due later y) (nat_le (slice_index u y.entry.stamp) y.last) (not_due later y (λ some. omega (arith, All-head L x xs least (omega (arith, some, timeout)), zip.0.1, timeout))))
    (none_due u later xs ys zip.1 (All-tail L x xs least))

pub nothing_before_least : NothingBeforeTheLeast
nothing_before_least untold later looks found zip least = ap (λ l. map (λ (look : Look). look.entry.seq) l) (none_filtered _ found (none_due untold later looks found zip least))
