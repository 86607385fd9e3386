-- A tick, look by look.
use Rattle.std.proofs.Common.{◌≡◌, ℕ, zero, suc, ◌+◌, ◌<◌, ◌≤◌, List, [], ◌∷◌, ◌++◌, map, length, take, get_or, All, Option, None, ap, refl, sym, ◌∙◌, subst, arith}
use Rattle.std.proofs.Math.Nat.{max-eq_left, max-eq_right}
use Rattle.std.proofs.lemmas.List.{take_more}
use Rattle.std.proofs.lemmas.List.Elements.{filter-append, All-append, All-nil, All-cons, All-head, All-tail, All-map, All-filter}
use Rattle.std.proofs.lemmas.List.Sums.{fold-append}
use Rattle.std.proofs.lemmas.List.Folds.{fold-map}
use Rattle.std.specs.Prelude.{slice_index, slice_set}
use Rattle.counter_bank.specs.Figures.{place, raise_at}
use Rattle.idle_words.specs.declared.idle.Watched.{Watched}
use Rattle.idle_words.specs.declared.idle.Mark.{Mark}
use Rattle.idle_words.specs.Moments.{moment_of, NoneAbove}
use Rattle.idle_words.specs.Account.{Account, after_look, OnlyNotes}
use Rattle.idle_words.specs.Idle.{Look, IsSince, is_named, named, untold_after, next_of, earlier_of, after_looks}
use Rattle.idle_words.specs.Scan.{Scanned, mark_of, more_names, more_marks, raised_by}
use Rattle.idle_words.proofs.Keeping.{raised_least}

-- what looks leave of a seat
pub looks_stamps : (a : Account) (looks : List Look) → (after_looks a looks).stamps ≡ a.stamps
looks_stamps a [] = refl
looks_stamps a (x ∷ xs) = looks_stamps (after_look a x.entry.stamp x.last) xs

pub looks_parts : (a : Account) (looks : List Look) → (after_looks a looks).parts ≡ a.parts
looks_parts a [] = refl
looks_parts a (x ∷ xs) = looks_parts (after_look a x.entry.stamp x.last) xs

pub looks_touched : (a : Account) (looks : List Look) → (after_looks a looks).touched ≡ a.touched
looks_touched a [] = refl
looks_touched a (x ∷ xs) = looks_touched (after_look a x.entry.stamp x.last) xs

pub looks_noted : (a : Account) (looks : List Look) → NoneAbove a.noted (after_looks a looks).noted
looks_noted a [] stamp = omega arith
looks_noted a (x ∷ xs) stamp = omega (arith, raised_least a.noted (place x.entry.stamp) x.last (place stamp), looks_noted (after_look a x.entry.stamp x.last) xs stamp)

map_snoc : {A B : Type 0} (f : A → B) (xs : List A) (x : A) → map f (xs ++ x ∷ []) ≡ map f xs ++ f x ∷ []
map_snoc f [] x = refl
map_snoc f (y ∷ ys) x = ap (λ l. f y ∷ l) (map_snoc f ys x)

map_join : {A B : Type 0} (f : A → B) (xs ys : List A) → map f (xs ++ ys) ≡ map f xs ++ map f ys
map_join f [] ys = refl
map_join f (x ∷ xs) ys = ap (λ l. f x ∷ l) (map_join f xs ys)

module _ (now : ℕ) (untold : List ℕ) (was : Account) where
  pub scanned_none : Scanned now untold [] was was [] [] None
  scanned_none = record { looks = []; entries_are = refl; moments = All-nil (IsSince was); seat_is = refl; names_are = refl; marks_are = refl; next_is = refl }

  named_snoc : (looks : List Look) (x : Look) → named untold now (looks ++ x ∷ []) ≡ named untold now looks ++ named untold now (x ∷ [])
  named_snoc looks x = filter-append (λ look. is_named untold now look) looks (x ∷ [])

  -- one entry more
  pub scanned_more : (entries : List Watched) (is after : Account) (answer : List ℕ) (marks : List Mark) (next : Option ℕ) (entry : Watched) (last : ℕ)
      → Scanned now untold entries was is answer marks next
      → moment_of is.touched entry.stamp ≤ last → moment_of is.noted entry.stamp ≤ last → after ≡ after_look is entry.stamp last
      → (x : Look) → x ≡ record { entry = entry; last = last }
      → Scanned now untold (entries ++ entry ∷ []) was after (answer ++ more_names untold now x) (marks ++ more_marks untold now x) (earlier_of next (next_of now x))
  scanned_more entries is after answer marks next entry last s own since seat x is_x =
      let look : Look = record { entry = entry; last = last } in
      let P : Look → Type 0 = λ y. Scanned now untold (entries ++ entry ∷ []) was after (answer ++ more_names untold now y) (marks ++ more_marks untold now y) (earlier_of next (next_of now y)) in
      let touched : moment_of was.touched entry.stamp ≤ last = omega (arith, own, ap (λ (a : Account). moment_of a.touched entry.stamp) s.seat_is, ap (λ l. moment_of l entry.stamp) (looks_touched was s.looks)) in
      let noted : moment_of was.noted entry.stamp ≤ last = omega (arith, since, ap (λ (a : Account). moment_of a.noted entry.stamp) s.seat_is, looks_noted was s.looks entry.stamp) in
      let snoc = named_snoc s.looks look in
      subst P (sym is_x) record {
        looks = s.looks ++ look ∷ [];
        entries_are = map_snoc (λ (l : Look). l.entry) s.looks look ∙ ap (λ l. l ++ entry ∷ []) s.entries_are;
        moments = All-append (IsSince was) s.looks (look ∷ []) s.moments (one (IsSince was) look record { own = touched; since = noted });
        seat_is = seat ∙ ap (λ (a : Account). after_look a entry.stamp last) s.seat_is ∙ sym (fold-append (λ b (l : Look). after_look b l.entry.stamp l.last) was s.looks (look ∷ []));
        names_are = ap (λ l. l ++ more_names untold now look) s.names_are ∙ sym (ap (λ l. map (λ (y : Look). y.entry.seq) l) snoc ∙ map_join (λ (y : Look). y.entry.seq) (named untold now s.looks) (named untold now (look ∷ [])));
        marks_are = ap (λ l. l ++ more_marks untold now look) s.marks_are ∙ sym (ap (λ l. map mark_of l) snoc ∙ map_join mark_of (named untold now s.looks) (named untold now (look ∷ [])));
        next_is = ap (λ o. earlier_of o (next_of now look)) s.next_is ∙ sym (fold-append (λ o l. earlier_of o (next_of now l)) None s.looks (look ∷ []));
      }
    where
      one : (Q : Look → Type 0) (y : Look) → Q y → All Q (y ∷ [])
      one Q y q zero d h = q
      one Q y q (suc k) d h = absurd (omega (arith, h))

-- a number that is raised where it stands
pub raise_above : (xs : List ℕ) (i n : ℕ) → i < length xs → slice_index xs i ≤ n → raise_at xs i n ≡ slice_set xs i n
unfolding raise_at
raise_above [] i n within le = absurd (omega (arith, within))
raise_above (x ∷ xs) zero n within le = ap (λ y. y ∷ xs) (max-eq_right le)
raise_above (x ∷ xs) (suc i) n within le = ap (λ l. x ∷ l) (raise_above xs i n (omega (arith, within)) le)

pub raise_below : (xs : List ℕ) (i n : ℕ) → i < length xs → n ≤ slice_index xs i → raise_at xs i n ≡ xs
unfolding raise_at
raise_below [] i n within le = absurd (omega (arith, within))
raise_below (x ∷ xs) zero n within le = ap (λ y. y ∷ xs) (max-eq_left le)
raise_below (x ∷ xs) (suc i) n within le = ap (λ l. x ∷ l) (raise_below xs i n (omega (arith, within)) le)

pub raise_length : (xs : List ℕ) (i n : ℕ) → i < length xs → length (raise_at xs i n) ≡ length xs
unfolding raise_at
raise_length [] i n within = absurd (omega (arith, within))
raise_length (x ∷ xs) zero n within = refl
raise_length (x ∷ xs) (suc i) n within = ap suc (raise_length xs i n (omega (arith, within)))

pub raised_by_named : (now : ℕ) (untold : List ℕ) (looks : List Look) → raised_by untold (map mark_of (named untold now looks)) ≡ untold_after untold now looks
raised_by_named now untold looks = fold-map (λ before (mark : Mark). raise_at before mark.stamp mark.after) mark_of untold (named untold now looks)

pub raised_snoc : (untold : List ℕ) (marks : List Mark) (mark : Mark) → raised_by untold (marks ++ mark ∷ []) ≡ raise_at (raised_by untold marks) mark.stamp mark.after
raised_snoc untold marks mark = fold-append (λ before (m : Mark). raise_at before m.stamp m.after) untold marks (mark ∷ [])

-- a seat behind looks
pub only_notes : {now : ℕ} {untold : List ℕ} {entries : List Watched} {was is : Account} {answer : List ℕ} {marks : List Mark} {next : Option ℕ} → Scanned now untold entries was is answer marks next → OnlyNotes was is
only_notes {was = was} s = subst (OnlyNotes was) (sym s.seat_is) record { stamps = looks_stamps was s.looks; parts = looks_parts was s.looks; touched = looks_touched was s.looks; noted = looks_noted was s.looks }

pub only_notes_more : {a b c : Account} (stamp moment : ℕ) → OnlyNotes a b → c ≡ after_look b stamp moment → OnlyNotes a c
only_notes_more {a} {b} {c} stamp moment was is = subst (OnlyNotes a) (sym is) record {
  stamps = was.stamps;
  parts = was.parts;
  touched = was.touched;
  noted = λ other. omega (arith, was.noted other, raised_least b.noted (place stamp) moment (place other));
}

-- the loop goes on
pub scanned_step : {now : ℕ} {untold : List ℕ} {was is : Account} {answer : List ℕ} {marks : List Mark} {next : Option ℕ} (entries : List Watched) (i : ℕ) (d : Watched) (last : ℕ) {after : Account} {answers : List ℕ} {all_marks : List Mark} {later : Option ℕ}
    → Scanned now untold (take i entries) was is answer marks next → i < length entries
    → moment_of is.touched (get_or entries i d).stamp ≤ last → moment_of is.noted (get_or entries i d).stamp ≤ last → after ≡ after_look is (get_or entries i d).stamp last
    → answers ≡ answer ++ more_names untold now record { entry = get_or entries i d; last = last } → all_marks ≡ marks ++ more_marks untold now record { entry = get_or entries i d; last = last }
    → later ≡ earlier_of next (next_of now record { entry = get_or entries i d; last = last }) → Scanned now untold (take (i + 1) entries) was after answers all_marks later
scanned_step {now} {untold} {was} {is} {answer} {marks} {next} entries i d last {after} {answers} {all_marks} {later} s within own since seat names_is marks_is next_is =
    let entry : Watched = get_or entries i d in
    let x : Look = record { entry = entry; last = last } in
    let more = scanned_more now untold was (take i entries) is after answer marks next entry last s own since seat x refl in
    subst (λ l. Scanned now untold l was after answers all_marks later) (sym (take_more entries i d within))
    (subst (λ l. Scanned now untold (take i entries ++ entry ∷ []) was after l all_marks later) (sym names_is)
    (subst (λ l. Scanned now untold (take i entries ++ entry ∷ []) was after (answer ++ more_names untold now x) l later) (sym marks_is)
    (subst (λ o. Scanned now untold (take i entries ++ entry ∷ []) was after (answer ++ more_names untold now x) (marks ++ more_marks untold now x) o) (sym next_is) more)))

-- all marks are of stamps of the entries
pub marks_within : (n : ℕ) {now : ℕ} {untold : List ℕ} {entries : List Watched} {was is : Account} {answer : List ℕ} {marks : List Mark} {next : Option ℕ}
    → Scanned now untold entries was is answer marks next → All (λ (e : Watched). e.stamp < n) entries → All (λ (m : Mark). m.stamp < n) marks
marks_within n {now} {untold} s range =
    let M : List Mark → Type 0 = λ l. All (λ (m : Mark). m.stamp < n) l in
    let E : List Watched → Type 0 = λ l. All (λ (e : Watched). e.stamp < n) l in
    let L : Look → Type 0 = λ l. l.entry.stamp < n in
    subst M (sym s.marks_are) (All-map (λ (m : Mark). m.stamp < n) mark_of (named untold now s.looks) (All-filter (λ look. is_named untold now look) L s.looks (unmapped s.looks (subst E (sym s.entries_are) range))))
  where
    unmapped : (looks : List Look) → All (λ (e : Watched). e.stamp < n) (map (λ (l : Look). l.entry) looks) → All (λ (l : Look). l.entry.stamp < n) looks
    unmapped [] h = All-nil _
    unmapped (x ∷ xs) h = All-cons (λ (l : Look). l.entry.stamp < n) x xs
        (All-head (λ (e : Watched). e.stamp < n) x.entry (map (λ (l : Look). l.entry) xs) h)
        (unmapped xs (All-tail (λ (e : Watched). e.stamp < n) x.entry (map (λ (l : Look). l.entry) xs) h))
