-- An edit more, and an edit less.
use Rattle.std.proofs.Common.{◌≡◌, ℕ, suc, zero, ◌<◌, ◌≤◌, List, [], ◌∷◌, ◌++◌, length, get_or, set, refl, sym, ap, subst, ◌∙◌, arith}
use Rattle.std.specs.List.{insert, remove}
use Rattle.undo_vec.specs.declared.edit.Edit.{Edit}
use Rattle.undo_vec.specs.declared.edit.Edit.TheVariants as edits
use Rattle.undo_vec.specs.Undo.{back, backs, Fits, CanUndo}

-- the last edit of a log is undone first
pub backs_more : {T : Type 0} (log : List (Edit T)) (edit : Edit T) (items : List T) → backs (log ++ edit ∷ []) items ≡ backs log (back edit items)
backs_more [] edit items = refl
backs_more (first ∷ log) edit items = ap (back first) (backs_more log edit items)

fits_more : {T : Type 0} (edit : Edit T) (items : List T) (capacity more : ℕ) → capacity ≤ more → Fits edit items capacity → Fits edit items more
fits_more (edits.Inserted place) items capacity more le h = h
fits_more (edits.Replaced place item) items capacity more le h = h
fits_more (edits.Removed place item) items capacity more le h = (h.0, omega (arith, le, h.1))

-- within a greater capacity too
pub more_room : {T : Type 0} (log : List (Edit T)) (items : List T) (capacity more : ℕ) → capacity ≤ more → CanUndo log items capacity → CanUndo log items more
more_room [] items capacity more le h = tt
more_room (edit ∷ log) items capacity more le h = (more_room log items capacity more le h.0, fits_more edit (backs log items) capacity more le h.1)

-- an edit more
can_more : {T : Type 0} (log : List (Edit T)) (edit : Edit T) (items : List T) (capacity : ℕ) → CanUndo log (back edit items) capacity → Fits edit items capacity → CanUndo (log ++ edit ∷ []) items capacity
can_more [] edit items capacity h fits = (tt, fits)
can_more (first ∷ log) edit items capacity h fits =
    (can_more log edit items capacity h.0 fits, subst (λ xs. Fits first xs capacity) (sym (backs_more log edit items)) h.1)

pub logged : {T : Type 0} (log : List (Edit T)) (edit : Edit T) (old items : List T) (capacity more : ℕ) → CanUndo log old capacity → capacity ≤ more
    → back edit items ≡ old → Fits edit items more → CanUndo (log ++ edit ∷ []) items more
logged log edit old items capacity more h le is fits =
    can_more log edit items more (subst (λ xs. CanUndo log xs more) (sym is) (more_room log old capacity more le h)) fits

pub same_before : {T : Type 0} (log : List (Edit T)) (edit : Edit T) (old items : List T) → back edit items ≡ old → backs (log ++ edit ∷ []) items ≡ backs log old
same_before log edit old items is = backs_more log edit items ∙ ap (backs log) is

-- the last edit of a log can be undone, and then those before it
pub last_fits : {T : Type 0} (log : List (Edit T)) (edit : Edit T) (items : List T) (capacity : ℕ) → CanUndo (log ++ edit ∷ []) items capacity → Fits edit items capacity
last_fits [] edit items capacity h = h.1
last_fits (first ∷ log) edit items capacity h = last_fits log edit items capacity h.0

pub others_fit : {T : Type 0} (log : List (Edit T)) (edit : Edit T) (items : List T) (capacity : ℕ) → CanUndo (log ++ edit ∷ []) items capacity → CanUndo log (back edit items) capacity
others_fit [] edit items capacity h = tt
others_fit (first ∷ log) edit items capacity h =
    (others_fit log edit items capacity h.0, subst (λ xs. Fits first xs capacity) (backs_more log edit items) h.1)

-- what undoes the three edits
pub inserted_back : {T : Type 0} (items : List T) (place : ℕ) (item : T) → place ≤ length items → remove (insert items place item) place ≡ items
inserted_back items zero item le = refl
inserted_back [] (suc place) item le = absurd (omega (arith, le))
inserted_back (first ∷ items) (suc place) item le = ap (λ xs. first ∷ xs) (inserted_back items place item (omega (arith, le)))

pub replaced_back : {T : Type 0} (items : List T) (place : ℕ) (item former : T) → former ≡ get_or items place former → set (set items place item) place former ≡ items
replaced_back [] place item former is = refl
replaced_back (first ∷ items) zero item former is = ap (λ x. x ∷ items) is
replaced_back (first ∷ items) (suc place) item former is = ap (λ xs. first ∷ xs) (replaced_back items place item former is)

pub removed_back : {T : Type 0} (items : List T) (place : ℕ) (former : T) → place < length items → former ≡ get_or items place former → insert (remove items place) place former ≡ items
removed_back [] place former lt is = absurd (omega (arith, lt))
removed_back (first ∷ items) zero former lt is = ap (λ x. x ∷ items) is
removed_back (first ∷ items) (suc place) former lt is = ap (λ xs. first ∷ xs) (removed_back items place former (omega (arith, lt)) is)

pub length_inserted : {T : Type 0} (items : List T) (place : ℕ) (item : T) → place ≤ length items → place < length (insert items place item)
length_inserted items zero item le = omega arith
length_inserted [] (suc place) item le = absurd (omega (arith, le))
length_inserted (first ∷ items) (suc place) item le = let h = length_inserted items place item (omega (arith, le)) in omega (arith, h)

pub pushed_back : {T : Type 0} (items : List T) (item : T) → remove (items ++ item ∷ []) (length items) ≡ items
pushed_back [] item = refl
pushed_back (first ∷ items) item = ap (λ xs. first ∷ xs) (pushed_back items item)

pub length_pushed : {T : Type 0} (items : List T) (item : T) → length items < length (items ++ item ∷ [])
length_pushed [] item = omega arith
length_pushed (first ∷ items) item = let h = length_pushed items item in omega (arith, h)

-- the same where the log was computed
pub still_undone : {T : Type 0} (log now : List (Edit T)) (edit : Edit T) (old items : List T) (capacity more : ℕ) → CanUndo log old capacity → capacity ≤ more
    → back edit items ≡ old → Fits edit items more → now ≡ log ++ edit ∷ [] → CanUndo now items more
still_undone log now edit old items capacity more h le is fits now_is =
    subst (λ es. CanUndo es items more) (sym now_is) (logged log edit old items capacity more h le is fits)

pub before_stays : {T : Type 0} (log now : List (Edit T)) (edit : Edit T) (old items : List T) → back edit items ≡ old → now ≡ log ++ edit ∷ [] → backs now items ≡ backs log old
before_stays log now edit old items is now_is = ap (λ es. backs es items) now_is ∙ same_before log edit old items is

-- a log with its last edit, and without
pub one_fits : {T : Type 0} (log all : List (Edit T)) (edit : Edit T) (items : List T) (capacity : ℕ) → all ≡ log ++ edit ∷ [] → CanUndo all items capacity → Fits edit items capacity
one_fits log all edit items capacity is h = last_fits log edit items capacity (subst (λ es. CanUndo es items capacity) is h)

pub rest_fits : {T : Type 0} (log all : List (Edit T)) (edit : Edit T) (items undone : List T) (capacity more : ℕ) → all ≡ log ++ edit ∷ [] → CanUndo all items capacity
    → undone ≡ back edit items → capacity ≤ more → CanUndo log undone more
rest_fits log all edit items undone capacity more is h undone_is le =
    more_room log undone capacity more le (subst (λ xs. CanUndo log xs capacity) (sym undone_is) (others_fit log edit items capacity (subst (λ es. CanUndo es items capacity) is h)))

pub rest_back : {T : Type 0} (log all : List (Edit T)) (edit : Edit T) (items undone : List T) → all ≡ log ++ edit ∷ [] → undone ≡ back edit items → backs log undone ≡ backs all items
rest_back log all edit items undone is undone_is = ap (backs log) undone_is ∙ sym (backs_more log edit items) ∙ ap (λ es. backs es items) (sym is)
