-- What rows hold of options, as uses are added.
use Rattle.std.proofs.Common.{◌≡◌, ◌∙◌, Bool, cond, true, false, refl, sym, ap, true≢false, List, [], ◌∷◌, ◌++◌, ◌&&◌, ◌||◌, Option, Some, None, append-nil}
use Rattle.std.specs.Prelude.{not}
use Rattle.std.specs.List.{find, fold, list_all}
use Rattle.std.specs.Str.{bytes_eq}
use Rattle.std.proofs.lemmas.Slice.Eq.{bytes_eq-Decides}
use Rattle.std.specs.Option.{is_some}
use Rattle.clap.specs.Walk.{Row, Rule, Text, at_row, default_rows, has_row, more_values, reading_by, with_default, with_values, without}
use Rattle.clap.specs.declared.builder.value_parser.Reading.TheVariants.{AsWritten}
use Rattle.clap.specs.declared.parser.matches.ValueSource.{ValueSource}
use Rattle.clap.specs.declared.parser.matches.ValueSource.TheVariants.{DefaultValue, CommandLine}

pub some≢none : {X : Type 0} (x : X) → Some x ≡ None → ⊥
some≢none x e = true≢false (ap is_some e)

-- the row of an option
abbrev pub entry : Text → List Row → Option Row
entry id rows = find (λ r. bytes_eq r.id id) rows

-- a row with one word
abbrev pub row : Text → ValueSource → Text → Row
row id source word = record { id = id; values = word ∷ []; count = None; source = Some source; reading = AsWritten }

-- where an option has no row, a new one joins at the end
pub absent : (id : Text) (change : Row → List Row) (missing rows : List Row) → entry id rows ≡ None → at_row id change missing rows ≡ rows ++ missing
absent id change missing [] none = refl
absent id change missing (r ∷ rs) none = go (bytes_eq r.id id) none (absent id change missing rs)
  where
    go : (b : Bool) → cond b (Some r) (entry id rs) ≡ None → (entry id rs ≡ None → at_row id change missing rs ≡ rs ++ missing)
        → cond b (change r ++ rs) (r ∷ at_row id change missing rs) ≡ (r ∷ rs) ++ missing
    go true e h = absurd (some≢none r e)
    go false e h = ap (λ l. r ∷ l) (h e)

pub no_row : (id : Text) (rows : List Row) → entry id rows ≡ None → has_row id rows ≡ false
no_row id [] none = refl
no_row id (r ∷ rs) none = go (bytes_eq r.id id) none (no_row id rs)
  where
    go : (b : Bool) → cond b (Some r) (entry id rs) ≡ None → (entry id rs ≡ None → has_row id rs ≡ false) → (b || has_row id rs) ≡ false
    go true e h = absurd (some≢none r e)
    go false e h = h e

pub some_row : (id : Text) (rows : List Row) (x : Row) → entry id rows ≡ Some x → has_row id rows ≡ true
some_row id [] x some = absurd (some≢none x (sym some))
some_row id (r ∷ rs) x some = go (bytes_eq r.id id) some (some_row id rs x)
  where
    go : (b : Bool) → cond b (Some r) (entry id rs) ≡ Some x → (entry id rs ≡ Some x → has_row id rs ≡ true) → (b || has_row id rs) ≡ true
    go true e h = refl
    go false e h = h e

none_where : (id : Text) (rows : List Row) → has_row id rows ≡ false → entry id rows ≡ None
none_where id rows e = go (entry id rows) refl
  where
    go : (o : Option Row) → entry id rows ≡ o → o ≡ None
    go None is = refl
    go (Some r) is = absurd (true≢false (sym (some_row id rows r is) ∙ e))

-- a row at the end is no other option's
pub other_row : (id : Text) (y : Row) (rows : List Row) → bytes_eq y.id id ≡ false → entry id (rows ++ y ∷ []) ≡ entry id rows
other_row id y [] e = rw e refl
other_row id y (r ∷ rs) e = ap (λ o. cond (bytes_eq r.id id) (Some r) o) (other_row id y rs e)

-- a row at the end is that of its option
pub new_row : (id : Text) (y : Row) (rows : List Row) → entry id rows ≡ None → bytes_eq y.id id ≡ true → entry id (rows ++ y ∷ []) ≡ Some y
new_row id y [] none e = rw e refl
new_row id y (r ∷ rs) none e = go (bytes_eq r.id id) none (λ n. new_row id y rs n e)
  where
    go : (b : Bool) → cond b (Some r) (entry id rs) ≡ None → (entry id rs ≡ None → entry id (rs ++ y ∷ []) ≡ Some y) → cond b (Some r) (entry id (rs ++ y ∷ [])) ≡ Some y
    go true n h = absurd (some≢none r n)
    go false n h = h n

-- the rows after the first use of an option
pub used_once : (id word : Text) (rows : List Row) → entry id rows ≡ None
    → with_values id AsWritten CommandLine (word ∷ []) (without id rows) ≡ rows ++ row id CommandLine word ∷ []
used_once id word rows none =
    ap (with_values id AsWritten CommandLine (word ∷ [])) (absent id (λ _. []) [] rows none ∙ append-nil rows)
    ∙ absent id (more_values CommandLine (word ∷ [])) (row id CommandLine word ∷ []) rows none

-- ---- defaults

abbrev has_no : List Text → Bool
has_no [] = true
has_no (word ∷ words) = false

-- an option without a default gets no row
no_default : (a : Rule) (rows : List Row) → has_no a.defaults ≡ true → with_default rows a ≡ rows
no_default a rows e = go (has_row a.id rows) a.defaults e
  where
    go : (b : Bool) (values : List Text) → has_no values ≡ true → cond b rows (default_rows a.id (reading_by a) values rows) ≡ rows
    go true values e = refl
    go false [] e = refl
    go false (v ∷ vs) e = absurd (true≢false (sym e))

-- another option's default is no row of this one
other_default : (id : Text) (a : Rule) (rows : List Row) → bytes_eq a.id id ≡ false → entry id (with_default rows a) ≡ entry id rows
other_default id a rows e = go (has_row a.id rows) refl a.defaults
  where
    go : (b : Bool) → has_row a.id rows ≡ b → (values : List Text) → entry id (cond b rows (default_rows a.id (reading_by a) values rows)) ≡ entry id rows
    go true is values = refl
    go false is [] = refl
    go false is (v ∷ vs) = ap (entry id) (absent a.id (more_values DefaultValue (v ∷ vs)) _ rows (none_where a.id rows is)) ∙ other_row id _ rows e

-- this option has no default, or it is another
abbrev pub is_other : Text → Rule → Bool
is_other id a = has_no a.defaults || not (bytes_eq a.id id)

pub kept_default : (id : Text) (a : Rule) (rows : List Row) → is_other id a ≡ true → entry id (with_default rows a) ≡ entry id rows
kept_default id a rows e = go (has_no a.defaults) refl (bytes_eq a.id id) refl e
  where
    go : (b : Bool) → has_no a.defaults ≡ b → (c : Bool) → bytes_eq a.id id ≡ c → (b || not c) ≡ true → entry id (with_default rows a) ≡ entry id rows
    go true empty c same h = ap (entry id) (no_default a rows empty)
    go false empty true same h = absurd (true≢false (sym h))
    go false empty false same h = other_default id a rows same

-- an option's row stays where others get their defaults
pub kept_defaults : (id : Text) (rules : List Rule) (rows : List Row) → list_all (is_other id) rules ≡ true → entry id (fold with_default rows rules) ≡ entry id rows
kept_defaults id [] rows e = refl
kept_defaults id (a ∷ rest) rows e = go (is_other id a) refl e (kept_defaults id rest (with_default rows a))
  where
    go : (b : Bool) → is_other id a ≡ b → (b && list_all (is_other id) rest) ≡ true
        → (list_all (is_other id) rest ≡ true → entry id (fold with_default (with_default rows a) rest) ≡ entry id (with_default rows a))
        → entry id (fold with_default (with_default rows a) rest) ≡ entry id rows
    go true is h k = k h ∙ kept_default id a rows is
    go false is h k = absurd (true≢false (sym h))

-- an option that was used keeps its row
pub used_default : (id : Text) (a : Rule) (rows : List Row) (x : Row) → a.id ≡ id → entry id rows ≡ Some x → entry id (with_default rows a) ≡ Some x
used_default id a rows x same some =
    let has : has_row a.id rows ≡ true = some_row a.id rows x (ap (λ i. entry i rows) same ∙ some) in
    ap (λ b. entry id (cond b rows (default_rows a.id (reading_by a) a.defaults rows))) has ∙ some

-- an option that was not used has its default
pub unused_default : (id word : Text) (a : Rule) (rows : List Row) → a.id ≡ id → reading_by a ≡ AsWritten → a.defaults ≡ word ∷ [] → entry id rows ≡ None
    → entry id (with_default rows a) ≡ Some (row id DefaultValue word)
unused_default id word a rows same reads is none =
    let no : has_row a.id rows ≡ false = no_row a.id rows (ap (λ i. entry i rows) same ∙ none) in
    ap (λ b. entry id (cond b rows (default_rows a.id (reading_by a) a.defaults rows))) no
    ∙ ap (λ values. entry id (default_rows a.id (reading_by a) values rows)) is
    ∙ ap (λ i. entry id (default_rows i (reading_by a) (word ∷ []) rows)) same
    ∙ ap (λ how. entry id (default_rows id how (word ∷ []) rows)) reads
    ∙ ap (entry id) (absent id (more_values DefaultValue (word ∷ [])) (row id DefaultValue word ∷ []) rows none)
    ∙ new_row id (row id DefaultValue word) rows none ((bytes_eq-Decides id id).1 refl)
