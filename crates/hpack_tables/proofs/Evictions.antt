-- The entries that fit.
use Rattle.std.proofs.Common.{◌≡◌, ℕ, ◌-◌, ◌<◌, ◌≤◌, List, [], ◌∷◌, ◌++◌, refl, sym, ap, ◌∙◌, arith, inl, inr}
use Rattle.std.specs.Prelude.{sum_by}
use Rattle.std.proofs.lemmas.List.Sums.{sum_by-cons, sum_by_push}
use Rattle.std.proofs.lemmas.Bool.{cases_lt, lt-ltb, le-ltb}
use Rattle.hpack_tables.specs.declared.header.Header.{Header}
use Rattle.hpack_tables.specs.Tables.{entry_size, fitting}

-- all of them
pub fit_all : (room : ℕ) (entries : List Header) → sum_by entry_size entries ≤ room → fitting room entries ≡ entries
unfolding fitting
fit_all room [] le = refl
fit_all room (entry ∷ entries) le =
    let parts = sum_by-cons entry_size entry entries in
    rw (le-ltb room (entry_size entry) (omega (arith, parts)), fit_all (room - entry_size entry) entries (omega (arith, parts))) refl

-- not the oldest
pub fit_but_last : (room : ℕ) (entries : List Header) (oldest : Header) → room < sum_by entry_size (entries ++ oldest ∷ []) → fitting room (entries ++ oldest ∷ []) ≡ fitting room entries
unfolding fitting
fit_but_last room [] oldest lt = rw (lt-ltb room (entry_size oldest) (omega (arith, sum_by-cons entry_size oldest []))) refl
fit_but_last room (entry ∷ entries) oldest lt =
    elim (cases_lt room (entry_size entry)) [
      | inl small ↦ rw (lt-ltb room (entry_size entry) small) refl
      | inr le ↦ rw (le-ltb room (entry_size entry) le, fit_but_last (room - entry_size entry) entries oldest (omega (arith, sum_by-cons entry_size entry (entries ++ oldest ∷ [])))) refl
    ]

-- the entries that are left while the oldest go, and their size
pub record AreLeft (room : ℕ) (old entries : List Header) (size : ℕ) : Type 0 where
  pub same : fitting room entries ≡ fitting room old
  pub size_is : size ≡ sum_by entry_size entries

pub one_goes : (room : ℕ) (old entries : List Header) (size : ℕ) (oldest : Header) (rest : List Header) (left : ℕ) → room < size → entries ≡ rest ++ oldest ∷ [] → left ≡ size - entry_size oldest → AreLeft room old entries size → AreLeft room old rest left
one_goes room old entries size oldest rest left lt e el so_far =
    let now = rw e at so_far in
    record {
      same = sym (fit_but_last room rest oldest (omega (arith, now.size_is))) ∙ now.same;
      size_is = omega (arith, el, now.size_is, sum_by_push entry_size rest oldest);
    }

pub is_part : (room : ℕ) (old entries : List Header) (size : ℕ) (oldest : Header) (rest : List Header) → entries ≡ rest ++ oldest ∷ [] → AreLeft room old entries size → entry_size oldest ≤ size
is_part room old entries size oldest rest e so_far =
    let now = rw e at so_far in
    omega (arith, now.size_is, sum_by_push entry_size rest oldest)

pub all_fit : (room : ℕ) (old entries : List Header) (size : ℕ) → size ≤ room → AreLeft room old entries size → entries ≡ fitting room old
all_fit room old entries size le so_far = sym (fit_all room entries (omega (arith, so_far.size_is))) ∙ so_far.same

-- none is left, and that fits
pub none_left : (room : ℕ) (old entries : List Header) (size : ℕ) → entries ≡ [] → AreLeft room old entries size → size ≤ room
none_left room old entries size e so_far = omega (arith, so_far.size_is, ap (sum_by entry_size) e)

-- A new entry, and those that it leaves room for. Or none, where it is too large.
pub fit_new : (room : ℕ) (entry : Header) (entries : List Header) → entry_size entry ≤ room → fitting room (entry ∷ entries) ≡ entry ∷ fitting (room - entry_size entry) entries
unfolding fitting
fit_new room entry entries le = rw (le-ltb room (entry_size entry) le) refl

pub fit_none : (room : ℕ) (entry : Header) (entries : List Header) → room < entry_size entry → fitting room (entry ∷ entries) ≡ []
unfolding fitting
fit_none room entry entries lt = rw (lt-ltb room (entry_size entry) lt) refl
