-- What a seat notes of the counters.
use Rattle.std.proofs.Common.{◌≡◌, ℕ, zero, suc, ◌+◌, ◌<◌, ◌≤◌, List, [], ◌∷◌, ◌++◌, length, refl, ap, sym, subst, ◌∙◌, arith, length-append}
use mathlib.Core.Logic.{dite}
use native.Mathlib.Decide.{ℕ_discrete}
use Rattle.counter_bank.proofs.Slots.{notes_one, none_falls}
use Rattle.counter_bank.specs.Account.{Account, NotesAt, after_note}
use Rattle.counter_bank.specs.Figures.{packets_of, bytes_of, AtMost}
use Rattle.snap_worker.specs.Sums.{AreSums, NoMore, NotesOwn, SeatLooks, figures_in, in_words, noted_by}
use Rattle.snap_worker.proofs.Counted.{counts_hits}
use Rattle.snap_worker.specs.Counting.{after_mark, after_packet}
use Rattle.snap_worker.specs.Laws.{added_by}
use Rattle.p4_types.specs.declared.records.HitMark.{HitMark}
use Rattle.p4_types.specs.declared.records.HitMark.TheVariants as marks
use Rattle.std.specs.Prelude.{Some, None}
use Rattle.switch_spec.specs.Counts.{Figures, figures_after}

-- ---- Figures

pub none_more : (g : Figures) → NoMore g g
none_more g slot = (omega arith, omega arith)

pub no_more_trans : (f g h : Figures) → NoMore f g → NoMore g h → NoMore f h
no_more_trans f g h a b slot = (let x = (a slot).0 in let y = (b slot).0 in omega (arith, x, y), let x = (a slot).1 in let y = (b slot).1 in omega (arith, x, y))

pub no_more_as : (f g h : Figures) → NoMore f g → ((slot : ℕ) → h slot ≡ g slot) → NoMore f h
no_more_as f g h a is slot = (
  let x = (a slot).0 in let y = ap (λ (p : ℕ × ℕ). p.0) (is slot) in omega (arith, x, y),
  let x = (a slot).1 in let y = ap (λ (p : ℕ × ℕ). p.1) (is slot) in omega (arith, x, y),
)

-- ---- One slot

pairs : (x y : ℕ × ℕ) → x.0 ≡ y.0 → x.1 ≡ y.1 → x ≡ y
pairs x y first second = ap (λ n. (n, x.1)) first ∙ ap (λ n. (y.0, n)) second

pub noted_elsewhere : (before after : Account) (slot other : ℕ) → NotesAt before after slot → (other ≡ slot → ⊥) → noted_by after other ≡ noted_by before other
noted_elsewhere before after slot other h ne =
    let packets : ℕ = packets_of after.noted slot in
    let bytes : ℕ = bytes_of after.noted slot in
    let law = (notes_one before.noted slot packets bytes).2 other ne in
    ap (λ (a : Account). noted_by a other) h ∙ pairs (noted_by (after_note before slot packets bytes) other) (noted_by before other) law.0 law.1

noted_rise : (before after : Account) (slot : ℕ) → NotesAt before after slot → NoMore (noted_by before) (noted_by after)
noted_rise before after slot h at =
    let packets : ℕ = packets_of after.noted slot in
    let bytes : ℕ = bytes_of after.noted slot in
    let law = (none_falls before.noted before.noted slot packets bytes at).1 in
    let P : Account → Type 0 = λ a. ((noted_by before at).0 ≤ (noted_by a at).0) × ((noted_by before at).1 ≤ (noted_by a at).1) in
    subst P (sym h) law

-- a look at one slot is a look
pub seat_looks_at : (before after : Account) (slot : ℕ) → NotesAt before after slot → SeatLooks before after
seat_looks_at before after slot h = record {
  bank = ap (λ (a : Account). a.bank) h;
  parts = ap (λ (a : Account). a.parts) h;
  added = ap (λ (a : Account). a.added) h;
  more = noted_rise before after slot h;
}

pub seat_looks_not : (seat : Account) → SeatLooks seat seat
seat_looks_not seat = record { bank = refl; parts = refl; added = refl; more = none_more (noted_by seat) }

pub seat_looks_on : (a b c : Account) → SeatLooks a b → SeatLooks b c → SeatLooks a c
seat_looks_on a b c x y = record {
  bank = y.bank ∙ x.bank;
  parts = y.parts ∙ x.parts;
  added = y.added ∙ x.added;
  more = no_more_trans (noted_by a) (noted_by b) (noted_by c) x.more y.more;
}

-- what was noted at least, is at least what was added, which is as it was
pub own_at : (before after : Account) (slot : ℕ) → NotesAt before after slot → AtMost before.added after.noted slot → AtMost after.added after.noted slot
own_at before after slot h own = subst (λ (l : List ℕ). AtMost l after.noted slot) (sym (ap (λ (a : Account). a.added) h)) own

-- ---- The figures of the first slots

front_of : (xs : List (ℕ × ℕ)) (y : ℕ × ℕ) (i : ℕ) → i < length xs → figures_in (xs ++ y ∷ []) i ≡ figures_in xs i
front_of [] y i lt = absurd (omega (arith, lt))
front_of (x ∷ xs) y zero lt = refl
front_of (x ∷ xs) y (suc i) lt = front_of xs y i (omega (arith, lt))

last_of : (xs : List (ℕ × ℕ)) (y : ℕ × ℕ) → figures_in (xs ++ y ∷ []) (length xs) ≡ y
last_of [] y = refl
last_of (x ∷ xs) y = last_of xs y

pub no_sums : (g : Figures) → AreSums [] g
no_sums g slot lt = absurd (omega (arith, lt))

pub no_own : (seat : Account) → NotesOwn 0 seat
no_own seat slot lt = absurd (omega (arith, lt))

at_most_less : (i n : ℕ) → i < n + 1 → (i ≡ n → ⊥) → i < n
at_most_less zero zero lt ne = absurd (ne refl)
at_most_less zero (suc n) lt ne = omega arith
at_most_less (suc i) zero lt ne = absurd (omega (arith, lt))
at_most_less (suc i) (suc n) lt ne = (let r = at_most_less i n (omega (arith, lt)) (λ e. ne (ap suc e)) in omega (arith, r))

pub sums_more : (figures : List (ℕ × ℕ)) (slot : ℕ) (before after : Figures) → AreSums figures before → length figures ≡ slot → ((other : ℕ) → (other ≡ slot → ⊥) → after other ≡ before other)
    → AreSums (figures ++ in_words (after slot) ∷ []) after
sums_more figures slot before after h size others i lt =
    let more : List (ℕ × ℕ) = figures ++ in_words (after slot) ∷ [] in
    dite (ℕ_discrete i slot)
    (λ e. subst (λ (k : ℕ). figures_in more k ≡ in_words (after k)) (sym e) (subst (λ (k : ℕ). figures_in more k ≡ in_words (after slot)) size (last_of figures (in_words (after slot)))))
    (λ ne.
    let below : i < slot + 1 = omega (arith, lt, length-append figures (in_words (after slot) ∷ []), size) in
    let within : i < length figures = (let r = at_most_less i slot below ne in omega (arith, r, size)) in
    front_of figures (in_words (after slot)) i within ∙ h i within ∙ ap in_words (sym (others i ne)))

-- what a seat has noted at a slot, as figures
abbrev IsOwnAt : List ℕ → ℕ × ℕ → ℕ → Type 0
IsOwnAt added noted slot = (packets_of added slot ≤ noted.0) × (bytes_of added slot ≤ noted.1)

-- once one more slot was looked at
pub own_more : (before after : Account) (slot : ℕ) → NotesOwn slot before → after.added ≡ before.added → ((other : ℕ) → (other ≡ slot → ⊥) → noted_by after other ≡ noted_by before other)
    → AtMost after.added after.noted slot → NotesOwn (slot + 1) after
own_more before after slot h added others own i lt =
    dite (ℕ_discrete i slot)
    (λ e. subst (λ (k : ℕ). AtMost after.added after.noted k) (sym e) own)
    (λ ne.
    let within : i < slot = at_most_less i slot lt ne in
    let there : IsOwnAt before.added (noted_by after i) i = subst (λ (f : ℕ × ℕ). IsOwnAt before.added f i) (sym (others i ne)) (h i within) in
    subst (λ (l : List ℕ). IsOwnAt l (noted_by after i) i) (sym added) there)

-- ---- A packet

abbrev as_noted : Account → Account
as_noted seat = record seat { added = seat.noted }

mark_noted : (bytes : ℕ) (seat : Account) (hit : HitMark) → as_noted (after_mark bytes seat hit) ≡ after_mark bytes (as_noted seat) hit
mark_noted bytes seat (marks.Entry table seq None) = refl
mark_noted bytes seat (marks.Entry table seq (Some slot)) = refl
mark_noted bytes seat (marks.Cell slot) = refl

packet_noted : (bytes : ℕ) (hits : List HitMark) (seat : Account) → as_noted (after_packet bytes hits seat) ≡ after_packet bytes hits (as_noted seat)
packet_noted bytes [] seat = refl
packet_noted bytes (hit ∷ hits) seat = packet_noted bytes hits (after_mark bytes seat hit) ∙ ap (after_packet bytes hits) (mark_noted bytes seat hit)

-- what the seat of a lane notes behind a packet is what it noted before with the packet's hits
pub counts_noted : (bytes : ℕ) (hits : List HitMark) (seat : Account) (slot : ℕ) → noted_by (after_packet bytes hits seat) slot ≡ figures_after (noted_by seat) hits bytes slot
counts_noted bytes hits seat slot = ap (λ (a : Account). added_by a slot) (packet_noted bytes hits seat) ∙ (counts_hits bytes hits (as_noted seat)).added slot
