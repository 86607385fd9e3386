-- A slot that was drawn stays with what drew it, and a number with its slot.
use Rattle.std.proofs.Common.{◌≡◌, ℕ, zero, suc, ◌+◌, ◌<◌, ◌≤◌, cond, eqb, List, [], ◌∷◌, ◌++◌, length, get_or, Option, Some, None, IfSome, refl, sym, ◌∙◌, subst, ap, arith}
use Rattle.std.specs.List.{Contains, sum_by, filter_map}
use Rattle.std.specs.Prelude.{take}
use Rattle.std.proofs.lemmas.Bool.Decides.{nat_tests}
use Rattle.std.proofs.lemmas.List.Elements.{All-contains, All-weaker, All-contains_itself, Contains-append_left, Contains-append_right}
use Rattle.std.proofs.lemmas.List.Sums.{sum_by-append, sum_by-cons, get_or-le-sum_by}
use Rattle.p4_types.specs.declared.table.Entry.{Entry}
use Rattle.plane_spec.specs.Config.{Event, cells_in}
use Rattle.plane_spec.specs.Legal.{Legal}
use Rattle.plane_spec.specs.PlaneLaws.{numbers_from, numbers_of, slots_of}
use Rattle.plane_spec.specs.Planes.{ControlState, Plane, apply, applied}
use Rattle.plane_spec.specs.SlotLaws.{HasCell, TellAlike, SlotsStay}
use Rattle.plane_spec.proofs.Drawn.{times, drawn, slot_times, times-append, times-numbers, times-slots, times-numbers_from, times-itself, was_drawn}
use Rattle.plane_spec.proofs.KeptPlanes.{IsKept}
use Rattle.plane_spec.proofs.Lasting.{Holds, Hold, events_hold}
use Rattle.plane_spec.proofs.SoundPlanes.{event_kept, first_kept}

-- ---- The one entry of a list that counts

below_one : (g : Entry → ℕ) (entries : List Entry) (f : Entry) → Contains entries f → g f ≤ sum_by g entries
below_one g entries f c = subst (λ x. g x ≤ sum_by g entries) c.2 (get_or-le-sum_by g entries c.0 f c.1)

one_at : (g : Entry → ℕ) (entries : List Entry) (i j : ℕ) (e f : Entry) → i < length entries → j < length entries → get_or entries i e ≡ e → get_or entries j f ≡ f
    → sum_by g entries ≤ 1 → 1 ≤ g e → 1 ≤ g f → e ≡ f
one_at g [] i j e f i_in j_in at there few one other = absurd (omega arith)
one_at g (x ∷ entries) zero zero e f i_in j_in at there few one other = sym at ∙ there
one_at g (x ∷ entries) zero (suc j) e f i_in j_in at there few one other =
    let in_range : j < length entries = omega arith in
    absurd (omega (arith, sum_by-cons g x entries, below_one g entries f (j, in_range, there), ap g at))
one_at g (x ∷ entries) (suc i) zero e f i_in j_in at there few one other =
    let in_range : i < length entries = omega arith in
    absurd (omega (arith, sum_by-cons g x entries, below_one g entries e (i, in_range, at), ap g there))
one_at g (x ∷ entries) (suc i) (suc j) e f i_in j_in at there few one other =
    one_at g entries i j e f (omega arith) (omega arith) at there (omega (arith, sum_by-cons g x entries)) one other

-- where all together count once at most, two that count are one
one_of : (g : Entry → ℕ) (entries : List Entry) (e f : Entry) → Contains entries e → Contains entries f → sum_by g entries ≤ 1 → 1 ≤ g e → 1 ≤ g f → e ≡ f
one_of g entries e f c d few one other = one_at g entries c.0 d.0 e f c.1 d.1 c.2 d.2 few one other

-- ---- What both planes have

abbrev has_number : ℕ → Entry → ℕ
has_number x entry = cond (eqb x entry.seq) 1 0

abbrev has_slot : ℕ → Entry → ℕ
has_slot x entry = slot_times x entry.slot

abbrev entries_of : Option Plane → List Entry
entries_of None = []
entries_of (Some plane) = plane.entries

-- how often a slot is that of a cell
abbrev cell_times : ℕ → Option Plane → ℕ
cell_times x None = 0
cell_times x (Some plane) = times x (numbers_from (cells_in plane.config) plane.cells)

-- the entries of both planes
abbrev all_of : ControlState → List Entry
all_of c = entries_of c.active ++ entries_of c.staged

numbers_in : (x : ℕ) (o : Option Plane) → times x (numbers_of o) ≡ sum_by (has_number x) (entries_of o)
numbers_in x None = refl
numbers_in x (Some plane) = times-numbers x plane.entries

slots_in : (x : ℕ) (o : Option Plane) → times x (slots_of o) ≡ sum_by (has_slot x) (entries_of o) + cell_times x o
slots_in x None = omega arith
slots_in x (Some plane) =
    omega (arith, times-append x (filter_map (λ (e : Entry). e.slot) plane.entries) (numbers_from (cells_in plane.config) plane.cells), times-slots x plane.entries)

drawn_once : (next x : ℕ) → drawn next x ≤ 1
drawn_once next x = grind (arith, nat_tests)

numbers_once : (c : ControlState) → IsKept c → (x : ℕ) → sum_by (has_number x) (all_of c) ≤ drawn c.next x
numbers_once c k x = omega (arith, k.numbers x, numbers_in x c.active, numbers_in x c.staged, sum_by-append (has_number x) (entries_of c.active) (entries_of c.staged))

slots_once : (c : ControlState) → IsKept c → (x : ℕ) → sum_by (has_slot x) (all_of c) + (cell_times x c.active + cell_times x c.staged) ≤ drawn c.next_slot x
slots_once c k x = omega (arith, k.slots x, slots_in x c.active, slots_in x c.staged, sum_by-append (has_slot x) (entries_of c.active) (entries_of c.staged))

cell_counts : (first count x : ℕ) → first ≤ x → x < first + count → times x (numbers_from count first) ≡ 1
cell_counts first count x low high =
    let sum = times-numbers_from x count first in
    let before : drawn first x ≡ 0 = grind (arith, nat_tests) in
    let behind : drawn (first + count) x ≡ 1 = grind (arith, nat_tests) in
    omega arith

slot_counts : (x : ℕ) (entry : Entry) → entry.slot ≡ Some x → has_slot x entry ≡ 1
slot_counts x entry is = ap (slot_times x) is ∙ times-itself x

number_counts : (x : ℕ) (entry : Entry) → entry.seq ≡ x → has_number x entry ≡ 1
number_counts x entry is = ap (λ n. cond {A = ℕ} (eqb x n) 1 0) is ∙ times-itself x

-- ---- What an entry, and what a cell, tells of all

-- the other has the slot just where it has the number
record OfEntry (e : Entry) (seq : ℕ) (slot : Option ℕ) : Type 0 where
  by_number : seq ≡ e.seq → slot ≡ e.slot
  by_slot : (x : ℕ) → e.slot ≡ Some x → slot ≡ Some x → seq ≡ e.seq

-- its slot is none of these
abbrev NotAmong : Entry → ℕ → ℕ → Type 0
NotAmong e first count = (x : ℕ) → e.slot ≡ Some x → first ≤ x → x < first + count → ⊥

-- a slot of a cell is no entry's
abbrev NotOf : ℕ → ℕ → Option ℕ → Type 0
NotOf x seq slot = slot ≡ Some x → ⊥

abbrev Anything : ℕ → ℕ → Type 0
Anything first count = Unit {0}

both_hold : (P : ℕ → Option ℕ → Type 0) (Q : ℕ → ℕ → Type 0) (o : Option Plane) → ((f : Entry) → Contains (entries_of o) f → P f.seq f.slot)
    → ((plane : Plane) → o ≡ Some plane → Q plane.cells (cells_in plane.config)) → IfSome o (Holds P Q)
both_hold P Q None entries cells = tt
both_hold P Q (Some plane) entries cells = record {
  entries = All-weaker (Contains plane.entries) (λ e. P e.seq e.slot) entries plane.entries (All-contains_itself plane.entries);
  cells = cells plane refl;
}

cells_at : (x : ℕ) (o : Option Plane) (plane : Plane) → o ≡ Some plane → cell_times x o ≡ times x (numbers_from (cells_in plane.config) plane.cells)
cells_at x o plane is = ap (cell_times x) is

entry_holds : (c : ControlState) (e : Entry) → IsKept c → Contains (all_of c) e → Hold (OfEntry e) (NotAmong e) c
entry_holds c e k there =
    let number : 1 ≤ has_number e.seq e = omega (arith, number_counts e.seq e refl) in
    let seq_drawn : e.seq < c.next = was_drawn c.next e.seq (omega (arith, numbers_once c k e.seq, below_one (has_number e.seq) (all_of c) e there)) in
    let drawn_slot : (x : ℕ) → e.slot ≡ Some x → x < c.next_slot = λ x is.
    was_drawn c.next_slot x (omega (arith, slots_once c k x, below_one (has_slot x) (all_of c) e there, slot_counts x e is)) in
    let no_cell : (x : ℕ) → e.slot ≡ Some x → cell_times x c.active + cell_times x c.staged ≤ 0 = λ x is.
    omega (arith, slots_once c k x, drawn_once c.next_slot x, below_one (has_slot x) (all_of c) e there, slot_counts x e is) in
    let same_number : (f : Entry) → Contains (all_of c) f → f.seq ≡ e.seq → e ≡ f = λ f at is.
    one_of (has_number e.seq) (all_of c) e f there at (omega (arith, numbers_once c k e.seq, drawn_once c.next e.seq)) number (omega (arith, number_counts e.seq f is)) in
    let same_slot : (f : Entry) (x : ℕ) → Contains (all_of c) f → e.slot ≡ Some x → f.slot ≡ Some x → e ≡ f = λ f x at own other.
    one_of (has_slot x) (all_of c) e f there at (omega (arith, slots_once c k x, drawn_once c.next_slot x)) (omega (arith, slot_counts x e own)) (omega (arith, slot_counts x f other)) in
    let each : (f : Entry) → Contains (all_of c) f → OfEntry e f.seq f.slot = λ f at. record {
      by_number = λ is. ap (λ (g : Entry). g.slot) (sym (same_number f at is));
      by_slot = λ x own other. ap (λ (g : Entry). g.seq) (sym (same_slot f x at own other));
    } in record {
      in_active = both_hold (OfEntry e) (NotAmong e) c.active (λ f at. each f (Contains-append_left (entries_of c.active) (entries_of c.staged) f at))
          (λ plane is x own low high. omega (arith, no_cell x own, cells_at x c.active plane is, cell_counts plane.cells (cells_in plane.config) x low high));
      in_staged = both_hold (OfEntry e) (NotAmong e) c.staged (λ f at. each f (Contains-append_right (entries_of c.active) (entries_of c.staged) f at))
          (λ plane is x own low high. omega (arith, no_cell x own, cells_at x c.staged plane is, cell_counts plane.cells (cells_in plane.config) x low high));
      fresh = record {
        plain = λ seq le. record { by_number = λ is. absurd (omega arith); by_slot = λ x own other. absurd (cc) };
        counted = λ seq slot le slot_le. record {
          by_number = λ is. absurd (omega arith);
          by_slot = λ x own other. let same : slot ≡ x = cc in absurd (omega (arith, drawn_slot x own));
        };
        cells = λ first count le x own low high. omega (arith, drawn_slot x own);
      };
    }

cell_holds : (c : ControlState) (plane : Plane) (x : ℕ) → IsKept c → c.active ≡ Some plane → HasCell plane x → Hold (NotOf x) Anything c
cell_holds c plane x k is cell =
    let one : cell_times x c.active ≡ 1 = cells_at x c.active plane is ∙ cell_counts plane.cells (cells_in plane.config) x cell.0 cell.1 in
    let slot_drawn : x < c.next_slot = was_drawn c.next_slot x (omega (arith, slots_once c k x)) in
    let each : (f : Entry) → Contains (all_of c) f → NotOf x f.seq f.slot = λ f at own.
    omega (arith, slots_once c k x, drawn_once c.next_slot x, below_one (has_slot x) (all_of c) f at, slot_counts x f own) in record {
      in_active = both_hold (NotOf x) Anything c.active (λ f at. each f (Contains-append_left (entries_of c.active) (entries_of c.staged) f at)) (λ other at. tt);
      in_staged = both_hold (NotOf x) Anything c.staged (λ f at. each f (Contains-append_right (entries_of c.active) (entries_of c.staged) f at)) (λ other at. tt);
      fresh = record {
        plain = λ seq le own. absurd (cc);
        counted = λ seq slot le slot_le own. let same : slot ≡ x = cc in omega arith;
        cells = λ first count le. tt;
      };
    }

-- ---- The law

plane_holds : (P : ℕ → Option ℕ → Type 0) (Q : ℕ → ℕ → Type 0) (c : ControlState) (plane : Plane) → c.active ≡ Some plane → Hold P Q c → Holds P Q plane
plane_holds P Q c plane is h = subst (λ (o : Option Plane). IfSome o (Holds P Q)) is h.in_active

in_all : (c : ControlState) (plane : Plane) (e : Entry) → c.active ≡ Some plane → Contains plane.entries e → Contains (all_of c) e
in_all c plane e is at =
    let own : Contains (entries_of c.active) e = subst (λ (o : Option Plane). Contains (entries_of o) e) (sym is) at in
    Contains-append_left (entries_of c.active) (entries_of c.staged) e own

-- from a state on to the end of the list
from_here : (list : List Event) (c : ControlState) (before now : Plane) → IsKept c → Legal c list → c.active ≡ Some before → (applied c list).active ≡ Some now → TellAlike before now
from_here list c before now k legal is at_end =
    let of_entry : (e : Entry) → Contains before.entries e → Holds (OfEntry e) (NotAmong e) now = λ e at.
    plane_holds (OfEntry e) (NotAmong e) (applied c list) now at_end (events_hold (OfEntry e) (NotAmong e) list c k legal (entry_holds c e k (in_all c before e is at))) in
    let of_cell : (x : ℕ) → HasCell before x → Holds (NotOf x) Anything now = λ x cell.
    plane_holds (NotOf x) Anything (applied c list) now at_end (events_hold (NotOf x) Anything list c k legal (cell_holds c before x k is cell)) in
    let each : (e f : Entry) → Contains before.entries e → Contains now.entries f → OfEntry e f.seq f.slot = λ e f at there.
    All-contains (λ (g : Entry). OfEntry e g.seq g.slot) now.entries f (of_entry e at).entries there in record {
      numbers = λ e f slot at there own other. sym ((each e f at there).by_slot slot own other);
      slots = λ e f slot at there same own. sym ((each e f at there).by_number (sym same)) ∙ own;
      cells_now = λ e slot at own cell. (of_entry e at).cells slot own cell.0 cell.1;
      cells_before = λ f slot there own cell. All-contains (λ (g : Entry). NotOf slot g.seq g.slot) now.entries f (of_cell slot cell).entries there own;
    }

behind : (list : List Event) (n : ℕ) (c : ControlState) (before now : Plane) → IsKept c → Legal c list → (applied c (take n list)).active ≡ Some before → (applied c list).active ≡ Some now → TellAlike before now
behind list zero c before now k legal is at_end = from_here list c before now k legal is at_end
behind [] (suc n) c before now k legal is at_end = from_here [] c before now k legal is at_end
behind (event ∷ list) (suc n) c before now k legal is at_end = behind list n (apply c event) before now (event_kept event c k legal.0) legal.1 is at_end

pub slots_stay : SlotsStay
slots_stay start list n before now legal is at_end = behind list n _ before now (first_kept start.bridge start.rows start.slots) legal is at_end
