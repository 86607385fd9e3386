-- The steps through a call, as the journal goes on, and what has been told of them.
use Rattle.std.proofs.Common.{◌≡◌, ℕ, zero, suc, ◌+◌, ◌<◌, ◌≤◌, ◌==◌, Bool, true, false, cond, List, [], ◌∷◌, ◌++◌, length, map, get_or, refl, ap, sym, subst, ◌∙◌, arith, add-zero}
use Rattle.std.specs.Prelude.{count_by, sum_by}
use Rattle.std.proofs.lemmas.Bool.Decides.{nat_tests}
use Rattle.std.proofs.lemmas.List.{map-append, append-nil, length-map}
use Rattle.std.proofs.lemmas.List.Elements.{filter-append}
use Rattle.std.proofs.lemmas.List.Sums.{sum_by-append, sum_by-cons}
use mathlib.Core.List.{IsPrefix}
use Rattle.ctl_core.specs.Core.{Core}
use Rattle.ctl_lock.specs.Calls.{journal_of, made_of}
use Rattle.ctl_lock.specs.Locked.{IsStanding, entries_of}
use Rattle.ctl_lock.specs.declared.signed.Signed.{Signed}
use Rattle.lane_table.specs.Lanes.{of_lane}
use Rattle.p4_types.specs.declared.journal.Entry.{Entry}
use Rattle.p4_types.specs.declared.events.Start.{Start}
use Rattle.plane_spec.proofs.Lists.{All-filter}
use Rattle.plane_spec.specs.Config.{Event}
use Rattle.plane_spec.specs.Planes.{ControlState, opened, applied}
use Rattle.switch_spec.proofs.Through.{AreBy, numbered_by}
use Rattle.switch_spec.specs.Carrying.{made_on, steps_through}
use Rattle.switch_spec.specs.History.{Made, History, answered, expected, is_refused_for_memory, own_events, refused_for_memory, steps_of}

-- ---- The journal goes on

at_front : (xs rest : List ℕ) (k : ℕ) → k < length xs → get_or (xs ++ rest) k 0 ≡ get_or xs k 0
at_front [] rest k lt = absurd (omega (arith, lt))
at_front (x ∷ xs) rest zero lt = refl
at_front (x ∷ xs) rest (suc k) lt = at_front xs rest k (omega (arith, lt))

abbrev steps_by : Made → ℕ
steps_by made = made.entry.reply.steps

-- the steps through a call that stands in a journal stay those
pub through_more : (lane call : ℕ) (journal more : List Made) → call ≤ length (made_on lane journal) → steps_through lane call (journal ++ more) ≡ steps_through lane call journal
through_more lane call journal more le =
    let xs : List ℕ = 0 ∷ map steps_by (made_on lane journal) in
    let split : made_on lane (journal ++ more) ≡ made_on lane journal ++ made_on lane more = filter-append (λ (made : Made). lane == made.entry.lane) journal more in
    ap (λ (l : List Made). get_or (0 ∷ map steps_by l) call 0) split
    ∙ ap (λ (l : List ℕ). get_or (0 ∷ l) call 0) (map-append steps_by (made_on lane journal) (made_on lane more))
    ∙ at_front xs (map steps_by (made_on lane more)) call (omega (arith, le, length-map (made_on lane journal) steps_by))

pub through_prefix : (lane call n : ℕ) (front whole : List Signed) → IsPrefix front whole → call ≤ length (made_on lane (journal_of front)) → steps_through lane call (journal_of front) ≤ n
    → steps_through lane call (journal_of whole) ≤ n
through_prefix lane call n front whole begins le h =
    let split : journal_of whole ≡ journal_of front ++ journal_of begins.0 = sym (ap journal_of begins.1) ∙ map-append made_of front begins.0 in
    let same = ap (steps_through lane call) split ∙ through_more lane call (journal_of front) (journal_of begins.0) le in
    omega (arith, h, same)

-- ---- Calls of a journal are after no more steps than it has

-- an entry as it has to be tells the steps through it
steps_told_by : (b : Bool) (c : ControlState) (n : ℕ) (made : Made) → is_refused_for_memory made ≡ b → made.entry ≡ expected c n made → made.entry.reply.steps ≡ n + length made.entry.steps
steps_told_by true c n made is h =
    let e : made.entry ≡ refused_for_memory n made.entry.lane made.entry.call =
    h ∙ ap (λ (b : Bool). cond b (refused_for_memory n made.entry.lane made.entry.call) (answered c made.figures n made.entry.lane made.entry.call made.call)) is in
    ap (λ (x : Entry). x.reply.steps) e ∙ sym (add-zero n) ∙ ap (λ (x : Entry). n + length x.steps) (sym e)
steps_told_by false c n made is h =
    let e : made.entry ≡ answered c made.figures n made.entry.lane made.entry.call made.call =
    h ∙ ap (λ (b : Bool). cond b (refused_for_memory n made.entry.lane made.entry.call) (answered c made.figures n made.entry.lane made.entry.call made.call)) is in
    ap (λ (x : Entry). x.reply.steps) e ∙ ap (λ (x : Entry). n + length x.steps) (sym e)

abbrev steps_made : List Made → ℕ
steps_made journal = sum_by (λ (made : Made). length made.entry.steps) journal

all_by : (c : ControlState) (n last : ℕ) (journal : List Made) → History c n journal → n + steps_made journal ≤ last → AreBy last journal
all_by c n last [] h le = tt
all_by c n last (made ∷ journal) h le =
    let more : ℕ = length made.entry.steps in
    let split : steps_made (made ∷ journal) ≡ 0 + more + steps_made journal = sum_by-append (λ (x : Made). length x.entry.steps) (made ∷ []) journal in
    let told = steps_told_by (is_refused_for_memory made) c n made refl h.0 in
    (omega (arith, told, split, le), all_by (applied c (own_events c made)) (n + more) last journal h.1 (omega (arith, split, le)))

-- the steps through each call of a journal are at most those of the control behind it
pub through_by : (start : Start) (events : List Event) (core : Core) (journal : List Made) (lane call : ℕ) → IsStanding start events core journal → call ≤ length (made_on lane journal)
    → steps_through lane call journal ≤ core.steps
through_by start events core journal lane call h le =
    let c = h.counted_steps in
    let by : AreBy core.steps journal = all_by (opened start) 0 core.steps journal h.history (omega (arith, c)) in
    let here : AreBy core.steps (made_on lane journal) = All-filter (λ (made : Made). made.entry.reply.steps ≤ core.steps) (λ (made : Made). lane == made.entry.lane) journal by in
    let bound = numbered_by (made_on lane journal) [] call core.steps here le in
    subst (λ (l : List Made). get_or (0 ∷ map steps_by l) call 0 ≤ core.steps) (append-nil (made_on lane journal)) bound

-- ---- How many calls a lane has made

same_either : (x y : ℕ) → (x == y) ≡ (y == x)
same_either x y = grind (arith, nat_tests)

one_more_or_not : (b : Bool) (made : Made) (calls : List Made) → cond b 1 0 + length calls ≡ length (cond b (made ∷ calls) calls)
one_more_or_not true made calls = omega arith
one_more_or_not false made calls = omega arith

pub counted_by : (lane : ℕ) (journal : List Made) → count_by (λ (e : Entry). e.lane == lane) (entries_of journal) ≡ length (made_on lane journal)
counted_by lane [] = refl
counted_by lane (made ∷ journal) =
    sum_by-cons (λ (e : Entry). cond (e.lane == lane) 1 0) made.entry (entries_of journal)
    ∙ ap (λ (b : Bool). cond b 1 0 + count_by (λ (e : Entry). e.lane == lane) (entries_of journal)) (same_either made.entry.lane lane)
    ∙ ap (λ (n : ℕ). cond (lane == made.entry.lane) 1 0 + n) (counted_by lane journal)
    ∙ one_more_or_not (lane == made.entry.lane) made (made_on lane journal)

-- ---- The calls of a lane

abbrev pub signed_lane : Signed → ℕ
signed_lane signed = signed.entry.lane

one_of : (b : Bool) (signed : Signed) (rest : List Signed) → cond b (made_of signed ∷ map made_of rest) (map made_of rest) ≡ map made_of (cond b (signed ∷ rest) rest)
one_of true signed rest = refl
one_of false signed rest = refl

pub on_lane : (lane : ℕ) (journal : List Signed) → made_on lane (journal_of journal) ≡ journal_of (of_lane signed_lane lane journal)
on_lane lane [] = refl
on_lane lane (signed ∷ journal) =
    ap (λ (l : List Made). cond (lane == signed.entry.lane) (made_of signed ∷ l) l) (on_lane lane journal)
    ∙ ap (λ (b : Bool). cond b (made_of signed ∷ journal_of (of_lane signed_lane lane journal)) (journal_of (of_lane signed_lane lane journal))) (same_either lane signed.entry.lane)
    ∙ one_of (signed.entry.lane == lane) signed (of_lane signed_lane lane journal)

-- the events of a history are told with its steps
pub as_told : (start : Start) (events : List Event) (core : Core) (journal : List Made) → IsStanding start events core journal → length (steps_of events) ≡ core.steps
as_told start events core journal h = h.each_step ∙ sym h.steps
