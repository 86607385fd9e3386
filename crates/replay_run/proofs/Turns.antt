-- The calls of a lane in their turns: what they saw is bounded.
use Rattle.std.proofs.Common.{◌≡◌, ℕ, zero, suc, ◌<◌, ◌≤◌, ◌%◌, ◌^◌, Bool, true, false, cond, List, [], ◌∷◌, length, map, Option, Some, None, option_map, is_some, refl, ap, sym, subst, ◌∙◌, ⊎_elim, arith}
use Rattle.std.specs.List.{AllByRecursion, cons_option, filter_map}
use Rattle.std.proofs.Math.Nat.{mod-eq_of_lt, mod-le}
use Rattle.std.proofs.lemmas.Bool.{cases_lt}
use Rattle.ctl_lock.specs.Calls.{made_of}
use Rattle.snap_worker.specs.Sums.{figures_in, AreSums, in_words}
use Rattle.ctl_lock.specs.Locked.{SeesAll, reads}
use Rattle.ctl_lock.specs.Reading.{HasOwnPacket, Rising, Turn, behind_packet}
use Rattle.ctl_lock.specs.declared.signed.Signed.{Signed}
use Rattle.p4_types.specs.declared.calls.Call.{Call}
use Rattle.p4_types.specs.declared.calls.Call.TheVariants as calls
use Rattle.p4_types.specs.declared.events.Start.{Start}
use Rattle.plane_spec.specs.Planes.{ControlState}
use Rattle.run_counts.proofs.Rising.{AreNoMore, counted_alike, counted_rises, known_below, no_more_self, no_more_trans}
use Rattle.run_counts.specs.Reading.{AreBounded, IsNoMore, Moment, is_read, known_behind}
use Rattle.run_spec.specs.Report.{carried_after, figures_out}
use Rattle.switch_spec.specs.Answer.{called}
use Rattle.switch_spec.specs.Carrying.{from_cpu}
use Rattle.switch_spec.specs.Counts.{Carried, Figures, counted}
use Rattle.switch_spec.specs.History.{is_refused_for_memory}

-- a call that was signed, beside the state that the calls before it left
pub record Sighted : Type 0 where
  pub control : ControlState
  pub signed : Signed

-- the same as a call of the journal
abbrev pub as_moment : Sighted → Moment
as_moment s = record { control = s.control; made = made_of s.signed }

-- a call that reads saw all slots that were drawn
abbrev pub HasSeenAll : Sighted → Type 0
HasSeenAll s = SeesAll s.control s.signed

-- the calls are those of the turns
abbrev pub AreOfTurns : List Sighted → List Turn → Type 0
AreOfTurns [] [] = Unit {0}
AreOfTurns [] (turn ∷ turns) = ⊥
AreOfTurns (s ∷ sighted) [] = ⊥
AreOfTurns (s ∷ sighted) (turn ∷ turns) = (s.signed ≡ turn.signed) × AreOfTurns sighted turns

pub of_turns : (sighted : List Sighted) (turns : List Turn) → map (λ s. s.signed) sighted ≡ map (λ turn. turn.signed) turns → AreOfTurns sighted turns
of_turns [] [] same = tt
of_turns [] (turn ∷ turns) same = absurd (cc)
of_turns (s ∷ sighted) [] same = absurd (cc)
of_turns (s ∷ sighted) (turn ∷ turns) same =
    let first : s.signed ≡ turn.signed = cc in
    let others : map (λ (s : Sighted). s.signed) sighted ≡ map (λ (turn : Turn). turn.signed) turns = cc in
    (first, of_turns sighted turns others)

-- ---- Figures that were loaded

none_past : (figures : List (ℕ × ℕ)) (slot : ℕ) → length figures ≤ slot → figures_in figures slot ≡ (0, 0)
none_past [] slot past = refl
none_past (x ∷ figures) zero past = absurd (omega (arith, past))
none_past (x ∷ figures) (suc slot) past = none_past figures slot (omega (arith, past))

words_below : (x : ℕ × ℕ) → IsNoMore (in_words x) x
words_below x = (mod-le x.0 (2 ^ 64), mod-le x.1 (2 ^ 64))

words_are : (x : ℕ × ℕ) → x.0 < 2 ^ 64 → x.1 < 2 ^ 64 → in_words x ≡ x
words_are x first second = ap (λ (n : ℕ). (n, x.1 % 2 ^ 64)) (mod-eq_of_lt first) ∙ ap (λ (n : ℕ). (x.0, n)) (mod-eq_of_lt second)

-- what was loaded is no more than the sums behind it
loaded_below : (figures : List (ℕ × ℕ)) (sums : Figures) → AreSums figures sums → AreNoMore (figures_in figures) sums
loaded_below figures sums are slot =
    ⊎_elim (λ lt. subst (λ (x : ℕ × ℕ). IsNoMore x (sums slot)) (sym (are slot lt)) (words_below (sums slot)))
    (λ past. subst (λ (x : ℕ × ℕ). IsNoMore x (sums slot)) (sym (none_past figures slot past)) (omega arith, omega arith))
    (cases_lt slot (length figures))

-- ---- A call that reads

same_reads : (call : Call) → is_read call ≡ reads call
same_reads (calls.Write request) = refl
same_reads (calls.Read request) = refl
same_reads (calls.Set request) = refl
same_reads (calls.Get request) = refl
same_reads (calls.Stream message) = refl
same_reads calls.Capabilities = refl
same_reads (calls.Unreadable method) = refl
same_reads calls.Leave = refl

-- a number that is within a list's length by another name
is_within : (slot size n : ℕ) → size ≡ n → slot < n → slot < size
is_within slot size n same lt = omega (arith, same, lt)

-- what was loaded of a slot is the sum behind it, where that is no more than a word holds
loaded_is : (figures : List (ℕ × ℕ)) (sums high : Figures) (slot : ℕ) → AreSums figures sums → slot < length figures → IsNoMore (sums slot) (high slot)
    → ((high slot).0 < 2 ^ 64) × ((high slot).1 < 2 ^ 64) → figures_in figures slot ≡ sums slot
loaded_is figures sums high slot are lt above exact = are slot lt ∙ words_are (sums slot) (omega (arith, above.0, exact.0)) (omega (arith, above.1, exact.1))

-- how many slots a call that was not refused saw, if it reads
size_by : (refused : Bool) (call : Call) (size slots : ℕ) → (refused ≡ false → reads call ≡ true → size ≡ slots) → cond refused false (is_read call) ≡ true → size ≡ slots
size_by true call size slots seen read = absurd (cc)
size_by false call size slots seen read = seen refl (sym (same_reads call) ∙ read)

-- What it saw of them is bounded. The call is any, since its message is not looked into.
sees : (refused : Bool) (call : Call) (figures : List (ℕ × ℕ)) (slots : ℕ) (low floor high sums : Figures) → (refused ≡ false → reads call ≡ true → length figures ≡ slots) → AreNoMore low floor → AreNoMore floor sums
    → AreNoMore sums high → ((slot : ℕ) → ((high slot).0 < 2 ^ 64) × ((high slot).1 < 2 ^ 64)) → AreSums figures sums
    → cond refused false (is_read call) ≡ true → (slot : ℕ) → slot < slots → IsNoMore (low slot) (figures_in figures slot) × IsNoMore (figures_in figures slot) (high slot)
sees refused call figures slots low floor high sums seen below known above exact are read slot drawn =
    let size : length figures ≡ slots = size_by refused call (length figures) slots seen read in
    let is : figures_in figures slot ≡ sums slot = loaded_is figures sums high slot are (is_within slot (length figures) slots size drawn) (above slot) (exact slot) in (
      subst (λ (x : ℕ × ℕ). IsNoMore (low slot) x) (sym is) (no_more_trans low floor sums below known slot),
      subst (λ (x : ℕ × ℕ). IsNoMore x (high slot)) (sym is) (above slot),
    )

-- ---- The packet that a call makes enter

no_packet : false ≡ true → ⊥
no_packet e = absurd (cc)

one_packet : true ≡ false → ⊥
one_packet e = absurd (cc)

-- A lane's calls behind one are bounded by what is known behind it and its packet.
by_packet : (start : Start) (high known sums : Figures) (later : List Moment) (o : Option Carried) (p : Option (List ℕ)) (packets : List Carried) → is_some o ≡ is_some p → AreNoMore known sums
    → ((now : Figures) → AreNoMore now (behind_packet sums o) → AreBounded start high now later packets)
    → AreBounded start high (figures_out (option_map (from_cpu start) p) known (cons_option o packets)) later (carried_after (option_map (from_cpu start) p) (cons_option o packets))
by_packet start high known sums later None None packets own below rest = rest known below
by_packet start high known sums later None (Some packet) packets own below rest = absurd (no_packet own)
by_packet start high known sums later (Some carried) None packets own below rest = absurd (one_packet own)
by_packet start high known sums later (Some carried) (Some packet) packets own below rest = rest (counted known carried) (counted_alike known sums carried below)

packet_rises : (g : Figures) (o : Option Carried) → AreNoMore g (behind_packet g o)
packet_rises g None = no_more_self g
packet_rises g (Some carried) = counted_rises g carried

-- what a lane knew is no more than what is known at last
rising_low : (turns : List Turn) (floor last : Figures) → Rising floor turns last → AreNoMore floor last
rising_low [] floor last h = h
rising_low (turn ∷ turns) floor last h =
    no_more_trans floor turn.sums last h.0
    (no_more_trans turn.sums (behind_packet turn.sums turn.packet) last (packet_rises turn.sums turn.packet) (rising_low turns (behind_packet turn.sums turn.packet) last h.2))

-- ---- All calls of a lane

pub turns_bounded : (start : Start) (high last : Figures) → ((slot : ℕ) → ((high slot).0 < 2 ^ 64) × ((high slot).1 < 2 ^ 64)) → AreNoMore last high
    → (sighted : List Sighted) (turns : List Turn) (low floor : Figures) → AreOfTurns sighted turns → AllByRecursion HasSeenAll sighted → AllByRecursion HasOwnPacket turns → Rising floor turns last → AreNoMore low floor
    → AreBounded start high low (map as_moment sighted) (filter_map (λ turn. turn.packet) turns)
turns_bounded start high last exact above [] [] low floor same seen owns rising below = tt
turns_bounded start high last exact above [] (turn ∷ turns) low floor same seen owns rising below = absurd same
turns_bounded start high last exact above (s ∷ sighted) [] low floor same seen owns rising below = absurd same
turns_bounded start high last exact above (s ∷ sighted) (turn ∷ turns) low floor same seen owns rising below =
    let sums : Figures = turn.sums in
    let packets : List Carried = filter_map (λ (t : Turn). t.packet) turns in
    let next : Figures = behind_packet sums turn.packet in
    let sums_above : AreNoMore sums high =
    no_more_trans sums last high (no_more_trans sums next last (packet_rises sums turn.packet) (rising_low turns next last rising.2)) above in
    let are : AreSums s.signed.figures sums = subst (λ (x : Signed). AreSums x.figures sums) (sym same.0) rising.1 in
    let known_is : AreNoMore (known_behind low (made_of s.signed)) sums =
    known_below low sums (made_of s.signed) (λ read. loaded_below s.signed.figures sums are) (no_more_trans low floor sums below rising.0) in
    let own : is_some turn.packet ≡ is_some s.signed.entry.reply.packet = owns.0 ∙ ap (λ (x : Signed). is_some x.entry.reply.packet) (sym same.0) in (
      sees (is_refused_for_memory (made_of s.signed)) (called s.signed.call) s.signed.figures s.control.next_slot low floor high sums seen.0 below rising.0 sums_above exact are,
      by_packet start high (known_behind low (made_of s.signed)) sums (map as_moment sighted) turn.packet s.signed.entry.reply.packet packets own known_is
          (λ now known. turns_bounded start high last exact above sighted turns now next same.1 seen.1 owns.1 rising.2 known),
    )
