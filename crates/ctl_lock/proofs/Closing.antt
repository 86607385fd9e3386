-- Close may follow the calls of a journal, and the calls saw the counters of all slots that were drawn.
use Rattle.std.proofs.Common.{◌≡◌, ℕ, Bool, true, false, cond, List, [], ◌∷◌, ◌++◌, length, Option, Some, None, IfSome, refl, ap, subst, ◌∙◌}
use Rattle.std.specs.Prelude.{IfNone}
use Rattle.std.proofs.lemmas.List.Sums.{fold-append}
use Rattle.ctl_core.specs.Core.{Core}
use Rattle.ctl_lock.specs.Calls.{journal_of, made_of}
use Rattle.ctl_lock.specs.Locked.{IsRead, IsStanding, SeeAll, SeesAll, reads}
use Rattle.ctl_lock.specs.declared.signed.Signed.{Signed}
use Rattle.p4_types.specs.declared.calls.Call.{Call}
use Rattle.p4_types.specs.declared.code.Code.{Code}
use Rattle.p4_types.specs.declared.events.Event.TheVariants as events
use Rattle.p4_types.specs.declared.events.Start.{Start}
use Rattle.plane_spec.specs.Config.{Event}
use Rattle.plane_spec.specs.Legal.{Legal}
use Rattle.plane_spec.specs.Planes.{ControlState, opened, apply, applied}
use Rattle.switch_spec.proofs.Answers.{answer_sound}
use Rattle.switch_spec.specs.Answer.{answer, called}
use Rattle.switch_spec.specs.History.{Made, is_refused_for_memory, is_unavailable, journal_events, own_events}
use Rattle.switch_spec.specs.declared.calls.LaneCall.{LaneCall}

-- a call leaves the switch open
still_by : (b : Bool) (c : ControlState) (made : Made) → is_refused_for_memory made ≡ b → c.closed ≡ false → (applied c (own_events c made)).closed ≡ false
still_by true c made is open_before =
    ap (λ (l : List Event). (applied c l).closed) (ap (λ (b : Bool). cond b [] (answer c made.figures made.entry.lane made.entry.call made.call).events) is) ∙ open_before
still_by false c made is open_before =
    ap (λ (l : List Event). (applied c l).closed) (ap (λ (b : Bool). cond b [] (answer c made.figures made.entry.lane made.entry.call made.call).events) is)
    ∙ (answer_sound c made.figures made.entry.lane made.entry.call made.call).still_open open_before

still : (c : ControlState) (journal : List Made) → c.closed ≡ false → (applied c (journal_events c journal)).closed ≡ false
still c [] before = before
still c (made ∷ journal) before =
    let own = own_events c made in
    let d = applied c own in
    ap (λ (x : ControlState). x.closed) (fold-append apply c own (journal_events d journal)) ∙ still d journal (still_by (is_refused_for_memory made) c made refl before)

-- Close may follow
pub may_close : (start : Start) (list : List Event) (core : Core) (journal : List Made) → IsStanding start list core journal → Legal (applied (opened start) list) (events.Close ∷ [])
may_close start list core journal h =
    (ap (λ (l : List Event). (applied (opened start) l).closed) h.events_are ∙ still (opened start) journal refl, tt)

-- one call more that saw all
pub see_more : (c : ControlState) (made : List Signed) (signed : Signed) → SeeAll c made → SeesAll (applied c (journal_events c (journal_of made))) signed → SeeAll c (made ++ signed ∷ [])
see_more c [] signed h sees = (sees, tt)
see_more c (first ∷ made) signed h sees =
    let own = own_events c (made_of first) in
    let d = applied c own in
    (h.0, see_more d made signed h.1 (subst (λ (x : ControlState). SeesAll x signed) (fold-append apply c own (journal_events d (journal_of made))) sees))

-- a call that was read, or found no memory for that, saw all
pub sees_by : (read : Option Call) (call : LaneCall) (figures : List (ℕ × ℕ)) (slots : ℕ) (code : Code) → IsRead call read → IfNone read (is_unavailable code ≡ true)
    → IfSome read (λ (c : Call). reads c ≡ true → length figures ≡ slots) → is_unavailable code ≡ false → reads (called call) ≡ true → length figures ≡ slots
sees_by None call figures slots code is none drawn there asks = absurd (cc (none, there))
sees_by (Some c) call figures slots code is none drawn there asks = drawn (ap reads is ∙ asks)

-- a call that was read, if there was memory for it
pub is_read_of : (read : Option Call) (call : LaneCall) → IfSome read (λ (c : Call). c ≡ called call) → IsRead call read
is_read_of None call h = tt
is_read_of (Some c) call h = h
