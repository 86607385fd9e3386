-- Where journal and records follow the tape, the figures of its Reads are bounded.
use Rattle.std.proofs.Common.{◌≡◌, ℕ, Bool, true, false, cond, List, [], ◌∷◌, fold, Option, Some, None, refl, ap, sym, subst, ◌∙◌, ◌==◌}
use Rattle.p4_types.specs.declared.events.Start.{Start}
use Rattle.p4_types.specs.declared.tape.TapeRecord.{TapeRecord}
use Rattle.p4_types.specs.declared.tape.TapeRecord.TheVariants.{Call, Packet, Leave, Meet}
use Rattle.p4_types.specs.declared.tape.Who.TheVariants.{Controller, Worker}
use Rattle.plane_spec.specs.Planes.{ControlState, opened, applied}
use Rattle.run_counts.proofs.Rising.{AreNoMore, all_rise, counted_alike, counted_rises, known_below, no_more_self, no_more_trans}
use Rattle.run_counts.specs.Reading.{AreBounded, LockstepIsBounded, Moment, SeesBetween, has_read, known_behind, moments_on}
use Rattle.run_spec.proofs.Following.{on_by}
use Rattle.run_spec.specs.Report.{IsFollowed, IsNext, Lockstep, carried_after, figures_out}
use Rattle.switch_spec.specs.Carrying.{carried_on, packet_out}
use Rattle.switch_spec.specs.CountLaws.{figures_of}
use Rattle.switch_spec.specs.Counts.{Arrival, Carried, Figures, counted, no_figures}
use Rattle.switch_spec.specs.History.{Made, own_events}
use Rattle.switch_spec.specs.declared.calls.LaneCall.{LaneCall}

-- a call that saw all that was counted so far
sees_all : (low g high : Figures) (moment : Moment) → moment.made.figures ≡ g → AreNoMore low g → AreNoMore g high → SeesBetween low high moment
sees_all low g high moment is below above read slot drawn =
    (subst (λ (f : Figures). AreNoMore low f) (sym is) below slot, subst (λ (f : Figures). AreNoMore f high) (sym is) above slot)

-- what is known behind it is no more than that
known_so_far : (low g : Figures) (made : Made) → made.figures ≡ g → AreNoMore low g → AreNoMore (known_behind low made) g
known_so_far low g made is below = known_below low g made (λ read. subst (λ (f : Figures). AreNoMore f g) (sym is) (no_more_self g)) below

-- the packet that a call makes enter is counted with those that follow
with_out : (o : Option Arrival) (made : Made) (g : Figures) (records : List Carried) → IsFollowed o made records → fold counted (figures_out o g records) (carried_after o records) ≡ fold counted g records
with_out None made g records h = refl
with_out (Some arrival) made g [] h = absurd h
with_out (Some arrival) made g (first ∷ records) h = refl

-- the packets of a lane, with one of another call's lane or of its own
own_packet : (lane : ℕ) (made : Made) (first : Carried) (records : List Carried) (b : Bool) → first.outcome.who ≡ Controller made.entry.lane → (lane == made.entry.lane) ≡ b
    → carried_on (Controller lane) (first ∷ records) ≡ cond b (first ∷ carried_on (Controller lane) records) (carried_on (Controller lane) records)
own_packet lane made first records b who_is is =
    on_by (Controller lane) (Controller made.entry.lane) first records who_is
    ∙ ap (λ (t : Bool). cond t (first ∷ carried_on (Controller lane) records) (carried_on (Controller lane) records)) is

-- the calls of a lane behind one of its own
abbrev Rest : Start → Figures → List Moment → Figures → Option Arrival → List Carried → Type 0
Rest start high later low o packets = AreBounded start high (figures_out o low packets) later (carried_after o packets)

call_bounded : (start : Start) (lane : ℕ) (high low g : Figures) (moment : Moment) (later : List Moment) (o : Option Arrival) (b : Bool) (records : List Carried)
    → packet_out start moment.made ≡ o → (lane == moment.made.entry.lane) ≡ b → moment.made.figures ≡ g → IsFollowed o moment.made records → AreNoMore low g → AreNoMore g high
    → ((now : Figures) → AreNoMore now (figures_out o g records) → AreBounded start high now later (carried_on (Controller lane) (carried_after o records)))
    → AreBounded start high low (cond b (moment ∷ later) later) (carried_on (Controller lane) records)
call_bounded start lane high low g moment later None true records out own is followed below above rest =
    let packets : List Carried = carried_on (Controller lane) records in
    let known : Figures = known_behind low moment.made in
    (sees_all low g high moment is below above, subst (λ (o : Option Arrival). Rest start high later known o packets) (sym out) (rest known (known_so_far low g moment.made is below)))
call_bounded start lane high low g moment later None false records out own is followed below above rest = rest low below
call_bounded start lane high low g moment later (Some arrival) b [] out own is followed below above rest = absurd followed
call_bounded start lane high low g moment later (Some arrival) true (first ∷ records) out own is followed below above rest =
    let packets : List Carried = first ∷ carried_on (Controller lane) records in
    let known : Figures = known_behind low moment.made in
    let later_is : Rest start high later known (Some arrival) packets = rest (counted known first) (counted_alike known g first (known_so_far low g moment.made is below)) in
    subst (λ (packets : List Carried). AreBounded start high low (moment ∷ later) packets) (sym (own_packet lane moment.made first records true followed.0 own))
    (sees_all low g high moment is below above, subst (λ (o : Option Arrival). Rest start high later known o packets) (sym out) later_is)
call_bounded start lane high low g moment later (Some arrival) false (first ∷ records) out own is followed below above rest =
    subst (λ (packets : List Carried). AreBounded start high low later packets) (sym (own_packet lane moment.made first records false followed.0 own))
    (rest low (no_more_trans low g (counted g first) below (counted_rises g first)))

-- a call of the tape, whose lane's calls behind it are bounded
next_bounded : (start : Start) (lane other : ℕ) (call : LaneCall) (high low g : Figures) (c : ControlState) (made : Made) (journal : List Made) (records : List Carried)
    → IsNext start g other call made records → AreNoMore low g → AreNoMore (fold counted g records) high
    → ((now : Figures) → AreNoMore now (figures_out (packet_out start made) g records)
    → AreNoMore (fold counted (figures_out (packet_out start made) g records) (carried_after (packet_out start made) records)) high
    → AreBounded start high now (moments_on lane (applied c (own_events c made)) journal) (carried_on (Controller lane) (carried_after (packet_out start made) records)))
    → AreBounded start high low (moments_on lane c (made ∷ journal)) (carried_on (Controller lane) records)
next_bounded start lane other call high low g c made journal records next below above rest =
    let moment : Moment = record { control = c; made = made } in
    let seen : AreNoMore g high = no_more_trans g (fold counted g records) high (all_rise g records) above in
    let later = subst (λ (f : Figures). AreNoMore f high) (sym (with_out (packet_out start made) made g records next.followed)) above in
    call_bounded start lane high low g moment (moments_on lane (applied c (own_events c made)) journal) (packet_out start made) (lane == made.entry.lane) records refl refl next.figures_are next.followed below seen
    (λ now known. rest now known later)

bounded : (start : Start) (lane : ℕ) (high : Figures) (c : ControlState) (n : ℕ) (low g : Figures) (tape : List TapeRecord) (journal : List Made) (records : List Carried)
    → Lockstep start n g tape journal records → AreNoMore low g → AreNoMore (fold counted g records) high
    → AreBounded start high low (moments_on lane c journal) (carried_on (Controller lane) records)
bounded start lane high c n low g [] journal records h below above =
    subst (λ (j : List Made). AreBounded start high low (moments_on lane c j) (carried_on (Controller lane) records)) (sym h.0) tt
bounded start lane high c n low g (Call other method message ∷ tape) [] records h below above = absurd h
bounded start lane high c n low g (Call other method message ∷ tape) (made ∷ journal) records h below above =
    next_bounded start lane other _ high low g c made journal records h.0 below above
    (λ now known later. bounded start lane high (applied c (own_events c made)) made.entry.reply.steps now (figures_out (packet_out start made) g records) tape journal (carried_after (packet_out start made) records) h.1 known later)
bounded start lane high c n low g (Leave other ∷ tape) [] records h below above = absurd h
bounded start lane high c n low g (Leave other ∷ tape) (made ∷ journal) records h below above =
    next_bounded start lane other _ high low g c made journal records h.0 below above
    (λ now known later. bounded start lane high (applied c (own_events c made)) made.entry.reply.steps now (figures_out (packet_out start made) g records) tape journal (carried_after (packet_out start made) records) h.1 known later)
bounded start lane high c n low g (Packet other port packet ∷ tape) journal [] h below above = absurd h
bounded start lane high c n low g (Packet other port packet ∷ tape) journal (carried ∷ records) h below above =
    subst (λ (packets : List Carried). AreBounded start high low (moments_on lane c journal) packets) (sym (on_by (Controller lane) (Worker other) carried records h.0))
    (bounded start lane high c n low (counted g carried) tape journal records h.3 (no_more_trans low g (counted g carried) below (counted_rises g carried)) above)
bounded start lane high c n low g (Meet other controller call ∷ tape) journal records h below above = bounded start lane high c n low g tape journal records h below above

pub lockstep_is_bounded : LockstepIsBounded
lockstep_is_bounded start tape text report lane =
    let records : List Carried = report.report.records in
    bounded start lane (figures_of records) (opened start) 0 no_figures no_figures tape report.report.journal records report.lockstep (no_more_self no_figures) (no_more_self (figures_of records))
