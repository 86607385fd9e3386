-- The figures of the Reads of a run on threads are bounded.
use Rattle.std.proofs.Common.{◌≡◌, ℕ, zero, suc, ◌+◌, ◌<◌, ◌≤◌, ◌^◌, List, [], ◌∷◌, length, map, fold, ap, sym, subst, ◌∙◌, ◌⊎◌, inl, inr, arith}
use Rattle.std.specs.List.{AllByRecursion, filter_map}
use Rattle.std.proofs.lemmas.Bool.{cases_lt}
use Rattle.counter_bank.specs.Account.{Account, NoneAbove}
use Rattle.counter_bank.specs.Account as accounts
use Rattle.ctl_lock.proofs.Meeting.{on_lane, signed_lane}
use Rattle.ctl_lock.specs.Calls.{journal_of}
use Rattle.ctl_lock.specs.Locked.{SeeAll}
use Rattle.ctl_lock.specs.Passing.{entering}
use Rattle.ctl_lock.specs.Reading.{Turn}
use Rattle.snap_worker.specs.Sums.{noted_by}
use Rattle.ctl_lock.specs.declared.signed.Signed.{Signed}
use Rattle.lane_table.specs.Lanes.{of_lane}
use Rattle.lane_work.proofs.Names.{each_has_its_own}
use Rattle.lane_work.specs.Running.{beside}
use Rattle.lane_work.specs.Shares.{Share, joined}
use Rattle.lane_work.specs.Work.{Work}
use Rattle.p4_types.specs.declared.events.Start.{Start}
use Rattle.p4_types.specs.declared.tape.TapeRecord.{TapeRecord}
use Rattle.p4_types.specs.declared.tape.Who.{Who}
use Rattle.p4_types.specs.declared.tape.Who.TheVariants.{Controller}
use Rattle.plane_spec.proofs.Lists.{All-weaken}
use Rattle.plane_spec.specs.Planes.{opened}
use Rattle.pub_snap.specs.Beginnings.{Beginning}
use Rattle.run_counts.proofs.Hits.{runs_are_within}
use Rattle.run_counts.proofs.Rising.{AreNoMore, no_more_self, no_more_trans}
use Rattle.run_counts.proofs.Words.{counts_are_exact}
use Rattle.run_counts.specs.Reading.{AreBounded, Moment, moments_on}
use Rattle.run_counts.specs.Totals.{AreWithin}
use Rattle.run_lanes.proofs.Gathering.{AreAll, IsFound, are_all, behind_others, found, lanes_make_a_run}
use Rattle.run_lanes.specs.Gathered.{AreGathered, HasCalled, HasRead, OfEach, all_shares, caller_share, shares_of, worker_share}
use Rattle.replay_run.proofs.Seats.{lanes_noted}
use Rattle.replay_run.proofs.Sights.{lane_moments, lane_seen, lane_signed, no_moments, sighted_on}
use Rattle.replay_run.proofs.Turns.{AreOfTurns, Sighted, as_moment, of_turns, turns_bounded}
use Rattle.replay_run.specs.Laws.{ReadsAreBounded, seats_of}
use Rattle.snap_worker.specs.Laws.{added_by}
use Rattle.switch_spec.specs.Carrying.{carried_on, packet_out, packets_out}
use Rattle.switch_spec.specs.CountLaws.{figures_of}
use Rattle.switch_spec.specs.Counts.{Arrival, Carried, Figures, no_figures}
use Rattle.switch_spec.specs.History.{Made, published}
use Rattle.tape_lanes.specs.Lanes.{calls_in, items_in}

-- what is told of each lane, with what is told of each work
of_both : {A : Type 0} (P Q : ℕ → A → Type 0) (R : A → Type 0) (n : ℕ) (xs : List A) → OfEach P n xs → OfEach Q n xs → AllByRecursion R xs → OfEach (λ lane x. P lane x × Q lane x × R x) n xs
of_both P Q R zero [] p q r = tt
of_both P Q R zero (x ∷ xs) p q r = absurd p
of_both P Q R (suc n) [] p q r = absurd p
of_both P Q R (suc n) (x ∷ xs) p q r = ((p.0, q.0, r.0), of_both P Q R n xs p.1 q.1 r.1)

-- the packets of all lanes
abbrev packets_in : Start → List TapeRecord → List Signed → List Work → List Work → List Carried
packets_in start tape signed callers workers = joined (all_shares start tape (journal_of signed) callers workers)

-- what is told of a controller's lane: its calls, what they saw, and that it noted no more than all packets have counted
abbrev IsTold : Start → List TapeRecord → List Signed → Beginning → Figures → ℕ → Work → Type 0
IsTold start tape signed last high lane work = HasCalled last (calls_in tape) (journal_of signed) lane work × HasRead start signed lane work × AreNoMore (noted_by work.seat) high

-- the packets of a lane's calls are those that the journal has for it
entering_is : (start : Start) (lane : ℕ) (signed : List Signed) → entering start (of_lane signed_lane lane signed) ≡ packets_out start lane (journal_of signed)
entering_is start lane signed = ap (filter_map (packet_out start)) (sym (on_lane lane signed))

-- a lane whose reading is told
lane_bounded : (start : Start) (tape : List TapeRecord) (signed : List Signed) (last : Beginning) (high : Figures) (lane : ℕ) (work : Work) (packets : List Carried) → SeeAll (opened start) signed
    → ((slot : ℕ) → ((high slot).0 < 2 ^ 64) × ((high slot).1 < 2 ^ 64)) → IsTold start tape signed last high lane work → packets ≡ beside (packets_out start lane (journal_of signed)) work.records
    → AreBounded start high no_figures (moments_on lane (opened start) (journal_of signed)) packets
lane_bounded start tape signed last high lane work packets seen exact told own =
    let reading = told.1 in
    let sighted : List Sighted = sighted_on lane (opened start) signed in
    let turns : AreOfTurns sighted reading.turns = of_turns sighted reading.turns (lane_signed lane (opened start) signed ∙ sym reading.made_are) in
    let bounded : AreBounded start high no_figures (map as_moment sighted) (filter_map (λ (turn : Turn). turn.packet) reading.turns) =
    turns_bounded start high (noted_by work.seat) exact told.2 sighted reading.turns no_figures no_figures turns (lane_seen lane (opened start) signed seen) reading.own reading.rising (no_more_self no_figures) in
    let same : packets ≡ filter_map (λ turn. turn.packet) reading.turns =
    own ∙ ap (λ (arrivals : List Arrival). beside arrivals work.records) (sym (entering_is start lane signed)) ∙ sym reading.packets_are in
    subst (λ (moments : List Moment). AreBounded start high no_figures moments packets) (sym (lane_moments lane (opened start) signed))
    (subst (λ (packets : List Carried). AreBounded start high no_figures (map as_moment sighted) packets) (sym same) bounded)

few_enough : (n : ℕ) → n ≤ 1000000 → n ≤ 48000000
few_enough n few = omega (arith, few)

-- the same of any lane, since no other has made a call
any_bounded : (start : Start) (tape : List TapeRecord) (signed : List Signed) (last : Beginning) (callers workers : List Work) (lane : ℕ) → AreGathered start tape (journal_of signed) last callers workers → SeeAll (opened start) signed
    → ((slot : ℕ) → ((figures_of (packets_in start tape signed callers workers) slot).0 < 2 ^ 64) × ((figures_of (packets_in start tape signed callers workers) slot).1 < 2 ^ 64))
    → OfEach (IsTold start tape signed last (figures_of (packets_in start tape signed callers workers))) 32 callers → (lane < 32) ⊎ (32 ≤ lane)
    → AreBounded start (figures_of (packets_in start tape signed callers workers)) no_figures (moments_on lane (opened start) (journal_of signed)) (carried_on (Controller lane) (packets_in start tape signed callers workers))
any_bounded start tape signed last callers workers lane h seen exact told (inl lt) =
    let journal : List Made = journal_of signed in
    let shares : List Share = all_shares start tape journal callers workers in
    let packets : List Carried = packets_in start tape signed callers workers in
    let all : AreAll start tape journal callers workers = are_all start tape journal last callers workers h in
    let theirs : List Share = shares_of (worker_share (items_in tape)) 16 workers in
    let f : IsFound (IsTold start tape signed last (figures_of packets)) (caller_share start journal) 32 lane callers = found (IsTold start tape signed last (figures_of packets)) (caller_share start journal) 32 lane callers told lt in
    let own : carried_on f.work.who packets ≡ beside (packets_out start lane journal) f.work.records =
    each_has_its_own start (published start journal) shares (length theirs + f.place) (caller_share start journal lane f.work) all.shared all.differ
    (behind_others theirs (shares_of (caller_share start journal) 32 callers) f.place (caller_share start journal lane f.work) f.stands) in
    lane_bounded start tape signed last (figures_of packets) lane f.work (carried_on (Controller lane) packets) seen exact f.holds
    (subst (λ (w : Who). carried_on w packets ≡ beside (packets_out start lane journal) f.work.records) f.holds.0.who_is own)
any_bounded start tape signed last callers workers lane h seen exact told (inr le) =
    subst
    (λ (moments : List Moment). AreBounded start (figures_of (packets_in start tape signed callers workers)) no_figures moments (carried_on (Controller lane) (packets_in start tape signed callers workers)))
    (sym (no_moments lane (opened start) (journal_of signed) (h.others lane le))) tt

-- no lane noted more than all packets have counted
all_noted : (rest seat : Account) (workers callers : List Work) (high : Figures) → seat ≡ fold accounts.joined (fold accounts.joined rest (seats_of workers)) (seats_of callers) → NoneAbove seat.noted seat.added
    → ((slot : ℕ) → added_by seat slot ≡ high slot) → AllByRecursion (λ (work : Work). AreNoMore (noted_by work.seat) high) callers
all_noted rest seat workers callers high seat_is none_above added =
    let above : AreNoMore (noted_by seat) high = λ slot. subst (λ (x : ℕ × ℕ). ((noted_by seat slot).0 ≤ x.0) × ((noted_by seat slot).1 ≤ x.1)) (added slot) (none_above slot) in
    All-weaken (λ (work : Work). AreNoMore (noted_by work.seat) (noted_by seat)) (λ (work : Work). AreNoMore (noted_by work.seat) high)
    (λ work below. no_more_trans (noted_by work.seat) (noted_by seat) high below above) callers (lanes_noted (fold accounts.joined rest (seats_of workers)) seat callers seat_is)

pub reads_are_bounded : ReadsAreBounded
reads_are_bounded start tape signed last callers workers rest seat h read seen number seat_is none_above added lane =
    let packets : List Carried = packets_in start tape signed callers workers in
    let within : AreWithin packets =
    runs_are_within start tape (journal_of signed) packets (lanes_make_a_run start tape (journal_of signed) last callers workers h) h.records (few_enough (length tape) number) in
    any_bounded start tape signed last callers workers lane h seen (λ slot. counts_are_exact packets slot within)
    (of_both (HasCalled last (calls_in tape) (journal_of signed)) (HasRead start signed) (λ (work : Work). AreNoMore (noted_by work.seat) (figures_of packets)) 32 callers h.called read
    (all_noted rest seat workers callers (figures_of packets) seat_is none_above added)) (cases_lt lane 32)
