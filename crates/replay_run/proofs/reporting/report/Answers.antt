use Rattle.std.proofs.Common.{◌≡◌, ◌∙◌, ◌+◌, ◌≤◌, ◌++◌, [], ℕ, List, Option, Some, length, map, fold, ap, refl, subst, sym, arith}
use Rattle.std.specs.Prelude.{option_map}
use Rattle.std.specs.List.{AllByRecursion, flat_map}
use Rattle.std.proofs.lemmas.List.{length-append, map-append}
use Rattle.std.proofs.lemmas.List.Sums.{fold-append}
use Rattle.counter_bank.specs.Account.{Account, AreTotals, Opened, first_seat}
use Rattle.counter_bank.specs.Account as accounts
use Rattle.ctl_lock.specs.Calls.{journal_of}
use Rattle.ctl_lock.specs.Finishing.{Closing}
use Rattle.ctl_lock.specs.declared.signed.Signed.{Signed}
use Rattle.lane_work.proofs.Lists.{each_append}
use Rattle.lane_work.specs.Work.{Work}
use Rattle.p4_types.specs.declared.events.Start.{Start}
use Rattle.p4_types.specs.declared.records.Record.{Record}
use Rattle.p4_types.specs.declared.tape.TapeRecord.{TapeRecord}
use Rattle.plane_spec.specs.Config.{Event}
use Rattle.plane_spec.specs.Legal.{Legal}
use Rattle.plane_spec.specs.Planes.{Plane, opened}
use Rattle.pub_snap.specs.Beginnings.{Beginning}
use Rattle.replay_run.proofs.Lanes.{as_many}
use Rattle.replay_run.proofs.Reports.{gathered, reported}
use Rattle.replay_run.proofs.Sums.{all_parts_again, of_the_bank}
use Rattle.replay_run.proofs.reporting.report.Goals as goal
use Rattle.replay_run.specs.Ends.{IsSeated, figures_at}
use Rattle.replay_run.specs.Opening.{without_parts}
use Rattle.run_lanes.specs.Gathered.{HasCalled, HasCarried}
use Rattle.switch_spec.specs.Counts.{count_lines, cell_lines}

pub join_works-requires-2-clause-bank : goal.join_works-requires-2-clause-bank
join_works-requires-2-clause-bank g c =
    ap (λ (a : Account). a.bank) c.in_ok-join_works.ensures.seat ∙ of_the_bank c.args.rest (map (λ (w : Work). w.seat) c.args.workers.items) ∙ ap (λ (a : Account). a.bank) c.requires.rest ∙ sym c.into_parts-control.ensures.name

pub close-counted-requires-clause-bank : goal.close-counted-requires-clause-bank
close-counted-requires-clause-bank g c =
    ap (λ (a : Account). a.bank) c.in_ok-join_works-2.ensures.seat ∙ of_the_bank c.join_works.new.seat (map (λ (w : Work). w.seat) c.args.callers.items)
    ∙ ap (λ (a : Account). a.bank) c.in_ok-join_works.ensures.seat ∙ of_the_bank c.args.rest (map (λ (w : Work). w.seat) c.args.workers.items)
    ∙ ap (λ (a : Account). a.bank) c.requires.rest ∙ sym c.into_parts-control.ensures.name

pub close-counted-requires-clause-parts : goal.close-counted-requires-clause-parts
close-counted-requires-clause-parts g c =
    let j = g.J.Naming in
    let seat : Work → Account = λ w. w.seat in
    let workers : List Work = c.args.workers.items in
    let callers : List Work = c.args.callers.items in
    let many : length (workers ++ callers) ≡ 48 =
    omega (
      arith,
      as_many (HasCarried c.args.closed.told j.items (journal_of c.args.closed.journal)) 16 workers c.requires.carried,
      as_many (HasCalled c.args.closed.told j.calls (journal_of c.args.closed.journal)) 32 callers c.requires.called,
      length-append workers callers,
    ) in
    let all = all_parts_again j.bank 48 (workers ++ callers) (omega arith) (each_append (IsSeated j.bank) workers callers c.requires.workers c.requires.callers) many in
    let joined : c.join_works-2.new.seat ≡ fold accounts.joined (without_parts 48 (first_seat j.bank)) (map seat (workers ++ callers)) =
    c.in_ok-join_works-2.ensures.seat
    ∙ ap (λ (a : Account). fold accounts.joined a (map seat callers)) (c.in_ok-join_works.ensures.seat ∙ ap (λ (a : Account). fold accounts.joined a (map seat workers)) c.requires.rest)
    ∙ sym (fold-append accounts.joined (without_parts 48 (first_seat j.bank)) (map seat workers) (map seat callers))
    ∙ ap (λ (l : List Account). fold accounts.joined (without_parts 48 (first_seat j.bank)) l) (sym (map-append seat workers callers)) in
    ap (λ (a : Account). a.parts) joined ∙ all

pub returns : goal.returns
returns g c = λ tape each number calls items.
    let j = g.J.Naming in
    let closed : Closing = c.args.closed in
    let workers : List Work = c.args.workers.items in
    let callers : List Work = c.args.callers.items in
    let parts = c.into_parts-control in
    let signed : List Signed = closed.journal in
    let told : Beginning = closed.told in
    let t = c.told.ensures in
    let legal_told : Legal (opened told.start) told.events = subst (λ (b : Beginning). Legal (opened b.start) b.events) t.told c.len-events.ensures.legal in
    let whole = gathered j.start tape signed told callers workers j.calls j.items each calls items parts.ensures.standing (ap (λ (b : Beginning). b.start) (sym t.told) ∙ t.start) (ap (λ (b : Beginning). b.events) (sym t.told) ∙ t.events) legal_told
    c.requires.others c.requires.called c.requires.carried in
    let seat_is : c.join_works-2.new.seat ≡ fold accounts.joined (fold accounts.joined c.args.rest (map (λ (w : Work). w.seat) workers)) (map (λ (w : Work). w.seat) callers) =
    c.in_ok-join_works-2.ensures.seat ∙ ap (λ (a : Account). fold accounts.joined a (map (λ (w : Work). w.seat) callers)) c.in_ok-join_works.ensures.seat in
    let first : c.join_works.new.records.items ≡ flat_map (λ (w : Work). w.records) workers =
    c.in_ok-join_works.ensures.records ∙ ap (λ (l : List Record). l ++ flat_map (λ (w : Work). w.records) workers) c.new-records.ensures.items in
    let records_are = c.from_vec.ensures ∙ c.in_ok-join_works-2.ensures.records ∙ ap (λ (l : List Record). l ++ flat_map (λ (w : Work). w.records) callers) first in
    let plane : option_map (λ p. p.now.now) c.active-plane.result ≡ parts.result.0.control.active = c.active-plane.ensures.plane ∙ ap (λ k. k.active) c.image.ensures.control in
    let control_is = ap (λ k. k.control) parts.ensures.control ∙ parts.ensures.standing.control in
    let nothing : c.args.rest.added ≡ [] = ap (λ (a : Account). a.added) c.requires.rest in
    let journal_is = c.in_ok-entries.ensures ∙ ap (λ (l : List Signed). map (λ (s : Signed). s.entry) l) parts.ensures.journal in
    let counts_are = c.in_ok-count_lines.ensures ∙ ap (λ (p : Option Plane). count_lines (figures_at c.close-counted.result) p) plane in
    let cells_are = c.in_ok-cell_lines.ensures ∙ ap (λ (p : Option Plane). cell_lines (figures_at c.close-counted.result) p) plane in
    let slots_are = ap (λ (b : Opened). b.slots) parts.ensures.bank ∙ c.requires.slots in
    reported j.start tape signed told callers workers parts.result.0.control c.args.rest c.join_works-2.new.seat c.close-counted.result _ whole c.requires.read parts.ensures.seen number control_is nothing seat_is
    (subst (λ (n : ℕ). AreTotals c.close-counted.result n c.join_works-2.new.seat.added) slots_are c.close-counted.ensures.totals) c.close-counted.ensures.noted journal_is c.new.ensures records_are counts_are cells_are
