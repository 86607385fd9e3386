use Rattle.std.proofs.Common.{◌≡◌, ◌∙◌, ◌++◌, ◌∷◌, [], ℕ, List, length, refl, subst, sym, arith}
use Rattle.std.specs.List.{AllByRecursion}
use Rattle.ctl_lock.specs.Calls.{journal_of}
use Rattle.ctl_lock.specs.Finishing.{Closing}
use Rattle.ctl_lock.specs.Passing.{Passing}
use Rattle.lane_work.specs.Work.{Work}
use Rattle.plane_spec.proofs.Lists.{All-snoc}
use Rattle.replay_run.proofs.Lanes.{GoesOn, all_ended, next_ended, none_ended, none_left}
use Rattle.replay_run.proofs.ending.end_callers.Goals as goal
use Rattle.replay_run.specs.Ends.{HasAsked, IsSeated}
use Rattle.run_lanes.specs.Gathered.{HasCalled, HasRead, OfEach}

pub lanes-init : goal.lanes-init
lanes-init g c =
    let j = g.J.Naming in
    let closed = c.args.closed.now in
    let h = subst (λ (l : List Passing). OfEach HasAsked 32 l) (sym c.from_vec-passes.ensures.items) c.requires.ended in
    let called = none_ended HasAsked (HasCalled closed.told j.calls (journal_of closed.journal)) 32 c.from_vec-passes.result.items c.new-works.result.items h c.new-works.ensures.items in
    let read = none_ended HasAsked (HasRead j.start closed.journal) 32 c.from_vec-passes.result.items c.new-works.result.items h c.new-works.ensures.items in
    (refl, called.0, called.1, read.1, subst (λ (l : List Work). AllByRecursion (IsSeated j.bank) l) (sym c.new-works.ensures.items) tt)

pub lanes-preserved : goal.lanes-preserved
lanes-preserved g c =
    let j = g.J.Naming in
    let closed : Closing = c.args.closed.now in
    let i = c.lanes.invariant in
    let pass : Passing = c.in-Some.pass in
    let work : Work = c.in-Some-end_caller.work in
    let works : List Work = c.lanes.works.items in
    let did = c.in-Some-end_caller.ensures in
    let Called : ℕ → Work → Type 0 = HasCalled closed.told j.calls (journal_of closed.journal) in
    let Read : ℕ → Work → Type 0 = HasRead j.start closed.journal in
    let called_there : Called pass.lane work = subst (λ (d : Closing). HasCalled d.told j.calls (journal_of d.journal) pass.lane work) i.0 did.called in
    let read_there : Read pass.lane work = subst (λ (d : Closing). HasRead j.start d.journal pass.lane work) i.0 did.reading in
    let called = next_ended HasAsked Called 32 c.lanes.passes.items c.pop_front.new.self.items pass works work i.1 c.in-Some.ensures.items i.2
    (λ asked. subst (λ (l : ℕ). Called l work) asked.lane_is called_there) in
    let read = next_ended HasAsked Read 32 c.lanes.passes.items c.pop_front.new.self.items pass works work i.1 c.in-Some.ensures.items i.3 (λ asked. subst (λ (l : ℕ). Read l work) asked.lane_is read_there) in
    let seated : AllByRecursion (IsSeated j.bank) (works ++ work ∷ []) = All-snoc (IsSeated j.bank) works work i.4 (record { bank_is = did.own.bank_is; one_part = did.own.one_part }) in
    let more : works ++ work ∷ [] ≡ c.push.new.self.items = sym c.in_ok-push.ensures.items in (
      did.same ∙ i.0,
      called.0,
      subst (λ (l : List Work). GoesOn Called (length c.pop_front.new.self.items) 32 l) more called.1,
      subst (λ (l : List Work). GoesOn Read (length c.pop_front.new.self.items) 32 l) more read.1,
      subst (λ (l : List Work). AllByRecursion (IsSeated j.bank) l) more seated,
    )

pub returns-clause-called : goal.returns-clause-called
returns-clause-called g c =
    let closed : Closing = c.args.closed.now in
    let none : c.lanes.passes.items ≡ [] = none_left c.lanes.passes.items (omega (arith, c.lanes.passes.ok.0, c.in_default.ensures.cases.0)) in
    all_ended (HasCalled closed.told g.J.Naming.calls (journal_of closed.journal)) 32 c.lanes.passes.items c.lanes.works.items none c.lanes.invariant.2

pub returns-clause-read : goal.returns-clause-read
returns-clause-read g c =
    let none : c.lanes.passes.items ≡ [] = none_left c.lanes.passes.items (omega (arith, c.lanes.passes.ok.0, c.in_default.ensures.cases.0)) in
    all_ended (HasRead g.J.Naming.start c.args.closed.now.journal) 32 c.lanes.passes.items c.lanes.works.items none c.lanes.invariant.3
