use Rattle.std.proofs.Common.{◌≡◌, ◌∙◌, ◌++◌, ◌∷◌, [], ℕ, List, length, refl, subst, sym, arith}
use Rattle.std.specs.List.{AllByRecursion}
use Rattle.ctl_lock.specs.Calls.{journal_of}
use Rattle.ctl_lock.specs.Finishing.{Closing}
use Rattle.lane_work.specs.Work.{Work}
use Rattle.plane_spec.proofs.Lists.{All-snoc}
use Rattle.replay_run.proofs.Lanes.{GoesOn, all_ended, next_ended, none_ended, none_left}
use Rattle.replay_run.proofs.ending.end_workers.Goals as goal
use Rattle.replay_run.specs.Ends.{HasTaken, IsSeated}
use Rattle.run_lanes.specs.Gathered.{HasCarried, OfEach}
use Rattle.run_lanes.specs.Packets.{PacketPassing}

pub lanes-init : goal.lanes-init
lanes-init g c =
    let j = g.J.Naming in
    let closed = c.args.closed.now in
    let h = subst (λ (l : List PacketPassing). OfEach HasTaken 16 l) (sym c.from_vec-passes.ensures.items) c.requires.ended in
    let carried = none_ended HasTaken (HasCarried closed.told j.items (journal_of closed.journal)) 16 c.from_vec-passes.result.items c.new-works.result.items h c.new-works.ensures.items in
    (refl, carried.0, carried.1, subst (λ (l : List Work). AllByRecursion (IsSeated j.bank) l) (sym c.new-works.ensures.items) tt)

pub lanes-preserved : goal.lanes-preserved
lanes-preserved g c =
    let j = g.J.Naming in
    let closed : Closing = c.args.closed.now in
    let i = c.lanes.invariant in
    let pass : PacketPassing = c.in-Some.pass in
    let work : Work = c.in-Some-end_worker.work in
    let works : List Work = c.lanes.works.items in
    let did = c.in-Some-end_worker.ensures in
    let Carried : ℕ → Work → Type 0 = HasCarried closed.told j.items (journal_of closed.journal) in
    let there : Carried pass.lane work = subst (λ (d : Closing). HasCarried d.told j.items (journal_of d.journal) pass.lane work) i.0 did.carried in
    let carried = next_ended HasTaken Carried 16 c.lanes.passes.items c.pop_front.new.self.items pass works work i.1 c.in-Some.ensures.items i.2 (λ taken. subst (λ (l : ℕ). Carried l work) taken.lane_is there) in
    let seated : AllByRecursion (IsSeated j.bank) (works ++ work ∷ []) = All-snoc (IsSeated j.bank) works work i.3 (record { bank_is = did.own.bank_is; one_part = did.own.one_part }) in
    let more : works ++ work ∷ [] ≡ c.push.new.self.items = sym c.in_ok-push.ensures.items in (
      did.same ∙ i.0,
      carried.0,
      subst (λ (l : List Work). GoesOn Carried (length c.pop_front.new.self.items) 16 l) more carried.1,
      subst (λ (l : List Work). AllByRecursion (IsSeated j.bank) l) more seated,
    )

pub returns-clause-carried : goal.returns-clause-carried
returns-clause-carried g c =
    let closed : Closing = c.args.closed.now in
    let none : c.lanes.passes.items ≡ [] = none_left c.lanes.passes.items (omega (arith, c.lanes.passes.ok.0, c.in_default.ensures.cases.0)) in
    all_ended (HasCarried closed.told g.J.Naming.items (journal_of closed.journal)) 16 c.lanes.passes.items c.lanes.works.items none c.lanes.invariant.2
