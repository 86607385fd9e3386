use Rattle.std.proofs.Common.{◌≡◌, ◌-◌, ◌^◌, ◌≤◌, ℕ, length, Option, ap, subst, ◌∙◌, arith}
use Rattle.lane_work.proofs.Running.{after_run, ran, ran_behind}
use Rattle.lane_work.proofs.work.LaneWork.run.Goals as goal
use Rattle.lane_work.specs.Work.{Work, Ran, with_last}
use Rattle.plane_spec.specs.Legal.{Legal}
use Rattle.plane_spec.specs.Planes.{opened}
use Rattle.pub_snap.specs.Beginnings.{Beginning}
use Rattle.snap_worker.specs.Working.{Working}

pub returns-clause-ran : goal.returns-clause-ran
returns-clause-ran c =
    let i = c.self.inside in
    let w : Working = c.process.new.self in
    let did = c.in_ok-process.ensures in
    let before : Work = record {
      who = i.who;
      told = i.worker.told;
      refusals = i.worker.refusals;
      steps = i.worker.steps;
      records = with_last i.who i.records i.is_due i.worker.steps i.worker.receiver i.verdict;
      seat = i.worker.seat;
    } in
    let same : c.record_last.new.records ≡ before.records =
    c.in_ok-record_last.ensures.recorded
    ∙ ap (λ (n : ℕ). with_last i.who i.records i.is_due n c.receiver-receiver.result i.verdict) c.steps-steps.ensures
    ∙ ap (λ (o : Option ℕ). with_last i.who i.records i.is_due i.worker.steps o i.verdict) c.receiver-receiver.ensures in
    let told = c.told.ensures in
    let legal = c.len-events.ensures.legal in
    let few : length w.told.events ≤ 2 ^ 64 - 1 = omega (arith, c.len-events.ensures.length, c.len-events.type_inv, ap (λ (t : Beginning). length t.events) told) in
    let one = ran c.args.port c.args.packet.now before w.told w.refusals w.steps w.receiver w.seat c.process.new.out did.begins (subst (λ (t : Beginning). Legal (opened t.start) t.events) told legal) few did.verdict did.steps did.later did.receiver did.counted did.refusals in
    let all = ran_behind c.args.port c.args.packet.now before c.record_last.new.records w.told w.refusals w.steps w.receiver w.seat c.process.new.out same one in
    subst (λ (b : Work). Ran c.args.port c.args.packet.now b (after_run before c.record_last.new.records w.told w.refusals w.steps w.receiver w.seat c.process.new.out)) c.self.view_is all
