use Rattle.std.proofs.Common.{◌≡◌, ◌+◌, ◌-◌, ◌++◌, ◌∷◌, [], ℕ, List, subst, sym, arith}
use Rattle.replay_run.proofs.Lanes.{GoesOn, all_done_at, one_done_at}
use Rattle.replay_run.proofs.passes.open_workers.Goals as goal
use Rattle.replay_run.specs.Opening.{IsTaker}
use Rattle.run_lanes.specs.Packets.{PacketPassing}

pub lanes-preserved : goal.lanes-preserved
lanes-preserved g c =
    let i = c.lanes.invariant in
    let fewer : ℕ = c.lanes.lane - 1 in
    let one : c.lanes.lane ≡ fewer + 1 = omega (arith, c.lanes-test.true) in
    let more : c.lanes.passes.items ++ c.in_ok-pass.pass ∷ [] ≡ c.push.new.self.items = sym c.in_ok-push.ensures.items in
    let goes : GoesOn IsTaker fewer 16 (c.lanes.passes.items ++ c.in_ok-pass.pass ∷ []) = one_done_at IsTaker c.lanes.lane fewer 16 c.lanes.passes.items c.in_ok-pass.pass one i.4 c.in_ok-pass.ensures.pass in (
      omega (arith, i.0),
      c.next_worker.ensures.items,
      c.next_worker.ensures.posts,
      omega (arith, i.3, c.next_worker.ensures.fewer, one),
      subst (λ (l : List PacketPassing). GoesOn IsTaker fewer 16 l) more goes,
    )

pub returns : goal.returns
returns g c = record { passes = all_done_at IsTaker c.lanes.lane 16 c.lanes.passes.items (omega (arith, c.lanes-test.false)) c.lanes.invariant.4 }
