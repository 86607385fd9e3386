use Rattle.std.proofs.Common.{◌≡◌, ◌+◌, ◌-◌, ◌++◌, ◌∷◌, [], ℕ, List, subst, sym, arith}
use Rattle.ctl_lock.specs.Passing.{Passing}
use Rattle.replay_run.proofs.Lanes.{GoesOn, all_done_at, one_done_at}
use Rattle.replay_run.proofs.passes.open_callers.Goals as goal
use Rattle.replay_run.specs.Opening.{IsAsker}

pub lanes-preserved : goal.lanes-preserved
lanes-preserved g c =
    let i = c.lanes.invariant in
    let fewer : ℕ = c.lanes.lane - 1 in
    let one : c.lanes.lane ≡ fewer + 1 = omega (arith, c.lanes-test.true) in
    let more : c.lanes.passes.items ++ c.in_ok-pass.pass ∷ [] ≡ c.push.new.self.items = sym c.in_ok-push.ensures.items in
    let goes : GoesOn IsAsker fewer 32 (c.lanes.passes.items ++ c.in_ok-pass.pass ∷ []) = one_done_at IsAsker c.lanes.lane fewer 32 c.lanes.passes.items c.in_ok-pass.pass one i.5 c.in_ok-pass.ensures.pass in (
      omega (arith, i.0),
      c.next_caller.ensures.places,
      c.next_caller.ensures.calls,
      c.next_caller.ensures.posts,
      omega (arith, i.4, c.next_caller.ensures.fewer, one),
      subst (λ (l : List Passing). GoesOn IsAsker fewer 32 l) more goes,
    )

pub returns-clause-passes : goal.returns-clause-passes
returns-clause-passes g c = all_done_at IsAsker c.lanes.lane 32 c.lanes.passes.items (omega (arith, c.lanes-test.false)) c.lanes.invariant.5
