use Rattle.std.proofs.Common.{◌≡◌, ◌+◌, ◌-◌, ◌++◌, ◌∷◌, [], ℕ, List, map, refl, ap, subst, sym, arith}
use Rattle.std.specs.List.{AllByRecursion}
use Rattle.plane_spec.proofs.Lists.{All-snoc}
use Rattle.live_desk.proofs.Lasts.{all_lanes, lanes_more}
use Rattle.live_desk.proofs.passes.open_passes.Goals as goal
use Rattle.live_desk.specs.Opening.{IsNew, lanes_below}
use Rattle.live_desk.specs.Passing.{Passing}

pub lanes-init : goal.lanes-init
lanes-init g c = (
  omega arith,
  c.requires.places,
  c.requires.workers,
  refl,
  ap (λ (l : List Passing). map (λ (p : Passing). p.lane) l ++ lanes_below 32) c.new-passes.ensures.items,
  subst (λ (l : List Passing). AllByRecursion (IsNew g.J.Naming.list g.J.Naming.start g.J.Naming.bank) l) (sym c.new-passes.ensures.items) tt,
)

pub lanes-preserved : goal.lanes-preserved
lanes-preserved g c =
    let i = c.lanes.invariant in
    let fewer : ℕ = c.lanes.lane - 1 in
    let one : c.lanes.lane ≡ fewer + 1 = omega (arith, c.lanes-test.true) in
    let more : c.lanes.passes.items ++ c.next_pass-pass.result ∷ [] ≡ c.push.new.self.items = sym c.in_ok-push.ensures.items in
    let lanes = lanes_more c.lanes.lane fewer 32 c.lanes.passes.items c.next_pass-pass.result one c.next_pass-pass.ensures.lane i.4 in
    let all = All-snoc (IsNew g.J.Naming.list g.J.Naming.start g.J.Naming.bank) c.lanes.passes.items c.next_pass-pass.result i.5 c.next_pass-pass.ensures.pass in (
      omega (arith, i.0),
      c.next_pass-pass.ensures.places,
      c.next_pass-pass.ensures.workers,
      omega (arith, i.3, c.next_pass-pass.ensures.fewer, one),
      subst (λ (l : List Passing). map (λ (p : Passing). p.lane) l ++ lanes_below fewer ≡ lanes_below 32) more lanes,
      subst (λ (l : List Passing). AllByRecursion (IsNew g.J.Naming.list g.J.Naming.start g.J.Naming.bank) l) more all,
    )

pub returns-clause-lanes : goal.returns-clause-lanes
returns-clause-lanes g c = all_lanes c.lanes.lane 32 c.lanes.passes.items (omega (arith, c.lanes-test.false)) c.lanes.invariant.4
