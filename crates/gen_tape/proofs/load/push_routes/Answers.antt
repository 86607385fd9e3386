use Rattle.std.proofs.Common.{◌≡◌, ℕ, ◌++◌, map, subst, arith}
use Rattle.run_spec.specs.Text.{count_up}
use Rattle.gen_tape.specs.Generated.{inserting}
use Rattle.gen_tape.proofs.Counting.{made_more}
use Rattle.gen_tape.proofs.load.push_routes.Goals as goal

pub loop-i-preserved : goal.loop-i-preserved
loop-i-preserved c = made_more inserting c.loop-i.i c.in_ok-item.item c.args.items.now.items c.loop-i.items.items c.push.new.self.items c.loop-i.invariant c.in_ok-item.ensures c.in_ok-push.ensures.items

pub returns : goal.returns
returns c =
    let end : c.loop-i.i ≡ c.args.count = omega arith in
    subst (λ (n : ℕ). c.loop-i.items.items ≡ c.args.items.now.items ++ map inserting (count_up 0 n)) end c.loop-i.invariant
