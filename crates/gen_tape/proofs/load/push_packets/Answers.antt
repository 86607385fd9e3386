use Rattle.std.proofs.Common.{◌≡◌, ℕ, ◌++◌, map, subst, arith}
use Rattle.run_spec.specs.Text.{count_up}
use Rattle.gen_tape.specs.Generated.{sending}
use Rattle.gen_tape.proofs.Counting.{made_more}
use Rattle.gen_tape.proofs.load.push_packets.Goals as goal

pub loop-j-preserved : goal.loop-j-preserved
loop-j-preserved c =
    made_more (sending c.args.number) c.loop-j.j c.in_ok-item.item c.args.items.now.items c.loop-j.items.items c.push.new.self.items c.loop-j.invariant c.in_ok-item.ensures c.in_ok-push.ensures.items

pub returns : goal.returns
returns c =
    let end : c.loop-j.j ≡ c.args.count = omega arith in
    subst (λ (n : ℕ). c.loop-j.items.items ≡ c.args.items.now.items ++ map (sending c.args.number) (count_up 0 n)) end c.loop-j.invariant
