use Rattle.std.proofs.Common.{◌≡◌, ◌∙◌, sym, ap, length, take, drop, arith}
use Rattle.std.proofs.lemmas.Grind.{common_steps}
use Rattle.sw_edge.proofs.Copied.{taken-front}
use Rattle.sw_edge.proofs.held.Pieces.read_into.Goals as goal

pub returns-clause-taken : goal.returns-clause-taken
returns-clause-taken c =
    let len : length c.copy_from_slice.new.self ≡ c.min-n.result = grind (arith, common_steps) in
    let is : c.copy_from_slice.new.self ≡ take c.min-n.result (drop c.self.inside.at c.self.inside.bytes.items) = grind (arith, common_steps) in
    sym (ap (λ u. u.left) c.self.view_is) ∙ taken-front _ c.args.buf.now _ c.self.inside.at c.min-n.result len is
