use Rattle.std.proofs.Common.{◌-◌, ◌<◌, length, drop, sym, ap, subst, arith}
use Rattle.std.proofs.lemmas.List.{take_all, length-drop}
use Rattle.json_tree.specs.Nodes.{AreSound}
use Rattle.json_tree.proofs.Places.{sound_behind}
use Rattle.json_tree.proofs.element.Items.element_at.Goals as goal

pub invariant_of-result : goal.invariant_of-result
invariant_of-result c =
    let text = c.self.inside.text.now in
    let ns = c.self.inside.nodes.now in
    let k = length ns - c.args.left in
    let long = length-drop k ns in
    let own = ap (λ v. length v.1.1) c.self.view_is in
    subst (λ l. AreSound text l × 0 < length l) (sym (take_all (length ns - k) (drop k ns) (omega arith))) (sound_behind text k ns c.self.invariant.0, omega (arith, c.requires.0, c.requires.1))
