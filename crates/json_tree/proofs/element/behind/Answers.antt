use Rattle.std.proofs.Common.{◌+◌, ◌-◌, length, drop, sym, subst, arith}
use Rattle.std.proofs.lemmas.List.{take_all, length-drop}
use Rattle.json_tree.specs.Nodes.{AreSound}
use Rattle.json_tree.proofs.Places.{sound_behind}
use Rattle.json_tree.proofs.element.behind.Goals as goal

pub returns-clause-sound : goal.returns-clause-sound
returns-clause-sound c =
    let ns = c.args.nodes.now in
    let k = c.inside_of-inside.result + 1 in
    subst (AreSound c.args._text.now) (sym (take_all (length ns - k) (drop k ns) (omega (arith, length-drop k ns)))) (sound_behind c.args._text.now k ns c.requires.0)
