use Rattle.std.proofs.Common.{not, ap, sym, ◌∙◌}
use Rattle.bm_rules.specs.Names.{name_nothing}
use Rattle.bm_rules.specs.References.{optional_name, node_names}
use Rattle.bm_rules.proofs.Nothing.{of_node}
use Rattle.bm_rules.proofs.nexts.optional_lacks.Goals as goal

pub returns-in-Some : goal.returns-in-Some
returns-in-Some c =
    ap not c.is_node.ensures ∙ (sym (of_node c.args.nodes.now.pipeline.now _) ∙ ap (λ name. name_nothing (node_names c.args.nodes.now.pipeline.now) (optional_name name)) (sym c.in-Some.is))
