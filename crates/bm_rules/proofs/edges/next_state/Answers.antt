use Rattle.std.proofs.Common.{ap, sym, ◌∙◌}
use Rattle.bm_rules.specs.Names.{place_of}
use Rattle.bm_rules.specs.Graphs.{next_state}
use Rattle.bm_rules.proofs.edges.next_state.Goals as goal

pub returns-in-Some : goal.returns-in-Some
returns-in-Some c =
    c.place_of.ensures.place ∙ (ap (λ name. place_of (λ x. x.name) name c.args.states.now) c.as_str.ensures ∙ sym (ap (next_state c.args.states.now) c.in-Some.is))
