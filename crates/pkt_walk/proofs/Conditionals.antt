-- What a conditional does.
use Rattle.std.proofs.Common.{◌≡◌, ◌∙◌, sym, ap, subst, ℕ, cond, List, [], ◌++◌, refl, Option, Some, None}
use Rattle.std.proofs.lemmas.List.{append-nil}
use Rattle.std.specs.Prelude.{slice_get}
use Rattle.act_exec.specs.Marks.{Marked}
use Rattle.bm_expr.specs.Meaning.{truth_value, TruthInStore}
use Rattle.bm_expr.specs.Store.{Contents}
use Rattle.bm_pipeline.specs.declared.program.Program.{Program}
use Rattle.bm_pipeline.specs.declared.tables.Conditional.{Conditional}
use Rattle.bm_pipeline.specs.declared.tables.Node.{Node}
use Rattle.bm_pipeline.specs.declared.tables.Node.TheVariants as nodes
use Rattle.bm_pipeline.specs.Validity.{IsConditional}
use Rattle.p4_types.specs.declared.records.HitMark.{HitMark}
use Rattle.packet_spec.specs.Walking.{conditional_done, node_done}
use Rattle.pkt_codec.proofs.Inside.{condition_in}
use Rattle.pkt_codec.specs.Room.{HasRoom}
use Rattle.pkt_walk.specs.Turns.{walk_at, walk_behind}
use Rattle.plane_spec.specs.Planes.{Plane}

-- the expression of a conditional may be asked of a store with room for the program
pub asked_in : (program : Program) (store : Contents) (conditional : Conditional) → HasRoom program store → IsConditional program conditional → TruthInStore store [] conditional.expression
asked_in program store conditional room is = condition_in program store room (Some conditional.expression) is.expression

nothing_more : (hits : List HitMark) → hits ++ [] ++ [] ≡ hits
nothing_more hits = append-nil (hits ++ []) ∙ append-nil hits

-- a conditional leads on by what holds, and hits nothing
pub leads_on : (plane : Plane) (place : ℕ) (store : Contents) (before after : Marked) (conditional : Conditional) (next : Option Node)
    → slice_get plane.config.program.conditionals place ≡ Some conditional → after ≡ record before { counted = [] }
    → next ≡ cond (truth_value store [] conditional.expression) conditional.true_next conditional.false_next
    → (hits : List HitMark) → node_done plane (nodes.Conditional place) (walk_at store before hits) ≡ record { walk = walk_behind plane store after None hits; next = next }
leads_on plane place store before after conditional next at is chosen hits =
    let Goal : Option Node → Marked → List HitMark → Type 0 =
    λ n marks all. conditional_done (Some conditional) (walk_at store before hits) ≡ record { walk = record { store = store; learned = marks.learned; hits = all }; next = n } in
    ap (λ o. conditional_done o (walk_at store before hits)) at
    ∙ subst (λ n. Goal n after (walk_behind plane store after None hits).hits) (sym chosen)
    (subst (λ marks. Goal (cond (truth_value store [] conditional.expression) conditional.true_next conditional.false_next) marks (walk_behind plane store marks None hits).hits) (sym is)
    (subst (λ all. Goal (cond (truth_value store [] conditional.expression) conditional.true_next conditional.false_next) before all) (sym (nothing_more hits)) refl))
