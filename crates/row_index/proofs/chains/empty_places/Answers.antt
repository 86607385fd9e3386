use Rattle.std.proofs.Common.{◌≡◌, Option, None, replicate, [], ◌∷◌, ◌++◌, subst, ap, ◌∙◌, arith}
use Rattle.row_index.specs.declared.placed.Placed.{Placed}
use Rattle.row_index.proofs.Opening.{replicate_more}
use Rattle.row_index.proofs.chains.empty_places.Goals as goal

pub loop-preserved : goal.loop-preserved
loop-preserved c = let none : Option Placed = None in let e = c.in_ok-push.ensures.items in let i = c.loop.invariant in let m = replicate_more c.loop.counter none in e ∙ ap (λ xs. xs ++ None ∷ []) i ∙ m

pub returns : goal.returns
returns c = let n : c.loop.counter ≡ c.args.count = omega arith in subst (λ n. c.loop.places.items ≡ replicate n None) n c.loop.invariant
