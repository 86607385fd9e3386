use Rattle.std.proofs.Common.{◌≡◌, ℕ, replicate, [], ◌∷◌, ◌++◌, subst, ap, ◌∙◌, arith}
use Rattle.row_index.proofs.Opening.{replicate_more}
use Rattle.row_index.proofs.chains.zeros.Goals as goal

pub loop-preserved : goal.loop-preserved
loop-preserved c = let e = c.in_ok-push.ensures.items in let i = c.loop.invariant in let m = replicate_more {A = ℕ} c.loop.counter 0 in e ∙ ap (λ xs. xs ++ 0 ∷ []) i ∙ m

pub returns : goal.returns
returns c = let n : c.loop.counter ≡ c.args.count = omega arith in subst (λ n. c.loop.zeros.items ≡ replicate n 0) n c.loop.invariant
