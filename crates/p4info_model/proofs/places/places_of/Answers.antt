use Rattle.std.proofs.Common.{◌≡◌, ◌==◌, ◌+◌, ℕ, List, Option, Some, None, ap, ◌∙◌, length, take, if◌then◌else◌, get_or, arith, ◌<◌}
use Rattle.std.proofs.lemmas.Grind.{common_steps}
use Rattle.std.specs.List.{position}
use Rattle.std.specs.Option.{option_or}
use Rattle.std.proofs.lemmas.List.{take_more}
use Rattle.p4info_model.proofs.Positions.{position_push}
use Rattle.p4info_model.proofs.places.places_of.Goals as goal

step : {X : Type 0} (f : X → ℕ) (xs : List X) (i : ℕ) (d : X) (q n : ℕ) (before after : Option ℕ) → i < length xs → n ≡ f (get_or xs i d) → before ≡ position (λ x. f x == q) (take i xs) → after ≡ option_or before (if n == q then Some i else None) → after ≡ position (λ x. f x == q) (take (i + 1) xs)
step f xs i d q n before after l e b a =
    rw (take_more xs i d l, position_push (λ x. f x == q) (take i xs) (get_or xs i d), ← b, ← e, length_front xs i l) a
  where
    length_front : {X : Type 0} (xs : List X) (i : ℕ) → i < length xs → length (take i xs) ≡ i
    length_front xs i l = grind (arith, common_steps)

pub loop-place-preserved : goal.loop-place-preserved
loop-place-preserved g c = λ q. step g.T.Identified.identity c.args.objects.now c.loop-place.place c.index-objects-place.result q c.id-id.result _ _ (omega arith) (c.id-id.ensures ∙ ap g.T.Identified.identity c.index-objects-place.is) (c.loop-place.invariant q) (c.in_ok-put_first.ensures q)
