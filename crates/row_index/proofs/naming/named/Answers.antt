use Rattle.std.proofs.Common.{◌≡◌, ℕ, ◌<◌, ◌+◌, ◌⊎◌, inl, inr, Option, Some, None, false, refl, subst, sym, ◌∙◌, arith}
use Rattle.std.specs.Prelude.{slice_get, is_some}
use Rattle.std.proofs.lemmas.Option.{slice_get_within, same_Some}
use Rattle.row_index.specs.declared.asks.Ask.{Ask}
use Rattle.row_index.specs.Search.{IsOfShape}
use Rattle.row_index.proofs.Answering.{all_other, another_table}
use Rattle.row_index.proofs.naming.named.Goals as goal

earlier : (a b : ℕ) → a < b + 1 → (a ≡ b) ⊎ (a < b)
earlier a b lt = grind arith

none_there : (o : Option ℕ) → is_some o ≡ false → o ≡ None
none_there None e = refl
none_there (Some place) e = cc

pub loop-place-preserved : goal.loop-place-preserved
loop-place-preserved g c = λ k ask le lt at other of_shape. elim (earlier k c.loop-place.place lt) [
  | inl same ↦
      let own : ask ≡ c.ask_at-ask.result = same_Some ask c.ask_at-ask.result (sym (subst (λ n. slice_get c.args.shapes.now.asks.items n ≡ Some ask) same at) ∙ c.ask_at-ask.ensures.ask) in
      let none : c.named_of-found.result ≡ None = none_there c.named_of-found.result (sym c.is_some.ensures ∙ c.if-is_some.false) in
      (rw none at c.named_of-found.ensures.none) other (subst (λ (a : Ask). IsOfShape c.args.chains.now.places a.shape other) own of_shape)
  | inr before ↦ c.loop-place.invariant k ask le before at other of_shape
]

pub returns-clause-none : goal.returns-clause-none
returns-clause-none g c =
    all_other c.args.chains.now c.args.shapes.now.list.items c.args.shapes.now.asks.items (g.R.Rows.entry c.args.rows.now) c.args.name.now c.first_of-start.result c.loop-place.place c.requires c.first_of-start.ensures c.loop-place.invariant
    (λ k ask le at is. let lt = slice_get_within c.args.shapes.now.asks.items k ask at in omega (arith, lt, le))

pub returns-then-ask-name-clause-none : goal.returns-then-ask-name-clause-none
returns-then-ask-name-clause-none g c =
    all_other c.args.chains.now c.args.shapes.now.list.items c.args.shapes.now.asks.items (g.R.Rows.entry c.args.rows.now) c.args.name.now c.first_of-start.result c.loop-place.place c.requires c.first_of-start.ensures c.loop-place.invariant
    (λ k ask le at is. another_table c.args.shapes.now.asks.items c.args.name.now.table c.first_of-start.result c.loop-place.place k c.ask_at-ask.result ask c.requires.asked.order c.first_of-start.ensures (omega arith) c.ask_at-ask.ensures.ask (λ e. omega (arith, e)) le at is)
