use Rattle.std.proofs.Common.{◌≡◌, ℕ, ◌<◌, ◌+◌, ◌⊎◌, inl, inr, Some, subst, sym, ◌∙◌, arith}
use Rattle.std.specs.Prelude.{slice_get}
use Rattle.std.proofs.lemmas.Option.{slice_get_within, same_Some}
use Rattle.row_index.specs.declared.asks.Ask.{Ask}
use Rattle.row_index.specs.Search.{IsOfShape}
use Rattle.row_index.proofs.Answering.{all_covered, another_table, later_loses_at}
use Rattle.row_index.proofs.search.best.Goals as goal

earlier : (a b : ℕ) → a < b + 1 → (a ≡ b) ⊎ (a < b)
earlier a b lt = grind arith

pub loop-place-preserved : goal.loop-place-preserved
loop-place-preserved g c = record {
  hit = c.best_of-found.ensures.hit;
  linked = c.best_of-found.ensures.linked c.loop-place.invariant.linked;
  covered = λ k ask le lt at other of_shape. elim (earlier k c.loop-place.place lt) [
    | inl same ↦
        let own : ask ≡ c.ask_at-ask.result = same_Some ask c.ask_at-ask.result (sym (subst (λ n. slice_get c.args.shapes.now.asks.items n ≡ Some ask) same at) ∙ c.ask_at-ask.ensures.ask) in
        c.best_of-found.ensures.walked other (subst (λ (a : Ask). IsOfShape c.args.chains.now.places a.shape other) own of_shape)
    | inr before ↦ c.best_of-found.ensures.kept other (c.loop-place.invariant.covered k ask le before at other of_shape)
  ];
}

pub returns : goal.returns
returns g c = record {
  hit = c.loop-place.invariant.hit;
  linked = c.loop-place.invariant.linked;
  covered = all_covered c.args.chains.now c.args.shapes.now.list.items c.args.shapes.now.asks.items (g.R.Rows.entry c.args.rows.now) c.args.table c.args.key.now c.first_of-start.result c.loop-place.place c.loop-place.found c.requires c.first_of-start.ensures c.loop-place.invariant.covered
      (λ k ask le at is. let lt = slice_get_within c.args.shapes.now.asks.items k ask at in absurd (omega (arith, lt, le)));
}

pub returns-then-ask-table : goal.returns-then-ask-table
returns-then-ask-table g c = record {
  hit = c.loop-place.invariant.hit;
  linked = c.loop-place.invariant.linked;
  covered = all_covered c.args.chains.now c.args.shapes.now.list.items c.args.shapes.now.asks.items (g.R.Rows.entry c.args.rows.now) c.args.table c.args.key.now c.first_of-start.result c.loop-place.place c.loop-place.found c.requires c.first_of-start.ensures c.loop-place.invariant.covered
      (λ k ask le at is. absurd (another_table c.args.shapes.now.asks.items c.args.table c.first_of-start.result c.loop-place.place k c.ask_at-ask.result ask c.requires.asked.order c.first_of-start.ensures (omega arith) c.ask_at-ask.ensures.ask (λ e. omega (arith, e)) le at is));
}

pub returns-then-not-may_win : goal.returns-then-not-may_win
returns-then-not-may_win g c = record {
  hit = c.loop-place.invariant.hit;
  linked = c.loop-place.invariant.linked;
  covered = all_covered c.args.chains.now c.args.shapes.now.list.items c.args.shapes.now.asks.items (g.R.Rows.entry c.args.rows.now) c.args.table c.args.key.now c.first_of-start.result c.loop-place.place c.loop-place.found c.requires c.first_of-start.ensures c.loop-place.invariant.covered
      (λ k ask le at is.
      let of_table : c.ask_at-ask.result.table ≡ c.args.table = omega arith in
      later_loses_at c.args.shapes.now.asks.items c.loop-place.place k c.ask_at-ask.result ask c.loop-place.found c.requires.asked.order c.ask_at-ask.ensures.ask at le (of_table ∙ sym is) (sym c.may_win.ensures ∙ c.if-not-may_win.true));
}
