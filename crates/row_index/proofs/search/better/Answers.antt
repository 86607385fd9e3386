use Rattle.std.proofs.Common.{◌≡◌, false, true, sym, ap, subst, ◌∙◌}
use Rattle.row_index.specs.declared.found.Found.{Found}
use Rattle.row_index.proofs.Covering.{names_hit, not_hit, candidate_hit, candidate_covers, rest_covers, lead_covers}
use Rattle.row_index.proofs.search.better.Goals as goal

pub returns-then-not-hits : goal.returns-then-not-hits
returns-then-not-hits g c =
    let missed : names_hit c.args.table c.args.key.now c.name-name.result.now ≡ false = sym c.hits.ensures ∙ c.if-not-hits.true in
    record {
      hit = c.requires.best;
      here = not_hit (g.R.Rows.entry c.args.rows.now) c.args.table c.args.key.now c.args.place c.name-name.result.now c.name-name.ensures missed c.args.best;
      kept = λ other covered. covered;
      linked = λ linked here best. best;
    }

pub returns-then-takes_lead : goal.returns-then-takes_lead
returns-then-takes_lead g c =
    let hit : names_hit c.args.table c.args.key.now c.name-name.result.now ≡ true = sym c.hits.ensures ∙ c.if-not-hits.false in
    record {
      hit = candidate_hit (g.R.Rows.entry c.args.rows.now) c.args.table c.args.key.now c.args.place c.name-name.result.now c.name-name.ensures c.seq-seq.result c.seq-seq.ensures c.found_at-candidate.result c.found_at-candidate.ensures hit;
      here = candidate_covers (g.R.Rows.entry c.args.rows.now) c.args.table c.args.key.now c.args.place c.name-name.result.now c.name-name.ensures c.seq-seq.result c.seq-seq.ensures c.found_at-candidate.result c.found_at-candidate.ensures;
      kept = λ other covered. lead_covers (g.R.Rows.entry c.args.rows.now) c.args.table c.args.key.now c.found_at-candidate.result c.args.best other (sym c.takes_lead.ensures ∙ c.if-takes_lead.true) covered;
      linked = λ linked here best. subst (λ n. linked n ≡ true) (sym (ap (λ (f : Found). f.place) c.found_at-candidate.ensures)) here;
    }

pub returns : goal.returns
returns g c = record {
  hit = c.requires.best;
  here = rest_covers (g.R.Rows.entry c.args.rows.now) c.args.table c.args.key.now c.args.place c.name-name.result.now c.name-name.ensures c.seq-seq.result c.seq-seq.ensures c.found_at-candidate.result c.found_at-candidate.ensures c.args.best (sym c.takes_lead.ensures ∙ c.if-takes_lead.false);
  kept = λ other covered. covered;
  linked = λ linked here best. best;
}
