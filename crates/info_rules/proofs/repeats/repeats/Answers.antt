use Rattle.std.proofs.Common.{nat_lt, length, ap, ◌∙◌}
use Rattle.std.proofs.lemmas.Map.Views.{btree_set_len-from_list}
use Rattle.info_rules.proofs.repeats.repeats.Goals as goal

pub returns : goal.returns
returns g c = ap (λ n. nat_lt n (length c.args.items.now)) (c.len.ensures.len ∙ btree_set_len-from_list g.met.T.Ord.total c.args.items.now _ c.in_ok-set.ensures)
