use Rattle.std.proofs.Common.{rules}
use Rattle.std.proofs.lemmas.List.Sorted.{IsPartitionPoint-from_clause}
use Rattle.name_index.specs.Places.{is_below}
use Rattle.name_index.proofs.Ordered.{parted}
use Rattle.name_index.proofs.lookup.start_of.Goals as goal

pub returns : goal.returns
returns g c =
    IsPartitionPoint-from_clause (is_below g.T.Labelled.label c.args.objects.now c.args.name.now) _ _ c.partition_point.ensures.partitioned (parted g.T.Labelled.label c.args.objects.now c.args.places.now c.requires c.args.name.now)
    (λ a r f called. search rules)
