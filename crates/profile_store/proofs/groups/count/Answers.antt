use Rattle.std.proofs.Common.{ltb, leb, rules, arith}
use Rattle.std.proofs.lemmas.List.Sorted.{IsPartitionedBy-ltb, IsPartitionedBy-leb, IsPartitionPoint-from_clause}
use Rattle.p4_types.specs.declared.profiles.Group.{Group}
use Rattle.profile_store.specs.declared.rows.GroupRow.{GroupRow}
use Rattle.profile_store.specs.Order.{group_key}
use Rattle.profile_store.proofs.Counting.{profiles_rise, counted}
use Rattle.profile_store.proofs.groups.count.Goals as goal

pub overflow_sub-result : goal.overflow_sub-result
overflow_sub-result c =
    let rise = profiles_rise group_key _ c.requires in
    let first = IsPartitionPoint-from_clause (λ (row : GroupRow). ltb row.group.profile c.args.profile) _ _ c.partition_point-start.ensures.partitioned (IsPartitionedBy-ltb (λ (row : GroupRow). row.group.profile) _ c.args.profile rise) (λ a r f called. search rules) in
    let last = IsPartitionPoint-from_clause (λ (row : GroupRow). leb row.group.profile c.args.profile) _ _ c.partition_point-end.ensures.partitioned (IsPartitionedBy-leb (λ (row : GroupRow). row.group.profile) _ c.args.profile rise) (λ a r f called. search rules) in
    omega (arith, counted (λ (group : Group). group.profile) (λ (row : GroupRow). row.group) c.args.profile _ _ _ c.partition_point-start.ensures.bound c.partition_point-end.ensures.bound first last)

pub returns : goal.returns
returns c =
    let rise = profiles_rise group_key _ c.requires in
    let first = IsPartitionPoint-from_clause (λ (row : GroupRow). ltb row.group.profile c.args.profile) _ _ c.partition_point-start.ensures.partitioned (IsPartitionedBy-ltb (λ (row : GroupRow). row.group.profile) _ c.args.profile rise) (λ a r f called. search rules) in
    let last = IsPartitionPoint-from_clause (λ (row : GroupRow). leb row.group.profile c.args.profile) _ _ c.partition_point-end.ensures.partitioned (IsPartitionedBy-leb (λ (row : GroupRow). row.group.profile) _ c.args.profile rise) (λ a r f called. search rules) in
    omega (arith, counted (λ (group : Group). group.profile) (λ (row : GroupRow). row.group) c.args.profile _ _ _ c.partition_point-start.ensures.bound c.partition_point-end.ensures.bound first last)
