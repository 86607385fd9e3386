use Rattle.std.proofs.Common.{rules}
use Rattle.p4info_model.proofs.index.Index.of.Goals as goal

pub returns : goal.returns
returns c = record {
  tables = search rules;
  actions = search rules;
  action_profiles = search rules;
  counters = search rules;
  digests = search rules;
}
