use Rattle.p4info_model.proofs.Validity.{valid}
use Rattle.p4info_model.proofs.valid.P4Info.of.Goals as goal

pub invariant_of-result : goal.invariant_of-result
invariant_of-result c = record {
  made = (c.args.message, c.requires, c.in_ok-info.ensures.meaning);
  valid = rw c.in_ok-info.ensures.meaning (valid c.args.message c.requires);
  sizes = c.in_ok-info.ensures.sizes;
  places = c.in_ok-index.ensures;
}
