use Rattle.digest_lists.proofs.EachOnce.{each_once}
use Rattle.digest_lists.proofs.laws.each_once.Goals as goal

pub returns : goal.returns
returns c = each_once
