use Rattle.std.proofs.Common.{refl}
use Rattle.digest_lists.proofs.laws.worked_run.Goals as goal

pub returns : goal.returns
returns c = refl
