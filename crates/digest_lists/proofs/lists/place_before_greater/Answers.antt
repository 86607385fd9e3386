use Rattle.std.proofs.Common.{sym}
use Rattle.digest_lists.proofs.Places.{first_greater_none}
use Rattle.digest_lists.proofs.lists.place_before_greater.Goals as goal

pub returns-in-None : goal.returns-in-None
returns-in-None c = first_greater_none c.args.digests.now c.args.id (sym c.in-None.ensures)
