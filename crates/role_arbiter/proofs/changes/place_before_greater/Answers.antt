use Rattle.std.proofs.Common.{sym}
use Rattle.role_arbiter.proofs.Places.{first_greater_none}
use Rattle.role_arbiter.proofs.changes.place_before_greater.Goals as goal

pub returns-in-None : goal.returns-in-None
returns-in-None c = first_greater_none c.args.sessions.now c.args.caller (sym c.in-None.ensures)
