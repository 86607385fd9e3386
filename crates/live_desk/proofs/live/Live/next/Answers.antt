use Rattle.std.proofs.Common.{sym}
use Rattle.live_desk.proofs.Giving.{given_next}
use Rattle.live_desk.proofs.live.Live.next.Goals as goal

pub returns-clause-given : goal.returns-clause-given
returns-clause-given g c =
    given_next c.args.self.now (record { locking = c.self.inside.locked; mail = c.self.inside.mail; moment = c.self.inside.moment }) c.primary-primary.result c.max-self-inside.result c.args.lane
    c.next.result c.next.new.self (sym c.self.view_is) c.primary-primary.ensures.primary c.next.ensures.given
