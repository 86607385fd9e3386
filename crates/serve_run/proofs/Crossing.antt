-- What makes the calls of a connection may go to another thread.
use denote.RattleType.{RattleType}
use denote.Param.Send.{IsSend, sendable}
use Rattle.std.proofs.Crossing.{crosses}
use Rattle.desk_crossings.proofs.Desks.{pass_send}
use Rattle.live_desk.specs.declared.naming.Naming as naming
use Rattle.serve_run.specs.contracts.link_pass.LinkPass as LinkPass
use Rattle.thread_crossings.proofs.Workers.{verdict_send}

pub link_pass_send : (J : RattleType) (g : naming.Ghosts J.Denot) → IsSend J → IsSend (LinkPass.the_field J g).row
link_pass_send J g s = search (pass_send, verdict_send, crosses, sendable) depth 60 fits 20000
