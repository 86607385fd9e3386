use denote.Param.Send.{sendable}
use Rattle.thread_crossings.proofs.Desks.{met_send, pass_send}
use Rattle.thread_crossings.proofs.passes_cross.Goals as goal

pub goes-requires : goal.goes-requires
goes-requires g c = search (pass_send, sendable) depth 20

pub goes-requires-2 : goal.goes-requires-2
goes-requires-2 g c = search (met_send, sendable) depth 20
