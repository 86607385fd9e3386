use denote.Param.Send.{sendable}
use Rattle.desk_crossings.proofs.Desks.{desk_worker_send, pass_send}
use Rattle.desk_crossings.proofs.passes_cross.Goals as goal

pub goes-requires : goal.goes-requires
goes-requires g c = search (pass_send, sendable) depth 20

pub goes-requires-2 : goal.goes-requires-2
goes-requires-2 g c = search (desk_worker_send, sendable) depth 20
