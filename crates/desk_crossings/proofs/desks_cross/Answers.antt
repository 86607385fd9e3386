use denote.Param.Send.{sendable}
use Rattle.desk_crossings.proofs.Desks.{desk_send, desk_sync}
use Rattle.desk_crossings.proofs.desks_cross.Goals as goal

pub goes-requires : goal.goes-requires
goes-requires g c = search (desk_send, sendable) depth 20

pub is_shared-requires : goal.is_shared-requires
is_shared-requires g c = search (desk_sync, sendable) depth 20
