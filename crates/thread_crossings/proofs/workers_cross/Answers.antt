use denote.Param.Send.{sendable}
use Rattle.thread_crossings.proofs.Workers.{seat_send, work_send, worker_send}
use Rattle.thread_crossings.proofs.workers_cross.Goals as goal

pub goes-requires : goal.goes-requires
goes-requires c = search (seat_send, sendable) depth 20

pub goes-requires-2 : goal.goes-requires-2
goes-requires-2 c = search (worker_send, sendable) depth 20

pub goes-requires-3 : goal.goes-requires-3
goes-requires-3 c = search (work_send, sendable) depth 20
