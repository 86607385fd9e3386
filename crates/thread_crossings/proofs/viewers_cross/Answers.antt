use denote.Param.Send.{sendable}
use Rattle.thread_crossings.proofs.Snapshots.{publisher_send, view_send, viewer_send}
use Rattle.thread_crossings.proofs.viewers_cross.Goals as goal

pub goes-requires : goal.goes-requires
goes-requires g c = search (publisher_send, sendable) depth 20

pub goes-requires-2 : goal.goes-requires-2
goes-requires-2 g c = search (viewer_send, sendable) depth 20

pub goes-requires-3 : goal.goes-requires-3
goes-requires-3 g c = search (view_send, sendable) depth 20
