use denote.Param.Send.{sendable}
use Rattle.thread_crossings.proofs.Images.{image_send, image_sync}
use Rattle.thread_crossings.proofs.Snapshots.{told_send, told_sync}
use Rattle.thread_crossings.proofs.Workers.{bank_send, bank_sync}
use Rattle.thread_crossings.proofs.states_cross.Goals as goal

pub goes-requires : goal.goes-requires
goes-requires c = search (image_send, sendable) depth 20

pub is_shared-requires : goal.is_shared-requires
is_shared-requires c = search (image_sync, sendable) depth 20

pub goes-requires-2 : goal.goes-requires-2
goes-requires-2 c = search (told_send, sendable) depth 20

pub is_shared-requires-2 : goal.is_shared-requires-2
is_shared-requires-2 c = search (told_sync, sendable) depth 20

pub goes-requires-3 : goal.goes-requires-3
goes-requires-3 c = search (bank_send, sendable) depth 20

pub is_shared-requires-3 : goal.is_shared-requires-3
is_shared-requires-3 c = search (bank_sync, sendable) depth 20
