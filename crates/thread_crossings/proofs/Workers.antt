-- Who runs packets and counts may go to another thread, part by part.
use denote.Param.Send.{IsSend, IsSync, sendable}
use Rattle.std.proofs.Crossing.{crosses}
use Rattle.atomic_table.proofs.send_lease.SendLease.TheSendSync.{the_send as lease_send, the_sync as lease_sync}
use Rattle.atomic_table.proofs.shared.Seat.TheSendSync.{the_send as place_send}
use Rattle.atomic_table.proofs.shared.Shared.TheSendSync.{the_send as board_send, the_sync as board_sync}
use Rattle.counter_bank.specs.contracts.bank.Bank as Bank
use Rattle.counter_bank.specs.contracts.seat.Seat as Seat
use Rattle.lane_work.specs.contracts.work.LaneWork as LaneWork
use Rattle.p4_types.specs.contracts.records.Record as Record
use Rattle.pkt_worker.specs.contracts.running.Scratch as Scratch
use Rattle.pkt_worker.specs.contracts.verdict.Verdict as Verdict
use Rattle.snap_worker.specs.contracts.place.Place as ViewerPlace
use Rattle.snap_worker.specs.contracts.stay.Stay as Stay
use Rattle.snap_worker.specs.contracts.watch.Watch as Watch
use Rattle.snap_worker.specs.contracts.worker.Worker as Worker
use Rattle.thread_crossings.proofs.Snapshots.{view_send, viewer_send}

pub seat_send : IsSend (Seat.the_field).row
seat_send = search (place_send, sendable) depth 60 fits 20000

pub bank_send : IsSend (Bank.the_field).row
bank_send = search (board_send, lease_send, crosses, sendable) depth 60 fits 20000

pub bank_sync : IsSync (Bank.the_field).row
bank_sync = search (board_sync, lease_sync, crosses, sendable) depth 60 fits 20000

pub scratch_send : IsSend (Scratch.the_field).row
scratch_send = search (crosses, sendable) depth 60 fits 20000

pub verdict_send : IsSend (Verdict.the_field).row
verdict_send = search (crosses, sendable) depth 60 fits 20000

stay_send : IsSend (Stay.the_field).row
stay_send = search (view_send, sendable) depth 60 fits 20000

viewer_place_send : IsSend (ViewerPlace.the_field).row
viewer_place_send = search (viewer_send, stay_send, sendable) depth 60 fits 20000

watch_send : IsSend (Watch.the_field).row
watch_send = search (viewer_place_send, sendable) depth 60 fits 20000

pub worker_send : IsSend (Worker.the_field).row
worker_send = search (watch_send, seat_send, scratch_send, sendable) depth 60 fits 20000

pub record_send : IsSend (Record.the_field).row
record_send = search (crosses, sendable) depth 60 fits 20000

pub work_send : IsSend (LaneWork.the_field).row
work_send = search (worker_send, record_send, verdict_send, crosses, sendable) depth 60 fits 20000
