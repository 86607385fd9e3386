-- Who makes calls may go to another thread, and threads may share the desk, part by part.
use denote.RattleType.{RattleType}
use denote.Param.Send.{IsSend, IsSync, sendable}
use Rattle.std.proofs.Crossing.{crosses}
use Rattle.atomic_table.proofs.send_lease.SendLease.TheSendSync.{the_send as lease_send, the_sync as lease_sync}
use Rattle.atomic_table.proofs.shared.Seat.TheSendSync.{the_send as place_send}
use Rattle.atomic_table.proofs.shared.Shared.TheSendSync.{the_send as board_send, the_sync as board_sync}
use Rattle.desk_crossings.proofs.Mail.{desk_told_send, mail_send}
use Rattle.live_desk.specs.contracts.call_steps.CallSteps as CallSteps
use Rattle.live_desk.specs.contracts.desk.LiveDesk as LiveDesk
use Rattle.live_desk.specs.contracts.desk_worker.DeskWorker as DeskWorker
use Rattle.live_desk.specs.contracts.line.Line as Line
use Rattle.live_desk.specs.contracts.live.Live as Live
use Rattle.live_desk.specs.contracts.locked.Locked as Locked
use Rattle.live_desk.specs.contracts.pass.Pass as Pass
use Rattle.live_desk.specs.declared.naming.Naming as naming
use Rattle.p4_types.specs.contracts.records.Output as Output
use Rattle.thread_crossings.proofs.Desks.{control_send}
use Rattle.thread_crossings.proofs.Snapshots.{publisher_send, told_send}
use Rattle.thread_crossings.proofs.Workers.{bank_send, bank_sync, worker_send}

steps_send : IsSend (CallSteps.the_field).row
steps_send = search (crosses, sendable) depth 60 fits 20000

output_send : IsSend (Output.the_field).row
output_send = search (crosses, sendable) depth 60 fits 20000

pub pass_send : (J : RattleType) (g : naming.Ghosts J.Denot) → IsSend J → IsSend (Pass.the_field J g).row
pass_send J g s = search (worker_send, told_send, output_send, steps_send, place_send, crosses, sendable) depth 60 fits 20000

pub desk_worker_send : (J : RattleType) (g : naming.Ghosts J.Denot) → IsSend J → IsSend (DeskWorker.the_field J g).row
desk_worker_send J g s = search (worker_send, crosses, sendable) depth 60 fits 20000

line_send : (J R : RattleType) (g : naming.Ghosts J.Denot) → IsSend J → IsSend R → IsSend (Line.the_field J R g).row
line_send J R g s t = search (publisher_send, crosses, sendable) depth 60 fits 20000

locked_send : (J R : RattleType) (g : naming.Ghosts J.Denot) → IsSend J → IsSend R → IsSend (Locked.the_field J R g).row
locked_send J R g s t = search (line_send, control_send, steps_send, place_send, crosses, sendable) depth 60 fits 20000

live_send : (J R : RattleType) (g : naming.Ghosts J.Denot) → IsSend J → IsSend R → IsSend (Live.the_field J R g).row
live_send J R g s t = search (locked_send, mail_send, desk_told_send, crosses, sendable) depth 60 fits 20000

pub desk_send : (J R : RattleType) (g : naming.Ghosts J.Denot) → IsSend J → IsSend R → IsSend (LiveDesk.the_field J R g).row
desk_send J R g s t = search (live_send, bank_send, steps_send, board_send, lease_send, crosses, sendable) depth 60 fits 20000

pub desk_sync : (J R : RattleType) (g : naming.Ghosts J.Denot) → IsSend J → IsSend R → IsSync R → IsSync (LiveDesk.the_field J R g).row
desk_sync J R g s t u = search (live_send, bank_sync, steps_send, board_sync, lease_sync, crosses, sendable) depth 60 fits 20000
