-- Who makes calls may go to another thread, and threads may share the desk, part by part.
use denote.RattleType.{RattleType}
use denote.Param.Send.{IsSend, IsSync, sendable}
use Rattle.std.proofs.Crossing.{crosses}
use Rattle.atomic_table.proofs.send_lease.SendLease.TheSendSync.{the_send as lease_send, the_sync as lease_sync}
use Rattle.atomic_table.proofs.shared.Seat.TheSendSync.{the_send as place_send}
use Rattle.atomic_table.proofs.shared.Shared.TheSendSync.{the_send as board_send, the_sync as board_sync}
use Rattle.ctl_core.specs.contracts.control.Control as Control
use Rattle.ctl_lock.specs.contracts.desk.TapeDesk as TapeDesk
use Rattle.snap_worker.specs.contracts.loading.Loaded as Loaded
use Rattle.ctl_lock.specs.contracts.line.Line as Line
use Rattle.ctl_lock.specs.contracts.locked.Locked as Locked
use Rattle.ctl_lock.specs.contracts.met.Met as Met
use Rattle.ctl_lock.specs.contracts.met.Met.TheInside as inside
use Rattle.ctl_lock.specs.contracts.pass.CallPass as CallPass
use Rattle.ctl_lock.specs.contracts.signed.Signed as Signed
use Rattle.ctl_lock.specs.declared.naming.Naming as naming
use Rattle.p4_types.specs.contracts.journal.Entry as Entry
use Rattle.p4_types.specs.contracts.journal.Step as Step
use Rattle.switch_spec.specs.contracts.calls.LaneCall as LaneCall
use Rattle.thread_crossings.proofs.Images.{image_send}
use Rattle.thread_crossings.proofs.Replies.{reply_send}
use Rattle.thread_crossings.proofs.Snapshots.{publisher_send, told_send}
use Rattle.thread_crossings.proofs.Workers.{bank_send, bank_sync, work_send}

pub call_send : IsSend (LaneCall.the_field).row
call_send = search (crosses, sendable) depth 60 fits 20000

loaded_send : IsSend (Loaded.the_field).row
loaded_send = search (crosses, sendable) depth 60 fits 20000

step_send : IsSend (Step.the_field).row
step_send = search (crosses, sendable) depth 60 fits 20000

pub entry_send : IsSend (Entry.the_field).row
entry_send = search (step_send, reply_send, crosses, sendable) depth 60 fits 20000

pub signed_send : IsSend (Signed.the_field).row
signed_send = search (call_send, loaded_send, entry_send, sendable) depth 60 fits 20000

pub pass_send : (J : RattleType) (g : naming.Ghosts J.Denot) → IsSend J → IsSend (CallPass.the_field J g).row
pass_send J g s = search (work_send, call_send, signed_send, place_send, crosses, sendable) depth 60 fits 20000

met_inside_send : (J : RattleType) (g : naming.Ghosts J.Denot) → IsSend J → IsSend (inside.the_field J g).row
met_inside_send J g s = search (told_send, signed_send, place_send, crosses, sendable) depth 60 fits 20000

pub met_send : (J : RattleType) (g : naming.Ghosts J.Denot) → IsSend J → IsSend (Met.the_field J g).row
met_send J g s = search (met_inside_send, sendable) depth 20

pub control_send : IsSend (Control.the_field).row
control_send = search (image_send, sendable) depth 60 fits 20000

pub line_send : (J R : RattleType) (g : naming.Ghosts J.Denot) → IsSend J → IsSend R → IsSend (Line.the_field J R g).row
line_send J R g s t = search (publisher_send, crosses, sendable) depth 60 fits 20000

pub locked_send : (J R : RattleType) (g : naming.Ghosts J.Denot) → IsSend J → IsSend R → IsSend (Locked.the_field J R g).row
locked_send J R g s t = search (line_send, control_send, signed_send, place_send, crosses, sendable) depth 60 fits 20000

pub desk_send : (J R : RattleType) (g : naming.Ghosts J.Denot) → IsSend J → IsSend R → IsSend (TapeDesk.the_field J R g).row
desk_send J R g s t = search (locked_send, bank_send, signed_send, board_send, lease_send, crosses, sendable) depth 60 fits 20000

pub desk_sync : (J R : RattleType) (g : naming.Ghosts J.Denot) → IsSend J → IsSend R → IsSync (TapeDesk.the_field J R g).row
desk_sync J R g s t = search (locked_send, bank_sync, signed_send, board_sync, lease_sync, crosses, sendable) depth 60 fits 20000
