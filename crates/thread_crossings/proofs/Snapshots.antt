-- Who lets the published list grow and who sees it may go to another thread, part by part.
use denote.RattleType.{RattleType}
use denote.Param.Send.{IsSend, IsSync, sendable}
use Rattle.std.proofs.Crossing.{crosses}
use Rattle.atomic_table.proofs.send_lease.SendLease.TheSendSync.{the_send as lease_send, the_sync as lease_sync}
use Rattle.atomic_table.proofs.shared.Seat.TheSendSync.{the_send as place_send}
use Rattle.atomic_table.proofs.shared.Shared.TheSendSync.{the_send as board_send, the_sync as board_sync}
use Rattle.left_right.proofs.part.Deed.TheSendSync.{the_send as deed_send}
use Rattle.left_right.proofs.part.Part.TheSendSync.{the_send as part_send}
use Rattle.logbook.proofs.tokens.Seen.TheSendSync.{the_send as seen_send, the_sync as seen_sync}
use Rattle.logbook.proofs.word.Word.TheSendSync.{the_send as word_send}
use Rattle.p4_types.specs.contracts.events.Committed as Committed
use Rattle.p4_types.specs.contracts.events.Event as Event
use Rattle.p4_types.specs.contracts.ids.Ids as Ids
use Rattle.p4_types.specs.contracts.profiles.ProfileChange as ProfileChange
use Rattle.p4_types.specs.contracts.shared.Shared as Shared
use Rattle.p4_types.specs.contracts.table.ActionCall as ActionCall
use Rattle.p4_types.specs.contracts.table.Change as Change
use Rattle.p4_types.specs.contracts.table.DigestChange as DigestChange
use Rattle.p4_types.specs.contracts.table.EntryChange as EntryChange
use Rattle.p4_types.specs.contracts.table.EntryName as EntryName
use Rattle.plane_state.specs.contracts.config.Config as Config
use Rattle.pub_snap.specs.contracts.publisher.Publisher as Publisher
use Rattle.pub_snap.specs.contracts.shown.Shifting as Shifting
use Rattle.pub_snap.specs.contracts.shown.Shown as Shown
use Rattle.pub_snap.specs.contracts.told.Told as Told
use Rattle.pub_snap.specs.contracts.viewer.View as View
use Rattle.pub_snap.specs.contracts.viewer.Viewer as Viewer
use Rattle.thread_crossings.proofs.Images.{config_send, config_sync, entry_action_send, image_send, image_sync}

ids_send : IsSend (Ids.the_field).row
ids_send = search (crosses, sendable) depth 60 fits 20000

action_call_send : IsSend (ActionCall.the_field).row
action_call_send = search (crosses, sendable) depth 60 fits 20000

entry_name_send : IsSend (EntryName.the_field).row
entry_name_send = search (crosses, sendable) depth 60 fits 20000

entry_change_send : IsSend (EntryChange.the_field).row
entry_change_send = search (entry_name_send, entry_action_send, crosses, sendable) depth 60 fits 20000

profile_change_send : IsSend (ProfileChange.the_field).row
profile_change_send = search (action_call_send, crosses, sendable) depth 60 fits 20000

digest_change_send : IsSend (DigestChange.the_field).row
digest_change_send = search (crosses, sendable) depth 60 fits 20000

change_send : IsSend (Change.the_field).row
change_send = search (action_call_send, entry_name_send, entry_change_send, profile_change_send, digest_change_send, sendable) depth 60 fits 20000

shared_send : IsSend (Shared.the_field (Config.the_field).row).row
shared_send = search (config_send, config_sync, crosses, sendable) depth 60 fits 20000

committed_send : IsSend (Committed.the_field (Config.the_field).row).row
committed_send = search (shared_send, sendable) depth 60 fits 20000

event_send : IsSend (Event.the_field (Config.the_field).row).row
event_send = search (ids_send, change_send, shared_send, committed_send, crosses, sendable) depth 60 fits 20000

pub told_send : IsSend (Told.the_field).row
told_send = search (seen_send, sendable) depth 60 fits 20000

pub told_sync : IsSync (Told.the_field).row
told_sync = search (seen_sync, sendable) depth 60 fits 20000

shown_send : IsSend (Shown.the_field).row
shown_send = search (image_send, told_send, sendable) depth 60 fits 20000

shown_sync : IsSync (Shown.the_field).row
shown_sync = search (image_sync, told_sync, sendable) depth 60 fits 20000

shifting_send : IsSend (Shifting.the_field).row
shifting_send = search (event_send, told_send, sendable) depth 60 fits 20000

pub viewer_send : IsSend (Viewer.the_field).row
viewer_send = search (told_send, shown_sync, part_send, place_send, board_send, board_sync, lease_send, lease_sync, crosses, sendable) depth 60 fits 20000

pub view_send : IsSend (View.the_field).row
view_send = search (shown_sync, part_send, place_send, board_send, board_sync, lease_send, lease_sync, crosses, sendable) depth 60 fits 20000

pub publisher_send : (R : RattleType) → IsSend R → IsSend (Publisher.the_field R).row
publisher_send R s = search (event_send, told_send, shown_send, shown_sync, shifting_send, deed_send, part_send, place_send, board_send, board_sync, lease_send, lease_sync, word_send, crosses, sendable) depth 60 fits 20000
