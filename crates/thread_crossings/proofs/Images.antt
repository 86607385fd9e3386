-- The control state may go to another thread, part by part.
use denote.Param.Send.{IsSend, IsSync, sendable}
use Rattle.std.proofs.Crossing.{crosses}
use Rattle.std.proofs.MapsCrossing.{crosses as maps}
use Rattle.p4_types.specs.contracts.info.Table as InfoTable
use Rattle.p4_types.specs.contracts.info.Action as InfoAction
use Rattle.p4_types.specs.contracts.info.ActionProfile as InfoActionProfile
use Rattle.p4_types.specs.contracts.info.Counter as InfoCounter
use Rattle.p4_types.specs.contracts.info.DirectCounter as InfoDirectCounter
use Rattle.p4_types.specs.contracts.info.ControllerHeader as InfoControllerHeader
use Rattle.p4_types.specs.contracts.info.Digest as InfoDigest
use Rattle.p4_types.specs.contracts.info.Info as Info
use Rattle.p4_types.specs.contracts.table.Entry as Entry
use Rattle.p4_types.specs.contracts.table.EntryAction as EntryAction
use Rattle.p4info_model.specs.contracts.valid.P4Info as P4Info
use Rattle.match_index.specs.contracts.index.MatchIndex as MatchIndex
use Rattle.plane_image.specs.contracts.image.Image as Image
use Rattle.plane_state.specs.contracts.config.Config as Config
use Rattle.plane_state.specs.contracts.plane.Plane as Plane
use Rattle.profile_store.specs.contracts.store.ProfileStore as ProfileStore
use Rattle.role_arbiter.specs.contracts.undo.UndoRoles as UndoRoles
use Rattle.table_store.specs.contracts.store.TableStore as TableStore
use Rattle.thread_crossings.proofs.Programs.{pipeline_send, pipeline_sync}

info_table_send : IsSend (InfoTable.the_field).row
info_table_send = search (crosses, sendable) depth 60 fits 20000

info_action_send : IsSend (InfoAction.the_field).row
info_action_send = search (crosses, sendable) depth 60 fits 20000

info_action_profile_send : IsSend (InfoActionProfile.the_field).row
info_action_profile_send = search (crosses, sendable) depth 60 fits 20000

info_counter_send : IsSend (InfoCounter.the_field).row
info_counter_send = search (crosses, sendable) depth 60 fits 20000

info_direct_counter_send : IsSend (InfoDirectCounter.the_field).row
info_direct_counter_send = search (crosses, sendable) depth 60 fits 20000

info_controller_header_send : IsSend (InfoControllerHeader.the_field).row
info_controller_header_send = search (crosses, sendable) depth 60 fits 20000

info_digest_send : IsSend (InfoDigest.the_field).row
info_digest_send = search (crosses, sendable) depth 60 fits 20000

objects_send : IsSend (Info.the_field).row
objects_send = search (info_table_send, info_action_send, info_action_profile_send, info_counter_send, info_direct_counter_send, info_controller_header_send, info_digest_send, crosses, sendable) depth 60 fits 20000

info_send : IsSend (P4Info.the_field).row
info_send = search (objects_send, crosses, maps, sendable) depth 60 fits 20000

pub config_send : IsSend (Config.the_field).row
config_send = search (info_send, pipeline_send, crosses, sendable) depth 60 fits 20000

pub entry_action_send : IsSend (EntryAction.the_field).row
entry_action_send = search (crosses, sendable) depth 60 fits 20000

entry_send : IsSend (Entry.the_field).row
entry_send = search (entry_action_send, crosses, sendable) depth 60 fits 20000

info_table_sync : IsSync (InfoTable.the_field).row
info_table_sync = search (crosses, sendable) depth 60 fits 20000

info_action_sync : IsSync (InfoAction.the_field).row
info_action_sync = search (crosses, sendable) depth 60 fits 20000

info_action_profile_sync : IsSync (InfoActionProfile.the_field).row
info_action_profile_sync = search (crosses, sendable) depth 60 fits 20000

info_counter_sync : IsSync (InfoCounter.the_field).row
info_counter_sync = search (crosses, sendable) depth 60 fits 20000

info_direct_counter_sync : IsSync (InfoDirectCounter.the_field).row
info_direct_counter_sync = search (crosses, sendable) depth 60 fits 20000

info_controller_header_sync : IsSync (InfoControllerHeader.the_field).row
info_controller_header_sync = search (crosses, sendable) depth 60 fits 20000

info_digest_sync : IsSync (InfoDigest.the_field).row
info_digest_sync = search (crosses, sendable) depth 60 fits 20000

objects_sync : IsSync (Info.the_field).row
objects_sync = search (info_table_sync, info_action_sync, info_action_profile_sync, info_counter_sync, info_direct_counter_sync, info_controller_header_sync, info_digest_sync, crosses, sendable) depth 60 fits 20000

info_sync : IsSync (P4Info.the_field).row
info_sync = search (objects_sync, crosses, maps, sendable) depth 60 fits 20000

pub config_sync : IsSync (Config.the_field).row
config_sync = search (info_sync, pipeline_sync, crosses, sendable) depth 60 fits 20000

entry_action_sync : IsSync (EntryAction.the_field).row
entry_action_sync = search (crosses, sendable) depth 60 fits 20000

entry_sync : IsSync (Entry.the_field).row
entry_sync = search (entry_action_sync, crosses, sendable) depth 60 fits 20000

index_send : IsSend (MatchIndex.the_field).row
index_send = search (crosses, maps, sendable) depth 60 fits 20000

store_send : IsSend (TableStore.the_field).row
store_send = search (entry_send, index_send, crosses, sendable) depth 60 fits 20000

profiles_send : IsSend (ProfileStore.the_field).row
profiles_send = search (crosses, sendable) depth 60 fits 20000

roles_send : IsSend (UndoRoles.the_field).row
roles_send = search (crosses, sendable) depth 60 fits 20000

index_sync : IsSync (MatchIndex.the_field).row
index_sync = search (crosses, maps, sendable) depth 60 fits 20000

store_sync : IsSync (TableStore.the_field).row
store_sync = search (entry_sync, index_sync, crosses, sendable) depth 60 fits 20000

profiles_sync : IsSync (ProfileStore.the_field).row
profiles_sync = search (crosses, sendable) depth 60 fits 20000

roles_sync : IsSync (UndoRoles.the_field).row
roles_sync = search (crosses, sendable) depth 60 fits 20000

plane_send : IsSend (Plane.the_field).row
plane_send = search (config_send, config_sync, store_send, profiles_send, crosses, sendable) depth 60 fits 20000

pub image_send : IsSend (Image.the_field).row
image_send = search (plane_send, roles_send, crosses, sendable) depth 60 fits 20000

plane_sync : IsSync (Plane.the_field).row
plane_sync = search (config_send, config_sync, store_sync, profiles_sync, crosses, sendable) depth 60 fits 20000

pub image_sync : IsSync (Image.the_field).row
image_sync = search (plane_sync, roles_sync, crosses, sendable) depth 60 fits 20000
