-- The reply to a call may go to another thread, part by part.
use denote.Param.Send.{IsSend, sendable}
use Rattle.std.proofs.Crossing.{crosses}
use Rattle.p4_types.specs.contracts.calls.Notice as Notice
use Rattle.p4_types.specs.contracts.calls.Reply as Reply
use Rattle.p4_types.specs.contracts.messages.Action as Action
use Rattle.p4_types.specs.contracts.messages.ActionProfileAction as ActionProfileAction
use Rattle.p4_types.specs.contracts.messages.ActionProfileActionSet as ActionProfileActionSet
use Rattle.p4_types.specs.contracts.messages.Any as Any
use Rattle.p4_types.specs.contracts.messages.DigestList as DigestList
use Rattle.p4_types.specs.contracts.messages.FieldMatch as FieldMatch
use Rattle.p4_types.specs.contracts.messages.FieldMatchKind as FieldMatchKind
use Rattle.p4_types.specs.contracts.messages.IdleTimeoutNotification as IdleTimeoutNotification
use Rattle.p4_types.specs.contracts.messages.MasterArbitrationUpdate as MasterArbitrationUpdate
use Rattle.p4_types.specs.contracts.messages.P4Data as P4Data
use Rattle.p4_types.specs.contracts.messages.PacketIn as PacketIn
use Rattle.p4_types.specs.contracts.messages.PacketOut as PacketOut
use Rattle.p4_types.specs.contracts.messages.Role as Role
use Rattle.p4_types.specs.contracts.messages.Status as Status
use Rattle.p4_types.specs.contracts.messages.StreamError as StreamError
use Rattle.p4_types.specs.contracts.messages.StreamErrorDetails as StreamErrorDetails
use Rattle.p4_types.specs.contracts.messages.StreamMessageResponse as StreamMessageResponse
use Rattle.p4_types.specs.contracts.messages.TableAction as TableAction
use Rattle.p4_types.specs.contracts.messages.TableEntry as TableEntry

any_send : IsSend (Any.the_field).row
any_send = search (crosses, sendable) depth 60 fits 20000

field_match_kind_send : IsSend (FieldMatchKind.the_field).row
field_match_kind_send = search (crosses, sendable) depth 60 fits 20000

field_match_send : IsSend (FieldMatch.the_field).row
field_match_send = search (field_match_kind_send, crosses, sendable) depth 60 fits 20000

action_send : IsSend (Action.the_field).row
action_send = search (crosses, sendable) depth 60 fits 20000

profile_action_send : IsSend (ActionProfileAction.the_field).row
profile_action_send = search (action_send, crosses, sendable) depth 60 fits 20000

action_set_send : IsSend (ActionProfileActionSet.the_field).row
action_set_send = search (profile_action_send, crosses, sendable) depth 60 fits 20000

table_action_send : IsSend (TableAction.the_field).row
table_action_send = search (action_send, action_set_send, crosses, sendable) depth 60 fits 20000

table_entry_send : IsSend (TableEntry.the_field).row
table_entry_send = search (field_match_send, table_action_send, crosses, sendable) depth 60 fits 20000

role_send : IsSend (Role.the_field).row
role_send = search (any_send, crosses, sendable) depth 60 fits 20000

status_send : IsSend (Status.the_field).row
status_send = search (any_send, crosses, sendable) depth 60 fits 20000

arbitration_send : IsSend (MasterArbitrationUpdate.the_field).row
arbitration_send = search (role_send, status_send, crosses, sendable) depth 60 fits 20000

packet_in_send : IsSend (PacketIn.the_field).row
packet_in_send = search (crosses, sendable) depth 60 fits 20000

packet_out_send : IsSend (PacketOut.the_field).row
packet_out_send = search (crosses, sendable) depth 60 fits 20000

pub data_send : IsSend (P4Data.the_field).row
data_send = search (crosses, sendable) depth 60 fits 20000

digest_send : IsSend (DigestList.the_field).row
digest_send = search (data_send, crosses, sendable) depth 60 fits 20000

idle_send : IsSend (IdleTimeoutNotification.the_field).row
idle_send = search (table_entry_send, crosses, sendable) depth 60 fits 20000

details_send : IsSend (StreamErrorDetails.the_field).row
details_send = search (packet_out_send, any_send, crosses, sendable) depth 60 fits 20000

stream_error_send : IsSend (StreamError.the_field).row
stream_error_send = search (details_send, crosses, sendable) depth 60 fits 20000

pub response_send : IsSend (StreamMessageResponse.the_field).row
response_send = search (arbitration_send, packet_in_send, digest_send, idle_send, any_send, stream_error_send, crosses, sendable) depth 60 fits 20000

notice_send : IsSend (Notice.the_field).row
notice_send = search (response_send, crosses, sendable) depth 60 fits 20000

pub reply_send : IsSend (Reply.the_field).row
reply_send = search (notice_send, crosses, sendable) depth 60 fits 20000
