-- What messages count as once they are written: an optional message in them whose fields are all defaults is not given.
use Rattle.std.specs.Prelude.{List, map, Option, Some, None}
use Rattle.std.specs.Option.{option_map}
use Rattle.p4_types.specs.declared.messages.ActionProfileAction.{ActionProfileAction}
use Rattle.p4_types.specs.declared.messages.ActionProfileActionSet.{ActionProfileActionSet}
use Rattle.p4_types.specs.declared.messages.ActionProfileMember.{ActionProfileMember}
use Rattle.p4_types.specs.declared.messages.CounterEntry.{CounterEntry}
use Rattle.p4_types.specs.declared.messages.DirectCounterEntry.{DirectCounterEntry}
use Rattle.p4_types.specs.declared.messages.Entity.{Entity}
use Rattle.p4_types.specs.declared.messages.ForwardingPipelineConfig.{ForwardingPipelineConfig}
use Rattle.p4_types.specs.declared.messages.GetForwardingPipelineConfigResponse.{GetForwardingPipelineConfigResponse}
use Rattle.p4_types.specs.declared.messages.IdleTimeoutNotification.{IdleTimeoutNotification}
use Rattle.p4_types.specs.declared.messages.MasterArbitrationUpdate.{MasterArbitrationUpdate}
use Rattle.p4_types.specs.declared.messages.ReadResponse.{ReadResponse}
use Rattle.p4_types.specs.declared.messages.Role.{Role}
use Rattle.p4_types.specs.declared.messages.StreamMessageResponse.{StreamMessageResponse}
use Rattle.p4_types.specs.declared.messages.TableAction.{TableAction}
use Rattle.p4_types.specs.declared.messages.TableEntry.{TableEntry}
use Rattle.p4_types.specs.declared.messages.Entity.TheVariants as entities
use Rattle.p4_types.specs.declared.messages.StreamMessageResponse.TheVariants as responses
use Rattle.p4_types.specs.declared.messages.TableAction.TheVariants as actions
use Rattle.wire_messages.specs.Written.{Carried, payloads, sent}
use Rattle.p4v1_wire.specs.StatusRows.{any_rows}
use Rattle.p4v1_wire.specs.EntityRows.{action_rows, table_action_rows, counter_data_rows, table_entry_rows}
use Rattle.p4v1_wire.specs.StreamRows.{role_rows}
use Rattle.p4v1_wire.specs.ResponseRows.{cookie_rows}
use Rattle.p4v1_wire.specs.ReadBack.{counted, itself}

-- an ActionProfileAction: its action is not given where all fields of the action are defaults
abbrev pub profile_action_counted : ActionProfileAction → ActionProfileAction
profile_action_counted m = record m { action = counted action_rows itself m.action }

-- an ActionProfileActionSet: each of its actions as above
abbrev pub action_set_counted : ActionProfileActionSet → ActionProfileActionSet
action_set_counted m = record m { action_profile_actions = map profile_action_counted m.action_profile_actions }

-- a TableAction, a choice that may have no member: its member stays, an ActionProfileActionSet as above
abbrev pub table_action_counted : Option TableAction → Option TableAction
table_action_counted None = None
table_action_counted (Some (actions.Action action)) = Some (actions.Action action)
table_action_counted (Some (actions.ActionProfileMemberId id)) = Some (actions.ActionProfileMemberId id)
table_action_counted (Some (actions.ActionProfileGroupId id)) = Some (actions.ActionProfileGroupId id)
table_action_counted (Some (actions.ActionProfileActionSet set)) = Some (actions.ActionProfileActionSet (action_set_counted set))

-- a TableEntry: an action (as above) without a member, and counter data of defaults alone, are not given
abbrev pub table_entry_counted : TableEntry → TableEntry
table_entry_counted m = record m { action = counted table_action_rows table_action_counted m.action; counter_data = counted counter_data_rows itself m.counter_data }

-- an ActionProfileMember: its action is not given where all fields of the action are defaults
abbrev pub profile_member_counted : ActionProfileMember → ActionProfileMember
profile_member_counted m = record m { action = counted action_rows itself m.action }

-- a CounterEntry: its data are not given where both counts are 0
abbrev pub counter_entry_counted : CounterEntry → CounterEntry
counter_entry_counted m = record m { content = counted counter_data_rows itself m.content }

-- a DirectCounterEntry: a table entry (as above) of defaults alone, and data of which both counts are 0, are not given
abbrev pub direct_counter_entry_counted : DirectCounterEntry → DirectCounterEntry
direct_counter_entry_counted m = record { table_entry = counted table_entry_rows table_entry_counted m.table_entry; content = counted counter_data_rows itself m.content }

-- an entity that is not served is written without a member
abbrev pub entity_counted : Entity → Option Entity
entity_counted (entities.TableEntry m) = Some (entities.TableEntry (table_entry_counted m))
entity_counted (entities.ActionProfileMember m) = Some (entities.ActionProfileMember (profile_member_counted m))
entity_counted (entities.ActionProfileGroup m) = Some (entities.ActionProfileGroup m)
entity_counted (entities.CounterEntry m) = Some (entities.CounterEntry (counter_entry_counted m))
entity_counted (entities.DirectCounterEntry m) = Some (entities.DirectCounterEntry (direct_counter_entry_counted m))
entity_counted (entities.PacketReplicationEngineEntry m) = Some (entities.PacketReplicationEngineEntry m)
entity_counted (entities.DigestEntry m) = Some (entities.DigestEntry m)
entity_counted (entities.Other member) = None

-- a Role: its config is not given where its type URL and its value are empty
abbrev pub role_counted : Role → Role
role_counted m = record m { config = counted any_rows itself m.config }

-- a MasterArbitrationUpdate: its role (as above) is not given where its id is 0 and it has no config
abbrev pub arbitration_counted : MasterArbitrationUpdate → MasterArbitrationUpdate
arbitration_counted m = record m { role = counted role_rows role_counted m.role }

-- a ForwardingPipelineConfig: its P4Info is not given where it has no bytes, and its cookie where it is 0
abbrev pub config_counted : ForwardingPipelineConfig → ForwardingPipelineConfig
config_counted m = record m { p4info = sent (payloads (Carried m.p4info)); cookie = counted cookie_rows itself m.cookie }

-- an IdleTimeoutNotification: each of its table entries as above
abbrev pub idle_timeout_counted : IdleTimeoutNotification → IdleTimeoutNotification
idle_timeout_counted m = record m { table_entry = map table_entry_counted m.table_entry }

-- a GetForwardingPipelineConfigResponse: its config, taken as above, stays given
abbrev pub get_response_counted : GetForwardingPipelineConfigResponse → GetForwardingPipelineConfigResponse
get_response_counted m = record m { config = option_map config_counted m.config }

-- a ReadResponse: each of its entities as above
abbrev pub read_response_counted : ReadResponse → List (Option Entity)
read_response_counted m = map entity_counted m.entities

-- a StreamMessageResponse: its member stays, an arbitration or an idle timeout as above
abbrev pub stream_counted : StreamMessageResponse → Option StreamMessageResponse
stream_counted (responses.Arbitration m) = Some (responses.Arbitration (arbitration_counted m))
stream_counted (responses.Packet m) = Some (responses.Packet m)
stream_counted (responses.Digest m) = Some (responses.Digest m)
stream_counted (responses.IdleTimeoutNotification m) = Some (responses.IdleTimeoutNotification (idle_timeout_counted m))
stream_counted (responses.Other m) = Some (responses.Other m)
stream_counted (responses.Error m) = Some (responses.Error m)
