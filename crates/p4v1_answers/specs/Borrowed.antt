-- What a client's message is, where it is one that servers send too.
use Rattle.std.specs.Prelude.{List, Option, Some, None}
use Rattle.p4_types.specs.declared.calls.Call.{Call}
use Rattle.p4_types.specs.declared.calls.Call.TheVariants as calls
use Rattle.p4_types.specs.declared.messages.Entity.{Entity}
use Rattle.p4_types.specs.declared.messages.Entity.TheVariants as entities
use Rattle.p4_types.specs.declared.messages.MasterArbitrationUpdate.{MasterArbitrationUpdate}
use Rattle.p4_types.specs.declared.messages.StreamMessageRequest.{StreamMessageRequest}
use Rattle.p4_types.specs.declared.messages.StreamMessageRequest.TheVariants as members
use Rattle.p4_types.specs.declared.messages.TableEntry.{TableEntry}

-- the entities that a call asks for, if it is a Read
abbrev pub entities_in : Call → Option (List (Option Entity))
entities_in (calls.Write request) = None
entities_in (calls.Read request) = Some request.entities
entities_in (calls.Set request) = None
entities_in (calls.Get request) = None
entities_in (calls.Stream message) = None
entities_in calls.Capabilities = None
entities_in (calls.Unreadable method) = None
entities_in calls.Leave = None

-- the arbitration that a stream message is
abbrev pub arbitration_of_member : Option StreamMessageRequest → Option MasterArbitrationUpdate
arbitration_of_member None = None
arbitration_of_member (Some (members.Arbitration update)) = Some update
arbitration_of_member (Some (members.Packet packet)) = None
arbitration_of_member (Some (members.DigestAck ack)) = None
arbitration_of_member (Some (members.Other other)) = None

-- the arbitration that a call is, if it is one
abbrev pub arbitration_in : Call → Option MasterArbitrationUpdate
arbitration_in (calls.Write request) = None
arbitration_in (calls.Read request) = None
arbitration_in (calls.Set request) = None
arbitration_in (calls.Get request) = None
arbitration_in (calls.Stream message) = arbitration_of_member message
arbitration_in calls.Capabilities = None
arbitration_in (calls.Unreadable method) = None
arbitration_in calls.Leave = None

-- the table entry that an entity is, if it is one
abbrev pub entry_in : Option Entity → Option TableEntry
entry_in None = None
entry_in (Some (entities.TableEntry entry)) = Some entry
entry_in (Some (entities.ActionProfileMember entry)) = None
entry_in (Some (entities.ActionProfileGroup entry)) = None
entry_in (Some (entities.CounterEntry entry)) = None
entry_in (Some (entities.DirectCounterEntry entry)) = None
entry_in (Some (entities.PacketReplicationEngineEntry entry)) = None
entry_in (Some (entities.DigestEntry entry)) = None
entry_in (Some (entities.Other member)) = None
