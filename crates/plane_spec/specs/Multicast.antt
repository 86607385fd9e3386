-- Multicast groups, and the rules of their updates in order (P4Runtime 1.3.0, "PacketReplicationEngineEntry", "MulticastGroupEntry"; limits, order and some codes: this project's profile).
use Rattle.std.specs.Prelude.{ℕ, ◌+◌, ◌==◌, ◌&&◌, ◌||◌, not, nat_lt, nat_le, Bool, true, false, if◌then◌else◌, List, [], ◌∷◌, ◌++◌, length, filter, find, Option, Some, None, is_some, Result, Err}
use Rattle.std.specs.List.{list_all, list_any}
use Rattle.p4_types.specs.declared.code.Cause.{Cause}
use Rattle.p4_types.specs.declared.code.Code.{Code}
use Rattle.p4_types.specs.declared.code.Code.TheVariants as codes
use Rattle.p4_types.specs.declared.code.Rule.TheVariants as rules
use Rattle.p4_types.specs.declared.messages.MulticastGroupEntry.{MulticastGroupEntry}
use Rattle.p4_types.specs.declared.messages.Replica.{Replica}
use Rattle.p4_types.specs.declared.multicast.MulticastChange.{MulticastChange}
use Rattle.p4_types.specs.declared.multicast.MulticastChange.TheVariants as multicast_changes
use Rattle.p4_types.specs.declared.multicast.MulticastGroup.{MulticastGroup}
use Rattle.p4_types.specs.declared.table.Change.{Change}
use Rattle.p4_types.specs.declared.table.Change.TheVariants as changes
use Rattle.p4_types.specs.declared.table.UpdateKind.{UpdateKind}
use Rattle.p4_types.specs.declared.table.UpdateKind.TheVariants as kinds
use Rattle.plane_spec.specs.UpdateRules.{brings, caused, caused_by, change_unless}

-- ---- groups

-- how many multicast groups a plane may have
abbrev pub multicast_limit : ℕ
multicast_limit = 1024

-- how many replicas a multicast group may have
abbrev pub replica_limit : ℕ
replica_limit = 32

-- the multicast group of this id, if there is one
abbrev pub multicast_of : ℕ → List MulticastGroup → Option MulticastGroup
multicast_of id groups = find (λ group. group.id == id) groups

-- the replicas of a multicast group; one that is absent has none
abbrev pub replicas_in : Option MulticastGroup → List Replica
replicas_in None = []
replicas_in (Some group) = group.replicas

-- how many rows a multicast group takes: one, and one for each replica
abbrev pub multicast_rows : MulticastGroup → ℕ
multicast_rows group = 1 + length group.replicas

-- a multicast group in the place of the one of its id, if there was one; they stand by rising id
abbrev pub with_multicast : MulticastGroup → List MulticastGroup → List MulticastGroup
with_multicast group groups = filter (λ other. nat_lt other.id group.id) groups ++ group ∷ filter (λ other. nat_lt group.id other.id) groups

-- the multicast groups after a change of one
abbrev pub multicast_changed : List MulticastGroup → MulticastChange → List MulticastGroup
multicast_changed groups (multicast_changes.Insert group) = with_multicast group groups
multicast_changed groups (multicast_changes.Modify group) = with_multicast group groups
multicast_changed groups (multicast_changes.Delete id) = filter (λ other. not (other.id == id)) groups

-- ---- rules

-- a number of 16 bits that is not 0
abbrev pub is_multicast_id : ℕ → Bool
is_multicast_id id = not (id == 0) && nat_le id 65535

-- a port at which a packet can leave, and an instance of 16 bits
abbrev pub is_replica : Replica → Bool
is_replica replica = nat_le replica.egress_port 510 && nat_le replica.instance 65535

-- two replicas have the same port and instance
abbrev pub same_replica : Replica → Replica → Bool
same_replica one other = (one.egress_port == other.egress_port) && (one.instance == other.instance)

-- some replica stands twice
abbrev pub repeats_replica : List Replica → Bool
repeats_replica [] = false
repeats_replica (replica ∷ replicas) = list_any (same_replica replica) replicas || repeats_replica replicas

-- U9 on the replicas of a multicast group: at most 32, each in range, none twice
abbrev pub are_replicas : List Replica → Bool
are_replicas replicas = nat_le (length replicas) replica_limit && list_all is_replica replicas && not (repeats_replica replicas)

-- the code with which U9 refuses a multicast group that an update brings, if it does
abbrev pub multicast_flaw : UpdateKind → MulticastGroupEntry → Option Code
multicast_flaw kind entry = if brings kind && not (are_replicas entry.replicas) then Some codes.InvalidArgument else None

-- The first rule of U4 to U9 that an update of a multicast group breaks. Its id is none of the P4Info's, so that only a role that may write all may write it.
unfoldable pub multicast_cause : Option (List ℕ) → UpdateKind → MulticastGroupEntry → Option Cause
multicast_cause scope kind entry =
    if is_some scope then caused rules.U4 codes.PermissionDenied else
    if not (is_multicast_id entry.multicast_group_id) then caused rules.U6 codes.InvalidArgument else
    caused_by rules.U9 (multicast_flaw kind entry)

-- the multicast group that an update brings
abbrev pub multicast_by : MulticastGroupEntry → MulticastGroup
multicast_by entry = record { id = entry.multicast_group_id; replicas = entry.replicas }

-- what an update of a multicast group changes
abbrev pub multicast_change : UpdateKind → MulticastGroupEntry → MulticastChange
multicast_change kinds.Insert entry = multicast_changes.Insert (multicast_by entry)
multicast_change kinds.Modify entry = multicast_changes.Modify (multicast_by entry)
multicast_change kinds.Delete entry = multicast_changes.Delete entry.multicast_group_id

-- an update of a multicast group: the first rule of U4 to U9 that it breaks, or what it changes
abbrev pub multicast_resolution : Option (List ℕ) → UpdateKind → MulticastGroupEntry → Result Change Cause
multicast_resolution scope kind entry = change_unless (multicast_cause scope kind entry) (changes.Multicast (multicast_change kind entry))

-- an update of a replication entry, where U2 asks for a multicast group
abbrev pub replication_resolution : Option (List ℕ) → UpdateKind → Option MulticastGroupEntry → Result Change Cause
replication_resolution scope kind None = Err (record { rule = rules.U2; code = codes.Unimplemented })
replication_resolution scope kind (Some entry) = multicast_resolution scope kind entry
