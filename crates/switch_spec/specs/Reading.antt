-- What a Read selects, and how it is answered (P4Runtime 1.3.0, "Read RPC"; order and size of the messages: this project's profile).
use Rattle.std.specs.Prelude.{◌≡◌, ℕ, zero, suc, ◌+◌, ◌-◌, ◌^◌, min, ℤ, pos, negsuc, ◌==◌, ◌&&◌, ◌||◌, not, nat_lt, nat_le, Bool, true, false, if◌then◌else◌, List, [], ◌∷◌, map, filter, find, take, drop, length, Option, Some, None, is_some, Result, Ok, Err}
use Rattle.std.specs.List.{filter_map, flat_map, list_any}
use Rattle.std.specs.Ordering.{int_eq}
use Rattle.p4_types.specs.declared.code.Code.{Code}
use Rattle.p4_types.specs.declared.code.Code.TheVariants as codes
use Rattle.p4_types.specs.declared.info.Counter.{Counter}
use Rattle.p4_types.specs.declared.info.Info.{Info}
use Rattle.p4_types.specs.declared.info.Table.{Table}
use Rattle.p4_types.specs.declared.messages.ActionProfileGroup.{ActionProfileGroup}
use Rattle.p4_types.specs.declared.messages.ActionProfileMember.{ActionProfileMember}
use Rattle.p4_types.specs.declared.messages.CounterData.{CounterData}
use Rattle.p4_types.specs.declared.messages.CounterEntry.{CounterEntry}
use Rattle.p4_types.specs.declared.messages.DigestEntry.{DigestEntry}
use Rattle.p4_types.specs.declared.messages.DirectCounterEntry.{DirectCounterEntry}
use Rattle.p4_types.specs.declared.messages.Entity.{Entity}
use Rattle.p4_types.specs.declared.messages.Entity.TheVariants as entities
use Rattle.p4_types.specs.declared.messages.Index.{Index}
use Rattle.p4_types.specs.declared.messages.MulticastGroupEntry.{MulticastGroupEntry}
use Rattle.p4_types.specs.declared.messages.PacketReplicationEngineEntry.{PacketReplicationEngineEntry}
use Rattle.p4_types.specs.declared.messages.ReadRequest.{ReadRequest}
use Rattle.p4_types.specs.declared.messages.TableEntry.{TableEntry}
use Rattle.p4_types.specs.declared.table.Entry.{Entry}
use Rattle.p4v1_wire.specs.ResponseRows.{read_response_rows}
use Rattle.p4v1_wire.specs.Rows.{fields_by}
use Rattle.wire_fields.specs.Spelling.{spelling}
use Rattle.plane_spec.specs.Planes.{ControlState, Plane, target, default_entry}
use Rattle.plane_spec.specs.Entries.{same_name}
use Rattle.plane_spec.specs.Objects.{table_of, action_profile_of, digest_of}
use Rattle.switch_spec.specs.Counts.{Figures}
use Rattle.switch_spec.specs.declared.cells.Cells.{Cells}
use Rattle.plane_spec.specs.UpdateRules.{is_zero, has_match, is_malformed_match, is_too_wide, is_canonical_match, name_of}
use Rattle.plane_spec.specs.Shown.{by_rising, shown_member, shown_group, shown_multicast, shown_entry, shown_default, shown_name}

-- a match breaks U6, U7 or U8 in its own part
abbrev pub match_refusal : Table → TableEntry → Option Code
match_refusal table asked =
    if not (has_match asked) then None else
    if is_malformed_match table asked then Some codes.InvalidArgument else
    if is_too_wide table asked then Some codes.OutOfRange else
    if is_canonical_match table asked then None else Some codes.InvalidArgument

-- why an entry of one table that is asked for is refused, if it is: there is no such table, or by its match
abbrev pub entry_refusal_in : Option Table → TableEntry → Option Code
entry_refusal_in None asked = Some codes.NotFound
entry_refusal_in (Some table) asked = match_refusal table asked

-- the id 0 asks for all tables, and then for no match
abbrev pub entry_refusal : Info → TableEntry → Option Code
entry_refusal info asked =
    if asked.table_id == 0 then (if has_match asked then Some codes.InvalidArgument else None)
    else entry_refusal_in (table_of asked.table_id info) asked

-- why an id that is asked for is refused: it is not 0, and there is no such object
abbrev pub id_refusal : ℕ → Bool → Option Code
id_refusal id known = if (id == 0) || known then None else Some codes.NotFound

-- the indirect counter with this id, if the program has one
abbrev pub counter_of : ℕ → Info → Option Counter
counter_of id info = find (λ counter. counter.preamble.id == id) info.counters

-- why the table entry of a direct counter that is asked for is refused; without one, all are asked for
abbrev pub direct_refusal : Info → Option TableEntry → Option Code
direct_refusal info None = None
direct_refusal info (Some asked) = entry_refusal info asked

-- why a replication entry that is asked for is refused: it has no multicast group
abbrev pub replication_refusal : Option MulticastGroupEntry → Option Code
replication_refusal None = Some codes.Unimplemented
replication_refusal (Some asked) = None

-- why an entity that is asked for is refused
abbrev pub entity_refusal : Info → Option Entity → Option Code
entity_refusal info (Some (entities.TableEntry asked)) = entry_refusal info asked
entity_refusal info (Some (entities.ActionProfileMember asked)) = id_refusal asked.action_profile_id (is_some (action_profile_of asked.action_profile_id info))
entity_refusal info (Some (entities.ActionProfileGroup asked)) = id_refusal asked.action_profile_id (is_some (action_profile_of asked.action_profile_id info))
entity_refusal info (Some (entities.CounterEntry asked)) = id_refusal asked.counter_id (is_some (counter_of asked.counter_id info))
entity_refusal info (Some (entities.DirectCounterEntry asked)) = direct_refusal info asked.table_entry
entity_refusal info (Some (entities.PacketReplicationEngineEntry asked)) = replication_refusal asked.multicast_group_entry
entity_refusal info (Some (entities.DigestEntry asked)) = id_refusal asked.digest_id (is_some (digest_of asked.digest_id info))
entity_refusal info _ = Some codes.Unimplemented

-- the first that there is
abbrev pub first_of : List (Option Code) → Option Code
first_of [] = None
first_of (Some code ∷ others) = Some code
first_of (None ∷ others) = first_of others

-- a table that is asked for: the one of that id, or any where the id is 0
abbrev pub is_asked : TableEntry → ℕ → Bool
is_asked asked table = (asked.table_id == 0) || (table == asked.table_id)

-- by its match and priority where a match is given, else by the priority if that is not 0
abbrev pub selects_in : Option Table → TableEntry → Entry → Bool
selects_in None asked entry = is_zero asked.priority || int_eq entry.name.priority asked.priority
selects_in (Some table) asked entry =
    if has_match asked then same_name (name_of (Some table) asked) entry.name else is_zero asked.priority || int_eq entry.name.priority asked.priority

-- whether a Read of a table entry selects an entry: of a table that is asked for, and by match and priority
abbrev pub selects : Option Table → TableEntry → Entry → Bool
selects table asked entry = is_asked asked entry.name.table && selects_in table asked entry

-- the tables by rising id
abbrev pub table_ids : Info → List ℕ
table_ids info = by_rising (λ id. id) (map (λ table. table.preamble.id) info.tables)

-- default entries have no priority
abbrev pub selected_defaults : Plane → TableEntry → List TableEntry
selected_defaults plane asked =
    if is_zero asked.priority then map (shown_default plane.config.info) (filter_map (default_entry plane) (filter (is_asked asked) (table_ids plane.config.info))) else []

-- what is answered for a table entry that is asked for
abbrev pub selected_entries : Plane → TableEntry → List TableEntry
selected_entries plane asked =
    if asked.is_default_action then selected_defaults plane asked
    else map (shown_entry plane.config.info) (filter (selects (table_of asked.table_id plane.config.info) asked) plane.entries)

-- an object that is asked for by its id: the one of that id, or any where the id is 0
abbrev pub is_asked_id : ℕ → ℕ → Bool
is_asked_id asked id = (asked == 0) || (id == asked)

-- the members that are asked for, by profile and id, each as it is answered
abbrev pub selected_members : Plane → ActionProfileMember → List ActionProfileMember
selected_members plane asked =
    map (shown_member plane.config.info) (filter (λ member. is_asked_id asked.action_profile_id member.profile && is_asked_id asked.member_id member.id) plane.members)

-- the groups that are asked for, in the same way
abbrev pub selected_groups : Plane → ActionProfileGroup → List ActionProfileGroup
selected_groups plane asked = map shown_group (filter (λ group. is_asked_id asked.action_profile_id group.profile && is_asked_id asked.group_id group.id) plane.groups)

-- the digest entries that are asked for
abbrev pub selected_digests : Plane → DigestEntry → List DigestEntry
selected_digests plane asked = filter (λ entry. is_asked_id asked.digest_id entry.digest_id) plane.digests

-- the multicast groups that are asked for, by rising id
abbrev pub selected_multicast : Plane → Option MulticastGroupEntry → List PacketReplicationEngineEntry
selected_multicast plane None = []
selected_multicast plane (Some asked) = map shown_multicast (filter (λ group. is_asked_id asked.multicast_group_id group.id) plane.multicast)

-- a figure as a number of its type (int64); those that are counted are far below its greatest
abbrev pub count_number : ℕ → ℤ
count_number count = pos (min count (2 ^ 63 - 1))

-- what a counter has counted as it is answered (CounterData)
abbrev pub shown_data : ℕ × ℕ → CounterData
shown_data x = record { byte_count = count_number x.1; packet_count = count_number x.0 }

-- a cell of a counter as it is answered
abbrev pub shown_cell : Figures → ℕ → ℕ → ℕ → CounterEntry
shown_cell g counter slot index = record { counter_id = counter; index = Some (record { index = count_number index }); content = Some (shown_data (g slot)) }

-- so many cells of a counter, from this slot and this index on
abbrev pub shown_cells : ℕ → Figures → ℕ → ℕ → ℕ → List CounterEntry
shown_cells zero g counter slot index = []
shown_cells (suc more) g counter slot index = shown_cell g counter slot index ∷ shown_cells more g counter (slot + 1) (index + 1)

-- where the cells of counters stand, which have the slots from this one on
abbrev pub cells_at : ℕ → List Counter → List Cells
cells_at slot [] = []
cells_at slot (counter ∷ counters) = (record { counter = counter.preamble.id; first = slot; size = counter.size }) ∷ cells_at (slot + counter.size) counters

-- the cell of an index, if the counter has it
abbrev pub cell_of_index : Figures → Cells → ℤ → List CounterEntry
cell_of_index g cells (pos index) = if nat_lt index cells.size then shown_cell g cells.counter (cells.first + index) index ∷ [] else []
cell_of_index g cells (negsuc index) = []

-- the cells of a counter that are asked for: that of an index, or all
abbrev pub selected_cells : Figures → Option Index → Cells → List CounterEntry
selected_cells g None cells = shown_cells cells.size g cells.counter cells.first 0
selected_cells g (Some asked) cells = cell_of_index g cells asked.index

-- the cells that are asked for, by rising id of the counter, those of one counter by rising index
abbrev pub selected_counters : Figures → Plane → CounterEntry → List CounterEntry
selected_counters g plane asked =
    flat_map (selected_cells g asked.index) (filter (λ cells. is_asked_id asked.counter_id cells.counter) (by_rising (λ cells. cells.counter) (cells_at plane.cells plane.config.info.counters)))

-- the direct counter of an entry that has this slot, as it is answered; an entry without a slot has none
abbrev pub shown_direct_by : Figures → Info → Entry → Option ℕ → Option DirectCounterEntry
shown_direct_by g info entry None = None
shown_direct_by g info entry (Some slot) = Some (record { table_entry = Some (shown_name info entry); content = Some (shown_data (g slot)) })

-- the direct counter of an entry, if its table has one, as it is answered
abbrev pub shown_direct : Figures → Info → Entry → Option DirectCounterEntry
shown_direct g info entry = shown_direct_by g info entry entry.slot

-- the entries whose direct counters are asked for: those that their table entry asks for, never a default entry; without one all
abbrev pub counted_entries : Plane → Option TableEntry → List Entry
counted_entries plane None = plane.entries
counted_entries plane (Some asked) = if asked.is_default_action then [] else filter (selects (table_of asked.table_id plane.config.info) asked) plane.entries

-- the direct counters that are asked for, in the order of their entries
abbrev pub selected_direct : Figures → Plane → DirectCounterEntry → List DirectCounterEntry
selected_direct g plane asked = filter_map (shown_direct g plane.config.info) (counted_entries plane asked.table_entry)

-- what is answered for an entity that is asked for, where the counters have these figures
abbrev pub selected : Figures → Plane → Option Entity → List Entity
selected g plane (Some (entities.TableEntry asked)) = map entities.TableEntry (selected_entries plane asked)
selected g plane (Some (entities.ActionProfileMember asked)) = map entities.ActionProfileMember (selected_members plane asked)
selected g plane (Some (entities.ActionProfileGroup asked)) = map entities.ActionProfileGroup (selected_groups plane asked)
selected g plane (Some (entities.CounterEntry asked)) = map entities.CounterEntry (selected_counters g plane asked)
selected g plane (Some (entities.DirectCounterEntry asked)) = map entities.DirectCounterEntry (selected_direct g plane asked)
selected g plane (Some (entities.PacketReplicationEngineEntry asked)) = map entities.PacketReplicationEngineEntry (selected_multicast plane asked.multicast_group_entry)
selected g plane (Some (entities.DigestEntry asked)) = map entities.DigestEntry (selected_digests plane asked)
selected g plane _ = []

-- Messages of at most 1,024 entities, all but the last full. No entities are one message.
abbrev pub chunks_in : ℕ → List Entity → List (List Entity)
chunks_in zero list = list ∷ []
chunks_in (suc steps) list = if nat_le (length list) 1024 then list ∷ [] else take 1024 list ∷ chunks_in steps (drop 1024 list)

-- the messages that answer a Read, each by its entities
unfoldable pub chunks : List Entity → List (List Entity)
chunks list = chunks_in (length list) list

-- the bytes of a ReadResponse
abbrev pub response_bytes : List Entity → List ℕ
response_bytes list = spelling (fields_by read_response_rows (record { entities = list }))

-- the messages that answer a Read of these entities
abbrev pub read_messages : Figures → Plane → List (Option Entity) → List (List ℕ)
read_messages g plane list = map response_bytes (chunks (flat_map (selected g plane) list))

-- the messages that answer a Read, unless a code refuses it
abbrev pub read_unless : Option Code → Figures → Plane → List (Option Entity) → Result (List (List ℕ)) Code
read_unless (Some code) g plane list = Err code
read_unless None g plane list = Ok (read_messages g plane list)

-- the answer to a Read under the program, if there is one; without a program it is refused
abbrev pub read_in : Option Plane → Figures → ReadRequest → Result (List (List ℕ)) Code
read_in None g request = Err codes.FailedPrecondition
read_in (Some plane) g request = read_unless (first_of (map (entity_refusal plane.config.info) request.entities)) g plane request.entities

-- the messages that answer a Read where the counters have these figures, or the code of the first entity asked for that is refused
unfoldable pub read_result : ControlState → Figures → ReadRequest → Result (List (List ℕ)) Code
read_result c g request = if request.device_id == c.device then read_in (target c) g request else Err codes.NotFound

-- whether an entity that is asked for is a counter
abbrev pub is_counter : Option Entity → Bool
is_counter (Some (entities.CounterEntry asked)) = true
is_counter (Some (entities.DirectCounterEntry asked)) = true
is_counter _ = false

-- whether a Read asks for counters
abbrev pub asks_counters : ReadRequest → Bool
asks_counters request = list_any is_counter request.entities

-- What a Read that asks for no counters is answered does not depend on what they have counted.
abbrev pub OnlyCountersTell : Type 0
OnlyCountersTell = (c : ControlState) (g h : Figures) (request : ReadRequest) → asks_counters request ≡ false → read_result c g request ≡ read_result c h request
