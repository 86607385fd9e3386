-- What is answered, part by part.
use Rattle.std.specs.Prelude.{◌≡◌, ℕ, ℤ, ◌||◌, ◌&&◌, Bool, List, [], ◌∷◌, ◌++◌, ◌+◌, ◌≤◌, map}
use Rattle.std.specs.Ordering.{int_eq}
use Rattle.p4_types.specs.declared.info.Info.{Info}
use Rattle.p4_types.specs.declared.messages.ActionProfileGroup.{ActionProfileGroup}
use Rattle.p4_types.specs.declared.messages.ActionProfileMember.{ActionProfileMember}
use Rattle.p4_types.specs.declared.messages.CounterEntry.{CounterEntry}
use Rattle.p4_types.specs.declared.messages.Entity.{Entity}
use Rattle.p4_types.specs.declared.messages.Entity.TheVariants as entities
use Rattle.p4_types.specs.declared.multicast.MulticastGroup.{MulticastGroup}
use Rattle.p4_types.specs.declared.profiles.Group.{Group}
use Rattle.p4_types.specs.declared.profiles.Member.{Member}
use Rattle.p4_types.specs.declared.table.Entry.{Entry}
use Rattle.std.specs.List.{filter_map, flat_map, cons_option}
use Rattle.plane_spec.specs.Planes.{Plane, default_entry}
use Rattle.switch_spec.specs.Counts.{Figures}
use Rattle.switch_spec.specs.declared.cells.Cells.{Cells}
use Rattle.plane_spec.specs.Entries.{slot_numbers}
use Rattle.plane_spec.specs.Shown.{shown_entry, shown_default, shown_member, shown_group, shown_multicast}
use Rattle.switch_spec.specs.Reading.{is_asked_id, shown_direct, response_bytes, chunks}
use Rattle.plane_read.specs.declared.selecting.View.{View}
use Rattle.plane_read.specs.declared.selecting.View.TheVariants as views
use Rattle.plane_spec.specs.UpdateRules.{is_zero}

-- an entry has the priority; 0 asks for any
abbrev pub has_priority : ℤ → Entry → Bool
has_priority priority entry = is_zero priority || int_eq entry.name.priority priority

-- what is answered of an entry: itself, or its direct counter, if it has one
abbrev pub shown_as : View → Figures → Info → Entry → List Entity
shown_as views.Entries g info entry = entities.TableEntry (shown_entry info entry) ∷ []
shown_as views.Counters g info entry = map entities.DirectCounterEntry (cons_option (shown_direct g info entry) [])

-- what is answered of entries
abbrev pub answered : View → Figures → Info → List Entry → List Entity
answered view g info list = flat_map (shown_as view g info) list

-- cells, each as it is answered
abbrev pub answered_cells : List CounterEntry → List Entity
answered_cells list = map entities.CounterEntry list

-- the cells have slots that there are
pub record HasSlots (cells : Cells) : Type 0 where
  pub within : cells.first + cells.size ≤ slot_numbers

-- the default actions of tables, each as it is answered
abbrev pub answered_defaults : Plane → List ℕ → List Entity
answered_defaults plane tables = map entities.TableEntry (map (shown_default plane.config.info) (filter_map (default_entry plane) tables))

-- whether a member is asked for
abbrev pub selects_member : ActionProfileMember → Member → Bool
selects_member asked member = is_asked_id asked.action_profile_id member.profile && is_asked_id asked.member_id member.id

-- members, each as it is answered
abbrev pub answered_members : Info → List Member → List Entity
answered_members info list = map entities.ActionProfileMember (map (shown_member info) list)

-- whether a group is asked for
abbrev pub selects_group : ActionProfileGroup → Group → Bool
selects_group asked group = is_asked_id asked.action_profile_id group.profile && is_asked_id asked.group_id group.id

-- groups, each as it is answered
abbrev pub answered_groups : List Group → List Entity
answered_groups list = map entities.ActionProfileGroup (map shown_group list)

-- multicast groups, each as it is answered
abbrev pub answered_multicast : List MulticastGroup → List Entity
answered_multicast list = map entities.PacketReplicationEngineEntry (map shown_multicast list)

-- the messages for entities of which the first are written, some are gathered, and the others are to come
abbrev pub messages_of : List (List ℕ) → List Entity → List Entity → List (List ℕ)
messages_of written gathered others = written ++ map response_bytes (chunks (gathered ++ others))

-- where another entity follows, the messages stay the same
abbrev pub HasRoom : List (List ℕ) → List Entity → List (List ℕ) → List Entity → Type 0
HasRoom written gathered written_then gathered_then =
    (entity : Entity) (others : List Entity) → messages_of written_then gathered_then (entity ∷ others) ≡ messages_of written gathered (entity ∷ others)

-- one entity more is written or gathered
abbrev pub Continues : List (List ℕ) → List Entity → Entity → List (List ℕ) → List Entity → Type 0
Continues written gathered entity written_then gathered_then =
    (others : List Entity) → messages_of written_then gathered_then others ≡ messages_of written gathered (entity ∷ others)
