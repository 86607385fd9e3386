-- What holds of the planes in each state of a run.
use Rattle.std.specs.Prelude.{◌≡◌, ℕ, zero, suc, ◌+◌, ◌-◌, ◌^◌, ◌<◌, ◌≤◌, ◌==◌, List, [], ◌∷◌, ◌++◌, length, map, count_by, All, Option, Some, None, IfSome, nat_eq, true}
use Rattle.std.specs.List.{AllPairs, IsDistinct, filter_map}
use Rattle.p4_types.specs.declared.events.Start.{Start}
use Rattle.p4_types.specs.declared.info.Table.{Table}
use Rattle.plane_spec.specs.Config.{Event, cells_in}
use Rattle.plane_spec.specs.Entries.{table_size}
use Rattle.plane_spec.specs.Legal.{Legal}
use Rattle.plane_spec.specs.Multicast.{multicast_limit, replica_limit}
use Rattle.plane_spec.specs.Objects.{table_of}
use Rattle.plane_spec.specs.Order.{StandsBefore}
use Rattle.plane_spec.specs.Profiles.{stands_before}
use Rattle.plane_spec.specs.Planes.{ControlState, Plane, opened, applied, rows_used}

-- so many numbers, from this one on
abbrev pub numbers_from : ℕ → ℕ → List ℕ
numbers_from zero first = []
numbers_from (suc more) first = first ∷ numbers_from more (first + 1)

-- the sequence numbers of a plane's entries
abbrev pub numbers_of : Option Plane → List ℕ
numbers_of None = []
numbers_of (Some plane) = map (λ entry. entry.seq) plane.entries

-- the slots of a plane's entries and cells
abbrev pub slots_of : Option Plane → List ℕ
slots_of None = []
slots_of (Some plane) = filter_map (λ entry. entry.slot) plane.entries ++ numbers_from (cells_in plane.config) plane.cells

-- no multicast group of a plane has more replicas than it may have
abbrev pub HasFewReplicas : Plane → Type 0
HasFewReplicas plane = All (λ group. length group.replicas ≤ replica_limit) plane.multicast

-- The entries of a plane stand in order, no two of one name, and no table has more than its size. Its members and its groups stand by rising profile and id.
-- Its multicast groups stand by rising id, and they and their replicas keep their limits.
pub record IsSoundPlane (plane : Plane) : Type 0 where
  pub order : AllPairs StandsBefore plane.entries
  pub members : AllPairs (λ a b. stands_before a.profile a.id b.profile b.id ≡ true) plane.members
  pub groups : AllPairs (λ a b. stands_before a.profile a.id b.profile b.id ≡ true) plane.groups
  pub sizes : (id : ℕ) (table : Table) → table_of id plane.config.info ≡ Some table → count_by (λ entry. entry.name.table == id) plane.entries ≤ table_size table
  pub multicast : AllPairs (λ a b. a.id < b.id) plane.multicast
  pub multicast_number : length plane.multicast ≤ multicast_limit
  pub replicas : HasFewReplicas plane

-- both planes are sound, what they drew was drawn once and is below what is drawn next, and the limits are kept
pub record IsSoundControl (c : ControlState) : Type 0 where
  pub active : IfSome c.active IsSoundPlane
  pub staged : IfSome c.staged IsSoundPlane
  pub numbers : All (λ seq. seq < c.next) (numbers_of c.active ++ numbers_of c.staged)
  pub numbers_apart : IsDistinct nat_eq (numbers_of c.active ++ numbers_of c.staged)
  pub slots : All (λ slot. slot < c.next_slot) (slots_of c.active ++ slots_of c.staged)
  pub slots_apart : IsDistinct nat_eq (slots_of c.active ++ slots_of c.staged)
  pub rows : rows_used c ≤ c.rows
  pub number_limit : c.next ≤ 2 ^ 64 - 1
  pub slot_limit : c.next_slot ≤ c.slots

-- After any events that may follow one another the planes are sound.
abbrev pub PlanesStaySound : Type 0
PlanesStaySound = (start : Start) (list : List Event) → Legal (opened start) list → IsSoundControl (applied (opened start) list)
