-- What each event keeps of the planes, by counts; and that it makes them sound.
use Rattle.std.proofs.Common.{◌≡◌, ℕ, ◌+◌, ◌-◌, ◌^◌, ◌<◌, ◌≤◌, ◌==◌, ◌++◌, ltb, true, List, length, Option, Some, None, IfSome, arith}
use Rattle.std.specs.List.{AllPairs, count_by}
use Rattle.std.proofs.lemmas.Bool.Decides.{nat_tests}
use Rattle.p4_types.specs.declared.info.Table.{Table}
use Rattle.p4_types.specs.declared.multicast.MulticastGroup.{MulticastGroup}
use Rattle.p4_types.specs.declared.profiles.Group.{Group}
use Rattle.p4_types.specs.declared.profiles.Member.{Member}
use Rattle.plane_spec.specs.Config.{Config, cells_in}
use Rattle.plane_spec.specs.Entries.{table_size}
use Rattle.plane_spec.specs.Multicast.{multicast_limit}
use Rattle.plane_spec.specs.Objects.{table_of}
use Rattle.plane_spec.specs.Planes.{ControlState, Plane, rows_in, made_plane}
use Rattle.plane_spec.specs.PlaneLaws.{numbers_of, slots_of, HasFewReplicas, IsSoundPlane, IsSoundControl}
use Rattle.plane_spec.proofs.Drawn.{times, drawn, times-append, times-numbers_from, below_next, distinct}
use Rattle.plane_spec.proofs.EntryOrder.{Stand, in_order}
use Rattle.plane_spec.proofs.Keyed.{AreRising, rising_pairs}

-- no table has more entries than its size
abbrev pub AreWithinSizes : Plane → Type 0
AreWithinSizes plane = (id : ℕ) (table : Table) → table_of id plane.config.info ≡ Some table → count_by (λ entry. entry.name.table == id) plane.entries ≤ table_size table

-- members stand by rising profile and id
abbrev pub AreMembersRising : List Member → Type 0
AreMembersRising members = AreRising (λ m. m.profile) (λ m. m.id) members

-- groups do
abbrev pub AreGroupsRising : List Group → Type 0
AreGroupsRising groups = AreRising (λ g. g.profile) (λ g. g.id) groups

-- multicast groups stand by rising id
abbrev pub AreMulticastRising : List MulticastGroup → Type 0
AreMulticastRising groups = AreRising (λ g. 0) (λ g. g.id) groups

-- a plane's entries stand in order, and no table has more than its size; members, groups and multicast groups stand in order too
pub record IsKeptPlane (plane : Plane) : Type 0 where
  pub stand : Stand plane.entries
  pub sizes : AreWithinSizes plane
  pub members : AreMembersRising plane.members
  pub groups : AreGroupsRising plane.groups
  pub multicast : AreMulticastRising plane.multicast
  pub multicast_number : length plane.multicast ≤ multicast_limit

-- The same as a sound control state, of its parts: each number and each slot stands once at most in both planes, and only if it was drawn.
pub record AreKept (active staged : Option Plane) (next next_slot limit most : ℕ) : Type 0 where
  pub active_plane : IfSome active IsKeptPlane
  pub staged_plane : IfSome staged IsKeptPlane
  pub numbers : (x : ℕ) → times x (numbers_of active) + times x (numbers_of staged) ≤ drawn next x
  pub slots : (x : ℕ) → times x (slots_of active) + times x (slots_of staged) ≤ drawn next_slot x
  pub rows : rows_in active + rows_in staged ≤ limit
  pub number_limit : next ≤ 2 ^ 64 - 1
  pub slot_limit : next_slot ≤ most

abbrev pub IsKept : ControlState → Type 0
IsKept c = AreKept c.active c.staged c.next c.next_slot c.rows c.slots

lower : (a b : ℕ) → ltb a b ≡ true → a < b
lower a b h = grind (arith, nat_tests)

multicast_pairs : (groups : List MulticastGroup) → AreMulticastRising groups → AllPairs (λ a b. a.id < b.id) groups
multicast_pairs groups h = λ i j d before in_range. lower _ _ (rising_pairs (λ (g : MulticastGroup). 0) (λ g. g.id) groups h i j d before in_range)

sound_plane : (o : Option Plane) → IfSome o IsKeptPlane → IfSome o HasFewReplicas → IfSome o IsSoundPlane
sound_plane None h few = tt
sound_plane (Some plane) h few = record {
  order = in_order plane.entries h.stand;
  sizes = h.sizes;
  members = rising_pairs (λ (m : Member). m.profile) (λ m. m.id) plane.members h.members;
  groups = rising_pairs (λ (g : Group). g.profile) (λ g. g.id) plane.groups h.groups;
  multicast = multicast_pairs plane.multicast h.multicast;
  multicast_number = h.multicast_number;
  replicas = few;
}

pub sound : (c : ControlState) → IsKept c → IfSome c.active HasFewReplicas → IfSome c.staged HasFewReplicas → IsSoundControl c
sound c k few_active few_staged =
    let numbers : (x : ℕ) → times x (numbers_of c.active ++ numbers_of c.staged) ≤ drawn c.next x = λ x. omega (arith, k.numbers x, times-append x (numbers_of c.active) (numbers_of c.staged)) in
    let slots : (x : ℕ) → times x (slots_of c.active ++ slots_of c.staged) ≤ drawn c.next_slot x = λ x. omega (arith, k.slots x, times-append x (slots_of c.active) (slots_of c.staged)) in record {
      active = sound_plane c.active k.active_plane few_active;
      staged = sound_plane c.staged k.staged_plane few_staged;
      numbers = below_next c.next _ numbers;
      numbers_apart = distinct c.next _ numbers;
      slots = below_next c.next_slot _ slots;
      slots_apart = distinct c.next_slot _ slots;
      rows = k.rows;
      number_limit = k.number_limit;
      slot_limit = k.slot_limit;
    }

pub kept_at_first : (rows most : ℕ) → AreKept None None 1 0 rows most
kept_at_first rows most = record { active_plane = tt; staged_plane = tt; numbers = λ x. omega arith; slots = λ x. omega arith; rows = omega arith; number_limit = omega arith; slot_limit = omega arith }

-- a new plane is staged
pub kept_saved : (active staged : Option Plane) (next next_slot rows most : ℕ) (config : Config) → AreKept active staged next next_slot rows most → next_slot + cells_in config ≤ most
    → AreKept active (Some (made_plane next_slot config)) next (next_slot + cells_in config) rows most
kept_saved active staged next next_slot rows most config k fits = record {
  active_plane = k.active_plane;
  staged_plane = record { stand = tt; sizes = λ id table is. omega arith; members = tt; groups = tt; multicast = tt; multicast_number = omega arith };
  numbers = λ x. omega (arith, k.numbers x);
  slots = λ x. omega (arith, k.slots x, times-numbers_from x (cells_in config) next_slot);
  rows = omega (arith, k.rows);
  number_limit = k.number_limit;
  slot_limit = fits;
}

-- the staged plane becomes the active one
pub kept_committed : (active : Option Plane) (plane : Plane) (next next_slot rows most : ℕ) → AreKept active (Some plane) next next_slot rows most → AreKept (Some plane) None next next_slot rows most
kept_committed active plane next next_slot rows most k = record {
  active_plane = k.staged_plane;
  staged_plane = tt;
  numbers = λ x. omega (arith, k.numbers x);
  slots = λ x. omega (arith, k.slots x);
  rows = omega (arith, k.rows);
  number_limit = k.number_limit;
  slot_limit = k.slot_limit;
}
