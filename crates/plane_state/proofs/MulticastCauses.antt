-- Why changes of multicast groups are refused.
use Rattle.std.proofs.Common.{◌≡◌, ℕ, ◌+◌, ◌||◌, Bool, true, false, ltb, List, length, Option, Some, None, is_some, refl, ap, ap₂, ◌∙◌}
use Rattle.p4_types.specs.declared.code.Cause.{Cause}
use Rattle.p4_types.specs.declared.code.Code.TheVariants as codes
use Rattle.p4_types.specs.declared.code.Rule.TheVariants as rules
use Rattle.p4_types.specs.declared.multicast.MulticastGroup.{MulticastGroup}
use Rattle.p4_types.specs.declared.table.Room.{Room}
use Rattle.plane_spec.specs.Multicast.{multicast_limit, multicast_of, multicast_rows}
use Rattle.plane_spec.specs.Planes.{or_cause, if_present, if_full, multicast_insert_cause, multicast_modify_cause}

-- whether there is no room for a group more
abbrev pub lacks_room : Room → List MulticastGroup → MulticastGroup → Bool
lacks_room room groups group = ltb multicast_limit (length groups + 1) || ltb room.rows (multicast_rows group)

by_parts : (there full : Bool) (o : Option MulticastGroup) → is_some o ≡ there → (f : Bool) → f ≡ full → or_cause (if_present (is_some o)) (if_full f) ≡ or_cause (if_present there) (if_full full)
by_parts there full o is f same = ap₂ (λ (a b : Bool). or_cause (if_present a) (if_full b)) is same

pub is_present : (room : Room) (groups : List MulticastGroup) (group former : MulticastGroup) → multicast_of group.id groups ≡ Some former
    → multicast_insert_cause room groups group ≡ Some (record { rule = rules.U10; code = codes.AlreadyExists })
is_present room groups group former found = by_parts true (lacks_room room groups group) (multicast_of group.id groups) (ap is_some found) (lacks_room room groups group) refl

pub has_no_room : (room : Room) (groups : List MulticastGroup) (group : MulticastGroup) → multicast_of group.id groups ≡ None → lacks_room room groups group ≡ true
    → multicast_insert_cause room groups group ≡ Some (record { rule = rules.U12; code = codes.ResourceExhausted })
has_no_room room groups group none full = by_parts false true (multicast_of group.id groups) (ap is_some none) (lacks_room room groups group) full

pub has_room : (room : Room) (groups : List MulticastGroup) (group : MulticastGroup) → multicast_of group.id groups ≡ None → lacks_room room groups group ≡ false
    → multicast_insert_cause room groups group ≡ None
has_room room groups group none full = by_parts false false (multicast_of group.id groups) (ap is_some none) (lacks_room room groups group) full

pub is_absent : (room : Room) (groups : List MulticastGroup) (group : MulticastGroup) → multicast_of group.id groups ≡ None
    → multicast_modify_cause (multicast_of group.id groups) room group ≡ Some (record { rule = rules.U10; code = codes.NotFound })
is_absent room groups group none = ap (λ (o : Option MulticastGroup). multicast_modify_cause o room group) none

pub takes_more : (room : Room) (groups : List MulticastGroup) (group former : MulticastGroup) (b : Bool) → multicast_of group.id groups ≡ Some former → ltb (room.rows + multicast_rows former) (multicast_rows group) ≡ b
    → multicast_modify_cause (multicast_of group.id groups) room group ≡ if_full b
takes_more room groups group former b found more = ap (λ (o : Option MulticastGroup). multicast_modify_cause o room group) found ∙ ap if_full more
