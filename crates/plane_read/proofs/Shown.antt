-- Entries and their direct counters as they are answered.
use Rattle.std.proofs.Common.{◌≡◌, ℤ, pos, Bool, false, cond, List, [], ◌∷◌, ◌++◌, append-nil, filter, map, Option, Some, None, refl, ap, ◌∙◌}
use Rattle.std.specs.List.{filter_map, flat_map, cons_option}
use Rattle.p4_types.specs.declared.info.Info.{Info}
use Rattle.p4_types.specs.declared.messages.DirectCounterEntry.{DirectCounterEntry}
use Rattle.p4_types.specs.declared.messages.Entity.{Entity}
use Rattle.p4_types.specs.declared.messages.Entity.TheVariants as entities
use Rattle.p4_types.specs.declared.table.Entry.{Entry}
use Rattle.plane_read.specs.declared.selecting.View.{View}
use Rattle.plane_read.specs.declared.selecting.View.TheVariants as views
use Rattle.plane_read.specs.Answered.{answered, has_priority, shown_as}
use Rattle.p4_types.specs.declared.messages.TableEntry.{TableEntry}
use Rattle.plane_spec.specs.Objects.{table_of}
use Rattle.plane_spec.specs.Planes.{Plane}
use Rattle.switch_spec.specs.Counts.{Figures}
use Rattle.plane_spec.specs.Shown.{shown_entry}
use Rattle.switch_spec.specs.Reading.{shown_direct, selects, counted_entries}

-- entries
pub entries_shown : (g : Figures) (info : Info) (list : List Entry) → answered views.Entries g info list ≡ map entities.TableEntry (map (shown_entry info) list)
entries_shown g info [] = refl
entries_shown g info (entry ∷ list) = ap (λ (rest : List Entity). entities.TableEntry (shown_entry info entry) ∷ rest) (entries_shown g info list)

counter_first : (o : Option DirectCounterEntry) (rest : List Entity) (others : List DirectCounterEntry) → rest ≡ map entities.DirectCounterEntry others
    → map entities.DirectCounterEntry (cons_option o []) ++ rest ≡ map entities.DirectCounterEntry (cons_option o others)
counter_first None rest others is = is
counter_first (Some counter) rest others is = ap (λ (list : List Entity). entities.DirectCounterEntry counter ∷ list) is

-- their direct counters
pub counters_shown : (g : Figures) (info : Info) (list : List Entry) → answered views.Counters g info list ≡ map entities.DirectCounterEntry (filter_map (shown_direct g info) list)
counters_shown g info [] = refl
counters_shown g info (entry ∷ list) = counter_first (shown_direct g info entry) (answered views.Counters g info list) (filter_map (shown_direct g info) list) (counters_shown g info list)

-- the priority 0 asks for all
pub any_priority : (list : List Entry) → filter (has_priority (pos 0)) list ≡ list
any_priority [] = refl
any_priority (entry ∷ list) = ap (λ (rest : List Entry). entry ∷ rest) (any_priority list)

-- one entry as it is answered
pub one_shown : (view : View) (g : Figures) (info : Info) (entry : Entry) → answered view g info (entry ∷ []) ≡ shown_as view g info entry
one_shown view g info entry = append-nil (shown_as view g info entry)

-- the entries whose counters are asked for by a table entry that is no default one
pub counted_some : (plane : Plane) (o : Option TableEntry) (asked : TableEntry) → o ≡ Some asked → asked.is_default_action ≡ false
    → counted_entries plane o ≡ filter (selects (table_of asked.table_id plane.config.info) asked) plane.entries
counted_some plane o asked is other =
    ap (counted_entries plane) is ∙ ap (λ (b : Bool). cond b [] (filter (selects (table_of asked.table_id plane.config.info) asked) plane.entries)) other
