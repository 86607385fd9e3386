-- The rules of a P4Info, each as the test for what breaks it.
use Rattle.std.specs.Prelude.{ℕ, ◌==◌, ◌%◌, Bool, not, nat_eq, nat_lt, ◌||◌, ◌&&◌, if◌then◌else◌, List, [], ◌∷◌, length, map, is_none, unwrap_or, flat_map, count_by, sum_by}
use Rattle.std.specs.List.{list_any}
use Rattle.std.specs.Set.{is_member}
use Rattle.p4_types.specs.declared.p4info.ActionProfile.{ActionProfile}
use Rattle.p4_types.specs.declared.p4info.ControllerPacketMetadata.{ControllerPacketMetadata}
use Rattle.p4_types.specs.declared.p4info.P4Info.{P4Info}
use Rattle.p4_types.specs.declared.p4info.Table.{Table}
use Rattle.info_rules.specs.Numbers.{width_of, size_of, kind_of, scope_of, is_lpm}
use Rattle.info_rules.specs.Objects.{id_of, name_of, ids, ids_clash, names_clash, is_of_another_kind}

-- I2: an id is 0 or occurs twice
abbrev pub breaks_i2 : P4Info → Bool
breaks_i2 info = ids_clash (ids info)

-- I3: an id's high byte is not that of its kind
abbrev pub breaks_i3 : P4Info → Bool
breaks_i3 info =
    list_any (λ x. is_of_another_kind 2 (id_of x.preamble)) info.tables
    || list_any (λ x. is_of_another_kind 1 (id_of x.preamble)) info.actions
    || list_any (λ x. is_of_another_kind 17 (id_of x.preamble)) info.action_profiles
    || list_any (λ x. is_of_another_kind 18 (id_of x.preamble)) info.counters
    || list_any (λ x. is_of_another_kind 19 (id_of x.preamble)) info.direct_counters
    || list_any (λ x. is_of_another_kind 4 (id_of x.preamble)) info.controller_packet_metadata
    || list_any (λ x. is_of_another_kind 23 (id_of x.preamble)) info.digests

-- I4: a name is empty or occurs twice in its kind
abbrev pub breaks_i4 : P4Info → Bool
breaks_i4 info =
    names_clash (map (λ x. name_of x.preamble) info.tables)
    || names_clash (map (λ x. name_of x.preamble) info.actions)
    || names_clash (map (λ x. name_of x.preamble) info.action_profiles)
    || names_clash (map (λ x. name_of x.preamble) info.counters)
    || names_clash (map (λ x. name_of x.preamble) info.direct_counters)
    || names_clash (map (λ x. name_of x.preamble) info.controller_packet_metadata)
    || names_clash (map (λ x. name_of x.preamble) info.digests)

-- the same two ids
abbrev pub same_pair : ℕ × ℕ → ℕ × ℕ → Bool
same_pair a b = (a.0 == b.0) && (a.1 == b.1)

-- one of the parts is not among the others
abbrev pub lacks_some : {A : Type 0} → (A → A → Bool) → List A → List A → Bool
lacks_some same whole parts = list_any (λ part. not (is_member same whole part)) parts

-- two lists have not the same items
abbrev pub differ : {A : Type 0} → (A → A → Bool) → List A → List A → Bool
differ same xs ys = lacks_some same ys xs || lacks_some same xs ys

-- the actions that tables refer to
abbrev pub action_uses : P4Info → List ℕ
action_uses info = flat_map (λ t. map (λ r. r.id) t.action_refs) info.tables

-- a table with a const default action that is not among its actions
abbrev pub lacks_default : Table → Bool
lacks_default t = not (t.const_default_action_id == 0) && not (list_any (λ r. r.id == t.const_default_action_id) t.action_refs)

-- each table with the profile that it names
abbrev pub profiles_of_tables : P4Info → List (ℕ × ℕ)
profiles_of_tables info = flat_map (λ t. if t.implementation_id == 0 then [] else (id_of t.preamble, t.implementation_id) ∷ []) info.tables

-- a profile behind each table that it names
abbrev pub profile_tables : ActionProfile → List (ℕ × ℕ)
profile_tables p = map (λ t. (t, id_of p.preamble)) p.table_ids

-- each profile behind each table that it names
abbrev pub tables_of_profiles : P4Info → List (ℕ × ℕ)
tables_of_profiles info = flat_map profile_tables info.action_profiles

-- a table with each direct counter that it names
abbrev pub table_counters : Table → List (ℕ × ℕ)
table_counters t = map (λ c. (id_of t.preamble, c)) t.direct_resource_ids

-- each table with each direct counter that it names
abbrev pub counters_of_tables : P4Info → List (ℕ × ℕ)
counters_of_tables info = flat_map table_counters info.tables

-- each direct counter behind the table that it names
abbrev pub tables_of_counters : P4Info → List (ℕ × ℕ)
tables_of_counters info = map (λ c. (c.direct_table_id, id_of c.preamble)) info.direct_counters

-- I5: a reference names nothing of its kind, a const default action is not among the table's actions,
-- or a table and its profile or direct counter do not name each other, as also where one names nothing
abbrev pub breaks_i5 : P4Info → Bool
breaks_i5 info =
    lacks_some nat_eq (map (λ x. id_of x.preamble) info.actions) (action_uses info)
    || list_any lacks_default info.tables
    || differ same_pair (profiles_of_tables info) (tables_of_profiles info)
    || differ same_pair (counters_of_tables info) (tables_of_counters info)

-- I6: a bit width is below 1 or above 128
abbrev pub breaks_i6 : P4Info → Bool
breaks_i6 info =
    list_any (λ t. list_any (λ x. is_none (width_of x.bitwidth)) t.match_fields) info.tables
    || list_any (λ a. list_any (λ x. is_none (width_of x.bitwidth)) a.params) info.actions
    || list_any (λ h. list_any (λ x. is_none (width_of x.bitwidth)) h.metadata) info.controller_packet_metadata

-- a table breaks rule I7
abbrev pub table_breaks_i7 : Table → Bool
table_breaks_i7 t =
    list_any (λ x. is_none (kind_of x.match_type)) t.match_fields
    || list_any (λ x. is_none (scope_of x.scope)) t.action_refs
    || ids_clash (map (λ x. x.id) t.match_fields)

-- I7: a match kind or scope is unknown, or ids of fields, parameters or metadata are 0 or occur twice in their object
abbrev pub breaks_i7 : P4Info → Bool
breaks_i7 info =
    list_any table_breaks_i7 info.tables
    || list_any (λ a. ids_clash (map (λ x. x.id) a.params)) info.actions
    || list_any (λ h. ids_clash (map (λ x. x.id) h.metadata)) info.controller_packet_metadata

-- a table breaks rule I8
abbrev pub table_breaks_i8 : Table → Bool
table_breaks_i8 t = is_none (size_of t.size) || nat_lt 16 (length t.match_fields)

-- a profile breaks rule I8
abbrev pub profile_breaks_i8 : ActionProfile → Bool
profile_breaks_i8 p = is_none (size_of p.size) || is_none (size_of p.max_group_size)

-- there are more objects of a kind than the limit
abbrev pub exceeds_limits : P4Info → Bool
exceeds_limits info =
    nat_lt 128 (length info.tables)
    || nat_lt 512 (length info.actions)
    || nat_lt 128 (length info.action_profiles)
    || nat_lt 128 (length info.counters)
    || nat_lt 128 (length info.direct_counters)
    || nat_lt 128 (length info.controller_packet_metadata)
    || nat_lt 128 (length info.digests)

-- I8: a size is negative, or a limit is exceeded
abbrev pub breaks_i8 : P4Info → Bool
breaks_i8 info =
    exceeds_limits info
    || list_any table_breaks_i8 info.tables
    || list_any (λ a. nat_lt 8 (length a.params)) info.actions
    || list_any profile_breaks_i8 info.action_profiles
    || list_any (λ c. is_none (size_of c.size)) info.counters
    || list_any (λ h. nat_lt 128 (length h.metadata)) info.controller_packet_metadata

-- a table has two LPM fields
abbrev pub has_two_lpm : Table → Bool
has_two_lpm t = nat_lt 1 (count_by (λ x. is_lpm (kind_of x.match_type)) t.match_fields)

-- a controller header's bits
abbrev pub bits_of : ControllerPacketMetadata → ℕ
bits_of h = sum_by (λ x. unwrap_or (width_of x.bitwidth) 0) h.metadata

-- I9: a table has two LPM fields, or a controller header's bits are not whole bytes
abbrev pub breaks_i9 : P4Info → Bool
breaks_i9 info =
    list_any has_two_lpm info.tables
    || list_any (λ h. not (bits_of h % 8 == 0)) info.controller_packet_metadata
