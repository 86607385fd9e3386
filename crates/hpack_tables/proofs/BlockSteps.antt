-- A block that is read header by header.
use Rattle.std.proofs.Common.{◌≡◌, ℕ, zero, suc, ◌-◌, ◌<◌, ◌≤◌, nat_lt, true, false, List, [], ◌∷◌, ◌++◌, length, Result, Ok, Err, Bor, refl, sym, ap, ◌∙◌, append_assoc, arith}
use Rattle.std.proofs.lemmas.Bool.{lt-ltb, le-ltb}
use Rattle.std.proofs.lemmas.List.{append-nil}
use Rattle.list_types.specs.declared.memory.Refusal.{Refusal}
use Rattle.list_types.specs.declared.memory.Refusal.TheVariants as refusals
use Rattle.list_types.specs.Results.{◌>>=◌, unless, Gives}
use Rattle.hpack_tables.specs.declared.header.Header.{Header}
use Rattle.hpack_tables.specs.declared.fault.HpackFault.{HpackFault}
use Rattle.hpack_tables.specs.declared.fault.HpackFault.TheVariants.{ListTooLong}
use Rattle.hpack_tables.specs.Tables.{entry_size, Table}
use Rattle.hpack_tables.specs.Blocks.{field_at, fields_in, is_update, update_at, updates_in}

-- ---- updates

pub no_update : (n : ℕ) (table : Table) (rest : List ℕ) (whole : Result (Table × List ℕ) HpackFault) → 0 < n → is_update rest ≡ false → updates_in n table rest ≡ whole → whole ≡ Ok (table, rest)
unfolding updates_in
no_update zero table rest whole some e so_far = absurd (omega arith)
no_update (suc more) table rest whole some e so_far = sym so_far ∙ rw e refl

update_next : (n more : ℕ) (table : Table) (rest : List ℕ) (whole : Result (Table × List ℕ) HpackFault) → n ≡ suc more → is_update rest ≡ true → updates_in n table rest ≡ whole
    → (update_at table rest >>= λ updated. updates_in more updated.0 updated.1) ≡ whole
unfolding updates_in
update_next n more table rest whole en e so_far = rw e at (rw en at so_far)

pub update_done : (n more : ℕ) (table : Table) (rest : List ℕ) (whole : Result (Table × List ℕ) HpackFault) (next : Table) (after : List ℕ) → n ≡ suc more → is_update rest ≡ true
    → update_at table rest ≡ Ok (next, after) → updates_in n table rest ≡ whole → updates_in more next after ≡ whole
update_done n more table rest whole next after en e eu so_far = rw eu at (update_next n more table rest whole en e so_far)

pub update_fails : (n : ℕ) (table : Table) (rest : List ℕ) (whole : Result (Table × List ℕ) HpackFault) (fault : HpackFault) → 0 < n → is_update rest ≡ true
    → update_at table rest ≡ Err fault → updates_in n table rest ≡ whole → whole ≡ Err fault
update_fails zero table rest whole fault some e eu so_far = absurd (omega arith)
update_fails (suc more) table rest whole fault some e eu so_far = sym (rw eu at (update_next (suc more) more table rest whole refl e so_far))

pub updates_done : (n : ℕ) (table : Table) (rest : List ℕ) (whole : Result (Table × List ℕ) HpackFault) → n ≡ 0 → updates_in n table rest ≡ whole → whole ≡ Ok (table, rest)
unfolding updates_in
updates_done n table rest whole en so_far = sym (rw en at so_far)

-- ---- headers

-- headers before those that are read further on
pub onto : List Header → Result (List Header × Table) HpackFault → Result (List Header × Table) HpackFault
onto headers read = read >>= λ others. Ok (headers ++ others.0, others.1)

alone : (read : Result (List Header × Table) HpackFault) → (read >>= λ others. Ok ([] ++ others.0, others.1)) ≡ read
alone (Ok x) = refl
alone (Err fault) = refl

pub starts : (headers : List Header) (n room : ℕ) (table : Table) (bytes : List ℕ) → headers ≡ [] → n ≡ length bytes → onto headers (fields_in n table room bytes) ≡ fields_in (length bytes) table room bytes
unfolding onto
starts headers n room table bytes eh en = rw (eh, en) (alone (fields_in (length bytes) table room bytes))

pub at_end : (headers : List Header) (n room : ℕ) (table : Table) (rest : List ℕ) (whole : Result (List Header × Table) HpackFault) → rest ≡ [] → onto headers (fields_in n table room rest) ≡ whole → whole ≡ Ok (headers, table)
unfolding fields_in onto
at_end headers zero room table rest whole e so_far = sym so_far ∙ ap (λ (x : List Header). Ok (x, table)) (append-nil headers)
at_end headers (suc more) room table rest whole e so_far = sym (rw e at so_far) ∙ ap (λ (x : List Header). Ok (x, table)) (append-nil headers)

pub all_read : (headers : List Header) (n room : ℕ) (table : Table) (rest : List ℕ) (whole : Result (List Header × Table) HpackFault) → n ≡ 0 → onto headers (fields_in n table room rest) ≡ whole → whole ≡ Ok (headers, table)
unfolding fields_in onto
all_read headers n room table rest whole e so_far = sym (rw e at so_far) ∙ ap (λ (x : List Header). Ok (x, table)) (append-nil headers)

-- what comes of a header that is read
next : ℕ → ℕ → Header × Table × List ℕ → Result (List Header × Table) HpackFault
next more room field = unless (nat_lt room (entry_size field.0)) ListTooLong (fields_in more field.1 (room - entry_size field.0) field.2 >>= λ others. Ok (field.0 ∷ others.0, others.1))

field_next : (headers : List Header) (n more room : ℕ) (table : Table) (rest : List ℕ) (whole : Result (List Header × Table) HpackFault) → n ≡ suc more → 0 < length rest → onto headers (fields_in n table room rest) ≡ whole
    → onto headers (field_at table rest >>= next more room) ≡ whole
unfolding fields_in next
field_next headers n more room table [] whole en some so_far = absurd (omega arith)
field_next headers n more room table (byte ∷ bytes) whole en some so_far = rw en at so_far

regrouped : (headers : List Header) (header : Header) (read : Result (List Header × Table) HpackFault) → onto (headers ++ header ∷ []) read ≡ onto headers (read >>= λ others. Ok (header ∷ others.0, others.1))
unfolding onto
regrouped headers header (Ok x) = ap (λ (y : List Header). Ok (y, x.1)) (append_assoc headers (header ∷ []) x.0)
regrouped headers header (Err fault) = refl

pub field_fails : (seen : Header × Bor (List ℕ) → Header × Table × List ℕ) (view : List Header → List Header × Table) (headers : List Header) (n room : ℕ) (table : Table) (rest : List ℕ) (whole : Result (List Header × Table) HpackFault) (error : Refusal HpackFault)
    → 0 < n → 0 < length rest → Gives seen (Err error) (field_at table rest) → onto headers (fields_in n table room rest) ≡ whole → Gives view (Err error) whole
unfolding onto
field_fails seen view headers zero room table rest whole error some left e so_far = absurd (omega arith)
field_fails seen view headers (suc more) room table rest whole refusals.NoMemory some left e so_far = tt
field_fails seen view headers (suc more) room table rest whole (refusals.For fault) some left e so_far = sym (rw e at (field_next headers (suc more) more room table rest whole refl left so_far))

pub too_long : (headers : List Header) (n room size : ℕ) (table : Table) (rest : List ℕ) (whole : Result (List Header × Table) HpackFault) (header : Header) (next_table : Table) (after : List ℕ)
    → 0 < n → 0 < length rest → field_at table rest ≡ Ok (header, next_table, after) → size ≡ entry_size header → room < size → onto headers (fields_in n table room rest) ≡ whole → whole ≡ Err ListTooLong
unfolding onto next
too_long headers zero room size table rest whole header next_table after some left e es lt so_far = absurd (omega arith)
too_long headers (suc more) room size table rest whole header next_table after some left e es lt so_far =
    sym (field_next headers (suc more) more room table rest whole refl left so_far) ∙ rw (e, lt-ltb room (entry_size header) (omega (arith, es))) refl

pub goes_on : (headers : List Header) (n more room size : ℕ) (table : Table) (rest : List ℕ) (whole : Result (List Header × Table) HpackFault) (header : Header) (next_table : Table) (after : List ℕ) (now : List Header)
    → n ≡ suc more → 0 < length rest → field_at table rest ≡ Ok (header, next_table, after) → size ≡ entry_size header → size ≤ room → now ≡ headers ++ header ∷ []
    → onto headers (fields_in n table room rest) ≡ whole → onto now (fields_in more next_table (room - size) after) ≡ whole
unfolding next
goes_on headers n more room size table rest whole header next_table after now en left e es le ew so_far =
    let step : onto headers (field_at table rest >>= next more room) ≡ onto headers (fields_in more next_table (room - entry_size header) after >>= λ others. Ok (header ∷ others.0, others.1)) = rw (e, le-ltb room (entry_size header) (omega (arith, es))) refl in
    rw (ew, es) (regrouped headers header (fields_in more next_table (room - entry_size header) after)) ∙ sym step ∙ field_next headers n more room table rest whole en left so_far
