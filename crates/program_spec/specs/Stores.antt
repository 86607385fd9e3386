-- The fields of a packet as a program reads and sets them (P4-16, "Headers"; BMv2, "standard_metadata").
use Rattle.std.specs.Prelude.{ℕ, ◌+◌, ◌*◌, ◌^◌, if◌then◌else◌, List, fold, map, replicate, Option, Some, None}
use Rattle.bm_expr.specs.declared.store.FieldPlace.{FieldPlace}
use Rattle.bm_expr.specs.Store.{Contents, header_valid, field_read, assigned}
use Rattle.bm_pipeline.specs.declared.headers.FieldRef.{FieldRef}
use Rattle.bm_pipeline.specs.declared.headers.FieldRef.TheVariants as refs
use Rattle.bm_pipeline.specs.declared.program.Program.{Program}
use Rattle.bm_pipeline.specs.Places.{width_of, whole_bytes}

-- what is read as a field: its number, which is 0 where its header is invalid; of `$valid$` 1 where the header is valid, else 0
abbrev pub read : Contents → FieldRef → ℕ
read store (refs.Field place) = field_read store place
read store (refs.Valid header) = if header_valid store header then 1 else 0

-- the number of fields laid end to end, each in whole bytes
abbrev pub joined : Contents → List FieldRef → ℕ
joined store fields = fold (λ number field. number * 2 ^ (8 * whole_bytes (width_of field)) + read store field) 0 fields

-- a field that the program may lack is assigned
abbrev pub assigned_if : Option FieldPlace → ℕ → Contents → Contents
assigned_if None value store = store
assigned_if (Some place) value store = assigned store place value

-- the store before a packet is parsed: metadata is valid, all other headers are invalid, and each field is 0
abbrev pub opened : Program → Contents
opened program = record { fields = replicate program.fields 0; valid = map (λ header. header.metadata) program.headers }

-- the same of a packet of so many bytes that enters at a port
abbrev pub entering : Program → ℕ → ℕ → Contents
entering program port size =
    assigned_if program.standard_metadata.packet_length size (assigned_if program.standard_metadata.ingress_port port (opened program))
