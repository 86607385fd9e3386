-- Stores that are large enough for a program.
use Rattle.std.specs.Prelude.{◌≡◌, ◌≤◌, ◌<◌, length, []}
use Rattle.bm_expr.specs.Fits.{FieldFits}
use Rattle.bm_expr.specs.Meaning.{counts_of}
use Rattle.bm_expr.specs.Store.{Contents}
use Rattle.bm_pipeline.specs.declared.checksums.CalculationInput.{CalculationInput}
use Rattle.bm_pipeline.specs.declared.checksums.CalculationInput.TheVariants as inputs
use Rattle.bm_pipeline.specs.declared.headers.FieldRef.{FieldRef}
use Rattle.bm_pipeline.specs.declared.headers.FieldRef.TheVariants as refs
use Rattle.bm_pipeline.specs.declared.program.Program.{Program}

-- a store has at least as many fields and headers as a program
pub record HasRoom (program : Program) (store : Contents) : Type 0 where
  pub fields : program.fields ≤ length store.fields
  pub headers : length program.headers ≤ length store.valid

-- two stores have equally many fields and headers
pub record AreAsLarge (one other : Contents) : Type 0 where
  pub fields : length other.fields ≡ length one.fields
  pub headers : length other.valid ≡ length one.valid

-- what is read as a field is in the store
abbrev pub IsInStore : Contents → FieldRef → Type 0
IsInStore store (refs.Field place) = FieldFits (counts_of store []) place
IsInStore store (refs.Valid header) = header < length store.valid

-- so it is with an input of a calculation
abbrev pub IsInputInStore : Contents → CalculationInput → Type 0
IsInputInStore store (inputs.Field field) = IsInStore store field
IsInputInStore store (inputs.Literal value width) = width ≤ 128

-- a store has just as many fields and headers as a program
pub record IsOfSize (program : Program) (store : Contents) : Type 0 where
  pub fields : length store.fields ≡ program.fields
  pub headers : length store.valid ≡ length program.headers
