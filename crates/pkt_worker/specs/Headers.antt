-- Headers before packets to a controller.
use Rattle.std.specs.Prelude.{◌≡◌, ◌%◌, ◌≤◌, List, All, length, sum_by}
use Rattle.bm_pipeline.specs.Validity.{IsWidth}
use Rattle.p4_types.specs.declared.info.HeaderField.{HeaderField}

-- the fields of a valid header: at most 128, each of 1 to 128 bits, whole bytes together
pub record IsHeaderOf (fields : List HeaderField) : Type 0 where
  pub few : length fields ≤ 128
  pub widths : All (λ field. IsWidth field.bitwidth) fields
  pub whole : sum_by (λ field. field.bitwidth) fields % 8 ≡ 0
