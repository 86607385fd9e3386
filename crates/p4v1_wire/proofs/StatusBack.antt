-- The messages of a failure are read back.
use Rattle.std.proofs.Common.{refl}
use Rattle.wire_messages.proofs.CanWrite.{rows_can_be_written}
use Rattle.wire_messages.proofs.ReadBack.{int32_back, bytes_back, text_back}
use Rattle.p4v1_read.specs.Stream.{any_of, status_of}
use Rattle.p4v1_wire.specs.ServerMessages.{error_of}
use Rattle.p4v1_wire.specs.ReadBack.{IsReadBack, itself}
use Rattle.p4v1_wire.specs.StatusRows.{any_rows, AnyInRange, status_rows, StatusInRange, error_rows, ErrorInRange}
use Rattle.p4v1_wire.proofs.NestedBack.{read_from, all_same}

pub any_back : IsReadBack any_of any_rows AnyInRange itself
unfolding any_of any_rows AnyInRange
any_back m fits short =
    let rows = any_rows m in
    read_from any_of rows m refl fits short
    (rw (
      text_back 1 rows m.type_url refl refl fits.0,
      bytes_back 2 rows m.value refl refl,
    ) refl)

pub status_back : IsReadBack status_of status_rows StatusInRange itself
unfolding status_of status_rows StatusInRange
status_back m fits short =
    let rows = status_rows m in
    let whole = rows_can_be_written rows refl fits.0 short in
    read_from status_of rows m refl fits.0 short
    (rw (
      int32_back 1 rows m.code refl refl fits.0.0,
      text_back 2 rows m.message refl refl fits.0.1.0,
      all_same any_of 3 rows any_rows AnyInRange m.details refl refl whole fits.1 any_back,
    ) refl)

pub error_back : IsReadBack error_of error_rows ErrorInRange itself
unfolding error_of error_rows ErrorInRange
error_back m fits short =
    let rows = error_rows m in
    let whole = rows_can_be_written rows refl fits.0 short in
    read_from error_of rows m refl fits.0 short
    (rw (
      int32_back 1 rows m.canonical_code refl refl fits.0.0,
      text_back 2 rows m.message refl refl fits.0.1.0,
      text_back 3 rows m.space refl refl fits.0.1.1.0,
      int32_back 4 rows m.code refl refl fits.0.1.1.1.0,
      all_same any_of 5 rows any_rows AnyInRange m.details refl refl whole fits.1 any_back,
    ) refl)
