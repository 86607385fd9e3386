-- A run of two lanes, computed.
use Rattle.std.proofs.Common.{refl}
use Rattle.role_arbiter.specs.Laws.{WorkedRun}

pub worked_run : WorkedRun
worked_run = record {
  first_accepted = refl;
  first_told = refl;
  first_status = refl;
  second_accepted = refl;
  second_told = refl;
  second_status = refl;
  leave_told = refl;
  left_status = refl;
  left_greatest = refl;
  again_accepted = refl;
  again_told = refl;
  again_status = refl;
}
