use Rattle.std.proofs.Common.{arith, refl}
use Rattle.h2_frames.proofs.Settings.{starts, goes_on, is_done}
use Rattle.h2_frames.proofs.reading.settings_in.Goals as goal

pub loop-init : goal.loop-init
loop-init c = starts _ _ _ _ c.new-settings.ensures (omega arith) (omega arith)

pub split_at-requires : goal.split_at-requires
split_at-requires c = omega (arith, c.loop.invariant.long)

pub loop-preserved : goal.loop-preserved
loop-preserved c = rw (c.in_ok-push.ensures.ok, c.setting.ensures, c.split_at.ensures.front, c.split_at.ensures.back) (goes_on _ _ _ _ _ (omega arith) c.loop.invariant)

pub returns-clause-exact : goal.returns-clause-exact
returns-clause-exact c = rw (is_done _ _ _ _ (omega arith) c.loop.invariant) refl
