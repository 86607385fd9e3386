use Rattle.h2_conn.specs.Frames.{settings_in_order}
use Rattle.h2_conn.proofs.SettingSteps.{AreTaken}
use Rattle.h2_conn.proofs.settings.take_settings.Given as goal

abbrev pub invariant-loop-setting : goal.invariant-loop-setting
invariant-loop-setting l = AreTaken (settings_in_order l.settings l.fn.conn) l.fn.conn.outgoing.output l.settings l.setting-index l.conn
