use Rattle.std.proofs.Common.{◌≡◌, ◌++◌, take}
use Rattle.std.specs.List.{flat_map}
use Rattle.h2_frames.specs.Layout.{setting_bytes}
use Rattle.h2_frames.proofs.writing.push_settings.Given as goal

abbrev pub invariant-loop-setting : goal.invariant-loop-setting
invariant-loop-setting l = l.bytes.items ≡ l.fn.bytes.items ++ flat_map setting_bytes (take l.setting-index l.settings)
