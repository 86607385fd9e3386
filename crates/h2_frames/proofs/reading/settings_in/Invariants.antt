use Rattle.std.proofs.Common.{◌-◌, ◌/◌, length}
use Rattle.h2_frames.specs.Reading.{settings_in}
use Rattle.h2_frames.proofs.Settings.{ArePart}
use Rattle.h2_frames.proofs.reading.settings_in.Given as goal

abbrev pub invariant-loop : goal.invariant-loop
invariant-loop l = ArePart l.settings (l.end - l.counter) l.rest (settings_in (length l.bytes / 6) l.bytes)
