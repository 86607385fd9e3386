use Rattle.std.proofs.Common.{◌≡◌, ◌++◌, length}
use Rattle.std.specs.List.{filter_map}
use Rattle.switch_spec.specs.Counts.{line_of}
use Rattle.slot_totals.proofs.entries.push_all.Given as goal

abbrev pub invariant-loop-entries : goal.invariant-loop-entries
invariant-loop-entries g l =
    l.lines.items ++ filter_map (line_of (g.C.Counts.figures l.counts)) l.tables ≡ l.initial.lines.items ++ filter_map (line_of (g.C.Counts.figures l.counts)) l.plane.now.entries

abbrev pub decreases-loop-entries : goal.decreases-loop-entries
decreases-loop-entries g l = length l.tables
