use Rattle.std.proofs.Common.{◌≡◌, ◌++◌, drop}
use Rattle.std.specs.List.{filter_map}
use Rattle.switch_spec.specs.Counts.{line_of}
use Rattle.slot_totals.proofs.entries.push_lines.Given as goal

abbrev pub invariant-loop-entry : goal.invariant-loop-entry
invariant-loop-entry g l =
    l.lines.items ++ filter_map (line_of (g.C.Counts.figures l.counts)) (drop l.entry-index l.entries) ≡ l.initial.lines.items ++ filter_map (line_of (g.C.Counts.figures l.counts)) l.entries
