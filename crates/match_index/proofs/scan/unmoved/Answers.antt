use Rattle.std.proofs.Common.{◌≡◌, ◌<◌, length, arith}
use Rattle.match_index.proofs.Searched.{found_there}
use Rattle.match_index.proofs.scan.unmoved.Goals as goal

pub returns-then-entry-seq : goal.returns-then-entry-seq
returns-then-entry-seq c =
    let in_range : c.saturating_sub-place.result < length c.args.entries.now = omega arith in
    let same : c.index-entries-place.result.seq ≡ c.args.seq = omega arith in
    found_there c.args.entries.now c.args.seq c.saturating_sub-place.result c.index-entries-place.result c.requires in_range c.index-entries-place.is same
