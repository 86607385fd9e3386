use Rattle.p4v1_wire.specs.InfoRows.{preamble_rows, PreambleInRange}
use Rattle.p4v1_wire.proofs.infos.PreambleWritable.write.Goals as goal

pub returns-clause-in_range : goal.returns-clause-in_range
unfolding preamble_rows PreambleInRange
returns-clause-in_range c =
    let name = rw c.as_str.ensures at c.in_ok-text.ensures.fits in
    let alias = rw c.as_str-2.ensures at c.in_ok-text-2.ensures.fits in
    (c.in_ok-uint32.ensures.fits, (name, (alias, (c.in_ok-texts.ensures.fits, tt))))
