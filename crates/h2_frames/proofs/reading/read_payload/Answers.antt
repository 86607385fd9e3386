use Rattle.h2_frames.proofs.ReadFits.{fits_from, short_from}
use Rattle.h2_frames.proofs.reading.read_payload.Goals as goal

pub returns-clause-fits : goal.returns-clause-fits
returns-clause-fits c = fits_from _ _ _ c.frame.ensures.exact

pub returns-clause-short : goal.returns-clause-short
returns-clause-short c = short_from _ _ _ c.frame.ensures.exact
