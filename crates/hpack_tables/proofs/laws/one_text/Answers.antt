use Rattle.hpack_tables.proofs.Texts.{one_text}
use Rattle.hpack_tables.proofs.laws.one_text.Goals as goal

pub returns : goal.returns
returns c = one_text
