use Rattle.hpack_tables.proofs.StaticChecks.{entry_is, given}
use Rattle.hpack_tables.proofs.static_table.static_entry.Goals as goal

pub piece-requires-clause-ordered : goal.piece-requires-clause-ordered
piece-requires-clause-ordered c = (entry_is c.args.place c.requires).first

pub piece-requires-clause-ends : goal.piece-requires-clause-ends
piece-requires-clause-ends c = (entry_is c.args.place c.requires).middle

pub piece-requires-2-clause-ordered : goal.piece-requires-2-clause-ordered
piece-requires-2-clause-ordered c = (entry_is c.args.place c.requires).second

pub piece-requires-2-clause-ends : goal.piece-requires-2-clause-ends
piece-requires-2-clause-ends c = (entry_is c.args.place c.requires).inside

pub returns : goal.returns
returns c = given _ _ _ (entry_is c.args.place c.requires) c.piece.ensures c.piece-2.ensures
