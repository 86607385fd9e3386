use Rattle.std.proofs.Common.{arith, ◌∙◌, sym}
use Rattle.hpack_tables.proofs.RowChecks.{row_is, row_symbol, row_small, past_longest}
use Rattle.hpack_tables.proofs.code.symbol_of.Goals as goal

pub returns-then-bits-gt-LONGEST-clause-exact : goal.returns-then-bits-gt-LONGEST-clause-exact
returns-then-bits-gt-LONGEST-clause-exact c = sym (past_longest c.args.bits c.args.code (omega arith))

pub symbol_in-requires-clause-inside : goal.symbol_in-requires-clause-inside
symbol_in-requires-clause-inside c = (row_is c.args.bits (omega arith)).inside

pub returns-clause-exact : goal.returns-clause-exact
returns-clause-exact c = c.symbol_in.ensures ∙ row_symbol _ c.args.bits c.args.code (row_is c.args.bits (omega arith))

pub returns-clause-small : goal.returns-clause-small
returns-clause-small c = rw c.symbol_in.ensures (row_small _ c.args.code)
