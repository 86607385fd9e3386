use Rattle.std.proofs.Common.{arith, sym}
use Rattle.hpack_tables.proofs.BitSteps.{skipped, ends, is_longer, holds_none}
use Rattle.hpack_tables.proofs.strings.first_symbol.Goals as goal

pub loop-length-init : goal.loop-length-init
loop-length-init c = skipped _ _ _ c.min-skipped.result c.requires.fits (omega (arith, c.min-skipped.ensures)) (omega (arith, c.min-skipped.ensures)) (omega arith)

pub returns-in-Some : goal.returns-in-Some
returns-in-Some c = ends _ _ _ _ (omega arith) (omega arith) (sym c.in-Some.ensures.exact) c.in-Some.ensures.small c.loop-length.invariant

pub loop-length-preserved : goal.loop-length-preserved
loop-length-preserved c = is_longer _ _ c.loop-length.length _ (omega arith) (omega arith) (omega arith) (sym c.in_default.ensures.exact) c.loop-length.invariant

pub returns : goal.returns
returns c = holds_none _ _ _ (omega (arith, c.loop-length.invariant.parts)) c.loop-length.invariant
