use Rattle.std.proofs.Common.{◌∙◌, arith, rules}
use Rattle.std.proofs.lemmas.List.{drop_all}
use Rattle.std.proofs.lemmas.Result.{err_from_is_err_and}
use Rattle.hpack_tables.proofs.Halves.{starts, byte_fits, goes_on, is_stuck, is_refused, is_whole, long_padding, other_padding, front_at}
use Rattle.hpack_tables.proofs.strings.huffman.Goals as goal

pub loop-byte-init : goal.loop-byte-init
loop-byte-init c = starts _ _ (c.from_vec-text.ensures ∙ c.in_ok-with_capacity.ensures.items)

pub drain-requires-clause-fits : goal.drain-requires-clause-fits
drain-requires-clause-fits c = byte_fits _ _ _ c.loop-byte.invariant.fits (omega (arith, c.from.ensures, c.type_inv.bytes c.loop-byte.byte-index))

pub returns-in_err-left : goal.returns-in_err-left
returns-in_err-left c =
    let p = err_from_is_err_and c.from_residual-in_err-left.result c.from_residual-in_err-left.ensures.1 in
    rw (p.1, p.2) (is_refused _ _ _ _ _ _ _ _ (omega (arith, c.from.ensures, c.type_inv.bytes c.loop-byte.byte-index)) (front_at c.args.bytes.now c.loop-byte.byte-index c.from.result (omega arith) c.from.ensures) c.loop-byte.invariant c.in_err-left.ensures.err)

pub returns-then-left-ge-LONGEST : goal.returns-then-left-ge-LONGEST
returns-then-left-ge-LONGEST c = is_stuck _ _ _ _ _ _ _ _ _ _ (omega (arith, c.from.ensures, c.type_inv.bytes c.loop-byte.byte-index)) (front_at c.args.bytes.now c.loop-byte.byte-index c.from.result (omega arith) c.from.ensures) (omega arith) c.loop-byte.invariant c.in_ok-left.ensures.ok

pub loop-byte-preserved : goal.loop-byte-preserved
loop-byte-preserved c = goes_on _ _ _ _ _ _ _ _ _ _ (omega (arith, c.from.ensures, c.type_inv.bytes c.loop-byte.byte-index)) (front_at c.args.bytes.now c.loop-byte.byte-index c.from.result (omega arith) c.from.ensures) (omega arith) c.loop-byte.invariant c.in_ok-left.ensures.ok

pub returns-then-left-ge8 : goal.returns-then-left-ge8
returns-then-left-ge8 c = long_padding _ _ _ _ _ (drop_all c.loop-byte.byte-index c.args.bytes.now (omega arith)) (omega arith) c.loop-byte.invariant

pub returns-then-left : goal.returns-then-left
returns-then-left c = other_padding _ _ _ _ _ (drop_all c.loop-byte.byte-index c.args.bytes.now (omega arith)) (omega arith) (λ e. search rules) c.loop-byte.invariant

pub returns : goal.returns
returns c = is_whole _ _ _ _ _ (drop_all c.loop-byte.byte-index c.args.bytes.now (omega arith)) (omega arith) (search rules) c.loop-byte.invariant
