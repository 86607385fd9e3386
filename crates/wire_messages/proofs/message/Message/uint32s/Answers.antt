use Rattle.std.proofs.Common.{◌++◌}
use Rattle.std.proofs.lemmas.Result.{err_from_is_err_and}
use Rattle.wire_messages.specs.Message.{flatten, numbers_of, uint32s_at}
use Rattle.wire_messages.specs.Numbers.{as_uint32}
use Rattle.wire_messages.proofs.Asking.{asks_next, asks_here, numbers_ask}
use Rattle.wire_messages.proofs.Scanning.{scan_next, scan_refused, scan_end, refuses}
use Rattle.wire_messages.proofs.Packed.{numbers_scan, numbers_start}
use Rattle.wire_messages.proofs.message.Message.uint32s.Goals as goal

pub fields-init : goal.fields-init
unfolding uint32s_at
fields-init c = rw (c.fields-left.ensures, c.new-found.ensures.items) (numbers_start c.args.number _, λ asked. asked)

pub fields-preserved : goal.fields-preserved
fields-preserved c = (
  scan_next _ (numbers_scan c.args.number) _ _ _ _ _ _ c.in-Some.ensures.some c.fields.invariant.0 c.in_ok-push_numbers.ensures.exact,
  asks_next (numbers_of as_uint32) _ numbers_ask (λ lists. c.fields.found.items ++ flatten lists) c.args.number _ _ _ _ _ c.in-Some.ensures.some c.fields.invariant.1 c.in_ok-push_numbers.ensures.exact,
)

pub returns-in_err-push_numbers-clause-exact : goal.returns-in_err-push_numbers-clause-exact
returns-in_err-push_numbers-clause-exact c =
    let p = err_from_is_err_and c.from_residual.result c.from_residual.ensures.1 in
    rw (p.1, p.2) (refuses c.in_err-push_numbers.field-0.0 _ _ c.in_err-push_numbers.ensures.exact (scan_refused _ (numbers_scan c.args.number) _ _ _ _ _ c.in-Some.ensures.some c.fields.invariant.0))

pub returns-in_err-push_numbers-clause-memory : goal.returns-in_err-push_numbers-clause-memory
returns-in_err-push_numbers-clause-memory c =
    let p = err_from_is_err_and c.from_residual.result c.from_residual.ensures.1 in
    λ e. asks_here (numbers_of as_uint32) _ numbers_ask c.args.number _ _ _ _ c.in-Some.ensures.some c.fields.invariant.1 (c.in_err-push_numbers.ensures.memory cc)

pub returns-clause-exact : goal.returns-clause-exact
unfolding uint32s_at
returns-clause-exact c = scan_end _ (numbers_scan c.args.number) _ _ _ c.in_default.ensures.none c.fields.invariant.0
