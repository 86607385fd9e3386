use Rattle.std.proofs.Common.{◌++◌}
use Rattle.wire_messages.specs.Message.{texts_at}
use Rattle.wire_messages.specs.Scans.{text_of}
use Rattle.std.proofs.lemmas.Result.{err_from_is_err_and}
use Rattle.wire_messages.proofs.Asking.{asks_next, asks_here, first_asks}
use Rattle.wire_messages.proofs.Scanning.{all_scan, scan_next, scan_refused, scan_end, refuses, all_start}
use Rattle.wire_messages.proofs.message.Message.texts.Goals as goal

pub fields-init : goal.fields-init
unfolding texts_at
fields-init c = rw (c.fields-left.ensures, c.new-found.ensures) (all_start _ c.args.number _, λ asked. asked)

pub fields-preserved : goal.fields-preserved
fields-preserved c = (
  scan_next _ (all_scan text_of c.args.number) _ _ _ _ _ _ c.in-Some.ensures.some c.fields.invariant.0 c.in_ok-push_text.ensures.exact,
  asks_next text_of _ (first_asks text_of) (λ values. c.fields.found ++ values) c.args.number _ _ _ _ _ c.in-Some.ensures.some c.fields.invariant.1 c.in_ok-push_text.ensures.exact,
)

pub returns-in_err-push_text-clause-exact : goal.returns-in_err-push_text-clause-exact
returns-in_err-push_text-clause-exact c =
    let p = err_from_is_err_and c.from_residual.result c.from_residual.ensures.1 in
    rw (p.1, p.2) (refuses c.in_err-push_text.field-0.0 _ _ c.in_err-push_text.ensures.exact (scan_refused _ (all_scan text_of c.args.number) _ _ _ _ _ c.in-Some.ensures.some c.fields.invariant.0))

pub returns-in_err-push_text-clause-memory : goal.returns-in_err-push_text-clause-memory
returns-in_err-push_text-clause-memory c =
    let p = err_from_is_err_and c.from_residual.result c.from_residual.ensures.1 in
    λ e. asks_here text_of _ (first_asks text_of) c.args.number _ _ _ _ c.in-Some.ensures.some c.fields.invariant.1 (c.in_err-push_text.ensures.memory cc)

pub returns-clause-exact : goal.returns-clause-exact
unfolding texts_at
returns-clause-exact c = scan_end _ (all_scan text_of c.args.number) _ _ _ c.in_default.ensures.none c.fields.invariant.0
