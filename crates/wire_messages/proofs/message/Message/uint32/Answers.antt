use Rattle.wire_messages.specs.Message.{number_at}
use Rattle.wire_messages.proofs.Scanning.{last_scan, scan_next, scan_refused, scan_end, refused}
use Rattle.wire_messages.proofs.message.Message.uint32.Goals as goal

pub returns-in_err-value : goal.returns-in_err-value
unfolding number_at
returns-in_err-value c = refused _ _ _ c.from_residual.ensures.0 (scan_refused _ (last_scan _ c.args.number) _ _ _ _ _ c.in-Some.ensures.some c.fields.invariant c.in_err-value.ensures)

pub fields-preserved : goal.fields-preserved
unfolding number_at
fields-preserved c = scan_next _ (last_scan _ c.args.number) _ _ _ _ _ _ c.in-Some.ensures.some c.fields.invariant c.in_ok-value.ensures

pub returns : goal.returns
unfolding number_at
returns c = scan_end _ (last_scan _ c.args.number) _ _ _ c.in_default.ensures.none c.fields.invariant
