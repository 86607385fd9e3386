use Rattle.std.proofs.Common.{refl}
use Rattle.wire_messages.specs.Message.{bytes_of, message_at, messages_at}
use Rattle.wire_messages.proofs.Scanning.{one_scan, scan_next, scan_refused, scan_end, refused}
use Rattle.wire_messages.proofs.message.Message.message.Goals as goal

pub fields-init : goal.fields-init
unfolding message_at messages_at
fields-init c = rw c.fields-left.ensures refl

pub returns-in_err-value : goal.returns-in_err-value
unfolding message_at messages_at
returns-in_err-value c = refused _ _ _ c.from_residual.ensures.0 (scan_refused _ (one_scan bytes_of c.args.number) _ _ _ _ _ c.in-Some.ensures.some c.fields.invariant c.in_err-value.ensures)

pub fields-preserved : goal.fields-preserved
unfolding message_at messages_at
fields-preserved c = scan_next _ (one_scan bytes_of c.args.number) _ _ _ _ _ _ c.in-Some.ensures.some c.fields.invariant c.in_ok-value.ensures

pub returns : goal.returns
unfolding message_at messages_at
returns c = scan_end _ (one_scan bytes_of c.args.number) _ _ _ c.in_default.ensures.none c.fields.invariant
