use Rattle.std.proofs.Common.{refl, rules}
use Rattle.wire_messages.specs.Message.{text_at}
use Rattle.wire_messages.specs.Scans.{text_of}
use Rattle.wire_messages.proofs.Scanning.{last_scan, scan_next, scan_refused, scan_end, refused}
use Rattle.wire_messages.proofs.message.Message.text.Goals as goal

pub fields-init : goal.fields-init
unfolding text_at
fields-init c = rw (c.fields-left.ensures) (search rules, refl)

pub returns-in_err-value : goal.returns-in_err-value
unfolding text_at
returns-in_err-value c = refused _ _ _ c.from_residual.ensures.0 (scan_refused _ (last_scan text_of c.args.number) _ _ _ _ _ c.in-Some.ensures.some c.fields.invariant.1 c.in_err-value.ensures)

pub fields-preserved : goal.fields-preserved
unfolding text_at
fields-preserved c = (search rules, scan_next _ (last_scan text_of c.args.number) _ _ _ _ _ _ c.in-Some.ensures.some c.fields.invariant.1 c.in_ok-value.ensures)

pub returns : goal.returns
unfolding text_at
returns c = scan_end _ (last_scan text_of c.args.number) _ _ _ c.in_default.ensures.none c.fields.invariant.1
