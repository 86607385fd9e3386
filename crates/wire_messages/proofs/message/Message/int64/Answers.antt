use Rattle.std.proofs.Common.{◌≡◌, ℤ, sym, subst}
use Rattle.std.proofs.lemmas.Int.{to_z-of_z}
use mir.Val.{SFits}
use mir.Syntax.{w64}
use Rattle.wire_messages.specs.Message.{int64_at}
use Rattle.wire_messages.specs.Numbers.{as_int64}
use Rattle.std.proofs.Common.{rules}
use Rattle.wire_messages.specs.Message.{number_at}
use Rattle.wire_messages.proofs.Scanning.{last_scan, scan_next, scan_refused, scan_end, refused}
use Rattle.wire_messages.proofs.message.Message.int64.Goals as goal

pub returns-in_err-value : goal.returns-in_err-value
unfolding number_at
returns-in_err-value c = refused _ _ _ c.from_residual.ensures.0 (scan_refused _ (last_scan _ c.args.number) _ _ _ _ _ c.in-Some.ensures.some c.fields.invariant c.in_err-value.ensures)

pub fields-preserved : goal.fields-preserved
unfolding number_at
fields-preserved c =
    let fits : SFits w64 c.in_ok-value.value = search rules in
    subst (λ (value : ℤ). number_at as_int64 value c.args.number c.next.new.self ≡ int64_at c.args.number c.args.self.now) (sym (to_z-of_z w64 c.in_ok-value.value fits))
    (scan_next _ (last_scan _ c.args.number) _ _ _ _ _ _ c.in-Some.ensures.some c.fields.invariant c.in_ok-value.ensures)

pub returns : goal.returns
unfolding number_at
returns c = scan_end _ (last_scan _ c.args.number) _ _ _ c.in_default.ensures.none c.fields.invariant
