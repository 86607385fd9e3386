use Rattle.std.proofs.Common.{sym, ap, append_assoc, arith, [], ◌∷◌, ◌++◌, ◌∙◌, ◌%◌}
use Rattle.canon_bytes.proofs.Canons.{canon_small, canon_more}
use Rattle.canon_bytes.proofs.writing.+push_number.Goals.{then-value-ge256+in_ok-push_number, else-value-ge256}
use Rattle.canon_bytes.proofs.writing.+push_number.Goals as goal

pub returns : goal.returns
returns t c =
    let old = c.args.bytes.now in
    let last = c.args.value % 256 ∷ [] in
    elim c.if-value-ge256.branch [
      | then-value-ge256+in_ok-push_number w ↦
          c.in_ok-push.ensures.ok ∙ ap (λ x. x ++ last) (w.bytes-is ∙ w.in_ok-push_number.ensures)
          ∙ append_assoc old _ last ∙ ap (λ x. old ++ x) (sym (canon_more c.args.value (omega arith)))
      | else-value-ge256 w ↦
          c.in_ok-push.ensures.ok ∙ ap (λ x. x ++ last) w.bytes-is
          ∙ ap (λ x. old ++ x) (sym (canon_small c.args.value (omega arith)))
    ]
