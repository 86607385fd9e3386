use Rattle.std.proofs.Common.{length, ◌∙◌}
use Rattle.wire_messages.proofs.WrittenBytes.{no_texts, next_text, all_texts, stopped_at}
use Rattle.std.proofs.lemmas.Result.{err_from_is_err_and}
use Rattle.wire_messages.proofs.write.texts.Goals as goal

pub texts-init : goal.texts-init
texts-init c = no_texts _ _ _ _ c.iter-left.ensures

pub texts-preserved : goal.texts-preserved
texts-preserved c = next_text _ _ _ _ _ _ _ _ c.in-Some.ensures.text c.in-Some.ensures.utf8 c.in_ok-bytes.ensures.ok c.texts.invariant

pub returns-clause-ok : goal.returns-clause-ok
returns-clause-ok c = (all_texts _ _ _ _ _ c.in_default.ensures.end c.texts.invariant).so_far

pub returns-clause-fits : goal.returns-clause-fits
returns-clause-fits c = (all_texts _ _ _ _ _ c.in_default.ensures.end c.texts.invariant).fits

pub returns-in_err-bytes-clause-err : goal.returns-in_err-bytes-clause-err
returns-in_err-bytes-clause-err c =
    let p = err_from_is_err_and c.from_residual.result c.from_residual.ensures.1 in
    rw p.1 (stopped_at _ _ _ _ _ _ c.in_err-bytes.ensures.err c.texts.invariant)
