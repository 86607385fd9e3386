use Rattle.std.proofs.Common.{◌≡◌, Err, Some, codes, sym, ap, ◌∙◌}
use Rattle.std.proofs.lemmas.Result.{err_from_is_err_and}
use Rattle.json_tree.specs.View.{view}
use Rattle.json_shapes.specs.Shapes.{list_or_empty}
use Rattle.bm_records.specs.Objects.{learn_list_of}
use Rattle.bm_json.specs.Program.{program_of}
use Rattle.bm_json.proofs.Refusals.{whole_refused}
use Rattle.bm_json.proofs.program.program_of.Goals as goal

pub returns-in_err-learn_lists : goal.returns-in_err-learn_lists
unfolding program_of
returns-in_err-learn_lists c =
    let d = view c.args.value.now in
    let r = c.from_residual-in_err-learn_lists in
    let p = err_from_is_err_and r.result r.ensures.1 in
    let e = c.in_err-learn_lists.field-0.0 in
    let is : r.result ≡ Err e = p.1 ∙ ap Err p.2 in
    whole_refused r.result e (list_or_empty learn_list_of (codes "learn_lists") d) (program_of d) is c.in_err-learn_lists.ensures
    (λ none. rw c.in_ok-header_types.ensures (rw c.in_ok-headers.ensures (rw c.in_ok-errors.ensures (rw c.in_ok-parser.ensures (rw c.in_ok-deparser.ensures (rw c.in_ok-counter_arrays.ensures (rw c.in_ok-calculations.ensures
    (rw c.in_ok-checksums.ensures (rw none)))))))))

pub returns : goal.returns
unfolding program_of
returns c =
    rw c.in_ok-header_types.ensures (rw c.in_ok-headers.ensures (rw c.in_ok-errors.ensures (rw c.in_ok-parser.ensures (rw c.in_ok-deparser.ensures (rw c.in_ok-counter_arrays.ensures (rw c.in_ok-calculations.ensures
    (rw c.in_ok-checksums.ensures (rw c.in_ok-learn_lists.ensures (rw c.in_ok-actions.ensures (rw c.in_ok-pipelines.ensures (rw c.lists_left_out-lists_left_out.ensures)))))))))))
