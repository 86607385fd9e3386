use Rattle.tape_form.proofs.Judging.{kept_within, flaw_within, is_due}
use Rattle.tape_form.proofs.read.judge.Goals as goal

pub answer_of-requires : goal.answer_of-requires
answer_of-requires c = record {
  whole = kept_within (λ x. x.items) c.args.ended c.args.bytes.now c.tape_at.result c.requires c.tape_at.ensures;
  within = flaw_within (λ x. x.items) c.args.bytes.now c.tape_at.result c.tape_at.ensures;
}

pub returns : goal.returns
returns c = is_due (λ x. x.items) c.args.bytes.now c.args.ended c.tape_at.result _ c.tape_at.ensures c.answer_of.ensures
