use Rattle.tape_form.proofs.Judging.{hides_nothing}
use Rattle.tape_form.proofs.read.read_from.Goals as goal

pub returns-clause-hides_nothing : goal.returns-clause-hides_nothing
returns-clause-hides_nothing g c = λ e.
    hides_nothing (g.S.Source.left c.args.source.now) (g.S.Source.left c.take_bytes.new.source) (g.S.Source.faults c.args.source.now) (g.S.Source.faults c.take_bytes.new.source) (g.S.Source.ends c.args.source.now) (g.S.Source.ends c.take_bytes.new.source)
    c.in_ok-bytes.bytes.items c.in_ok-bytes.ended c.judge.result c.in_ok-bytes.ensures.ok c.in_ok-bytes.ensures.ended c.in_ok-bytes.ensures.soundly c.in_ok-bytes.ensures.within (rw c.as_slice.ensures.value at c.judge.ensures) e
