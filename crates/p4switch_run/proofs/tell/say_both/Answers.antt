use Rattle.p4switch_run.proofs.TellLemmas.{said_next}
use Rattle.p4switch_run.proofs.tell.say_both.Goals as goal

pub returns-in-All : goal.returns-in-All
returns-in-All g c =
    said_next _ (g.E.Sink.sent c.write.new.self) _ _ _ _ (g.E.Sink.faults c.write.new.self) _ _
    (record { sends = rw c.as_bytes.ensures.value at c.in-All.ensures.sends; failed = c.in-All.ensures.failed; no_fault = c.in-All.ensures.no_fault })
    (record { sends = rw c.as_bytes-in-All.ensures.value at c.write-in-All.ensures.sends; failed = c.write-in-All.ensures.failed; no_fault = c.write-in-All.ensures.no_fault })
