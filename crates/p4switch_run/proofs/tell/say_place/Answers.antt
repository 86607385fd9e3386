use Rattle.std.proofs.Common.{append_assoc}
use Rattle.std.specs.Prelude.{codes}
use Rattle.std.specs.Fmt.{decimal}
use Rattle.p4switch_run.proofs.TellLemmas.{said_next, said_cut}
use Rattle.p4switch_run.proofs.tell.say_place.Goals as goal

pub returns-in-Failed : goal.returns-in-Failed
returns-in-Failed g c =
    let said = rw c.format.ensures.text at c.in-Failed.ensures in
    rw (← append_assoc (codes "p4switch: not a tape after ") (decimal c.args.place) (codes " bytes\n")) (said_cut _ _ _ (codes " bytes\n") _ _ said)

pub returns-in-All : goal.returns-in-All
returns-in-All g c =
    let said = rw c.format.ensures.text at c.in-All.ensures in
    rw (← append_assoc (codes "p4switch: not a tape after ") (decimal c.args.place) (codes " bytes\n"))
    (said_next _ _ _ _ (codes " bytes\n") _ (g.E.Sink.faults c.say_both.new.err) _ _ said (record { sends = c.write.ensures.sends; failed = c.write.ensures.failed; no_fault = c.write.ensures.no_fault }))
