use Rattle.std.proofs.Common.{map}
use Rattle.command_words.specs.Words.{command_of}
use Rattle.p4switch_run.specs.Replay.{streams}
use Rattle.p4switch_run.specs.Words.{job_for}
use Rattle.p4switch_run.proofs.Unbegun.{net_unbegun, unbegun, unused}
use Rattle.p4switch_run.proofs.program.status_of.Goals as goal

pub returns-in-Err-clause-ends : goal.returns-in-Err-clause-ends
returns-in-Err-clause-ends g c =
    let job = job_for (command_of (map (λ word. word.now) c.args.words.now)) in
    unbegun job (streams (g.S.Source.left c.args.tape.now) (g.O.Sink.sent c.args.out.now) (g.S.Source.faults c.args.tape.now) (g.O.Sink.faults c.args.out.now) (g.S.Source.ends c.args.tape.now)) c.in-Err.ensures.memory

pub returns-in-Err-clause-net_ends : goal.returns-in-Err-clause-net_ends
returns-in-Err-clause-net_ends g c = net_unbegun (job_for (command_of (map (λ word. word.now) c.args.words.now))) (g.N.Net.ends c.args.net.now) (g.N.Net.faults c.args.net.now)

pub returns-in-Err-clause-net : goal.returns-in-Err-clause-net
returns-in-Err-clause-net g c = unused (job_for (command_of (map (λ word. word.now) c.args.words.now))) c.args.net.now

pub returns-in-Err-clause-clock : goal.returns-in-Err-clause-clock
returns-in-Err-clause-clock g c = unused (job_for (command_of (map (λ word. word.now) c.args.words.now))) c.args.clock.now
