use Rattle.std.proofs.Common.{map, refl, sym, ◌∙◌}
use Rattle.p4switch_run.specs.Replay.{streams}
use Rattle.p4switch_run.proofs.Endings as endings
use Rattle.p4switch_run.proofs.program.run.Goals as goal

pub returns-clause-report : goal.returns-clause-report
returns-clause-report g c =
    let old = streams (g.S.Source.left c.args.tape.now) (g.O.Sink.sent c.args.out.now) (g.S.Source.faults c.args.tape.now) (g.O.Sink.faults c.args.out.now) (g.S.Source.ends c.args.tape.now) in
    let new = streams (g.S.Source.left c.status_of-status.new.tape) (g.O.Sink.sent c.status_of-status.new.out) (g.S.Source.faults c.status_of-status.new.tape) (g.O.Sink.faults c.status_of-status.new.out) (g.S.Source.ends c.status_of-status.new.tape) in
    let words = map (λ word. word.now) c.args.words.now in
    λ e. endings.reports _ c.status_of-status.result words old new (g.N.Net.ends c.args.net.now) (g.N.Net.ends c.status_of-status.new.net) (g.N.Net.faults c.args.net.now) (g.N.Net.faults c.status_of-status.new.net) refl c.status_of-status.ensures.ends c.status_of-status.ensures.net_ends (sym c.number.ensures ∙ e)

pub returns-clause-no_memory : goal.returns-clause-no_memory
returns-clause-no_memory g c =
    let old = streams (g.S.Source.left c.args.tape.now) (g.O.Sink.sent c.args.out.now) (g.S.Source.faults c.args.tape.now) (g.O.Sink.faults c.args.out.now) (g.S.Source.ends c.args.tape.now) in
    let new = streams (g.S.Source.left c.status_of-status.new.tape) (g.O.Sink.sent c.status_of-status.new.out) (g.S.Source.faults c.status_of-status.new.tape) (g.O.Sink.faults c.status_of-status.new.out) (g.S.Source.ends c.status_of-status.new.tape) in
    λ e. endings.no_memory _ c.status_of-status.result old new c.status_of-status.ensures.ends (sym c.number.ensures ∙ e)

pub returns-clause-hides_nothing : goal.returns-clause-hides_nothing
returns-clause-hides_nothing g c =
    let old = streams (g.S.Source.left c.args.tape.now) (g.O.Sink.sent c.args.out.now) (g.S.Source.faults c.args.tape.now) (g.O.Sink.faults c.args.out.now) (g.S.Source.ends c.args.tape.now) in
    let new = streams (g.S.Source.left c.status_of-status.new.tape) (g.O.Sink.sent c.status_of-status.new.out) (g.S.Source.faults c.status_of-status.new.tape) (g.O.Sink.faults c.status_of-status.new.out) (g.S.Source.ends c.status_of-status.new.tape) in
    let words = map (λ word. word.now) c.args.words.now in
    λ e. endings.hides_nothing _ c.status_of-status.result words old new refl c.status_of-status.ensures.ends (sym c.number.ensures ∙ e)

pub returns-clause-read_fault : goal.returns-clause-read_fault
returns-clause-read_fault g c =
    let old = streams (g.S.Source.left c.args.tape.now) (g.O.Sink.sent c.args.out.now) (g.S.Source.faults c.args.tape.now) (g.O.Sink.faults c.args.out.now) (g.S.Source.ends c.args.tape.now) in
    let new = streams (g.S.Source.left c.status_of-status.new.tape) (g.O.Sink.sent c.status_of-status.new.out) (g.S.Source.faults c.status_of-status.new.tape) (g.O.Sink.faults c.status_of-status.new.out) (g.S.Source.ends c.status_of-status.new.tape) in
    let words = map (λ word. word.now) c.args.words.now in
    λ e. endings.read_fault _ c.status_of-status.result words old new refl c.status_of-status.ensures.ends (sym c.number.ensures ∙ e)

pub returns-clause-write_fault : goal.returns-clause-write_fault
returns-clause-write_fault g c =
    let old = streams (g.S.Source.left c.args.tape.now) (g.O.Sink.sent c.args.out.now) (g.S.Source.faults c.args.tape.now) (g.O.Sink.faults c.args.out.now) (g.S.Source.ends c.args.tape.now) in
    let new = streams (g.S.Source.left c.status_of-status.new.tape) (g.O.Sink.sent c.status_of-status.new.out) (g.S.Source.faults c.status_of-status.new.tape) (g.O.Sink.faults c.status_of-status.new.out) (g.S.Source.ends c.status_of-status.new.tape) in
    let words = map (λ word. word.now) c.args.words.now in
    λ e. endings.write_fault _ c.status_of-status.result words old new refl c.status_of-status.ensures.ends (sym c.number.ensures ∙ e)

pub returns-clause-too_long : goal.returns-clause-too_long
returns-clause-too_long g c =
    let old = streams (g.S.Source.left c.args.tape.now) (g.O.Sink.sent c.args.out.now) (g.S.Source.faults c.args.tape.now) (g.O.Sink.faults c.args.out.now) (g.S.Source.ends c.args.tape.now) in
    let new = streams (g.S.Source.left c.status_of-status.new.tape) (g.O.Sink.sent c.status_of-status.new.out) (g.S.Source.faults c.status_of-status.new.tape) (g.O.Sink.faults c.status_of-status.new.out) (g.S.Source.ends c.status_of-status.new.tape) in
    let words = map (λ word. word.now) c.args.words.now in
    λ e. endings.too_long _ c.status_of-status.result words old new refl c.status_of-status.ensures.ends (sym c.number.ensures ∙ e)

pub returns-clause-flawed : goal.returns-clause-flawed
returns-clause-flawed g c =
    let old = streams (g.S.Source.left c.args.tape.now) (g.O.Sink.sent c.args.out.now) (g.S.Source.faults c.args.tape.now) (g.O.Sink.faults c.args.out.now) (g.S.Source.ends c.args.tape.now) in
    let new = streams (g.S.Source.left c.status_of-status.new.tape) (g.O.Sink.sent c.status_of-status.new.out) (g.S.Source.faults c.status_of-status.new.tape) (g.O.Sink.faults c.status_of-status.new.out) (g.S.Source.ends c.status_of-status.new.tape) in
    let words = map (λ word. word.now) c.args.words.now in
    λ e. endings.flawed _ c.status_of-status.result words old new refl c.status_of-status.ensures.ends (sym c.number.ensures ∙ e)

pub returns-clause-not_a_tape : goal.returns-clause-not_a_tape
returns-clause-not_a_tape g c =
    let old = streams (g.S.Source.left c.args.tape.now) (g.O.Sink.sent c.args.out.now) (g.S.Source.faults c.args.tape.now) (g.O.Sink.faults c.args.out.now) (g.S.Source.ends c.args.tape.now) in
    let new = streams (g.S.Source.left c.status_of-status.new.tape) (g.O.Sink.sent c.status_of-status.new.out) (g.S.Source.faults c.status_of-status.new.tape) (g.O.Sink.faults c.status_of-status.new.out) (g.S.Source.ends c.status_of-status.new.tape) in
    let words = map (λ word. word.now) c.args.words.now in
    λ e. endings.not_a_tape _ c.status_of-status.result _ old new c.status_of-status.ensures.ends (record { answer = c.tell.result; said = c.tell.ensures }) (sym c.number.ensures ∙ e)

pub returns-clause-refused : goal.returns-clause-refused
returns-clause-refused g c =
    let old = streams (g.S.Source.left c.args.tape.now) (g.O.Sink.sent c.args.out.now) (g.S.Source.faults c.args.tape.now) (g.O.Sink.faults c.args.out.now) (g.S.Source.ends c.args.tape.now) in
    let new = streams (g.S.Source.left c.status_of-status.new.tape) (g.O.Sink.sent c.status_of-status.new.out) (g.S.Source.faults c.status_of-status.new.tape) (g.O.Sink.faults c.status_of-status.new.out) (g.S.Source.ends c.status_of-status.new.tape) in
    let words = map (λ word. word.now) c.args.words.now in
    λ e. endings.refused _ c.status_of-status.result words old new refl c.status_of-status.ensures.ends (sym c.number.ensures ∙ e)

pub returns-clause-command : goal.returns-clause-command
returns-clause-command g c =
    let old = streams (g.S.Source.left c.args.tape.now) (g.O.Sink.sent c.args.out.now) (g.S.Source.faults c.args.tape.now) (g.O.Sink.faults c.args.out.now) (g.S.Source.ends c.args.tape.now) in
    let new = streams (g.S.Source.left c.status_of-status.new.tape) (g.O.Sink.sent c.status_of-status.new.out) (g.S.Source.faults c.status_of-status.new.tape) (g.O.Sink.faults c.status_of-status.new.out) (g.S.Source.ends c.status_of-status.new.tape) in
    let words = map (λ word. word.now) c.args.words.now in
    λ not. endings.command _ c.status_of-status.result words old new refl c.status_of-status.ensures.ends (λ e. not (c.number.ensures ∙ e))

pub returns-clause-statuses : goal.returns-clause-statuses
returns-clause-statuses g c = rw c.number.ensures (endings.at_most_8 c.status_of-status.result)

pub returns-clause-net_fault : goal.returns-clause-net_fault
returns-clause-net_fault g c =
    let old = streams (g.S.Source.left c.args.tape.now) (g.O.Sink.sent c.args.out.now) (g.S.Source.faults c.args.tape.now) (g.O.Sink.faults c.args.out.now) (g.S.Source.ends c.args.tape.now) in
    let new = streams (g.S.Source.left c.status_of-status.new.tape) (g.O.Sink.sent c.status_of-status.new.out) (g.S.Source.faults c.status_of-status.new.tape) (g.O.Sink.faults c.status_of-status.new.out) (g.S.Source.ends c.status_of-status.new.tape) in
    λ e. endings.net_fault _ c.status_of-status.result old new (g.N.Net.ends c.args.net.now) (g.N.Net.ends c.status_of-status.new.net) (g.N.Net.faults c.args.net.now) (g.N.Net.faults c.status_of-status.new.net) c.status_of-status.ensures.ends c.status_of-status.ensures.net_ends (sym c.number.ensures ∙ e)

pub returns-clause-no_net_fault : goal.returns-clause-no_net_fault
returns-clause-no_net_fault g c = λ not. endings.sound_net _ c.status_of-status.result (g.N.Net.ends c.args.net.now) (g.N.Net.ends c.status_of-status.new.net) (g.N.Net.faults c.args.net.now) (g.N.Net.faults c.status_of-status.new.net) c.status_of-status.ensures.net_ends (λ e. not (c.number.ensures ∙ e))

pub returns-clause-no_net_end : goal.returns-clause-no_net_end
returns-clause-no_net_end g c = λ not. endings.unended_net _ c.status_of-status.result (g.N.Net.ends c.args.net.now) (g.N.Net.ends c.status_of-status.new.net) (g.N.Net.faults c.args.net.now) (g.N.Net.faults c.status_of-status.new.net) c.status_of-status.ensures.net_ends (λ e. not (c.number.ensures ∙ e))

pub returns-clause-net : goal.returns-clause-net
returns-clause-net g c =
    let words = map (λ word. word.now) c.args.words.now in
    λ not. endings.unused _ words c.args.net.now c.status_of-status.new.net refl c.status_of-status.ensures.net not

pub returns-clause-clock : goal.returns-clause-clock
returns-clause-clock g c =
    let words = map (λ word. word.now) c.args.words.now in
    λ not. endings.unused _ words c.args.clock.now c.status_of-status.new.clock refl c.status_of-status.ensures.clock not

pub returns-clause-left_alone : goal.returns-clause-left_alone
returns-clause-left_alone g c =
    let old = streams (g.S.Source.left c.args.tape.now) (g.O.Sink.sent c.args.out.now) (g.S.Source.faults c.args.tape.now) (g.O.Sink.faults c.args.out.now) (g.S.Source.ends c.args.tape.now) in
    let new = streams (g.S.Source.left c.status_of-status.new.tape) (g.O.Sink.sent c.status_of-status.new.out) (g.S.Source.faults c.status_of-status.new.tape) (g.O.Sink.faults c.status_of-status.new.out) (g.S.Source.ends c.status_of-status.new.tape) in
    let words = map (λ word. word.now) c.args.words.now in
    λ serves. endings.left_alone _ c.status_of-status.result words old new refl c.status_of-status.ensures.ends serves

pub returns-clause-served : goal.returns-clause-served
returns-clause-served g c serves sound =
    let old = streams (g.S.Source.left c.args.tape.now) (g.O.Sink.sent c.args.out.now) (g.S.Source.faults c.args.tape.now) (g.O.Sink.faults c.args.out.now) (g.S.Source.ends c.args.tape.now) in
    let new = streams (g.S.Source.left c.status_of-status.new.tape) (g.O.Sink.sent c.status_of-status.new.out) (g.S.Source.faults c.status_of-status.new.tape) (g.O.Sink.faults c.status_of-status.new.out) (g.S.Source.ends c.status_of-status.new.tape) in
    let words = map (λ word. word.now) c.args.words.now in
    rw c.number.ensures (endings.served _ c.status_of-status.result words old new (g.N.Net.ends c.args.net.now) (g.N.Net.ends c.status_of-status.new.net) (g.N.Net.faults c.args.net.now) (g.N.Net.faults c.status_of-status.new.net) refl c.status_of-status.ensures.ends c.status_of-status.ensures.net_ends serves sound)

pub returns-clause-nothing : goal.returns-clause-nothing
returns-clause-nothing g c =
    let old = streams (g.S.Source.left c.args.tape.now) (g.O.Sink.sent c.args.out.now) (g.S.Source.faults c.args.tape.now) (g.O.Sink.faults c.args.out.now) (g.S.Source.ends c.args.tape.now) in
    let new = streams (g.S.Source.left c.status_of-status.new.tape) (g.O.Sink.sent c.status_of-status.new.out) (g.S.Source.faults c.status_of-status.new.tape) (g.O.Sink.faults c.status_of-status.new.out) (g.S.Source.ends c.status_of-status.new.tape) in
    let words = map (λ word. word.now) c.args.words.now in
    λ x y z. endings.nothing _ c.status_of-status.result old new c.status_of-status.ensures.ends (λ e. x (c.number.ensures ∙ e)) (λ e. y (c.number.ensures ∙ e)) (λ e. z (c.number.ensures ∙ e))

pub returns-clause-complete : goal.returns-clause-complete
returns-clause-complete g c mode start command holds reads writes =
    let old = streams (g.S.Source.left c.args.tape.now) (g.O.Sink.sent c.args.out.now) (g.S.Source.faults c.args.tape.now) (g.O.Sink.faults c.args.out.now) (g.S.Source.ends c.args.tape.now) in
    let new = streams (g.S.Source.left c.status_of-status.new.tape) (g.O.Sink.sent c.status_of-status.new.out) (g.S.Source.faults c.status_of-status.new.tape) (g.O.Sink.faults c.status_of-status.new.out) (g.S.Source.ends c.status_of-status.new.tape) in
    let words = map (λ word. word.now) c.args.words.now in
    rw c.number.ensures (endings.complete _ c.status_of-status.result words old new refl c.status_of-status.ensures.ends mode start command holds reads writes)

pub returns-clause-judged : goal.returns-clause-judged
returns-clause-judged g c command holds reads writes =
    let old = streams (g.S.Source.left c.args.tape.now) (g.O.Sink.sent c.args.out.now) (g.S.Source.faults c.args.tape.now) (g.O.Sink.faults c.args.out.now) (g.S.Source.ends c.args.tape.now) in
    let new = streams (g.S.Source.left c.status_of-status.new.tape) (g.O.Sink.sent c.status_of-status.new.out) (g.S.Source.faults c.status_of-status.new.tape) (g.O.Sink.faults c.status_of-status.new.out) (g.S.Source.ends c.status_of-status.new.tape) in
    let words = map (λ word. word.now) c.args.words.now in
    rw c.number.ensures (endings.judged _ c.status_of-status.result words old new refl c.status_of-status.ensures.ends command holds reads writes)

pub returns-clause-first : goal.returns-clause-first
returns-clause-first g c =
    let old = streams (g.S.Source.left c.args.tape.now) (g.O.Sink.sent c.args.out.now) (g.S.Source.faults c.args.tape.now) (g.O.Sink.faults c.args.out.now) (g.S.Source.ends c.args.tape.now) in
    let new = streams (g.S.Source.left c.status_of-status.new.tape) (g.O.Sink.sent c.status_of-status.new.out) (g.S.Source.faults c.status_of-status.new.tape) (g.O.Sink.faults c.status_of-status.new.out) (g.S.Source.ends c.status_of-status.new.tape) in
    let words = map (λ word. word.now) c.args.words.now in
    rw c.number.ensures (endings.first _ c.status_of-status.result words old new refl c.status_of-status.ensures.ends)

pub returns-clause-no_write_fault : goal.returns-clause-no_write_fault
returns-clause-no_write_fault g c =
    let old = streams (g.S.Source.left c.args.tape.now) (g.O.Sink.sent c.args.out.now) (g.S.Source.faults c.args.tape.now) (g.O.Sink.faults c.args.out.now) (g.S.Source.ends c.args.tape.now) in
    let new = streams (g.S.Source.left c.status_of-status.new.tape) (g.O.Sink.sent c.status_of-status.new.out) (g.S.Source.faults c.status_of-status.new.tape) (g.O.Sink.faults c.status_of-status.new.out) (g.S.Source.ends c.status_of-status.new.tape) in
    λ not. endings.sound_sink _ c.status_of-status.result old new c.status_of-status.ensures.ends (λ e. not (c.number.ensures ∙ e))

pub returns-clause-untouched : goal.returns-clause-untouched
returns-clause-untouched g c =
    let old = streams (g.S.Source.left c.args.tape.now) (g.O.Sink.sent c.args.out.now) (g.S.Source.faults c.args.tape.now) (g.O.Sink.faults c.args.out.now) (g.S.Source.ends c.args.tape.now) in
    let new = streams (g.S.Source.left c.status_of-status.new.tape) (g.O.Sink.sent c.status_of-status.new.out) (g.S.Source.faults c.status_of-status.new.tape) (g.O.Sink.faults c.status_of-status.new.out) (g.S.Source.ends c.status_of-status.new.tape) in
    λ e. endings.untouched _ c.status_of-status.result old new c.status_of-status.ensures.ends (sym c.number.ensures ∙ e)

pub returns-clause-unread : goal.returns-clause-unread
returns-clause-unread g c number command =
    let old = streams (g.S.Source.left c.args.tape.now) (g.O.Sink.sent c.args.out.now) (g.S.Source.faults c.args.tape.now) (g.O.Sink.faults c.args.out.now) (g.S.Source.ends c.args.tape.now) in
    let new = streams (g.S.Source.left c.status_of-status.new.tape) (g.O.Sink.sent c.status_of-status.new.out) (g.S.Source.faults c.status_of-status.new.tape) (g.O.Sink.faults c.status_of-status.new.out) (g.S.Source.ends c.status_of-status.new.tape) in
    let words = map (λ word. word.now) c.args.words.now in
    endings.unread _ c.status_of-status.result words old new refl c.status_of-status.ensures.ends number command

pub returns-clause-summed : goal.returns-clause-summed
returns-clause-summed g c number command =
    let old = streams (g.S.Source.left c.args.tape.now) (g.O.Sink.sent c.args.out.now) (g.S.Source.faults c.args.tape.now) (g.O.Sink.faults c.args.out.now) (g.S.Source.ends c.args.tape.now) in
    let new = streams (g.S.Source.left c.status_of-status.new.tape) (g.O.Sink.sent c.status_of-status.new.out) (g.S.Source.faults c.status_of-status.new.tape) (g.O.Sink.faults c.status_of-status.new.out) (g.S.Source.ends c.status_of-status.new.tape) in
    let words = map (λ word. word.now) c.args.words.now in
    rw c.number.ensures (endings.gen_summed _ c.status_of-status.result words old new refl c.status_of-status.ensures.ends number command)
