use Rattle.std.proofs.Common.{length, ap, ◌∙◌, subst, sym}
use Rattle.p4_types.specs.declared.calls.Reply.{Reply}
use Rattle.lockstep_run.specs.Session.{State, IsAskedOf}
use Rattle.lockstep_run.proofs.SessionLemmas.{short_packet, takes_packet}
use Rattle.lockstep_run.proofs.Asking.{asked_whole}
use Rattle.lockstep_run.proofs.session.Session.ask.Goals as goal

pub complete-requires-clause-size : goal.complete-requires-clause-size
complete-requires-clause-size c = short_packet c.args.lane c.args.call.now c.handle-reply.result c.args.self.now c.handle-reply.new.self c.handle-reply.ensures

pub complete-requires-clause-takes : goal.complete-requires-clause-takes
complete-requires-clause-takes c = takes_packet c.args.lane c.args.call.now c.handle-reply.result c.args.self.now c.handle-reply.new.self c.requires.session c.requires.room c.handle-reply.ensures

pub returns-clause-asked : goal.returns-clause-asked
returns-clause-asked c =
    let w = asked_whole c.args.lane c.args.call.now c.handle-reply.result c.args.self.now c.handle-reply.new.self c.complete.new.self c.len-before.result
    c.requires.session c.requires.room c.requires.lane c.handle-reply.ensures (c.len-before.ensures ∙ ap (λ (s : State). length s.events) c.self.view_is) c.in_ok-complete.ensures in
    subst (λ (r : Reply). IsAskedOf c.args.lane c.args.call.now r c.args.self.now c.complete.new.self) (sym c.in_ok-copy.ensures) w.0

pub returns-clause-session : goal.returns-clause-session
returns-clause-session c =
    (asked_whole c.args.lane c.args.call.now c.handle-reply.result c.args.self.now c.handle-reply.new.self c.complete.new.self c.len-before.result
    c.requires.session c.requires.room c.requires.lane c.handle-reply.ensures (c.len-before.ensures ∙ ap (λ (s : State). length s.events) c.self.view_is) c.in_ok-complete.ensures).1
