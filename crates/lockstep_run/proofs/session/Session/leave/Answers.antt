use Rattle.std.proofs.Common.{length, ap, ◌∙◌}
use Rattle.p4_types.specs.declared.calls.Call.TheVariants.{Leave}
use Rattle.switch_spec.specs.declared.calls.LaneCall.TheVariants.{Leaves}
use Rattle.lockstep_run.specs.Session.{State}
use Rattle.lockstep_run.proofs.SessionLemmas.{turn_plays, turn_session, short_packet, takes_packet}
use Rattle.lockstep_run.proofs.session.Session.leave.Goals as goal

pub complete-requires-clause-size : goal.complete-requires-clause-size
complete-requires-clause-size c = short_packet c.args.lane (Leave) c.handle-reply.result c.args.self.now c.handle-reply.new.self c.handle-reply.ensures

pub complete-requires-clause-takes : goal.complete-requires-clause-takes
complete-requires-clause-takes c = takes_packet c.args.lane (Leave) c.handle-reply.result c.args.self.now c.handle-reply.new.self c.requires.session c.requires.room c.handle-reply.ensures

pub returns-clause-plays : goal.returns-clause-plays
returns-clause-plays c =
    turn_plays c.complete.result c.args.lane (Leaves) c.handle-reply.result c.args.self.now c.handle-reply.new.self c.complete.new.self c.len-before.result
    c.requires.session c.requires.room c.requires.lane c.handle-reply.ensures (c.len-before.ensures ∙ ap (λ (s : State). length s.events) c.self.view_is) c.complete.ensures

pub returns-clause-session : goal.returns-clause-session
returns-clause-session c =
    turn_session c.complete.result c.args.lane (Leaves) c.handle-reply.result c.args.self.now c.handle-reply.new.self c.complete.new.self c.len-before.result
    c.requires.session c.requires.room c.requires.lane c.handle-reply.ensures (c.len-before.ensures ∙ ap (λ (s : State). length s.events) c.self.view_is) c.complete.ensures
