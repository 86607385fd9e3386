use Rattle.std.proofs.Common.{length, ap, ◌∙◌}
use Rattle.p4v1_read.specs.Calls.{call_of}
use Rattle.switch_spec.specs.declared.calls.LaneCall.TheVariants.{Asks}
use Rattle.lockstep_run.specs.Session.{State}
use Rattle.lockstep_run.proofs.SessionLemmas.{turn_plays, turn_session, short_packet, takes_packet}
use Rattle.lockstep_run.proofs.session.Session.call.Goals as goal

pub complete-requires-clause-size : goal.complete-requires-clause-size
complete-requires-clause-size c = short_packet c.args.lane (call_of c.args.method c.args.message.now) c.reply-reply.result c.args.self.now c.reply-reply.new.self c.reply-reply.ensures

pub complete-requires-clause-takes : goal.complete-requires-clause-takes
complete-requires-clause-takes c = takes_packet c.args.lane (call_of c.args.method c.args.message.now) c.reply-reply.result c.args.self.now c.reply-reply.new.self c.requires.session c.requires.room c.reply-reply.ensures

pub returns-clause-plays : goal.returns-clause-plays
returns-clause-plays c =
    turn_plays c.complete.result c.args.lane (Asks c.args.method c.args.message.now) c.reply-reply.result c.args.self.now c.reply-reply.new.self c.complete.new.self c.len-before.result
    c.requires.session c.requires.room c.requires.lane c.reply-reply.ensures (c.len-before.ensures ∙ ap (λ (s : State). length s.events) c.self.view_is) c.complete.ensures

pub returns-clause-session : goal.returns-clause-session
returns-clause-session c =
    turn_session c.complete.result c.args.lane (Asks c.args.method c.args.message.now) c.reply-reply.result c.args.self.now c.reply-reply.new.self c.complete.new.self c.len-before.result
    c.requires.session c.requires.room c.requires.lane c.reply-reply.ensures (c.len-before.ensures ∙ ap (λ (s : State). length s.events) c.self.view_is) c.complete.ensures
