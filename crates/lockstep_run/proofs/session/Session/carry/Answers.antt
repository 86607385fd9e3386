use Rattle.std.proofs.Common.{◌+◌, List, length, ap, ◌∙◌}
use Rattle.p4_types.specs.declared.records.HitMark.{HitMark}
use Rattle.plane_spec.specs.Planes.{ControlState}
use Rattle.slot_totals.specs.State.{figures}
use Rattle.switch_spec.specs.Counts.{figures_after}
use Rattle.switch_spec.specs.Meaning.{carried}
use Rattle.run_spec.specs.Play.{next_packet}
use Rattle.lockstep_run.specs.Session.{State, played_of}
use Rattle.lockstep_run.proofs.SessionLemmas.{carried_is}
use Rattle.lockstep_run.proofs.session.Session.carry.Goals as goal

pub returns : goal.returns
returns c =
    let who = c.args.who in
    let port = c.args.port in
    let packet = c.args.packet.now in
    let inside : State = record {
      core = c.self.inside.control;
      start = c.self.inside.published.start;
      events = c.self.inside.published.events;
      journal = c.self.inside.journal;
      records = c.self.inside.packets;
      totals = c.self.inside.totals;
    } in
    let outcome =
    c.in_ok-outcome.ensures.record
    ∙ ap (λ i. carried who (i + 1) c.image.result.now.steps c.image.result.now.now port packet) (c.from-index.ensures ∙ c.count_of.ensures)
    ∙ ap (λ n. carried who (next_packet who (played_of inside)) n c.image.result.now.now port packet) c.image.ensures.steps
    ∙ ap (λ (control : ControlState). carried who (next_packet who (played_of inside)) inside.core.steps control port packet) c.image.ensures.control
    ∙ ap (λ (s : State). carried who (next_packet who (played_of s)) s.core.steps s.core.control port packet) c.self.view_is in
    carried_is who port packet c.args.self.now inside c.in_ok-outcome.outcome c.push.new.self c.add.new.self c.self.view_is outcome c.in_ok-push.ensures.ok
    (c.in_ok-add.ensures.ok ∙ ap (λ (hits : List HitMark). figures_after (figures inside.totals) hits (length packet)) c.as_slice.ensures) c.in_ok-add.ensures.packets
