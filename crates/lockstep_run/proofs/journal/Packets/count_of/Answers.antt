use Rattle.std.proofs.Common.{◌∙◌, ap, sym, subst}
use Rattle.std.specs.Prelude.{count_by}
use Rattle.p4_types.specs.declared.records.Record.{Record}
use Rattle.p4_types.specs.declared.tape.Who.{Who}
use Rattle.p4_types.specs.declared.tape.Who.TheVariants.{Controller, Worker}
use Rattle.switch_spec.specs.Carrying.{is_who}
use Rattle.lockstep_run.specs.Tallies.{IsLane}
use Rattle.lockstep_run.proofs.journal.Packets.count_of.Goals as goal

pub returns-in-Worker : goal.returns-in-Worker
returns-in-Worker c =
    c.self.invariant.of_workers c.in-Worker.lane (subst IsLane c.in-Worker.is c.requires)
    ∙ ap (count_by (λ (r : Record). is_who (Worker c.in-Worker.lane) r.who)) c.self.view_is
    ∙ ap (λ (who : Who). count_by (λ (r : Record). is_who who r.who) c.args.self.now) (sym c.in-Worker.is)

pub returns-in-Controller : goal.returns-in-Controller
returns-in-Controller c =
    c.self.invariant.of_controllers c.in-Controller.lane (subst IsLane c.in-Controller.is c.requires)
    ∙ ap (count_by (λ (r : Record). is_who (Controller c.in-Controller.lane) r.who)) c.self.view_is
    ∙ ap (λ (who : Who). count_by (λ (r : Record). is_who who r.who) c.args.self.now) (sym c.in-Controller.is)
