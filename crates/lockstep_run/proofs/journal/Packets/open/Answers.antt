use Rattle.std.proofs.Common.{ℕ, ◌∙◌, sym, ap}
use Rattle.std.specs.Prelude.{count_by}
use Rattle.p4_types.specs.declared.tape.Who.TheVariants.{Controller, Worker}
use Rattle.switch_spec.specs.Carrying.{is_who}
use Rattle.p4_types.specs.declared.records.Record.{Record}
use Rattle.lockstep_run.proofs.TallyLemmas.{tallies_none}
use Rattle.lockstep_run.proofs.journal.Packets.open.Goals as goal

pub invariant_of-result : goal.invariant_of-result
invariant_of-result c = record {
  of_workers = λ place within. tallies_none (λ (lane : ℕ) (r : Record). is_who (Worker lane) r.who) 16 place within ∙ ap (count_by (λ (r : Record). is_who (Worker place) r.who)) (sym c.new.ensures);
  of_controllers = λ place within. tallies_none (λ (lane : ℕ) (r : Record). is_who (Controller lane) r.who) 32 place within ∙ ap (count_by (λ (r : Record). is_who (Controller place) r.who)) (sym c.new.ensures);
}
