use Rattle.std.proofs.Common.{ℕ, ◌==◌, length, slice_index, ap, ◌∙◌, sym}
use Rattle.std.specs.Prelude.{count_by}
use Rattle.std.proofs.lemmas.List.{length-replicate}
use Rattle.p4_types.specs.declared.journal.Entry.{Entry}
use Rattle.plane_spec.specs.Planes.{opened, applied}
use Rattle.lockstep_run.proofs.TallyLemmas.{tallies_none}
use Rattle.lockstep_run.proofs.session.Session.open.Goals as goal

pub returns-clause-session : goal.returns-clause-session
returns-clause-session c = record {
  agrees = ap (applied (opened c.open-4.result.start)) c.open-4.ensures.nothing ∙ ap opened c.open-4.ensures.start ∙ sym c.in_ok-control.ensures.control;
  wide = ap length c.in_ok-control.ensures.calls ∙ length-replicate {A = ℕ} 32 0;
  counted = λ place within.
      ap (λ calls. slice_index calls place) c.in_ok-control.ensures.calls
      ∙ tallies_none (λ (lane : ℕ) (entry : Entry). entry.lane == lane) 32 place within
      ∙ ap (count_by (λ (entry : Entry). entry.lane == place)) (sym c.new.ensures);
  each_counted = c.open-6.ensures.packets ∙ ap length (sym c.open-5.ensures);
}
