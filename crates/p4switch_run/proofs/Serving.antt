-- What the end of serving says of the exit status.
use Rattle.std.proofs.Common.{◌≡◌, ℕ, ap, refl, inl, inr}
use Rattle.sw_edge.specs.Counts.{HasCause, StaysUnless}
use Rattle.p4switch_run.specs.Command.{end_status}
use Rattle.p4switch_run.specs.Run.{IsServeStatus, IsServed}
use Rattle.p4switch_run.specs.declared.status.Status.TheVariants as statuses
use Rattle.serve_run.specs.declared.ending.ServeEnd.{ServeEnd}
use Rattle.serve_run.specs.declared.ending.ServeEnd.TheVariants as ends

pub serve_status : (end : ServeEnd) → IsServeStatus (end_status end)
serve_status ends.Ended = inl refl
serve_status ends.Fault = inr (inr refl)
serve_status ends.Memory = inr (inl refl)

ended_of : (end : ServeEnd) → end_status end ≡ statuses.Done → end ≡ ends.Ended
ended_of ends.Ended is = refl
ended_of ends.Fault is = absurd cc
ended_of ends.Memory is = absurd cc

fault_of : (end : ServeEnd) → end_status end ≡ statuses.NetFault → end ≡ ends.Fault
fault_of ends.Ended is = absurd cc
fault_of ends.Fault is = refl
fault_of ends.Memory is = absurd cc

pub is_served : (end : ServeEnd) (e0 e1 f0 f1 : ℕ) → HasCause e0 e1 (end ≡ ends.Ended) → StaysUnless e0 e1 (end ≡ ends.Ended) → HasCause f0 f1 (end ≡ ends.Fault) → StaysUnless f0 f1 (end ≡ ends.Fault)
    → IsServed (end_status end) e0 e1 f0 f1
is_served end e0 e1 f0 f1 ended not_ended failed no_fault = record {
  ended = record { later = ended.later; cause = λ is. ended.cause (ended_of end is) };
  not_ended = λ not. not_ended (λ is. not (ap end_status is));
  failed = record { later = failed.later; cause = λ is. failed.cause (fault_of end is) };
  no_fault = λ not. no_fault (λ is. not (ap end_status is));
}
