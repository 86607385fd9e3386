-- What threads give of their jobs.
use Rattle.std.proofs.Common.{◌≡◌, ℕ, zero, suc, ◌<◌, List, [], ◌∷◌, length, refl, ap, sym, subst, arith}
use Rattle.std.specs.List.{AllZip}
use denote.Param.Members.{Shared}
use Rattle.std.specs.Fork.{GivesJob, GivesJobs}
use Rattle.std.specs.Fn.{FnReturns}

-- each result beside its job, where a call gives so
pub each_given : {F J R : Type 0} (g : Shared F (J × Unit {0}) R) (f : F) (P : J → R → Type 0) (js : List J) (rs : List R)
    → ((j : J) (r : R) → FnReturns g f (j, tt) r → P j r) → length rs ≡ length js → GivesJobs g f js rs → AllZip P js rs
each_given g f P [] [] gives same h = tt
each_given g f P [] (r ∷ rs) gives same h = absurd (omega (arith, same))
each_given g f P (j ∷ js) [] gives same h = absurd (omega (arith, same))
each_given g f P (j ∷ js) (r ∷ rs) gives same h =
    let first = (h 0 r (omega arith)).1 in (
      subst (λ x. P x r) (sym (first.job_is j)) (gives first.job r first.call),
      each_given g f P js rs gives (omega (arith, same)) (λ i d lt.
          let one = (h (suc i) d (omega (arith, lt))).1 in
          (refl, record { job = one.job; job_read = one.job_read; job_is = one.job_is; call = one.call })),
    )
