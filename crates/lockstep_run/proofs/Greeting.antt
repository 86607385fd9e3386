-- All lanes, of which nothing has come: one lane more.
use Rattle.std.proofs.Common.{◌≡◌, ℕ, ◌+◌, ◌<◌, List, [], ◌∷◌, ◌++◌, length, get_or, sym, ap, subst, ◌∙◌, arith, below_more}
use Rattle.std.proofs.Math.Seq.{get_or-append_seam}
use Rattle.std.proofs.lemmas.List.{get_or_append_left}
use Rattle.p4rt_service.specs.Turns.{Served}
use Rattle.byte_lanes.specs.Lane.{LaneState, IsLane}
use Rattle.lockstep_run.specs.Speaking.{Speaking, GoesOn, MayGoOn}

-- a lane more that has served so
pub lane_opened : (served : ℕ → Served) (lanes more : List LaneState) (lane : ℕ) (link : LaneState) → length lanes ≡ lane → ((place : ℕ) (other : LaneState) → place < lane → IsLane (get_or lanes place other) (served place)) → IsLane link (served lane)
    → more ≡ lanes ++ link ∷ [] → (place : ℕ) (other : LaneState) → place < lane + 1 → IsLane (get_or more place other) (served place)
lane_opened served lanes more lane link wide each opened is place other below =
    subst (λ (l : List LaneState). IsLane (get_or l place other) (served place)) (sym is)
    (below_more (λ (k : ℕ). IsLane (get_or (lanes ++ link ∷ []) k other) (served k)) lane
    (λ k lt. subst (λ (s : LaneState). IsLane s (served k)) (sym (get_or_append_left lanes (link ∷ []) other k (omega (arith, lt, wide)))) (each k other lt))
    (subst (λ (s : LaneState). IsLane s (served lane)) (sym (ap (λ (k : ℕ). get_or (lanes ++ link ∷ []) k other) (sym wide) ∙ get_or-append_seam lanes link [] other)) opened)
    place below)

-- the run may go on with another lane
pub lane_set : (old new : Speaking) (lane : ℕ) → new ≡ record old { lane = lane } → lane < 32 → MayGoOn old → MayGoOn new
lane_set old new lane is lt may quiet =
    let goes : GoesOn old = may (sym (ap (λ (s : Speaking). s.is_short) is) ∙ quiet) in
    let set : GoesOn (record old { lane = lane }) = record { session = goes.session; of_controller = lt } in
    subst GoesOn (sym is) set
