-- Passes that are opened, the highest lane first.
use Rattle.std.proofs.Common.{◌≡◌, ℕ, ◌+◌, List, [], ◌∷◌, ◌++◌, map, refl, ap, sym, subst, ◌∙◌, add-one, append_assoc, append-nil}
use Rattle.std.specs.Prelude.{Result, Ok, Err, IfOk}
use Rattle.std.proofs.lemmas.List.{map-append}
use Rattle.counter_bank.specs.Account.{BankId}
use Rattle.event_log.specs.Lists.{ListName}
use Rattle.live_desk.specs.Opening.{IsFresh, IsNew, lanes_below}
use Rattle.live_desk.specs.Passing.{Passing}
use Rattle.p4_types.specs.declared.events.Start.{Start}
use Rattle.snap_worker.specs.Working.{Working}

abbrev lanes_of : List Passing → List ℕ
lanes_of passes = map (λ (p : Passing). p.lane) passes

-- the pass of the highest lane that was left is opened
pub lanes_more : (left fewer n : ℕ) (passes : List Passing) (pass : Passing) → left ≡ fewer + 1 → pass.lane ≡ fewer → map (λ (p : Passing). p.lane) passes ++ lanes_below left ≡ lanes_below n
    → map (λ (p : Passing). p.lane) (passes ++ pass ∷ []) ++ lanes_below fewer ≡ lanes_below n
lanes_more left fewer n passes pass is lane h =
    ap (λ (l : List ℕ). l ++ lanes_below fewer) (map-append (λ (p : Passing). p.lane) passes (pass ∷ []))
    ∙ append_assoc (lanes_of passes) (pass.lane ∷ []) (lanes_below fewer)
    ∙ ap (λ (l : ℕ). lanes_of passes ++ l ∷ lanes_below fewer) lane
    ∙ ap (λ (l : List ℕ). lanes_of passes ++ l) (sym (ap lanes_below (is ∙ add-one fewer)))
    ∙ h

-- the pass that is opened with a worker that has seen the start alone
pub new_pass : (list : ListName) (start : Start) (bank : BankId) (lane : ℕ) (worker : Working) (pass : Passing)
    → pass ≡ record { lane = lane; calls = 0; last = worker.told; worker = worker; waiting = [] } → IsFresh list start bank worker → IsNew list start bank pass
new_pass list start bank lane worker pass is fresh = subst (IsNew list start bank) (sym is) (record { worker = fresh; calls = refl; last = refl; nothing = refl })

-- no lane is left
pub all_lanes : (left n : ℕ) (passes : List Passing) → left ≡ 0 → map (λ (p : Passing). p.lane) passes ++ lanes_below left ≡ lanes_below n → map (λ (p : Passing). p.lane) passes ≡ lanes_below n
all_lanes left n passes none h = sym (append-nil (lanes_of passes)) ∙ ap (λ (k : ℕ). lanes_of passes ++ lanes_below k) (sym none) ∙ h
