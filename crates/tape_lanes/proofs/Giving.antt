-- A record more is what one lane is given.
use Rattle.std.proofs.Common.{◌≡◌, ◌≢◌, ℕ, ◌<◌, Bool, true, false, cond, eqb, List, [], ◌∷◌, ◌++◌, Option, Some, None, refl, ap, ◌∙◌}
use Rattle.std.specs.List.{cons_option, filter_map}
use Rattle.std.proofs.lemmas.Bool.{eq-eqb, ne_eqb}
use Rattle.std.proofs.lemmas.List.{append-nil}
use Rattle.std.proofs.lemmas.List.Elements.{filter_map-append}
use Rattle.p4_types.specs.declared.tape.TapeRecord.{TapeRecord}
use Rattle.p4_types.specs.declared.tape.TapeRecord.TheVariants.{Call, Packet, Leave, Meet}
use Rattle.run_spec.specs.Report.{call_on, item_on}
use Rattle.run_spec.specs.Tape.{IsRecord}
use Rattle.switch_spec.specs.declared.calls.LaneCall.{LaneCall}
use Rattle.switch_spec.specs.declared.calls.LaneCall.TheVariants.{Asks, Leaves}
use Rattle.switch_spec.specs.declared.calls.WorkerItem.{WorkerItem}
use Rattle.switch_spec.specs.declared.calls.WorkerItem.TheVariants.{Brings, Meets}
use Rattle.tape_lanes.specs.Dealing.{given, calls_with, items_with}
use Rattle.tape_lanes.specs.Lanes.{by_lane, calls_in, items_in}
use Rattle.tape_lanes.proofs.ByLane.{by_lane_same, by_lane_given}

-- what one record is for one lane, if it is for it
abbrev only : {A : Type 0} → ℕ → ℕ → A → List A
only lane other x = cons_option (cond (eqb lane other) (Some x) None) []

only_own : {A : Type 0} (lane : ℕ) (x : A) → only lane lane x ≡ x ∷ []
only_own lane x = ap (λ b. cons_option (cond b (Some x) None) []) (eq-eqb lane lane refl)

only_other : {A : Type 0} (other lane : ℕ) (x : A) → other ≢ lane → only other lane x ≡ []
only_other other lane x ne = ap (λ b. cons_option (cond b (Some x) None) []) (ne_eqb other lane ne)

-- the lanes with a record more that is for one of them
for_one : {A : Type 0} (f g : ℕ → List A) (n lane : ℕ) (x : A) → lane < n → ((other : ℕ) → g other ≡ f other ++ only other lane x)
    → by_lane g n ≡ given lane x (by_lane f n)
for_one f g n lane x below more =
    by_lane_given f g n lane x below (more lane ∙ ap (λ l. f lane ++ l) (only_own lane x))
    (λ other ne. more other ∙ ap (λ l. f other ++ l) (only_other other lane x ne) ∙ append-nil (f other))

-- the calls with a record more
pub calls_more : (tape : List TapeRecord) (r : TapeRecord) → IsRecord r → by_lane (calls_in (tape ++ r ∷ [])) 32 ≡ calls_with r (by_lane (calls_in tape) 32)
calls_more tape (Call lane method message) is =
    for_one (calls_in tape) (calls_in (tape ++ Call lane method message ∷ [])) 32 lane (Asks method message) is.of_controller (λ other. filter_map-append (call_on other) tape (Call lane method message ∷ []))
calls_more tape (Leave lane) is =
    for_one (calls_in tape) (calls_in (tape ++ Leave lane ∷ [])) 32 lane Leaves is.of_controller (λ other. filter_map-append (call_on other) tape (Leave lane ∷ []))
calls_more tape (Packet lane port packet) is =
    by_lane_same (calls_in (tape ++ Packet lane port packet ∷ [])) (calls_in tape) 32 (λ other below. filter_map-append (call_on other) tape (Packet lane port packet ∷ []) ∙ append-nil (calls_in tape other))
calls_more tape (Meet lane controller call) is =
    by_lane_same (calls_in (tape ++ Meet lane controller call ∷ [])) (calls_in tape) 32 (λ other below. filter_map-append (call_on other) tape (Meet lane controller call ∷ []) ∙ append-nil (calls_in tape other))

-- the packets and meets with a record more
pub items_more : (tape : List TapeRecord) (r : TapeRecord) → IsRecord r → by_lane (items_in (tape ++ r ∷ [])) 16 ≡ items_with r (by_lane (items_in tape) 16)
items_more tape (Call lane method message) is =
    by_lane_same (items_in (tape ++ Call lane method message ∷ [])) (items_in tape) 16 (λ other below. filter_map-append (item_on other) tape (Call lane method message ∷ []) ∙ append-nil (items_in tape other))
items_more tape (Leave lane) is =
    by_lane_same (items_in (tape ++ Leave lane ∷ [])) (items_in tape) 16 (λ other below. filter_map-append (item_on other) tape (Leave lane ∷ []) ∙ append-nil (items_in tape other))
items_more tape (Packet lane port packet) is =
    for_one (items_in tape) (items_in (tape ++ Packet lane port packet ∷ [])) 16 lane (Brings port packet) is.of_worker (λ other. filter_map-append (item_on other) tape (Packet lane port packet ∷ []))
items_more tape (Meet lane controller call) is =
    for_one (items_in tape) (items_in (tape ++ Meet lane controller call ∷ [])) 16 lane (Meets controller call) is.of_worker (λ other. filter_map-append (item_on other) tape (Meet lane controller call ∷ []))
