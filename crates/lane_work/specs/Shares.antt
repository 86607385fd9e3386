-- What one lane has carried in a run, and what all lanes have carried together (this project's profile).
use Rattle.std.specs.Prelude.{◌≡◌, ℕ, false, List, [], ◌∷◌, map, fold}
use Rattle.std.specs.List.{flat_map, AllByRecursion}
use Rattle.counter_bank.specs.Account.{Account}
use Rattle.p4_types.specs.declared.events.Start.{Start}
use Rattle.p4_types.specs.declared.records.Record.{Record}
use Rattle.p4_types.specs.declared.tape.Who.{Who}
use Rattle.plane_spec.specs.Config.{Event}
use Rattle.snap_worker.specs.Laws.{added_by}
use Rattle.switch_spec.specs.Carrying.{is_who, InTurn, Fits}
use Rattle.switch_spec.specs.Counts.{Carried, no_figures, counted}

-- a lane's name, its packets beside their records, in their order, and the seat by which it counted their hits
pub record Share : Type 0 where
  pub who : Who
  pub carried : List Carried
  pub seat : Account

-- the records of packets
abbrev pub outcomes : List Carried → List Record
outcomes packets = map (λ (c : Carried). c.outcome) packets

-- Each record has the lane's name, its number and the meaning of its packet after its steps of the list, none is after fewer
-- steps than one before it, and the seat added what they hit.
pub record IsShare (start : Start) (list : List Event) (share : Share) : Type 0 where
  pub own : AllByRecursion (λ (r : Record). r.who ≡ share.who) (outcomes share.carried)
  pub in_turn : InTurn [] (outcomes share.carried)
  pub fits : AllByRecursion (Fits start list) share.carried
  pub added : (slot : ℕ) → added_by share.seat slot ≡ fold counted no_figures share.carried slot

-- the packets of all lanes, lane by lane
abbrev pub joined : List Share → List Carried
joined shares = flat_map (λ (share : Share). share.carried) shares

-- the names of lanes
abbrev pub names_of : List Share → List Who
names_of shares = map (λ (share : Share). share.who) shares

-- no name stands twice
abbrev pub Differ : List Who → Type 0
Differ [] = Unit {0}
Differ (name ∷ names) = AllByRecursion (λ (other : Who). is_who name other ≡ false) names × Differ names
