-- A run in lockstep over the items of a tape.
use Rattle.std.specs.Prelude.{◌≡◌, ℕ, ◌<◌, false, List, [], ◌∷◌, ◌++◌, length, map, slice_index_or}
use Rattle.p4_types.specs.declared.events.Start.{Start}
use Rattle.p4_types.specs.declared.journal.Report.{Report}
use Rattle.p4rt_service.specs.Turns.{Served}
use Rattle.run_spec.specs.Play.{Turn, items_of, played}
use Rattle.tape_spec.specs.declared.item.TapeItem.{TapeItem}
use Rattle.byte_lanes.specs.Filling.{Filled, item_of, records_of, feeds_on, greeted, Feeds}
use Rattle.byte_lanes.specs.Lane.{LaneState, IsLane}
use Rattle.byte_lanes.specs.Laws.{FollowsOn, IsFilledRun, filled_report}
use Rattle.lockstep_run.specs.Session.{played_of}
use Rattle.lockstep_run.specs.Speaking.{Speaking, GoesOn}

-- the lanes that bring bytes have served so
pub record AreLanes (lanes : List LaneState) (served : ℕ → Served) : Type 0 where
  pub wide : length lanes ≡ 32
  pub each : (lane : ℕ) (other : LaneState) → lane < 32 → IsLane (slice_index_or lanes lane other) (served lane)

-- what the items so far came to
pub record HasPlayed (start : Start) (items : List TapeItem) (lanes : List LaneState) (s : Speaking) : Type 0 where
  pub filled : List Filled
  pub served : ℕ → Served
  pub turns : List Turn
  pub items_are : map item_of filled ≡ items
  pub turns_are : items_of turns ≡ records_of filled
  pub played_is : played_of s.session ≡ played start turns
  pub follows : FollowsOn filled s.session.journal
  pub feeds : (lane : ℕ) → Feeds (greeted lane) (feeds_on lane filled) (served lane)
  pub lanes_are : AreLanes lanes served
  pub quiet : s.is_short ≡ false
  pub goes_on : GoesOn s

-- the item was played behind those before it
abbrev pub PlaysItem : TapeItem → List LaneState → List LaneState → Speaking → Speaking → Type 0
PlaysItem item before after old new = (start : Start) (items : List TapeItem) → HasPlayed start items before old → HasPlayed start (items ++ item ∷ []) after new

-- the report is that of a run in one pass
pub record IsPlayedReport (start : Start) (items : List TapeItem) (report : Report) : Type 0 where
  pub served : ℕ → Served
  pub turns : List Turn
  pub run : IsFilledRun start items served turns
  pub report_is : report ≡ filled_report start items served turns
