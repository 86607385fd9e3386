-- What is known of each controller's lane, as arrays keep it.
use Rattle.std.specs.Prelude.{◌≡◌, ℕ, ◌<◌, Bool, false, slice_index, slice_index_or}
use Rattle.run_spec.specs.TapeReading.{last_call}
use Rattle.tape_spec.specs.Items.{ItemLanes, takes_call, takes_bytes, takes_leave}
use Rattle.tape_form.specs.declared.lanes.SeenLanes.{SeenLanes}
use Rattle.tape_form.specs.declared.lanes.Taking.{Taking}
use Rattle.tape_form.specs.declared.lanes.Taking.TheVariants as takings

-- the lanes of which that is known
abbrev pub lanes_of : SeenLanes → ItemLanes
lanes_of seen = record {
  lanes = record { calls = λ lane. slice_index seen.calls lane; has_left = λ lane. slice_index_or seen.has_left lane false };
  asks = λ lane. slice_index_or seen.asks lane false;
  brings = λ lane. slice_index_or seen.brings lane false;
}

-- the lanes that take this
abbrev pub these : Taking → ItemLanes → ℕ → Bool
these takings.Call lanes = takes_call lanes
these takings.Bytes lanes = takes_bytes lanes
these takings.Leave lanes = takes_leave lanes

-- the same is known of one lane, of its calls as far as 32 bits count them
pub record AreAlikeAt (a b : ItemLanes) (lane : ℕ) : Type 0 where
  pub calls : last_call a.lanes lane ≡ last_call b.lanes lane
  pub has_left : a.lanes.has_left lane ≡ b.lanes.has_left lane
  pub asks : a.asks lane ≡ b.asks lane
  pub brings : a.brings lane ≡ b.brings lane

-- the same of each controller's lane
abbrev pub AreAlike : ItemLanes → ItemLanes → Type 0
AreAlike a b = (lane : ℕ) → lane < 32 → AreAlikeAt a b lane
