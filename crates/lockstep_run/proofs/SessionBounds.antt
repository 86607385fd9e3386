-- What a record makes of the run is one of its turns.
use Rattle.std.proofs.Common.{◌≡◌, ℕ, refl, inl, inr}
use Rattle.p4_types.specs.declared.tape.TapeRecord.{TapeRecord}
use Rattle.p4_types.specs.declared.tape.TapeRecord.TheVariants.{Call, Packet, Leave, Meet}
use Rattle.switch_spec.specs.declared.calls.LaneCall.{LaneCall}
use Rattle.switch_spec.specs.declared.calls.LaneCall.TheVariants.{Asks, Leaves}
use Rattle.run_spec.specs.Play.{Played, Turn, Answers, Refuses, Carries, Finds, call_item, item_of, play}
use Rattle.lockstep_run.specs.Session.{PlaysCall, Plays}

-- what a record makes of the run is one of its turns
pub record OneTurn (p : Played) (item : TapeRecord) (q : Played) : Type 0 where
  pub turn : Turn
  pub item_is : item_of turn ≡ item
  pub played_is : q ≡ play p turn

pub call_turn : (lane : ℕ) (call : LaneCall) (p q : Played) → PlaysCall p lane call q → OneTurn p (call_item lane call) q
call_turn lane call p q (inl is) = record { turn = Answers lane call; item_is = refl; played_is = is }
call_turn lane call p q (inr is) = record { turn = Refuses lane call; item_is = refl; played_is = is }

pub one_turn : (item : TapeRecord) (p q : Played) → Plays p item q → OneTurn p item q
one_turn (Call lane method message) p q h = call_turn lane (Asks method message) p q h
one_turn (Leave lane) p q h = call_turn lane Leaves p q h
one_turn (Packet lane port packet) p q h = record { turn = Carries lane port packet; item_is = refl; played_is = h }
one_turn (Meet lane controller call) p q h = record { turn = Finds lane controller call; item_is = refl; played_is = h }

-- a meet leaves the run as it is
pub meet_plays : (p : Played) (lane controller call : ℕ) → Plays p (Meet lane controller call) p
unfolding play
meet_plays p lane controller call = refl
