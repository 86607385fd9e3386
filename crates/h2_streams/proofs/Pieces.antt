-- Bytes that are sent frame by frame.
use Rattle.std.proofs.Common.{◌≡◌, ℕ, zero, suc, ◌+◌, ◌<◌, ◌≤◌, true, false, List, [], ◌∷◌, ◌++◌, length, take, drop, Result, Ok, Err, refl, sym, ap, ◌∙◌, append_assoc, arith}
use Rattle.std.specs.Prelude.{OnOk}
use Rattle.std.proofs.lemmas.Bool.{lt-ltb, le-ltb}
use Rattle.std.proofs.lemmas.List.{append-nil}
use Rattle.std.proofs.lemmas.List.Concat.{flat_map-cons}
use Rattle.h2_frames.specs.declared.frame.Frame.{Frame}
use Rattle.h2_frames.specs.declared.frame.Frame.TheVariants as frames
use Rattle.h2_frames.specs.Layout.{spelling}
use Rattle.h2_streams.specs.Sending.{spellings, data_frames, continuations}

-- a fact for an Ok that follows from another
pub onward : {A E : Type 0} {P Q : Type 0} → (r : Result A E) → (P → Q) → OnOk r P → OnOk r Q
onward (Ok x) f p = f p
onward (Err e) f p = tt

pub data_last : (n size stream : ℕ) (rest : List ℕ) → length rest ≤ size → data_frames n size stream rest ≡ frames.Data stream false rest ∷ []
unfolding data_frames
data_last zero size stream rest le = refl
data_last (suc n) size stream rest le = rw (le-ltb size (length rest) le) refl

data_more : (n more size stream : ℕ) (rest : List ℕ) → n ≡ suc more → size < length rest → data_frames n size stream rest ≡ frames.Data stream false (take size rest) ∷ data_frames more size stream (drop size rest)
unfolding data_frames
data_more n more size stream rest en lt = rw (en, lt-ltb size (length rest) lt) refl

pub continued_last : (n size stream : ℕ) (rest : List ℕ) → length rest ≤ size → continuations n size stream rest ≡ frames.Continuation stream true rest ∷ []
unfolding continuations
continued_last zero size stream rest le = refl
continued_last (suc n) size stream rest le = rw (le-ltb size (length rest) le) refl

continued_more : (n more size stream : ℕ) (rest : List ℕ) → n ≡ suc more → size < length rest → continuations n size stream rest ≡ frames.Continuation stream false (take size rest) ∷ continuations more size stream (drop size rest)
unfolding continuations
continued_more n more size stream rest en lt = rw (en, lt-ltb size (length rest) lt) refl

-- the last frame
pub ends : (now whole new : List ℕ) (frames : List Frame) (frame : Frame) → frames ≡ frame ∷ [] → now ++ spellings frames ≡ whole → new ≡ now ++ spelling frame → new ≡ whole
ends now whole new frames frame ef so_far e = e ∙ ap (λ x. now ++ x) (sym (flat_map-cons spelling frame [] ∙ append-nil (spelling frame))) ∙ rw ef at so_far

-- a frame, and those behind it
pub goes_on : (now whole new : List ℕ) (frames others : List Frame) (frame : Frame) → frames ≡ frame ∷ others → now ++ spellings frames ≡ whole → new ≡ now ++ spelling frame → new ++ spellings others ≡ whole
goes_on now whole new frames others frame ef so_far e = ap (λ x. x ++ spellings others) e ∙ append_assoc now (spelling frame) (spellings others) ∙ ap (λ x. now ++ x) (sym (flat_map-cons spelling frame others)) ∙ rw ef at so_far

-- DATA frames of which these bytes are left
pub record AreLeft (whole now : List ℕ) (n size stream : ℕ) (rest : List ℕ) : Type 0 where
  pub so_far : now ++ spellings (data_frames n size stream rest) ≡ whole
  pub few : length rest ≤ n

pub data_ends : (whole now new : List ℕ) (n size stream : ℕ) (rest : List ℕ) → length rest ≤ size → AreLeft whole now n size stream rest → new ≡ now ++ spelling (frames.Data stream false rest) → new ≡ whole
data_ends whole now new n size stream rest le left e = ends now whole new _ (frames.Data stream false rest) (data_last n size stream rest le) left.so_far e

pub data_goes_on : (whole now new : List ℕ) (n more size stream : ℕ) (rest after : List ℕ) → n ≡ suc more → 0 < size → size < length rest → AreLeft whole now n size stream rest
    → new ≡ now ++ spelling (frames.Data stream false (take size rest)) → after ≡ drop size rest → length after + size ≡ length rest → AreLeft whole new more size stream after
data_goes_on whole now new n more size stream rest after en some lt left e ea long =
    record {
      so_far = rw ea (goes_on now whole new _ _ (frames.Data stream false (take size rest)) (data_more n more size stream rest en lt) left.so_far e);
      few = omega (arith, left.few);
    }

-- CONTINUATION frames of which these bytes are left
pub record AreContinued (whole now : List ℕ) (n size stream : ℕ) (rest : List ℕ) : Type 0 where
  pub so_far : now ++ spellings (continuations n size stream rest) ≡ whole
  pub few : length rest ≤ n

pub continued_ends : (whole now new : List ℕ) (n size stream : ℕ) (rest : List ℕ) → length rest ≤ size → AreContinued whole now n size stream rest → new ≡ now ++ spelling (frames.Continuation stream true rest) → new ≡ whole
continued_ends whole now new n size stream rest le left e = ends now whole new _ (frames.Continuation stream true rest) (continued_last n size stream rest le) left.so_far e

pub continued_goes_on : (whole now new : List ℕ) (n more size stream : ℕ) (rest after : List ℕ) → n ≡ suc more → 0 < size → size < length rest → AreContinued whole now n size stream rest
    → new ≡ now ++ spelling (frames.Continuation stream false (take size rest)) → after ≡ drop size rest → length after + size ≡ length rest → AreContinued whole new more size stream after
continued_goes_on whole now new n more size stream rest after en some lt left e ea long =
    record {
      so_far = rw ea (goes_on now whole new _ _ (frames.Continuation stream false (take size rest)) (continued_more n more size stream rest en lt) left.so_far e);
      few = omega (arith, left.few);
    }
