-- Settings that are taken one by one.
use Rattle.std.proofs.Common.{◌≡◌, ℕ, suc, ◌+◌, ◌<◌, ◌≤◌, List, ◌∷◌, length, drop, get_or, Result, Ok, Err, sym, ap, ◌∙◌, add-one}
use Rattle.std.proofs.Math.Seq.{drop-cons}
use Rattle.std.proofs.Math.ListN.{drop_of_length-le}
use Rattle.h2_frames.specs.declared.codes.H2Code.{H2Code}
use Rattle.h2_frames.specs.declared.frame.Setting.{Setting}
use Rattle.h2_conn.specs.declared.state.State.{State}
use Rattle.h2_conn.specs.Frames.{setting_taken, settings_in_order}

-- the settings from a place on are still to be taken
pub record AreTaken (whole : Result State H2Code) (output : List ℕ) (settings : List Setting) (place : ℕ) (conn : State) : Type 0 where
  pub rest : settings_in_order (drop place settings) conn ≡ whole
  pub kept : conn.outgoing.output ≡ output

next_setting : (whole : Result State H2Code) (settings : List Setting) (place : ℕ) (conn : State) (d : Setting) → place < length settings
    → settings_in_order (drop place settings) conn ≡ whole → settings_in_order (get_or settings place d ∷ drop (suc place) settings) conn ≡ whole
next_setting whole settings place conn d lt so_far = ap (λ x. settings_in_order x conn) (sym (drop-cons settings place d lt)) ∙ so_far

pub goes_on : (whole : Result State H2Code) (output : List ℕ) (settings : List Setting) (place : ℕ) (conn next : State) (d : Setting) → place < length settings
    → setting_taken (get_or settings place d) conn ≡ Ok next → next.outgoing.output ≡ conn.outgoing.output → AreTaken whole output settings place conn → AreTaken whole output settings (place + 1) next
unfolding settings_in_order
goes_on whole output settings place conn next d lt e ek taken = record {
  rest = rw add-one (rw e at (next_setting whole settings place conn d lt taken.rest));
  kept = ek ∙ taken.kept;
}

pub fails : (whole : Result State H2Code) (output : List ℕ) (settings : List Setting) (place : ℕ) (conn : State) (d : Setting) (code : H2Code) → place < length settings
    → setting_taken (get_or settings place d) conn ≡ Err code → AreTaken whole output settings place conn → whole ≡ Err code
unfolding settings_in_order
fails whole output settings place conn d code lt e taken = sym (rw e at (next_setting whole settings place conn d lt taken.rest))

pub all_taken : (whole : Result State H2Code) (output : List ℕ) (settings : List Setting) (place : ℕ) (conn : State) → length settings ≤ place → AreTaken whole output settings place conn → whole ≡ Ok conn
unfolding settings_in_order
all_taken whole output settings place conn le taken = sym (rw (drop_of_length-le settings le) at taken.rest)
