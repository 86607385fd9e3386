-- The values of matches, as the getters read them.
use Rattle.std.proofs.Common.{◌≡◌, ◌∙◌, ℕ, Bool, true, false, ap, Option, Some, codes, Bor}
use Rattle.std.specs.Option.{option_and_then, option_map}
use Rattle.clap.proofs.WalkLemmas.{first_value-rows}
use Rattle.clap.specs.Matches.{first_value}
use Rattle.clap.specs.Walk.{Text, rows_of}
use Rattle.clap.specs.declared.parser.matches.Found.{Found}
use Rattle.command_words.specs.declared.words.Settings.{Settings}
use Rattle.command_words.specs.Words.{in_range, number_of}
use Rattle.command_words.specs.Taken.{flag_text, number_at}

pub flag_is : (given result : Bool) (text : Option Text) → (text ≡ Some (codes "true") → result ≡ true) → (text ≡ Some (codes "false") → result ≡ false)
    → text ≡ Some (flag_text given) → result ≡ given
flag_is true result text value other e = value e
flag_is false result text value other e = other e

abbrev number_in : ℕ → ℕ → Option Text → Option ℕ
number_in low high text = option_and_then (λ word. in_range low high (number_of word)) text

-- the number of what `get_str` gives
pub number_read : (found : Found) (name : Text) (low high : ℕ) (text : Option (Bor Text)) → option_map (λ s. s.now) text ≡ first_value found name
    → number_in low high (option_map (λ s. s.now) text) ≡ number_at name low high (rows_of found)
number_read found name low high text e = ap (number_in low high) (e ∙ first_value-rows found name)

-- settings are the same where all that they say is
pub same_settings : (s t : Settings) → s.lockstep ≡ t.lockstep → s.bridge ≡ t.bridge → s.device ≡ t.device → s.cpu ≡ t.cpu → s.rows ≡ t.rows
    → s.port ≡ t.port → s.packets ≡ t.packets → s.workers ≡ t.workers → s ≡ t
same_settings s t lockstep bridge device cpu rows port packets workers = λ i. record {
  lockstep = lockstep i;
  bridge = bridge i;
  device = device i;
  cpu = cpu i;
  rows = rows i;
  port = port i;
  packets = packets i;
  workers = workers i;
}
