-- Rows that hold what settings say, as options are given.
use Rattle.std.proofs.Common.{◌≡◌, ◌^◌, ◌-◌, ℕ, Bool, true, false, refl, sym, subst, true≢false, List, [], ◌∷◌, ◌++◌, Option, Some, None, codes}
use Rattle.std.specs.Option.{is_some}
use Rattle.std.specs.Str.{bytes_eq}
use Rattle.clap.specs.Walk.{Row, Text}
use Rattle.clap.specs.declared.parser.matches.ValueSource.TheVariants.{CommandLine}
use Rattle.command_words.specs.declared.words.Settings.{Settings}
use Rattle.command_words.specs.Words.{in_range, number_of, once}
use Rattle.command_words.proofs.Chosen.{same_some}
use Rattle.command_words.proofs.Rows.{entry, new_row, other_row, row, some≢none}

-- an option without a number has a row where it was given
abbrev pub HasFlag : Text → Bool → Option Row → Type 0
HasFlag id false found = found ≡ None
HasFlag id true found = found ≡ Some (row id CommandLine (codes "true"))

-- an option with a number has a row with the word that spells it
abbrev pub HasNumber : Text → ℕ → ℕ → Option ℕ → Option Row → Type 0
HasNumber id low high None found = found ≡ None
HasNumber id low high (Some n) found = (word : Text) × (found ≡ Some (row id CommandLine word)) × (in_range low high (number_of word) ≡ Some n)

-- the rows hold the options that were given, with their numbers
pub record Shows (s : Settings) (lines : List Row) : Type 0 where
  pub lockstep : HasFlag (codes "lockstep") s.lockstep (entry (codes "lockstep") lines)
  pub bridge : HasFlag (codes "bridge") s.bridge (entry (codes "bridge") lines)
  pub device : HasNumber (codes "device") 1 (10 ^ 19 - 1) s.device (entry (codes "device") lines)
  pub cpu : HasNumber (codes "cpu") 1 510 s.cpu (entry (codes "cpu") lines)
  pub rows : HasNumber (codes "rows") 1024 262144 s.rows (entry (codes "rows") lines)
  pub port : HasNumber (codes "port") 1 65535 s.port (entry (codes "port") lines)
  pub packets : HasNumber (codes "packets") 1 65534 s.packets (entry (codes "packets") lines)
  pub workers : HasNumber (codes "workers") 1 16 s.workers (entry (codes "workers") lines)

-- what is given once was not given before
pub first_time : (given : Bool) (s t : Settings) → once given s ≡ Some t → (given ≡ false) × (s ≡ t)
first_time true s t e = absurd (some≢none t (sym e))
first_time false s t e = (refl, same_some s t e)

no_flag : (id : Text) (b : Bool) (found : Option Row) → b ≡ false → HasFlag id b found → found ≡ None
no_flag id false found e has = has
no_flag id true found e has = absurd (true≢false e)

no_number : (id : Text) (low high : ℕ) (o : Option ℕ) (found : Option Row) → is_some o ≡ false → HasNumber id low high o found → found ≡ None
no_number id low high None found e has = has
no_number id low high (Some n) found e has = absurd (true≢false e)

-- an option that was not given has no row
module _ (s : Settings) (lines : List Row) (shows : Shows s lines) where
  pub no_lockstep : s.lockstep ≡ false → entry (codes "lockstep") lines ≡ None
  no_lockstep e = no_flag (codes "lockstep") s.lockstep _ e shows.lockstep

  pub no_bridge : s.bridge ≡ false → entry (codes "bridge") lines ≡ None
  no_bridge e = no_flag (codes "bridge") s.bridge _ e shows.bridge

  pub no_device : is_some s.device ≡ false → entry (codes "device") lines ≡ None
  no_device e = no_number (codes "device") 1 (10 ^ 19 - 1) s.device _ e shows.device

  pub no_cpu : is_some s.cpu ≡ false → entry (codes "cpu") lines ≡ None
  no_cpu e = no_number (codes "cpu") 1 510 s.cpu _ e shows.cpu

  pub no_rows : is_some s.rows ≡ false → entry (codes "rows") lines ≡ None
  no_rows e = no_number (codes "rows") 1024 262144 s.rows _ e shows.rows

  pub no_port : is_some s.port ≡ false → entry (codes "port") lines ≡ None
  no_port e = no_number (codes "port") 1 65535 s.port _ e shows.port

  pub no_packets : is_some s.packets ≡ false → entry (codes "packets") lines ≡ None
  no_packets e = no_number (codes "packets") 1 65534 s.packets _ e shows.packets

  pub no_workers : is_some s.workers ≡ false → entry (codes "workers") lines ≡ None
  no_workers e = no_number (codes "workers") 1 16 s.workers _ e shows.workers

  -- the row of another option stays
  stays : (id new word : Text) (P : Option Row → Type 0) → bytes_eq new id ≡ false → P (entry id lines) → P (entry id (lines ++ row new CommandLine word ∷ []))
  stays id new word P other has = subst P (sym (other_row id (row new CommandLine word) lines other)) has

  -- the row of this option is new
  joins : (new word : Text) → entry new lines ≡ None → bytes_eq new new ≡ true → entry new (lines ++ row new CommandLine word ∷ []) ≡ Some (row new CommandLine word)
  joins new word none same = new_row new (row new CommandLine word) lines none same

  pub gives_lockstep : s.lockstep ≡ false → Shows (record s { lockstep = true }) (lines ++ row (codes "lockstep") CommandLine (codes "true") ∷ [])
  gives_lockstep e = record {
    lockstep = joins (codes "lockstep") (codes "true") (no_lockstep e) refl;
    bridge = stays (codes "bridge") (codes "lockstep") (codes "true") (HasFlag (codes "bridge") s.bridge) refl shows.bridge;
    device = stays (codes "device") (codes "lockstep") (codes "true") (HasNumber (codes "device") 1 (10 ^ 19 - 1) s.device) refl shows.device;
    cpu = stays (codes "cpu") (codes "lockstep") (codes "true") (HasNumber (codes "cpu") 1 510 s.cpu) refl shows.cpu;
    rows = stays (codes "rows") (codes "lockstep") (codes "true") (HasNumber (codes "rows") 1024 262144 s.rows) refl shows.rows;
    port = stays (codes "port") (codes "lockstep") (codes "true") (HasNumber (codes "port") 1 65535 s.port) refl shows.port;
    packets = stays (codes "packets") (codes "lockstep") (codes "true") (HasNumber (codes "packets") 1 65534 s.packets) refl shows.packets;
    workers = stays (codes "workers") (codes "lockstep") (codes "true") (HasNumber (codes "workers") 1 16 s.workers) refl shows.workers;
  }

  pub gives_bridge : s.bridge ≡ false → Shows (record s { bridge = true }) (lines ++ row (codes "bridge") CommandLine (codes "true") ∷ [])
  gives_bridge e = record {
    lockstep = stays (codes "lockstep") (codes "bridge") (codes "true") (HasFlag (codes "lockstep") s.lockstep) refl shows.lockstep;
    bridge = joins (codes "bridge") (codes "true") (no_bridge e) refl;
    device = stays (codes "device") (codes "bridge") (codes "true") (HasNumber (codes "device") 1 (10 ^ 19 - 1) s.device) refl shows.device;
    cpu = stays (codes "cpu") (codes "bridge") (codes "true") (HasNumber (codes "cpu") 1 510 s.cpu) refl shows.cpu;
    rows = stays (codes "rows") (codes "bridge") (codes "true") (HasNumber (codes "rows") 1024 262144 s.rows) refl shows.rows;
    port = stays (codes "port") (codes "bridge") (codes "true") (HasNumber (codes "port") 1 65535 s.port) refl shows.port;
    packets = stays (codes "packets") (codes "bridge") (codes "true") (HasNumber (codes "packets") 1 65534 s.packets) refl shows.packets;
    workers = stays (codes "workers") (codes "bridge") (codes "true") (HasNumber (codes "workers") 1 16 s.workers) refl shows.workers;
  }

  pub gives_device : (n : ℕ) (word : Text) → in_range 1 (10 ^ 19 - 1) (number_of word) ≡ Some n → is_some s.device ≡ false → Shows (record s { device = Some n }) (lines ++ row (codes "device") CommandLine word ∷ [])
  gives_device n word is e = record {
    lockstep = stays (codes "lockstep") (codes "device") word (HasFlag (codes "lockstep") s.lockstep) refl shows.lockstep;
    bridge = stays (codes "bridge") (codes "device") word (HasFlag (codes "bridge") s.bridge) refl shows.bridge;
    device = (word, joins (codes "device") word (no_device e) refl, is);
    cpu = stays (codes "cpu") (codes "device") word (HasNumber (codes "cpu") 1 510 s.cpu) refl shows.cpu;
    rows = stays (codes "rows") (codes "device") word (HasNumber (codes "rows") 1024 262144 s.rows) refl shows.rows;
    port = stays (codes "port") (codes "device") word (HasNumber (codes "port") 1 65535 s.port) refl shows.port;
    packets = stays (codes "packets") (codes "device") word (HasNumber (codes "packets") 1 65534 s.packets) refl shows.packets;
    workers = stays (codes "workers") (codes "device") word (HasNumber (codes "workers") 1 16 s.workers) refl shows.workers;
  }

  pub gives_cpu : (n : ℕ) (word : Text) → in_range 1 510 (number_of word) ≡ Some n → is_some s.cpu ≡ false → Shows (record s { cpu = Some n }) (lines ++ row (codes "cpu") CommandLine word ∷ [])
  gives_cpu n word is e = record {
    lockstep = stays (codes "lockstep") (codes "cpu") word (HasFlag (codes "lockstep") s.lockstep) refl shows.lockstep;
    bridge = stays (codes "bridge") (codes "cpu") word (HasFlag (codes "bridge") s.bridge) refl shows.bridge;
    device = stays (codes "device") (codes "cpu") word (HasNumber (codes "device") 1 (10 ^ 19 - 1) s.device) refl shows.device;
    cpu = (word, joins (codes "cpu") word (no_cpu e) refl, is);
    rows = stays (codes "rows") (codes "cpu") word (HasNumber (codes "rows") 1024 262144 s.rows) refl shows.rows;
    port = stays (codes "port") (codes "cpu") word (HasNumber (codes "port") 1 65535 s.port) refl shows.port;
    packets = stays (codes "packets") (codes "cpu") word (HasNumber (codes "packets") 1 65534 s.packets) refl shows.packets;
    workers = stays (codes "workers") (codes "cpu") word (HasNumber (codes "workers") 1 16 s.workers) refl shows.workers;
  }

  pub gives_rows : (n : ℕ) (word : Text) → in_range 1024 262144 (number_of word) ≡ Some n → is_some s.rows ≡ false → Shows (record s { rows = Some n }) (lines ++ row (codes "rows") CommandLine word ∷ [])
  gives_rows n word is e = record {
    lockstep = stays (codes "lockstep") (codes "rows") word (HasFlag (codes "lockstep") s.lockstep) refl shows.lockstep;
    bridge = stays (codes "bridge") (codes "rows") word (HasFlag (codes "bridge") s.bridge) refl shows.bridge;
    device = stays (codes "device") (codes "rows") word (HasNumber (codes "device") 1 (10 ^ 19 - 1) s.device) refl shows.device;
    cpu = stays (codes "cpu") (codes "rows") word (HasNumber (codes "cpu") 1 510 s.cpu) refl shows.cpu;
    rows = (word, joins (codes "rows") word (no_rows e) refl, is);
    port = stays (codes "port") (codes "rows") word (HasNumber (codes "port") 1 65535 s.port) refl shows.port;
    packets = stays (codes "packets") (codes "rows") word (HasNumber (codes "packets") 1 65534 s.packets) refl shows.packets;
    workers = stays (codes "workers") (codes "rows") word (HasNumber (codes "workers") 1 16 s.workers) refl shows.workers;
  }

  pub gives_port : (n : ℕ) (word : Text) → in_range 1 65535 (number_of word) ≡ Some n → is_some s.port ≡ false → Shows (record s { port = Some n }) (lines ++ row (codes "port") CommandLine word ∷ [])
  gives_port n word is e = record {
    lockstep = stays (codes "lockstep") (codes "port") word (HasFlag (codes "lockstep") s.lockstep) refl shows.lockstep;
    bridge = stays (codes "bridge") (codes "port") word (HasFlag (codes "bridge") s.bridge) refl shows.bridge;
    device = stays (codes "device") (codes "port") word (HasNumber (codes "device") 1 (10 ^ 19 - 1) s.device) refl shows.device;
    cpu = stays (codes "cpu") (codes "port") word (HasNumber (codes "cpu") 1 510 s.cpu) refl shows.cpu;
    rows = stays (codes "rows") (codes "port") word (HasNumber (codes "rows") 1024 262144 s.rows) refl shows.rows;
    port = (word, joins (codes "port") word (no_port e) refl, is);
    packets = stays (codes "packets") (codes "port") word (HasNumber (codes "packets") 1 65534 s.packets) refl shows.packets;
    workers = stays (codes "workers") (codes "port") word (HasNumber (codes "workers") 1 16 s.workers) refl shows.workers;
  }

  pub gives_packets : (n : ℕ) (word : Text) → in_range 1 65534 (number_of word) ≡ Some n → is_some s.packets ≡ false → Shows (record s { packets = Some n }) (lines ++ row (codes "packets") CommandLine word ∷ [])
  gives_packets n word is e = record {
    lockstep = stays (codes "lockstep") (codes "packets") word (HasFlag (codes "lockstep") s.lockstep) refl shows.lockstep;
    bridge = stays (codes "bridge") (codes "packets") word (HasFlag (codes "bridge") s.bridge) refl shows.bridge;
    device = stays (codes "device") (codes "packets") word (HasNumber (codes "device") 1 (10 ^ 19 - 1) s.device) refl shows.device;
    cpu = stays (codes "cpu") (codes "packets") word (HasNumber (codes "cpu") 1 510 s.cpu) refl shows.cpu;
    rows = stays (codes "rows") (codes "packets") word (HasNumber (codes "rows") 1024 262144 s.rows) refl shows.rows;
    port = stays (codes "port") (codes "packets") word (HasNumber (codes "port") 1 65535 s.port) refl shows.port;
    packets = (word, joins (codes "packets") word (no_packets e) refl, is);
    workers = stays (codes "workers") (codes "packets") word (HasNumber (codes "workers") 1 16 s.workers) refl shows.workers;
  }

  pub gives_workers : (n : ℕ) (word : Text) → in_range 1 16 (number_of word) ≡ Some n → is_some s.workers ≡ false → Shows (record s { workers = Some n }) (lines ++ row (codes "workers") CommandLine word ∷ [])
  gives_workers n word is e = record {
    lockstep = stays (codes "lockstep") (codes "workers") word (HasFlag (codes "lockstep") s.lockstep) refl shows.lockstep;
    bridge = stays (codes "bridge") (codes "workers") word (HasFlag (codes "bridge") s.bridge) refl shows.bridge;
    device = stays (codes "device") (codes "workers") word (HasNumber (codes "device") 1 (10 ^ 19 - 1) s.device) refl shows.device;
    cpu = stays (codes "cpu") (codes "workers") word (HasNumber (codes "cpu") 1 510 s.cpu) refl shows.cpu;
    rows = stays (codes "rows") (codes "workers") word (HasNumber (codes "rows") 1024 262144 s.rows) refl shows.rows;
    port = stays (codes "port") (codes "workers") word (HasNumber (codes "port") 1 65535 s.port) refl shows.port;
    packets = stays (codes "packets") (codes "workers") word (HasNumber (codes "packets") 1 65534 s.packets) refl shows.packets;
    workers = (word, joins (codes "workers") word (no_workers e) refl, is);
  }
