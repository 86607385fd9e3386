-- The digests that are set, by rising id, and what the calls do to them (this project's profile).
use Rattle.std.specs.Prelude.{◌≡◌, ℕ, ◌==◌, ◌≤◌, nat_lt, Bool, false, ◌||◌, not, if◌then◌else◌, List, [], ◌∷◌, ◌++◌, length, filter, Option, Some, None, IsSomeAnd}
use Rattle.std.specs.List.{find, list_any, fold}
use Rattle.std.specs.Option.{option_map, option_and_then, option_to_list}
use Rattle.p4_types.specs.declared.messages.DigestConfig.{DigestConfig}
use Rattle.p4_types.specs.declared.messages.DigestEntry.{DigestEntry}
use Rattle.p4_types.specs.declared.messages.DigestList.{DigestList}
use Rattle.p4_types.specs.declared.messages.P4Data.{P4Data}
use Rattle.digest_lists.specs.State.{DigestState, new_digest}
use Rattle.digest_lists.specs.Sending.{is_passed_over, is_due, list_of, after_sending, sent_by_sample, after_sample, after_ack}

-- the first digest that passes a test is changed
abbrev pub change_first : (DigestState → Bool) → (DigestState → DigestState) → List DigestState → List DigestState
change_first test change [] = []
change_first test change (digest ∷ rest) = if test digest then change digest ∷ rest else digest ∷ change_first test change rest

-- a digest before those of greater ids
abbrev pub inserted : List DigestState → DigestState → List DigestState
inserted [] new = new ∷ []
inserted (digest ∷ rest) new = if nat_lt new.id digest.id then new ∷ digest ∷ rest else digest ∷ inserted rest new

-- a digest of this id is set
abbrev pub is_set : List DigestState → ℕ → Bool
is_set digests id = list_any (λ digest. digest.id == id) digests

-- a digest has this configuration from now on; where it was set before, its samples, its lists and its count of lists stay
abbrev pub with_config : List DigestState → ℕ → DigestConfig → List DigestState
with_config digests id config = if is_set digests id then change_first (λ digest. digest.id == id) (λ digest. record digest { config = config }) digests else inserted digests (new_digest id config)

-- a digest is set, or all that is kept of it is forgotten
abbrev pub set_digest : List DigestState → ℕ → Option DigestConfig → List DigestState
set_digest digests id None = filter (λ digest. not (digest.id == id)) digests
set_digest digests id (Some config) = with_config digests id config

-- a setting leaves at most 128 digests set
abbrev pub HasRoom : List DigestState → ℕ → Option DigestConfig → Type 0
HasRoom digests id None = Unit {0}
HasRoom digests id (Some config) = length (with_config digests id config) ≤ 128

-- an entry names a digest
abbrev pub names : List DigestEntry → ℕ → Bool
names entries id = list_any (λ entry. entry.digest_id == id) entries

-- a digest is set, or there is room for one more
abbrev pub has_room : List DigestState → ℕ → Bool
has_room digests id = is_set digests id || nat_lt (length digests) 128

-- an entry's digest has the entry's configuration, where there is room for it
abbrev pub with_entry : List DigestState → DigestEntry → List DigestState
with_entry digests entry = if has_room digests entry.digest_id then with_config digests entry.digest_id entry.config else digests

-- the digests that entries name are set, with their configurations, and all that is kept of others is forgotten
abbrev pub set_to : List DigestState → List DigestEntry → List DigestState
set_to digests entries = fold with_entry (filter (λ digest. names entries digest.id) digests) entries

-- a sample is taken: its digest is set and does not pass it over
abbrev pub IsTaken : List DigestState → ℕ → P4Data → ℕ → Type 0
IsTaken digests id content now = IsSomeAnd (find (λ digest. digest.id == id) digests) (λ digest. is_passed_over digest content now ≡ false)

-- a sample of a digest that is not set is passed over
abbrev pub take_sample : List DigestState → ℕ → P4Data → ℕ → List DigestState
take_sample digests id content now = change_first (λ digest. digest.id == id) (λ digest. after_sample digest content now) digests

-- the list that a sample makes due, if its digest is set and it does so
abbrev pub sent_at_sample : List DigestState → ℕ → P4Data → ℕ → Option DigestList
sent_at_sample digests id content now = option_and_then (λ digest. sent_by_sample digest content now) (find (λ digest. digest.id == id) digests)

-- a list of a digest is acknowledged; where the digest is not set, nothing changes
abbrev pub acknowledge : List DigestState → ℕ → ℕ → List DigestState
acknowledge digests id list = change_first (λ digest. digest.id == id) (λ digest. after_ack digest list) digests

-- a tick sends at most one list: that of the lowest digest that is due
abbrev pub send_due : List DigestState → ℕ → List DigestState
send_due digests now = change_first (λ digest. is_due digest now) (λ digest. after_sending digest now) digests

-- the list that a tick sends, if a digest is due
abbrev pub sent_at_tick : List DigestState → ℕ → Option DigestList
sent_at_tick digests now = option_map (λ digest. list_of digest now) (find (λ digest. is_due digest now) digests)

-- a setting, a sample, an acknowledgement, a moment
pub data Call : Type 0 where
  Set : (digest : ℕ) (config : Option DigestConfig) → Call
  Sample : (digest : ℕ) (content : P4Data) (now : ℕ) → Call
  Ack : (digest list : ℕ) → Call
  Tick : (now : ℕ) → Call

-- the digests after a call, and the list that it sends
pub record Stepped : Type 0 where
  pub digests : List DigestState
  pub sent : Option DigestList

-- what a call makes of the digests, and what it sends
abbrev pub step : List DigestState → Call → Stepped
step digests (Set id config) = record { digests = set_digest digests id config; sent = None }
step digests (Sample id content now) = record { digests = take_sample digests id content now; sent = sent_at_sample digests id content now }
step digests (Ack id list) = record { digests = acknowledge digests id list; sent = None }
step digests (Tick now) = record { digests = send_due digests now; sent = sent_at_tick digests now }

-- calls that were made: the digests after them, and the lists that they sent, in their order
pub record Run : Type 0 where
  pub digests : List DigestState
  pub sent : List DigestList

-- the run with one call more
abbrev pub go_on : Run → Call → Run
go_on run call = record { digests = (step run.digests call).digests; sent = run.sent ++ option_to_list (step run.digests call).sent }

-- the run of these calls from the opening on
abbrev pub run_of : List Call → Run
run_of calls = fold go_on (record { digests = []; sent = [] }) calls
