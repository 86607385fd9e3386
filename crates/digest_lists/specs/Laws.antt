-- Laws of digests and the lists that they send.
use Rattle.std.specs.Prelude.{◌≡◌, ◌≢◌, ℕ, ◌-◌, ◌^◌, ◌<◌, ◌≤◌, ◌==◌, suc, zero, true, false, if◌then◌else◌, List, [], ◌∷◌, ◌++◌, length, map, filter, Option, Some, None, IfSome, IsSomeAnd, pos, ◌⊎◌}
use Rattle.std.specs.List.{AllByRecursion as Each}
use Rattle.p4_types.specs.declared.messages.DigestConfig.{DigestConfig}
use Rattle.p4_types.specs.declared.messages.DigestList.{DigestList}
use Rattle.p4_types.specs.declared.messages.P4Data.{P4Data}
use Rattle.p4_types.specs.declared.messages.P4Data.TheVariants as data_of
use Rattle.digest_lists.specs.declared.samples.TakenSample.{TakenSample}
use Rattle.digest_lists.specs.Data.{same_data}
use Rattle.digest_lists.specs.State.{DigestState, natural, list_size}
use Rattle.digest_lists.specs.Sending.{has_sample, is_passed_over, is_due, next_samples, list_of, after_sending, sent_by_sample, after_sample, after_ack}
use Rattle.digest_lists.specs.Fold.{sent_at_tick, Call, step, run_of}
use Rattle.digest_lists.specs.Fold as calls

-- The test of equal data tells just whether they are equal.
pub record SameIsEqual : Type 0 where
  pub equal : (a b : P4Data) → same_data a b ≡ true → a ≡ b
  pub same : (a : P4Data) → same_data a a ≡ true

-- the data of samples
abbrev pub contents : List TakenSample → List P4Data
contents samples = map (λ sample. sample.content) samples

-- the data that are sent, if a list is
abbrev pub sent_contents : Option DigestList → List P4Data
sent_contents None = []
sent_contents (Some list) = list.content

-- Each sample that is not passed over is sent once, and the samples are sent in their order.
pub record EachOnce : Type 0 where
  pub sending : (digest : DigestState) (now : ℕ) → (list_of digest now).content ++ contents (after_sending digest now).gathered ≡ contents digest.gathered
  pub sample : (digest : DigestState) (content : P4Data) (now : ℕ)
      → sent_contents (sent_by_sample digest content now) ++ contents (after_sample digest content now).gathered ≡ contents digest.gathered ++ (if is_passed_over digest content now then [] else content ∷ [])

-- No list is empty, and none has more samples than the configuration says; one that a sample makes due has just so many.
pub record ListSizes : Type 0 where
  pub at_most : (digest : DigestState) (now : ℕ) → length (list_of digest now).content ≤ list_size digest.config
  pub not_empty : (digest : DigestState) (now : ℕ) → is_due digest now ≡ true → 0 < length (list_of digest now).content
  pub by_sample : (digest : DigestState) (content : P4Data) (now : ℕ) → IfSome (sent_by_sample digest content now) (λ list. length list.content ≡ list_size digest.config)

-- the element is one of these
abbrev pub IsAmong : {X : Type 0} → X → List X → Type 0
IsAmong x [] = ⊥
IsAmong x (first ∷ rest) = (x ≡ first) ⊎ IsAmong x rest

-- What was sent is passed over until it is acknowledged or old.
pub record PassedOver : Type 0 where
  pub sent : (digest : DigestState) (now later : ℕ) (sample : TakenSample) → IsAmong sample (next_samples digest) → later - now < natural digest.config.ack_timeout_ns → is_passed_over (after_sending digest now) sample.content later ≡ true
  pub acknowledged : (digest : DigestState) (list : ℕ) (content : P4Data) (now : ℕ) → Each (λ sent. has_sample content sent ≡ true → sent.list_id ≡ list) digest.waiting → is_passed_over (after_ack digest list) content now ≡ false
  pub old : (digest : DigestState) (content : P4Data) (now : ℕ) → Each (λ sent. natural digest.config.ack_timeout_ns ≤ now - sent.sent_at) digest.waiting → is_passed_over digest content now ≡ false

-- each digest has a lower id than all those behind it
abbrev pub IsRising : List DigestState → Type 0
IsRising [] = Unit {0}
IsRising (first ∷ rest) = Each (λ other. first.id < other.id) rest × IsRising rest

-- what holds of the digests in each state that calls lead to
pub record IsSound (digests : List DigestState) : Type 0 where
  pub rising : IsRising digests
  -- at most 64 lists of a digest wait
  pub few_wait : Each (λ digest. length digest.waiting ≤ 64) digests

-- With no digest set the state is sound, and each call keeps it so.
pub record StaysSound : Type 0 where
  pub at_first : IsSound []
  pub each_call : (digests : List DigestState) (call : Call) → IsSound digests → IsSound (step digests call).digests

-- Where each digest that is set is one of so many, at most so many are set.
abbrev pub AtMostAsMany : Type 0
AtMostAsMany = (digests : List DigestState) (ids : List ℕ) → IsRising digests → Each (λ digest. IsAmong digest.id ids) digests → length digests ≤ length ids

-- A tick sends a list where a digest is due, and no due digest has a lower id than that of the list; where none is due it sends none.
pub record LowestIsSent : Type 0 where
  pub lowest : (digests : List DigestState) (now : ℕ) (digest : DigestState) → IsRising digests → IsAmong digest digests → is_due digest now ≡ true → IsSomeAnd (sent_at_tick digests now) (λ list. list.digest_id ≤ digest.id)
  pub none : (digests : List DigestState) (now : ℕ) → Each (λ digest. is_due digest now ≡ false) digests → sent_at_tick digests now ≡ None

-- the ids of a digest's lists among these
abbrev pub list_ids : ℕ → List DigestList → List ℕ
list_ids id lists = map (λ list. list.list_id) (filter (λ list. list.digest_id == id) lists)

-- 1, 2, 3 and on up to n
abbrev pub counting : ℕ → List ℕ
counting zero = []
counting (suc n) = counting n ++ suc n ∷ []

-- the call does not forget the digest
abbrev pub Keeps : ℕ → Call → Type 0
Keeps id (calls.Set other None) = other ≢ id
Keeps id (calls.Set other (Some config)) = Unit {0}
Keeps id (calls.Sample other content now) = Unit {0}
Keeps id (calls.Ack other list) = Unit {0}
Keeps id (calls.Tick now) = Unit {0}

-- The lists of a digest that is not forgotten bear the ids 1, 2, 3 and on, in the order in which they are sent.
abbrev pub CountsFromOne : Type 0
CountsFromOne = (made : List Call) (id : ℕ) → length made < 2 ^ 64 → Each (Keeps id) made → list_ids id (run_of made).sent ≡ counting (length (list_ids id (run_of made).sent))

-- a bitstring of one byte
abbrev pub byte_of : ℕ → P4Data
byte_of byte = data_of.Bitstring (byte ∷ [])

-- lists of two samples, sent after 100 ns, and acknowledged within 50 ns
abbrev pub worked_config : DigestConfig
worked_config = record { max_timeout_ns = pos 100; max_list_size = pos 2; ack_timeout_ns = pos 50 }

-- two samples make a list; one of them is passed over until it is 50 ns old, and then sent once it is 100 ns old; acknowledged, it is taken again
abbrev pub worked_calls : List Call
worked_calls =
    calls.Set 7 (Some worked_config) ∷ calls.Sample 7 (byte_of 1) 10 ∷ calls.Sample 7 (byte_of 2) 20 ∷ calls.Sample 7 (byte_of 1) 69 ∷ calls.Sample 7 (byte_of 1) 70
    ∷ calls.Tick 169 ∷ calls.Tick 170 ∷ calls.Ack 7 2 ∷ calls.Sample 7 (byte_of 1) 171 ∷ calls.Sample 7 (byte_of 3) 172 ∷ []

-- the lists that this run sends
abbrev pub worked_lists : List DigestList
worked_lists =
    record { digest_id = 7; list_id = 1; content = byte_of 1 ∷ byte_of 2 ∷ []; timestamp = pos 20 }
    ∷ record { digest_id = 7; list_id = 2; content = byte_of 1 ∷ []; timestamp = pos 170 }
    ∷ record { digest_id = 7; list_id = 3; content = byte_of 1 ∷ byte_of 3 ∷ []; timestamp = pos 172 } ∷ []

-- the worked calls send just the worked lists
abbrev pub WorkedRun : Type 0
WorkedRun = (run_of worked_calls).sent ≡ worked_lists
