-- When a digest's samples are sent, and what becomes of them (P4Runtime 1.3.0, "DigestList"; where the standard leaves it open: this project's profile).
use Rattle.std.specs.Prelude.{ℕ, ◌+◌, ◌-◌, ◌^◌, ◌==◌, nat_lt, nat_le, min, Bool, false, ◌&&◌, ◌||◌, not, if◌then◌else◌, List, [], ◌∷◌, ◌++◌, length, map, filter, take, drop, Option, Some, None, ℤ, pos}
use Rattle.std.specs.List.{list_any}
use Rattle.p4_types.specs.declared.messages.DigestConfig.{DigestConfig}
use Rattle.p4_types.specs.declared.messages.DigestList.{DigestList}
use Rattle.p4_types.specs.declared.messages.P4Data.{P4Data}
use Rattle.digest_lists.specs.declared.samples.TakenSample.{TakenSample}
use Rattle.digest_lists.specs.declared.samples.SentList.{SentList}
use Rattle.digest_lists.specs.Data.{same_data}
use Rattle.digest_lists.specs.State.{DigestState, natural, list_size}

-- a list that was sent is not `ack_timeout_ns` old; one of a later moment counts as sent just now
abbrev pub is_fresh : DigestConfig → ℕ → SentList → Bool
is_fresh config now sent = nat_lt (now - sent.sent_at) (natural config.ack_timeout_ns)

-- one of the list's samples is equal to this
abbrev pub has_sample : P4Data → SentList → Bool
has_sample content sent = list_any (λ sample. same_data sample.content content) sent.samples

-- a list with an equal sample was sent, and is neither acknowledged nor `ack_timeout_ns` old
abbrev pub is_passed_over : DigestState → P4Data → ℕ → Bool
is_passed_over digest content now = list_any (λ sent. is_fresh digest.config now sent && has_sample content sent) digest.waiting

-- there are enough samples for a list of `max_list_size`
abbrev pub is_full : DigestState → Bool
is_full digest = nat_le (list_size digest.config) (length digest.gathered)

-- the first of the samples is so old
abbrev pub first_is_old : List TakenSample → ℕ → ℕ → Bool
first_is_old [] age now = false
first_is_old (first ∷ rest) age now = nat_le age (now - first.taken_at)

-- at a tick: there are enough samples, or the first of them is `max_timeout_ns` old
abbrev pub is_due : DigestState → ℕ → Bool
is_due digest now = is_full digest || first_is_old digest.gathered (natural digest.config.max_timeout_ns) now

-- list ids count from 1, and stand still at the greatest of 64 bits
abbrev pub next_list : DigestState → ℕ
next_list digest = min (digest.last_list + 1) (2 ^ 64 - 1)

-- a moment as a timestamp, which is the greatest of 63 bits at most
abbrev pub timestamp_of : ℕ → ℤ
timestamp_of now = pos (min now (2 ^ 63 - 1))

-- the samples that the next list takes
abbrev pub next_samples : DigestState → List TakenSample
next_samples digest = take (list_size digest.config) digest.gathered

-- the list that is sent
abbrev pub list_of : DigestState → ℕ → DigestList
list_of digest now = record { digest_id = digest.id; list_id = next_list digest; content = map (λ sample. sample.content) (next_samples digest); timestamp = timestamp_of now }

-- what is kept of the list that is sent
abbrev pub sent_list : DigestState → ℕ → SentList
sent_list digest now = record { list_id = next_list digest; sent_at = now; samples = next_samples digest }

-- at most 64 lists wait: the oldest is forgotten
abbrev pub newest_64 : List SentList → List SentList
newest_64 lists = drop (length lists - 64) lists

-- the digest once the list is sent; the samples that it does not take begin the next one
abbrev pub after_sending : DigestState → ℕ → DigestState
after_sending digest now = record digest { gathered = drop (list_size digest.config) digest.gathered; waiting = newest_64 (digest.waiting ++ sent_list digest now ∷ []); last_list = next_list digest }

-- with one sample more
abbrev pub with_sample : DigestState → P4Data → ℕ → DigestState
with_sample digest content now = record digest { gathered = digest.gathered ++ record { content = content; taken_at = now } ∷ [] }

-- the list that is sent, if there are enough samples
abbrev pub sent_if_full : DigestState → ℕ → Option DigestList
sent_if_full digest now = if is_full digest then Some (list_of digest now) else None

-- the digest after that: with the list sent, or as it was
abbrev pub after_if_full : DigestState → ℕ → DigestState
after_if_full digest now = if is_full digest then after_sending digest now else digest

-- the list that a sample makes due, if it does
abbrev pub sent_by_sample : DigestState → P4Data → ℕ → Option DigestList
sent_by_sample digest content now = if is_passed_over digest content now then None else sent_if_full (with_sample digest content now) now

-- the digest after a sample
abbrev pub after_sample : DigestState → P4Data → ℕ → DigestState
after_sample digest content now = if is_passed_over digest content now then digest else after_if_full (with_sample digest content now) now

-- the digest after an acknowledgement: the list of this id waits no longer
abbrev pub after_ack : DigestState → ℕ → DigestState
after_ack digest list = record digest { waiting = filter (λ sent. not (sent.list_id == list)) digest.waiting }
