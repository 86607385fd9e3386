-- What is sent and what stays.
use Rattle.std.proofs.Common.{◌≡◌, ℕ, ◌<◌, ◌≤◌, Bool, true, false, cond, eqb, leb, ◌||◌, List, [], ◌∷◌, ◌++◌, length, take, drop, min, Some, None, IfSome, refl, sym, ap, ◌∙◌, arith, append-nil}
use Rattle.std.proofs.lemmas.Bool.{false≢true}
use Rattle.std.proofs.lemmas.Bool.Decides.{nat_tests}
use Rattle.std.proofs.lemmas.List.{map-append, take-append-drop, length-map, length-take}
use Rattle.p4_types.specs.declared.messages.DigestConfig.{DigestConfig}
use Rattle.p4_types.specs.declared.messages.P4Data.{P4Data}
use Rattle.digest_lists.specs.declared.samples.TakenSample.{TakenSample}
use Rattle.digest_lists.specs.State.{DigestState, natural, list_size}
use Rattle.digest_lists.specs.Sending.{is_passed_over, is_full, first_is_old, list_of, after_sending, with_sample}
use Rattle.digest_lists.specs.Laws.{contents, sent_contents, EachOnce, ListSizes}

-- the first n and the others are all
parted : (n : ℕ) (samples : List TakenSample) → contents (take n samples) ++ contents (drop n samples) ≡ contents samples
parted n samples = sym (map-append (λ (sample : TakenSample). sample.content) (take n samples) (drop n samples)) ∙ ap contents (take-append-drop n samples)

one_more : (samples : List TakenSample) (sample : TakenSample) → contents (samples ++ sample ∷ []) ≡ contents samples ++ sample.content ∷ []
one_more samples sample = map-append (λ (s : TakenSample). s.content) samples (sample ∷ [])

at_sample : (over full : Bool) (digest : DigestState) (content : P4Data) (now : ℕ)
    → sent_contents (cond over None (cond full (Some (list_of (with_sample digest content now) now)) None)) ++ contents (cond over digest (cond full (after_sending (with_sample digest content now) now) (with_sample digest content now))).gathered
    ≡ contents digest.gathered ++ cond over [] (content ∷ [])
at_sample true full digest content now = sym (append-nil (contents digest.gathered))
at_sample false true digest content now = parted (list_size digest.config) (with_sample digest content now).gathered ∙ one_more digest.gathered (record { content = content; taken_at = now })
at_sample false false digest content now = one_more digest.gathered (record { content = content; taken_at = now })

pub each_once : EachOnce
each_once = record {
  sending = λ digest now. parted (list_size digest.config) digest.gathered;
  sample = λ digest content now. at_sample (is_passed_over digest content now) (is_full (with_sample digest content now)) digest content now;
}

length-contents : (samples : List TakenSample) → length (contents samples) ≡ length samples
length-contents samples = length-map samples (λ (sample : TakenSample). sample.content)

taken_length : (n : ℕ) (samples : List TakenSample) → length (contents (take n samples)) ≡ min n (length samples)
taken_length n samples = length-contents (take n samples) ∙ length-take n samples

size_if : (b : Bool) (size : ℕ) → b ≡ eqb size 0 → 0 < cond b 64 size
size_if true size e = omega arith
size_if false size e = grind (arith, nat_tests)

-- a list has room for a sample
size_positive : (config : DigestConfig) → 0 < list_size config
size_positive config = size_if _ (natural config.max_list_size) refl

due_has : (n age now : ℕ) (samples : List TakenSample) → 0 < n → (leb n (length samples) || first_is_old samples age now) ≡ true → 0 < length samples
due_has n age now [] positive h = absurd (false≢true (grind (arith, nat_tests)))
due_has n age now (first ∷ rest) positive h = omega arith

full_length : (over full : Bool) (digest : DigestState) (now : ℕ) → full ≡ leb (list_size digest.config) (length digest.gathered) → IfSome (cond over None (cond full (Some (list_of digest now)) None)) (λ list. length list.content ≡ list_size digest.config)
full_length true full digest now e = tt
full_length false true digest now e =
    let enough : list_size digest.config ≤ length digest.gathered = grind (arith, nat_tests) in
    taken_length (list_size digest.config) digest.gathered ∙ omega arith
full_length false false digest now e = tt

pub list_sizes : ListSizes
list_sizes = record {
  at_most = λ digest now. omega (arith, taken_length (list_size digest.config) digest.gathered);
  not_empty = λ digest now due. omega (arith, taken_length (list_size digest.config) digest.gathered, size_positive digest.config, due_has (list_size digest.config) _ now digest.gathered (size_positive digest.config) due);
  by_sample = λ digest content now. full_length (is_passed_over digest content now) (is_full (with_sample digest content now)) (with_sample digest content now) now refl;
}
