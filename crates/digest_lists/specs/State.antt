-- What is kept of a digest, and what its configuration says (P4Runtime 1.3.0, "DigestEntry").
use Rattle.std.specs.Prelude.{ℕ, ◌==◌, if◌then◌else◌, List, [], map, ℤ, pos, negsuc}
use Rattle.p4_types.specs.declared.messages.DigestConfig.{DigestConfig}
use Rattle.digest_lists.specs.declared.samples.TakenSample.{TakenSample}
use Rattle.digest_lists.specs.declared.samples.SentList.{SentList}

-- a digest that is set
pub record DigestState : Type 0 where
  pub id : ℕ
  pub config : DigestConfig
  -- the samples that were taken and not sent yet, oldest first
  pub gathered : List TakenSample
  -- the lists that were sent and wait for their acknowledgement, oldest first
  pub waiting : List SentList
  -- the id of the list that was sent last, 0 before the first
  pub last_list : ℕ

-- a digest that was set just now
abbrev pub new_digest : ℕ → DigestConfig → DigestState
new_digest id config = record { id = id; config = config; gathered = []; waiting = []; last_list = 0 }

-- a number; one below 0 counts as 0
abbrev pub natural : ℤ → ℕ
natural (pos n) = n
natural (negsuc n) = 0

-- a size, where 0 stands for 64
abbrev pub size_or_64 : ℕ → ℕ
size_or_64 size = if size == 0 then 64 else size

-- how many samples a list has at most; 0 stands for 64 (this project's profile)
abbrev pub list_size : DigestConfig → ℕ
list_size config = size_or_64 (natural config.max_list_size)

-- the ids that are set, in their order
abbrev pub ids_of : List DigestState → List ℕ
ids_of digests = map (λ digest. digest.id) digests
