-- How often the first shares of a group name a member.
use Rattle.std.proofs.Common.{◌≡◌, ℕ, ◌+◌, ◌<◌, Bool, true, false, cond, List, length, get_or, take, arith}
use Rattle.std.specs.Prelude.{◌==◌, ◌&&◌, count_by}
use Rattle.std.proofs.lemmas.List.Sums.{sum_by_more}
use Rattle.p4_types.specs.declared.profiles.Share.{Share}
use Rattle.plane_spec.specs.Profiles.{same_id}

-- how often the first shares name a member
abbrev pub named_by : ℕ → List Share → ℕ → ℕ → ℕ
named_by profile shares p i = cond (profile == p) (count_by (λ share. share.member == i) shares) 0

more_by : (b : Bool) (i : ℕ) (shares : List Share) (k : ℕ) (d : Share) → k < length shares
    → cond b (count_by (λ share. share.member == i) (take (k + 1) shares)) 0 ≡ cond b (count_by (λ share. share.member == i) (take k shares)) 0 + cond (b && ((get_or shares k d).member == i)) 1 0
more_by true i shares k d below = sum_by_more (λ share. cond (share.member == i) 1 0) shares k d below
more_by false i shares k d below = omega arith

pub named_more : (profile p i : ℕ) (shares : List Share) (k : ℕ) (d : Share) → k < length shares
    → named_by profile (take (k + 1) shares) p i ≡ named_by profile (take k shares) p i + cond (same_id p i profile (get_or shares k d).member) 1 0
named_more profile p i shares k d below = more_by (profile == p) i shares k d below
