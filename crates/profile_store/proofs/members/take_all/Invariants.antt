use Rattle.std.proofs.Common.{◌≡◌, ℕ, ◌+◌, cond, map, take}
use Rattle.std.specs.Prelude.{◌==◌, count_by}
use Rattle.profile_store.specs.Order.{AreInOrder, key_before, member_key}
use Rattle.profile_store.specs.Rows.{member_row, uses_of_row}
use Rattle.profile_store.proofs.members.take_all.Given as goal

abbrev pub invariant-loop-share : goal.invariant-loop-share
invariant-loop-share l =
    AreInOrder key_before member_key l.rows.items × (l.rows.before ≡ l.initial.rows.before) × (map (λ row. row.member) l.rows.items ≡ map (λ row. row.member) l.initial.rows.items)
    × ((p i : ℕ) → uses_of_row (member_row p i l.rows.items) ≡ uses_of_row (member_row p i l.initial.rows.items) + cond (l.profile == p) (count_by (λ share. share.member == i) (take l.share-index l.shares)) 0)
