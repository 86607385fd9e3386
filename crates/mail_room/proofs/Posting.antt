-- Notices that are posted one after the other, while those of the caller stay.
use Rattle.std.proofs.Common.{◌≡◌, ℕ, List, ◌++◌, take, drop}
use Rattle.mail_room.specs.AllMail.{MailState, own_notices, posted}
use Rattle.p4_types.specs.declared.calls.Notice.{Notice}

module _ {T : Type 0} (caller : ℕ) (told : T) (before : MailState T) (all : List Notice) where
  -- what is posted of all, once those before a place stay and so much is posted of the others
  abbrev pub IsPosted : MailState T → List Notice → ℕ → Type 0
  IsPosted mail items place = (posted caller told mail (drop place items) ≡ posted caller told before all) × (take place items ++ own_notices caller (drop place items) ≡ own_notices caller all)
