-- A tick where no digest is set.
use Rattle.std.proofs.Common.{◌≡◌, ℕ, List, [], ◌∷◌, Option, refl}
use Rattle.digest_lists.specs.State.{DigestState}
use Rattle.mail_room.specs.Boxes.{BoxState}
use Rattle.mail_room.specs.AllMail.{MailState, ticked}

of_parts : {T : Type 0} (boxes : List (BoxState T)) (unstored : ℕ) (lists : List DigestState) (primary : Option ℕ) (now : ℕ) → lists ≡ []
    → ◌≡◌ {A = MailState T} (ticked (record { boxes = boxes; lists = lists; unstored = unstored }) primary now) (record { boxes = boxes; lists = lists; unstored = unstored })
of_parts boxes unstored [] primary now e = refl
of_parts boxes unstored (digest ∷ digests) primary now e = absurd cc

pub nothing_set : {T : Type 0} (mail : MailState T) (primary : Option ℕ) (now : ℕ) → mail.lists ≡ [] → ticked mail primary now ≡ mail
nothing_set mail primary now e = of_parts mail.boxes mail.unstored mail.lists primary now e
