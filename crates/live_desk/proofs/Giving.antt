-- What a pass is given next.
use Rattle.std.proofs.Common.{◌≡◌, ◌⊎◌, ℕ, List, [], ◌∷◌, drop, Option, Some, None, IfSome, ap, sym, subst, ◌∙◌}
use Rattle.std.specs.Prelude.{slice_get, ◌≢◌}
use Rattle.digest_lists.specs.Fold.{sent_at_tick}
use Rattle.live_desk.specs.Mailing.{Living, mail_lane}
use Rattle.live_desk.specs.Passing.{HasLearnt, IsGiven, IsNoOutput, Passing}
use Rattle.mail_room.specs.AllMail.{Gives, MailState, missed, ticked}
use Rattle.mail_room.specs.Boxes.{IsMail}
use Rattle.mail_room.specs.declared.next.Next.{Next}
use Rattle.mail_room.specs.declared.next.Next.TheVariants as nexts
use Rattle.p4_types.specs.declared.records.Output.{Output}
use Rattle.pub_snap.specs.Beginnings.{Beginning}
use Rattle.snap_worker.specs.Working.{state_after}
use Rattle.switch_spec.specs.Meaning.{receiver}

abbrev as_next : Option Output → Option Next
as_next None = None
as_next (Some output) = Some (nexts.Output output)

-- the oldest output
pub given_output : (waiting : List Output) (output : Output) (before after : Passing) → Some output ≡ slice_get waiting 0 → after ≡ record before { waiting = drop 1 waiting }
    → IsGiven waiting (Some (nexts.Output output)) before after
given_output [] output before after first rest = absurd (cc first)
given_output (oldest ∷ others) output before after first rest = (ap as_next first, rest)

mail_is_no_output : (next : Option Next) → IfSome next IsMail → IsNoOutput next
mail_is_no_output None mail = tt
mail_is_no_output (Some (nexts.Message message)) mail = tt
mail_is_no_output (Some (nexts.Output output)) mail = mail
mail_is_no_output (Some nexts.Overflow) mail = tt

abbrev with_waiting : Passing → List Output → Passing
with_waiting pass waiting = record pass { waiting = waiting }

-- what waits at the desk, where no output waits
pub given_mail : (waiting : List Output) (next : Option Next) (before between after : Passing) → before.waiting ≡ waiting → None ≡ slice_get waiting 0 → between ≡ record before { waiting = drop 1 waiting }
    → IfSome next IsMail → HasLearnt between after → IsGiven waiting next before after
given_mail [] next before between after is none same mail learnt =
    let as_before : between ≡ before = same ∙ ap (with_waiting before) (sym is) in
    (mail_is_no_output next mail, subst (λ (p : Passing). HasLearnt p after) as_before learnt)
given_mail (oldest ∷ others) next before between after is none same mail learnt = absurd (cc none)

-- what waits longest for a lane was given, behind the lists that were due, of which one goes to this lane
abbrev IsNext : Living → Option ℕ → ℕ → ℕ → Option (Next × Option Beginning) → MailState Beginning → Type 0
IsNext living primary moment lane given after =
    Gives (ticked living.mail primary moment) lane given after ⊎ ((sent_at_tick living.mail.lists moment ≢ None) × Gives (missed living.mail) lane given after)

-- the same, where what stands behind the lock is seen, and the lane is that of the primary of role 0
pub given_next : (now inside : Living) (primary : Option ℕ) (moment lane : ℕ) (given : Option (Next × Option Beginning)) (after : MailState Beginning)
    → now ≡ inside → primary ≡ mail_lane (receiver (state_after inside.locking.told)) → IsNext inside primary moment lane given after
    → IsNext now (mail_lane (receiver (state_after now.locking.told))) moment lane given after
given_next now inside primary moment lane given after same is next =
    subst (λ (l : Living). IsNext l (mail_lane (receiver (state_after l.locking.told))) moment lane given after) (sym same) (subst (λ (p : Option ℕ). IsNext inside p moment lane given after) is next)
