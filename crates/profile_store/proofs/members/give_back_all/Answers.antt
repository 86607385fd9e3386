use Rattle.std.proofs.Common.{◌∙◌, arith}
use Rattle.p4_types.specs.declared.profiles.Share.{Share}
use Rattle.profile_store.proofs.SharesNamed.{named_more}
use Rattle.profile_store.proofs.members.give_back_all.Goals as goal

pub loop-share-preserved : goal.loop-share-preserved
loop-share-preserved c =
    let h = c.loop-share.invariant in
    let none : Share = record { member = 0; weight = 0 } in (
      c.give_back.ensures.order,
      c.give_back.ensures.before ∙ h.1,
      c.in_ok-give_back.ensures.members ∙ h.2,
      λ p i. omega (arith, c.in_ok-give_back.ensures.uses p i, h.3 p i, named_more c.args.profile p i c.args.shares.now c.loop-share.share-index none c.loop-share-test.true),
    )
