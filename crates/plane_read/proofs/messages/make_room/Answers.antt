use Rattle.std.proofs.Common.{◌≡◌, ℕ, List, [], ◌∷◌, ◌++◌, length, ap, ◌∙◌, arith}
use Rattle.p4_types.specs.declared.messages.Entity.{Entity}
use Rattle.switch_spec.specs.Reading.{response_bytes}
use Rattle.plane_read.specs.Answered.{messages_of}
use Rattle.plane_read.proofs.Chunks.{emptied}
use Rattle.plane_read.proofs.messages.make_room.Goals as goal

pub returns-clause-kept : goal.returns-clause-kept
returns-clause-kept c =
    let written : List (List ℕ) = c.args.written.now in
    let gathered : List Entity = c.args.gathered.now in
    let full : length gathered ≡ 1024 = omega arith in
    let p : c.push.new.self ≡ written ++ response_bytes gathered ∷ [] = cc (c.in_ok-push.ensures.ok, c.in_ok-bytes.ensures, c.replace-full.ensures.value) in
    let q : c.replace-full.new.dest ≡ [] = cc (c.replace-full.ensures.after, c.new.ensures) in
    λ entity others.
    ap (λ w. messages_of w c.replace-full.new.dest (entity ∷ others)) p ∙ ap (λ g. messages_of (written ++ response_bytes gathered ∷ []) g (entity ∷ others)) q
    ∙ emptied written gathered full entity others
