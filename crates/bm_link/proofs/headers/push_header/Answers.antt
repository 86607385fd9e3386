use Rattle.std.proofs.Common.{◌++◌, [], ◌∷◌, ap, ◌∙◌}
use Rattle.bm_link.proofs.Pushes.{headers_next}
use Rattle.bm_link.proofs.headers.push_header.Goals as goal

pub returns : goal.returns
returns c =
    headers_next c.args.fields.now.raw.now c.args.place c.args.header.now c.args.headers.now c.push.new.self c.requires.at c.requires.inside c.requires.before
    (c.in_ok-push.ensures.ok ∙ ap (λ x. c.args.headers.now ++ x ∷ []) c.in_ok-linked.ensures)
