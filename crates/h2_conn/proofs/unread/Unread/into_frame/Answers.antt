use Rattle.std.proofs.Common.{◌≡◌, ◌-◌, ◌∷◌, take, drop, sym, ap, ◌∙◌, inl, inr, arith}
use Rattle.h2_frames.specs.Reading.{frame_at}
use Rattle.h2_conn.proofs.Apart.{padded_whole, plain_whole}
use Rattle.h2_conn.proofs.unread.Unread.into_frame.Goals as goal
use Rattle.h2_conn.proofs.unread.Unread.into_frame.Goals.{in_default-via-in-Some+else-count-gt0, in_default-via-in_default}

pub returns-in-Ok : goal.returns-in-Ok
returns-in-Ok c =
    let whole : take c.args.head.now.length (drop 9 c.args.self) ≡ c.in-Some.padding ∷ c.from_vec.result = padded_whole c.self.inside.head c.self.inside.payload c.from_vec.result c.args.self c.self.inside.padding c.in-Some.padding c.args.head.now.length c.self.invariant c.in-Some.is c.self.view_is c.if-count-gt0.true (c.from_vec.ensures ∙ c.truncate.ensures.items ∙ ap (λ x. take (c.args.head.now.length - 1) x) c.into_vec-payload.ensures) in
    ap (λ x. frame_at c.args.head.now x) whole ∙ c.in-Ok.ensures

pub returns-in-Some : goal.returns-in-Some
returns-in-Some c =
    let whole : take c.args.head.now.length (drop 9 c.args.self) ≡ c.in-Some.padding ∷ c.from_vec.result = padded_whole c.self.inside.head c.self.inside.payload c.from_vec.result c.args.self c.self.inside.padding c.in-Some.padding c.args.head.now.length c.self.invariant c.in-Some.is c.self.view_is c.if-count-gt0.true (c.from_vec.ensures ∙ c.truncate.ensures.items ∙ ap (λ x. take (c.args.head.now.length - 1) x) c.into_vec-payload.ensures) in
    ap (λ x. frame_at c.args.head.now x) whole ∙ c.in-Err.ensures

pub returns : goal.returns
returns c =
    let whole : c.from_vec-in_default.result ≡ take c.args.head.now.length (drop 9 c.args.self) =
    c.from_vec-in_default.ensures ∙ c.truncate-in_default.ensures.items ∙ ap (λ x. take c.args.head.now.length x) c.into_vec-payload.ensures
    ∙ plain_whole c.self.inside.head c.self.inside.payload c.args.self c.self.inside.padding c.args.head.now.length c.self.invariant c.self.view_is c.requires.whole (elim c.in_default.branch [ in_default-via-in-Some+else-count-gt0 w ↦ inr (omega (arith, w.if-count-gt0.false)) | in_default-via-in_default w ↦ inl w.in_default.is ]) in
    rw (sym whole) c.read_gathered.ensures.exact
