-- What a link sees of the client's first bytes.
use Rattle.std.proofs.Common.{◌≡◌, ℕ, Bool, true, List, [], ◌∷◌, refl, ap, ◌∙◌}
use Rattle.std.specs.Prelude.{fold, if◌then◌else◌}
use Rattle.link_loop.specs.declared.watch.Opening.{Opening}
use Rattle.link_loop.specs.Watches.{byte_seen, has_opened}

byte_passed : (opening : Opening) (byte : ℕ) → has_opened opening ≡ true → byte_seen opening byte ≡ opening
unfolding byte_seen
byte_passed opening byte e = rw e refl

-- behind the first frame nothing is looked at
pub opened_stays : (bytes : List ℕ) (opening : Opening) → has_opened opening ≡ true → fold byte_seen opening bytes ≡ opening
opened_stays [] opening e = refl
opened_stays (byte ∷ bytes) opening e = ap (λ o. fold byte_seen o bytes) (byte_passed opening byte e) ∙ opened_stays bytes opening e
