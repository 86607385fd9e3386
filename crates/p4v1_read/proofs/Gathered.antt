-- What is gathered one by one.
use Rattle.std.proofs.Common.{◌≡◌, List, [], ◌++◌, Option, Some, None, refl}
use Rattle.list_types.specs.Options.{◌>>=◌}
use Rattle.wire_messages.specs.Message.{each}

some_again : {A : Type 0} (o : Option (List A)) → (o >>= λ rest. Some ([] ++ rest)) ≡ o
some_again None = refl
some_again (Some rest) = refl

-- with nothing gathered yet
pub gather_none : {A B : Type 0} (read : A → Option B) (o : Option (List A)) → (o >>= λ given. each read given >>= λ rest. Some ([] ++ rest)) ≡ (o >>= each read)
gather_none read None = refl
gather_none read (Some given) = some_again (each read given)
