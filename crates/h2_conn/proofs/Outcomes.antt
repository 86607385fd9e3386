-- What holds of an answer, where no rule is broken.
use Rattle.std.proofs.Common.{◌≡◌, Bool, true, false, Result, Ok, Err, refl}
use Rattle.std.specs.Prelude.{if◌then◌else◌}
use Rattle.h2_frames.specs.declared.codes.H2Code.{H2Code}
use Rattle.list_types.specs.Results.{◌>>=◌, unless}

abbrev pub AllOf : {X : Type 0} → (X → Type 0) → Result X H2Code → Type 0
AllOf P (Ok x) = P x
AllOf P (Err code) = Unit {0}

pub of_unless : {X : Type 0} (P : X → Type 0) (b : Bool) (code : H2Code) (taken : Result X H2Code) → (b ≡ false → AllOf P taken) → AllOf P (unless b code taken)
of_unless P true code taken k = tt
of_unless P false code taken k = k refl

pub of_if : {X : Type 0} (P : X → Type 0) (b : Bool) (x y : Result X H2Code) → AllOf P x → AllOf P y → AllOf P (if b then x else y)
of_if P true x y px py = px
of_if P false x y px py = py

pub of_behind : {A X : Type 0} (P : X → Type 0) (read : Result A H2Code) (f : A → Result X H2Code) → ((x : A) → read ≡ Ok x → AllOf P (f x)) → AllOf P (read >>= f)
of_behind P (Ok x) f k = k x refl
of_behind P (Err code) f k = tt

-- the same where something is known of what comes before
pub of_after : {A X : Type 0} (Q : A → Type 0) (P : X → Type 0) (read : Result A H2Code) (f : A → Result X H2Code) → AllOf Q read → ((x : A) → Q x → AllOf P (f x)) → AllOf P (read >>= f)
of_after Q P (Ok x) f q k = k x q
of_after Q P (Err code) f q k = tt
