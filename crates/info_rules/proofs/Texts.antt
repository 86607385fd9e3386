-- Texts that are read one after another.
use Rattle.std.proofs.Common.{◌≡◌, ℕ, true, is_some, List, [], ◌∷◌, Option, Some, None, Result, Ok, Err, OnErr, refl, ap, ◌∙◌}
use Rattle.wire_fields.specs.Fields.{Payload, Bytes}
use Rattle.list_types.specs.Options.{◌>>=◌}
use Rattle.wire_messages.specs.Message.{each, bytes_of, as_text}
use Rattle.wire_messages.specs.Scans.{text_of}

-- What is left decides whether all are read.
pub record Decides (left : List Payload) (all : Option (List (List ℕ))) : Type 0 where
  pub none : each text_of left ≡ None → all ≡ None
  pub some : is_some (each text_of left) ≡ true → is_some all ≡ true

pub decides_itself : (left : List Payload) → Decides left (each text_of left)
decides_itself left = record { none = λ e. e; some = λ e. e }

none_behind : (first : Option (List ℕ)) (others : Option (List (List ℕ))) → others ≡ None → (first >>= λ y. others >>= λ ys. Some (y ∷ ys)) ≡ None
none_behind None others e = refl
none_behind (Some y) others e = ap (λ o. o >>= λ ys. Some (y ∷ ys)) e

some_behind : (y : List ℕ) (others : Option (List (List ℕ))) → is_some others ≡ true → is_some (others >>= λ ys. Some (y ∷ ys)) ≡ true
some_behind y None e = e
some_behind y (Some ys) e = refl

-- a text, and those behind it
pub decides_next : (left rest : List Payload) (bytes text : List ℕ) (all : Option (List (List ℕ))) → left ≡ Bytes bytes ∷ rest → as_text bytes ≡ Some text → Decides left all → Decides rest all
decides_next left rest bytes text all first read decides =
    let here : each text_of left ≡ (each text_of rest >>= λ ys. Some (text ∷ ys)) = ap (each text_of) first ∙ ap (λ o. o >>= λ y. each text_of rest >>= λ ys. Some (y ∷ ys)) read in
    record {
      none = λ e. decides.none (here ∙ ap (λ o. o >>= λ ys. Some (text ∷ ys)) e);
      some = λ e. decides.some (ap is_some here ∙ some_behind text (each text_of rest) e);
    }

-- bytes that are no text
pub no_text_here : (left rest : List Payload) (bytes : List ℕ) (all : Option (List (List ℕ))) → left ≡ Bytes bytes ∷ rest → as_text bytes ≡ None → Decides left all → all ≡ None
no_text_here left rest bytes all first none decides =
    decides.none (ap (each text_of) first ∙ ap (λ o. o >>= λ y. each text_of rest >>= λ ys. Some (y ∷ ys)) none)

not_there : (y : List ℕ) (o : Option (List (List ℕ))) → (o >>= λ ys. Some (y ∷ ys)) ≡ None → o ≡ None
not_there y None e = refl
not_there y (Some ys) e = absurd cc

behind : (first : Option (List ℕ)) (payloads : List Payload) → (first >>= λ y. each bytes_of payloads >>= λ ys. Some (y ∷ ys)) ≡ None → (each bytes_of payloads ≡ None → each text_of payloads ≡ None)
    → ((first >>= as_text) >>= λ y. each text_of payloads >>= λ ys. Some (y ∷ ys)) ≡ None
behind None payloads e others = refl
behind (Some bytes) payloads e others = none_behind (as_text bytes) (each text_of payloads) (others (not_there bytes (each bytes_of payloads) e))

-- what is given and is no bytes is no text
pub none_of : (payloads : List Payload) → each bytes_of payloads ≡ None → each text_of payloads ≡ None
none_of [] e = absurd cc
none_of (payload ∷ payloads) e = behind (bytes_of payload) payloads e (none_of payloads)

pub on_err : {A E : Type 0} (P : Type 0) (answer : Result A E) → P → OnErr answer P
on_err P (Ok x) p = tt
on_err P (Err e) p = p

pub at_end : (left : List Payload) (all : Option (List (List ℕ))) → left ≡ [] → Decides left all → is_some all ≡ true
at_end left all none decides = decides.some (ap (λ l. is_some (each text_of l)) none)
