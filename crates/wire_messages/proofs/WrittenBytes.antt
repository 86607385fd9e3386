-- The bytes that values are written as.
use Rattle.std.proofs.Common.{◌≡◌, ℕ, ◌+◌, ◌<◌, ◌≤◌, Bool, true, false, cond, ltb, All, List, Some, [], ◌∷◌, ◌++◌, length, take, map, get_or, subst, refl, sym, ap, ◌∙◌, append_assoc, arith}
use Rattle.std.specs.Str.{IsUtf8}
use Rattle.std.proofs.lemmas.List.Elements.{All-nil, All-push}
use Rattle.std.proofs.lemmas.Bool.{ne_eqb}
use Rattle.std.proofs.lemmas.List.{append-nil, map-append, take-append-le, take_more, take_all}
use Rattle.wire_fields.specs.Fields.{Payload, Varint, Bytes, WireField, tag}
use Rattle.canon_bytes.specs.Base128.{base_128}
use Rattle.wire_fields.specs.Spelling.{field_bytes, number_field, bytes_field, spelling}
use Rattle.wire_messages.specs.Written.{Value, Uint64, ByteString, Texts, Messages, payloads, unless_empty, unless_default, row_fields, row_bytes}

-- values that are written as the same payloads
pub same_bytes : (number : ℕ) (value other : Value) → payloads value ≡ payloads other → row_bytes number value ≡ row_bytes number other
unfolding row_bytes
same_bytes number value other e = ap (λ x. spelling (map (λ (payload : Payload). let field : WireField = record { number = number; payload = payload } in field) x)) e

-- a value that is left out
pub left_out : (number : ℕ) (value : Value) → payloads value ≡ [] → row_bytes number value ≡ []
unfolding row_bytes
left_out number value e = rw e refl

-- a value that is one payload
pub one_field : (number : ℕ) (value : Value) (payload : Payload) → payloads value ≡ payload ∷ [] → row_bytes number value ≡ field_bytes (record { number = number; payload = payload })
unfolding row_bytes
one_field number value payload e = rw e (append-nil _)

pub zero_is : (number value : ℕ) → value ≡ 0 → row_bytes number (Uint64 value) ≡ []
zero_is number value e = left_out number (Uint64 value) (rw e refl)

pub number_is : (number value : ℕ) → (value ≡ 0 → ⊥) → row_bytes number (Uint64 value) ≡ field_bytes (number_field number value)
number_is number value ne = one_field number (Uint64 value) (Varint value) (rw (ne_eqb value 0 ne) refl)

pub empty_is : (number : ℕ) (bytes : List ℕ) → length bytes ≡ 0 → row_bytes number (ByteString bytes) ≡ []
empty_is number [] e = left_out number (ByteString []) refl
empty_is number (b ∷ bytes) e = absurd (omega arith)

pub bytes_is : (number : ℕ) (bytes : List ℕ) → (length bytes ≡ 0 → ⊥) → row_bytes number (ByteString bytes) ≡ field_bytes (bytes_field number bytes)
bytes_is number [] ne = absurd (ne refl)
bytes_is number (b ∷ bytes) ne = one_field number (ByteString (b ∷ bytes)) (Bytes (b ∷ bytes)) refl

-- one text more
pub texts_more : (number : ℕ) (texts : List (List ℕ)) (text : List ℕ) → row_bytes number (Texts (texts ++ text ∷ [])) ≡ row_bytes number (Texts texts) ++ field_bytes (bytes_field number text)
unfolding row_bytes
texts_more number [] text = append-nil _
texts_more number (first ∷ texts) text = ap (λ x. field_bytes (bytes_field number first) ++ x) (texts_more number texts text) ∙ sym (append_assoc (field_bytes (bytes_field number first)) (spelling (row_fields number (Texts texts))) (field_bytes (bytes_field number text)))

-- the texts so far
pub record TextsSoFar (number : ℕ) (texts : List (List ℕ)) (start now : List ℕ) : Type 0 where
  pub so_far : now ≡ start ++ row_bytes number (Texts texts)
  pub fits : All IsUtf8 texts

-- the texts so far, and those that are left
pub record TextsWritten (number : ℕ) (texts left : List (List ℕ)) (start now : List ℕ) : Type 0 where
  pub done : List (List ℕ)
  pub whole : texts ≡ done ++ left
  pub so : TextsSoFar number done start now

pub no_texts : (number : ℕ) (texts left : List (List ℕ)) (bytes : List ℕ) → left ≡ texts → TextsWritten number texts left bytes bytes
no_texts number texts left bytes e = record {
  done = [];
  whole = sym e;
  so = record { so_far = sym (ap (λ x. bytes ++ x) (left_out number (Texts []) refl) ∙ append-nil bytes); fits = All-nil IsUtf8 };
}

pub next_text : (number : ℕ) (texts left rest : List (List ℕ)) (text start before now : List ℕ) → left ≡ text ∷ rest → IsUtf8 text → now ≡ before ++ field_bytes (bytes_field number text) → TextsWritten number texts left start before
    → TextsWritten number texts rest start now
next_text number texts left rest text start before now is utf8 e written = record {
  done = written.done ++ text ∷ [];
  whole = written.whole ∙ ap (λ x. written.done ++ x) is ∙ sym (append_assoc written.done (text ∷ []) rest);
  so = record {
    so_far = e ∙ ap (λ x. x ++ field_bytes (bytes_field number text)) written.so.so_far ∙ append_assoc start (row_bytes number (Texts written.done)) (field_bytes (bytes_field number text)) ∙ ap (λ x. start ++ x) (sym (texts_more number written.done text));
    fits = All-push IsUtf8 written.done text written.so.fits utf8;
  };
}

pub all_texts : (number : ℕ) (texts left : List (List ℕ)) (start now : List ℕ) → left ≡ [] → TextsWritten number texts left start now → TextsSoFar number texts start now
all_texts number texts left start now e written = subst (λ (x : List (List ℕ)). TextsSoFar number x start now) (sym (written.whole ∙ ap (λ x. written.done ++ x) e ∙ append-nil written.done)) written.so

-- where it stops, some were written
pub stopped_at : (number : ℕ) (texts left : List (List ℕ)) (start before now : List ℕ) → now ≡ before → TextsWritten number texts left start before → (count : ℕ) × (now ≡ start ++ row_bytes number (Texts (take count texts)))
stopped_at number texts left start before now e written =
    (length written.done, e ∙ written.so.so_far ∙ ap (λ x. start ++ row_bytes number (Texts x)) (sym (ap (take (length written.done)) written.whole ∙ take-append-le (length written.done) written.done left (omega arith) ∙ take_all (length written.done) written.done (omega arith))))

-- ---- messages

first_byte : (test : Bool) (x y : ℕ) (rest more others : List ℕ) → unless_empty ((cond test (x ∷ []) (y ∷ rest) ++ more) ++ others) ≡ Bytes ((cond test (x ∷ []) (y ∷ rest) ++ more) ++ others) ∷ []
first_byte true x y rest more others = refl
first_byte false x y rest more others = refl

-- a message without bytes is one whose fields are all defaults
pub message_bytes : (fields : List WireField) → unless_default (Some fields) ≡ unless_empty (spelling fields)
unfolding base_128
message_bytes [] = refl
message_bytes (field ∷ fields) = sym (first_byte (ltb (tag field) 128) (tag field) _ _ _ (spelling fields))

-- one message more
pub messages_more : (number : ℕ) (messages : List (List WireField)) (message : List WireField) → row_bytes number (Messages (messages ++ message ∷ [])) ≡ row_bytes number (Messages messages) ++ field_bytes (bytes_field number (spelling message))
unfolding row_bytes
messages_more number [] message = append-nil _
messages_more number (first ∷ messages) message =
    ap (λ x. field_bytes (bytes_field number (spelling first)) ++ x) (messages_more number messages message)
    ∙ sym (append_assoc (field_bytes (bytes_field number (spelling first))) (spelling (row_fields number (Messages messages))) (field_bytes (bytes_field number (spelling message))))

-- the messages so far
pub record MessagesSoFar {A : Type 0} (fields : A → List WireField) (InRange : A → Type 0) (number : ℕ) (messages : List A) (start now : List ℕ) : Type 0 where
  pub so_far : now ≡ start ++ row_bytes number (Messages (map fields messages))
  pub fits : All InRange messages

pub no_messages : {A : Type 0} (fields : A → List WireField) (InRange : A → Type 0) (number : ℕ) (bytes : List ℕ) → MessagesSoFar fields InRange number [] bytes bytes
no_messages fields InRange number bytes = record { so_far = sym (ap (λ x. bytes ++ x) (left_out number (Messages []) refl) ∙ append-nil bytes); fits = All-nil InRange }

pub next_message : {A : Type 0} (fields : A → List WireField) (InRange : A → Type 0) (number i : ℕ) (messages : List A) (message : A) (start before now : List ℕ) → i < length messages → message ≡ get_or messages i message → MessagesSoFar fields InRange number (take i messages) start before
    → now ≡ before ++ field_bytes (bytes_field number (spelling (fields message))) → InRange message
    → MessagesSoFar fields InRange number (take (i + 1) messages) start now
next_message {A} fields InRange number i messages message start before now h is so e fits =
    let taken : take (i + 1) messages ≡ take i messages ++ message ∷ [] = take_more messages i message h ∙ ap (λ x. take i messages ++ x ∷ []) (sym is) in
    let more : map fields (take i messages ++ message ∷ []) ≡ map fields (take i messages) ++ fields message ∷ [] = map-append fields (take i messages) (message ∷ []) in
    rw taken (record {
      so_far = e ∙ ap (λ x. x ++ field_bytes (bytes_field number (spelling (fields message)))) so.so_far
          ∙ append_assoc start (row_bytes number (Messages (map fields (take i messages)))) (field_bytes (bytes_field number (spelling (fields message))))
          ∙ ap (λ x. start ++ x) (sym (ap (λ x. row_bytes number (Messages x)) more ∙ messages_more number (map fields (take i messages)) (fields message)));
      fits = All-push InRange (take i messages) message so.fits fits;
    })

pub all_messages : {A : Type 0} (fields : A → List WireField) (InRange : A → Type 0) (number i : ℕ) (messages : List A) (start now : List ℕ) → length messages ≤ i → MessagesSoFar fields InRange number (take i messages) start now → MessagesSoFar fields InRange number messages start now
all_messages {A} fields InRange number i messages start now h so = subst (λ (x : List A). MessagesSoFar fields InRange number x start now) (take_all i messages h) so
