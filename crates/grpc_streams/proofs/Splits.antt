-- Bytes that are split message by message.
use Rattle.std.proofs.Common.{◌≡◌, ℕ, zero, suc, List, [], ◌∷◌, ◌++◌, take, drop, Some, None, Result, Ok, Err, refl, sym, ap, ◌∙◌, append_assoc}
use Rattle.std.specs.Prelude.{IfOk}
use Rattle.std.proofs.lemmas.List.{append-nil}
use Rattle.list_types.specs.declared.memory.NoMemory.{NoMemory}
use Rattle.p4_types.specs.declared.code.Code.{Code}
use Rattle.grpc_streams.specs.declared.splitting.Split.{Split}
use Rattle.grpc_streams.specs.Messages.{front_at, behind, split_in}

abbrev pub made : List (List ℕ) → Result (List ℕ) Code → Split
made messages rest = record { messages = messages; rest = rest }

pub refused : (whole : Split) (n more : ℕ) (messages : List (List ℕ)) (rest : List ℕ) (code : Code) → n ≡ suc more → front_at rest ≡ Err code → behind messages (split_in n rest) ≡ whole → made messages (Err code) ≡ whole
unfolding split_in
refused whole n more messages rest code en e so_far = ap (λ x. made x (Err code)) (sym (append-nil messages)) ∙ rw (en, e) at so_far

pub partial : (whole : Split) (n more : ℕ) (messages : List (List ℕ)) (rest : List ℕ) → n ≡ suc more → front_at rest ≡ Ok None → behind messages (split_in n rest) ≡ whole → made messages (Ok rest) ≡ whole
unfolding split_in
partial whole n more messages rest en e so_far = ap (λ x. made x (Ok rest)) (sym (append-nil messages)) ∙ rw (en, e) at so_far

pub exhausted : (whole : Split) (n : ℕ) (messages : List (List ℕ)) (rest : List ℕ) → n ≡ 0 → behind messages (split_in n rest) ≡ whole → made messages (Ok rest) ≡ whole
unfolding split_in
exhausted whole n messages rest en so_far = ap (λ x. made x (Ok rest)) (sym (append-nil messages)) ∙ rw en at so_far

one_behind : (messages : List (List ℕ)) (message : List ℕ) (split : Split) → behind (messages ++ message ∷ []) split ≡ behind messages (behind (message ∷ []) split)
one_behind messages message split = ap (λ x. made x split.rest) (append_assoc messages (message ∷ []) split.messages)

one_split : (n more size : ℕ) (rest : List ℕ) → n ≡ suc more → front_at rest ≡ Ok (Some size) → split_in n rest ≡ behind (take size (drop 5 rest) ∷ []) (split_in more (drop size (drop 5 rest)))
unfolding split_in
one_split n more size rest en e = rw (en, e) refl

pub goes_on : (whole : Split) (n more size : ℕ) (messages next : List (List ℕ)) (rest inner message after : List ℕ) → n ≡ suc more → front_at rest ≡ Ok (Some size)
    → inner ≡ drop 5 rest → message ≡ take size inner → after ≡ drop size inner → next ≡ messages ++ message ∷ [] → behind messages (split_in n rest) ≡ whole → behind next (split_in more after) ≡ whole
goes_on whole n more size messages next rest inner message after en e ei em ea ex so_far =
    rw (ex, em, ea, ei) (one_behind messages (take size (drop 5 rest)) (split_in more (drop size (drop 5 rest))) ∙ ap (behind messages) (sym (one_split n more size rest en e)) ∙ so_far)

-- bytes that begin with no whole message are all that is kept
pub all_kept : (n : ℕ) (bytes : List ℕ) → front_at bytes ≡ Ok None → made [] (Ok bytes) ≡ split_in n bytes
unfolding split_in
all_kept zero bytes e = refl
all_kept (suc n) bytes e = rw e refl

pub became : (r : Result Split NoMemory) (x y : Split) → IfOk r (λ s. s ≡ x) → x ≡ y → IfOk r (λ s. s ≡ y)
became (Ok s) x y e f = e ∙ f
became (Err n) x y e f = tt
