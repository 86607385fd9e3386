-- The headers of an answer.
use Rattle.std.proofs.Common.{◌≡◌, ℕ, Bool, true, false, List, [], ◌∷◌, ◌++◌, Result, Ok, Err, ap, ◌∙◌}
use Rattle.std.specs.Prelude.{OnOk}
use Rattle.list_types.specs.declared.memory.NoMemory.{NoMemory}
use Rattle.hpack_tables.specs.declared.header.Header.{Header}
use Rattle.h2_conn.specs.declared.phase.Phase.{Phase}
use Rattle.p4_types.specs.declared.code.Code.TheVariants as codes_of
use Rattle.h2_conn.specs.Sends.{headers_sent}
use Rattle.grpc_streams.specs.Answers.{response_headers, status_header}
use Rattle.grpc_streams.specs.Spelling.{begun, messages_sent, completed}

pub begins : (r : Result Unit NoMemory) (number : ℕ) (was_begun : Bool) (headers : List Header) (old new : Phase) → was_begun ≡ false → headers ≡ response_headers → OnOk r (new ≡ headers_sent number headers false old) → OnOk r (new ≡ begun number was_begun old)
begins (Err n) number was_begun headers old new ew eh e = tt
begins (Ok x) number true headers old new ew eh e = absurd cc
begins (Ok x) number false headers old new ew eh e = e ∙ ap (λ h. headers_sent number h false old) eh

pub completes : (r : Result Unit NoMemory) (number : ℕ) (was_begun : Bool) (messages : List (List ℕ)) (none trailers : List Header) (old one two new : Phase) → one ≡ begun number was_begun old → two ≡ messages_sent number messages one
    → none ≡ [] → trailers ≡ none ++ status_header codes_of.Ok ∷ [] → OnOk r (new ≡ headers_sent number trailers true two) → OnOk r (new ≡ completed number was_begun messages old)
completes (Err n) number was_begun messages none trailers old one two new e1 e2 en et e = tt
completes (Ok x) number was_begun messages none trailers old one two new e1 e2 en et e =
    let listed : trailers ≡ status_header codes_of.Ok ∷ [] = et ∙ ap (λ list. list ++ status_header codes_of.Ok ∷ []) en in
    e ∙ ap (λ list. headers_sent number list true two) listed ∙ ap (headers_sent number (status_header codes_of.Ok ∷ []) true) (e2 ∙ ap (messages_sent number messages) e1)
