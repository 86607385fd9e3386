-- A piece that is cut, and what was sent before a turn.
use Rattle.std.proofs.Common.{◌≡◌, ℕ, List, [], ◌∷◌, ◌++◌, refl, sym, ap, ◌∙◌, append_assoc}
use Rattle.std.specs.Prelude.{map}
use Rattle.std.proofs.Math.Path.{fun_ext}
use Rattle.std.proofs.lemmas.List.{append-nil}
use Rattle.p4rt_service.specs.Dialogues.{Dialogue, Ends, Asks, ◌>>=◌, each, Exchange, Runs}
use Rattle.h2_conn.specs.declared.phase.Phase.{Phase}
use Rattle.h2_conn.specs.declared.phase.Phase.TheVariants.{Open, Broken, OutOfMemory}
use Rattle.h2_conn.specs.Bytes.{output_of, without_output}
use Rattle.p4rt_service.specs.Serving.{byte_taken, delivered}
use Rattle.p4rt_service.specs.Turns.{Served, Turn, Piece, Message, Overflow, overflowed, flushed, on_link, byte_served, piece_served, turn_served, turns_served}
use Rattle.p4rt_service.specs.Laws.{AnyCut, SentBefore, Determined, behind}
use Rattle.p4rt_service.proofs.Holding.{associative, each_behind}

-- ---- the replies determine a dialogue

exchange_is : (one two : Exchange) → one.call ≡ two.call → one.reply ≡ two.reply → one ≡ two
exchange_is one two ec er = ap (λ call. record { call = call; reply = one.reply }) ec ∙ ap (λ reply. record { call = two.call; reply = reply }) er

pub same_run : {X : Type 0} (dialogue : Dialogue X) (one two : List Exchange) (end other : X) → Runs dialogue one end → Runs dialogue two other
    → map (λ exchange. exchange.reply) one ≡ map (λ exchange. exchange.reply) two → (one ≡ two) × (end ≡ other)
same_run (Ends x) [] [] end other r s m = (refl, r ∙ sym s)
same_run (Ends x) [] (exchange ∷ two) end other r s m = absurd s
same_run (Ends x) (exchange ∷ one) two end other r s m = absurd r
same_run (Asks call by) [] two end other r s m = absurd r
same_run (Asks call by) (a ∷ one) [] end other r s m = absurd s
same_run (Asks call by) (a ∷ one) (b ∷ two) end other r s m =
    let first : a.reply ≡ b.reply = cc in
    let rest : map (λ exchange. exchange.reply) one ≡ map (λ exchange. exchange.reply) two = cc in
    let onward : Runs (by a.reply) two other = rw (sym first) at (s.1) in
    let tail = same_run (by a.reply) one two end other r.1 onward rest in
    (ap (λ x. x ∷ one) (exchange_is a b (r.0 ∙ sym s.0) first) ∙ ap (λ xs. b ∷ xs) tail.0, tail.1)

-- ---- bytes

flushed_from : (lane : ℕ) (calls : _) (conn : Phase) (sent : List ℕ) → flushed (flushed (record { link = record { lane = lane; calls = calls; conn = conn }; sent = sent })) ≡ flushed (record { link = record { lane = lane; calls = calls; conn = conn }; sent = sent })
flushed_from lane calls (Open conn) sent = ap (λ x. record { link = record { lane = lane; calls = calls; conn = without_output (Open conn) }; sent = x }) (append-nil (sent ++ conn.outgoing.output))
flushed_from lane calls (Broken code output) sent = ap (λ x. record { link = record { lane = lane; calls = calls; conn = Broken code [] }; sent = x }) (append-nil (sent ++ output))
flushed_from lane calls OutOfMemory sent = ap (λ x. record { link = record { lane = lane; calls = calls; conn = OutOfMemory }; sent = x }) (append-nil (sent ++ []))

-- flushing twice is flushing once
pub flushed_twice : (served : Served) → flushed (flushed served) ≡ flushed served
flushed_twice served = flushed_from served.link.lane served.link.calls served.link.conn served.sent

-- what is flushed first does the same
flushed_first : (piece : List ℕ) (served : Served) → piece_served piece (flushed served) ≡ piece_served piece served
flushed_first [] served = ap (λ end. Ends end) (flushed_twice served)
flushed_first (byte ∷ piece) served = ap (λ s. (byte_taken byte s.link >>= on_link s.sent >>= each byte_served piece) >>= (λ end. Ends (flushed end))) (flushed_twice served)

cut_piece : (first second : List ℕ) (served : Served) → piece_served (first ++ second) served ≡ (piece_served first served >>= piece_served second)
cut_piece first second served =
    ap (λ d. d >>= (λ end. Ends (flushed end))) (each_behind byte_served first second served)
    ∙ associative (each byte_served first served) (each byte_served second) (λ end. Ends (flushed end))
    ∙ ap (λ f. each byte_served first served >>= f) (fun_ext (λ between. sym (flushed_first second between)))
    ∙ sym (associative (each byte_served first served) (λ end. Ends (flushed end)) (piece_served second))

cut_turn : (after : List Turn) (first second : List ℕ) (served : Served) → turns_served (Piece (first ++ second) ∷ after) served ≡ turns_served (Piece first ∷ Piece second ∷ after) served
unfolding turn_served
cut_turn after first second served = ap (λ d. d >>= each turn_served after) (cut_piece first second served) ∙ associative (piece_served first served) (piece_served second) (each turn_served after)

pub any_cut : AnyCut
any_cut before after first second served =
    each_behind turn_served before (Piece (first ++ second) ∷ after) served
    ∙ ap (λ f. each turn_served before served >>= f) (fun_ext (cut_turn after first second))
    ∙ sym (each_behind turn_served before (Piece first ∷ Piece second ∷ after) served)

-- ---- what was sent before

-- the end of a dialogue, behind what was sent
ends_behind : List ℕ → Served → Dialogue Served
ends_behind sent end = Ends (behind sent end)

flushed_behind : (sent : List ℕ) (served : Served) → flushed (behind sent served) ≡ behind sent (flushed served)
flushed_behind sent served = ap (λ x. record { link = (flushed served).link; sent = x }) (append_assoc sent served.sent (output_of served.link.conn))

byte_behind : (byte : ℕ) (sent : List ℕ) (served : Served) → byte_served byte (behind sent served) ≡ (byte_served byte served >>= (λ end. Ends (behind sent end)))
byte_behind byte sent served =
    ap (λ s. byte_taken byte s.link >>= on_link s.sent) (flushed_behind sent served)
    ∙ sym (associative (byte_taken byte (flushed served).link) (on_link (flushed served).sent) (λ end. Ends (behind sent end)))

bytes_behind : (piece sent : List ℕ) (served : Served) → each byte_served piece (behind sent served) ≡ (each byte_served piece served >>= (λ end. Ends (behind sent end)))
bytes_behind [] sent served = refl
bytes_behind (byte ∷ piece) sent served =
    ap (λ d. d >>= each byte_served piece) (byte_behind byte sent served)
    ∙ associative (byte_served byte served) (λ end. Ends (behind sent end)) (each byte_served piece)
    ∙ ap (λ f. byte_served byte served >>= f) (fun_ext (λ between. bytes_behind piece sent between))
    ∙ sym (associative (byte_served byte served) (each byte_served piece) (λ end. Ends (behind sent end)))

piece_behind : (piece sent : List ℕ) (served : Served) → piece_served piece (behind sent served) ≡ (piece_served piece served >>= (λ end. Ends (behind sent end)))
piece_behind piece sent served =
    ap (λ d. d >>= (λ end. Ends (flushed end))) (bytes_behind piece sent served)
    ∙ associative (each byte_served piece served) (λ end. Ends (behind sent end)) (λ end. Ends (flushed end))
    ∙ ap (λ f. each byte_served piece served >>= f) (fun_ext (λ between. ap (λ end. Ends end) (flushed_behind sent between)))
    ∙ sym (associative (each byte_served piece served) (λ end. Ends (flushed end)) (λ end. Ends (behind sent end)))

pub sent_before : SentBefore
unfolding turn_served
sent_before (Piece piece) sent served = piece_behind piece sent served
sent_before (Message message) sent served = ap (λ end. Ends end) (flushed_behind sent (record served { link = delivered message served.link }))
sent_before Overflow sent served =
    ap (λ f. overflowed served.link >>= f) (fun_ext (λ link. ap (λ end. Ends end) (flushed_behind sent (record served { link = link }))))
    ∙ sym (associative (overflowed served.link) (λ link. Ends (flushed (record served { link = link }))) (λ end. Ends (behind sent end)))

pub determined : Determined
determined dialogue one two end other r s m = same_run dialogue one two end other r s m
