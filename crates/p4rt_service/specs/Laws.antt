-- Laws of what is asked and sent on a link.
use Rattle.std.specs.Prelude.{◌≡◌, ℕ, List, ◌∷◌, ◌++◌, map}
use Rattle.p4rt_service.specs.Dialogues.{Dialogue, Ends, ◌>>=◌, Exchange, Runs}
use Rattle.p4rt_service.specs.Turns.{Served, Turn, Piece, turn_served, turns_served}

-- Cutting bytes in two changes nothing, whatever happened before and happens after: not the calls that are made, not what is sent.
abbrev pub AnyCut : Type 0
AnyCut = (before after : List Turn) (first second : List ℕ) (served : Served)
    → ◌≡◌ {A = Dialogue Served} (turns_served (before ++ Piece (first ++ second) ∷ after) served) (turns_served (before ++ Piece first ∷ Piece second ∷ after) served)

-- these bytes were sent before others
abbrev pub behind : List ℕ → Served → Served
behind sent served = record served { sent = sent ++ served.sent }

-- What was sent before a turn changes nothing in it.
abbrev pub SentBefore : Type 0
SentBefore = (turn : Turn) (sent : List ℕ) (served : Served) → ◌≡◌ {A = Dialogue Served} (turn_served turn (behind sent served)) (turn_served turn served >>= λ end. Ends (behind sent end))

-- The replies alone determine the calls of a dialogue and how it ends.
abbrev pub Determined : Type 0
Determined = (dialogue : Dialogue Served) (one two : List Exchange) (end other : Served) → Runs dialogue one end → Runs dialogue two other
    → map (λ exchange. exchange.reply) one ≡ map (λ exchange. exchange.reply) two → (one ≡ two) × (end ≡ other)

-- A link stays that of its lane.
abbrev pub LaneStays : Type 0
LaneStays = (turns : List Turn) (served end : Served) (exchanges : List Exchange) → Runs (turns_served turns served) exchanges end → end.link.lane ≡ served.link.lane
