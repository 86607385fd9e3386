-- Dialogues with a desk: calls are made one after another, and what comes next hangs on each reply.
use Rattle.std.specs.Prelude.{◌≡◌, Bool, true, false, List, [], ◌∷◌, Result, Ok, Err}
use Rattle.list_types.specs.declared.memory.NoMemory.{NoMemory}
use Rattle.p4_types.specs.declared.calls.Call.{Call}
use Rattle.p4_types.specs.declared.calls.Call.TheVariants as calls_of
use Rattle.p4_types.specs.declared.calls.Reply.{Reply}

-- what is done to its end, or up to a call and on from its reply
pub data Dialogue (X : Type 0) : Type 0 where
  Ends : X → Dialogue X
  Asks : Call → (Reply → Dialogue X) → Dialogue X

infixl 10 ◌>>=◌
-- one dialogue, and from its end on another
abbrev pub ◌>>=◌ : {X Y : Type 0} → Dialogue X → (X → Dialogue Y) → Dialogue Y
Ends x >>= next = next x
Asks call by >>= next = Asks call (λ reply. by reply >>= next)

-- the same for each of a list, one after another
abbrev pub each : {A S : Type 0} → (A → S → Dialogue S) → List A → S → Dialogue S
each act [] s = Ends s
each act (x ∷ xs) s = act x s >>= each act xs

-- a call that was made, and its reply
pub record Exchange : Type 0 where
  pub call : Call
  pub reply : Reply

-- The dialogue is held to its end by just these exchanges, and ends so.
abbrev pub Runs : {X : Type 0} → Dialogue X → List Exchange → X → Type 0
Runs (Ends x) [] end = end ≡ x
Runs (Ends x) (exchange ∷ rest) end = ⊥
Runs (Asks call by) [] end = ⊥
Runs (Asks call by) (exchange ∷ rest) end = (exchange.call ≡ call) × Runs (by exchange.reply) rest end

-- The dialogue begins with these exchanges.
abbrev pub Begins : {X : Type 0} → Dialogue X → List Exchange → Type 0
Begins dialogue [] = Unit {0}
Begins (Ends x) (exchange ∷ rest) = ⊥
Begins (Asks call by) (exchange ∷ rest) = (exchange.call ≡ call) × Begins (by exchange.reply) rest

-- A pass goes from one state to another by these exchanges, of which each may change it so.
abbrev pub Passes : {P : Type 0} → (P → Call → Reply → P → Type 0) → P → List Exchange → P → Type 0
Passes answers old [] new = new ≡ old
Passes answers old (exchange ∷ rest) new = (between : _) × answers old exchange.call exchange.reply between × Passes answers between rest new

-- the dialogue was held with a pass, and ended so
pub record Held {P X : Type 0} (answers : P → Call → Reply → P → Type 0) (old new : P) (dialogue : Dialogue X) (end : X) : Type 0 where
  pub exchanges : List Exchange
  pub passes : Passes answers old exchanges new
  pub runs : Runs dialogue exchanges end

-- the dialogue was begun with a pass
pub record Begun {P X : Type 0} (answers : P → Call → Reply → P → Type 0) (old new : P) (dialogue : Dialogue X) : Type 0 where
  pub exchanges : List Exchange
  pub passes : Passes answers old exchanges new
  pub begins : Begins dialogue exchanges

-- The dialogue was held to its end, or, for want of memory, begun.
abbrev pub Holds : {P X A : Type 0} → (P → Call → Reply → P → Type 0) → P → P → Result A NoMemory → Dialogue X → X → Type 0
Holds answers old new (Ok a) dialogue end = Held answers old new dialogue end
Holds answers old new (Err e) dialogue end = Begun answers old new dialogue

-- Whether the controller is still to leave behind a call: a message of its channel makes it so, a Leave ends it, and others leave it as it was.
abbrev pub leaves_behind : Call → Bool → Bool
leaves_behind calls_of.Leave before = false
leaves_behind (calls_of.Stream message) before = true
leaves_behind call before = before

-- how a call and its reply change a pass, and whether the controller is still to leave
abbrev pub noting : {P : Type 0} → (P → Call → Reply → P → Type 0) → P × Bool → Call → Reply → P × Bool → Type 0
noting answers old call reply new = answers old.0 call reply new.0 × (new.1 ≡ leaves_behind call old.1)

-- The same dialogue, in which that is noted.
abbrev pub Notes : {P X A : Type 0} → (P → Call → Reply → P → Type 0) → P → P → Bool → Bool → Result A NoMemory → Dialogue X → X → Type 0
Notes answers old new before after result dialogue end = Holds (noting answers) (old, before) (new, after) result dialogue end
