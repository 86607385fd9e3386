-- Dialogues that are held, one behind another.
use Rattle.std.proofs.Common.{◌≡◌, List, [], ◌∷◌, ◌++◌, refl, sym, ap, ◌∙◌}
use Rattle.std.proofs.Math.Path.{fun_ext}
use Rattle.p4_types.specs.declared.calls.Call.{Call}
use Rattle.p4_types.specs.declared.calls.Reply.{Reply}
use Rattle.p4rt_service.specs.Dialogues.{Dialogue, Ends, Asks, ◌>>=◌, each, Exchange, Runs, Begins, Passes, Held, Begun}

runs_then : {X Y : Type 0} (one : Dialogue X) (two : X → Dialogue Y) (first second : List Exchange) (x : X) (y : Y) → Runs one first x → Runs (two x) second y → Runs (one >>= two) (first ++ second) y
runs_then (Ends a) two [] second x y e r = rw e at r
runs_then (Ends a) two (exchange ∷ first) second x y e r = absurd e
runs_then (Asks call by) two [] second x y e r = absurd e
runs_then (Asks call by) two (exchange ∷ first) second x y e r = (e.0, runs_then (by exchange.reply) two first second x y e.1 r)

begins_then : {X Y : Type 0} (one : Dialogue X) (two : X → Dialogue Y) (first : List Exchange) → Begins one first → Begins (one >>= two) first
begins_then one two [] b = tt
begins_then (Ends a) two (exchange ∷ first) b = absurd b
begins_then (Asks call by) two (exchange ∷ first) b = (b.0, begins_then (by exchange.reply) two first b.1)

begins_behind : {X Y : Type 0} (one : Dialogue X) (two : X → Dialogue Y) (first second : List Exchange) (x : X) → Runs one first x → Begins (two x) second → Begins (one >>= two) (first ++ second)
begins_behind (Ends a) two [] second x e b = rw e at b
begins_behind (Ends a) two (exchange ∷ first) second x e b = absurd e
begins_behind (Asks call by) two [] second x e b = absurd e
begins_behind (Asks call by) two (exchange ∷ first) second x e b = (e.0, begins_behind (by exchange.reply) two first second x e.1 b)

pub begins_whole : {X : Type 0} (dialogue : Dialogue X) (exchanges : List Exchange) (end : X) → Runs dialogue exchanges end → Begins dialogue exchanges
begins_whole dialogue [] end r = tt
begins_whole (Ends x) (exchange ∷ rest) end r = absurd r
begins_whole (Asks call by) (exchange ∷ rest) end r = (r.0, begins_whole (by exchange.reply) rest end r.1)

pub associative : {X Y Z : Type 0} (one : Dialogue X) (two : X → Dialogue Y) (three : Y → Dialogue Z) → ((one >>= two) >>= three) ≡ (one >>= (λ x. two x >>= three))
associative (Ends a) two three = refl
associative (Asks call by) two three = ap (λ f. Asks call f) (fun_ext (λ reply. associative (by reply) two three))

-- one list behind another
pub each_behind : {A S : Type 0} (act : A → S → Dialogue S) (xs ys : List A) (s : S) → each act (xs ++ ys) s ≡ (each act xs s >>= each act ys)
each_behind act [] ys s = refl
each_behind act (x ∷ xs) ys s = ap (λ f. act x s >>= f) (fun_ext (λ t. each_behind act xs ys t)) ∙ sym (associative (act x s) (each act xs) (each act ys))

module _ {P : Type 0} (answers : P → Call → Reply → P → Type 0) where
  passes_then : (first second : List Exchange) (old between new : P) → Passes answers old first between → Passes answers between second new → Passes answers old (first ++ second) new
  passes_then [] second old between new e p = rw e at p
  passes_then (exchange ∷ first) second old between new q p = (q.0, q.1, passes_then first second q.0 between new q.2 p)

  -- nothing is asked
  pub ended : {X : Type 0} (old new : P) (x y : X) → new ≡ old → y ≡ x → Held answers old new (Ends x) y
  ended old new x y ep ex = record { exchanges = []; passes = ep; runs = ex }

  -- one call
  pub once : {X : Type 0} (old new : P) (call : Call) (reply : Reply) (by : Reply → Dialogue X) (end : X) → answers old call reply new → Runs (by reply) [] end → Held answers old new (Asks call by) end
  once old new call reply by end answered run = record { exchanges = record { call = call; reply = reply } ∷ []; passes = (new, answered, refl); runs = (refl, run) }

  -- a call, and what hangs on its reply
  pub asked_held : {X : Type 0} (old between new : P) (call : Call) (reply : Reply) (by : Reply → Dialogue X) (end : X) → answers old call reply between → Held answers between new (by reply) end → Held answers old new (Asks call by) end
  asked_held old between new call reply by end answered h = record {
    exchanges = record { call = call; reply = reply } ∷ h.exchanges;
    passes = (between, answered, h.passes);
    runs = (refl, h.runs);
  }

  -- a call, where what hangs on its reply is not done
  pub asked_begun : {X : Type 0} (old new : P) (call : Call) (reply : Reply) (by : Reply → Dialogue X) → answers old call reply new → Begun answers old new (Asks call by)
  asked_begun old new call reply by answered = record { exchanges = record { call = call; reply = reply } ∷ []; passes = (new, answered, refl); begins = (refl, tt) }

  pub held_then : {X Y : Type 0} (old between new : P) (one : Dialogue X) (two : X → Dialogue Y) (x : X) (y : Y) → Held answers old between one x → Held answers between new (two x) y → Held answers old new (one >>= two) y
  held_then old between new one two x y h k = record {
    exchanges = h.exchanges ++ k.exchanges;
    passes = passes_then h.exchanges k.exchanges old between new h.passes k.passes;
    runs = runs_then one two h.exchanges k.exchanges x y h.runs k.runs;
  }

  pub begun_then : {X Y : Type 0} (old new : P) (one : Dialogue X) (two : X → Dialogue Y) → Begun answers old new one → Begun answers old new (one >>= two)
  begun_then old new one two b = record { exchanges = b.exchanges; passes = b.passes; begins = begins_then one two b.exchanges b.begins }

  pub begun_behind : {X Y : Type 0} (old between new : P) (one : Dialogue X) (two : X → Dialogue Y) (x : X) → Held answers old between one x → Begun answers between new (two x) → Begun answers old new (one >>= two)
  begun_behind old between new one two x h b = record {
    exchanges = h.exchanges ++ b.exchanges;
    passes = passes_then h.exchanges b.exchanges old between new h.passes b.passes;
    begins = begins_behind one two h.exchanges b.exchanges x h.runs b.begins;
  }

  -- nothing was asked yet
  pub unbegun : {X : Type 0} (old new : P) (dialogue : Dialogue X) → new ≡ old → Begun answers old new dialogue
  unbegun old new dialogue e = record { exchanges = []; passes = e; begins = tt }
