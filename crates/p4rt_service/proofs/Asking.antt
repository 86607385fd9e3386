-- What is asked of a desk.
use Rattle.std.proofs.Common.{◌≡◌, ℕ, Bool, true, false, List, [], ◌∷◌, ◌++◌, Result, Ok, Err, refl, sym, ap, ◌∙◌, append_assoc}
use Rattle.std.specs.Prelude.{◌&&◌, not, OnOk, IsErr}
use Rattle.list_types.specs.declared.memory.NoMemory.{NoMemory}
use Rattle.p4_types.specs.declared.calls.Call.{Call}
use Rattle.p4_types.specs.declared.calls.Call.TheVariants as calls_of
use Rattle.p4_types.specs.declared.calls.Method.{Method}
use Rattle.p4_types.specs.declared.calls.Reply.{Reply}
use Rattle.grpc_streams.specs.declared.event.GrpcEvent.TheVariants as events
use Rattle.grpc_streams.specs.declared.event.GrpcRefusal.{GrpcRefusal}
use Rattle.grpc_streams.specs.Spelling.{refusal_spelled, end_spelled}
use Rattle.p4v1_read.specs.Calls.{call_of}
use Rattle.p4rt_service.specs.declared.link.Link.{Link}
use Rattle.p4rt_service.specs.Dialogues.{Dialogue, Ends, ◌>>=◌, each, Held, Begun, Holds}
use Rattle.p4rt_service.specs.Serving.{spelled, replied, is_open, left_where, asked, is_late, event_served}
use Rattle.p4rt_service.proofs.Holding.{ended, once, asked_held, asked_begun, held_then, begun_then, begun_behind, each_behind}

module _ {P : Type 0} (answers : P → Call → Reply → P → Type 0) where
  pub left : {old new : P} (was_open gone : Bool) (link : Link) (reply : Reply) → gone ≡ (was_open && not (is_open link)) → gone ≡ true → answers old calls_of.Leave reply new → Held answers old new (left_where was_open link) link
  left {old} {new} was_open gone link reply eg e answered =
      let gone_is : (was_open && not (is_open link)) ≡ true = sym eg ∙ e in
      rw gone_is (once answers old new calls_of.Leave reply (λ reply. Ends link) link answered refl)

  pub stayed : {old new : P} (was_open gone : Bool) (link : Link) → gone ≡ (was_open && not (is_open link)) → gone ≡ false → new ≡ old → Held answers old new (left_where was_open link) link
  stayed {old} {new} was_open gone link eg e same =
      let gone_is : (was_open && not (is_open link)) ≡ false = sym eg ∙ e in
      rw gone_is (ended answers old new link link same refl)

  -- want of memory, where the dialogue is begun
  pub halted : {X A : Type 0} {old new : P} (r : Result A NoMemory) (dialogue : Dialogue X) (end : X) → IsErr r → Begun answers old new dialogue → Holds answers old new r dialogue end
  halted (Ok x) dialogue end e b = absurd cc
  halted (Err x) dialogue end e b = b

  -- a call that is answered
  pub answered_to : {old between new : P} (call : Call) (reply : Reply) (stream : ℕ) (was_open : Bool) (link after : Link) → was_open ≡ is_open link → answers old call reply between → after ≡ replied stream reply link
      → Held answers between new (left_where was_open after) after → Held answers old new (asked stream call link) after
  answered_to {old} {between} {new} call reply stream was_open link after ew a ea h =
      rw ea (asked_held answers old between new call reply (λ r. left_where (is_open link) (replied stream r link)) (replied stream reply link) a (rw (ew, ea) at h))

  -- a message of a channel that is not open any more
  pub late : {old new : P} (stream : ℕ) (method : Method) (bytes : List ℕ) (link : Link) (is : Bool) → is ≡ is_late stream method link → is ≡ true → new ≡ old
      → Held answers old new (event_served (events.Message stream method bytes) link) link
  unfolding event_served
  late {old} {new} stream method bytes link is ei e same =
      let late_is : is_late stream method link ≡ true = sym ei ∙ e in
      rw late_is (ended answers old new link link same refl)

  -- another message makes the call that its bytes are
  pub called : (old new : P) (r : Result Unit NoMemory) (stream : ℕ) (method : Method) (bytes : List ℕ) (call : Call) (link after : Link) (is : Bool) → is ≡ is_late stream method link → is ≡ false → call ≡ call_of method bytes
      → Holds answers old new r (asked stream call link) after → Holds answers old new r (event_served (events.Message stream method bytes) link) after
  unfolding event_served
  called old new r stream method bytes call link after is ei e ec h =
      let late_is : is_late stream method link ≡ false = sym ei ∙ e in
      rw late_is (rw ec at h)

  -- the client has ended the channel
  pub closed : (old new : P) (r : Result Unit NoMemory) (stream : ℕ) (reply : Reply) (link after : Link) → answers old calls_of.Leave reply new → OnOk r (after ≡ spelled (end_spelled stream) link)
      → Holds answers old new r (event_served (events.Closed stream) link) after
  unfolding event_served
  closed old new (Ok x) stream reply link after a e = once answers old new calls_of.Leave reply (λ reply. Ends (spelled (end_spelled stream) link)) after a e
  closed old new (Err e) stream reply link after a f = asked_begun answers old new calls_of.Leave reply (λ reply. Ends (spelled (end_spelled stream) link)) a

  -- a refusal
  pub refused : {old new : P} (stream : ℕ) (refusal : GrpcRefusal) (was_open : Bool) (link after : Link) → was_open ≡ is_open link → after ≡ spelled (refusal_spelled stream refusal) link
      → Held answers old new (left_where was_open after) after → Held answers old new (event_served (events.Refused stream refusal) link) after
  unfolding event_served
  refused stream refusal was_open link after ew ea h = rw ea (rw (ew, ea) at h)

  -- ---- each of a list

  -- one more of a list
  pub one_more : {A S : Type 0} {old between new : P} (act : A → S → Dialogue S) (xs : List A) (x : A) (s t u : S) → Held answers old between (each act xs s) t → Held answers between new (act x t) u
      → Held answers old new (each act (xs ++ x ∷ []) s) u
  one_more {A} {S} {old} {between} {new} act xs x s t u h k =
      let last : Held answers between new (each act (x ∷ []) t) u = held_then answers between new new (act x t) (each act []) u u k (ended answers new new u u refl refl) in
      let both : Held answers old new (each act xs s >>= each act (x ∷ [])) u = held_then answers old between new (each act xs s) (each act (x ∷ [])) t u h last in
      rw (each_behind act xs (x ∷ []) s) both

  -- the last that was begun, with any behind it
  pub one_begun : {A S : Type 0} {old between new : P} (act : A → S → Dialogue S) (xs ys : List A) (x : A) (s t : S) → Held answers old between (each act xs s) t → Begun answers between new (act x t)
      → Begun answers old new (each act (xs ++ x ∷ ys) s)
  one_begun {A} {S} {old} {between} {new} act xs ys x s t h b =
      let last : Begun answers between new (each act (x ∷ ys) t) = begun_then answers between new (act x t) (each act ys) b in
      let both : Begun answers old new (each act xs s >>= each act (x ∷ ys)) = begun_behind answers old between new (each act xs s) (each act (x ∷ ys)) t h last in
      rw (each_behind act xs (x ∷ ys) s) both

-- one more of a list was taken
pub next_taken : {A : Type 0} (taken rest more whole : List A) (x : A) → taken ++ rest ≡ whole → rest ≡ x ∷ more → (taken ++ x ∷ []) ++ more ≡ whole
next_taken taken rest more whole x e r = append_assoc taken (x ∷ []) more ∙ ap (λ l. taken ++ l) (sym r) ∙ e

pub next_is : {A : Type 0} (taken rest more whole : List A) (x : A) → taken ++ rest ≡ whole → rest ≡ x ∷ more → whole ≡ taken ++ x ∷ more
next_is taken rest more whole x e r = sym e ∙ ap (λ l. taken ++ l) r
