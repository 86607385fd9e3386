-- The control of the switch with its counts, and what a call makes of it.
use Rattle.std.specs.Prelude.{◌≡◌, ℕ, ◌+◌, ◌-◌, ◌^◌, min, Bool, true, false, List, [], ◌++◌, length, None}
use Rattle.p4_types.specs.declared.calls.Reply.{Reply}
use Rattle.p4_types.specs.declared.code.Code.TheVariants as codes
use Rattle.plane_image.specs.Image.{ImageVersions}
use Rattle.plane_spec.specs.Config.{Event}
use Rattle.plane_spec.specs.Planes.{ControlState, applied}
use Rattle.switch_spec.specs.Answer.{Answer}
use Rattle.switch_spec.specs.History.{is_unavailable}

-- the control state, with how many steps and calls there were
pub record Core : Type 0 where
  pub control : ControlState
  -- how many steps there were
  pub steps : ℕ
  -- how many calls each caller has made
  pub calls : List ℕ

-- nothing can be undone, and the list of events goes on
pub record IsSettled (i : ImageVersions) : Type 0 where
  pub settled : i.before ≡ i.now
  pub alive : i.now.closed ≡ false

-- a count with so many more, which stands still at 2^64 - 1
abbrev pub raised : ℕ → ℕ → ℕ
raised count more = min (count + more) (2 ^ 64 - 1)

-- the reply of an answer after n steps; each event of an answer is a step
abbrev pub replied : ℕ → Answer → Reply
replied n a = record { code = a.code; messages = a.messages; notices = a.notices; steps = raised n (length a.events); packet = a.packet }

-- the reply of a call for which there was no memory
abbrev pub without_memory : ℕ → Reply
without_memory n = record { code = codes.Unavailable; messages = []; notices = []; steps = n; packet = None }

-- the call is answered, and its events took effect and were handed on
pub record IsAnswered (old : ControlState) (steps : ℕ) (given : List Event) (a : Answer) (reply : Reply) (new : ControlState) (now : List Event) : Type 0 where
  pub reply_is : reply ≡ replied steps a
  pub control : new ≡ applied old a.events
  pub handed : now ≡ given ++ a.events

-- there was no memory for the call: the state is as it was
pub record IsRefused (old : ControlState) (steps : ℕ) (given : List Event) (reply : Reply) (new : ControlState) (now : List Event) : Type 0 where
  pub reply_is : reply ≡ without_memory steps
  pub control : new ≡ old
  pub handed : now ≡ given

-- by whether there was no memory
abbrev pub HandledBy : Bool → ControlState → ℕ → List Event → Answer → Reply → ControlState → List Event → Type 0
HandledBy true old steps given a reply new now = IsRefused old steps given reply new now
HandledBy false old steps given a reply new now = IsAnswered old steps given a reply new now

-- what a call makes of the state and of the events that were handed on, beside its reply
abbrev pub Handled : ControlState → ℕ → List Event → Answer → Reply → ControlState → List Event → Type 0
Handled old steps given a reply new now = HandledBy (is_unavailable reply.code) old steps given a reply new now
