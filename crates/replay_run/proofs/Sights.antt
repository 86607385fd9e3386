-- The calls of a lane, each beside its state.
use Rattle.std.proofs.Common.{◌≡◌, ℕ, Bool, true, false, cond, eqb, ◌==◌, List, [], ◌∷◌, map, refl, ap, sym, ◌∙◌, arith}
use Rattle.std.specs.List.{AllByRecursion, filter}
use Rattle.std.proofs.lemmas.Bool.Decides.{nat_tests}
use Rattle.ctl_lock.proofs.Meeting.{signed_lane}
use Rattle.ctl_lock.specs.Calls.{journal_of, made_of}
use Rattle.ctl_lock.specs.Locked.{SeeAll}
use Rattle.ctl_lock.specs.declared.signed.Signed.{Signed}
use Rattle.lane_table.specs.Lanes.{of_lane}
use Rattle.plane_spec.proofs.Lists.{All-filter}
use Rattle.plane_spec.specs.Planes.{ControlState, applied}
use Rattle.run_counts.specs.Reading.{Moment, moments, moments_on}
use Rattle.replay_run.proofs.Turns.{HasSeenAll, Sighted, as_moment}
use Rattle.switch_spec.specs.Carrying.{made_on}
use Rattle.switch_spec.specs.History.{Made, own_events}

-- the calls of a journal, each beside its state
abbrev pub sighted_in : ControlState → List Signed → List Sighted
sighted_in c [] = []
sighted_in c (signed ∷ later) = (record { control = c; signed = signed }) ∷ sighted_in (applied c (own_events c (made_of signed))) later

-- those of one lane
abbrev pub sighted_on : ℕ → ControlState → List Signed → List Sighted
sighted_on lane c list = filter (λ s. lane == s.signed.entry.lane) (sighted_in c list)

-- ---- Lists

push_in : {X Y : Type 0} (f : X → Y) (b : Bool) (x : X) (xs : List X) → cond b (f x ∷ map f xs) (map f xs) ≡ map f (cond b (x ∷ xs) xs)
push_in f true x xs = refl
push_in f false x xs = refl

filter_of_map : {X Y : Type 0} (p : Y → Bool) (f : X → Y) (xs : List X) → filter p (map f xs) ≡ map f (filter (λ x. p (f x)) xs)
filter_of_map p f [] = refl
filter_of_map p f (x ∷ xs) = ap (λ ys. cond (p (f x)) (f x ∷ ys) ys) (filter_of_map p f xs) ∙ push_in f (p (f x)) x (filter (λ y. p (f y)) xs)

nothing_of : {X Y : Type 0} (f : X → Y) (xs : List X) → map f xs ≡ [] → xs ≡ []
nothing_of f [] is = refl
nothing_of f (x ∷ xs) is = absurd (cc)

-- ---- The calls are the journal's

all_moments : (c : ControlState) (list : List Signed) → moments c (journal_of list) ≡ map as_moment (sighted_in c list)
all_moments c [] = refl
all_moments c (signed ∷ later) = λ k. (record { control = c; made = made_of signed }) ∷ all_moments (applied c (own_events c (made_of signed))) later k

pub lane_moments : (lane : ℕ) (c : ControlState) (list : List Signed) → moments_on lane c (journal_of list) ≡ map as_moment (sighted_on lane c list)
lane_moments lane c list =
    ap (filter (λ (m : Moment). lane == m.made.entry.lane)) (all_moments c list) ∙ filter_of_map (λ (m : Moment). lane == m.made.entry.lane) as_moment (sighted_in c list)

all_signed : (c : ControlState) (list : List Signed) → map (λ s. s.signed) (sighted_in c list) ≡ list
all_signed c [] = refl
all_signed c (signed ∷ later) = λ k. signed ∷ all_signed (applied c (own_events c (made_of signed))) later k

either_way : (m n : ℕ) → eqb m n ≡ eqb n m
either_way m n = grind (arith, nat_tests)

either_lane : (lane : ℕ) (list : List Signed) → filter (λ (s : Signed). lane == s.entry.lane) list ≡ of_lane signed_lane lane list
either_lane lane [] = refl
either_lane lane (signed ∷ list) =
    ap (λ (l : List Signed). cond (lane == signed.entry.lane) (signed ∷ l) l) (either_lane lane list)
    ∙ ap (λ (b : Bool). cond b (signed ∷ of_lane signed_lane lane list) (of_lane signed_lane lane list)) (either_way lane signed.entry.lane)

pub lane_signed : (lane : ℕ) (c : ControlState) (list : List Signed) → map (λ s. s.signed) (sighted_on lane c list) ≡ of_lane signed_lane lane list
lane_signed lane c list =
    sym (filter_of_map (λ (s : Signed). lane == s.entry.lane) (λ (s : Sighted). s.signed) (sighted_in c list))
    ∙ ap (filter (λ (s : Signed). lane == s.entry.lane)) (all_signed c list)
    ∙ either_lane lane list

all_seen : (c : ControlState) (list : List Signed) → SeeAll c list → AllByRecursion HasSeenAll (sighted_in c list)
all_seen c [] seen = tt
all_seen c (signed ∷ later) seen = (seen.0, all_seen (applied c (own_events c (made_of signed))) later seen.1)

pub lane_seen : (lane : ℕ) (c : ControlState) (list : List Signed) → SeeAll c list → AllByRecursion HasSeenAll (sighted_on lane c list)
lane_seen lane c list seen = All-filter HasSeenAll (λ s. lane == s.signed.entry.lane) (sighted_in c list) (all_seen c list seen)

-- ---- A lane without a call

all_made : (c : ControlState) (journal : List Made) → map (λ (m : Moment). m.made) (moments c journal) ≡ journal
all_made c [] = refl
all_made c (made ∷ later) = λ k. made ∷ all_made (applied c (own_events c made)) later k

pub no_moments : (lane : ℕ) (c : ControlState) (journal : List Made) → made_on lane journal ≡ [] → moments_on lane c journal ≡ []
no_moments lane c journal none =
    nothing_of (λ (m : Moment). m.made) (moments_on lane c journal)
    (sym (filter_of_map (λ (made : Made). lane == made.entry.lane) (λ (m : Moment). m.made) (moments c journal))
    ∙ ap (filter (λ (made : Made). lane == made.entry.lane)) (all_made c journal)
    ∙ none)
