-- Std's readers and writers in the words of this crate.
use Rattle.std.proofs.Common.{◌≡◌, ℕ, ◌+◌, ◌-◌, ◌≤◌, List, [], length, take, drop, Option, None, Some, Result, Ok, Err, sym, ◌∙◌, ap, subst, arith, append-nil, length-drop}
use Rattle.std.specs.Io.KnownBytes as known
use Rattle.std.proofs.KnownBytes as laws
use Rattle.std.proofs.lemmas.List.{take_all}
use Rattle.std.proofs.Math.Seq.{take-add, take-length}
use Rattle.sw_edge.specs.Told.{Keeps, Consumes, Appends, AppendsPrefix, Ends}

Keeps-Consumes : (a b c : Option (List ℕ)) (xs : List ℕ) → known.Keeps a b → known.Consumes b c xs → known.Consumes a c xs
Keeps-Consumes None b c xs p q = tt
Keeps-Consumes (Some x) None c xs p q = absurd p
Keeps-Consumes (Some x) (Some y) None xs p q = absurd q
Keeps-Consumes (Some x) (Some y) (Some z) xs p q = sym p ∙ q

pub Appends-Keeps : (a b c : Option (List ℕ)) (xs : List ℕ) → known.Appends a b xs → known.Keeps b c → known.Appends a c xs
Appends-Keeps None b c xs p q = tt
Appends-Keeps (Some x) None c xs p q = absurd p
Appends-Keeps (Some x) (Some y) None xs p q = absurd q
Appends-Keeps (Some x) (Some y) (Some z) xs p q = q ∙ p

nil-Keeps : (a b : Option (List ℕ)) → known.Appends a b [] → known.Keeps a b
nil-Keeps None b p = tt
nil-Keeps (Some x) None p = absurd p
nil-Keeps (Some x) (Some y) p = p ∙ append-nil x

-- a read after some that took nothing
pub read_after : {E : Type 0} (a b c : Option (List ℕ)) (r : Result ℕ E) (buf : List ℕ) → known.Keeps a b → known.ReadConsumes b c r buf → known.ReadConsumes a c r buf
read_after a b c (Ok n) buf p q = (Keeps-Consumes a b c (take n buf) p q.0, q.1)
read_after a b c (Err e) buf p q = laws.Keeps-trans a b c p q

-- a write of some of the bytes that were not written yet
pub written_more : (a b c : Option (List ℕ)) (bytes : List ℕ) (done n : ℕ) → known.Appends a b (take done bytes)
    → known.Appends b c (take n (take (length bytes - done) (drop done bytes))) → known.Appends a c (take (done + n) bytes)
written_more a b c bytes done n p q =
    let whole : take (length bytes - done) (drop done bytes) ≡ drop done bytes = take_all _ _ (omega (arith, length-drop done bytes)) in
    let next : known.Appends b c (take n (drop done bytes)) = subst (λ rest. known.Appends b c (take n rest)) whole q in
    subst (known.Appends a c) (sym (take-add done n bytes)) (laws.Appends-trans a b c (take done bytes) (take n (drop done bytes)) p next)

-- a write of none
pub written_none : (a b c : Option (List ℕ)) (xs : List ℕ) → known.Appends a b xs → known.Appends b c [] → known.Appends a c xs
written_none a b c xs p q = Appends-Keeps a b c xs p (nil-Keeps b c q)

pub ruleset tries = (laws.Keeps-refl, laws.Keeps-trans, read_after, laws.Appends-nil, written_more, written_none, Appends-Keeps)

pub keeps : (a b : Option (List ℕ)) → known.Keeps a b → Keeps a b
keeps None b h = tt
keeps (Some x) None h = absurd h
keeps (Some x) (Some y) h = h

pub consumes : (a b : Option (List ℕ)) (xs : List ℕ) → known.Consumes a b xs → Consumes a b xs
consumes None b xs h = tt
consumes (Some x) None xs h = absurd h
consumes (Some x) (Some y) xs h = h

-- a read of none that met the end
pub ends : (a b : Option (List ℕ)) → known.Consumes a b [] → known.IsAtEnd b → Ends a b
ends None None p q = (tt, tt, tt)
ends None (Some y) p q = (tt, q, tt)
ends (Some x) None p q = absurd p
ends (Some x) (Some y) p q = (p ∙ q, q, sym p)

appends : (a b : Option (List ℕ)) (xs : List ℕ) → known.Appends a b xs → Appends a b xs
appends None b xs h = tt
appends (Some x) None xs h = absurd h
appends (Some x) (Some y) xs h = h

-- some first bytes were written, and then a flush was tried
pub sends_some : (a b c : Option (List ℕ)) (bytes : List ℕ) (done : ℕ) → done ≤ length bytes → known.Appends a b (take done bytes) → known.Keeps b c → AppendsPrefix a c bytes
sends_some a b c bytes done le p q = (done, le, appends a c (take done bytes) (Appends-Keeps a b c (take done bytes) p q))

-- all bytes were written
pub sends_all : (a b c : Option (List ℕ)) (bytes : List ℕ) (done : ℕ) → done ≡ length bytes → known.Appends a b (take done bytes) → known.Keeps b c → Appends a c bytes
sends_all a b c bytes done is p q =
    let whole : take done bytes ≡ bytes = ap (λ n. take n bytes) is ∙ take-length bytes in
    subst (Appends a c) whole (appends a c (take done bytes) (Appends-Keeps a b c (take done bytes) p q))

pub ruleset streams = (keeps, consumes, ends, sends_some, sends_all)
