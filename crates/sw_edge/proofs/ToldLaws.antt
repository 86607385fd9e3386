-- What is left and what was sent, over several calls.
use Rattle.std.proofs.Common.{◌≡◌, ◌+◌, List, [], ◌++◌, length, take, Option, None, Some, refl, sym, ◌∙◌, ap, subst, arith, append_assoc, append-nil, length-append}
use Rattle.std.proofs.lemmas.List.{take-append-le}
use Rattle.std.proofs.Math.Seq.{take-append-add, take-length}
use Rattle.sw_edge.specs.Told.{Keeps, Consumes, Appends, AppendsPrefix, IsAtEnd}

pub Keeps-refl : {A : Type 0} (a : Option (List A)) → Keeps a a
Keeps-refl None = tt
Keeps-refl (Some x) = refl

pub Keeps-trans : {A : Type 0} (a b c : Option (List A)) → Keeps a b → Keeps b c → Keeps a c
Keeps-trans None b c p q = tt
Keeps-trans (Some x) None c p q = absurd p
Keeps-trans (Some x) (Some y) None p q = absurd q
Keeps-trans (Some x) (Some y) (Some z) p q = q ∙ p

-- nothing was taken
pub Consumes-nil : {A : Type 0} (a : Option (List A)) → Consumes a a []
Consumes-nil None = tt
Consumes-nil (Some x) = refl

pub Consumes-trans : {A : Type 0} (a b c : Option (List A)) (xs ys : List A) → Consumes a b xs → Consumes b c ys → Consumes a c (xs ++ ys)
Consumes-trans None b c xs ys p q = tt
Consumes-trans (Some x) None c xs ys p q = absurd p
Consumes-trans (Some x) (Some y) None xs ys p q = absurd q
Consumes-trans (Some x) (Some y) (Some z) xs ys p q = p ∙ ap (λ l. xs ++ l) q ∙ sym (append_assoc xs ys z)

pub Consumes-Keeps : {A : Type 0} (a b c : Option (List A)) (xs : List A) → Consumes a b xs → Keeps b c → Consumes a c xs
Consumes-Keeps None b c xs p q = tt
Consumes-Keeps (Some x) None c xs p q = absurd p
Consumes-Keeps (Some x) (Some y) None xs p q = absurd q
Consumes-Keeps (Some x) (Some y) (Some z) xs p q = p ∙ ap (λ l. xs ++ l) (sym q)

-- at the end all that was left has been taken
pub Consumes-all : {A : Type 0} (left : List A) (b : Option (List A)) (xs : List A) → Consumes (Some left) b xs → IsAtEnd b → xs ≡ left
Consumes-all left None xs p q = absurd p
Consumes-all left (Some y) xs p q = sym (p ∙ ap (λ l. xs ++ l) q ∙ append-nil xs)

-- nothing was sent
pub Appends-nil : {A : Type 0} (a : Option (List A)) → Appends a a []
Appends-nil None = tt
Appends-nil (Some x) = sym (append-nil x)

pub Appends-trans : {A : Type 0} (a b c : Option (List A)) (xs ys : List A) → Appends a b xs → Appends b c ys → Appends a c (xs ++ ys)
Appends-trans None b c xs ys p q = tt
Appends-trans (Some x) None c xs ys p q = absurd p
Appends-trans (Some x) (Some y) None xs ys p q = absurd q
Appends-trans (Some x) (Some y) (Some z) xs ys p q = q ∙ ap (λ l. l ++ ys) p ∙ append_assoc x xs ys

pub Keeps-Appends : {A : Type 0} (a b c : Option (List A)) (xs : List A) → Keeps a b → Appends b c xs → Appends a c xs
Keeps-Appends None b c xs p q = tt
Keeps-Appends (Some x) None c xs p q = absurd p
Keeps-Appends (Some x) (Some y) None xs p q = absurd q
Keeps-Appends (Some x) (Some y) (Some z) xs p q = q ∙ ap (λ l. l ++ xs) p

-- what was sent whole is a prefix
pub AppendsPrefix-all : {A : Type 0} (a b : Option (List A)) (xs : List A) → Appends a b xs → AppendsPrefix a b xs
AppendsPrefix-all a b xs p = (length xs, omega arith, subst (Appends a b) (sym (take-length xs)) p)

-- of two runs of items, all of the first and some first of the second
pub Appends-AppendsPrefix : {A : Type 0} (a b c : Option (List A)) (xs ys : List A) → Appends a b xs → AppendsPrefix b c ys → AppendsPrefix a c (xs ++ ys)
Appends-AppendsPrefix a b c xs ys p q = (
  length xs + q.0,
  omega (arith, q.1, length-append xs ys),
  subst (Appends a c) (sym (take-append-add xs ys q.0)) (Appends-trans a b c xs (take q.0 ys) p q.2),
)

-- some first items of one run are some first items of that run and another
pub AppendsPrefix-more : {A : Type 0} (a b : Option (List A)) (xs ys : List A) → AppendsPrefix a b xs → AppendsPrefix a b (xs ++ ys)
AppendsPrefix-more a b xs ys p = (p.0, omega (arith, p.1, length-append xs ys), subst (Appends a b) (sym (take-append-le p.0 xs ys p.1)) p.2)

-- what a loop over reads goes by
pub ruleset reading = (Consumes-nil, Consumes-trans, Consumes-Keeps)

-- what a run of writes goes by
pub ruleset writing = (Appends-nil, Appends-trans, AppendsPrefix-all, Appends-AppendsPrefix)
