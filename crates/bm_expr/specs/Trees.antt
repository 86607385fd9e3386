-- Expressions as plain data.
use Rattle.std.specs.Prelude.{ℕ, suc, max, Bool}
use Rattle.bm_expr.specs.declared.store.FieldPlace.{FieldPlace}

mutual
  -- An expression whose value is a number: a field, a literal, the action's datum with an index, an operation on numbers, a
  -- choice by a condition, or a truth value as 1 or 0.
  pub data Number : Type 0 where
    Field : FieldPlace → Number
    Literal : ℕ → Number
    Datum : ℕ → Number
    Add : Number → Number → Number
    Subtract : Number → Number → Number
    Multiply : Number → Number → Number
    ShiftLeft : Number → Number → Number
    ShiftRight : Number → Number → Number
    BitAnd : Number → Number → Number
    BitOr : Number → Number → Number
    BitXor : Number → Number → Number
    BitNot : Number → Number
    Choose : Truth → Number → Number → Number
    OfTruth : Truth → Number

  -- An expression whose value is a truth value: a constant, a comparison of numbers, an operation on truth values, a choice by
  -- a condition, whether the header with an index is valid, or whether a number is not 0.
  pub data Truth : Type 0 where
    Constant : Bool → Truth
    Equal : Number → Number → Truth
    NotEqual : Number → Number → Truth
    Less : Number → Number → Truth
    LessOrEqual : Number → Number → Truth
    Greater : Number → Number → Truth
    GreaterOrEqual : Number → Number → Truth
    And : Truth → Truth → Truth
    Or : Truth → Truth → Truth
    Not : Truth → Truth
    Select : Truth → Truth → Truth → Truth
    IsValid : ℕ → Truth
    OfNumber : Number → Truth

-- How many operations stand within one another.
abbrev mutual
  -- so many in an expression that is a number
  pub number_height : Number → ℕ
  number_height (Field place) = 0
  number_height (Literal n) = 0
  number_height (Datum i) = 0
  number_height (Add x y) = suc (max (number_height x) (number_height y))
  number_height (Subtract x y) = suc (max (number_height x) (number_height y))
  number_height (Multiply x y) = suc (max (number_height x) (number_height y))
  number_height (ShiftLeft x y) = suc (max (number_height x) (number_height y))
  number_height (ShiftRight x y) = suc (max (number_height x) (number_height y))
  number_height (BitAnd x y) = suc (max (number_height x) (number_height y))
  number_height (BitOr x y) = suc (max (number_height x) (number_height y))
  number_height (BitXor x y) = suc (max (number_height x) (number_height y))
  number_height (BitNot x) = suc (number_height x)
  number_height (Choose c x y) = suc (max (truth_height c) (max (number_height x) (number_height y)))
  number_height (OfTruth t) = suc (truth_height t)

  -- so many in one that is a truth value
  pub truth_height : Truth → ℕ
  truth_height (Constant b) = 0
  truth_height (Equal x y) = suc (max (number_height x) (number_height y))
  truth_height (NotEqual x y) = suc (max (number_height x) (number_height y))
  truth_height (Less x y) = suc (max (number_height x) (number_height y))
  truth_height (LessOrEqual x y) = suc (max (number_height x) (number_height y))
  truth_height (Greater x y) = suc (max (number_height x) (number_height y))
  truth_height (GreaterOrEqual x y) = suc (max (number_height x) (number_height y))
  truth_height (And s t) = suc (max (truth_height s) (truth_height t))
  truth_height (Or s t) = suc (max (truth_height s) (truth_height t))
  truth_height (Not t) = suc (truth_height t)
  truth_height (Select c s t) = suc (max (truth_height c) (max (truth_height s) (truth_height t)))
  truth_height (IsValid header) = 0
  truth_height (OfNumber x) = suc (number_height x)
