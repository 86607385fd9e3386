-- Expressions that are known and typed are linked to numbers and truth values that name what there is.
use Rattle.std.proofs.Common.{◌≡◌, ℕ, ◌<◌, Bool, true, false, cond, ◌&&◌, ◌||◌, List, refl, arith, lit<}
use Rattle.std.proofs.lemmas.Bool.{and_parts, and_from, or_left, or_right, ltb-true}
use Rattle.bm_expr.specs.declared.fitting.Counts.{Counts}
use Rattle.bm_expr.specs.declared.store.FieldPlace.{FieldPlace}
use Rattle.bm_expr.specs.Trees.{Number, Truth}
use Rattle.bm_expr.specs.Trees as to
use Rattle.bm_expr.specs.Fits.{NumberFits, TruthFits}
use Rattle.bm_expr.specs.Settled as linked
use Rattle.bm_pipeline.specs.declared.program.Program.{Program}
use Rattle.bm_pipeline.specs.Places.{counts}
use Rattle.bm_pipeline.specs.Validity.{IsNumber, IsTruth}
use Rattle.bm_values.specs.Trees.{Tree, field, literal, truth, datum, valid, unary, binary, choice, left_out, unknown}
use Rattle.bm_values.specs.declared.raw.Part.{Part}
use Rattle.bm_values.specs.declared.raw.Part.TheVariants as parts
use Rattle.bm_values.specs.declared.raw.FieldName.{FieldName}
use Rattle.bm_values.specs.declared.raw.UnaryOperator.TheVariants.{BitNot, Not, ToTruth, ToNumber}
use Rattle.bm_values.specs.declared.raw.BinaryOperator.{BinaryOperator}
use Rattle.bm_values.specs.declared.raw.BinaryOperator.TheVariants.{Add, Subtract, Multiply, ShiftLeft, ShiftRight, BitAnd, BitOr, BitXor, Equal, NotEqual, Less, LessOrEqual, Greater, GreaterOrEqual, And, Or}
use Rattle.bm_records.specs.declared.raw.RawProgram.{RawProgram}
use Rattle.bm_json.specs.Sound.{IsSoundLiteral, IsSoundTree}
use Rattle.bm_rules.specs.Fields.{has_header, is_readable, is_validity, is_part}
use Rattle.bm_rules.specs.References.{is_known}
use Rattle.bm_rules.specs.Kinds.{gives_number, is_number, is_truth, is_literal, is_settled, are_settled, operands_settled, is_value, is_settled_value, is_condition}
use Rattle.link_spec.specs.Fields.{header_at, of_part}
use Rattle.link_spec.specs.Expressions.{field_number, number_by, number_of, truth_of, value_of}
use Rattle.link_spec.proofs.Tests.{three_hold, three_from}

-- what names of fields and headers are linked to is among these counts, and so many data are
pub record Reads (raw : RawProgram) (c : Counts) (args : ℕ) : Type 0 where
  pub fields : (name : FieldName) → is_readable raw name ≡ true → NumberFits c (field_number raw name)
  pub headers : (name : List ℕ) → has_header raw name ≡ true → header_at raw name < c.headers
  pub args_data : c.args ≡ args

-- ---- what they name

literal_fits : (c : Counts) (value : Part ℕ) → IsSoundLiteral value → NumberFits c (of_part (to.Literal 0) to.Literal value)
literal_fits c (parts.Served value) sound = sound
literal_fits c parts.LeftOut sound = lit< tt

valid_fits : (raw : RawProgram) (c : Counts) (args : ℕ) → Reads raw c args → (header : Part (List ℕ)) → is_part (has_header raw) header ≡ true
    → TruthFits c (of_part (to.Constant false) (λ name. to.IsValid (header_at raw name)) header)
valid_fits raw c args r (parts.Served name) known = r.headers name known
valid_fits raw c args r parts.LeftOut known = tt

fits_by : (c : Counts) (operator : BinaryOperator) (x y : Number) → gives_number operator ≡ true → NumberFits c x → NumberFits c y → NumberFits c (number_by operator x y)
fits_by c Add x y gives h k = (h, k)
fits_by c Subtract x y gives h k = (h, k)
fits_by c Multiply x y gives h k = (h, k)
fits_by c ShiftLeft x y gives h k = (h, k)
fits_by c ShiftRight x y gives h k = (h, k)
fits_by c BitAnd x y gives h k = (h, k)
fits_by c BitOr x y gives h k = (h, k)
fits_by c BitXor x y gives h k = (h, k)
fits_by c _ x y gives h k = absurd cc

mutual
  -- an expression that is a number names what there is
  pub number_fits : (raw : RawProgram) (c : Counts) (args : ℕ) → Reads raw c args → (tree : Tree) → is_number tree ≡ true → is_known raw args tree ≡ true → IsSoundTree tree → NumberFits c (number_of raw tree)
  number_fits raw c args r (field name) typed known sound = r.fields name known
  number_fits raw c args r (literal value) typed known sound = literal_fits c value sound
  number_fits raw c args r (truth b) typed known sound = absurd cc
  number_fits raw c args r (datum i) typed known sound = omega (arith, ltb-true i args known, r.args_data)
  number_fits raw c args r (valid header) typed known sound = absurd cc
  number_fits raw c args r (unary BitNot x) typed known sound = number_fits raw c args r x typed known sound
  number_fits raw c args r (unary Not x) typed known sound = absurd cc
  number_fits raw c args r (unary ToTruth x) typed known sound = absurd cc
  number_fits raw c args r (unary ToNumber x) typed known sound = truth_fits raw c args r x typed known sound
  number_fits raw c args r (binary operator x y) typed known sound =
      let t = three_hold (gives_number operator) (is_number x) (is_number y) typed in
      let k = and_parts (is_known raw args x) (is_known raw args y) known in
      fits_by c operator (number_of raw x) (number_of raw y) t.0 (number_fits raw c args r x t.1 k.0 sound.0) (number_fits raw c args r y t.2 k.1 sound.1)
  number_fits raw c args r (choice condition x y) typed known sound =
      let t = three_hold (is_truth condition) (is_number x) (is_number y) typed in
      let k = three_hold (is_known raw args condition) (is_known raw args x) (is_known raw args y) known in
      (truth_fits raw c args r condition t.0 k.0 sound.0, number_fits raw c args r x t.1 k.1 sound.1, number_fits raw c args r y t.2 k.2 sound.2)
  number_fits raw c args r left_out typed known sound = absurd cc
  number_fits raw c args r (unknown name) typed known sound = absurd cc

  -- so does one that is a truth value
  pub truth_fits : (raw : RawProgram) (c : Counts) (args : ℕ) → Reads raw c args → (tree : Tree) → is_truth tree ≡ true → is_known raw args tree ≡ true → IsSoundTree tree → TruthFits c (truth_of raw tree)
  truth_fits raw c args r (field name) typed known sound = absurd cc
  truth_fits raw c args r (literal value) typed known sound = absurd cc
  truth_fits raw c args r (truth b) typed known sound = tt
  truth_fits raw c args r (datum i) typed known sound = absurd cc
  truth_fits raw c args r (valid header) typed known sound = valid_fits raw c args r header known
  truth_fits raw c args r (unary BitNot x) typed known sound = absurd cc
  truth_fits raw c args r (unary Not x) typed known sound = truth_fits raw c args r x typed known sound
  truth_fits raw c args r (unary ToTruth x) typed known sound = number_fits raw c args r x typed known sound
  truth_fits raw c args r (unary ToNumber x) typed known sound = absurd cc
  truth_fits raw c args r (binary And x y) typed known sound =
      let t = and_parts (is_truth x) (is_truth y) typed in
      let k = and_parts (is_known raw args x) (is_known raw args y) known in
      (truth_fits raw c args r x t.0 k.0 sound.0, truth_fits raw c args r y t.1 k.1 sound.1)
  truth_fits raw c args r (binary Or x y) typed known sound =
      let t = and_parts (is_truth x) (is_truth y) typed in
      let k = and_parts (is_known raw args x) (is_known raw args y) known in
      (truth_fits raw c args r x t.0 k.0 sound.0, truth_fits raw c args r y t.1 k.1 sound.1)
  truth_fits raw c args r (binary Equal x y) typed known sound =
      let t = and_parts (is_number x) (is_number y) typed in
      let k = and_parts (is_known raw args x) (is_known raw args y) known in
      (number_fits raw c args r x t.0 k.0 sound.0, number_fits raw c args r y t.1 k.1 sound.1)
  truth_fits raw c args r (binary NotEqual x y) typed known sound =
      let t = and_parts (is_number x) (is_number y) typed in
      let k = and_parts (is_known raw args x) (is_known raw args y) known in
      (number_fits raw c args r x t.0 k.0 sound.0, number_fits raw c args r y t.1 k.1 sound.1)
  truth_fits raw c args r (binary Less x y) typed known sound =
      let t = and_parts (is_number x) (is_number y) typed in
      let k = and_parts (is_known raw args x) (is_known raw args y) known in
      (number_fits raw c args r x t.0 k.0 sound.0, number_fits raw c args r y t.1 k.1 sound.1)
  truth_fits raw c args r (binary LessOrEqual x y) typed known sound =
      let t = and_parts (is_number x) (is_number y) typed in
      let k = and_parts (is_known raw args x) (is_known raw args y) known in
      (number_fits raw c args r x t.0 k.0 sound.0, number_fits raw c args r y t.1 k.1 sound.1)
  truth_fits raw c args r (binary Greater x y) typed known sound =
      let t = and_parts (is_number x) (is_number y) typed in
      let k = and_parts (is_known raw args x) (is_known raw args y) known in
      (number_fits raw c args r x t.0 k.0 sound.0, number_fits raw c args r y t.1 k.1 sound.1)
  truth_fits raw c args r (binary GreaterOrEqual x y) typed known sound =
      let t = and_parts (is_number x) (is_number y) typed in
      let k = and_parts (is_known raw args x) (is_known raw args y) known in
      (number_fits raw c args r x t.0 k.0 sound.0, number_fits raw c args r y t.1 k.1 sound.1)
  truth_fits raw c args r (binary _ x y) typed known sound = absurd cc
  truth_fits raw c args r (choice condition x y) typed known sound =
      let t = three_hold (is_truth condition) (is_truth x) (is_truth y) typed in
      let k = three_hold (is_known raw args condition) (is_known raw args x) (is_known raw args y) known in
      (truth_fits raw c args r condition t.0 k.0 sound.0, truth_fits raw c args r x t.1 k.1 sound.1, truth_fits raw c args r y t.2 k.2 sound.2)
  truth_fits raw c args r left_out typed known sound = absurd cc
  truth_fits raw c args r (unknown name) typed known sound = absurd cc

-- ---- which are settled

or_map : (a b c d : Bool) → (a ≡ true → c ≡ true) → (b ≡ true → d ≡ true) → (a || b) ≡ true → (c || d) ≡ true
or_map true b c d f g h = or_left c d (f refl)
or_map false b c d f g h = or_right c d (g h)

and_map : (a b c d : Bool) → (a ≡ true → c ≡ true) → (b ≡ true → d ≡ true) → (a && b) ≡ true → (c && d) ≡ true
and_map true b c d f g h = and_from c d (f refl) (g h)
and_map false b c d f g h = absurd cc

literal_is : (raw : RawProgram) (tree : Tree) → is_literal tree ≡ true → linked.is_literal (number_of raw tree) ≡ true
literal_is raw (literal (parts.Served value)) h = refl
literal_is raw (literal parts.LeftOut) h = refl
literal_is raw _ h = absurd cc

field_settled : (validity : Bool) (x : Truth) (y : Number) → linked.is_settled y ≡ true → linked.is_settled (cond validity (to.OfTruth x) y) ≡ true
field_settled true x y h = refl
field_settled false x y h = h

part_settled : (value : Part ℕ) → linked.is_settled (of_part (to.Literal 0) to.Literal value) ≡ true
part_settled (parts.Served value) = refl
part_settled parts.LeftOut = refl

-- a number that is settled is linked to one that is
settled : (raw : RawProgram) (tree : Tree) → is_number tree ≡ true → is_settled tree ≡ true → linked.is_settled (number_of raw tree) ≡ true
settled raw (field name) typed h = field_settled (is_validity name) _ _ refl
settled raw (literal value) typed h = part_settled value
settled raw (truth b) typed h = absurd cc
settled raw (datum i) typed h = refl
settled raw (valid header) typed h = absurd cc
settled raw (unary BitNot x) typed h = absurd cc
settled raw (unary Not x) typed h = absurd cc
settled raw (unary ToTruth x) typed h = absurd cc
settled raw (unary ToNumber x) typed h = refl
settled raw (binary ShiftRight x y) typed h = settled raw x (and_parts (is_number x) (is_number y) typed).0 h
settled raw (binary BitAnd x y) typed h =
    let t = and_parts (is_number x) (is_number y) typed in
    or_map (is_settled x && is_settled y || is_literal x) (is_literal y)
    (linked.is_settled (number_of raw x) && linked.is_settled (number_of raw y) || linked.is_literal (number_of raw x)) (linked.is_literal (number_of raw y))
    (or_map (is_settled x && is_settled y) (is_literal x) (linked.is_settled (number_of raw x) && linked.is_settled (number_of raw y)) (linked.is_literal (number_of raw x))
    (and_map (is_settled x) (is_settled y) (linked.is_settled (number_of raw x)) (linked.is_settled (number_of raw y)) (settled raw x t.0) (settled raw y t.1)) (literal_is raw x))
    (literal_is raw y) h
settled raw (binary BitOr x y) typed h =
    let t = and_parts (is_number x) (is_number y) typed in
    and_map (is_settled x) (is_settled y) (linked.is_settled (number_of raw x)) (linked.is_settled (number_of raw y)) (settled raw x t.0) (settled raw y t.1) h
settled raw (binary BitXor x y) typed h =
    let t = and_parts (is_number x) (is_number y) typed in
    and_map (is_settled x) (is_settled y) (linked.is_settled (number_of raw x)) (linked.is_settled (number_of raw y)) (settled raw x t.0) (settled raw y t.1) h
settled raw (binary _ x y) typed h = absurd cc
settled raw (choice condition x y) typed h =
    let t = three_hold (is_truth condition) (is_number x) (is_number y) typed in
    and_map (is_settled x) (is_settled y) (linked.is_settled (number_of raw x)) (linked.is_settled (number_of raw y)) (settled raw x t.1) (settled raw y t.2) h
settled raw left_out typed h = absurd cc
settled raw (unknown name) typed h = absurd cc

-- what is asked of two operands, by those that they are linked to
record Operands (x y : Tree) (to_x to_y : Number) : Type 0 where
  left : is_settled x ≡ true → linked.is_settled to_x ≡ true
  right : is_settled y ≡ true → linked.is_settled to_y ≡ true
  within_left : linked.number_operands_settled to_x ≡ true
  within_right : linked.number_operands_settled to_y ≡ true

within : (x y : Tree) (to_x to_y : Number) → Operands x y to_x to_y → (linked.number_operands_settled to_x && linked.number_operands_settled to_y) ≡ true
within x y to_x to_y o = and_from (linked.number_operands_settled to_x) (linked.number_operands_settled to_y) o.within_left o.within_right

-- both are settled, and so are the operands within them
both_settled : (x y : Tree) (to_x to_y : Number) → Operands x y to_x to_y → (is_settled x && is_settled y) ≡ true
    → (linked.number_operands_settled to_x && linked.number_operands_settled to_y && linked.is_settled to_x && linked.is_settled to_y) ≡ true
both_settled x y to_x to_y o h =
    let s = and_parts (is_settled x) (is_settled y) h in
    and_from (linked.number_operands_settled to_x && linked.number_operands_settled to_y && linked.is_settled to_x) (linked.is_settled to_y)
    (and_from (linked.number_operands_settled to_x && linked.number_operands_settled to_y) (linked.is_settled to_x) (within x y to_x to_y o) (o.left s.0)) (o.right s.1)

settled_by : (operator : BinaryOperator) (x y : Tree) (to_x to_y : Number) → gives_number operator ≡ true → are_settled operator x y ≡ true → Operands x y to_x to_y
    → linked.number_operands_settled (number_by operator to_x to_y) ≡ true
settled_by Add x y to_x to_y gives h o = within x y to_x to_y o
settled_by Subtract x y to_x to_y gives h o = within x y to_x to_y o
settled_by Multiply x y to_x to_y gives h o = within x y to_x to_y o
settled_by ShiftLeft x y to_x to_y gives h o = and_from (linked.number_operands_settled to_x && linked.number_operands_settled to_y) (linked.is_settled to_y) (within x y to_x to_y o) (o.right h)
settled_by ShiftRight x y to_x to_y gives h o = both_settled x y to_x to_y o h
settled_by BitAnd x y to_x to_y gives h o = within x y to_x to_y o
settled_by BitOr x y to_x to_y gives h o = within x y to_x to_y o
settled_by BitXor x y to_x to_y gives h o = within x y to_x to_y o
settled_by _ x y to_x to_y gives h o = absurd cc

field_within : (validity : Bool) (header : ℕ) (place : FieldPlace) → linked.number_operands_settled (cond validity (to.OfTruth (to.IsValid header)) (to.Field place)) ≡ true
field_within true header place = refl
field_within false header place = refl

part_within : (value : Part ℕ) → linked.number_operands_settled (of_part (to.Literal 0) to.Literal value) ≡ true
part_within (parts.Served value) = refl
part_within parts.LeftOut = refl

valid_within : (raw : RawProgram) (header : Part (List ℕ)) → linked.truth_operands_settled (of_part (to.Constant false) (λ name. to.IsValid (header_at raw name)) header) ≡ true
valid_within raw (parts.Served name) = refl
valid_within raw parts.LeftOut = refl

mutual
  -- where the operands within a number are settled, so they are within what it is linked to
  pub number_settled : (raw : RawProgram) (tree : Tree) → is_number tree ≡ true → operands_settled tree ≡ true → linked.number_operands_settled (number_of raw tree) ≡ true
  number_settled raw (field name) typed h = field_within (is_validity name) (header_at raw name.header) _
  number_settled raw (literal value) typed h = part_within value
  number_settled raw (truth b) typed h = absurd cc
  number_settled raw (datum i) typed h = refl
  number_settled raw (valid header) typed h = absurd cc
  number_settled raw (unary BitNot x) typed h = number_settled raw x typed h
  number_settled raw (unary Not x) typed h = absurd cc
  number_settled raw (unary ToTruth x) typed h = absurd cc
  number_settled raw (unary ToNumber x) typed h = truth_settled raw x typed h
  number_settled raw (binary operator x y) typed h =
      let t = three_hold (gives_number operator) (is_number x) (is_number y) typed in
      let s = three_hold (are_settled operator x y) (operands_settled x) (operands_settled y) h in
      settled_by operator x y (number_of raw x) (number_of raw y) t.0 s.0
      (record { left = settled raw x t.1; right = settled raw y t.2; within_left = number_settled raw x t.1 s.1; within_right = number_settled raw y t.2 s.2 })
  number_settled raw (choice condition x y) typed h =
      let t = three_hold (is_truth condition) (is_number x) (is_number y) typed in
      let s = three_hold (operands_settled condition) (operands_settled x) (operands_settled y) h in
      three_from (linked.truth_operands_settled (truth_of raw condition)) (linked.number_operands_settled (number_of raw x)) (linked.number_operands_settled (number_of raw y))
      (truth_settled raw condition t.0 s.0) (number_settled raw x t.1 s.1) (number_settled raw y t.2 s.2)
  number_settled raw left_out typed h = absurd cc
  number_settled raw (unknown name) typed h = absurd cc

  -- the same within a truth value
  pub truth_settled : (raw : RawProgram) (tree : Tree) → is_truth tree ≡ true → operands_settled tree ≡ true → linked.truth_operands_settled (truth_of raw tree) ≡ true
  truth_settled raw (field name) typed h = absurd cc
  truth_settled raw (literal value) typed h = absurd cc
  truth_settled raw (truth b) typed h = refl
  truth_settled raw (datum i) typed h = absurd cc
  truth_settled raw (valid header) typed h = valid_within raw header
  truth_settled raw (unary BitNot x) typed h = absurd cc
  truth_settled raw (unary Not x) typed h = truth_settled raw x typed h
  truth_settled raw (unary ToTruth x) typed h =
      let s = and_parts (is_settled x) (operands_settled x) h in
      and_from (linked.number_operands_settled (number_of raw x)) (linked.is_settled (number_of raw x)) (number_settled raw x typed s.1) (settled raw x typed s.0)
  truth_settled raw (unary ToNumber x) typed h = absurd cc
  truth_settled raw (binary And x y) typed h =
      let t = and_parts (is_truth x) (is_truth y) typed in
      let s = and_parts (operands_settled x) (operands_settled y) h in
      and_from (linked.truth_operands_settled (truth_of raw x)) (linked.truth_operands_settled (truth_of raw y)) (truth_settled raw x t.0 s.0) (truth_settled raw y t.1 s.1)
  truth_settled raw (binary Or x y) typed h =
      let t = and_parts (is_truth x) (is_truth y) typed in
      let s = and_parts (operands_settled x) (operands_settled y) h in
      and_from (linked.truth_operands_settled (truth_of raw x)) (linked.truth_operands_settled (truth_of raw y)) (truth_settled raw x t.0 s.0) (truth_settled raw y t.1 s.1)
  truth_settled raw (binary Equal x y) typed h =
      let t = and_parts (is_number x) (is_number y) typed in
      let s = three_hold (is_settled x && is_settled y) (operands_settled x) (operands_settled y) h in
      both_settled x y (number_of raw x) (number_of raw y)
      (record { left = settled raw x t.0; right = settled raw y t.1; within_left = number_settled raw x t.0 s.1; within_right = number_settled raw y t.1 s.2 }) s.0
  truth_settled raw (binary NotEqual x y) typed h =
      let t = and_parts (is_number x) (is_number y) typed in
      let s = three_hold (is_settled x && is_settled y) (operands_settled x) (operands_settled y) h in
      both_settled x y (number_of raw x) (number_of raw y)
      (record { left = settled raw x t.0; right = settled raw y t.1; within_left = number_settled raw x t.0 s.1; within_right = number_settled raw y t.1 s.2 }) s.0
  truth_settled raw (binary Less x y) typed h =
      let t = and_parts (is_number x) (is_number y) typed in
      let s = three_hold (is_settled x && is_settled y) (operands_settled x) (operands_settled y) h in
      both_settled x y (number_of raw x) (number_of raw y)
      (record { left = settled raw x t.0; right = settled raw y t.1; within_left = number_settled raw x t.0 s.1; within_right = number_settled raw y t.1 s.2 }) s.0
  truth_settled raw (binary LessOrEqual x y) typed h =
      let t = and_parts (is_number x) (is_number y) typed in
      let s = three_hold (is_settled x && is_settled y) (operands_settled x) (operands_settled y) h in
      both_settled x y (number_of raw x) (number_of raw y)
      (record { left = settled raw x t.0; right = settled raw y t.1; within_left = number_settled raw x t.0 s.1; within_right = number_settled raw y t.1 s.2 }) s.0
  truth_settled raw (binary Greater x y) typed h =
      let t = and_parts (is_number x) (is_number y) typed in
      let s = three_hold (is_settled x && is_settled y) (operands_settled x) (operands_settled y) h in
      both_settled x y (number_of raw x) (number_of raw y)
      (record { left = settled raw x t.0; right = settled raw y t.1; within_left = number_settled raw x t.0 s.1; within_right = number_settled raw y t.1 s.2 }) s.0
  truth_settled raw (binary GreaterOrEqual x y) typed h =
      let t = and_parts (is_number x) (is_number y) typed in
      let s = three_hold (is_settled x && is_settled y) (operands_settled x) (operands_settled y) h in
      both_settled x y (number_of raw x) (number_of raw y)
      (record { left = settled raw x t.0; right = settled raw y t.1; within_left = number_settled raw x t.0 s.1; within_right = number_settled raw y t.1 s.2 }) s.0
  truth_settled raw (binary _ x y) typed h = absurd cc
  truth_settled raw (choice condition x y) typed h =
      let t = three_hold (is_truth condition) (is_truth x) (is_truth y) typed in
      let s = three_hold (operands_settled condition) (operands_settled x) (operands_settled y) h in
      three_from (linked.truth_operands_settled (truth_of raw condition)) (linked.truth_operands_settled (truth_of raw x)) (linked.truth_operands_settled (truth_of raw y))
      (truth_settled raw condition t.0 s.0) (truth_settled raw x t.1 s.1) (truth_settled raw y t.2 s.2)
  truth_settled raw left_out typed h = absurd cc
  truth_settled raw (unknown name) typed h = absurd cc

-- ---- values and conditions

-- a value is linked to a number of a program
pub value_linked : (raw : RawProgram) (program : Program) (args : ℕ) → Reads raw (counts program args) args → (tree : Tree) → is_value tree ≡ true → is_known raw args tree ≡ true → IsSoundTree tree
    → IsNumber program args (value_of raw tree)
value_linked raw program args r (truth b) typed known sound = record { fits = tt; settled = refl }
value_linked raw program args r tree typed known sound =
    let t = and_parts (is_number tree) (operands_settled tree) typed in
    record { fits = number_fits raw (counts program args) args r tree t.0 known sound; settled = number_settled raw tree t.0 t.1 }

-- a settled value is one
pub value_settled : (raw : RawProgram) (tree : Tree) → is_settled_value tree ≡ true → (is_value tree ≡ true) × (linked.is_settled (value_of raw tree) ≡ true)
value_settled raw (truth b) typed = (refl, refl)
value_settled raw tree typed =
    let t = three_hold (is_number tree) (operands_settled tree) (is_settled tree) typed in
    (and_from (is_number tree) (operands_settled tree) t.0 t.1, settled raw tree t.0 t.2)

-- a condition is linked to a truth value of a program
pub condition_linked : (raw : RawProgram) (program : Program) → Reads raw (counts program 0) 0 → (tree : Tree) → is_condition tree ≡ true → is_known raw 0 tree ≡ true → IsSoundTree tree
    → IsTruth program (truth_of raw tree)
condition_linked raw program r tree typed known sound =
    let t = and_parts (is_truth tree) (operands_settled tree) typed in
    record { fits = truth_fits raw (counts program 0) 0 r tree t.0 known sound; settled = truth_settled raw tree t.0 t.1 }
