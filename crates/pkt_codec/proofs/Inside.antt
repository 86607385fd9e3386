-- What a valid program names is in a store that has room for it.
use Rattle.std.proofs.Common.{◌≡◌, ℕ, List, [], length, subst, arith, Some, None, IfSome, Option}
use Rattle.bm_expr.specs.Trees.{Number, Truth}
use Rattle.bm_expr.specs.declared.store.FieldPlace.{FieldPlace}
use Rattle.bm_expr.specs.Fits.{FieldFits, NumberFits, HasAtMost}
use Rattle.bm_expr.specs.Meaning.{counts_of, NumberInStore, TruthInStore}
use Rattle.bm_expr.specs.Store.{Contents}
use Rattle.bm_expr.proofs.FittingLemmas.{fits_more, truth_fits_more}
use Rattle.bm_pipeline.specs.declared.headers.FieldRef.{FieldRef}
use Rattle.bm_pipeline.specs.declared.headers.FieldRef.TheVariants as refs
use Rattle.bm_pipeline.specs.declared.parser.ParserOp.{ParserOp}
use Rattle.bm_pipeline.specs.declared.parser.ParserOp.TheVariants as ops
use Rattle.bm_pipeline.specs.declared.program.Program.{Program}
use Rattle.bm_pipeline.specs.Places.{counts}
use Rattle.bm_pipeline.specs.Validity.{IsField, IsRead, IsTruth, IsParserOp}
use Rattle.pkt_codec.specs.Room.{HasRoom, IsInStore}

-- the store has at least as much as the program
at_most : (program : Program) (store : Contents) → HasRoom program store → HasAtMost (counts program 0) (counts_of store [])
at_most program store room = record { fields = room.fields; headers = room.headers; args = omega arith }

-- a number of an expression with such data
pub number_in : (program : Program) (store : Contents) (args : List ℕ) (number : Number) → HasRoom program store → NumberFits (counts program (length args)) number
    → NumberInStore store args number
number_in program store args number room fits =
    fits_more (counts program (length args)) (counts_of store args) (record { fields = room.fields; headers = room.headers; args = omega arith }) number fits

-- a field of the program
pub field_in : (program : Program) (store : Contents) (place : FieldPlace) → HasRoom program store → IsField program place → FieldFits (counts_of store []) place
field_in program store place room is =
    record { field = omega (arith, is.field, room.fields); header = omega (arith, is.header, room.headers); width = is.width }

-- what the program reads as a field
pub read_in : (program : Program) (store : Contents) → HasRoom program store → (field : FieldRef) → IsRead program field → IsInStore store field
read_in program store room (refs.Field place) is = field_in program store place room is
read_in program store room (refs.Valid header) is = omega (arith, is, room.headers)

-- the number that a parser's operation sets
pub set_number : (program : Program) (store : Contents) (op : ParserOp) (target : FieldPlace) (number : Number) → HasRoom program store → IsParserOp program op → op ≡ ops.Set target number
    → NumberInStore store [] number
set_number program store op target number room is op_is =
    let Is : ParserOp → Type 0 = λ o. IsParserOp program o in
    fits_more (counts program 0) (counts_of store []) (at_most program store room) number (subst Is op_is is).1.fits

-- the field that it sets
pub set_target : (program : Program) (store : Contents) (op : ParserOp) (target : FieldPlace) (number : Number) → HasRoom program store → IsParserOp program op → op ≡ ops.Set target number
    → FieldFits (counts_of store []) target
set_target program store op target number room is op_is =
    let Is : ParserOp → Type 0 = λ o. IsParserOp program o in
    field_in program store target room (subst Is op_is is).0

-- the condition of a checksum, if it has one
pub condition_in : (program : Program) (store : Contents) → HasRoom program store → (condition : Option Truth) → IfSome condition (IsTruth program) → IfSome condition (TruthInStore store [])
condition_in program store room None is = tt
condition_in program store room (Some truth) is = truth_fits_more (counts program 0) (counts_of store []) (at_most program store room) truth is.fits
