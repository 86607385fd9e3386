-- The numbers of the canonical codes (google.rpc.Code), and of the rules of an update.
use Rattle.std.specs.Prelude.{ℕ}
use Rattle.p4_types.specs.declared.code.ArbitrationRule.{ArbitrationRule}
use Rattle.p4_types.specs.declared.code.ArbitrationRule.TheVariants as arbitration
use Rattle.p4_types.specs.declared.code.Code.{Code}
use Rattle.p4_types.specs.declared.code.Code.TheVariants as codes
use Rattle.p4_types.specs.declared.code.Rule.{Rule}
use Rattle.p4_types.specs.declared.code.Rule.TheVariants as rules

-- the number of a code
abbrev pub code_number : Code → ℕ
code_number codes.Ok = 0
code_number codes.Cancelled = 1
code_number codes.Unknown = 2
code_number codes.InvalidArgument = 3
code_number codes.NotFound = 5
code_number codes.AlreadyExists = 6
code_number codes.PermissionDenied = 7
code_number codes.ResourceExhausted = 8
code_number codes.FailedPrecondition = 9
code_number codes.Aborted = 10
code_number codes.OutOfRange = 11
code_number codes.Unimplemented = 12
code_number codes.Internal = 13
code_number codes.Unavailable = 14

-- the number of a rule
abbrev pub rule_number : Rule → ℕ
rule_number rules.U1 = 1
rule_number rules.U2 = 2
rule_number rules.U3 = 3
rule_number rules.U4 = 4
rule_number rules.U5 = 5
rule_number rules.U6 = 6
rule_number rules.U7 = 7
rule_number rules.U8 = 8
rule_number rules.U9 = 9
rule_number rules.U10 = 10
rule_number rules.U11 = 11
rule_number rules.U12 = 12

-- the code with which an arbitration is refused that breaks a rule
abbrev pub arbitration_code : ArbitrationRule → Code
arbitration_code arbitration.A1 = codes.NotFound
arbitration_code arbitration.A2 = codes.FailedPrecondition
arbitration_code arbitration.A3 = codes.InvalidArgument
arbitration_code arbitration.A4 = codes.InvalidArgument
arbitration_code arbitration.A5 = codes.ResourceExhausted
