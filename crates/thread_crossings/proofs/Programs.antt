-- A program may go to another thread, part by part, since a `search` that goes down through all of it runs out of steps.
use denote.Param.Send.{IsSend, IsSync, sendable}
use Rattle.std.proofs.Crossing.{crosses}
use Rattle.bm_expr.proofs.expression.Number.TheLaws.TheKnot as knot
use Rattle.bm_pipeline.specs.contracts.actions.Action as Action
use Rattle.bm_pipeline.specs.contracts.actions.LearnList as LearnList
use Rattle.bm_pipeline.specs.contracts.checksums.Calculation as Calculation
use Rattle.bm_pipeline.specs.contracts.checksums.Checksum as Checksum
use Rattle.bm_pipeline.specs.contracts.headers.Header as Header
use Rattle.bm_pipeline.specs.contracts.headers.StandardMetadata as StandardMetadata
use Rattle.bm_pipeline.specs.contracts.parser.Parser as Parser
use Rattle.bm_pipeline.specs.contracts.tables.Conditional as Conditional
use Rattle.bm_pipeline.specs.contracts.tables.Table as Table
use Rattle.bm_pipeline.specs.contracts.program.Program as Program
use Rattle.bm_pipeline.specs.contracts.pipeline.Pipeline as Pipeline

action_send : IsSend (Action.the_field).row
action_send = search (crosses, knot.crosses, sendable) depth 60 fits 20000

learn_list_send : IsSend (LearnList.the_field).row
learn_list_send = search (crosses, knot.crosses, sendable) depth 60 fits 20000

calculation_send : IsSend (Calculation.the_field).row
calculation_send = search (crosses, knot.crosses, sendable) depth 60 fits 20000

checksum_send : IsSend (Checksum.the_field).row
checksum_send = search (crosses, knot.crosses, sendable) depth 60 fits 20000

header_send : IsSend (Header.the_field).row
header_send = search (crosses, knot.crosses, sendable) depth 60 fits 20000

standard_metadata_send : IsSend (StandardMetadata.the_field).row
standard_metadata_send = search (crosses, knot.crosses, sendable) depth 60 fits 20000

parser_send : IsSend (Parser.the_field).row
parser_send = search (crosses, knot.crosses, sendable) depth 60 fits 20000

conditional_send : IsSend (Conditional.the_field).row
conditional_send = search (crosses, knot.crosses, sendable) depth 60 fits 20000

table_send : IsSend (Table.the_field).row
table_send = search (crosses, knot.crosses, sendable) depth 60 fits 20000

program_send : IsSend (Program.the_field).row
program_send = search (action_send, learn_list_send, calculation_send, checksum_send, header_send, standard_metadata_send, parser_send, conditional_send, table_send, crosses, sendable) depth 60 fits 20000

pub pipeline_send : IsSend (Pipeline.the_field).row
pipeline_send = search (program_send, sendable) depth 60 fits 20000

action_sync : IsSync (Action.the_field).row
action_sync = search (crosses, knot.crosses, sendable) depth 60 fits 20000

learn_list_sync : IsSync (LearnList.the_field).row
learn_list_sync = search (crosses, knot.crosses, sendable) depth 60 fits 20000

calculation_sync : IsSync (Calculation.the_field).row
calculation_sync = search (crosses, knot.crosses, sendable) depth 60 fits 20000

checksum_sync : IsSync (Checksum.the_field).row
checksum_sync = search (crosses, knot.crosses, sendable) depth 60 fits 20000

header_sync : IsSync (Header.the_field).row
header_sync = search (crosses, knot.crosses, sendable) depth 60 fits 20000

standard_metadata_sync : IsSync (StandardMetadata.the_field).row
standard_metadata_sync = search (crosses, knot.crosses, sendable) depth 60 fits 20000

parser_sync : IsSync (Parser.the_field).row
parser_sync = search (crosses, knot.crosses, sendable) depth 60 fits 20000

conditional_sync : IsSync (Conditional.the_field).row
conditional_sync = search (crosses, knot.crosses, sendable) depth 60 fits 20000

table_sync : IsSync (Table.the_field).row
table_sync = search (crosses, knot.crosses, sendable) depth 60 fits 20000

program_sync : IsSync (Program.the_field).row
program_sync = search (action_sync, learn_list_sync, calculation_sync, checksum_sync, header_sync, standard_metadata_sync, parser_sync, conditional_sync, table_sync, crosses, sendable) depth 60 fits 20000

pub pipeline_sync : IsSync (Pipeline.the_field).row
pipeline_sync = search (program_sync, sendable) depth 60 fits 20000
