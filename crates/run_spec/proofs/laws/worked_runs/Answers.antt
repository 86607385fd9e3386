use Rattle.run_spec.proofs.WorkedRows.{empty_tape, one_entry_one_packet, insert_twice, table_full, short_packet, met_call, backup_waits}
use Rattle.run_spec.proofs.laws.worked_runs.Goals as goal

pub returns : goal.returns
returns c = record {
  empty_tape = empty_tape;
  one_entry_one_packet = one_entry_one_packet;
  insert_twice = insert_twice;
  table_full = table_full;
  short_packet = short_packet;
  met_call = met_call;
  backup_waits = backup_waits;
}
