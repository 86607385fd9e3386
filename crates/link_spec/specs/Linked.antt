-- What a program is linked to: each name is resolved to the place of what it stands for.
use Rattle.std.specs.Prelude.{ℕ, List, length, map, Option, Some, None}
use Rattle.p4_types.specs.declared.info.Info.{Info}
use Rattle.bm_records.specs.declared.raw.RawProgram.{RawProgram}
use Rattle.bm_json.specs.Program as json
use Rattle.bm_pipeline.specs.declared.program.Program.{Program}
use Rattle.link_spec.specs.Fields.{header_at, headers_from, fields_before, standard_metadata_of}
use Rattle.link_spec.specs.Objects.{errors_of, parser_of, calculation_of, checksum_of, learn_list_of, action_of}
use Rattle.link_spec.specs.Tables.{ingress, egress, node_of, tables_of, conditionals_of}

-- the plain data of a pipeline, of the raw records of a program and its P4Info
abbrev pub program_of : RawProgram → Info → Program
program_of raw info =
    record {
      headers = headers_from raw 0 0 raw.headers;
      fields = fields_before raw (length raw.headers);
      standard_metadata = standard_metadata_of raw;
      errors = errors_of raw;
      parser = parser_of raw;
      deparser = map (header_at raw) raw.deparser.order;
      calculations = map (calculation_of raw) raw.calculations;
      checksums = map (checksum_of raw) raw.checksums;
      learn_lists = map (learn_list_of raw info) raw.learn_lists;
      actions = map (action_of raw info) raw.actions;
      tables = tables_of raw info;
      conditionals = conditionals_of raw;
      ingress = node_of (ingress raw) raw.pipelines.ingress.init_table;
      egress = node_of (egress raw) raw.pipelines.egress.init_table;
    }

-- the program that a device configuration is linked to, where it breaks no rule
abbrev pub linked_by : Info → Option RawProgram → Option Program
linked_by info None = None
linked_by info (Some raw) = Some (program_of raw info)

-- the same by its bytes
abbrev pub linked : Info → List ℕ → Option Program
linked info bytes = linked_by info (json.program_in bytes)
