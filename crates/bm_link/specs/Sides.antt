-- A pipeline with its nodes, as the definitions see it.
use Rattle.bm_link.specs.declared.sides.Side as declared
use Rattle.link_spec.specs.Tables as tables

-- a pipeline, and how many tables and conditionals stand before its own
abbrev pub side_of : declared.Side → tables.Side
side_of side = record { pipeline = side.pipeline.now; tables = side.tables_before; conditionals = side.conditionals_before }
