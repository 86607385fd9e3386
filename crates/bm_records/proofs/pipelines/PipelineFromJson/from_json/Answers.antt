use Rattle.std.proofs.Common.{◌≡◌, Some, sym, ap, ◌∙◌}
use Rattle.bm_records.specs.Pipelines.{gress, pipeline_of}
use Rattle.bm_records.proofs.pipelines.PipelineFromJson.from_json.Goals as goal

pub returns : goal.returns
unfolding pipeline_of
returns c =
    let side : gress c.in_ok-text.text ≡ Some c.in_ok-gress.gress = ap gress (sym c.as_str.ensures) ∙ c.in_ok-gress.ensures in
    rw c.in_ok-text.ensures (rw side (rw c.in_ok-init_table.ensures (rw c.in_ok-tables.ensures (rw c.in_ok-action_profiles.ensures (rw c.in_ok-conditionals.ensures (rw c.in_ok-nothing_in.ensures))))))
