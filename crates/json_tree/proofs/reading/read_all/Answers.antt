use Rattle.std.proofs.Common.{◌≡◌, [], Some, string_bytes, sym, ap, ◌∙◌, rules}
use Rattle.json.specs.Lex.{tokens}
use Rattle.json.specs.Json.{value}
use Rattle.serde_json.specs.Read.{of_json, converted}
use Rattle.json_tree.proofs.Converting.{whole_read}
use Rattle.json_tree.proofs.Growing.{grown_whole}
use Rattle.json_tree.proofs.reading.read_all.Goals as goal

pub returns : goal.returns
returns c =
    let r = c.in_ok-read.ensures in
    let old = c.args.building.now in
    let new = c.read.new.building in
    let none : c.read.new.reader ≡ [] = search rules in
    let is : converted of_json (value 127 (tokens c.args.text.now)) ≡ Some (r.value, []) = ap (λ ts. converted of_json (value 127 ts)) (sym c.in_ok-reader.ensures.ok) ∙ r.is ∙ ap (λ ts. Some (r.value, ts)) none in
    let whole = grown_whole (string_bytes old.text) old.nodes.items (string_bytes new.text) new.nodes.items r.value c.requires.0 c.requires.1 r.grown in
    (whole.0, whole_read (value 127 (tokens c.args.text.now)) r.value is ∙ ap Some (sym whole.1))
