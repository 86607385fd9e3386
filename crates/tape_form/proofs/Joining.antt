-- Words and lines in a row.
use Rattle.std.proofs.Common.{◌≡◌, ℕ, suc, ◌+◌, ◌-◌, ◌<◌, ◌≤◌, length, take, drop, get_or, List, [], ◌∷◌, ◌++◌, map, refl, sym, ap, ◌∙◌, append_assoc, append-nil, add-one, arith}
use Rattle.std.proofs.lemmas.Grind.{flat_map-append}
use Rattle.std.proofs.lemmas.List.{take_all}
use Rattle.std.specs.List.{flat_map, join_with_byte}
use Rattle.p4_types.specs.declared.records.Record.{Record}
use Rattle.p4_types.specs.declared.tape.Who.{Who}
use Rattle.p4_types.specs.declared.tape.Who.TheVariants.{Worker, Controller}
use Rattle.p4_types.specs.declared.journal.Report.{Report}
use Rattle.run_spec.specs.Text.{list_word, line, count_up}
use Rattle.switch_spec.specs.Carrying.{records_of}
use Rattle.run_spec.specs.ReportText.{packet_line, packet_lines, journal_lines, sent_line, count_line, cell_line, end_line, report_text}
use Rattle.tape_form.specs.LaneLines.{lane_lines}

-- pieces joined by a byte: each but the first comes after one
pub joined : {A : Type 0} (byte : ℕ) (word : A → List ℕ) (x : A) (xs : List A) → join_with_byte byte (map word (x ∷ xs)) ≡ word x ++ flat_map (λ y. byte ∷ word y) xs
joined byte word x [] = sym (append-nil (word x))
joined byte word x (y ∷ ys) = ap (λ rest. word x ++ byte ∷ rest) (joined byte word y ys)

-- a lane, and the lanes after it
pub lane_first : (kind : ℕ → Who) (from count : ℕ) (records : List Record)
    → lane_lines kind from (suc count) records ≡ flat_map packet_line (records_of (kind from) records) ++ lane_lines kind (suc from) count records
unfolding lane_lines
lane_first kind from count records = refl

pub no_lanes : (kind : ℕ → Who) (from : ℕ) (records : List Record) → lane_lines kind from 0 records ≡ []
unfolding lane_lines
no_lanes kind from records = refl

-- what is written, and what is left to be written of some lanes
pub lane_more : (kind : ℕ → Who) (from count : ℕ) (records : List Record) (before after : List ℕ) → from < count
    → after ≡ before ++ flat_map packet_line (records_of (kind from) records)
    → after ++ lane_lines kind (from + 1) (count - (from + 1)) records ≡ before ++ lane_lines kind from (count - from) records
lane_more kind from count records before after within written =
    let one : count - from ≡ suc (count - (from + 1)) = omega arith in
    rw (written, one, lane_first kind from (count - (from + 1)) records, add-one) (append_assoc before (flat_map packet_line (records_of (kind from) records)) (lane_lines kind (suc from) (count - suc from) records))

pub lanes_done : (kind : ℕ → Who) (from count : ℕ) (records : List Record) (before : List ℕ) → count - from ≡ 0 → before ++ lane_lines kind from (count - from) records ≡ before
lanes_done kind from count records before none = rw (none, no_lanes kind from records) (append-nil before)

-- the workers' lanes, then the controllers'
pub all_lanes : (records : List Record) → lane_lines Worker 0 16 records ++ lane_lines Controller 0 32 records ≡ packet_lines records
unfolding lane_lines
all_lanes records = sym (flat_map-append (λ lane. flat_map packet_line (records_of lane records)) (map Worker (count_up 0 16)) (map Controller (count_up 0 32)))

-- a list of items, its first one written and then the others, each after a comma
pub list_written : {A : Type 0} (word : A → List ℕ) (items : List A) (x : A) (count : ℕ) (before middle after : List ℕ) → 1 ≤ length items → x ≡ get_or items 0 x
    → middle ≡ before ++ word x → after ≡ middle ++ flat_map (λ y. 44 ∷ word y) (take count (take (length items - 1) (drop 1 items))) → length (take (length items - 1) (drop 1 items)) ≤ count
    → after ≡ before ++ list_word word items
list_written word [] x count before middle after some first start rest all = absurd (omega arith)
list_written word (y ∷ ys) x count before middle after some first start rest all =
    let whole : take (length (y ∷ ys) - 1) ys ≡ ys = take_all (length (y ∷ ys) - 1) ys (omega arith) in
    let others : take count (take (length (y ∷ ys) - 1) ys) ≡ ys = take_all count (take (length (y ∷ ys) - 1) ys) all ∙ whole in
    rest
    ∙ rw (others, start, first) (append_assoc before (word y) (flat_map (λ z. 44 ∷ word z) ys) ∙ ap (λ w. before ++ w) (sym (joined 44 word y ys)))

-- a packet's line, its front written and then each word and what stands behind it
pub packet_written : (before front a1 a2 a3 a4 a5 a6 a7 a8 name who index steps fate outputs cpu digest hits : List ℕ) → front ≡ before ++ join_with_byte 32 (name ∷ who ∷ index ∷ steps ∷ fate ∷ [] ∷ [])
    → a1 ≡ front ++ outputs → a2 ≡ a1 ++ 32 ∷ [] → a3 ≡ a2 ++ cpu → a4 ≡ a3 ++ 32 ∷ [] → a5 ≡ a4 ++ digest → a6 ≡ a5 ++ 32 ∷ [] → a7 ≡ a6 ++ hits → a8 ≡ a7 ++ 10 ∷ []
    → a8 ≡ before ++ line (name ∷ who ∷ index ∷ steps ∷ fate ∷ outputs ∷ cpu ∷ digest ∷ hits ∷ [])
packet_written before front a1 a2 a3 a4 a5 a6 a7 a8 name who index steps fate outputs cpu digest hits e0 e1 e2 e3 e4 e5 e6 e7 e8 = e8 ∙ rw (e7, e6, e5, e4, e3, e2, e1, e0) (simp append_assoc)

-- two parts written after one another
pub two_parts : (w0 w1 w2 p1 p2 : List ℕ) → w1 ≡ w0 ++ p1 → w2 ≡ w1 ++ p2 → w2 ≡ w0 ++ (p1 ++ p2)
two_parts w0 w1 w2 p1 p2 e1 e2 = e2 ∙ ap (λ w. w ++ p2) e1 ∙ append_assoc w0 p1 p2

pub six_parts : (w0 w1 w2 w3 w4 w5 w6 p1 p2 p3 p4 p5 p6 : List ℕ) → w1 ≡ w0 ++ p1 → w2 ≡ w1 ++ p2 → w3 ≡ w2 ++ p3 → w4 ≡ w3 ++ p4 → w5 ≡ w4 ++ p5 → w6 ≡ w5 ++ p6
    → w6 ≡ w0 ++ (p1 ++ (p2 ++ (p3 ++ (p4 ++ (p5 ++ p6)))))
six_parts w0 w1 w2 w3 w4 w5 w6 p1 p2 p3 p4 p5 p6 e1 e2 e3 e4 e5 e6 =
    two_parts w0 w1 w6 p1 _ e1 (two_parts w1 w2 w6 p2 _ e2 (two_parts w2 w3 w6 p3 _ e3 (two_parts w3 w4 w6 p4 _ e4 (two_parts w4 w5 w6 p5 p6 e5 e6))))

-- the parts of a report, written after one another
pub report_written : (r : Report) (w0 w1 w2 w3 w4 w5 w6 : List ℕ) → w1 ≡ w0 ++ journal_lines 0 r.journal → w2 ≡ w1 ++ flat_map sent_line r.sent → w3 ≡ w2 ++ packet_lines r.records
    → w4 ≡ w3 ++ flat_map count_line r.counts → w5 ≡ w4 ++ flat_map cell_line r.cells → w6 ≡ w5 ++ end_line r → w6 ≡ w0 ++ report_text r
report_written r w0 w1 w2 w3 w4 w5 w6 e1 e2 e3 e4 e5 e6 =
    six_parts w0 w1 w2 w3 w4 w5 w6 (journal_lines 0 r.journal) (flat_map sent_line r.sent) (packet_lines r.records) (flat_map count_line r.counts) (flat_map cell_line r.cells) (end_line r) e1 e2 e3 e4 e5 e6
