-- The headers of a packet that enters.
use Rattle.std.proofs.Common.{◌≡◌, ℕ, suc, ◌+◌, ◌-◌, ◌<◌, Bool, false, List, [], ◌∷◌, ◌++◌, length, get_or, set, take, map, replicate, sym, ap, ◌∙◌, arith, append_assoc}
use Rattle.std.proofs.lemmas.List.{length-take-le, length-map, map-append, take_more}
use Rattle.std.proofs.lemmas.Option.{slice_get-get_or}
use Rattle.std.proofs.Math.Seq.{set-append_seam}
use Rattle.bm_pipeline.specs.declared.headers.Header.{Header}
use Rattle.bm_pipeline.specs.declared.program.Program.{Program}
use Rattle.bm_pipeline.specs.Validity.{IsValid}
use Rattle.pkt_codec.proofs.Places.{header_is}

-- one header more
pub opened_more : (items headers : List Header) (k : ℕ) (d : Header) → items ≡ headers → k < length items
    → set (map (λ header. header.metadata) (take k headers) ++ replicate (length headers - k) false) k (get_or items k d).metadata
    ≡ map (λ header. header.metadata) (take (k + 1) headers) ++ replicate (length headers - (k + 1)) false
opened_more items headers k d same lt =
    let is : Header → Bool = λ header. header.metadata in
    let front = map is (take k headers) in
    let left = length headers - (k + 1) in
    let within : k < length headers = omega (arith, ap length same) in
    let more : length headers - k ≡ suc left = omega arith in
    let long : length front ≡ k = length-map (take k headers) is ∙ length-take-le k headers (omega arith) in
    let value : (get_or items k d).metadata ≡ (get_or headers k d).metadata = ap (λ xs. (get_or xs k d).metadata) same in
    ap (λ v. set (front ++ replicate (length headers - k) false) k v) value
    ∙ ap (λ n. set (front ++ replicate n false) k (get_or headers k d).metadata) more
    ∙ ap (λ n. set (front ++ false ∷ replicate left false) n (get_or headers k d).metadata) (sym long)
    ∙ set-append_seam front false (replicate left false) (get_or headers k d).metadata
    ∙ sym (append_assoc front ((get_or headers k d).metadata ∷ []) (replicate left false))
    ∙ ap (λ xs. xs ++ replicate left false) (sym (ap (map is) (take_more headers k d within) ∙ map-append is (take k headers) (get_or headers k d ∷ [])))

-- each header stands at its place
pub own_place : (program : Program) (items : List Header) (k : ℕ) (d : Header) → IsValid program → items ≡ program.headers → k < length items → (get_or items k d).place.header ≡ k
own_place program items k d valid same lt =
    ap (λ xs. (get_or xs k d).place.header) same
    ∙ (header_is program k (get_or program.headers k d) valid (slice_get-get_or program.headers k d (omega (arith, ap length same)))).0
