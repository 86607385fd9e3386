-- What answers make of a link.
use Rattle.std.proofs.Common.{◌≡◌, ℕ, Option, Some, None, Result, Ok, Err, refl}
use Rattle.std.specs.Prelude.{OnOk}
use Rattle.list_types.specs.declared.memory.NoMemory.{NoMemory}
use Rattle.h2_conn.specs.declared.phase.Phase.{Phase}
use Rattle.grpc_streams.specs.declared.table.OpenCalls.{OpenCalls}
use Rattle.grpc_streams.specs.Spelling.{Spells}
use Rattle.p4rt_service.specs.declared.link.Link.{Link}
use Rattle.p4rt_service.specs.Serving.{spelled_over}

abbrev pub link_of : ℕ → Option OpenCalls → Phase → Link
link_of lane calls conn = record { lane = lane; calls = calls; conn = conn }

over : (r : Result Unit NoMemory) (answer : OpenCalls → Phase → OpenCalls × Phase) (lane : ℕ) (old new : Option OpenCalls) (conn after : Phase) → Spells r old conn new after answer
    → OnOk r (link_of lane new after ≡ spelled_over old answer (link_of lane old conn))
over (Err e) answer lane old new conn after s = tt
over (Ok x) answer lane None new conn after s = absurd s
over (Ok x) answer lane (Some calls) new conn after s = rw (s.0, s.1) refl

-- an answer over the calls of a link
pub spelled_if_ok : (r : Result Unit NoMemory) (answer : OpenCalls → Phase → OpenCalls × Phase) (link : Link) (calls : Option OpenCalls) (conn : Phase) → Spells r link.calls link.conn calls conn answer
    → OnOk r (link_of link.lane calls conn ≡ spelled_over link.calls answer link)
spelled_if_ok r answer link calls conn s = over r answer link.lane link.calls calls link.conn conn s
