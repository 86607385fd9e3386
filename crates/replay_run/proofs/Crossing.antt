-- What runs the lanes may go to other threads.
use denote.RattleType.{RattleType}
use denote.Builtin.{One}
use denote.Param.Send.{AllSend, IsSend, IsSync, sendable, recorded_send, struct_send}
use denote.Ref.{NamedLft}
use denote.Struct.Declared as declared
use denote.Struct.Field.{shr_ref_field}
use denote.Struct.Struct.{Struct}
use denote.Struct.Tuple.{TupleAt}
use mir.Syntax.{Sym}
use Rattle.std.proofs.Common.{[], ◌∷◌}
use Rattle.std.proofs.Crossing.{crosses, Vec-send}
use Rattle.std.specs.contracts.alloc.Global as Heap
use Rattle.std.specs.contracts.impls.GlobalAllocator.TheImpl.{ghosts}
use Rattle.std.specs.contracts.result.Result as Result
use Rattle.std.specs.contracts.vec.Vec as Vec
use Rattle.list_types.specs.contracts.memory.NoMemory as NoMemory
use Rattle.ctl_lock.specs.contracts.desk.TapeDesk as TapeDesk
use Rattle.ctl_lock.specs.contracts.pass.CallPass as CallPass
use Rattle.ctl_lock.specs.declared.naming.Naming as naming
use Rattle.replay_run.specs.contracts.threads.Taken as Taken
use Rattle.replay_run.specs.contracts.threads.Takers as Takers
use Rattle.run_lanes.specs.contracts.packets.PacketPass as PacketPass
use Rattle.switch_spec.specs.contracts.calls.WorkerItem as WorkerItem
use Rattle.thread_crossings.proofs.Desks.{desk_sync, met_send, pass_send}
use Rattle.thread_crossings.proofs.Workers.{work_send}

item_send : IsSend (WorkerItem.the_field).row
item_send = search (crosses, sendable) depth 60 fits 20000

-- who makes a lane's calls
pub caller_send : (J : RattleType) (g : naming.Ghosts J.Denot) → IsSend J → IsSend (CallPass.the_row J g)
caller_send J g s = pass_send J g s

-- who runs a lane's packets
pub worker_send : (J : RattleType) (g : naming.Ghosts J.Denot) → IsSend J → IsSend (PacketPass.the_row J g)
worker_send J g s = search (work_send, item_send, met_send, crosses, sendable) depth 60 fits 20000

-- what all lanes share
pub desk_shared : (J R : RattleType) (g : naming.Ghosts J.Denot) → IsSend J → IsSend R → IsSync (TapeDesk.the_row J R g)
desk_shared J R g s t = desk_sync J R g s t

pub heap_shared : IsSync Heap.the_row
heap_shared = search (crosses, sendable) depth 20

-- a closure over four values that threads share
pub four_shared : (name : Sym) (A B C D : RattleType) → IsSync A → IsSync B → IsSync C → IsSync D → IsSync (TupleAt name (A ∷ B ∷ C ∷ D ∷ []))
four_shared name A B C D a b c d = search sendable depth 20

-- what came of them, or an error
given_send : (T E : RattleType) → IsSend T → IsSend E → IsSend (Result.the_field T E).row
given_send T E s e = search sendable depth 20

-- the workers' passes on their way to their thread, and what comes back of it
pub takers_send : (J : RattleType) (g : naming.Ghosts J.Denot) → IsSend J → IsSend (Takers.the_row J g)
takers_send J g s =
    let T = Takers.the_type J g in
    let parts : AllSend (declared.shape T).fields = (Vec-send (PacketPass.the_row J g) (worker_send J g s), tt) in
    recorded_send (Struct (declared.shape T)) T.D T.to T.to_one (struct_send (declared.shape T) parts)

pub taken_send : (J : RattleType) (g : naming.Ghosts J.Denot) → IsSend J → IsSend (Taken.the_row J g)
taken_send J g s =
    let T = Taken.the_type J g in
    let parts : AllSend (declared.shape T).fields =
    (given_send (Vec.the_row (PacketPass.the_row J g) Heap.the_row ghosts) NoMemory.the_row (Vec-send (PacketPass.the_row J g) (worker_send J g s)) (search sendable depth 20), tt) in
    recorded_send (Struct (declared.shape T)) T.D T.to T.to_one (struct_send (declared.shape T) parts)

-- a closure that takes them there beside four values that threads share
pub job_send : (name : Sym) (l m n o : NamedLft) (T D G Q : RattleType) (t1 : One T.mir) (d1 : One D.mir) (g1 : One G.mir) → IsSync T → IsSync D → IsSync G → IsSend Q
    → IsSend (TupleAt name ((shr_ref_field l T t1).row ∷ (shr_ref_field m Heap.the_row tt).row ∷ (shr_ref_field n D d1).row ∷ (shr_ref_field o G g1).row ∷ Q ∷ []))
job_send name l m n o T D G Q t1 d1 g1 t d g q = search (heap_shared, sendable) depth 20
