-- What waits for controllers may go to another thread, part by part.
use denote.RattleType.{RattleType}
use denote.Param.Send.{IsSend, sendable}
use Rattle.std.proofs.Crossing.{crosses, frees}
use Rattle.std.specs.contracts.alloc.Global as Heap
use Rattle.std.specs.contracts.impls.GlobalAllocator.TheImpl.{ghosts}
use Rattle.circular_buffer.proofs.Crosses.{Cells-send, Deed-send}
use Rattle.circular_buffer.specs.contracts.cells.Cells as Cells
use Rattle.circular_buffer.specs.contracts.cells.Deed as Deed
use Rattle.digest_lists.specs.contracts.digest.Digest as Digest
use Rattle.digest_lists.specs.contracts.lists.Lists as Lists
use Rattle.digest_lists.specs.contracts.samples.SentList as SentList
use Rattle.digest_lists.specs.contracts.samples.TakenSample as TakenSample
use Rattle.live_desk.specs.contracts.desk_told.DeskTold as DeskTold
use Rattle.live_desk.specs.declared.naming.Naming as naming
use Rattle.mail_room.specs.contracts.mail.Mail as Mail
use Rattle.mail_room.specs.contracts.mailbox.Mailbox as Mailbox
use Rattle.mail_room.specs.contracts.mailbox.Waiting as Waiting
use Rattle.mail_room.specs.contracts.outbox.Outbox as Outbox
use Rattle.thread_crossings.proofs.Replies.{data_send, response_send}
use Rattle.thread_crossings.proofs.Snapshots.{told_send}

sample_send : IsSend (TakenSample.the_field).row
sample_send = search (data_send, crosses, sendable) depth 60 fits 20000

sent_send : IsSend (SentList.the_field).row
sent_send = search (sample_send, crosses, sendable) depth 60 fits 20000

digest_send : IsSend (Digest.the_field).row
digest_send = search (sample_send, sent_send, crosses, sendable) depth 60 fits 20000

lists_send : IsSend (Lists.the_field).row
lists_send = search (digest_send, crosses, sendable) depth 60 fits 20000

pub desk_told_send : (J : RattleType) (g : naming.Ghosts J.Denot) → IsSend J → IsSend (DeskTold.the_field J g).row
desk_told_send J g s = search (told_send, crosses, sendable) depth 60 fits 20000

waiting_send : (T : RattleType) → IsSend T → IsSend (Waiting.the_field T).row
waiting_send T s = search (response_send, crosses, sendable) depth 60 fits 20000

-- the room of an outbox, which the heap gave
deed_send : (R : RattleType) → IsSend (Deed.the_row R Heap.the_row ghosts)
deed_send R = Deed-send R Heap.the_row ghosts frees

cells_send : (R : RattleType) → IsSend R → IsSend (Cells.the_row R)
cells_send R s = Cells-send R s

outbox_send : (T : RattleType) → IsSend T → IsSend (Outbox.the_field T).row
outbox_send T s = search (deed_send, cells_send, crosses, sendable) depth 60 fits 20000

mailbox_send : (T : RattleType) → IsSend T → IsSend (Mailbox.the_field T).row
mailbox_send T s = search (outbox_send, waiting_send, crosses, sendable) depth 60 fits 20000

pub mail_send : (T : RattleType) → IsSend T → IsSend (Mail.the_field T).row
mail_send T s = search (mailbox_send, lists_send, crosses, sendable) depth 60 fits 20000
