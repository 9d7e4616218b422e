-- The workers that may cross threads: those whose parts may.
use denote.RattleType.{RattleType}
use denote.Struct.Struct.{Struct}
use denote.Struct.Declared.{shape}
use denote.Param.Send.{IsSend, view_send, recorded_send, struct_send, sendable}
use Rattle.std.proofs.Crossing.{crosses}
use Rattle.shared_capture.specs.contracts.back.Back as Back
use Rattle.shared_capture.specs.contracts.front.Front as Front
use Rattle.shared_capture.specs.contracts.signal.SignalOut as SignalOut
use Rattle.shared_capture.specs.contracts.signal.SignalIn as SignalIn
use Rattle.shared_capture.specs.declared.method.Method as method
use Rattle.disk_model.specs.declared.disk.Disk as disk
use Rattle.workers.specs.declared.gate.Gate as gate
use Rattle.world_ticks.specs.contracts.tick.Tick as Tick
use Rattle.workers.specs.contracts.ask_channel.AskReceiver as AskReceiver
use Rattle.workers.specs.contracts.item_channel.ItemSender as ItemSender
use Rattle.workers.specs.contracts.item_channel.ItemReceiver as ItemReceiver
use Rattle.workers.specs.contracts.mutator.Mutator as Mutator
use Rattle.workers.specs.contracts.checkpointer.Checkpointer as Checkpointer
use Rattle.workers.specs.contracts.checkpointer.publisher.Publisher as Publisher
use Rattle.workers.specs.contracts.log_writer.LogWriter as LogWriter
use Rattle.workers.specs.contracts.log_writer.answers.Answers as Answers
use Rattle.workers.specs.contracts.post.Waiting as Waiting
use Rattle.action_log.specs.contracts.record.Record as Record
use Rattle.circular_buffer.specs.contracts.heap.HeapCircularBuffer as Ring
use Rattle.std.specs.contracts.alloc.Global as Heap
use Rattle.std.specs.contracts.impls.GlobalAllocator.TheImpl.{ghosts}

pub mutator_sends : (M G : RattleType) (m : method.Ghosts M.Denot) (h : gate.Ghosts G.Denot)
    → IsSend G → IsSend AskReceiver.the_row → IsSend (Front.the_row M m) → IsSend ItemSender.the_row → IsSend SignalIn.the_row
    → IsSend Tick.the_row → IsSend Waiting.the_row → IsSend (Mutator.the_row M G m h)
mutator_sends M G m h gates asks front to heard tick waiting =
    let T = Mutator.TheInside.the_type M G m h in
    view_send (Mutator.TheInside.the_row M G m h) _ _ _ _ (recorded_send (Struct (shape T)) T.D T.to T.to_one (struct_send (shape T) (
      gates,
      (
        search (sendable, crosses) depth 60 fits 20000,
        (
          asks,
          (
            front,
            (
              to,
              (
                search (sendable, crosses) depth 60 fits 20000,
                (
                  search (sendable, crosses) depth 60 fits 20000,
                  (
                    heard,
                    (
                      search (sendable, crosses) depth 60 fits 20000,
                      (
                        search (sendable, crosses) depth 60 fits 20000,
                        (search (sendable, crosses) depth 60 fits 20000, (search (sendable, crosses) depth 60 fits 20000, (search (sendable, crosses) depth 60 fits 20000, tt))),
                      ),
                    ),
                  ),
                ),
              ),
            ),
          ),
        ),
      ),
    )))

publisher_sends : IsSend SignalOut.the_row → IsSend Publisher.the_row
publisher_sends covers =
    let T = Publisher.TheInside.the_type in
    view_send Publisher.TheInside.the_row _ _ _ _ (recorded_send (Struct (shape T)) T.D T.to T.to_one (struct_send (shape T)
    (covers, tt)))

pub checkpointer_sends : (M D G : RattleType) (m : method.Ghosts M.Denot) (d : disk.Ghosts D.Denot) (h : gate.Ghosts G.Denot)
    → IsSend D → IsSend G → IsSend (Back.the_row M m) → IsSend SignalOut.the_row → IsSend (Checkpointer.the_row M D G m d h)
checkpointer_sends M D G m d h disks gates back covers =
    let T = Checkpointer.TheInside.the_type M D G m d h in
    view_send (Checkpointer.TheInside.the_row M D G m d h) _ _ _ _ (recorded_send (Struct (shape T)) T.D T.to T.to_one (struct_send (shape T) (
      gates,
      (
        back,
        (
          publisher_sends covers,
          (
            search (sendable, crosses) depth 60 fits 20000,
            (search (sendable, crosses) depth 60 fits 20000, (search (sendable, crosses) depth 60 fits 20000, (search (sendable, crosses) depth 60 fits 20000, tt))),
          ),
        ),
      ),
    )))

pub answers_send : IsSend (Ring.the_row Waiting.the_row Heap.the_row ghosts) → IsSend Answers.the_row
answers_send waiting =
    let T = Answers.TheInside.the_type in
    view_send Answers.TheInside.the_row _ _ _ _ (recorded_send (Struct (shape T)) T.D T.to T.to_one (struct_send (shape T)
    (waiting, (search (sendable, crosses) depth 60 fits 20000, tt))))

pub log_writer_sends : (D G : RattleType) (d : disk.Ghosts D.Denot) (h : gate.Ghosts G.Denot)
    → IsSend D → IsSend G → IsSend ItemReceiver.the_row → IsSend SignalIn.the_row → IsSend (Ring.the_row Record.the_row Heap.the_row ghosts) → IsSend (Ring.the_row Waiting.the_row Heap.the_row ghosts)
    → IsSend SignalOut.the_row → IsSend (LogWriter.the_row D G d h)
log_writer_sends D G d h disks gates from covers ring waiting reported =
    let T = LogWriter.TheInside.the_type D G d h in
    let answers = answers_send waiting in
    view_send (LogWriter.TheInside.the_row D G d h) _ _ _ _ (recorded_send (Struct (shape T)) T.D T.to T.to_one (struct_send (shape T) (
      gates,
      (
        from,
        (
          covers,
          (
            reported,
            (
              search (sendable, crosses) depth 60 fits 20000,
              (
                ring,
                (
                  answers,
                  (
                    search (sendable, crosses) depth 60 fits 20000,
                    (search (sendable, crosses) depth 60 fits 20000, (search (sendable, crosses) depth 60 fits 20000, (search (sendable, crosses) depth 60 fits 20000, tt))),
                  ),
                ),
              ),
            ),
          ),
        ),
      ),
    )))
