use denote.Param.{param}
use denote.Param.Send.{IsSend, param_send}
use Rattle.std.specs.contracts.alloc.Global as Heap
use Rattle.std.specs.contracts.impls.GlobalAllocator.TheImpl.{ghosts}
use Rattle.circular_buffer.specs.contracts.heap.HeapCircularBuffer as Ring
use Rattle.action_log.specs.contracts.record.Record as Record
use Rattle.workers.specs.contracts.post.Waiting as Waiting
use Rattle.workers.specs.contracts.item_channel.ItemReceiver as ItemReceiver
use Rattle.shared_capture.specs.contracts.signal.SignalIn as SignalIn
use Rattle.shared_capture.specs.contracts.signal.SignalOut as SignalOut
use Rattle.worker_threads.proofs.Sends.{log_writer_sends}
use Rattle.worker_threads.proofs.threads.start_log_writer.Goals as goal

pub spawn-requires-send-T : goal.spawn-requires-send-T
spawn-requires-send-T g c κs within =
    let from : IsSend ItemReceiver.the_row = record { owned = c.crosses.ensures.owned; leaving = λ k d w. tt } in
    let covers : IsSend SignalIn.the_row = record { owned = c.crosses-2.ensures.owned; leaving = λ k d w. tt } in
    let ring : IsSend (Ring.the_row Record.the_row Heap.the_row ghosts) = record { owned = c.crosses-3.ensures.owned; leaving = λ k d w. tt } in
    let waiting : IsSend (Ring.the_row Waiting.the_row Heap.the_row ghosts) = record { owned = c.crosses-4.ensures.owned; leaving = λ k d w. tt } in
    let reported : IsSend SignalOut.the_row = record { owned = c.crosses-5.ensures.owned; leaving = λ k d w. tt } in
    let whole = log_writer_sends (param 1 g.row.D) (param 2 g.row.G) g.D.Disk g.G.Gate c.type_bounds.send-D c.type_bounds.send-G from covers ring waiting reported in
    record { owned = whole.owned; leaving = (param_send 2 _ whole).leaving }
