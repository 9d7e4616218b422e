use denote.Param.{param}
use denote.Param.Send.{IsSend, param_send}
use Rattle.workers.specs.contracts.ask_channel.AskReceiver as AskReceiver
use Rattle.shared_capture.specs.contracts.front.Front as Front
use Rattle.shared_capture.specs.contracts.signal.SignalIn as SignalIn
use Rattle.world_ticks.specs.contracts.tick.Tick as Tick
use Rattle.workers.specs.contracts.post.Waiting as Waiting
use Rattle.workers.specs.contracts.item_channel.ItemSender as ItemSender
use Rattle.worker_threads.proofs.Sends.{mutator_sends}
use Rattle.worker_threads.proofs.threads.start_mutator.Goals as goal

pub spawn-requires-send-T : goal.spawn-requires-send-T
spawn-requires-send-T g c κs within =
    let asks : IsSend AskReceiver.the_row = record { owned = c.crosses.ensures.owned; leaving = λ k d w. tt } in
    let front : IsSend (Front.the_row (param 1 g.row.M) g.M.Method) = record { owned = c.crosses-2.ensures.owned; leaving = λ k d w. tt } in
    let to : IsSend ItemSender.the_row = record { owned = c.crosses-3.ensures.owned; leaving = λ k d w. tt } in
    let heard : IsSend SignalIn.the_row = record { owned = c.crosses-4.ensures.owned; leaving = λ k d w. tt } in
    let tick : IsSend Tick.the_row = record { owned = c.crosses-5.ensures.owned; leaving = λ k d w. tt } in
    let waiting : IsSend Waiting.the_row = record { owned = c.crosses-6.ensures.owned; leaving = λ k d w. tt } in
    let whole = mutator_sends (param 1 g.row.M) (param 2 g.row.G) g.M.Method g.G.Gate c.type_bounds.send-G asks front to heard tick waiting in
    record { owned = whole.owned; leaving = (param_send 2 _ whole).leaving }
