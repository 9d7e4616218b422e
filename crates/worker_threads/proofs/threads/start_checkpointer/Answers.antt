use denote.Param.{param}
use denote.Param.Send.{IsSend, param_send}
use Rattle.shared_capture.specs.contracts.back.Back as Back
use Rattle.shared_capture.specs.contracts.signal.SignalOut as SignalOut
use Rattle.worker_threads.proofs.Sends.{checkpointer_sends}
use Rattle.worker_threads.proofs.threads.start_checkpointer.Goals as goal

pub spawn-requires-send-T : goal.spawn-requires-send-T
spawn-requires-send-T g c κs within =
    let back : IsSend (Back.the_row (param 1 g.row.M) g.M.Method) = record { owned = c.crosses.ensures.owned; leaving = λ k d w. tt } in
    let covers : IsSend SignalOut.the_row = record { owned = c.crosses-2.ensures.owned; leaving = λ k d w. tt } in
    let whole = checkpointer_sends (param 1 g.row.M) (param 2 g.row.D) (param 3 g.row.G) g.M.Method g.D.Disk g.G.Gate c.type_bounds.send-D c.type_bounds.send-G back covers in
    record { owned = whole.owned; leaving = (param_send 2 _ whole).leaving }
