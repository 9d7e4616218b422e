use Rattle.std.proofs.Common.{refl, inl, inr, sym, subst, ◌≡◌, List, ℕ, [], take, arith}
use Rattle.std.proofs.lemmas.List.{take_all}
use Rattle.sessions.specs.Session.{line_of}
use Rattle.std.proofs.lemmas.Result.{err_from_is_err_and}
use Rattle.world_actions.specs.declared.refusal.Refusal.TheVariants.{BadLine}
use Rattle.batches.specs.Answer.{fault_text}
use Rattle.sessions.specs.Progress.{Goes}
use Rattle.byte_streams.proofs.StreamLemmas.{Appends-none}
use Rattle.sessions.proofs.ProgressLemmas.{goes_more, goes_whole, too_long_ends, too_long_breaks, whole_breaks}
use Rattle.sessions.proofs.serve.serve_some.Goals as goal

pub returns-in-More-clause-done : goal.returns-in-More-clause-done
returns-in-More-clause-done g c =
    let more = c.take-n.ensures.more c.in-More.is in
    let all : take c.take-n.result.0 c.args.piece.now ≡ c.args.piece.now = take_all c.take-n.result.0 c.args.piece.now (omega (arith, more.0)) in (
      [],
      Appends-none _,
      subst (λ (b : List ℕ). Goes g.X.World.runs c.args.world.now c.args.session.now.reader b c.take-n.new.self c.args.world.now []) (sym all)
          (goes_more g.X.World.runs c.args.world.now c.args.session.now.reader c.take-n.new.self c.args.piece.now more.1),
    )

pub returns-in_ok-answer_batch-in-Whole-clause-done : goal.returns-in_ok-answer_batch-in-Whole-clause-done
returns-in_ok-answer_batch-in-Whole-clause-done g c =
    let done = c.in_ok-answer_batch-in-Whole.ensures.done in (
      line_of done.0,
      done.2,
      goes_whole g.X.World.runs c.args.world.now c.answer_batch.new.world c.args.session.now.reader c.clear.new.self (take c.take-n.result.0 c.args.piece.now) c.take-n.new.self.requests done.0
          (c.take-n.ensures.whole c.in-Whole.is) (subst (λ l. g.X.World.runs c.args.world.now l done.0 c.answer_batch.new.world) c.batch.ensures done.1) c.clear.ensures.begun,
    )

pub returns-in_err-answer_batch-in-Whole-clause-fault : goal.returns-in_err-answer_batch-in-Whole-clause-fault
returns-in_err-answer_batch-in-Whole-clause-fault g c =
    let fault = c.in_err-answer_batch-in-Whole.ensures.fault in
    let p = err_from_is_err_and c.from_residual.result c.from_residual.ensures.1 in
    let run = subst (λ l. g.X.World.runs c.args.world.now l fault.1 c.answer_batch.new.world) c.batch.ensures fault.2 in
    let breaks = whole_breaks g.X.World.runs c.one_reading.ensures.some c.args.world.now c.answer_batch.new.world
    c.args.session.now.reader c.take-n.result.0 c.args.piece.now fault.3 c.take-n.new.self.requests fault.1
    (c.take-n.ensures.whole c.in-Whole.is) run fault.4 in
    rw (p.1, p.2) (fault.3, fault.5, inr (fault.0, breaks))

pub returns-in_err-write_fault-in-TooLong-clause-fault : goal.returns-in_err-write_fault-in-TooLong-clause-fault
returns-in_err-write_fault-in-TooLong-clause-fault g c =
    let fault = c.in_err-write_fault-in-TooLong.ensures.fault in
    let p = err_from_is_err_and c.from_residual-in_err-write_fault-in-TooLong.result c.from_residual-in_err-write_fault-in-TooLong.ensures.1 in
    let breaks = too_long_breaks g.X.World.runs c.one_reading.ensures.some c.args.world.now c.args.session.now.reader
    c.take-n.result.0 c.args.piece.now fault.1 (c.take-n.ensures.too_long c.in-TooLong.is) fault.2 in
    rw (p.1, p.2) (fault.1, fault.3, inr (fault.0, breaks))

pub returns-in_ok-write_fault-in-TooLong-clause-fault : goal.returns-in_ok-write_fault-in-TooLong-clause-fault
returns-in_ok-write_fault-in-TooLong-clause-fault g c =
    let ends = too_long_ends g.X.World.runs c.one_reading.ensures.some c.args.world.now c.args.session.now.reader c.take-n.result.0 c.args.piece.now (c.take-n.ensures.too_long c.in-TooLong.is) in
    (fault_text BadLine, c.in_ok-write_fault-in-TooLong.ensures.done, inl (refl, ends))
