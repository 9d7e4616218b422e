use Rattle.std.proofs.Common.{ℕ, ◌/◌, ◌%◌, ◌∙◌, sym, ap, set, true, rules}
use Rattle.packed_marks.specs.Bits.{is_set}
use Rattle.shared_capture.specs.States.{FrontState}
use Rattle.shared_capture.proofs.Fronts.{mark_read, ping_pong_touched, ping_pong_retouched}
use Rattle.shared_capture.proofs.front.Front.write_ping_pong.Goals as goal

pub returns-then-has_bit : goal.returns-then-has_bit
returns-then-has_bit g c =
    let read = mark_read _ _ c.self.inside.seat.table_id _ _ _ _ _ _ c.args.i c.index.result.now c.args.self.now c.self.invariant.0 c.self.view_is c.requires.inside c.index.ensures in
    record {
      live = search rules;
      touched = ping_pong_retouched _ _ _ _ c.store_value.new.seat _ _ _ _ c.self.invariant.0 _ c.args.i c.args.v c.requires.kind c.store_value.ensures
          (ap (λ (z : ℕ). is_set z (c.args.i % 64)) (sym read) ∙ sym c.if-has_bit.ensures) ∙ ap (λ (w : FrontState). set w.touched c.args.i true) c.self.view_is;
      same = search rules;
      steps = search rules;
    }

pub returns : goal.returns
returns g c =
    let read = mark_read _ _ c.self.inside.seat.table_id _ _ _ _ _ _ c.args.i c.index-2.result.now c.args.self.now c.self.invariant.0 c.self.view_is c.requires.inside c.index-2.ensures in
    record {
      live = search rules;
      touched = ping_pong_touched _ _ _ _ c.store_mark.new.seat _ _ _ _ c.self.invariant.0 _ _ c.store_value-2.new.seat c.args.i c.args.v
          c.with_bit-word.result (search rules) c.requires.kind c.store_value-2.ensures c.store_mark.ensures
          c.with_bit-word.ensures.here (λ j l ne. c.with_bit-word.ensures.others j l ne ∙ ap (λ (z : ℕ). is_set z j) read) ∙ ap (λ (w : FrontState). set w.touched c.args.i true) c.self.view_is;
      same = search rules;
      steps = search rules;
    }
