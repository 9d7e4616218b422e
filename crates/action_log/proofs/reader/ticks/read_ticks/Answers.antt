use Rattle.std.proofs.Common.{◌++◌, ◌∷◌, [], Some, None, inl, inr, sym, ap, ◌∙◌}
use Rattle.std.proofs.lemmas.Result.{err_from_is_err_and}
use mir.Facts.{Fits-lt-pow}
use Rattle.action_log.specs.LogState.{listed}
use Rattle.action_log.proofs.GroupLemmas.{joined_with}
use Rattle.action_log.proofs.GroupReadingLemmas.{read_to_start, read_to_next, read_to_bad, read_to_end, ticks_by}
use Rattle.action_log.proofs.reader.ticks.read_ticks.Goals as goal

pub loop-group-init : goal.loop-group-init
loop-group-init c = record {
  done = [];
  all_are = ap listed c.in_ok-ticks.ensures.items;
  so_far = read_to_start c.args.format c.args.bytes.now (λ i. Fits-lt-pow (c.type_inv.bytes i));
}

pub returns-in_err-rest-clause-refused : goal.returns-in_err-rest-clause-refused
returns-in_err-rest-clause-refused c =
    let p = err_from_is_err_and c.from_residual-in_err-rest.result c.from_residual-in_err-rest.ensures.1 in
    let read = c.loop-group.invariant in
    rw (p.1, p.2) (elim c.in_err-rest.ensures.refused [
      | inl memory ↦ inl memory
      | inr bad
          ↦ inr (
            bad.0,
            ticks_by c.args.format c.args.bytes.now None
                (read_to_bad c.args.format c.args.bytes.now read.done c.loop-group.rest.now c.in-Some.group.now read.so_far c.in-Some.ensures.gate bad.1),
          )
    ])

pub loop-group-smaller : goal.loop-group-smaller
loop-group-smaller c =
    let read = c.loop-group.invariant in
    let group = c.in_ok-rest.ensures.read in
    (read_to_next c.args.format c.args.bytes.now read.done c.loop-group.rest.now c.in-Some.group.now group.0 c.in_ok-rest.rest.now read.so_far c.in-Some.ensures.gate group.1).1

pub loop-group-preserved : goal.loop-group-preserved
loop-group-preserved c =
    let read = c.loop-group.invariant in
    let group = c.in_ok-rest.ensures.read in
    record {
      done = read.done ++ group.0 ∷ [];
      all_are = group.2 ∙ ap (λ l. l ++ group.0) read.all_are ∙ sym (joined_with read.done group.0);
      so_far = (read_to_next c.args.format c.args.bytes.now read.done c.loop-group.rest.now c.in-Some.group.now group.0 c.in_ok-rest.rest.now read.so_far c.in-Some.ensures.gate group.1).0;
    }

pub returns-clause-read : goal.returns-clause-read
returns-clause-read c =
    let read = c.loop-group.invariant in
    ticks_by c.args.format c.args.bytes.now (Some read.done) (read_to_end c.args.format c.args.bytes.now read.done c.loop-group.rest.now read.so_far c.in_default.ensures.ends)
    ∙ ap (λ l. Some l) (sym read.all_are)
