use Rattle.std.proofs.Common.{◌≡◌, ◌+◌, ◌*◌, ℕ, [], IsTrue, length, take, drop, ◌∙◌, ap, arith, rules}
use Rattle.std.specs.List.{flat_map}
use Rattle.disk_model.specs.Disk.{overwritten}
use Rattle.file_format.specs.Number.{number_bytes}
use Rattle.image_files.specs.Taken.{filled_words}
use Rattle.image_files.specs.Progress.{Progress}
use Rattle.image_files.specs.View.{progress_of}
use Rattle.image_files.proofs.ChunkLemmas.{front_of}
use Rattle.image_files.proofs.ChunkWrites.{chunk_fits, chunk_done, torn_done, chunk_endures, chunk_down}
use Rattle.image_files.proofs.keeper.ImageKeeper.write_chunk.Goals as goal

pub returns-clause-goes_on : goal.returns-clause-goes_on
returns-clause-goes_on g c =
    let k = progress_of c.self.inside in
    let file = g.D.Disk.content c.args.target.now in
    let new = g.D.Disk.content c.write_at.new.self in
    let phase = ap (λ (k : Progress). k.phase) c.self.view_is ∙ c.requires.phase in
    let buffer = c.encode.new.buffer in
    let n = 8 * length k.chunk in
    let count : c.len-count.result ≡ length k.chunk = search rules in
    let front = front_of n c.self.inside.buffer.len buffer (drop (length buffer) c.self.inside.buffer.items) c.deref-2.result.now c.deref-2.ensures.value (omega arith) (omega arith) in
    let bytes : take n c.deref-2.result.now ≡ flat_map (number_bytes 8) (filled_words k.chunk []) = front ∙ search rules in
    let written : (honest : IsTrue g.D.Disk.honest) → new ≡ overwritten file (17 + 8 * k.written) (flat_map (number_bytes 8) (filled_words k.chunk [])) =
    λ honest. c.in_default.ensures.written honest ∙ ap
    (λ (m : ℕ). overwritten file (17 + 8 * k.written) (take (8 * m) c.deref-2.result.now)) count ∙ ap (overwritten file (17 + 8 * k.written)) bytes in
    rw (← c.self.view_is) (record {
      fits = λ honest newest fits. rw (c.finish_chunk.ensures.ended, written honest) (chunk_fits k file newest phase fits);
      done = λ honest newest fits. rw (c.finish_chunk.ensures.ended, written honest) (chunk_done k file newest phase fits);
      endures = λ honest read newest fits stood.
          rw c.finish_chunk.ensures.ended
          (chunk_endures k file newest phase fits new _ (g.D.Disk.may_leave c.args.target.now) (g.D.Disk.may_leave c.write_at.new.self) (c.in_default.ensures.crash honest) read stood);
    })

pub returns-in-Err-clause-goes_on : goal.returns-in-Err-clause-goes_on
returns-in-Err-clause-goes_on g c =
    let k = progress_of c.self.inside in
    let file = g.D.Disk.content c.args.target.now in
    let phase = ap (λ (k : Progress). k.phase) c.self.view_is ∙ c.requires.phase in
    rw (← c.self.view_is) (record {
      fits = search rules;
      done = λ honest newest fits. rw c.go_down.ensures (torn_done k file newest phase fits _ _ (c.in-Err.ensures.torn honest));
      endures = λ honest read newest fits stood.
          rw c.go_down.ensures
          (chunk_down k file newest phase fits (g.D.Disk.content c.write_at.new.self) _ (g.D.Disk.may_leave c.args.target.now)
          (g.D.Disk.may_leave c.write_at.new.self) (c.in-Err.ensures.crash honest) read stood);
    })
