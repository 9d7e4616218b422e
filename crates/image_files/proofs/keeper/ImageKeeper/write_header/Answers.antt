use Rattle.std.proofs.Common.{length, take, drop, sym, ap, subst, arith, rules, ◌∙◌}
use Rattle.image_files.specs.Progress.{Progress}
use Rattle.image_files.specs.Keeper.{Fits}
use Rattle.image_files.specs.View.{progress_of}
use Rattle.image_files.proofs.ChunkLemmas.{front_of}
use Rattle.image_files.proofs.BodyLemmas.{header_written}
use Rattle.image_files.proofs.keeper.ImageKeeper.write_header.Goals as goal

pub returns-clause-goes_on : goal.returns-clause-goes_on
returns-clause-goes_on g c =
    let file = g.D.Disk.content c.args.target.now in
    let bytes = c.encode_header.new.buffer in
    let header = front_of 16 c.self.inside.buffer.len bytes (drop (length bytes) c.self.inside.buffer.items) c.deref.result.now c.deref.ensures.value (omega arith) (omega arith) in
    record {
      fits = λ honest newest fits.
          header_written (progress_of c.self.inside) file (g.D.Disk.content c.write_at.new.self) newest (take 16 c.deref.result.now)
          (ap (λ (k : Progress). k.phase) c.self.view_is ∙ c.requires.phase) (c.requires.gate honest) (c.in_default.ensures.written honest) (header ∙ c.encode_header.ensures)
          (subst (λ (k : Progress). Fits k file newest) (sym c.self.view_is) fits);
      done = search rules;
      endures = search rules;
    }
