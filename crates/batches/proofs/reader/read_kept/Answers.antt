use Rattle.batches.proofs.reader.read_kept.Goals as goal

pub returns : goal.returns
returns c = c.kept_bytes.ensures.means _ _ c.read_command.ensures
