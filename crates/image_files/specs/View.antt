-- A keeper's fields, as contracts see them.
use Rattle.std.specs.Prelude.{◌≡◌, ◌*◌, ◌≤◌, length, vec_capacity}
use Rattle.image_files.specs.declared.format.TheConstants.{WORD_BYTES}
use Rattle.image_files.specs.declared.chunk.TheConstants.{CHUNK_CELLS}
use Rattle.image_files.specs.Progress.{Progress, IsInOrder}
use Rattle.image_files.specs.declared.keeper.ImageKeeper.TheInside.{Inside}

abbrev pub progress_of : Inside → Progress
progress_of keeper = record {
  cells = keeper.cells;
  newest = keeper.newest;
  target_shut = keeper.target_shut;
  newest_shut = keeper.newest_shut;
  phase = keeper.phase;
  tick = keeper.tick;
  written = keeper.written;
  chunk = keeper.chunk.items;
}

-- the keeper is in order, and has room for a chunk, as cells and as bytes
pub record IsReady (keeper : Inside) : Type 0 where
  pub in_order : IsInOrder (progress_of keeper)
  pub room : CHUNK_CELLS ≤ vec_capacity keeper.chunk
  pub most : length keeper.chunk.items ≤ CHUNK_CELLS
  pub bytes : length keeper.buffer.items ≡ CHUNK_CELLS * WORD_BYTES
