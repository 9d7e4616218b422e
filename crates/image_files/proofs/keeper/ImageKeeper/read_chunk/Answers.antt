use Rattle.std.proofs.Common.{◌≡◌, ◌+◌, ◌*◌, ℕ, List, length, take, drop, sym, ◌∙◌, ap, subst, arith, rules}
use Rattle.std.proofs.lemmas.List.{with_items_is, length-map}
use Rattle.std.specs.Prelude.{map}
use Rattle.std.specs.Vec.{with_items}
use Rattle.capture_core.specs.declared.taker.Taken.{Taken}
use Rattle.capture_core.specs.declared.taker.Taken.TheVariants.{Word}
use Rattle.image_files.specs.declared.phase.Phase.TheVariants.{Writing}
use Rattle.image_files.specs.Image.{words_from}
use Rattle.image_files.specs.Taken.{filled_words}
use Rattle.image_files.specs.Progress.{Progress, IsInOrder, done}
use Rattle.image_files.specs.Calls.{read_cells}
use Rattle.image_files.specs.View.{progress_of}
use Rattle.image_files.proofs.ChunkLemmas.{length-filled_words, front_of}
use Rattle.image_files.proofs.ChunkReads.{words_read, read_in_order, read_fits, read_done, room_in}
use Rattle.image_files.proofs.keeper.ImageKeeper.read_chunk.Goals as goal

pub read_front-requires-clause-inside : goal.read_front-requires-clause-inside
read_front-requires-clause-inside g c honest =
    let room = room_in c.args.self.now (g.D.Disk.content c.args.newest.now) c.requires.phase (c.requires.image honest) in
    let written = ap (λ (k : Progress). k.written) c.self.view_is in
    let count = ap (λ (k : Progress). length k.chunk) c.self.view_is in
    let cells = ap (λ (k : Progress). k.cells) c.self.view_is in
    omega (arith, room, written, count, cells, c.self.invariant.in_order.within)

pub invariant_of-self-2 : goal.invariant_of-self-2
invariant_of-self-2 g c =
    let k = progress_of c.self.inside in
    let words = words_from c.deref.result.now 0 (length k.chunk) in
    let cells = map (λ (word : ℕ). Word word) (filled_words k.chunk words) in
    let items : (with_items c.self.inside.chunk c.fill.new.cells).items ≡ cells =
    with_items_is c.self.inside.chunk c.fill.new.cells (omega arith)
    ∙ c.fill.ensures ∙ ap (λ (l : List Taken). map (λ (word : ℕ). Word word) (filled_words l (words_from c.deref.result.now 0 (length l)))) c.deref_mut-2.ensures.value in
    record {
      in_order = subst (λ (l : List Taken). IsInOrder (record k { phase = Writing; chunk = l })) (sym items)
          (read_in_order k words c.self.invariant.in_order (ap (λ (p : Progress). p.phase) c.self.view_is ∙ c.requires.phase));
      room = c.self.invariant.room;
      most = omega (arith, c.self.invariant.most, ap length items, length-map (filled_words k.chunk words) (λ (word : ℕ). Word word), length-filled_words k.chunk words);
      bytes = search rules;
    }

pub returns-clause-ok : goal.returns-clause-ok
returns-clause-ok g c =
    let k = progress_of c.self.inside in
    let file = g.D.Disk.content c.args.newest.now in
    let place = 17 + 8 * k.written in
    let n = length k.chunk in
    let buffer = c.read_front.new.buffer in
    let words = words_from c.deref.result.now 0 n in
    let cells = map (λ (word : ℕ). Word word) (filled_words k.chunk words) in
    let items : (with_items c.self.inside.chunk c.fill.new.cells).items ≡ cells =
    with_items_is c.self.inside.chunk c.fill.new.cells (omega arith)
    ∙ c.fill.ensures ∙ ap (λ (l : List Taken). map (λ (word : ℕ). Word word) (filled_words l (words_from c.deref.result.now 0 (length l)))) c.deref_mut-2.ensures.value in (
      cells,
      ap (λ (l : List Taken). record k { phase = Writing; chunk = l }) items ∙ ap (λ (p : Progress). record p { phase = Writing; chunk = cells }) c.self.view_is,
      length-map (filled_words k.chunk words) (λ (word : ℕ). Word word) ∙ length-filled_words k.chunk words ∙ ap (λ (p : Progress). length p.chunk) c.self.view_is,
      λ honest.
          let count : c.len-length.result ≡ n = search rules in
          let front = front_of (8 * n) c.self.inside.buffer.len buffer (drop (length buffer) c.self.inside.buffer.items) c.deref.result.now c.deref.ensures.value (omega arith) (omega arith) in
          let read = subst (λ (m : ℕ). take (8 * m) buffer ≡ take (8 * m) (drop place file)) count (c.in_default.ensures.read honest) in
          let room = room_in c.args.self.now file c.requires.phase (c.requires.image honest) in
          let cells_is : k.cells ≡ c.args.self.now.cells = ap (λ (p : Progress). p.cells) c.self.view_is in
          let here : words ≡ words_from file place n = words_read c.deref.result.now file place n (front ∙ read) (omega arith) (omega (arith, room, cells_is, c.self.invariant.in_order.within)) in
          ap (λ (l : List ℕ). map (λ (word : ℕ). Word word) (filled_words k.chunk l)) here
          ∙ ap (λ (p : Progress). read_cells p file) c.self.view_is,
    )

pub returns-clause-goes_on : goal.returns-clause-goes_on
returns-clause-goes_on g c =
    let k = c.args.self.now in
    let file = g.D.Disk.content c.args.newest.now in
    let ok = returns-clause-ok g c in
    record {
      fits = λ honest target fits. rw ((c.in_default.ensures.stays honest).0, ok.1, ok.3 honest) (read_fits k target file c.requires.phase fits);
      done = λ honest target fits.
          let filled : done (record k { phase = Writing; chunk = ok.0 }) target file ≡ done k target file =
          ap (λ (l : List Taken). done (record k { phase = Writing; chunk = l }) target file) (ok.3 honest) ∙ read_done k target file c.requires.phase fits in
          rw (c.in_default.ensures.stays honest).0 (ap (λ (p : Progress). done p target file) ok.1 ∙ filled);
      stays = c.in_default.ensures.stays;
    }
