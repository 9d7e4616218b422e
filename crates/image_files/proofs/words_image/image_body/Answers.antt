use Rattle.std.proofs.Common.{rules}
use Rattle.std.proofs.Common.{◌≡◌, ◌++◌, ◌+◌, ℕ, List, length, take, ap, arith, length-append}
use Rattle.std.specs.List.{flat_map}
use Rattle.std.proofs.lemmas.List.{length-take}
use Rattle.file_format.specs.Number.{number_bytes}
use Rattle.file_format.proofs.NumberLemmas.{length-number_bytes}
use Rattle.image_files.proofs.WordsImageLemmas.{length_words}
use Rattle.image_files.proofs.words_image.image_body.Goals as goal

-- a number takes eight bytes
length_put : (before after : List ℕ) (n : ℕ) → after ≡ before ++ number_bytes 8 n → length after ≡ length before + 8
length_put before after n put = omega (arith, ap length put, length-append before (number_bytes 8 n), length-number_bytes 8 n)

pub put_u64-requires-2 : goal.put_u64-requires-2
put_u64-requires-2 c = search (rules, length_put)

pub put_u64-requires-in-loop-word : goal.put_u64-requires-in-loop-word
put_u64-requires-in-loop-word c =
    let done = take c.loop-word.word-index c.args.words.now in
    omega (
      arith,
      ap length c.loop-word.invariant.spelled,
      length-append c.put_u64-2.new.bytes.items (flat_map (number_bytes 8) done),
      length_words done,
      length-take c.loop-word.word-index c.args.words.now,
      c.loop-word.invariant.room,
      c.loop-word-test.true,
      length_put c.put_u64.new.bytes.items c.put_u64-2.new.bytes.items c.args.tick c.put_u64-2.ensures.put,
      c.put_u64-2.ensures.capacity,
      length_put c.in_ok-body.body.items c.put_u64.new.bytes.items c.marked.result c.put_u64.ensures.put,
      c.put_u64.ensures.capacity,
      c.in_ok-body.ensures.capacity,
      ap length c.in_ok-body.ensures.items,
    )
