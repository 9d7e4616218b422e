use Rattle.std.proofs.Common.{◌+◌, ◌*◌, length, drop, arith}
use Rattle.image_files.proofs.SpellingLemmas.{image_read, image_spelled, most_of, open_file, words_limited}
use Rattle.image_files.proofs.format.images_read_back.Goals as goal

pub returns-clause-read : goal.returns-clause-read
returns-clause-read c = image_read

pub returns-clause-spelled : goal.returns-clause-spelled
returns-clause-spelled c bytes tick words are_bytes is =
    let file = open_file bytes tick words is in
    (file.format, file.most, drop (17 + 8 * length words) bytes, image_spelled c.numbers_read_back.ensures.spelled bytes tick words are_bytes file)

pub returns-clause-bounds : goal.returns-clause-bounds
returns-clause-bounds c bytes tick words is =
    let file = open_file bytes tick words is in
    (file.small, record { some = file.some; most = omega (arith, file.most, most_of file.format); limit = words_limited words file.pass })
