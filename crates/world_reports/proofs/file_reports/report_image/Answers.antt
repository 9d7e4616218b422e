use Rattle.std.proofs.Common.{◌≡◌, rules}
use Rattle.image_files.specs.Image.{Image, image_of}
use Rattle.world_reports.proofs.FormatLemmas.{image_format}
use Rattle.world_reports.proofs.file_reports.report_image.Goals as goal

pub unwrap-requires : goal.unwrap-requires
unwrap-requires c =
    let image : image_of c.args.bytes.now ≡ Image.Open c.in-Ok-Open.tick c.in-Ok-Open.words.items = search rules in
    let found = image_format c.args.bytes.now c.in-Ok-Open.tick c.in-Ok-Open.words.items image in
    search rules
