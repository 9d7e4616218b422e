use Rattle.std.proofs.Common.{◌≡◌, ◌≤◌, min, length, take, sym, ap, ◌∙◌, arith, rules}
use Rattle.std.proofs.lemmas.List.{take_min}
use Rattle.image_files.specs.declared.format.TheConstants.{HEADER_BYTES}
use Rattle.image_files.specs.Image.{image_of}
use Rattle.file_readers.specs.declared.image.TheConstants.{IMAGE_BYTES_MAX}
use Rattle.file_readers.proofs.AskingLemmas.{asked_first, asked_read, asked_wider}
use Rattle.file_readers.proofs.ImageLemmas.{image_exact}
use Rattle.file_readers.proofs.image.read_image_file.Goals as goal

pub returns-in_err-read_forward-clause-asked : goal.returns-in_err-read_forward-clause-asked
returns-in_err-read_forward-clause-asked g c =
    asked_first g.D.Disk.called IMAGE_BYTES_MAX c.args.disk.now c.len.new.self c.read_forward.new.disk _ _ _ c.len.ensures.called
    (omega (arith, ap length c.new-bytes.ensures.items, c.min.ensures)) c.read_forward.ensures.asked

pub returns-in_err-read_forward-2-clause-asked : goal.returns-in_err-read_forward-2-clause-asked
returns-in_err-read_forward-2-clause-asked g c =
    asked_read g.D.Disk.called IMAGE_BYTES_MAX c.args.disk.now c.read_forward.new.disk c.read_forward-2.new.disk _ _
    (asked_first g.D.Disk.called IMAGE_BYTES_MAX c.args.disk.now c.len.new.self c.read_forward.new.disk _ _ _ c.len.ensures.called
    (omega (arith, ap length c.new-bytes.ensures.items, c.min.ensures)) c.read_forward.ensures.asked)
    (omega (arith, c.min-2.ensures, c.image_end-end.ensures.most, c.image_end-end.ensures.least, c.in_ok-read_forward.ensures.longer, c.min.ensures)) c.read_forward-2.ensures.asked

pub returns-clause-no_further : goal.returns-clause-no_further
returns-clause-no_further g c =
    let most = length c.read_forward-2.new.bytes.items in
    let longer = c.in_ok-read_forward-2.ensures.longer in
    let header : length c.read_forward.new.bytes.items
    ≤ most = omega (arith, longer.0, c.min-2.ensures, c.image_end-end.ensures.least, ap length c.deref.ensures.value, c.in_ok-read_forward.ensures.longer, c.min.ensures) in
    asked_read g.D.Disk.called most c.args.disk.now c.read_forward.new.disk c.read_forward-2.new.disk _ _
    (asked_first g.D.Disk.called most c.args.disk.now c.len.new.self c.read_forward.new.disk _ _ _ c.len.ensures.called
    (omega (arith, ap length c.new-bytes.ensures.items, header, c.in_ok-read_forward.ensures.longer)) c.read_forward.ensures.asked)
    (omega (arith, longer.0, header)) c.read_forward-2.ensures.asked

pub returns-clause-asked : goal.returns-clause-asked
returns-clause-asked g c =
    asked_wider g.D.Disk.called (length c.read_forward-2.new.bytes.items) IMAGE_BYTES_MAX c.args.disk.now c.read_forward-2.new.disk
    (omega (arith, c.min-2.ensures, c.in_ok-read_forward-2.ensures.longer, c.image_end-end.ensures.most)) (returns-clause-no_further g c)

pub returns-clause-exact : goal.returns-clause-exact
returns-clause-exact g c tick words is = search (rules, image_exact)

pub returns-clause-read : goal.returns-clause-read
returns-clause-read g c honest =
    let content = g.D.Disk.content in
    let file = content c.args.disk.now in
    let header = c.read_forward.new.bytes.items in
    let bytes = c.read_forward-2.new.bytes.items in
    let long : c.in_ok-len.len ≡ length file = c.in_ok-len.ensures.length honest in
    let first : header ≡ take c.min.result file =
    c.in_ok-read_forward.ensures.read honest (search rules) ∙ ap (take c.min.result) (c.len.ensures.content honest) in
    let same = (c.in_ok-read_forward.ensures.kept honest).same_content ∙ c.len.ensures.content honest in
    let all : bytes ≡ take c.min-2.result file =
    c.in_ok-read_forward-2.ensures.read honest (first ∙ ap (λ n. take n file) (sym c.in_ok-read_forward.ensures.longer.0) ∙ ap (take (length header)) (sym same)) ∙ ap (take c.min-2.result) same in
    let end : c.min-2.result ≡ min c.image_end-end.result (length file) = omega (arith, c.min-2.ensures, long) in
    let header_end : c.min.result ≡ min HEADER_BYTES (length file) = omega (arith, c.min.ensures, long) in
    let head : c.deref.result.now ≡ take HEADER_BYTES file = c.deref.ensures.value ∙ first ∙ ap (λ n. take n file) header_end ∙ take_min HEADER_BYTES file in
    record {
      front = record {
        first = all ∙ ap (λ n. take n file) (sym c.in_ok-read_forward-2.ensures.longer.0);
        gate = λ some. omega (
          arith,
          some,
          end,
          header_end,
          c.in_ok-read_forward-2.ensures.longer.0,
          c.in_ok-read_forward.ensures.longer.0,
          ap length c.deref.ensures.value,
          c.image_end-end.ensures.least,
        );
      };
      reads = ap image_of (all ∙ ap (λ n. take n file) end ∙ take_min c.image_end-end.result file) ∙ c.image_end-end.ensures.counts file head;
    }
