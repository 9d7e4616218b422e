use Rattle.std.proofs.Common.{ℕ, List, Option, drop, inr, refl, sym, ap, ◌∙◌, arith}
use mir.Facts.{Fits-lt-pow}
use Rattle.file_format.specs.declared.format.Format.{Format}
use Rattle.action_log.specs.declared.format.TheConstants.{FIRST_GROUP}
use Rattle.action_log.specs.Segment.{MalformedSegment}
use Rattle.action_log.specs.HeldLog.{within_bounds}
use Rattle.action_log.specs.Reading.{ticks_of}
use Rattle.action_log.proofs.ValueReadingLemmas.{from_place}
use Rattle.action_log.proofs.ReadingLemmas.{behind_mark, gated_reads, reads_as, within_many}
use Rattle.action_log.proofs.reader.held_log.Goals as goal

pub returns-in_default-clause-refuses : goal.returns-in_default-clause-refuses
returns-in_default-clause-refuses c =
    let bytes = c.args.bytes.now in (
      refl,
      reads_as bytes MalformedSegment (λ i. Fits-lt-pow (c.type_inv.bytes i))
          (gated_reads bytes c.if-bytes-lt-HEADER_BYTES.false c.if-bytes-ne-OPEN_GATE.false
          ∙ ap (λ (mark : Option (Format × ℕ)). behind_mark mark (drop FIRST_GROUP bytes)) (sym c.in_default.ensures)),
    )

pub returns-then-base-gt-TICK_MAX-clause-refuses : goal.returns-then-base-gt-TICK_MAX-clause-refuses
returns-then-base-gt-TICK_MAX-clause-refuses c =
    let bytes = c.args.bytes.now in
    let body = drop FIRST_GROUP bytes in (
      refl,
      reads_as bytes MalformedSegment (λ i. Fits-lt-pow (c.type_inv.bytes i))
          (gated_reads bytes c.if-bytes-lt-HEADER_BYTES.false c.if-bytes-ne-OPEN_GATE.false
          ∙ ap (λ (mark : Option (Format × ℕ)). behind_mark mark body) (sym c.in-Some.ensures)
          ∙ within_many c.in-Some.base (ticks_of c.in-Some.format body) (λ ticks e. inr (omega (arith, c.if-base-gt-TICK_MAX.true)))),
    )

pub returns-clause-reads : goal.returns-clause-reads
returns-clause-reads c =
    let bytes = c.args.bytes.now in
    let body = drop FIRST_GROUP bytes in (
      reads_as bytes _ (λ i. Fits-lt-pow (c.type_inv.bytes i))
          (gated_reads bytes c.if-bytes-lt-HEADER_BYTES.false c.if-bytes-ne-OPEN_GATE.false
          ∙ ap (λ (mark : Option (Format × ℕ)). behind_mark mark body) (sym c.in-Some.ensures)
          ∙ ap (λ (l : List ℕ). within_bounds c.in-Some.base (ticks_of c.in-Some.format l)) (sym (from_place FIRST_GROUP bytes))),
      record { marked = sym c.in-Some.ensures; numbered = c.if-base-gt-TICK_MAX.false; behind = from_place FIRST_GROUP bytes },
    )
