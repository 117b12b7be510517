use Rattle.std.proofs.Common.{◌∙◌, sym, ap, refl, [], length, take, drop, arith, length-append}
use Rattle.std.proofs.lemmas.List.{take-append-drop, length-take-le}
use Rattle.stream_reader.specs.declared.reader.Part.TheVariants as part
use Rattle.stream_reader.specs.declared.reader.Stage.TheVariants.{Head, Count}
use Rattle.stream_reader.proofs.ReaderLemmas.{head-begun_short, head-whole, head-bad}
use Rattle.stream_reader.proofs.TakingLemmas.{ReadsAt-HasRead, HasRead-ReadsAt, takes-part, takes-bad}
use Rattle.stream_reader.proofs.reader.StreamReader.take_head.Goals as goal

pub returns-in_default : goal.returns-in_default
returns-in_default c =
    let self = c.args.self.now in
    let piece = c.args.piece.now in
    let used = c.fill-used.result in
    takes-bad self _ piece 0 (λ past came read more.
    head-bad self.at self.next self.batch.room self.batch.units self.begun past (take used piece) came piece (drop used piece) more
    (HasRead-ReadsAt self Head past came c.requires.stage read)
    (omega (arith, ap length c.fill-used.ensures.added, c.count.ensures, c.if-count-lt-HEAD_BYTES.false, c.fill-used.ensures.most))
    (λ first is. c.in_default.ensures.none first (c.as_slice.ensures ∙ c.fill-used.ensures.added ∙ is))
    (sym (take-append-drop used piece)))

pub returns : goal.returns
returns c =
    let self = c.args.self.now in
    let piece = c.args.piece.now in
    let used = c.fill-used.result in
    let begun = head-begun_short self.at self.next self.batch.room self.batch.units self.begun c.requires.read.0 [] c.requires.read.1
    (HasRead-ReadsAt self Head c.requires.read.0 c.requires.read.1 c.requires.stage c.requires.read.2) in
    takes-part self _ piece used (part.Head c.in-Some.first) c.fill-used.ensures.within
    (omega (
      arith,
      begun,
      ap length c.fill-used.ensures.added,
      length-append self.begun (take used piece),
      length-take-le used piece c.fill-used.ensures.within,
      c.count.ensures,
      c.if-count-lt-HEAD_BYTES.false,
    ))
    (λ past came read.
    let whole = head-whole self.at self.next self.batch.room self.batch.units self.begun past (take used piece) came c.in-Some.first
    (HasRead-ReadsAt self Head past came c.requires.stage read) c.in-Some.ensures.fits
    (sym c.fill-used.ensures.added ∙ sym c.as_slice.ensures ∙ c.in-Some.ensures.some) in
    (whole.0, ReadsAt-HasRead _ Count 11 c.in-Some.first self.batch.room self.batch.units [] _ _ refl refl refl refl refl c.clear.ensures whole.1))
