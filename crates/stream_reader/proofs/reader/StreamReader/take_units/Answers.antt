use Rattle.std.proofs.Common.{◌≡◌, ◌++◌, ◌+◌, ◌*◌, sym, refl, subst, [], take, drop, arith, true≢false}
use Rattle.std.proofs.lemmas.List.{take-append-drop, length-take-le}
use Rattle.stream_reader.specs.Reader.{units_bytes}
use Rattle.stream_reader.specs.declared.reader.Part.TheVariants as part
use Rattle.stream_reader.specs.declared.reader.Stage.TheVariants.{Count, Units}
use Rattle.stream_reader.proofs.ReaderLemmas.{ReadsAt-place_bound, units_stage-AreUnits, units-some_bytes_taken, units-reads_at_count, units-bad}
use Rattle.stream_reader.proofs.TakingLemmas.{ReadsAt-HasRead, HasRead-ReadsAt, takes-part, takes-bad}
use Rattle.stream_reader.proofs.reader.StreamReader.take_units.Goals as goal

pub returns-then-not-is_whole : goal.returns-then-not-is_whole
returns-then-not-is_whole c =
    let self = c.args.self.now in
    let piece = c.args.piece.now in
    let used = c.push_bytes-used.result in
    let new = c.push_bytes-used.new.batch.units in
    let all = c.push_bytes-used.ensures.whole (omega (arith, c.if-count.false, c.count.ensures)) in
    let bytes =
    subst (λ begun. units_bytes new begun ≡ units_bytes self.batch.units self.begun ++ take used piece) all.1
    c.push_bytes-used.ensures.taken.bytes in
    takes-bad self _ piece self.at (λ past came read more.
    let reads = HasRead-ReadsAt self (Units c.args.count) past came c.requires.stage read in
    units-bad self.at self.next self.batch.room self.batch.units self.begun past (take used piece) c.args.count new bytes all.0 came piece
    (drop used piece) more reads
    (λ records are. true≢false (sym (c.if-not-is_whole.ensures.1 (records, are))))
    (c.push_bytes-used.ensures.taken.fit (units_stage-AreUnits self.at self.next self.batch.room self.batch.units self.begun past [] came c.args.count
    reads))
    (sym (take-append-drop used piece)))

pub overflow_add-self-2 : goal.overflow_add-self-2
overflow_add-self-2 c =
    let small = ReadsAt-place_bound _ _ _ _ _ c.requires.read.0 c.args.self.now.stage c.requires.read.1 c.requires.read.2 in
    omega (arith, small, c.ranges.count)

pub returns : goal.returns
returns c =
    let self = c.args.self.now in
    let piece = c.args.piece.now in
    let used = c.push_bytes-used.result in
    let new = c.push_bytes-used.new.batch.units in
    let all = c.push_bytes-used.ensures.whole (omega (arith, c.if-count.false, c.count.ensures)) in
    let bytes =
    subst (λ begun. units_bytes new begun ≡ units_bytes self.batch.units self.begun ++ take used piece) all.1
    c.push_bytes-used.ensures.taken.bytes in
    let records = c.if-not-is_whole.ensures.0 refl in
    let some = units-some_bytes_taken self.at self.next self.batch.room self.batch.units self.begun c.requires.read.0 (take used piece) c.args.count
    new bytes all.0 c.requires.read.1
    (HasRead-ReadsAt self (Units c.args.count) c.requires.read.0 c.requires.read.1 c.requires.stage c.requires.read.2) in
    takes-part self _ piece used part.Frame c.push_bytes-used.ensures.taken.within
    (omega (arith, some, length-take-le used piece c.push_bytes-used.ensures.taken.within))
    (λ past came read.
    let whole =
    units-reads_at_count self.at self.next self.batch.room self.batch.units self.begun past (take used piece) c.args.count new bytes all.0 came
    records.0
    (HasRead-ReadsAt self (Units c.args.count) past came c.requires.stage read) records.1 in
    record {
      first = whole.0;
      frames = whole.1;
      before = whole.2;
      records = records.0;
      frame = whole.3;
      units = records.1.units_are;
      read = ReadsAt-HasRead _ Count (self.at + 4 + 8 * c.args.count) (self.next + c.args.count) self.batch.room new [] _ _ refl (omega arith)
          (omega (arith, c.new-self.ensures, c.units.ensures)) c.push_bytes-used.ensures.taken.room refl all.1 whole.4;
    })
