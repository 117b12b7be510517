use Rattle.std.proofs.Common.{◌≡◌, ◌∙◌, ap, sym, refl, subst, ◌+◌, length, arith}
use Rattle.segment_file.specs.File.{BeginsOpen, HasNoBatch}
use Rattle.segment_file.specs.StandingLog.{tail_at}
use Rattle.source_recovery.specs.Ahead.{TakesGated}
use Rattle.source_recovery.specs.Reading.{ReaderView, EndsLog}
use Rattle.source_recovery.proofs.ReadingLemmas.{taken_batch-bound, gated-end, awaited-HasReadLog, batch-HasReadLog, closed-EndsLog, no_batch-HasScanFault}
use Rattle.source_recovery.proofs.batches.LogReader.next_batch.Goals as goal

pub invariant_of-self-in-Ok-Some : goal.invariant_of-self-in-Ok-Some
invariant_of-self-in-Ok-Some g c =
    let taken : TakesGated c.new-begin.result c.args.units.now.items c.ahead.result.now c.take_gated.new.units.items c.in-Ok-Some.count =
    rw c.in-Ok-Some.field-0-is at c.in-Ok-Some.ensures.taken in
    omega (
      arith,
      c.self.invariant,
      taken_batch-bound _ _ _ _ _ taken,
      gated-end _ _ _ _ _ taken,
      ap (λ (v : ReaderView). v.next) c.self.view_is,
    )

pub returns-in-Ok-Some-clause-batch : goal.returns-in-Ok-Some-clause-batch
returns-in-Ok-Some-clause-batch g c = λ is.
    let told = g.S.Source.left in
    let before = c.self.inside in
    let awaited : ReaderView = record { window = c.await_next.new.window; at = before.at; next = before.next } in
    let given : TakesGated c.new-begin.result c.args.units.now.items c.ahead.result.now c.take_gated.new.units.items c.in-Ok-Some.count =
    rw c.in-Ok-Some.field-0-is at c.in-Ok-Some.ensures.taken in
    let taken = subst
    (λ bytes. TakesGated c.new-begin.result c.args.units.now.items bytes c.take_gated.new.units.items c.in-Ok-Some.count) c.ahead.ensures given in
    let next_is = ap (λ (v : ReaderView). v.next) c.self.view_is in
    let end = gated-end _ _ _ _ _ taken in
    record {
      more = taken.taken.units;
      some = taken.taken.counted.some;
      added = taken.taken.added;
      next = omega (arith, end, next_is);
      total = omega (arith, taken.taken.total);
      reads = λ first log read.
          let behind = awaited-HasReadLog first (told c.args.source.now) (told c.await_next.new.source) before.window awaited.window before.at
          before.next c.args.self.now log c.self.view_is (c.in_ok-await_next.ensures.passed first) read in
          batch-HasReadLog first (told c.await_next.new.source) awaited _ log c.new-begin.result c.args.units.now.items
          c.take_gated.new.units.items c.in-Ok-Some.count taken behind (omega (arith, next_is)) c.pass.ensures refl (omega (arith, end));
    }

pub returns-in_ok-drop_rest-in-Ok-None-clause-end : goal.returns-in_ok-drop_rest-in-Ok-None-clause-end
returns-in_ok-drop_rest-in-Ok-None-clause-end g c = λ is.
    let told = g.S.Source.left in
    let before = c.self.inside in
    let awaited : ReaderView = record { window = c.await_next.new.window; at = before.at; next = before.next } in
    let none : (c.take_gated.new.units.items ≡ c.args.units.now.items) × (BeginsOpen c.ahead.result.now → ⊥) =
    rw c.in-Ok-None.field-0-is at c.in-Ok-None.ensures.none in
    record {
      units_are = none.0;
      at = ap (λ (v : ReaderView). v.at) c.self.view_is;
      next = ap (λ (v : ReaderView). v.next) c.self.view_is;
      ends = λ first log read.
          let behind = awaited-HasReadLog first (told c.args.source.now) (told c.await_next.new.source) before.window awaited.window before.at
          before.next c.args.self.now log c.self.view_is (c.in_ok-await_next.ensures.passed first) read in
          let closed = subst (λ bytes. BeginsOpen bytes → ⊥) c.ahead.ensures none.1 in
          subst (λ (v : ReaderView). EndsLog first (told c.drop_rest.new.source) (tail_at v.at v.next) log) c.self.view_is
          (closed-EndsLog first (told c.await_next.new.source) (told c.drop_rest.new.source) awaited log behind
          (c.in_ok-drop_rest-in-Ok-None.ensures.rest first behind.passed behind.given) c.in_ok-await_next.ensures.tells closed);
    }

pub returns-in_ok-drop_rest-in-Err-Bad-clause-fault : goal.returns-in_ok-drop_rest-in-Err-Bad-clause-fault
returns-in_ok-drop_rest-in-Err-Bad-clause-fault g c = λ first log read.
    let told = g.S.Source.left in
    let before = c.self.inside in
    let awaited : ReaderView = record { window = c.await_next.new.window; at = before.at; next = before.next } in
    let bad = c.in-Err-Bad.ensures.bad (cc) in
    let behind = awaited-HasReadLog first (told c.args.source.now) (told c.await_next.new.source) before.window awaited.window before.at
    before.next c.args.self.now log c.self.view_is (c.in_ok-await_next.ensures.passed first) read in
    let start : c.new-begin.result + length c.args.units.now.items ≡ before.next =
    omega (arith, ap (λ (v : ReaderView). v.next) c.self.view_is) in
    no_batch-HasScanFault first (told c.await_next.new.source) (told c.drop_rest-in-Err-Bad.new.source) awaited log behind
    (c.in_ok-drop_rest-in-Err-Bad.ensures.rest first behind.passed behind.given) c.in_ok-await_next.ensures.tells bad.0
    (sym c.ahead.ensures ∙ bad.1) bad.2 (subst (λ end. HasNoBatch end bad.0) start bad.3)
