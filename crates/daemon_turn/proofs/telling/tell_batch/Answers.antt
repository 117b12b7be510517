use Rattle.std.proofs.Common.{arith, refl, sym, ◌∙◌, [], subst}
use Rattle.std.proofs.lemmas.Result.{err_from_is_err_and}
use Rattle.log_disk.specs.Streams.{AppendsBut}
use Rattle.log_disk.proofs.Blocks.{AppendsBut-none, AppendsBut-trans, AppendsBut-trans_part_of_piece, AppendsBut-trans_Appends, AppendsBut-trans_AppendsPart}
use Rattle.daemon_turn.proofs.ToldLemmas.{is_done_is_refused-le_size_of, count_said-le_size_of, told-none}
use Rattle.daemon_turn.proofs.BatchLemmas.{HasCause-failed, seen_end-stands, units_read-positive, seen-within, IsToldUpTo-all}
use Rattle.daemon_turn.proofs.BatchLemmas.{IsToldUpTo-record_begins, IsToldUpTo-more, IsToldUpTo-tells_front, IsToldUpTo-push_silent}
use Rattle.daemon_turn.proofs.telling.tell_batch.Goals as goal

pub records-init : goal.records-init
records-init g c = record {
  same = refl;
  within = omega arith;
  lines_few = omega arith;
  few = omega arith;
  told = (
    [],
    subst (AppendsBut (g.K.Sink.held_bytes c.args.sink.now) (g.K.Sink.held_bytes c.args.sink.now) []) (sym c.new-block.ensures)
        (AppendsBut-none (g.K.Sink.held_bytes c.args.sink.now) []),
    λ records spells. told-none c.args.voice c.args.from c.args.batch.now.units _ records spells,
  );
  no_fault = refl;
}

pub end_at-end-requires : goal.end_at-end-requires
end_at-end-requires g c =
    IsToldUpTo-record_begins c.records.invariant.told.2 c.requires.spelled (omega (arith, c.records-test.true, c.count.ensures))

pub records-preserved-in_default : goal.records-preserved-in_default
records-preserved-in_default g c =
    let was = c.records.invariant in
    record {
      same = refl;
      within = seen-within _ _ _ _ _ c.end_at-end.ensures c.from.ensures was.within;
      lines_few = omega (arith, was.lines_few);
      few = omega (arith, was.few);
      told = (
        was.told.0,
        was.told.1,
        IsToldUpTo-push_silent was.told.2 _ _ _ c.end_at-end.ensures c.from.ensures c.in_default.is,
      );
      no_fault = was.no_fault;
    }

pub returns-in_err-lines : goal.returns-in_err-lines
returns-in_err-lines g c =
    let was = c.records.invariant in
    let tally = c.count-in-records.ensures in
    let stands = seen_end-stands _ _ _ _ _ c.end_at-end.ensures c.from.ensures was.within c.in-Some.rec c.in-Some.is in
    let failed = err_from_is_err_and c.from_residual.result c.from_residual.ensures.1 in
    let cut = AppendsBut-trans_part_of_piece _ _ _ was.told.0 _ was.told.1 _ c.in_err-lines.ensures.prefix in
    let cause = c.in_err-lines.ensures.cause in
    rw failed.1 record {
      told = tt;
      front = (
        cut.0,
        cut.3,
        IsToldUpTo-tells_front (IsToldUpTo-more was.told.2 _ _ _ _ _ _ stands c.units.ensures c.new.ensures tally.done tally.refused refl)
            cut.0 cut.1 cut.2 cut.4,
      );
      few = omega (
        arith,
        stands.within,
        was.few,
        tally.done,
        tally.refused,
        is_done_is_refused-le_size_of c.in-Some.rec,
        stands.size_is,
      );
      cause = HasCause-failed _ _ _ _ was.no_fault cause.later cause.failed;
    }

pub records-preserved : goal.records-preserved
records-preserved g c =
    let was = c.records.invariant in
    let tally = c.count-in-records.ensures in
    let stands = seen_end-stands _ _ _ _ _ c.end_at-end.ensures c.from.ensures was.within c.in-Some.rec c.in-Some.is in
    let line = c.in_ok-lines.ensures.all in
    record {
      same = refl;
      within = stands.within;
      lines_few = omega (arith, was.lines_few, line.1, count_said-le_size_of c.args.voice c.in-Some.rec, stands.size_is);
      few = omega (arith, was.few, tally.done, tally.refused, is_done_is_refused-le_size_of c.in-Some.rec, stands.size_is);
      told = (
        _,
        AppendsBut-trans _ _ _ was.told.0 _ was.told.1 _ _ line.0,
        IsToldUpTo-more was.told.2 _ _ _ _ _ _ stands c.units.ensures c.new.ensures tally.done tally.refused line.1,
      );
      no_fault = c.in_ok-lines.ensures.cause.fine ∙ was.no_fault;
    }

pub returns : goal.returns
returns g c =
    let was = c.records.invariant in
    let cause = c.in_ok-write_out.ensures.cause in
    record {
      told = (
        was.told.0,
        AppendsBut-trans_Appends _ _ _ _ _ was.told.1 c.in_ok-write_out.ensures.all,
        IsToldUpTo-all was.told.2 (omega (arith, c.records-test.false, c.count.ensures)),
      );
      front = tt;
      few = omega (arith, was.few, was.within);
      cause = record { later = omega (arith, cause.later, was.no_fault); fine = cause.fine ∙ was.no_fault; failed = tt };
    }

pub returns-in_err-write_out : goal.returns-in_err-write_out
returns-in_err-write_out g c =
    let was = c.records.invariant in
    let failed = err_from_is_err_and c.from_residual-in_err-write_out.result c.from_residual-in_err-write_out.ensures.1 in
    let cut = AppendsBut-trans_AppendsPart _ _ _ _ _ was.told.1 c.in_err-write_out.ensures.prefix in
    let cause = c.in_err-write_out.ensures.cause in
    rw failed.1 record {
      told = tt;
      front = (cut.0, cut.3, IsToldUpTo-tells_front was.told.2 cut.0 cut.1 cut.2 cut.4);
      few = omega (arith, was.few, was.within);
      cause = HasCause-failed _ _ _ _ was.no_fault cause.later cause.failed;
    }

pub overflow_add-at : goal.overflow_add-at
overflow_add-at g c =
    omega (arith, seen-within _ _ _ _ _ c.end_at-end.ensures c.from.ensures c.records.invariant.within, c.requires.end)

pub records-smaller-in_default : goal.records-smaller-in_default
records-smaller-in_default g c =
    let some = units_read-positive c.args.batch.now.units c.records.at _ _ _ c.end_at-end.ensures c.from.ensures in
    omega (arith, some, c.records-test.true, c.count.ensures)

pub count-requires-in-records : goal.count-requires-in-records
count-requires-in-records g c = omega (arith, c.records.invariant.few, c.requires.few, c.records-test.true, c.count.ensures)

pub overflow_add-units : goal.overflow_add-units
overflow_add-units g c =
    omega (arith, seen-within _ _ _ _ _ c.end_at-end.ensures c.from.ensures c.records.invariant.within, c.units.ensures, c.requires.end)

pub new-requires : goal.new-requires
new-requires g c =
    omega (arith, seen-within _ _ _ _ _ c.end_at-end.ensures c.from.ensures c.records.invariant.within, c.units.ensures, c.requires.end)

pub overflow_add-lines : goal.overflow_add-lines
overflow_add-lines g c =
    let was = c.records.invariant in
    let stands = seen_end-stands c.args.batch.now.units c.records.at _ _ _ c.end_at-end.ensures c.from.ensures was.within
    c.in-Some.rec c.in-Some.is in
    omega (
      arith,
      stands.within,
      c.requires.end,
      was.lines_few,
      c.in_ok-lines.ensures.all.1,
      count_said-le_size_of c.args.voice c.in-Some.rec,
      stands.size_is,
    )

pub records-smaller : goal.records-smaller
records-smaller g c =
    let some = units_read-positive c.args.batch.now.units c.records.at _ _ _ c.end_at-end.ensures c.from.ensures in
    omega (arith, some, c.records-test.true, c.count.ensures)
