use Rattle.std.proofs.Common.{◌≤◌, ◌<◌, ◌+◌, ◌∙◌, refl, ap, subst, [], length, arith}
use Rattle.std.proofs.lemmas.Result.{err_from_is_err_and, on_ok_weaker}
use Rattle.log_disk.specs.Faults.{HasCause}
use Rattle.log_record.specs.LogList.{size_of}
use Rattle.log_record.proofs.BoundLemmas.{length-spelling}
use Rattle.log_recovery.specs.Opened.{log_of}
use Rattle.segment_file.specs.PackedBatch.{BatchState}
use Rattle.segment_file.specs.declared.layout.TheConstants.{MOST_UNITS}
use Rattle.cli_cut.specs.Batches.{batches_of}
use Rattle.cli_cut.proofs.ReadyLemmas.{IsGathered, IsReady, ready-some_underway, waiting-within_last, gathered-some_underway, tail_at-within_bound}
use Rattle.cli_cut.proofs.ReadyLemmas.{head_failed-writes_log, flush_failed-writes_log, ready-gathered, ready-gathered_none_waiting}
use Rattle.cli_cut.proofs.ReadyLemmas.{gathered-underway, opened-costs, opened-grows, opened-leaves, ready-begun, ready-flushed, ready-flushed_last}
use Rattle.cli_cut.proofs.ReadyLemmas.{ready-same, ready-taken, no_room-some_waiting}
use Rattle.cli_cut.proofs.writing.write_log.Goals as goal
use Rattle.cli_cut.proofs.writing.write_log.Goals.{then-count-size+in_ok-tail-2, else-count-size, then-count-gt0+in_ok-add_cut, else-count-gt0}

-- ---- the head

pub returns-in_err-tail : goal.returns-in_err-tail
returns-in_err-tail g c =
    let failed = err_from_is_err_and c.from_residual.result c.from_residual.ensures.1 in
    let begun = c.in_err-tail.ensures in
    rw failed.1 (head_failed-writes_log g.D.LogDisk _ c.args.head.now c.args.units.now failed.0 _ begun.moments begun.count begun.length begun.later begun.honest
    begun.attached begun.cause.later begun.cause.failed)

-- ---- before each record

pub records-init : goal.records-init
records-init g c =
    let begun = c.in_ok-tail.ensures in
    ready-same g.D.LogDisk c.args.disk.now c.args.head.now c.args.units.now _ _ _ _ _ _ _ _ _ refl refl c.requires.none refl
    (ready-begun g.D.LogDisk c.args.disk.now c.args.head.now c.args.units.now _ c.in_ok-tail.tail c.args.batch.now.room begun.begun begun.moments begun.place
    begun.next begun.length begun.count c.requires.room begun.later begun.honest begun.attached begun.cause.fine)

pub overflow_add-count : goal.overflow_add-count
overflow_add-count g c = omega (arith, c.count.type_inv, c.in-Ok.ensures.found.1, length-spelling _ c.in-Ok.ensures.found.0.0)

-- ---- a batch before a record that doesn't fit

pub add_cut-requires-clause-some : goal.add_cut-requires-clause-some
add_cut-requires-clause-some g c =
    no_room-some_waiting _ c.in-Ok.field-0-0 c.in-Ok.ensures.found.0.0 (omega (arith, c.if-count-size.true, c.count.ensures, c.in-Ok.ensures.found.1))

pub add_cut-requires-clause-most : goal.add_cut-requires-clause-most
add_cut-requires-clause-most g c = (c.records.invariant.writing c.requires.records.0 c.requires.records.1).few

pub add_cut-requires-clause-fits : goal.add_cut-requires-clause-fits
add_cut-requires-clause-fits g c = waiting-within_last g.D.LogDisk _ c.args.head.now _ _ _ _ _ _ c.records.invariant c.requires.records c.requires.fits

pub add_cut-requires-clause-place : goal.add_cut-requires-clause-place
add_cut-requires-clause-place g c = tail_at-within_bound g.D.LogDisk _ c.args.head.now _ _ _ _ _ _ c.records.invariant c.requires.records c.in_ok-tail.ensures.held

pub add_cut-requires-clause-underway : goal.add_cut-requires-clause-underway
add_cut-requires-clause-underway g c = ready-some_underway g.D.LogDisk _ c.args.head.now _ _ _ _ _ _ c.records.invariant c.requires.records

pub returns-in_err-tail-2 : goal.returns-in_err-tail-2
returns-in_err-tail-2 g c =
    let failed = err_from_is_err_and c.from_residual-in_err-tail-2.result c.from_residual-in_err-tail-2.ensures.1 in
    let some = no_room-some_waiting _ c.in-Ok.field-0-0 c.in-Ok.ensures.found.0.0 (omega (arith, c.if-count-size.true, c.count.ensures, c.in-Ok.ensures.found.1)) in
    let added = c.in_err-tail-2.ensures in
    rw failed.1 (flush_failed-writes_log g.D.LogDisk _ c.args.head.now _ _ _ _ _ _ c.records.invariant failed.0 _ some added.moments added.count added.length added.later
    added.honest added.attached added.cause.later added.cause.failed)

-- ---- the record waits

pub push_all-requires : goal.push_all-requires
push_all-requires g c =
    let small = length-spelling _ c.in-Ok.ensures.found.0.0 in
    elim c.if-count-size.branch [
      | then-count-size+in_ok-tail-2 w ↦
          (let cleared = w.batch-is ∙ w.clear.ensures in
          omega (
            arith,
            ap (λ (b : BatchState). length b.units) cleared,
            ap (λ (b : BatchState). b.room) (cleared ∙ ap (λ (b : BatchState). record b { units = [] }) w.in_ok-tail-2.ensures.batch),
            c.records.invariant.room_is,
            c.split_at.ensures.front_len,
            c.in-Ok.ensures.found.1,
            small,
          ))
      | else-count-size w ↦
          omega (
            arith,
            ap (λ (b : BatchState). length b.units) w.batch-is,
            ap (λ (b : BatchState). b.room) w.batch-is,
            c.records.invariant.room_is,
            c.split_at.ensures.front_len,
            c.count.ensures,
            w.if-count-size.false,
          )
    ]

pub records-preserved : goal.records-preserved
records-preserved g c =
    let begins = c.in-Ok.ensures.found.0 in
    let size = c.in-Ok.ensures.found.1 in
    let small = length-spelling _ begins.0 in
    let ready : IsReady g.D.LogDisk c.args.disk.now c.args.head.now c.args.units.now c.if-count-size.disk c.if-count-size.tail c.if-count-size.batch.units
    c.if-count-size.batch.room c.records.rest.now × (length c.if-count-size.batch.units + c.in-Ok.size ≤ MOST_UNITS) =
    elim c.if-count-size.branch [
      | then-count-size+in_ok-tail-2 w ↦
          (let full : MOST_UNITS < length c.records.batch.units + size_of c.in-Ok.field-0-0 = omega (arith, w.if-count-size.true, c.count.ensures, size) in
          let some = no_room-some_waiting _ c.in-Ok.field-0-0 begins.0 full in
          let cleared = w.batch-is ∙ w.clear.ensures in
          let units = ap (λ (b : BatchState). b.units) cleared in
          let room = ap (λ (b : BatchState). b.room) (cleared ∙ ap (λ (b : BatchState). record b { units = [] }) w.in_ok-tail-2.ensures.batch) in
          let added = w.in_ok-tail-2.ensures in (
            ready-same g.D.LogDisk _ c.args.head.now _ _ _ _ _ _ _ _ _ _ w.disk-is w.tail-is units room
                (ready-flushed g.D.LogDisk _ c.args.head.now _ _ _ _ _ _ c.records.invariant _ w.in_ok-tail-2.tail added.added added.moments added.place added.next
                added.length added.count added.later added.honest added.attached added.cause.fine some c.in-Ok.field-0-0 begins full),
            omega (arith, ap length units, size, small),
          ))
      | else-count-size w ↦
          (let units = ap (λ (b : BatchState). b.units) w.batch-is in (
            ready-same g.D.LogDisk _ c.args.head.now _ _ _ _ _ _ _ _ _ _ w.disk-is w.tail-is units (ap (λ (b : BatchState). b.room) w.batch-is) c.records.invariant,
            omega (arith, ap length units, c.count.ensures, w.if-count-size.false),
          ))
    ] in
    let pushed = c.push_all.ensures in
    ready-same g.D.LogDisk _ c.args.head.now _ _ _ _ _ _ _ _ _ _ refl refl (ap (λ (b : BatchState). b.units) pushed) (ap (λ (b : BatchState). b.room) pushed)
    (ready-taken g.D.LogDisk _ c.args.head.now _ _ _ _ _ _ ready.0 c.in-Ok.field-0-0 _ _ c.in-Ok.size begins size ready.1 c.split_at.ensures.front
    c.split_at.ensures.back)

-- ---- the last batch

pub add_cut-requires-then-count-gt0-clause-most : goal.add_cut-requires-then-count-gt0-clause-most
add_cut-requires-then-count-gt0-clause-most g c = (c.records.invariant.writing c.requires.records.0 c.requires.records.1).few

pub add_cut-requires-then-count-gt0-clause-fits : goal.add_cut-requires-then-count-gt0-clause-fits
add_cut-requires-then-count-gt0-clause-fits g c =
    waiting-within_last g.D.LogDisk _ c.args.head.now _ _ _ _ _ _ c.records.invariant c.requires.records c.requires.fits

pub add_cut-requires-then-count-gt0-clause-place : goal.add_cut-requires-then-count-gt0-clause-place
add_cut-requires-then-count-gt0-clause-place g c =
    tail_at-within_bound g.D.LogDisk _ c.args.head.now _ _ _ _ _ _ c.records.invariant c.requires.records c.in_ok-tail.ensures.held

pub add_cut-requires-then-count-gt0-clause-underway : goal.add_cut-requires-then-count-gt0-clause-underway
add_cut-requires-then-count-gt0-clause-underway g c = ready-some_underway g.D.LogDisk _ c.args.head.now _ _ _ _ _ _ c.records.invariant c.requires.records

pub returns-in_err-add_cut : goal.returns-in_err-add_cut
returns-in_err-add_cut g c =
    let failed = err_from_is_err_and c.from_residual-in_err-add_cut.result c.from_residual-in_err-add_cut.ensures.1 in
    let added = c.in_err-add_cut.ensures in
    rw failed.1 (flush_failed-writes_log g.D.LogDisk _ c.args.head.now _ _ _ _ _ _ c.records.invariant failed.0 _ (omega (arith, c.if-count-gt0.true, c.count-2.ensures))
    added.moments added.count added.length added.later added.honest added.attached added.cause.later added.cause.failed)

-- ---- the first gate is opened

pub open_cut-requires : goal.open_cut-requires
open_cut-requires g c =
    let none = c.in_default.ensures.bad in
    let all : IsGathered g.D.LogDisk c.args.disk.now c.args.head.now c.args.units.now c.if-count-gt0.disk =
    elim c.if-count-gt0.branch [
      | then-count-gt0+in_ok-add_cut w ↦
          (let added = w.in_ok-add_cut.ensures in
          ready-gathered g.D.LogDisk _ c.args.head.now _ _ _ w.disk-is _ _ _
          (ready-flushed_last g.D.LogDisk _ c.args.head.now _ _ _ _ _ _ c.records.invariant _ w.in_ok-add_cut.field-0 added.added added.moments added.place added.next
          added.length added.count added.later added.honest added.attached added.cause.fine (omega (arith, w.if-count-gt0.true, c.count-2.ensures)) none) none
          c.requires.records)
      | else-count-gt0 w ↦
          ready-gathered_none_waiting g.D.LogDisk _ c.args.head.now _ _ _ w.disk-is _ _ _ _ c.records.invariant (omega (arith, w.if-count-gt0.false, c.count-2.ensures)) none
          c.requires.records
    ] in
    record { underway = gathered-some_underway g.D.LogDisk _ c.args.head.now _ _ all c.requires.records }

pub returns : goal.returns
returns g c =
    let none = c.in_default.ensures.bad in
    let all : IsGathered g.D.LogDisk c.args.disk.now c.args.head.now c.args.units.now c.if-count-gt0.disk =
    elim c.if-count-gt0.branch [
      | then-count-gt0+in_ok-add_cut w ↦
          (let added = w.in_ok-add_cut.ensures in
          ready-gathered g.D.LogDisk _ c.args.head.now _ _ _ w.disk-is _ _ _
          (ready-flushed_last g.D.LogDisk _ c.args.head.now _ _ _ _ _ _ c.records.invariant _ w.in_ok-add_cut.field-0 added.added added.moments added.place added.next
          added.length added.count added.later added.honest added.attached added.cause.fine (omega (arith, w.if-count-gt0.true, c.count-2.ensures)) none) none
          c.requires.records)
      | else-count-gt0 w ↦
          ready-gathered_none_waiting g.D.LogDisk _ c.args.head.now _ _ _ w.disk-is _ _ _ _ c.records.invariant (omega (arith, w.if-count-gt0.false, c.count-2.ensures)) none
          c.requires.records
    ] in
    let opened = c.open_cut.ensures in
    record {
      moments = opened-leaves g.D.LogDisk _ c.args.head.now _ _ all _ opened.moments;
      made = λ honest. on_ok_weaker c.open_cut.result (λ stands made is are c' left.
          let held = stands all.tail (log_of made) (batches_of made.records) (gathered-underway g.D.LogDisk _ c.args.head.now _ _ all honest made is are) c' left in
          (held.0.held, held.1)) (opened.opened (all.honest.0 honest));
      count = opened-costs g.D.LogDisk _ c.args.head.now _ _ all _ opened.count;
      grows = opened-grows g.D.LogDisk _ c.args.head.now _ _ all _ opened.length;
      later = omega (arith, all.later, opened.later);
      honest = (λ first. opened.honest.0 (all.honest.0 first), λ last. all.honest.1 (opened.honest.1 last));
      attached = opened.attached ∙ all.attached;
      cause = subst (λ before. HasCause before (g.D.LogDisk.faults c.open_cut.new.disk) c.open_cut.result) all.faults opened.cause;
    }
