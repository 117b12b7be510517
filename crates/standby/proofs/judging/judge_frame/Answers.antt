use Rattle.std.proofs.Common.{arith, ◌+◌, ◌∙◌, ap, sym}
use Rattle.log_recovery.specs.Opened.{opening_before, placed, with_records}
use Rattle.log_recovery.proofs.OpenedLemmas.{placed-end}
use Rattle.log_record.proofs.SpellingLemmas.{record_end-within_units}
use Rattle.standby.proofs.JudgedFrames.{taken-record_begins, taken_lsn-list_end, has_taken_to-push, taken-all, take_fault-frame_fault}
use Rattle.standby.proofs.judging.judge_frame.Goals as goal

pub unreachable-requires : goal.unreachable-requires
unreachable-requires c =
    let list = c.requires.taken in
    let records = c.requires.spelled in
    let to = c.records.invariant.taken list.0 records.0 list.1 list.2 records.1 in
    let begins = taken-record_begins _ _ _ _ _ to records.1.spellable (omega (arith, c.records-test.true, c.count.ensures)) in
    c.in_default.ensures.bad begins.0 begins.1

pub take-requires-clause-taken : goal.take-requires-clause-taken
take-requires-clause-taken c =
    let list = c.requires.taken in
    let records = c.requires.spelled in
    let to = c.records.invariant.taken list.0 records.0 list.1 list.2 records.1 in
    let place = taken_lsn-list_end list.0 _ _ _ _ to records.1.spellable c.args.from c.new-lsn.result list.2
    (c.new-lsn.ensures ∙ ap (λ n. n + c.records.at) c.units.ensures) in
    (opening_before list.0, placed (with_records list.0 to.seen), to.taken, place ∙ sym (placed-end (with_records list.0 to.seen)))

pub take-requires-clause-fits : goal.take-requires-clause-fits
take-requires-clause-fits c =
    let ends = record_end-within_units c.args.batch.now.units c.records.at c.in-Ok.rec c.records.invariant.within c.in-Ok.ensures.found.0 in
    omega (arith, ends, c.new-lsn.ensures, c.units.ensures, c.requires.fits)

pub overflow_add-at : goal.overflow_add-at
overflow_add-at c =
    let ends = record_end-within_units c.args.batch.now.units c.records.at c.in-Ok.rec c.records.invariant.within c.in-Ok.ensures.found.0 in
    omega (arith, ends, c.in-Ok.ensures.found.1, c.requires.fits)

pub records-preserved : goal.records-preserved
records-preserved c = record {
  within =
      let ends = record_end-within_units c.args.batch.now.units c.records.at c.in-Ok.rec c.records.invariant.within c.in-Ok.ensures.found.0 in
      omega (arith, ends, c.in-Ok.ensures.found.1);
  taken = λ list records taken start spells.
      let to = c.records.invariant.taken list records taken start spells in
      let place = taken_lsn-list_end list records _ _ _ to spells.spellable c.args.from c.new-lsn.result start
      (c.new-lsn.ensures ∙ ap (λ n. n + c.records.at) c.units.ensures) in
      has_taken_to-push list records _ _ _ to spells.spellable c.in-Ok.rec c.in-Ok.ensures.found.0 c.new-lsn.result c.in-Ok.size c.take.new.self
      place
      c.in-Ok.ensures.found.1 (c.in-Ok-take.ensures.taken (opening_before list) _ to.taken);
}

pub returns-in-Err-clause-fault : goal.returns-in-Err-clause-fault
returns-in-Err-clause-fault c = λ list records taken start spells.
    let to = c.records.invariant.taken list records taken start spells in
    let place = taken_lsn-list_end list records _ _ _ to spells.spellable c.args.from c.new-lsn.result start
    (c.new-lsn.ensures ∙ ap (λ n. n + c.records.at) c.units.ensures) in
    rw c.fault_of_record.ensures.is
    (take_fault-frame_fault list records _ _ _ to spells.spellable c.in-Ok.rec c.in-Ok.ensures.found.0 c.new-lsn.result c.in-Err.fault place
    (c.in-Err.ensures.fault (opening_before list) _ to.taken))

pub returns-clause-taken : goal.returns-clause-taken
returns-clause-taken c = λ list records taken start spells.
    taken-all list records _ _ _ (c.records.invariant.taken list records taken start spells) spells.spellable
    (omega (arith, c.records-test.false, c.count.ensures))
