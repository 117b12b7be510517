use Rattle.std.proofs.Common.{◌∙◌, ℕ, List, sym, subst, arith, ◌++◌}
use Rattle.std.proofs.lemmas.Result.{err_from_is_err_and}
use Rattle.lsn_space.specs.Opening.{Opening}
use Rattle.segment_file.specs.Log.{Log}
use Rattle.segment_file.specs.StandingLog.{LogStandsAt, tail_at}
use Rattle.segment_file.specs.declared.scan_result.Tail.{Tail}
use Rattle.source_recovery.specs.Reading.{HasReadLog}
use Rattle.source_recovery.specs.Taker.{HasTakenTo}
use Rattle.source_recovery.proofs.GrowthLemmas.{taken_to-more}
use Rattle.source_recovery.proofs.JudgedLemmas.{gave_all-IsSourceFaultOf, taken_units-TakesSource, told-CountsWhere, no_memory-CountsWhere}
use Rattle.source_recovery.proofs.recovery.take_pieces.Goals as goal

pub returns-in_err-reader-clause-failed : goal.returns-in_err-reader-clause-failed
returns-in_err-reader-clause-failed g c =
    told-CountsWhere c.in_err-reader.field-0.0 _ _ _ c.from_residual.ensures.1 c.in_err-reader.ensures.failed

pub batches-init : goal.batches-init
batches-init g c =
    let found = c.in_ok-reader.ensures.found in record {
      all = c.in_ok-reader.units.items;
      read = subst (λ (o : Opening). HasReadLog (g.S.Source.left c.args.source.now) (g.S.Source.left c.begin.new.source) c.in_ok-reader.reader
          (record { opening = o; units = c.in_ok-reader.units.items })) (sym c.opening.view_is) found;
      taken = subst (λ (o : Opening). HasTakenTo (g.T.TakesAsked.has_taken c.args.asked) o c.in_ok-reader.units.items c.in_ok-reader.units.items c.in_ok-taker.taker)
          (sym c.opening.view_is) (c.in_ok-taker.ensures c.in_ok-reader.units.items found.reads.total);
      no_fault = c.in_ok-reader.ensures.failed.fine (λ is. cc);
    }

pub take-requires : goal.take-requires
take-requires g c = (c.args.asked, _, c.batches.invariant.all, c.batches.invariant.taken)

pub returns-in_err-take-clause-failed : goal.returns-in_err-take-clause-failed
returns-in_err-take-clause-failed g c = no_memory-CountsWhere _ _ _ c.from_residual-in_err-take.ensures.1 c.batches.invariant.no_fault

pub next_behind_few-requires-clause-next : goal.next_behind_few-requires-clause-next
next_behind_few-requires-clause-next g c =
    let taken = c.in_ok-take.ensures.taken c.args.asked _ _ c.batches.invariant.taken in omega (arith, taken.place, c.batches.invariant.read.next)

pub returns-in_err-next_behind_few-clause-fault : goal.returns-in_err-next_behind_few-clause-fault
returns-in_err-next_behind_few-clause-fault g c =
    let failed = err_from_is_err_and c.from_residual-in_err-next_behind_few.result c.from_residual-in_err-next_behind_few.ensures.1 in
    rw failed.1 (failed.2.is _ _ (c.in_err-next_behind_few.ensures.fault _ _ c.batches.invariant.read))

pub returns-in_err-next_behind_few-clause-failed : goal.returns-in_err-next_behind_few-clause-failed
returns-in_err-next_behind_few-clause-failed g c =
    told-CountsWhere c.in_err-next_behind_few.field-0.0 _ _ _ c.from_residual-in_err-next_behind_few.ensures.1
    (rw c.batches.invariant.no_fault at c.in_err-next_behind_few.ensures.failed)

pub batches-smaller : goal.batches-smaller
batches-smaller g c =
    let batch = c.in_ok-next_behind_few.ensures.batch (cc) in omega (arith, batch.next, batch.some, batch.total)

pub batches-preserved : goal.batches-preserved
batches-preserved g c =
    let batch = c.in_ok-next_behind_few.ensures.batch (cc) in
    let before = c.batches.invariant in
    let read = batch.reads _ _ before.read in
    let opening : Opening = record { lsn = c.opening.inside.lsn; txn = c.opening.inside.txn; accounts = c.opening.inside.accounts.rows } in record {
      all = before.all ++ batch.more;
      read = read;
      taken = subst (λ units. HasTakenTo (g.T.TakesAsked.has_taken c.args.asked) opening (before.all ++ batch.more) units c.take.new.self) (sym batch.added)
          (taken_to-more (g.T.TakesAsked.has_taken c.args.asked) opening before.all _ batch.more c.take.new.self (c.in_ok-take.ensures.taken c.args.asked _ _ before.taken) read.reads.total);
      no_fault = c.in_ok-next_behind_few.ensures.failed.fine (λ is. cc) ∙ before.no_fault;
    }

pub finish-requires : goal.finish-requires
finish-requires g c =
    let end = c.in_ok-next_behind_few.ensures.end (cc) in
    let taken = c.in_ok-take.ensures.taken c.args.asked _ _ c.batches.invariant.taken in
    let opening : Opening = record { lsn = c.opening.inside.lsn; txn = c.opening.inside.txn; accounts = c.opening.inside.accounts.rows } in (
      c.args.asked,
      opening,
      c.batches.invariant.all,
      subst (λ units. HasTakenTo (g.T.TakesAsked.has_taken c.args.asked) opening c.batches.invariant.all units c.take.new.self)
          (sym (c.as_slice.ensures.value ∙ end.units_are)) taken,
    )

pub returns-in-Ok-clause-found : goal.returns-in-Ok-clause-found
returns-in-Ok-clause-found g c =
    let end = c.in_ok-next_behind_few.ensures.end (cc) in
    let all : List ℕ = c.batches.invariant.all in
    let opening : Opening = record { lsn = c.opening.inside.lsn; txn = c.opening.inside.txn; accounts = c.opening.inside.accounts.rows } in
    let log : Log = record { opening = opening; units = all } in
    let ends = end.ends _ log c.batches.invariant.read in
    let left = subst (λ units. HasTakenTo (g.T.TakesAsked.has_taken c.args.asked) opening all units c.take.new.self) (sym (c.as_slice.ensures.value ∙ end.units_are))
    (c.in_ok-take.ensures.taken c.args.asked opening all c.batches.invariant.taken) in
    let place = c.tail.ensures ∙ (λ i. tail_at (end.at i) (end.next i)) in
    taken_units-TakesSource (g.T.TakesAsked.has_taken c.args.asked) _ _ c.tail.result opening all ends.bytes c.in-Ok.taken (g.met.T.TakesAsked.lawful c.args.asked)
    ends.gave (subst (λ (tail : Tail). LogStandsAt tail log ends.bytes) (sym place) ends.stands) (c.in-Ok.ensures.taken c.args.asked opening all left)

pub returns-in-Ok-clause-failed : goal.returns-in-Ok-clause-failed
returns-in-Ok-clause-failed g c = record {
  counted = λ is. absurd (cc);
  fine = λ _. c.in_ok-next_behind_few.ensures.failed.fine (λ is. cc) ∙ c.batches.invariant.no_fault;
}

pub returns-clause-fault : goal.returns-clause-fault
returns-clause-fault g c =
    let end = c.in_ok-next_behind_few.ensures.end (cc) in
    let all : List ℕ = c.batches.invariant.all in
    let opening : Opening = record { lsn = c.opening.inside.lsn; txn = c.opening.inside.txn; accounts = c.opening.inside.accounts.rows } in
    let log : Log = record { opening = opening; units = all } in
    let ends = end.ends _ log c.batches.invariant.read in
    let left = subst (λ units. HasTakenTo (g.T.TakesAsked.has_taken c.args.asked) opening all units c.take.new.self) (sym (c.as_slice.ensures.value ∙ end.units_are))
    (c.in_ok-take.ensures.taken c.args.asked opening all c.batches.invariant.taken) in
    gave_all-IsSourceFaultOf _ _ ends.bytes _ ends.gave (c.units_fault.ensures.fault ends.bytes log ends.stands.held (c.in-Err.ensures.fault c.args.asked opening all left))

pub returns-clause-failed : goal.returns-clause-failed
returns-clause-failed g c = record {
  counted = λ is. absurd (cc);
  fine = λ _. c.in_ok-next_behind_few.ensures.failed.fine (λ is. cc) ∙ c.batches.invariant.no_fault;
}
