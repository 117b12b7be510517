use Rattle.std.proofs.Common.{◌≤◌, ap, refl, subst, ◌++◌, [], length, drop, arith}
use Rattle.lsn_space.specs.Opening.{Opening}
use Rattle.segment_file.specs.Scan.{IsScanFaultOf}
use Rattle.segment_file.specs.Taking.{TakesFront}
use Rattle.source_recovery.proofs.ReadingLemmas.{taken_front-bound, front-HasReadLog}
use Rattle.source_recovery.proofs.batches.LogReader.begin.Goals as goal

pub invariant_of-result : goal.invariant_of-result
invariant_of-result g c =
    omega (
      arith,
      taken_front-bound _ _ _ _ c.in-Ok.ensures.found c.in-Ok.ensures.within,
      ap (λ (o : Opening). o.lsn) c.opening.view_is,
    )

pub returns-in-Ok-clause-found : goal.returns-in-Ok-clause-found
returns-in-Ok-clause-found g c =
    let taken = subst (λ bytes. TakesFront bytes c.in-Ok.opening c.in-Ok.units.items (drop c.in-Ok.count bytes)) c.ahead.ensures
    c.in-Ok.ensures.found in
    front-HasReadLog _ _ c.fills.window _ c.in-Ok.opening c.in-Ok.units.items c.in-Ok.count c.fills.invariant.passed taken
    (subst (λ bytes. c.in-Ok.count ≤ length bytes) c.ahead.ensures c.in-Ok.ensures.within) c.pass.ensures refl
    (omega (arith, ap (λ (o : Opening). o.lsn) c.opening.view_is, taken.total))

pub returns-then-is_final-clause-fault : goal.returns-then-is_final-clause-fault
returns-then-is_final-clause-fault g c =
    let dropped = c.in_ok-drop_rest.ensures.rest (g.S.Source.left c.args.source.now) [] c.fills.invariant.passed in
    record {
      bytes = [] ++ (c.fills.window.ahead ++ dropped.rest);
      gave = dropped.gave;
      is = c.if-is_final.ensures.stays refl dropped.rest dropped.none
          (subst (λ bytes. IsScanFaultOf bytes c.in-Err.fault) c.ahead.ensures c.in-Err.ensures.fault);
      no_want = c.in_default.not-NoMemory;
    }
