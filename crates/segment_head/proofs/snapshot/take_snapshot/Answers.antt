use Rattle.std.proofs.Common.{rules, ◌++◌, ◌∙◌, ap, sym, subst, length, length-append, refl, arith}
use Rattle.std.specs.List.{AllByRecursion}
use Rattle.lsn_space.specs.Opening.{Opening, IsRow}
use Rattle.segment_head.specs.Head.{snapshot_bytes}
use Rattle.segment_head.proofs.HeadLemmas.{length-snapshot, front-same, snapshot-read}
use Rattle.segment_head.proofs.snapshot.take_snapshot.Goals as goal
use Rattle.segment_head.proofs.snapshot.take_snapshot.Goals.{then-count-eq0-via-then-count-eq0, then-count-eq0-via-else-count-eq0+then-count-gt-MOST_ACCOUNTS}

pub returns-in_default-clause-bad : goal.returns-in_default-clause-bad
returns-in_default-clause-bad c = λ is opening rest held whole.
    omega (arith, c.in_default.ensures.none, ap length whole, length-append (snapshot_bytes opening) rest, length-snapshot opening)

pub returns-then-count-eq0-clause-bad : goal.returns-then-count-eq0-clause-bad
returns-then-count-eq0-clause-bad c = λ is opening rest held whole.
    let front = front-same opening c.in-Some.lsn c.in-Some.txn c.in-Some.count _ c.in-Some.rest.now rest (search rules) (search rules) (search rules) held c.in-Some.ensures.some whole in
    elim c.then-count-eq0.branch [
      | then-count-eq0-via-then-count-eq0 w ↦ omega (arith, front.count_is, held.some)
      | then-count-eq0-via-else-count-eq0+then-count-gt-MOST_ACCOUNTS w ↦ omega (arith, front.count_is, held.most)
    ]

pub returns-in_default-take_rows-clause-bad : goal.returns-in_default-take_rows-clause-bad
returns-in_default-take_rows-clause-bad c = λ is opening rest held whole.
    let front = front-same opening c.in-Some.lsn c.in-Some.txn c.in-Some.count _ c.in-Some.rest.now rest (search rules) (search rules) (search rules) held c.in-Some.ensures.some whole in
    c.in_default-take_rows.ensures.none opening.accounts rest (sym front.count_is)
    (subst (λ lsn. AllByRecursion (IsRow lsn) opening.accounts) (sym front.lsn_is) held.each) front.rows

pub returns-clause-taken : goal.returns-clause-taken
returns-clause-taken c =
    let taken = c.in-Some-take_rows.ensures.some in
    let accounts = taken.4 ∙ ap (λ rows. rows ++ taken.0) c.in-Ok.ensures.empty in
    let opening : Opening = record { lsn = c.new-lsn.result; txn = c.in-Some.txn; accounts = c.take_rows.new.accounts.rows } in
    snapshot-read opening c.in-Some.lsn c.in-Some.txn c.in-Some.count _ c.in-Some.rest.now _ (sym c.new-lsn.ensures) refl
    (sym taken.1 ∙ ap length (sym accounts)) c.in-Some.ensures.some (rw (accounts) (taken.3))
