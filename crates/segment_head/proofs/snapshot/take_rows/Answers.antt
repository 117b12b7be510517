use Rattle.std.proofs.Common.{rules, ℕ, ◌∷◌, [], ◌++◌, ◌∙◌, ap, length-append, append_assoc, arith}
use Rattle.lsn_space.specs.Accounts.{Accounts}
use Rattle.segment_head.proofs.HeadLemmas.{rows_left-twelve_bytes, rows_left-step, read_rows-push, all_rows-push}
use Rattle.segment_head.proofs.snapshot.take_rows.Goals as goal
use Rattle.segment_head.proofs.snapshot.take_rows.Goals.{then-balance-gt-MOST_BALANCE-via-then-balance-gt-MOST_BALANCE, then-balance-gt-MOST_BALANCE-via-else-balance-gt-MOST_BALANCE+then-mark-lsn}

pub returns-in_default-clause-none : goal.returns-in_default-clause-none
returns-in_default-clause-none c = λ rows rest counted each whole.
    omega (
      arith,
      c.in_default.ensures.none,
      rows_left-twelve_bytes c.args.lsn c.accounts.counter c.args.count _ rest (omega arith) (c.accounts.invariant.left rows rest counted each whole),
    )

pub returns-then-balance-gt-MOST_BALANCE-clause-none : goal.returns-then-balance-gt-MOST_BALANCE-clause-none
returns-then-balance-gt-MOST_BALANCE-clause-none c = λ rows rest counted each whole.
    let next = rows_left-step c.args.lsn c.accounts.counter c.args.count c.in-Some.balance c.in-Some.mark _ c.in-Some.after.now rest (omega arith) (search rules) (search rules)
    (omega arith) c.in-Some.ensures.some (c.accounts.invariant.left rows rest counted each whole) in
    elim c.then-balance-gt-MOST_BALANCE.branch [
      | then-balance-gt-MOST_BALANCE-via-then-balance-gt-MOST_BALANCE w ↦ omega (arith, next.0.0)
      | then-balance-gt-MOST_BALANCE-via-else-balance-gt-MOST_BALANCE+then-mark-lsn w ↦ omega (arith, next.0.1)
    ]

pub accounts-preserved : goal.accounts-preserved
accounts-preserved c =
    let before = c.accounts.invariant in
    let row : ℕ × ℕ = (c.in-Some.balance, c.in-Some.mark) in
    record {
      more = before.more ++ row ∷ [];
      counted = omega (arith, before.counted, length-append before.more (row ∷ []));
      each = all_rows-push c.args.lsn before.more row before.each (omega arith, omega arith);
      whole = read_rows-push before.more c.in-Some.balance c.in-Some.mark _ _ _ before.whole c.in-Some.ensures.some;
      rows = ap (λ (accounts : Accounts). accounts.rows) c.push.ensures ∙ ap (λ rows. rows ++ row ∷ []) before.rows
          ∙ append_assoc c.args.accounts.now.rows before.more (row ∷ []);
      room = ap (λ (accounts : Accounts). accounts.room) c.push.ensures ∙ before.room;
      left = λ rows rest counted each whole.
          (rows_left-step c.args.lsn c.accounts.counter c.args.count c.in-Some.balance c.in-Some.mark _ c.in-Some.after.now rest (omega arith) (search rules) (search rules)
          (omega arith) c.in-Some.ensures.some (before.left rows rest counted each whole)).1;
    }
