use Rattle.std.proofs.Common.{◌≡◌, ℕ, ◌+◌, ◌∷◌, refl, sym, subst, arith}
use Rattle.txn_tables.specs.Values.{PutsValue}
use Rattle.lock_core.specs.declared.transactions.Transactions.{Transactions}
use Rattle.lock_core.specs.Transactions.{own_records_of}
use Rattle.lock_core.specs.KeptLedger.{IsOpenAt, KeepsTransactions, update_at}
use Rattle.lock_core.proofs.KeepingLemmas.{first_update-keeps_transactions, none_active-keeps_transactions, none_active-is_open_at}
use Rattle.lock_core.proofs.transactions.Transactions.push.Goals as goal
use Rattle.lock_core.proofs.transactions.Transactions.push.Goals.{then-self-eq0, else-self-eq0, then-place-eq0, else-place-eq0}

pub returns-in-Ok : goal.returns-in-Ok
returns-in-Ok c = λ end h kept open' count.
    let IsReady : Transactions → Type 0 = λ t. KeepsTransactions t h × IsOpenAt t.updates c.args.place (own_records_of c.args.txn h) in
    let ready : IsReady c.if-self-eq0.self =
    elim c.if-self-eq0.branch [
      | then-self-eq0 w ↦ subst IsReady (sym w.self-is)
          (subst (λ updates. IsReady (record c.args.self.now { updates = updates })) (sym w.clear.ensures) (
            none_active-keeps_transactions c.args.self.now h kept w.if-self-eq0.true,
            (none_active-is_open_at c.args.self.now h kept w.if-self-eq0.true c.args.txn c.args.place open').1,
          ))
      | else-self-eq0 w ↦ subst IsReady (sym w.self-is) (kept, open')
    ] in
    let before : Transactions = c.if-self-eq0.self in
    let kept_then : (active : ℕ) → (c.args.place ≡ 0 → active ≡ before.active + 1) → ((c.args.place ≡ 0 → ⊥) → active ≡ before.active)
    → (is : c.if-place-eq0.self ≡ record before { updates = c.push.new.self; active = active })
    → KeepsTransactions (record { newest = c.put.new.self; updates = c.if-place-eq0.self.updates; active = c.if-place-eq0.self.active })
    (update_at end c.args.txn c.args.change ∷ h) = λ active up same is.
    subst (λ (t : Transactions). KeepsTransactions (record { newest = c.put.new.self; updates = t.updates; active = t.active }) (update_at end c.args.txn c.args.change ∷ h))
    (sym is)
    (first_update-keeps_transactions before.newest c.put.new.self before.updates c.push.new.self before.active active c.args.txn c.in_ok-newest.newest end
    (record { change = c.args.change; count = c.args.count; older = c.args.place }) h c.in_ok-newest.ensures.links c.in_ok-newest.ensures.place
    c.in_ok-newest.ensures.fits (subst (λ (t : Transactions). PutsValue t.newest c.put.new.self c.args.txn c.in_ok-newest.newest) is c.in-Ok.ensures.put) up same ready.1 count ready.0) in
    elim c.if-place-eq0.branch [
      | then-place-eq0 w ↦ kept_then w.saturating_add-self.result (λ none. let fits = ready.0.active.1.fits in omega (
        arith,
        w.saturating_add-self.ensures,
        c.in_ok-newest.ensures.place,
        c.in_ok-newest.ensures.fits,
      )) (λ some. absurd (some w.if-place-eq0.true)) w.self-is
      | else-place-eq0 w ↦ kept_then before.active (λ none. absurd (w.if-place-eq0.false none)) (λ some. refl) w.self-is
    ]
