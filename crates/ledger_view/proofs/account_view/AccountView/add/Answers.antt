use Rattle.std.proofs.Common.{ℕ, List, ◌≡◌, ◌≤◌, ◌+◌, ◌∷◌, length, subst, sym, arith}
use Rattle.std.specs.Prelude.{OnOk, IfErr}
use Rattle.lsn_space.specs.declared.lsn.TheConstants.{LAST}
use Rattle.log_record.specs.Spelling.{spelling, IsSpellable}
use Rattle.std.proofs.lemmas.Result.{on_ok_weaker, IfErr-weaker}
use Rattle.log_record.specs.declared.rec.Placed.{Placed}
use Rattle.lock_core.specs.History.{end_from, entry_at}
use Rattle.lock_core.specs.Sums.{Opening}
use Rattle.lock_core.specs.Taking.{HasJudged, IsTakeFault}
use Rattle.ledger_view.specs.KeptAccount.{HasKept}
use Rattle.ledger_view.proofs.AccountViewLemmas.{other_kind-no_commit, kept-other_kind}
use Rattle.ledger_view.proofs.account_view.AccountView.add.Goals as goal

pub returns-in_default : goal.returns-in_default
returns-in_default c =
    let old = c.args.self.now in let rec' = c.args.rec.now in
    record {
      taken = on_ok_weaker c.take.result
          (λ taken account opening h kept here.
          kept-other_kind account opening old h kept c.args.lsn here c.take.new.self rec' (other_kind-no_commit rec' c.in_default.not-Commit)
          (taken opening h kept.judged))
          c.take.ensures.taken;
      fault = IfErr-weaker c.take.result
          (λ fault. (opening : Opening) (h : List Placed) → HasJudged opening old.judge h → IsTakeFault opening h (entry_at c.args.lsn rec') fault)
          (λ fault. (account : ℕ) (opening : Opening) (h : List Placed) → HasKept account opening old h
          → IsTakeFault opening h (entry_at c.args.lsn rec') fault)
          (λ fault told account opening h kept. told opening h kept.judged) c.take.ensures.fault;
    }

pub add_commit-requires-clause-legs : goal.add_commit-requires-clause-legs
add_commit-requires-clause-legs c = let spells = subst IsSpellable c.in-Commit.is c.requires.spellable in spells.1

pub add_commit-requires-clause-fits : goal.add_commit-requires-clause-fits
add_commit-requires-clause-fits c =
    let fits = subst (λ rec. c.args.lsn + length (spelling rec) ≤ LAST) c.in-Commit.is c.requires.fits in omega (arith, fits)

pub returns-in-Commit-clause-taken : goal.returns-in-Commit-clause-taken
returns-in-Commit-clause-taken c =
    subst (λ rec. OnOk c.add_commit.result ((account : ℕ) (opening : Opening) (h : List Placed) → HasKept account opening c.args.self.now h
    → c.args.lsn ≡ end_from opening.state.end h → HasKept account opening c.add_commit.new.self (entry_at c.args.lsn rec ∷ h)))
    (sym c.in-Commit.is) c.add_commit.ensures.taken

pub returns-in-Commit-clause-fault : goal.returns-in-Commit-clause-fault
returns-in-Commit-clause-fault c =
    subst (λ rec. IfErr c.add_commit.result (λ fault. (account : ℕ) (opening : Opening) (h : List Placed) → HasKept account opening c.args.self.now h
    → IsTakeFault opening h (entry_at c.args.lsn rec) fault))
    (sym c.in-Commit.is) c.add_commit.ensures.fault
