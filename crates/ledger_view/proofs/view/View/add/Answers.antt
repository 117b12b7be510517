use Rattle.std.proofs.Common.{List, subst, sym}
use Rattle.std.proofs.lemmas.Result.{on_ok_weaker, IfErr-weaker}
use Rattle.log_record.specs.declared.rec.Placed.{Placed}
use Rattle.lock_core.specs.History.{entry_at}
use Rattle.lock_core.specs.Sums.{Opening}
use Rattle.lock_core.specs.Taking.{HasJudged, IsTakeFault}
use Rattle.ledger_view.specs.Entering.{AddsEntry, CanAdd}
use Rattle.ledger_view.specs.ViewedAccounts.{HasViewed}
use Rattle.ledger_view.proofs.ViewLemmas.{adds_entry_err-take_fault, adds_entry_ok-has_viewed, other_kind-no_genesis_no_commit, views-other_kind}
use Rattle.ledger_view.proofs.view.View.add.Goals as goal

pub returns-in_default : goal.returns-in_default
returns-in_default c =
    let old = c.args.self.now in let rec' = c.args.rec.now in
    let other = other_kind-no_genesis_no_commit rec' c.in_default.not-Genesis c.in_default.not-Commit in
    record {
      taken = on_ok_weaker c.take.result
          (λ taken opening h viewed. views-other_kind opening old c.args.lsn c.take.new.self h viewed rec' other.0 other.1
          (record { given = c.requires.taken; spellable = c.requires.spellable; fits = c.requires.fits }) (taken opening h viewed.judged))
          c.take.ensures.taken;
      fault = IfErr-weaker c.take.result
          (λ fault. (opening : Opening) (h : List Placed) → HasJudged opening old.judge h → IsTakeFault opening h (entry_at c.args.lsn rec') fault)
          (λ fault. (opening : Opening) (h : List Placed) → HasViewed opening old h → IsTakeFault opening h (entry_at c.args.lsn rec') fault)
          (λ fault told opening h viewed. told opening h viewed.judged) c.take.ensures.fault;
    }

pub returns-in-Genesis-clause-taken : goal.returns-in-Genesis-clause-taken
returns-in-Genesis-clause-taken c = adds_entry_ok-has_viewed c.args.self.now c.add_genesis.new.self _ c.add_genesis.result c.add_genesis.ensures

pub returns-in-Genesis-clause-fault : goal.returns-in-Genesis-clause-fault
returns-in-Genesis-clause-fault c = adds_entry_err-take_fault c.args.self.now c.add_genesis.new.self _ c.add_genesis.result c.add_genesis.ensures

pub add_commit-requires : goal.add_commit-requires
add_commit-requires c = subst (CanAdd c.args.self.now c.args.lsn) c.in-Commit.is
    (record { given = c.requires.taken; spellable = c.requires.spellable; fits = c.requires.fits })

pub returns-in-Commit-clause-taken : goal.returns-in-Commit-clause-taken
returns-in-Commit-clause-taken c = adds_entry_ok-has_viewed c.args.self.now c.add_commit.new.self _ c.add_commit.result
    (subst (λ rec. AddsEntry c.args.self.now c.add_commit.new.self (entry_at c.args.lsn rec) c.add_commit.result) (sym c.in-Commit.is) c.add_commit.ensures)

pub returns-in-Commit-clause-fault : goal.returns-in-Commit-clause-fault
returns-in-Commit-clause-fault c = adds_entry_err-take_fault c.args.self.now c.add_commit.new.self _ c.add_commit.result
    (subst (λ rec. AddsEntry c.args.self.now c.add_commit.new.self (entry_at c.args.lsn rec) c.add_commit.result) (sym c.in-Commit.is) c.add_commit.ensures)
