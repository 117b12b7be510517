use Rattle.std.proofs.Common.{◌∙◌, ap, subst, sym, length, All, arith}
use Rattle.log_record.specs.LogList.{units_of}
use Rattle.log_rule.specs.declared.start.Start.{Start}
use Rattle.lock_core.specs.Transfers.{IsAllowedJob}
use Rattle.txn_script.proofs.GeneratorLemmas.{generated-allowed, length-generated}
use Rattle.cli_demo.proofs.DemoLemmas.{accounts-generated, generated_rows-all_balances, generated_rows-length, genesis_list-generated}
use Rattle.cli_demo.proofs.demo_command.prepare_demo.Goals as goal

pub genesis-requires-clause-few : goal.genesis-requires-clause-few
genesis-requires-clause-few g c = omega (arith, generated_rows-length _ c.in_ok-script.ensures.accounts)

pub genesis-requires-clause-each : goal.genesis-requires-clause-each
genesis-requires-clause-each g c = generated_rows-all_balances _ c.in_ok-script.ensures.accounts

pub prepare-requires-clause-accounts : goal.prepare-requires-clause-accounts
prepare-requires-clause-accounts g c = accounts-generated _ c.in_ok-script.ensures.accounts

pub prepare-requires-clause-numbered : goal.prepare-requires-clause-numbered
prepare-requires-clause-numbered g c =
    omega (arith, ap length c.in_ok-script.ensures.script, length-generated c.args.transfers c.args.seed, c.requires.few)

pub prepare-requires-clause-allowed : goal.prepare-requires-clause-allowed
prepare-requires-clause-allowed g c =
    subst (λ n. All (IsAllowedJob n) c.in_ok-script.field-0.script) (sym (generated_rows-length _ c.in_ok-script.ensures.accounts))
    (subst (All (IsAllowedJob 64)) (sym c.in_ok-script.ensures.script) (generated-allowed c.args.transfers c.args.seed))

pub returns-clause-prepared : goal.returns-clause-prepared
returns-clause-prepared g c =
    let made = c.in_ok-prepared.ensures in
    record {
      start = ap (λ (key : Start). key.start) made.key ∙ c.new.ensures;
      accounts = ap (λ (key : Start). key.accounts.rows) made.key ∙ c.in_ok-script.ensures.accounts;
      ring = ap (λ (key : Start). key.ring) made.key ∙ c.plan_of_demo-plan.ensures.ring;
      slots = ap (λ (key : Start). key.slots) made.key ∙ c.plan_of_demo-plan.ensures.slots;
      generated = record { script = made.script ∙ c.in_ok-script.ensures.script; first = made.first };
      workers_are = made.workers ∙ c.plan_of_demo-plan.ensures.workers;
      ready = made.prepared;
    }

pub returns-clause-batch : goal.returns-clause-batch
returns-clause-batch g c = c.in_ok-batch.ensures ∙ ap units_of (genesis_list-generated _ c.in_ok-script.ensures.accounts)
