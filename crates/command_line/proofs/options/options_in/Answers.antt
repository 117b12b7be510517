use Rattle.std.proofs.Common.{rules, ◌≡◌, ◌∙◌, ap, codes, count_ones, arith}
use Rattle.clap.specs.Words.{found_of, rows_of, first_of}
use Rattle.command_line.proofs.OptionLemmas.{IsNumberOf-same}
use Rattle.command_line.proofs.PowerLemmas.{count_ones-power_of_two, power_of_two-count_ones}
use Rattle.command_line.proofs.options.options_in.Goals as goal

pub returns-then-not-is_power_of_two-clause-none : goal.returns-then-not-is_power_of_two-clause-none
returns-then-not-is_power_of_two-clause-none c = λ options are.
    let same : c.in_ok-ring.ring ≡ options.ring =
    IsNumberOf-same (first_of (codes "ring") (rows_of (found_of c.args.found.now))) _ _ _ (omega arith) (omega (arith, are.range.ring))
    c.in_ok-ring.ensures.some are.ring in
    let one : count_ones c.in_ok-ring.ring ≡ 1 = ap count_ones (same ∙ are.range.power.1) ∙ power_of_two-count_ones are.range.power.0 in
    search rules steps 1000000

pub returns-clause-some : goal.returns-clause-some
returns-clause-some c = record {
  range = record {
    workers = (c.in_ok-workers.ensures.least, c.in_ok-workers.ensures.most);
    ring = (c.in_ok-ring.ensures.least, c.in_ok-ring.ensures.most);
    power = count_ones-power_of_two c.in_ok-ring.ring (search rules steps 1000000);
    slots = c.in_ok-slots.ensures.most;
  };
  workers = c.in_ok-workers.ensures.some;
  ring = c.in_ok-ring.ensures.some;
  slots = c.in_ok-slots.ensures.some;
  wait = c.flag_in-wait.ensures;
}

pub returns-in_err-workers-clause-none : goal.returns-in_err-workers-clause-none
returns-in_err-workers-clause-none c = rw (c.from_residual.ensures) (λ options are.
    c.in_err-workers.ensures.none options.workers are.range.workers.0 are.range.workers.1 are.workers)

pub returns-in_err-slots-clause-none : goal.returns-in_err-slots-clause-none
returns-in_err-slots-clause-none c = rw (c.from_residual-in_err-slots.ensures) (λ options are.
    c.in_err-slots.ensures.none options.slots (omega arith) are.range.slots are.slots)
