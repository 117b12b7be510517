use Rattle.run_plan.proofs.demo.generate.Goals as goal

pub returns-clause-script : goal.returns-clause-script
returns-clause-script c = c.in_ok-script.ensures.jobs
