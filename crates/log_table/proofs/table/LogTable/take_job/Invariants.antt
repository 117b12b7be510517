use Rattle.log_table.proofs.table.LogTable.take_job.Given as goal

abbrev pub ghosts-take_job_as : goal.ghosts-take_job_as
ghosts-take_job_as a = record { number = a.number; job = a.job.now }
