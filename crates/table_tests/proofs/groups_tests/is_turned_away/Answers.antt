use Rattle.table_tests.proofs.groups_tests.is_turned_away.Goals as goal

pub returns : goal.returns
returns g c = record {
  may = λ next txn may. c.leave_refused.ensures.may next txn (c.in-Err.ensures.refused_goes_on next (c.lead_if_first.ensures.goes_on next may));
}
