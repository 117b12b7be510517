use Rattle.txn_script.proofs.OrderLemmas.{room-generated, generated-done, generated-balance, generated-end, generated-sum}
use Rattle.txn_script.proofs.generator.generated_in_any_order.Goals as goal

pub returns-clause-room : goal.returns-clause-room
returns-clause-room c = room-generated

pub returns-clause-done : goal.returns-clause-done
returns-clause-done c = λ n seed first base h few opens. generated-done n seed base few opens first h

pub returns-clause-balance : goal.returns-clause-balance
returns-clause-balance c = λ n seed first base h account few opens. generated-balance n seed base few opens first h account

pub returns-clause-end : goal.returns-clause-end
returns-clause-end c = generated-end

pub returns-clause-sum : goal.returns-clause-sum
returns-clause-sum c = generated-sum
