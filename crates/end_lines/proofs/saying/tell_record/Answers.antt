use Rattle.std.proofs.Common.{rules}
use Rattle.end_lines.proofs.saying.tell_record.Goals as goal

pub returns-clause-all : goal.returns-clause-all
returns-clause-all g c = search rules steps 900000

pub returns-in_err-put-clause-prefix : goal.returns-in_err-put-clause-prefix
returns-in_err-put-clause-prefix g c = search rules steps 900000

pub returns-then-eq-clause-all : goal.returns-then-eq-clause-all
returns-then-eq-clause-all g c = search rules steps 450000

pub returns-then-eq-clause-prefix : goal.returns-then-eq-clause-prefix
returns-then-eq-clause-prefix g c = search rules steps 200000

pub returns-then-eq-clause-cause : goal.returns-then-eq-clause-cause
returns-then-eq-clause-cause g c = search rules steps 200000

pub returns-in_default-clause-all : goal.returns-in_default-clause-all
returns-in_default-clause-all g c = search rules steps 450000

pub returns-in_default-clause-prefix : goal.returns-in_default-clause-prefix
returns-in_default-clause-prefix g c = search rules steps 200000

pub returns-in_default-clause-cause : goal.returns-in_default-clause-cause
returns-in_default-clause-cause g c = search rules steps 200000

pub returns-in_err-put-clause-all : goal.returns-in_err-put-clause-all
returns-in_err-put-clause-all g c = search rules steps 600000

pub returns-in_err-put-clause-cause : goal.returns-in_err-put-clause-cause
returns-in_err-put-clause-cause g c = search rules steps 900000

pub returns-clause-prefix : goal.returns-clause-prefix
returns-clause-prefix g c = search rules steps 200000

pub returns-clause-cause : goal.returns-clause-cause
returns-clause-cause g c = search rules steps 450000
