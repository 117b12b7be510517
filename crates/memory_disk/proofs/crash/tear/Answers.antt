use Rattle.std.proofs.Common.{arith, rules, sym, subst, length}
use Rattle.std.proofs.lemmas.Grind.{common_steps}
use Rattle.log_disk.specs.Disk.{IsTorn}
use Rattle.memory_disk.proofs.Cuts.{picked_torn-put_front}
use Rattle.log_disk.proofs.Torn.{IsTorn-put, IsTorn-trans, IsTorn-widen}
use Rattle.memory_disk.proofs.crash.tear.Goals as goal

pub returns-clause-torn : goal.returns-clause-torn
returns-clause-torn c =
    let n = length c.args.bytes.now in
    let placed = subst (IsTorn c.args.at n c.args.image.now.items) (sym c.place.ensures.put) (IsTorn-put c.args.at n _ _ (search rules) (search rules)) in
    IsTorn-trans _ _ _ _ _ placed (IsTorn-widen _ _ _ _ _ (search rules) c.overwrite.ensures.torn)

pub returns-clause-landed : goal.returns-clause-landed
returns-clause-landed c = λ within few.
    picked_torn-put_front _ _ _ _ _ _ _ _ _ few c.up_to-landed.ensures.digit c.up_to-landed.ensures.rest c.up_to-noisy.ensures.digit (search rules) c.overwrite.ensures.torn

pub returns-clause-none : goal.returns-clause-none
returns-clause-none c = grind (arith, common_steps) steps 3000000
