use Rattle.std.proofs.Common.{ℕ, ◌-◌, ◌++◌, ap, length, replicate}
use Rattle.std.proofs.lemmas.List.{drop-replicate}
use Rattle.log_record.proofs.note.buffer_of.Goals as goal

pub returns : goal.returns
returns c =
    rw (drop-replicate {X = ℕ} (length c.args.text.now) 200 0)
    (ap (λ xs. xs ++ replicate (200 - length c.args.text.now) 0) c.copy_from_slice.ensures.after)
