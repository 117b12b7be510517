use Rattle.std.proofs.Common.{◌≡◌, ◌+◌, ◌*◌, refl, length, arith}
use Rattle.std.proofs.lemmas.Result.{err_from_is_err_and}
use Rattle.segment_cut.proofs.Behind.{underway-tail_within}
use Rattle.segment_cut.proofs.Adding.{adds-failed, adds-succeeded}
use Rattle.segment_cut.proofs.underway.add_cut.Goals as goal

pub write_opened-requires-clause-within : goal.write_opened-requires-clause-within
write_opened-requires-clause-within g c = λ honest.
    let underway = c.requires.underway honest in
    underway-tail_within c.args.tail underway.0 underway.1 _ _ (g.met.D.LogDisk.read_is_image _ honest) underway.2

pub returns-in_err-write_opened : goal.returns-in_err-write_opened
returns-in_err-write_opened g c =
    let failed = err_from_is_err_and c.from_residual.result c.from_residual.ensures.1 in
    adds-failed g.D.LogDisk c.args.tail _ _ _ _ (g.met.D.LogDisk.read_is_image _) c.requires.underway _ c.write_opened.ensures
    c.in_err-write_opened.ensures.cause.failed _ failed.0 failed.1

pub returns : goal.returns
returns g c =
    let wrote = c.in_ok-write_opened.ensures in
    let at : c.args.tail.at + 5 + 8 * c.count-count.result ≡ c.args.tail.at + (5 + 8 * length c.args.batch.now.units) = omega arith in
    let next : c.new.result ≡ c.args.tail.next + length c.args.batch.now.units = omega arith in
    adds-succeeded g.D.LogDisk c.args.tail _ _ _ _ (g.met.D.LogDisk.read_is_image _) c.requires.underway _ c.write_opened.ensures
    (record { some = c.requires.some; most = c.requires.most; each = wrote.units }) c.requires.fits wrote.written wrote.cause.fine
    _ (record { at = c.args.tail.at + 5 + 8 * c.count-count.result; next = c.new.result }) refl at next
