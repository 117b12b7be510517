use Rattle.std.proofs.Common.{◌∙◌, arith}
use Rattle.segment_file.proofs.GateBytes.{shut-within}
use Rattle.own_records.proofs.Appends.{append-not_begun, append-failed, append-succeeded}
use Rattle.own_records.proofs.appending.append.Goals as goal

pub returns-in_err-write_gated-clause-appends : goal.returns-in_err-write_gated-clause-appends
returns-in_err-write_gated-clause-appends g c =
    let body = c.as_slice.ensures.value ∙ c.in_ok-bytes.ensures in
    append-failed g.D.LogDisk g.met.D.LogDisk.read_is_image g.met.D.LogDisk.counts_now g.met.D.LogDisk.only_now c.args.end.at c.args.text.now
    (record { some = c.requires.some; most = c.requires.most }) _ _ _ c.requires.shut (rw body at c.write_gated.ensures) _ _ c.from_residual-in_err-write_gated.ensures.1

pub returns-clause-appends : goal.returns-clause-appends
returns-clause-appends g c =
    let body = c.as_slice.ensures.value ∙ c.in_ok-bytes.ensures in
    let wrote = rw body at c.in_ok-write_gated.ensures in
    append-succeeded g.D.LogDisk g.met.D.LogDisk.read_is_image g.met.D.LogDisk.counts_now g.met.D.LogDisk.only_now c.args.end.at c.args.text.now
    (record { some = c.requires.some; most = c.requires.most }) _ _ _ c.requires.shut wrote wrote.written wrote.settled _ (omega arith)

pub returns-then-end-ge-MOST_PLACE-clause-appends : goal.returns-then-end-ge-MOST_PLACE-clause-appends
returns-then-end-ge-MOST_PLACE-clause-appends g c =
    append-not_begun g.D.LogDisk c.args.end.at c.args.text.now c.args.disk.now (λ fault. Unit {0}) _ tt

pub returns-in_err-bytes-clause-appends : goal.returns-in_err-bytes-clause-appends
returns-in_err-bytes-clause-appends g c =
    append-not_begun g.D.LogDisk c.args.end.at c.args.text.now c.args.disk.now _ _ c.from_residual.ensures.1

pub write_gated-requires-clause-within : goal.write_gated-requires-clause-within
write_gated-requires-clause-within g c = λ honest. shut-within _ _ (c.requires.shut honest) _ (g.met.D.LogDisk.read_is_image _ honest)
