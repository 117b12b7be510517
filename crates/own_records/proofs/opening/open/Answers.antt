use Rattle.std.proofs.Common.{◌∙◌, sym, subst}
use Rattle.log_disk.specs.Disk.{IsOnlyImage}
use Rattle.own_records.specs.Records.{StandsAt}
use Rattle.own_records.proofs.OpenFaults.{fault-answered}
use Rattle.own_records.proofs.Opens.{opens-answered, image-opened, image-not_opened}
use Rattle.own_records.proofs.Standing.{stands-stable}
use Rattle.own_records.proofs.opening.open.Goals as goal

pub returns-in_err-create-clause-opens : goal.returns-in_err-create-clause-opens
returns-in_err-create-clause-opens g c =
    image-not_opened g.D.LogDisk _ _ _ _ c.open_image.ensures _ _ c.create.ensures.opens _ _ c.from_residual-in_err-create.ensures.1

pub returns-then-is_fresh-clause-opens : goal.returns-then-is_fresh-clause-opens
returns-then-is_fresh-clause-opens g c =
    image-opened g.D.LogDisk _ _ _ _ c.open_image.ensures _ _ (opens-answered g.D.LogDisk _ _ _ c.in_ok-create.ensures.opens)

pub returns-in_err-found-clause-fault : goal.returns-in_err-found-clause-fault
returns-in_err-found-clause-fault g c = λ honest.
    fault-answered _ _ _ _ (c.as_slice-2.ensures.value ∙ c.in_ok-bytes.ensures.bytes honest) c.in_err-found.ensures.fault c.from_residual-in_err-found.ensures.1

pub go_on-requires-clause-stable : goal.go_on-requires-clause-stable
go_on-requires-clause-stable g c = λ honest.
    let was = c.open_image.ensures.honest.1 honest in
    let held = c.as_slice-2.ensures.value ∙ c.in_ok-bytes.ensures.bytes was ∙ sym (c.open_image.ensures.reads was) in
    stands-stable _ _ _ c.in_ok-found.ensures.found _
    (subst (λ file. IsOnlyImage file (g.D.LogDisk.images c.open_image.new.disk)) (sym held) (c.in_ok-bytes.ensures.settled was))

pub go_on-requires-clause-end : goal.go_on-requires-clause-end
go_on-requires-clause-end g c = λ honest.
    let was = c.open_image.ensures.honest.1 honest in
    let held = c.as_slice-2.ensures.value ∙ c.in_ok-bytes.ensures.bytes was ∙ sym (c.open_image.ensures.reads was) in (
      c.in_ok-found.found.records.items,
      λ crash left.
          subst (StandsAt c.in_ok-found.found.at c.in_ok-found.found.records.items) (held ∙ sym (c.in_ok-bytes.ensures.settled was crash left)) c.in_ok-found.ensures.found,
    )

pub returns-in_err-go_on-clause-opens : goal.returns-in_err-go_on-clause-opens
returns-in_err-go_on-clause-opens g c =
    image-not_opened g.D.LogDisk _ _ _ _ c.open_image.ensures _ _ c.go_on.ensures.opens _ _ c.from_residual-in_err-go_on.ensures.1

pub returns-clause-opens : goal.returns-clause-opens
returns-clause-opens g c =
    image-opened g.D.LogDisk _ _ _ _ c.open_image.ensures _ _ (opens-answered g.D.LogDisk _ _ _ c.in_ok-go_on.ensures.opens)
