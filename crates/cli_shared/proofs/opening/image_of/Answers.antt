use Rattle.std.proofs.Common.{rules}
use Rattle.cli_shared.proofs.AttachedLemmas.{attached-whatever_result}
use Rattle.cli_shared.proofs.opening.image_of.Goals as goal

-- the file could not be opened
pub returns-in_err-attach : goal.returns-in_err-attach
returns-in_err-attach g c = record {
  looks = record { reads = search rules; images = search rules; moments = search rules; count = search rules; honest = search rules };
  bytes = search rules;
  settled = search rules;
  attached = search rules;
  faults = search rules;
}

pub returns : goal.returns
returns g c = record {
  looks = record { reads = search rules; images = search rules; moments = search rules; count = search rules; honest = search rules };
  bytes = search rules;
  settled = search rules;
  attached = λ honest. attached-whatever_result _ _ _ _ c.open_image.result (c.in_ok-attach.ensures.attached honest) c.open_image.ensures.attached;
  faults = search rules;
}
