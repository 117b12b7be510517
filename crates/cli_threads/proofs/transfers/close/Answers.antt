use Rattle.std.proofs.Common.{refl}
use Rattle.cli_threads.proofs.transfers.close.Goals as goal

pub close-requires : goal.close-requires
close-requires c =
    let over = rw c.in-Some.is at c.requires.served in
    record { seat = over.seat; may = over.over }

pub returns : goal.returns
returns c = rw c.in-Some.is record {
  fault = refl;
  done = refl;
  refused = refl;
  ends_are = refl;
  gathered = c.close.ensures.gathered;
  accounts = c.close.ensures.accounts;
  heard = c.close.ensures.heard;
}
