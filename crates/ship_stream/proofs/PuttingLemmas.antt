-- Puts, one behind another.
use Rattle.std.proofs.Common.{◌≡◌, ℕ, List, ◌++◌, Result, Err, sym, subst, append_assoc}
use Rattle.std.specs.List.{flat_map}
use Rattle.std.specs.Int.{w32, to_be_bytes}
use Rattle.std.proofs.lemmas.Result.{on_ok_weaker, on_err_weaker}
use Rattle.lsn_space.specs.Unit.{unit_bytes}
use Rattle.log_disk.specs.Faults.{HasCause}
use Rattle.log_disk.specs.Streams.{AppendsPart, AppendsBut}
use Rattle.log_disk.specs.declared.sink.Sink.{Ghosts}
use Rattle.log_disk.proofs.Blocks.{AppendsBut-trans, AppendsBut-trans_part_of_piece, AppendsPart-append}
use Rattle.log_disk.specs.Blocks.{PutsPiece}
use Rattle.log_disk.proofs.Uses.{HasCause-same_before}
use Rattle.ship_stream.specs.Stream.{counted_bytes}

counted-is : (block : List ℕ) (count : ℕ) (units : List ℕ)
    → (block ++ to_be_bytes w32 count) ++ flat_map unit_bytes units ≡ block ++ counted_bytes count units
unfolding counted_bytes
counted-is block count units = append_assoc block (to_be_bytes w32 count) (flat_map unit_bytes units)

-- a count, and the units behind it
module _ {K : Type 0} (g : Ghosts K) (count : ℕ) (units : List ℕ) (old mid : K) (waits : List ℕ) where
  pub counted-put : {T E : Type 0} (new : K) (between after : List ℕ) (result : Result T E)
      → AppendsBut (g.held_bytes old) (g.held_bytes mid) (waits ++ to_be_bytes w32 count) between → g.faults mid ≡ g.faults old
      → PutsPiece g (flat_map unit_bytes units) mid new between after result → PutsPiece g (counted_bytes count units) old new waits after result
  counted-put new between after result put same rest =
      let from = g.held_bytes old in let to = g.held_bytes new in let body : List ℕ = flat_map unit_bytes units in
      record {
        all = on_ok_weaker result (λ more. subst (λ bytes. AppendsBut from to bytes after) (counted-is waits count units)
            (AppendsBut-trans from (g.held_bytes mid) to (waits ++ to_be_bytes w32 count) between put body after more)) rest.all;
        prefix = on_err_weaker result (λ cut. subst (AppendsPart from to) (counted-is waits count units)
            (AppendsBut-trans_part_of_piece from (g.held_bytes mid) to (waits ++ to_be_bytes w32 count) between put body cut)) rest.prefix;
        cause = HasCause-same_before (g.faults old) (g.faults mid) (g.faults new) result same rest.cause;
      }

  pub counted-cut : {T U E : Type 0} (after : List ℕ) (error : E)
      → AppendsPart (g.held_bytes old) (g.held_bytes mid) (waits ++ to_be_bytes w32 count)
      → HasCause {T = U} {E = E} (g.faults old) (g.faults mid) (Err error)
      → PutsPiece {T = T} {E = E} g (counted_bytes count units) old mid waits after (Err error)
  counted-cut after error cut cause = record {
    all = tt;
    prefix = AppendsPart-append (g.held_bytes old) (g.held_bytes mid) _ (waits ++ to_be_bytes w32 count) (flat_map unit_bytes units) cut
        (sym (counted-is waits count units));
    cause = record { later = cause.later; fine = tt; failed = cause.failed };
  }
