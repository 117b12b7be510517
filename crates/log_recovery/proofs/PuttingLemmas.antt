-- Puts, one behind another.
use Rattle.std.proofs.Common.{◌≡◌, ℕ, List, [], ◌++◌, Result, Ok, Err, OnOk, OnErr, refl, sym, subst, append_assoc}
use Rattle.std.proofs.lemmas.List.{append-nil}
use Rattle.std.proofs.lemmas.Result.{on_ok_weaker, on_err_weaker}
use Rattle.log_disk.specs.Faults.{HasCause}
use Rattle.log_disk.specs.Streams.{AppendsPart, AppendsBut}
use Rattle.log_disk.specs.declared.sink.Sink.{Ghosts}
use Rattle.log_disk.proofs.Blocks.{AppendsBut-none, AppendsBut-trans, AppendsBut-trans_part_of_piece, AppendsPart-append}
use Rattle.log_disk.specs.Blocks.{PutsPiece}
use Rattle.log_disk.proofs.Uses.{HasCause-ok, HasCause-same_before}

module _ {K : Type 0} (g : Ghosts K) where
  -- nothing is put
  pub puts-none : {T E : Type 0} (k : K) (waits : List ℕ) (value : T) → PutsPiece {T = T} {E = E} g [] k k waits waits (Ok value)
  puts-none k waits value = record {
    all = subst (λ bytes. AppendsBut (g.held_bytes k) (g.held_bytes k) bytes waits) (sym (append-nil waits))
        (AppendsBut-none (g.held_bytes k) waits);
    prefix = tt;
    cause = HasCause-ok (g.faults k) (g.faults k) value refl;
  }

  -- the piece that is put is this text
  pub puts-same_text : {T E : Type 0} (piece text : List ℕ) (old new : K) (waits waits' : List ℕ) (result : Result T E) → piece ≡ text
      → OnOk result (AppendsBut (g.held_bytes old) (g.held_bytes new) (waits ++ piece) waits')
      → OnErr result (AppendsPart (g.held_bytes old) (g.held_bytes new) (waits ++ piece))
      → HasCause (g.faults old) (g.faults new) result → PutsPiece g text old new waits waits' result
  puts-same_text piece text old new waits waits' result is all prefix cause =
      subst (λ bytes. PutsPiece g bytes old new waits waits' result) is record { all = all; prefix = prefix; cause = cause }

  -- two pieces, one behind the other
  module _ (first second : List ℕ) (old mid : K) (waits : List ℕ) where
    pub puts-append : {T E : Type 0} (new : K) (between after : List ℕ) (result : Result T E)
        → AppendsBut (g.held_bytes old) (g.held_bytes mid) (waits ++ first) between → g.faults mid ≡ g.faults old
        → PutsPiece g second mid new between after result → PutsPiece g (first ++ second) old new waits after result
    puts-append new between after result put same rest =
        let from = g.held_bytes old in let to = g.held_bytes new in
        record {
          all = on_ok_weaker result (λ more. subst (λ bytes. AppendsBut from to bytes after) (append_assoc waits first second)
              (AppendsBut-trans from (g.held_bytes mid) to (waits ++ first) between put second after more)) rest.all;
          prefix = on_err_weaker result (λ cut. subst (AppendsPart from to) (append_assoc waits first second)
              (AppendsBut-trans_part_of_piece from (g.held_bytes mid) to (waits ++ first) between put second cut)) rest.prefix;
          cause = HasCause-same_before (g.faults old) (g.faults mid) (g.faults new) result same rest.cause;
        }

    -- the first of them fails
    pub puts-append_first_failed : {T U E : Type 0} (after : List ℕ) (error : E)
        → AppendsPart (g.held_bytes old) (g.held_bytes mid) (waits ++ first)
        → HasCause {T = U} {E = E} (g.faults old) (g.faults mid) (Err error)
        → PutsPiece {T = T} {E = E} g (first ++ second) old mid waits after (Err error)
    puts-append_first_failed after error cut cause = record {
      all = tt;
      prefix = AppendsPart-append (g.held_bytes old) (g.held_bytes mid) _ (waits ++ first) second cut
          (sym (append_assoc waits first second));
      cause = record { later = cause.later; fine = tt; failed = cause.failed };
    }
