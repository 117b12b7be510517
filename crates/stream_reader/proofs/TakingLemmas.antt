-- What a call of `take` answers, exit by exit.
use Rattle.std.proofs.Common.{◌≡◌, ◌<◌, ◌≤◌, ◌∙◌, sym, ap, subst, ℕ, ◌+◌, List, [], ◌++◌, length, take, drop, arith, append_assoc, Ok, Err}
use Rattle.std.proofs.Math.Seq.{take-add}
use Rattle.std.proofs.lemmas.List.{take-append-drop, length-drop}
use Rattle.std.specs.Int.{w32, to_be_bytes}
use Rattle.lsn_space.specs.declared.lsn.TheConstants.{LAST}
use Rattle.ship_stream.specs.Came.{Came, IsBadBehind}
use Rattle.ship_stream.specs.declared.layout.TheConstants.{MOST_FRAME_UNITS}
use Rattle.stream_reader.proofs.ReaderLemmas.{count-reads_at_units}
use Rattle.stream_reader.specs.declared.reader.Stage.TheVariants.{Count, Units}
use Rattle.stream_reader.specs.Advance.{Advances, TakesBytes, Takes}
use Rattle.stream_reader.specs.Reader.{ReadsAt, HasRead}
use Rattle.stream_reader.specs.declared.reader.BadStream.{BadStream}
use Rattle.stream_reader.specs.declared.reader.Part.{Part}
use Rattle.stream_reader.specs.declared.reader.Part.TheVariants as part
use Rattle.stream_reader.specs.declared.reader.Stage.{Stage}
use Rattle.stream_reader.specs.declared.reader.StreamReader.{StreamReader}

-- the reader as its fields say
pub ReadsAt-HasRead : (reader : StreamReader) (stage : Stage) (at next room : ℕ) (units begun bytes : List ℕ) (came : Came) → reader.stage ≡ stage
    → reader.at ≡ at
    → reader.next ≡ next → reader.batch.room ≡ room → reader.batch.units ≡ units → reader.begun ≡ begun
    → ReadsAt stage at next room units begun bytes came
    → HasRead reader bytes came
ReadsAt-HasRead reader stage at next room units begun bytes came is_stage is_at is_next is_room is_units is_begun read =
    rw (is_stage, is_at, is_next, is_room, is_units, is_begun) read

pub HasRead-ReadsAt : (reader : StreamReader) (stage : Stage) (bytes : List ℕ) (came : Came) → reader.stage ≡ stage → HasRead reader bytes came
    → ReadsAt stage reader.at reader.next reader.batch.room reader.batch.units reader.begun bytes came
HasRead-ReadsAt reader stage bytes came is read =
    subst (λ s. ReadsAt s reader.at reader.next reader.batch.room reader.batch.units reader.begun bytes came) is read

-- a part
pub takes-part : (old new : StreamReader) (piece : List ℕ) (used : ℕ) (part : Part) → used ≤ length piece → TakesBytes part used piece
    → ((past : List ℕ) (came : Came) → HasRead old past came → Advances part came new (past ++ take used piece))
    → Takes old new piece (Ok (used, part))
takes-part old new piece used part within some advances = record {
  within = within;
  used = some;
  part = advances;
  bad =
      λ past came read. tt;
}

-- a fault
pub takes-bad : (old new : StreamReader) (piece : List ℕ) (offset : ℕ)
    → ((past : List ℕ) (came : Came) → HasRead old past came → (more : List ℕ) → IsBadBehind came (past ++ piece ++ more) offset)
    → Takes old new piece (Err (record { offset = offset }))
takes-bad old new piece offset bad = record { within = tt; used = tt; part = λ past came read. tt; bad = bad }

-- ---- a number, and then what it counts

-- the count of a frame is read
pub count_read-HasRead : (old mid : StreamReader) (taken : List ℕ) (count : ℕ) → old.stage ≡ Count → old.begun ++ taken ≡ to_be_bytes w32 count
    → 0 < count
    → (count ≤ MOST_FRAME_UNITS) × (old.next + count ≤ LAST) → mid.stage ≡ Units count → (mid.batch.units ≡ []) × (mid.begun ≡ [])
    → (mid.at ≡ old.at) × (mid.next ≡ old.next) × (mid.batch.room ≡ old.batch.room)
    → (past : List ℕ) (came : Came) → HasRead old past came → HasRead mid (past ++ taken) came
count_read-HasRead old mid taken count at_count is some room stage empty rest past came read =
    ReadsAt-HasRead mid (Units count) old.at old.next old.batch.room [] [] (past ++ taken) came stage rest.0 rest.1 rest.2 empty.0 empty.1
    (count-reads_at_units old.at old.next old.batch.room old.batch.units old.begun past taken came count
    (HasRead-ReadsAt old Count past came at_count read) is some room.0 room.1)

module _ (old mid new : StreamReader) (piece rest : List ℕ) (used : ℕ) (within : used ≤ length piece) (rest_is : rest ≡ drop used piece)
    (goes : (past : List ℕ) (came : Came) → HasRead old past came → HasRead mid (past ++ take used piece) came) where
  whole : take used piece ++ rest ≡ piece
  whole = ap (λ list. take used piece ++ list) rest_is ∙ take-append-drop used piece

  pub takes_both-bad : (fault : BadStream) → Takes mid new rest (Err fault) → Takes old new piece (Err fault)
  takes_both-bad fault takes = record {
    within = tt;
    used = tt;
    part = λ past came read. tt;
    bad = λ past came read more.
        subst (λ list. IsBadBehind came (list ++ more) fault.offset) (append_assoc past (take used piece) rest
        ∙ ap (λ list. past ++ list) whole)
        (takes.bad (past ++ take used piece) came (goes past came read) more);
  }

  both-used : (more : ℕ) (part : Part) → TakesBytes part more rest → TakesBytes part (used + more) piece
  both-used more part.More all = omega (arith, all, within, ap length rest_is, length-drop used piece)
  both-used more (part.Head first) some = omega (arith, some)
  both-used more part.Frame some = omega (arith, some)
  both-used more part.End some = omega (arith, some)

  pub takes_both-part : (more : ℕ) (part : Part) → Takes mid new rest (Ok (more, part)) → Takes old new piece (Ok (used + more, part))
  takes_both-part more part takes = record {
    within = omega (arith, takes.within, within, ap length rest_is, length-drop used piece);
    used = both-used more part takes.used;
    part = λ past came read.
        subst (Advances part came new)
        (append_assoc past (take used piece) (take more rest)
        ∙ ap (λ list. past ++ (take used piece ++ take more list)) rest_is ∙ ap (λ list. past ++ list) (sym (take-add used more piece)))
        (takes.part (past ++ take used piece) came (goes past came read));
    bad = λ past came read. tt;
  }
