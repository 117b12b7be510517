use Rattle.std.proofs.Common.{rules, ◌≡◌, ◌<◌, ◌^◌, ◌++◌, ap, All, length, take, drop, arith}
use Rattle.std.proofs.lemmas.List.{take-append-drop}
use Rattle.std.proofs.lemmas.List.Elements.{All-from_get_or}
use Rattle.std.specs.List.{flat_map}
use Rattle.lsn_space.specs.Unit.{unit_bytes}
use Rattle.log_record.specs.Spelling.{IsPrintable}
use Rattle.log_record.proofs.TextLemmas.{unit_bytes-text_and_zeros, text_and_zeros-text_units}
use Rattle.log_record.proofs.note.read_text.Goals as goal
use Rattle.log_record.proofs.note.read_text.Goals.{else-is_printable-via-then-is_printable+else-is_zero, else-is_printable-via-else-is_printable}

pub returns-then-is_zero-clause-found : goal.returns-then-is_zero-clause-found
returns-then-is_zero-clause-found c =
    let bytes = flat_map unit_bytes c.args.units.now in
    let len : length c.from_bytes.result ≡ c.args.len = omega (arith, ap length c.from_bytes.ensures, c.split_at.ensures.front_len) in
    let split : take c.args.len bytes ++ drop c.args.len bytes ≡ bytes = take-append-drop c.args.len bytes in
    let whole : bytes ≡ c.from_bytes.result ++ c.split_at.result.1.now = cc in
    let below = All-from_get_or (λ unit. unit < 2 ^ 64) c.args.units.now 0 (λ i _. omega (arith, c.type_inv.units i)) in (
      len,
      text_and_zeros-text_units c.args.units.now c.from_bytes.result c.split_at.result.1.now
          below (rw len c.requires.count) whole (search rules steps 500000) (search rules steps 500000),
    )

pub returns-else-is_printable-clause-bad : goal.returns-else-is_printable-clause-bad
returns-else-is_printable-clause-bad c = λ text is len units.
    let front = unit_bytes-text_and_zeros c.args.units.now text is.2 units in
    let same : c.split_at.result.0.now ≡ text = cc in
    let zeros : c.split_at.result.1.now ≡ drop (length text) (flat_map unit_bytes c.args.units.now) = cc in
    elim c.else-is_printable.branch [
      | else-is_printable-via-then-is_printable+else-is_zero w ↦
          let all : All (λ byte. byte ≡ 0) c.split_at.result.1.now = rw zeros front.1 in search rules
      | else-is_printable-via-else-is_printable w ↦ let all : All IsPrintable c.split_at.result.0.now = rw same is.2 in search rules
    ]

pub returns-then-is_zero-clause-note : goal.returns-then-is_zero-clause-note
returns-then-is_zero-clause-note c = search rules steps 800000
