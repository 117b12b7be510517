use Rattle.std.proofs.Common.{◌∙◌, ◌*◌, ◌++◌, ap, ap₂, take, map}
use Rattle.std.proofs.lemmas.List.{take_all}
use Rattle.lsn_space.specs.Unit.{unit_value}
use Rattle.log_record.proofs.TextLemmas.{text_units-first_chunks}
use Rattle.log_record.proofs.note.push_text.Goals as goal

pub returns : goal.returns
returns c =
    let chunks = c.as_chunks.result.0.now in
    let front = ap₂ (λ n xs. take (8 * n) xs) c.note_units.ensures c.buffer_of-bytes.ensures in
    let units = text_units-first_chunks c.args.text.now _ chunks c.requires.fits front c.as_chunks.ensures.front in
    c.chunks.invariant.pushed ∙ ap (λ xs. c.args.units.now ++ map unit_value xs) (take_all c.chunks.chunk-index chunks c.chunks-test.false)
    ∙ ap (λ us. c.args.units.now ++ us) units
