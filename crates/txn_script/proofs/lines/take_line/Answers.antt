use Rattle.std.proofs.Common.{◌≡◌, ◌∙◌, sym, ap, [], ◌∷◌, ◌-◌, length, drop, length-drop, arith}
use Rattle.std.proofs.lemmas.List.{take_all, nil_from_length}
use Rattle.txn_script.specs.Lines.{lines}
use Rattle.txn_script.proofs.LineLemmas.{lines-split}
use Rattle.txn_script.proofs.lines.take_line.Goals as goal

pub returns-in-empty-clause-line : goal.returns-in-empty-clause-line
returns-in-empty-clause-line c =
    let none : c.split_at.result.1.now ≡ [] = nil_from_length _ (omega (arith, c.in-empty.len_below)) in
    let all = lines-split _ _ _ c.split_at.result.1.now c.if-is_empty.ensures c.line_len.ensures.within
    c.line_len.ensures.before c.line_len.ensures.found c.split_at.ensures.front c.split_at.ensures.back in
    all ∙ ap (λ rest. c.split_at.result.0.now ∷ lines rest) (ap (drop 1) none ∙ sym none)

pub returns-in-len1-up-clause-line : goal.returns-in-len1-up-clause-line
returns-in-len1-up-clause-line c =
    let all = lines-split _ _ _ c.split_at.result.1.now c.if-is_empty.ensures c.line_len.ensures.within
    c.line_len.ensures.before c.line_len.ensures.found c.split_at.ensures.front c.split_at.ensures.back in
    rw (take_all (length c.split_at.result.1.now - 1) (drop 1 c.split_at.result.1.now) (omega (arith, length-drop 1 c.split_at.result.1.now))) all
