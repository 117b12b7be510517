-- How the lines of a statement are written, entry by entry.
use Rattle.std.proofs.Common.{◌≡◌, ◌<◌, ◌≤◌, ℕ, ◌+◌, List, [], ◌∷◌, ◌++◌, length, take, drop, get_or, Option, ap, ◌∙◌, sym, subst, append_assoc, append-nil}
use Rattle.std.specs.List.{flat_map}
use Rattle.std.proofs.lemmas.List.{take_more, take_all, take-append-drop}
use Rattle.std.proofs.lemmas.List.Concat.{flat_map-append}
use Rattle.log_disk.specs.Streams.{AppendsPart, AppendsBut}
use Rattle.log_disk.proofs.Blocks.{AppendsBut-trans, AppendsBut-trans_part_of_piece, AppendsPart-append}
use Rattle.log_recovery.specs.Text.{lsn_line}
use Rattle.ledger_view.specs.declared.entries.Entry.{Entry}
use Rattle.cli_view.specs.Reports.{entry_line, open_line, statement_lines}

-- the lines before an entry: the first balance, and a line for each entry before it
abbrev pub lines_before : ℕ → List Entry → ℕ → List ℕ
lines_before balance entries i = open_line balance ++ flat_map entry_line (take i entries)

-- of the first line a part is written, and nothing waited before it
pub open_line-appends_part : (balance : ℕ) (entries : List Entry) (end : ℕ) (old new : Option (List ℕ)) (waiting piece : List ℕ) → waiting ≡ []
    → piece ≡ open_line balance → AppendsPart old new (waiting ++ piece) → AppendsPart old new (statement_lines balance entries end)
open_line-appends_part balance entries end old new waiting piece none is cut =
    let line = subst (λ first. AppendsPart old new (first ++ open_line balance)) none (subst (λ line. AppendsPart old new (waiting ++ line)) is cut) in
    AppendsPart-append old new _ _ _ line (append_assoc (open_line balance) (flat_map entry_line entries) (lsn_line end))

module _ (balance : ℕ) (entries : List Entry) (end : ℕ) (old middle new : Option (List ℕ)) (waiting : List ℕ) where
  module _ (i : ℕ) (entry : Entry) (inside : i < length entries) (is : entry ≡ get_or entries i entry)
      (before : AppendsBut old middle (lines_before balance entries i) waiting) where
    line-added : lines_before balance entries (i + 1) ≡ lines_before balance entries i ++ entry_line entry
    line-added =
        ap (λ es. open_line balance ++ flat_map entry_line es) (take_more entries i entry inside ∙ ap (λ e. take i entries ++ e ∷ []) (sym is))
        ∙ ap (λ lines. open_line balance ++ lines) (flat_map-append entry_line (take i entries) (entry ∷ [])
        ∙ ap (λ line. flat_map entry_line (take i entries) ++ line) (append-nil (entry_line entry)))
        ∙ sym (append_assoc (open_line balance) (flat_map entry_line (take i entries)) (entry_line entry))

    -- one more line is put
    pub entry_line-appends_but : (waiting' : List ℕ) → AppendsBut middle new (waiting ++ entry_line entry) waiting'
        → AppendsBut old new (lines_before balance entries (i + 1)) waiting'
    entry_line-appends_but waiting' line =
        subst (λ bytes. AppendsBut old new bytes waiting') (sym line-added) (AppendsBut-trans old middle new _ waiting before (entry_line entry) waiting' line)

    lines-split : statement_lines balance entries end
        ≡ lines_before balance entries (i + 1) ++ (flat_map entry_line (drop (i + 1) entries) ++ lsn_line end)
    lines-split =
        let later : List ℕ = flat_map entry_line (drop (i + 1) entries) in
        let first : List ℕ = flat_map entry_line (take (i + 1) entries) in
        ap (λ es. open_line balance ++ flat_map entry_line es ++ lsn_line end) (sym (take-append-drop (i + 1) entries))
        ∙ ap (λ lines. open_line balance ++ lines ++ lsn_line end) (flat_map-append entry_line (take (i + 1) entries) (drop (i + 1) entries))
        ∙ ap (λ lines. lines ++ lsn_line end) (sym (append_assoc (open_line balance) first later))
        ∙ append_assoc (open_line balance ++ first) later (lsn_line end)

    -- of the lines with one more a part is written
    pub entry_line-appends_part : AppendsPart middle new (waiting ++ entry_line entry) → AppendsPart old new (statement_lines balance entries end)
    entry_line-appends_part cut =
        AppendsPart-append old new _ _ _ (AppendsBut-trans_part_of_piece old middle new _ waiting before (entry_line entry) cut)
        (lines-split ∙ ap (λ lines. lines ++ (flat_map entry_line (drop (i + 1) entries) ++ lsn_line end)) line-added)

  module _ (i : ℕ) (past : length entries ≤ i) (before : AppendsBut old middle (lines_before balance entries i) waiting) where
    whole : statement_lines balance entries end ≡ lines_before balance entries i ++ lsn_line end
    whole = ap (λ es. open_line balance ++ flat_map entry_line es ++ lsn_line end) (sym (take_all i entries past))

    -- the end is put
    pub lsn_line-appends_but : (waiting' : List ℕ) → AppendsBut middle new (waiting ++ lsn_line end) waiting'
        → AppendsBut old new (statement_lines balance entries end) waiting'
    lsn_line-appends_but waiting' line =
        subst (λ bytes. AppendsBut old new bytes waiting') (sym whole) (AppendsBut-trans old middle new _ waiting before (lsn_line end) waiting' line)

    pub lsn_line-appends_part : AppendsPart middle new (waiting ++ lsn_line end) → AppendsPart old new (statement_lines balance entries end)
    lsn_line-appends_part cut = subst (AppendsPart old new) (sym whole) (AppendsBut-trans_part_of_piece old middle new _ waiting before (lsn_line end) cut)
