use Rattle.std.proofs.Common.{◌≡◌, ◌∙◌, ℕ, ℤ, pos, neg_ℤ, sym, subst}
use Rattle.log_record.specs.declared.rec.Rec.TheVariants.{Update}
use Rattle.log_rule.specs.declared.view.Books.{Books}
use Rattle.log_rule.specs.Books.{placing, IsNext}
use Rattle.table_tests.proofs.Paying.{IsNext-debit, IsNext-credit}
use Rattle.table_tests.proofs.half_taken_tests.pays.Goals as goal

-- An Update whose `prev` is 0 comes next in the books, which are these.
IsNext-update : (account : ℕ) (delta : ℤ) (prev : ℕ) (books these : Books) → prev ≡ 0 → books ≡ these → IsNext (Update 1 account delta 0) these
    → IsNext (Update 1 account delta prev) books
IsNext-update account delta prev books these prev-is books-are =
    subst (λ (p : ℕ × Books). IsNext (Update 1 account delta p.0) p.1) (λ i. (sym prev-is i, sym books-are i))

pub inserts-requires-clause-next : goal.inserts-requires-clause-next
inserts-requires-clause-next c = IsNext-update 0 (neg_ℤ (pos 30)) c.new.result _ _ c.new.ensures c.requires.books.books_are IsNext-debit

pub inserts-requires-2-clause-next : goal.inserts-requires-2-clause-next
inserts-requires-2-clause-next c = IsNext-update 1 (pos 30) c.new-2.result _ _ c.new-2.ensures
    (c.in-Some.ensures.books_are ∙ (λ i. placing c.in-Some.field-0 (Update 1 0 (neg_ℤ (pos 30)) (c.new.ensures i)) (c.requires.books.books_are i)))
    (IsNext-credit c.in-Some.field-0)
