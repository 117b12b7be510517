-- What a seat gave back, over calls one after the other.
use Rattle.std.proofs.Common.{◌≡◌, ◌∙◌, [], ◌++◌, ap, sym, append_assoc}
use Rattle.log_rule.specs.declared.view.View.{View}
use Rattle.txn_making.specs.Holdings.{KeepsGiven}

-- no account was given back
pub KeepsGiven-same : (old new : View) → new.books.given ≡ old.books.given → KeepsGiven old new
KeepsGiven-same old new same = record { back = []; given_are = same }

pub KeepsGiven-trans : (first second third : View) → KeepsGiven first second → KeepsGiven second third → KeepsGiven first third
KeepsGiven-trans first second third before after = record {
  back = after.back ++ before.back;
  given_are = after.given_are ∙ ap (λ l. after.back ++ l) before.given_are ∙ sym (append_assoc after.back before.back first.books.given);
}
