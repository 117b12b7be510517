-- What the log has of a seat, where its last part changes or one is added.
use Rattle.std.proofs.Common.{◌≡◌, ◌≢◌, ℕ, cond, Bool, true, false, true≢false, List, [], ◌∷◌, ◌++◌, sym, refl, ap, ◌∙◌, eq-eqb, ne_eqb, eqb-true, append-nil}
use Rattle.log_rule.specs.declared.view.Entry.{Entry}
use Rattle.log_rule.specs.Log.{Part, Duty, Shared, Owed, Released, LogRange, Claim, own, owed, is_by, whole, owes, is_owed_by, claim_of, part_of, parts_of}
use Rattle.log_rule.proofs.Lists.{picked-append, picked-mid_replaced, picked-last}

-- the seat's last part, which is not released, and what stands around it
pub record LastPart (me : ℕ) (parts before_it : List Part) (entry : Entry) : Type 0 where
  pub before : List Part
  pub behind : List Part
  pub split : parts ≡ before ++ part_of me false entry ∷ behind
  pub own_before : own me before ≡ before_it
  pub none_behind : own me behind ≡ []

pub own-last_part : (me : ℕ) (parts before_it : List Part) (entry : Entry) → own me parts ≡ before_it ++ part_of me false entry ∷ []
    → LastPart me parts before_it entry
own-last_part me parts before_it entry e = let s = picked-last (is_by me) whole parts before_it (part_of me false entry) e in
    record {
      before = s.before;
      behind = s.behind;
      split = s.split
          ∙ ap (λ x. s.before ++ x ∷ s.behind) s.is;
      own_before = s.told_before;
      none_behind = s.none_behind;
    }

-- the seat's last part is exchanged for another of its own
pub own-last_replaced : (me : ℕ) (ls rs before_it : List Part) (flag : Bool) (entry : Entry) → own me ls ≡ before_it → own me rs ≡ []
    → own me (ls ++ part_of me flag entry ∷ rs) ≡ before_it ++ part_of me flag entry ∷ []
own-last_replaced me ls rs before_it flag entry a b = picked-append (is_by me) whole ls (part_of me flag entry ∷ rs)
    ∙ (λ i. a i ++ cond (eq-eqb me me refl i) (part_of me flag entry ∷ b i) (b i))

-- which another seat does not see
pub own-mid_replaced_others : (me other : ℕ) (ls rs : List Part) (flag flag' : Bool) (entry entry' : Entry) → other ≢ me
    → own other (ls ++ part_of me flag' entry' ∷ rs) ≡ own other (ls ++ part_of me flag entry ∷ rs)
own-mid_replaced_others me other ls rs flag flag' entry entry' differ =
    picked-mid_replaced (is_by other) whole ls rs (part_of me flag entry) (part_of me flag' entry') refl (λ e. absurd (differ (sym (eqb-true me other e))))

pub own-push : (me : ℕ) (parts : List Part) (flag : Bool) (entry : Entry)
    → own me (parts ++ part_of me flag entry ∷ []) ≡ own me parts ++ part_of me flag entry ∷ []
own-push me parts flag entry = picked-append (is_by me) whole parts (part_of me flag entry ∷ [])
    ∙ ap (λ b. own me parts ++ cond {A = List Part} b (part_of me flag entry ∷ []) []) (eq-eqb me me refl)

pub own-push_others : (me other : ℕ) (parts : List Part) (flag : Bool) (entry : Entry) → other ≢ me
    → own other (parts ++ part_of me flag entry ∷ []) ≡ own other parts
own-push_others me other parts flag entry differ = picked-append (is_by other) whole parts (part_of me flag entry ∷ [])
    ∙ (ap (λ b. own other parts ++ cond {A = List Part} b (part_of me flag entry ∷ []) []) (ne_eqb me other (λ e. differ (sym e)))
    ∙ append-nil (own other parts))

pub owed-push : (me : ℕ) (ranges : List LogRange) (r : LogRange) → r.duty ≡ Owed me → owed me (ranges ++ r ∷ []) ≡ owed me ranges ++ claim_of r ∷ []
owed-push me ranges r duty = picked-append (owes me) claim_of ranges (r ∷ [])
    ∙ ap (λ b. owed me ranges ++ cond {A = List Claim} b (claim_of r ∷ []) []) (ap (is_owed_by me) duty ∙ eq-eqb me me refl)

pub owed-push_others : (me other : ℕ) (ranges : List LogRange) (r : LogRange) → r.duty ≡ Owed me → other ≢ me
    → owed other (ranges ++ r ∷ []) ≡ owed other ranges
owed-push_others me other ranges r duty differ = picked-append (owes other) claim_of ranges (r ∷ [])
    ∙ (ap (λ b. owed other ranges ++ cond {A = List Claim} b (claim_of r ∷ []) [])
    (ap (is_owed_by other) duty ∙ ne_eqb me other (λ e. differ (sym e))) ∙ append-nil (owed other ranges))

pub parts_of-push : (me : ℕ) (flag : Bool) (entries : List Entry) (entry : Entry)
    → parts_of me flag (entries ++ entry ∷ []) ≡ parts_of me flag entries ++ part_of me flag entry ∷ []
parts_of-push me flag [] entry = refl
parts_of-push me flag (e ∷ es) entry = ap (λ l. part_of me flag e ∷ l) (parts_of-push me flag es entry)

-- who owes a range has to release it
pub duty-owed : (me : ℕ) (duty : Duty) → is_owed_by me duty ≡ true → duty ≡ Owed me
duty-owed me (Shared slot) e = absurd (true≢false (sym e))
duty-owed me (Owed other) e = ap Owed (eqb-true other me e)
duty-owed me Released e = absurd (true≢false (sym e))

-- and it is not released
pub owed-unreleased : (me : ℕ) (duty : Duty) → duty ≡ Owed me → duty ≡ Released → ⊥
owed-unreleased me duty owes is = let both : Owed me ≡ Released = sym owes ∙ is in cc
