-- Numbers of options.
use Rattle.std.proofs.Common.{◌≡◌, ◌↔◌, ◌≤◌, ◌<◌, ◌^◌, ◌∙◌, sym, refl, ap, is_some, unwrap_or, [], IsTrue, Bool, true, false, ℕ, List, Option, Some, None, codes, arith}
use Rattle.std.proofs.lemmas.Fmt.{decimal_injective}
use Rattle.clap.specs.Words.{Row, first_of}
use Rattle.lsn_space.specs.Number.{number_text}
use Rattle.command_line.specs.CommandLine.{AreOptions, IsGiven, IsNumberOf}
use Rattle.command_line.specs.declared.options.RunOptions.{RunOptions}

pub IsNumberOf-same : (value : Option (List ℕ)) (default m n : ℕ) → m < 2 ^ 32 → n < 2 ^ 32 → IsNumberOf value default m → IsNumberOf value default n → m ≡ n
IsNumberOf-same None default m n small_m small_n is also = is ∙ sym also
IsNumberOf-same (Some text) default m n small_m small_n is also = decimal_injective m n (omega arith) (omega arith) (sym is ∙ also)

-- the text of one number at most is given
pub IsGiven-same : (rows : List Row) (argument : List ℕ) (most m n : ℕ) → most < 2 ^ 32 → IsGiven rows argument most m → IsGiven rows argument most n → m ≡ n
IsGiven-same rows argument most m n small is also =
    decimal_injective m n (omega (arith, is.0)) (omega (arith, also.0)) (ap (λ (o : Option (List ℕ)). unwrap_or o []) (sym is.1 ∙ also.1))

-- a text behind an option is another
pub flag-some : (result : Bool) (text word : List ℕ) → (IsTrue result ↔ (text ≡ word)) → IsTrue result ↔ (Some text ≡ Some word)
flag-some result text word same = ((λ is. ap Some (same.0 is)), (λ equal. same.1 (ap (λ (o : Option (List ℕ)). unwrap_or o text) equal)))

pub flag-none : (word : List ℕ) → IsTrue false ↔ (None ≡ Some word)
flag-none word = ((λ is. cc), (λ equal. ap (λ (o : Option (List ℕ)). is_some o) equal))

-- a text that is given is of no number, where it is the text of none
pub given-no_number : (text : List ℕ) (most : ℕ) → ((n : ℕ) → 0 ≤ n → n ≤ most → text ≡ number_text n → ⊥)
    → (n : ℕ) → n ≤ most → Some text ≡ Some (number_text n) → ⊥
given-no_number text most not n below is = not n (omega arith) below (ap (λ (o : Option (List ℕ)). unwrap_or o text) is)

pub given-none : (n : ℕ) → None ≡ Some (number_text n) → ⊥
given-none n equal = let some : false ≡ true = ap (λ (o : Option (List ℕ)). is_some o) equal in cc

same-bool : (a b : Bool) → (IsTrue a ↔ IsTrue b) → a ≡ b
same-bool true true both = refl
same-bool true false both = sym (both.0 refl)
same-bool false true both = both.1 refl
same-bool false false both = refl

pub AreOptions-same : (rows : List Row) (one other : RunOptions) → AreOptions rows one → AreOptions rows other → one ≡ other
AreOptions-same rows one other are also = λ i. record {
  workers = IsNumberOf-same (first_of (codes "workers") rows) 2 one.workers other.workers (omega (arith, are.range.workers))
      (omega (arith, also.range.workers)) are.workers also.workers i;
  ring = IsNumberOf-same (first_of (codes "ring") rows) 65536 one.ring other.ring (omega (arith, are.range.ring))
      (omega (arith, also.range.ring)) are.ring also.ring i;
  slots = IsNumberOf-same (first_of (codes "slots") rows) 4 one.slots other.slots (omega (arith, are.range.slots))
      (omega (arith, also.range.slots)) are.slots also.slots i;
  wait = same-bool one.wait other.wait ((λ is. also.wait.1 (are.wait.0 is)), (λ is. are.wait.1 (also.wait.0 is))) i;
}
