-- Texts of scripts.
use Rattle.std.proofs.Common.{◌≡◌, ◌<◌, ◌^◌, ◌∙◌, sym, refl, ap, subst, inl, inr, ℕ, suc, ◌+◌, ◌==◌, false, List, [], ◌∷◌, ◌++◌, append_assoc}
use Rattle.std.proofs.Common.{append-nil, length, map, drop, get_or, arith, All, ⊎_elim}
use Rattle.std.proofs.lemmas.Bool.{ne_eqb, eqb-false}
use Rattle.std.proofs.lemmas.List.{map_push}
use Rattle.std.proofs.lemmas.List.Elements.{All-nil, All-cons, All-head, All-tail, filter-append}
use Rattle.lock_core.specs.declared.job.Job.{Job}
use Rattle.txn_script.specs.Lines.{lines}
use Rattle.txn_script.specs.Script.{job_text, filled, IsAllowedJob, IsScriptText, IsScriptLine, IsFirstBadLine}
use Rattle.txn_script.proofs.JobLemmas.{job_text-injective}

filled-next : (line : List ℕ) (each : List (List ℕ)) → false ≡ (length line == 0) → filled (line ∷ each) ≡ line ∷ filled each
filled-next line each some = rw (sym some) refl

filled-push : (before : List (List ℕ)) (line : List ℕ) → false ≡ (length line == 0) → filled (before ++ line ∷ []) ≡ filled before ++ line ∷ []
filled-push before line some = filter-append _ before (line ∷ []) ∙ ap (λ more. filled before ++ more) (filled-next line [] some)

-- an empty line adds no transfer
pub filled-push_empty : (before : List (List ℕ)) (line : List ℕ) (jobs : List Job) → line ≡ [] → filled before ≡ map job_text jobs
    → filled (before ++ line ∷ []) ≡ map job_text jobs
filled-push_empty before line jobs none text =
    ap (λ l. filled (before ++ l ∷ [])) none ∙ filter-append _ before ([] ∷ []) ∙ append-nil (filled before) ∙ text

-- any other adds one
pub filled-push_job : (before : List (List ℕ)) (line : List ℕ) (jobs : List Job) (job : Job) → false ≡ (length line == 0)
    → line ≡ job_text job → filled before ≡ map job_text jobs → filled (before ++ line ∷ []) ≡ map job_text (jobs ++ job ∷ [])
filled-push_job before line jobs job some is text =
    filled-push before line some ∙ rw (text, is) (sym (map_push job_text jobs job))

-- the text goes on behind the line that was read
pub lines-push : (bytes rest after line : List ℕ) (before : List (List ℕ)) → lines bytes ≡ before ++ lines rest
    → lines rest ≡ line ∷ lines after → lines bytes ≡ (before ++ line ∷ []) ++ lines after
lines-push bytes rest after line before text first = text ∙ ap (λ more. before ++ more) first ∙ sym (append_assoc before (line ∷ []) (lines after))

-- all lines of a script are empty or transfers
good-lines : (accounts : ℕ) (each : List (List ℕ)) (jobs : List Job) → All (IsAllowedJob accounts) jobs → filled each ≡ map job_text jobs
    → All (IsScriptLine accounts) each
good-lines accounts [] jobs allowed text = All-nil (IsScriptLine accounts)
good-lines accounts ([] ∷ each) jobs allowed text =
    All-cons (IsScriptLine accounts) [] each (inl refl) (good-lines accounts each jobs allowed text)
good-lines accounts ((byte ∷ line) ∷ each) [] allowed text =
    absurd (omega (arith, ap length (sym (filled-next (byte ∷ line) each (sym (ne_eqb (suc (length line)) 0 (λ e. omega (arith, e))))) ∙ text)))
good-lines accounts ((byte ∷ line) ∷ each) (job ∷ jobs) allowed text =
    let same = sym (filled-next (byte ∷ line) each (sym (ne_eqb (suc (length line)) 0 (λ e. omega (arith, e))))) ∙ text in
    let head : byte ∷ line ≡ job_text job = ap (λ ls. get_or ls 0 []) same in
    All-cons (IsScriptLine accounts) (byte ∷ line) each (inr (job, All-head (IsAllowedJob accounts) job jobs allowed, head))
    (good-lines accounts each jobs (All-tail (IsAllowedJob accounts) job jobs allowed) (ap (drop 1) same))

each-same : (accounts : ℕ) → accounts < 2 ^ 32 → (js ks : List Job) → All (IsAllowedJob accounts) js → All (IsAllowedJob accounts) ks
    → map job_text js ≡ map job_text ks → js ≡ ks
each-same accounts few [] [] allowed_j allowed_k same = refl
each-same accounts few [] (k ∷ ks) allowed_j allowed_k same = absurd (omega (arith, ap length same))
each-same accounts few (j ∷ js) [] allowed_j allowed_k same = absurd (omega (arith, ap length same))
each-same accounts few (j ∷ js) (k ∷ ks) allowed_j allowed_k same =
    let head : j ≡ k = job_text-injective accounts few j k (All-head (IsAllowedJob accounts) j js allowed_j) (All-head (IsAllowedJob accounts) k ks allowed_k)
    (ap (λ ls. get_or ls 0 []) same) in
    let tail : js ≡ ks = each-same accounts few js ks (All-tail (IsAllowedJob accounts) j js allowed_j)
    (All-tail (IsAllowedJob accounts) k ks allowed_k) (ap (drop 1) same) in
    λ i. head i ∷ tail i

pub jobs-same : (accounts : ℕ) (bytes : List ℕ) (js ks : List Job) → accounts < 2 ^ 32 → IsScriptText accounts bytes js
    → IsScriptText accounts bytes ks → js ≡ ks
jobs-same accounts bytes js ks few of_j of_k = each-same accounts few js ks of_j.each of_k.each (sym of_j.text ∙ of_k.text)

-- the first line without a property stands at one place
first-same : (P : List ℕ → Type 0) (ds es : List (List ℕ)) (a b : List ℕ) (x y : List (List ℕ)) → All P ds → All P es → (P a → ⊥) → (P b → ⊥)
    → ds ++ a ∷ x ≡ es ++ b ∷ y → length ds ≡ length es
first-same P [] [] a b x y all_a all_b not_a not_b same = refl
first-same P [] (e ∷ es) a b x y all_a all_b not_a not_b same =
    absurd (not_a (subst P (sym (ap (λ ls. get_or ls 0 []) same)) (All-head P e es all_b)))
first-same P (d ∷ ds) [] a b x y all_a all_b not_a not_b same =
    absurd (not_b (subst P (ap (λ ls. get_or ls 0 []) same) (All-head P d ds all_a)))
first-same P (d ∷ ds) (e ∷ es) a b x y all_a all_b not_a not_b same =
    ap suc (first-same P ds es a b x y (All-tail P d ds all_a) (All-tail P e es all_b) not_a not_b (ap (drop 1) same))

pub bad_line-same : (accounts : ℕ) (bytes : List ℕ) (a b : ℕ) → IsFirstBadLine accounts bytes a → IsFirstBadLine accounts bytes b → a ≡ b
bad_line-same accounts bytes a b of_a of_b =
    let before = first-same (IsScriptLine accounts) of_a.before of_b.before of_a.line of_b.line of_a.rest of_b.rest of_a.each of_b.each
    of_a.bad of_b.bad (sym of_a.text ∙ of_b.text) in
    omega (arith, of_a.at, of_b.at, before)

-- where all lines have a property, each one has it
one-of : (P : List ℕ → Type 0) (before : List (List ℕ)) (line : List ℕ) (rest : List (List ℕ)) → All P (before ++ line ∷ rest) → P line
one-of P [] line rest all = All-head P line rest all
one-of P (first ∷ before) line rest all = one-of P before line rest (All-tail P first (before ++ line ∷ rest) all)

pub script_text-no_bad_line : (accounts : ℕ) (bytes : List ℕ) (js : List Job) (line : ℕ) → IsScriptText accounts bytes js → IsFirstBadLine accounts bytes line → ⊥
script_text-no_bad_line accounts bytes js line all bad =
    let good = good-lines accounts (lines bytes) js all.each all.text in
    bad.bad (one-of (IsScriptLine accounts) bad.before bad.line bad.rest (subst (All (IsScriptLine accounts)) bad.text good))

-- behind lines of the script, one that isn't empty and of which no transfer was read
pub bad_line-behind_script_lines : (accounts : ℕ) (bytes : List ℕ) (before : List (List ℕ)) (line : List ℕ) (rest : List (List ℕ)) → All (IsScriptLine accounts) before
    → lines bytes ≡ before ++ line ∷ rest → false ≡ (length line == 0) → ((job : Job) → IsAllowedJob accounts job → line ≡ job_text job → ⊥)
    → IsFirstBadLine accounts bytes (length before + 1)
bad_line-behind_script_lines accounts bytes before line rest each text some none =
    let bad : IsScriptLine accounts line → ⊥ = ⊎_elim (λ empty. eqb-false _ _ (sym some) (ap length empty)) (λ job. none job.0 job.1 job.2) in
    record { before = before; each = each; line = line; rest = rest; text = text; at = refl; bad = bad }
