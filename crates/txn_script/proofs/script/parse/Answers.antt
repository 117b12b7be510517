use Rattle.std.proofs.Common.{rules, ◌≡◌, ◌∙◌, sym, ap, inl, inr, ◌++◌, ◌∷◌, [], length-append, arith}
use Rattle.std.proofs.lemmas.Bool.{eqb-true}
use Rattle.std.proofs.lemmas.List.{nil_from_length}
use Rattle.std.proofs.lemmas.List.Elements.{All-push}
use Rattle.txn_script.specs.Lines.{lines}
use Rattle.txn_script.specs.Script.{IsAllowedJob, IsScriptLine}
use Rattle.txn_script.proofs.ScriptLemmas.{filled-push_empty, filled-push_job, lines-push, bad_line-behind_script_lines}
use Rattle.txn_script.proofs.script.parse.Goals as goal

pub lines-preserved-in_ok-push : goal.lines-preserved-in_ok-push
lines-preserved-in_ok-push c =
    let before = c.lines.invariant in
    let line = c.in-Some.line.now in
    let read = c.in-Some-read_job.ensures in
    let grown = c.in_ok-push.ensures.added in
    record {
      before = before.before ++ line ∷ [];
      each = All-push (IsScriptLine c.args.accounts) before.before line before.each (inr (c.in-Some-read_job.job, read.allowed, read.text));
      text = lines-push c.args.bytes.now c.lines.rest.now c.in-Some.after.now line before.before before.text c.in-Some.ensures.line;
      allowed = rw grown (All-push (IsAllowedJob c.args.accounts) c.lines.script c.in-Some-read_job.job before.allowed read.allowed);
      jobs = rw grown (filled-push_job before.before line c.lines.script c.in-Some-read_job.job c.if-not-is_empty.ensures read.text before.jobs);
      number = omega (arith, before.number, length-append before.before (line ∷ []));
      bound = omega (arith, before.bound, c.in-Some.ensures.shorter);
    }

pub lines-preserved : goal.lines-preserved
lines-preserved c =
    let before = c.lines.invariant in
    let line = c.in-Some.line.now in
    let none : line ≡ [] = nil_from_length line (eqb-true _ _ (sym c.if-not-is_empty.ensures)) in
    record {
      before = before.before ++ line ∷ [];
      each = All-push (IsScriptLine c.args.accounts) before.before line before.each (inl none);
      text = lines-push c.args.bytes.now c.lines.rest.now c.in-Some.after.now line before.before before.text c.in-Some.ensures.line;
      allowed = before.allowed;
      jobs = filled-push_empty before.before line c.lines.script none before.jobs;
      number = omega (arith, before.number, length-append before.before (line ∷ []));
      bound = omega (arith, before.bound, c.in-Some.ensures.shorter);
    }

pub returns-in_default-read_job-clause-fault : goal.returns-in_default-read_job-clause-fault
returns-in_default-read_job-clause-fault c =
    let before = c.lines.invariant in
    let text = before.text ∙ ap (λ more. before.before ++ more) c.in-Some.ensures.line in
    let bad = bad_line-behind_script_lines c.args.accounts c.args.bytes.now before.before c.in-Some.line.now (lines c.in-Some.after.now) before.each text
    c.if-not-is_empty.ensures c.in_default-read_job.ensures.none in
    rw (before.number) bad

pub returns-clause-read : goal.returns-clause-read
returns-clause-read c = search rules steps 900000
