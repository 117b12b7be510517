-- A worker's rows get a pass, and give it back. `old` and `new` are the jobs before and after, `before` and `after` the rows.
use Rattle.std.specs.Prelude.{◌≡◌, ◌+◌, ◌++◌, [], None, Result, OnErr}
use Rattle.job_queue.specs.declared.jobs.Jobs.{Jobs}
use Rattle.job_queue.specs.declared.rows.Rows.{Rows}
use Rattle.job_queue.specs.Passes.{pass_in, places_in, marks_in, places_back, marks_back, passes_out, AreTakenOnce, HasFirstPass, HasPassOf, IsSameQueue, KeepsRows}

-- it doesn't fail; one pass more is out, which has taken nothing
pub record EnlistsRows {A E : Type 0} (old new : Jobs) (before after : Rows) (result : Result A E) : Type 0 where
  pub enlisted : OnErr result ⊥
  pub jobs : HasFirstPass new
  pub same : IsSameQueue old new
  pub out : passes_out new ≡ passes_out old + 1
  pub back : (places_back new ≡ places_back old) × (marks_back new ≡ marks_back old)
  pub pass : HasPassOf new.queue after
  pub fresh : (places_in after ≡ []) × (marks_in after ≡ [])
  pub rows : KeepsRows before after

-- one pass fewer is out, and what it took is behind what was given back before, no number twice
pub record DismissesRows (old new : Jobs) (before after : Rows) : Type 0 where
  pub jobs : HasFirstPass new
  pub same : IsSameQueue old new
  pub out : passes_out new + 1 ≡ passes_out old
  pub places : places_back new ≡ places_back old ++ places_in before
  pub marks : marks_back new ≡ marks_back old ++ marks_in before
  pub once : AreTakenOnce (places_back new) (marks_back new)
  pub none : pass_in after ≡ None
  pub rows : KeepsRows before after
