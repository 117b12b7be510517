use Rattle.std.proofs.Common.{sym, ap, ◌∙◌, subst, eq-eqb}
use Rattle.std.specs.List.{list_any}
use Rattle.lsn_space.specs.Tiling.{IsTilingBoundary}
use Rattle.lsn_space.proofs.TilingLemmas.{boundary-from}
use Rattle.ring_core.specs.RingLog.{size_of}
use Rattle.ring_core.specs.Rows.{is_end}
use Rattle.ring_core.proofs.LookupLemmas.{is_end-boundary, boundary-is_end}
use Rattle.ring_core.proofs.ring_log.RingLog.is_boundary.Goals as goal

pub returns-then-place-self : goal.returns-then-place-self
returns-then-place-self c = rw (← c.self.view_is) (
  (λ _. subst (IsTilingBoundary size_of c.self.inside.start c.self.inside.ranges.items) (sym c.if-place-self.true) (boundary-from _ _ _)),
  (λ _. eq-eqb _ _ c.if-place-self.true),
)

pub returns-else-place-self : goal.returns-else-place-self
returns-else-place-self c =
    let tiles = c.self.invariant.tiles in
    let any = c.ends_at.ensures ∙ ap (list_any (is_end c.args.place)) c.deref.ensures.value in
    rw (← c.self.view_is) (
      (λ ends. is_end-boundary _ _ _ _ tiles (sym any ∙ ends)),
      (λ boundary. any ∙ boundary-is_end _ _ _ _ tiles boundary c.if-place-self.false),
    )
