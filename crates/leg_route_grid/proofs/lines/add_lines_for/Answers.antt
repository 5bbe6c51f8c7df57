use Rattle.std.proofs.Common.{inl, inr}
use Rattle.leg_route_grid.proofs.lines.add_lines_for.Goals as goal

pub returns-in_ok-add_lines : goal.returns-in_ok-add_lines
returns-in_ok-add_lines g c z =
    let adds = c.in_ok-add_lines.ensures z in (
      λ there. elim (adds.0 there) [
        | inl old ↦ inl old
        | inr line ↦ inr (record { along = c.is_along.ensures.0 c.if-is_along.true; serve = c.serve.ensures.0 c.if-serve.true; line = line })
      ],
      λ either. adds.1 (elim either [ inl old ↦ inl old | inr line ↦ inr line.line ]),
    )
