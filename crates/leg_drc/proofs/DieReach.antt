-- A rectangle reaches out of the die where a side of it lies beyond one of the die.
use Rattle.std.proofs.Common.{◌⊎◌, pos, ◌-ℤ◌, inl, inr, arith}
use Rattle.std.proofs.lemmas.Int.{ints, by_lt_z}
use Rattle.leg_geom.specs.Plane.{RectModel, IsRect}
use Rattle.leg_drc.specs.OneShape.{ReachesOut}
use Rattle.leg_drc.specs.Steps.ShapeParts.{ReachesPast}

module _ (die rect : RectModel) where
  -- it has no square beyond sides that it doesn't pass
  pub reach_of : ReachesOut die rect → ReachesPast die.x1 die.x2 rect.x1 rect.x2 ⊎ ReachesPast die.y1 die.y2 rect.y1 rect.y2
  reach_of out =
      by_lt_z rect.x1 die.x1 (λ left. inl (inl left)) (λ left.
      by_lt_z die.x2 rect.x2 (λ right. inl (inr right)) (λ right.
      by_lt_z rect.y1 die.y1 (λ bottom. inr (inl bottom)) (λ bottom.
      by_lt_z die.y2 rect.y2 (λ top. inr (inr top)) (λ top.
      absurd (out.outside (record {
        left = omega (arith, ints, out.inside.left, left);
        right = omega (arith, ints, out.inside.right, right);
        bottom = omega (arith, ints, out.inside.bottom, bottom);
        top = omega (arith, ints, out.inside.top, top);
      }))))))

  module _ (proper : IsRect rect) where
    -- the square in its lower left corner, or in the one at its upper right
    pub out_by_x : ReachesPast die.x1 die.x2 rect.x1 rect.x2 → ReachesOut die rect
    out_by_x (inl left) = record {
      square = record { x = rect.x1; y = rect.y1 };
      inside = record {
        left = omega (arith, ints);
        right = proper.wide;
        bottom = omega (arith, ints);
        top = proper.high;
      };
      outside = λ square. absurd (omega (arith, ints, left, square.left));
    }
    out_by_x (inr right) = record {
      square = record { x = rect.x2 -ℤ pos 1; y = rect.y1 };
      inside = record {
        left = omega (arith, ints, proper.wide);
        right = omega (arith, ints);
        bottom = omega (arith, ints);
        top = proper.high;
      };
      outside = λ square. absurd (omega (arith, ints, right, square.right));
    }

    pub out_by_y : ReachesPast die.y1 die.y2 rect.y1 rect.y2 → ReachesOut die rect
    out_by_y (inl bottom) = record {
      square = record { x = rect.x1; y = rect.y1 };
      inside = record {
        left = omega (arith, ints);
        right = proper.wide;
        bottom = omega (arith, ints);
        top = proper.high;
      };
      outside = λ square. absurd (omega (arith, ints, bottom, square.bottom));
    }
    out_by_y (inr top) = record {
      square = record { x = rect.x1; y = rect.y2 -ℤ pos 1 };
      inside = record {
        left = omega (arith, ints);
        right = proper.wide;
        bottom = omega (arith, ints, proper.high);
        top = omega (arith, ints);
      };
      outside = λ square. absurd (omega (arith, ints, top, square.top));
    }
