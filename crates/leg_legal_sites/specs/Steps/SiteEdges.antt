-- How far along a row an x lies.
use Rattle.std.specs.Prelude.{◌≡◌, ℕ, ℤ, pos, ◌+ℤ◌, ◌≤ℤ◌, ◌<ℤ◌}

-- x lies so far to the right of left: 0 where it does not
pub record IsBeyond (left x : ℤ) (far : ℕ) : Type 0 where
  pub right : left <ℤ x → x ≡ left +ℤ pos far
  pub none : x ≤ℤ left → far ≡ 0
