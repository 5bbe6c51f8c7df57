-- Rectangles cut at a line, right of which no rectangle begins.
use Rattle.std.specs.Prelude.{◌≡◌, ℕ, ℤ, pos, ◌+ℤ◌, ◌≤ℤ◌, List, map, All}
use Rattle.std.specs.Int.{int_max, int_min}
use Rattle.leg_geom.specs.Plane.{RectModel, IsRect}
use Rattle.leg_sweep.specs.Steps.Sweep.{rect_numbered}

-- the left edge of an item by its number
abbrev pub left_edge_at : {Item : Type 0} → (Item → RectModel) → List Item → ℕ → ℤ
left_edge_at rect_of items number = (rect_numbered (map rect_of items) number).x1

-- a rectangle without what lies right of the line; one that begins there is a unit wide
abbrev pub cut_at : ℤ → RectModel → RectModel
cut_at line rect = record {
  x1 = rect.x1;
  y1 = rect.y1;
  x2 = int_max (int_min rect.x2 line) (rect.x1 +ℤ pos 1);
  y2 = rect.y2;
}

-- the rectangles of items, which are proper, cut at a line that none begins right of
pub record AreCut {Item : Type 0} (rect_of : Item → RectModel) (items : List Item) (cuts : List RectModel) : Type 0 where
  pub proper : All (λ a. IsRect (rect_of a)) items
  pub line : ℤ
  pub left : All (λ a. (rect_of a).x1 ≤ℤ line) items
  pub are : cuts ≡ map (λ a. cut_at line (rect_of a)) items
