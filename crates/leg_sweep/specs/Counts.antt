-- How many pairs of rectangles lie near one another.
use Rattle.std.specs.Prelude.{ℕ, ◌+◌, ◌==◌, Bool, ◌&&◌, List, [], ◌∷◌, count_by, nat_le}
use Rattle.leg_geom.specs.Plane.{RectModel}
use Rattle.leg_geom.specs.Gap.{x_gap, y_gap}

-- the x gap of two rectangles is at most the reach
abbrev pub near_along_x : ℕ → RectModel → RectModel → Bool
near_along_x reach a b = nat_le (x_gap a b) reach

-- both gaps of two rectangles are at most the reach
abbrev pub near_along_both : ℕ → RectModel → RectModel → Bool
near_along_both reach a b = nat_le (x_gap a b) reach && nat_le (y_gap a b) reach

module _ {Item : Type 0} (rect_of : Item → RectModel) (layer_of : Item → ℕ) (reach_of : ℕ → ℕ) where
  -- two items of one layer whose x gap is at most the layer's reach
  abbrev pub near_on_layer_along_x : Item → Item → Bool
  near_on_layer_along_x a b = (layer_of a == layer_of b) && near_along_x (reach_of (layer_of a)) (rect_of a) (rect_of b)

  -- two items of one layer whose gaps are both at most the layer's reach
  abbrev pub near_on_layer : Item → Item → Bool
  near_on_layer a b = (layer_of a == layer_of b) && near_along_both (reach_of (layer_of a)) (rect_of a) (rect_of b)

-- how many pairs of a list pass a test: each element is paired with each later one
abbrev pub count_pairs : {X : Type 0} → (X → X → Bool) → List X → ℕ
count_pairs test [] = 0
count_pairs test (x ∷ xs) = count_by (test x) xs + count_pairs test xs
