-- A design has one flat at most: rectangles with the same points are the same.
use Rattle.std.proofs.Common.{◌≡◌, ℤ, ◌≤ℤ◌, ℕ, List, Option, [], ◌∷◌, refl, sym, ◌∙◌, arith}
use Rattle.std.proofs.lemmas.Int.{ints}
use Rattle.leg_geom.specs.Plane.{PointModel, RectModel, IsRect, HasPoint}
use Rattle.leg_lib_records.specs.Scale.{OneForOne}
use Rattle.leg_design_records.specs.Records.{DesignModel}
use Rattle.leg_rules.specs.declared.owner.Owner.{Owner}
use Rattle.leg_rules.specs.declared.piece.Piece.{Piece}
use Rattle.leg_rules.specs.declared.shape.Shape.{Shape}
use Rattle.leg_rules.specs.Metal.Metal.{Metal, metal_of}
use Rattle.leg_rules.specs.Metal.Flat.{FlatModel, IsShapeOf, IsFlatOf}

-- a rectangle's own corners lie in it
lower_left : (r : RectModel) → IsRect r → HasPoint r (record { x = r.x1; y = r.y1 })
lower_left r is = record { left = grind (arith, ints); right = grind (arith, ints, is.wide); bottom = grind (arith, ints); top = grind (arith, ints, is.high) }

upper_right : (r : RectModel) → IsRect r → HasPoint r (record { x = r.x2; y = r.y2 })
upper_right r is = record { left = grind (arith, ints, is.wide); right = grind (arith, ints); bottom = grind (arith, ints, is.high); top = grind (arith, ints) }

same_number : (a b : ℤ) → a ≤ℤ b → b ≤ℤ a → a ≡ b
same_number a b p q = grind (arith, ints, p, q)

with_sides : (x1 y1 x2 y2 : ℤ) (r : RectModel) → x1 ≡ r.x1 → y1 ≡ r.y1 → x2 ≡ r.x2 → y2 ≡ r.y2 → record { x1 = x1; y1 = y1; x2 = x2; y2 = y2 } ≡ r
with_sides x1 y1 x2 y2 r e f g h = rw (e, f, g, h) refl

-- rectangles that have the points of one another have the same sides
same_sides : (a b : RectModel) → IsRect a → IsRect b → ((p : PointModel) → HasPoint a p → HasPoint b p)
    → ((p : PointModel) → HasPoint b p → HasPoint a p) → a ≡ b
same_sides a b of_a of_b there back =
    let low = there _ (lower_left a of_a) in
    let high = there _ (upper_right a of_a) in
    let low_back = back _ (lower_left b of_b) in
    let high_back = back _ (upper_right b of_b) in
    with_sides a.x1 a.y1 a.x2 a.y2 b (same_number a.x1 b.x1 low_back.left low.left) (same_number a.y1 b.y1 low_back.bottom low.bottom)
    (same_number a.x2 b.x2 high.right high_back.right) (same_number a.y2 b.y2 high.top high_back.top)

with_parts : (layer : ℕ) (rect : RectModel) (owner : Owner) (component piece : Option ℕ) (s : Shape) → layer ≡ s.layer → rect ≡ s.rect → owner ≡ s.owner
    → component ≡ s.component → piece ≡ s.piece → record { layer = layer; rect = rect; owner = owner; component = component; piece = piece } ≡ s
with_parts layer rect owner component piece s e f g h i = rw (e, f, g, h, i) refl

-- one shape for each piece of metal
same_shape : (metal : Metal) (a b : Shape) → IsShapeOf metal a → IsShapeOf metal b → a ≡ b
same_shape metal a b of_a of_b =
    let rect : a.rect ≡ b.rect =
    same_sides a.rect b.rect of_a.proper of_b.proper (λ p h. (of_b.points p).1 ((of_a.points p).0 h)) (λ p h. (of_a.points p).1 ((of_b.points p).0 h)) in
    with_parts a.layer a.rect a.owner a.component a.piece b (of_a.layer ∙ sym of_b.layer) rect (of_a.owner ∙ sym of_b.owner)
    (of_a.component ∙ sym of_b.component) (of_a.piece ∙ sym of_b.piece)

same_shapes : (metal : List Metal) (xs ys : List Shape) → OneForOne IsShapeOf metal xs → OneForOne IsShapeOf metal ys → xs ≡ ys
same_shapes [] [] [] one two = refl
same_shapes [] [] (y ∷ ys) one two = absurd two
same_shapes [] (x ∷ xs) ys one two = absurd one
same_shapes (m ∷ ms) [] ys one two = absurd one
same_shapes (m ∷ ms) (x ∷ xs) [] one two = absurd two
same_shapes (m ∷ ms) (x ∷ xs) (y ∷ ys) one two =
    let first : x ≡ y = same_shape m x y one.0 two.0 in
    let rest : xs ≡ ys = same_shapes ms xs ys one.1 two.1 in
    cc

with_lists : (shapes : List Shape) (pieces : List (List Piece)) (flat : FlatModel) → shapes ≡ flat.shapes → pieces ≡ flat.pieces
    → record { shapes = shapes; pieces = pieces } ≡ flat
with_lists shapes pieces flat e f = rw (e, f) refl

pub one_flat : (design : DesignModel) (a b : FlatModel) → IsFlatOf design a → IsFlatOf design b → a ≡ b
one_flat design a b of_a of_b =
    with_lists a.shapes a.pieces b (same_shapes (metal_of design) a.shapes b.shapes of_a.shapes of_b.shapes) (of_a.pieces ∙ sym of_b.pieces)
