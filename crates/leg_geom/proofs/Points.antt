-- Points and rectangles by their coordinates.
use Rattle.std.proofs.Common.{◌≡◌, ◌&&◌, ℤ, int_eq, Decides, ap}
use Rattle.std.proofs.lemmas.Bool.Decides.{Decides-and, Decides-int_eq}
use Rattle.leg_geom.specs.Plane.{PointModel, RectModel}

abbrev pub spot : ℤ → ℤ → PointModel
spot x y = record { x = x; y = y }

pub same_spot : (x y u v : ℤ) → x ≡ u → y ≡ v → spot x y ≡ spot u v
same_spot x y u v e f = cc

pub same_point : (p q : PointModel) → p.x ≡ q.x → p.y ≡ q.y → p ≡ q
same_point p q x y = λ i. record { x = x i; y = y i }

abbrev pub sides : ℤ → ℤ → ℤ → ℤ → RectModel
sides x1 y1 x2 y2 = record { x1 = x1; y1 = y1; x2 = x2; y2 = y2 }

pub same_sides : (x1 y1 x2 y2 u1 v1 u2 v2 : ℤ) → x1 ≡ u1 → y1 ≡ v1 → x2 ≡ u2 → y2 ≡ v2 → sides x1 y1 x2 y2 ≡ sides u1 v1 u2 v2
same_sides x1 y1 x2 y2 u1 v1 u2 v2 e f g h = cc

-- whether rectangles have the same sides decides whether they are the same
pub sides_same : (a b : RectModel) → Decides ((int_eq a.x1 b.x1 && int_eq a.x2 b.x2) && (int_eq a.y1 b.y1 && int_eq a.y2 b.y2)) (a ≡ b)
sides_same a b =
    let all =
    Decides-and _ _ (Decides-and _ _ (Decides-int_eq a.x1 b.x1) (Decides-int_eq a.x2 b.x2))
    (Decides-and _ _ (Decides-int_eq a.y1 b.y1) (Decides-int_eq a.y2 b.y2)) in (
      λ is.
          let f = all.0 is in
          same_sides a.x1 a.y1 a.x2 a.y2 b.x1 b.y1 b.x2 b.y2 f.0.0 f.1.0 f.0.1 f.1.1,
      λ same. all.1 (
        (ap (λ (r : RectModel). r.x1) same, ap (λ (r : RectModel). r.x2) same),
        (ap (λ (r : RectModel). r.y1) same, ap (λ (r : RectModel). r.y2) same),
      ),
    )
