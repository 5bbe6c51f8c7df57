-- What `==` says of parts of entries.
use Rattle.std.proofs.Common.{◌≡◌, ℕ, ℤ, Bool, ◌&&◌, List, Decides, int_eq, ap, refl, ◌∙◌}
use Rattle.std.proofs.lemmas.Bool.Decides.{Decides-at, Decides-and, Decides-like, Decides-eqb, Decides-int_eq}
use Rattle.std.specs.Cmp.Lexicographic.{pointwise}
use Rattle.std.proofs.lemmas.Slice.Eq.{slice_eq-Decides}
use Rattle.leg_geom.specs.Plane.{PointModel, RectModel}
use Rattle.leg_geom.specs.contracts.rect.RectPartialEq.TheImpl as rect_eq
use Rattle.leg_lib_records.specs.declared.records.Shape.{Shape}
use Rattle.leg_lib_records.specs.contracts.records.ShapePartialEq.TheImpl as shape_eq
use Rattle.leg_design_records.specs.declared.records.Wire.{Wire}
use Rattle.leg_design_records.specs.declared.records.Wire.TheVariants.{Segment, ViaAt, Patch}
use Rattle.leg_design_records.specs.contracts.records.WirePartialEq.TheImpl as wire_eq
use Rattle.leg_design_records.specs.Records.{DesignModel}
use Rattle.leg_rules.specs.Compare.Spelling.{spelled_wire}
use Rattle.leg_rules.specs.Compare.Spelling.SpelledWire.{metal}

abbrev same_spot : PointModel → PointModel → Bool
same_spot p q = int_eq p.x q.x && int_eq p.y q.y

spot_decides : (p q : PointModel) → Decides (same_spot p q) (p ≡ q)
spot_decides p q =
    Decides-like _ (λ h. λ i. record { x = h.0 i; y = h.1 i }) (λ e. (ap (λ (s : PointModel). s.x) e, ap (λ (s : PointModel). s.y) e))
    (Decides-and _ _ (Decides-int_eq p.x q.x) (Decides-int_eq p.y q.y))

abbrev same_sides : RectModel → RectModel → Bool
same_sides r s = (int_eq r.x1 s.x1 && int_eq r.x2 s.x2) && (int_eq r.y1 s.y1 && int_eq r.y2 s.y2)

sides_decide : (r s : RectModel) → Decides (same_sides r s) (r ≡ s)
sides_decide r s =
    Decides-like _ (λ h. λ i. record { x1 = h.0.0 i; y1 = h.1.0 i; x2 = h.0.1 i; y2 = h.1.1 i })
    (λ e. ((ap (λ (q : RectModel). q.x1) e, ap (λ (q : RectModel). q.x2) e), (ap (λ (q : RectModel). q.y1) e, ap (λ (q : RectModel). q.y2) e)))
    (Decides-and _ _ (Decides-and _ _ (Decides-int_eq r.x1 s.x1) (Decides-int_eq r.x2 s.x2))
    (Decides-and _ _ (Decides-int_eq r.y1 s.y1) (Decides-int_eq r.y2 s.y2)))

pub rects_decide : (xs ys : List RectModel) → Decides (pointwise rect_eq.ghosts.eq xs ys) (xs ≡ ys)
rects_decide xs ys = slice_eq-Decides sides_decide xs ys (pointwise rect_eq.ghosts.eq xs ys) refl

shape_decides : (a b : Shape) → Decides (shape_eq.ghosts.eq a b) (a ≡ b)
shape_decides a b =
    Decides-like _ (λ h. λ i. record { layer = h.0 i; rect = h.1 i }) (λ e. (ap (λ (s : Shape). s.layer) e, ap (λ (s : Shape). s.rect) e))
    (Decides-and _ _ (Decides-eqb a.layer b.layer) (sides_decide a.rect b.rect))

pub shapes_decide : (xs ys : List Shape) → Decides (pointwise shape_eq.ghosts.eq xs ys) (xs ≡ ys)
shapes_decide xs ys = slice_eq-Decides shape_decides xs ys (pointwise shape_eq.ghosts.eq xs ys) refl

module _ (first second : DesignModel) where
  -- metal is spelled alike where it is equal
  pub segment_decides : (layer : ℕ) (from to : PointModel) (width ext_from ext_to : ℤ) (b : Wire)
      → Decides (wire_eq.ghosts.eq (Segment layer from to width ext_from ext_to) b)
      (spelled_wire first (Segment layer from to width ext_from ext_to) ≡ spelled_wire second b)
  segment_decides layer from to width ext_from ext_to (Segment l p q w x y) =
      Decides-like _ (λ h. λ i. metal (Segment (h.0 i) (h.1.0 i) (h.1.1.0 i) (h.1.1.1.0 i) (h.1.1.1.1.0 i) (h.1.1.1.1.1 i)))
      (λ e. (cc, (cc, (cc, (cc, (cc, cc))))))
      (Decides-and _ _ (Decides-eqb layer l) (Decides-and _ _ (spot_decides from p) (Decides-and _ _ (spot_decides to q)
      (Decides-and _ _ (Decides-int_eq width w) (Decides-and _ _ (Decides-int_eq ext_from x) (Decides-int_eq ext_to y))))))
  segment_decides layer from to width ext_from ext_to (ViaAt n at) = (λ e. absurd (cc), λ e. absurd (cc))
  segment_decides layer from to width ext_from ext_to (Patch l at rect) = (λ e. absurd (cc), λ e. absurd (cc))

  pub patch_decides : (layer : ℕ) (at : PointModel) (rect : RectModel) (b : Wire)
      → Decides (wire_eq.ghosts.eq (Patch layer at rect) b) (spelled_wire first (Patch layer at rect) ≡ spelled_wire second b)
  patch_decides layer at rect (Segment l p q w x y) = (λ e. absurd (cc), λ e. absurd (cc))
  patch_decides layer at rect (ViaAt n to) = (λ e. absurd (cc), λ e. absurd (cc))
  patch_decides layer at rect (Patch l to r) =
      Decides-like _ (λ h. λ i. metal (Patch (h.0 i) (h.1.0 i) (h.1.1 i))) (λ e. (cc, (cc, cc)))
      (Decides-and _ _ (Decides-eqb layer l) (Decides-and _ _ (spot_decides at to) (sides_decide rect r)))

  pub segment_alike : (a b : Wire) (layer : ℕ) (from to : PointModel) (width ext_from ext_to : ℤ) (r : Bool) → a ≡ Segment layer from to width ext_from ext_to
      → r ≡ wire_eq.ghosts.eq a b → Decides r (spelled_wire first a ≡ spelled_wire second b)
  segment_alike a b layer from to width ext_from ext_to r is e =
      rw is (Decides-at r (wire_eq.ghosts.eq (Segment layer from to width ext_from ext_to) b) (e ∙ ap (λ w. wire_eq.ghosts.eq w b) is)
      (segment_decides layer from to width ext_from ext_to b))

  pub patch_alike : (a b : Wire) (layer : ℕ) (at : PointModel) (rect : RectModel) (r : Bool) → a ≡ Patch layer at rect
      → r ≡ wire_eq.ghosts.eq a b → Decides r (spelled_wire first a ≡ spelled_wire second b)
  patch_alike a b layer at rect r is e =
      rw is (Decides-at r (wire_eq.ghosts.eq (Patch layer at rect) b) (e ∙ ap (λ w. wire_eq.ghosts.eq w b) is) (patch_decides layer at rect b))
