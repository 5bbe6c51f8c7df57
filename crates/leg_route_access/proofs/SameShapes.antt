-- Shapes that agree in all are the same.
use Rattle.std.proofs.Common.{◌≡◌, ℕ, ap, ◌∙◌}
use Rattle.std.specs.Prelude.{Option}
use Rattle.leg_geom.specs.Plane.{RectModel}
use Rattle.leg_rules.specs.declared.owner.Owner.{Owner}
use Rattle.leg_rules.specs.declared.shape.Shape.{Shape}
use Rattle.leg_route_access.specs.Steps.SameShape.{AreSame}

shape_of : (layer : ℕ) (rect : RectModel) (owner : Owner) (component piece : Option ℕ) → Shape
shape_of layer rect owner component piece = record { layer = layer; rect = rect; owner = owner; component = component; piece = piece }

pub same_shape : (a b : Shape) → AreSame a b → a ≡ b
unfolding shape_of
same_shape a b same =
    ap (λ (l : ℕ). shape_of l a.rect a.owner a.component a.piece) same.layer
    ∙ ap (λ (r : RectModel). shape_of b.layer r a.owner a.component a.piece) same.rect
    ∙ ap (λ (o : Owner). shape_of b.layer b.rect o a.component a.piece) same.owner
    ∙ ap (λ (c : Option ℕ). shape_of b.layer b.rect b.owner c a.piece) same.component
    ∙ ap (λ (p : Option ℕ). shape_of b.layer b.rect b.owner b.component p) same.piece
