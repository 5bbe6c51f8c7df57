-- The numbers of the shapes for which something holds.
use Rattle.std.proofs.Common.{◌≡◌, ℕ, List, length, Some, slice_get, sym, ◌∙◌, arith}
use Rattle.std.proofs.lemmas.List.Elements.{All-weaker}
use Rattle.std.proofs.lemmas.Option.{same_Some, slice_get_within}
use Rattle.leg_rules.specs.declared.shape.Shape.{Shape}
use Rattle.leg_rules.specs.Metal.Flat.{FlatModel}
use Rattle.leg_drc.specs.Violations.{IsShapeWith}
use Rattle.leg_drc.specs.Steps.Numbers.{AreNumbersWhere}
use Rattle.leg_drc.proofs.NumbersBelow.{IsBelow, AreBelow}

module _ (Holds : Shape → Type 0) (flat : FlatModel) where
  -- it holds of the shape of this number just where it is one with it
  pub shape_with : (i : ℕ) (shape : Shape) → slice_get flat.shapes i ≡ Some shape → Holds shape → IsShapeWith Holds flat i
  shape_with i shape at holds = record { shape = shape; has_shape = at; holds = holds }

  pub with_shape : (i : ℕ) (shape : Shape) → slice_get flat.shapes i ≡ Some shape → IsShapeWith Holds flat i → Holds shape
  with_shape i shape at is =
      let same : is.shape ≡ shape = same_Some is.shape shape (sym is.has_shape ∙ at) in
      rw same at is.holds

  -- all shapes were looked at
  pub below_all : (end : ℕ) (numbers : List ℕ) → end ≡ length flat.shapes → AreBelow (IsShapeWith Holds flat) end numbers
      → AreNumbersWhere Holds flat numbers
  below_all end numbers all done = record {
    increasing = done.increasing;
    each = All-weaker (IsBelow (IsShapeWith Holds flat) end) (IsShapeWith Holds flat) (λ k is. is.holds) numbers done.each;
    all = λ k is. done.all k (let within = slice_get_within flat.shapes k is.shape is.has_shape in omega (arith, all, within)) is;
  }
