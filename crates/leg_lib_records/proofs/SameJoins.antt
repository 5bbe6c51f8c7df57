-- Good vias in database units: what shapes join is the same as in millionths of a micron.
use Rattle.std.proofs.Common.{◌≡◌, ℕ, ◌≤◌, Bool, true, false, List, [], ◌∷◌, ℤ, pos, int_lt, ◌*ℤ◌, ◌-ℤ◌, ◌<ℤ◌, ◌≤ℤ◌, refl, arith}
use Rattle.std.proofs.lemmas.Int.{ints}
use Rattle.leg_lex.specs.Number.{IsUnits}
use Rattle.leg_lib_records.specs.declared.raw.RawKind.{RawKind}
use Rattle.leg_lib_records.specs.declared.raw.RawKind.TheVariants as raw
use Rattle.leg_lib_records.specs.declared.raw.RawLayer.{RawLayer}
use Rattle.leg_lib_records.specs.declared.raw.RawShape.{RawShape}
use Rattle.leg_lib_records.specs.declared.records.LayerKind.{LayerKind}
use Rattle.leg_lib_records.specs.declared.records.LayerKind.TheVariants.{Routing, Cut, Other}
use Rattle.leg_lib_records.specs.declared.records.Layer.{Layer}
use Rattle.leg_lib_records.specs.declared.records.Shape.{Shape}
use Rattle.leg_lib_records.specs.Records.{LibraryModel}
use Rattle.leg_lib_records.specs.GoodVia.{raw_use, use_of, raw_uses, uses_of, raw_parts, parts_of, is_raw_good_via, is_good_via}
use Rattle.leg_lib_records.specs.Scale.{IsLengthAt, IsShapeAt, IsKindAt, IsLayerAt, OneForOne, no_shift}

use_at : (n : ℕ) (kind : RawKind) (scaled : LayerKind) → IsKindAt n kind scaled → use_of scaled ≡ raw_use kind
use_at n (raw.Routing direction width) (Routing way u) at = refl
use_at n (raw.Routing direction width) Cut at = absurd at
use_at n (raw.Routing direction width) Other at = absurd at
use_at n raw.Cut (Routing way u) at = absurd at
use_at n raw.Cut Cut at = refl
use_at n raw.Cut Other at = absurd at
use_at n raw.Other (Routing way u) at = absurd at
use_at n raw.Other Cut at = absurd at
use_at n raw.Other Other at = refl

uses_at : (n : ℕ) (raw : List RawLayer) (layers : List Layer) → OneForOne (IsLayerAt n) raw layers → uses_of layers ≡ raw_uses raw
uses_at n [] [] at = refl
uses_at n [] (layer ∷ layers) at = absurd at
uses_at n (r ∷ raw) [] at = absurd at
uses_at n (r ∷ raw) (layer ∷ layers) at = rw (use_at n r.kind layer.kind at.0.kind, uses_at n raw layers at.1) refl

-- a length below 0 stays so, and so does one above
below_at : (n : ℕ) (m u : ℤ) → 1 ≤ n → IsLengthAt n m (u -ℤ pos 0) → int_lt u (pos 0) ≡ int_lt m (pos 0)
below_at n m u some at = by (int_lt m (pos 0)) refl where
  exact : IsUnits m n (u -ℤ pos 0)
  exact = at.exact

  by : (below : Bool) → int_lt m (pos 0) ≡ below → int_lt u (pos 0) ≡ below
  by true is =
      let less : m <ℤ pos 0 = grind (arith, ints) in
      let e : (m *ℤ pos n) <ℤ pos 0 = grind (arith, ints) in
      let p = exact in
      let f : u <ℤ pos 0 = omega (arith, ints, e, p) in
      grind (arith, ints, f)
  by false is =
      let least : pos 0 ≤ℤ m = grind (arith, ints) in
      let e : pos 0 ≤ℤ (m *ℤ pos n) = grind (arith, ints) in
      let p = exact in
      let f : pos 0 ≤ℤ u = omega (arith, ints, e, p) in
      grind (arith, ints, f)

times_above : (n : ℕ) (m : ℤ) → 1 ≤ n → pos 0 <ℤ m → pos 0 <ℤ (m *ℤ pos n)
times_above n m some more = grind (arith, ints)

above_at : (n : ℕ) (m u : ℤ) → 1 ≤ n → IsLengthAt n m (u -ℤ pos 0) → int_lt (pos 0) u ≡ int_lt (pos 0) m
above_at n m u some at = by (int_lt (pos 0) m) refl where
  exact : IsUnits m n (u -ℤ pos 0)
  exact = at.exact

  by : (above : Bool) → int_lt (pos 0) m ≡ above → int_lt (pos 0) u ≡ above
  by true is =
      let more : pos 0 <ℤ m = grind (arith, ints) in
      let e = times_above n m some more in
      let p = exact in
      let f : pos 0 <ℤ u = omega (arith, ints, e, p) in
      grind (arith, ints, f)
  by false is =
      let most : m ≤ℤ pos 0 = grind (arith, ints) in
      let e : (m *ℤ pos n) ≤ℤ pos 0 = grind (arith, ints) in
      let p = exact in
      let f : u ≤ℤ pos 0 = omega (arith, ints, e, p) in
      grind (arith, ints, f)

parts_at : (n : ℕ) (raw : List RawShape) (shapes : List Shape) → 1 ≤ n → OneForOne (IsShapeAt n no_shift) raw shapes → parts_of shapes ≡ raw_parts raw
parts_at n [] [] some at = refl
parts_at n [] (shape ∷ shapes) some at = absurd at
parts_at n (r ∷ raw) [] some at = absurd at
parts_at n (r ∷ raw) (shape ∷ shapes) some at =
    let rect = at.0.rect in
    rw (
      at.0.layer,
      below_at n r.rect.x1 shape.rect.x1 some rect.x1,
      above_at n r.rect.x2 shape.rect.x2 some rect.x2,
      below_at n r.rect.y1 shape.rect.y1 some rect.y1,
      above_at n r.rect.y2 shape.rect.y2 some rect.y2,
      parts_at n raw shapes some at.1,
    ) refl

-- A via is good in database units just where it is in millionths of a micron.
pub good_at : (n : ℕ) (raw : List RawLayer) (library : LibraryModel) (name : List ℕ) (raw_shapes : List RawShape) (shapes : List Shape) → 1 ≤ n
    → OneForOne (IsLayerAt n) raw library.layers → OneForOne (IsShapeAt n no_shift) raw_shapes shapes
    → is_good_via library name shapes ≡ is_raw_good_via raw name raw_shapes
unfolding is_raw_good_via is_good_via
good_at n raw library name raw_shapes shapes some layers at =
    rw (uses_at n raw library.layers layers, parts_at n raw_shapes shapes some at) refl
