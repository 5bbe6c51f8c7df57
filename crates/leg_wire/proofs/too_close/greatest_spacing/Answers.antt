-- The greatest spacing takes in that on one more layer, and there is none beyond the layers.
use Rattle.std.proofs.Common.{◌≡◌, ◌≤◌, inl, inr, ℕ, length, nat_cmp, ap, arith}
use Rattle.std.specs.Ordering.{ord_max}
use Rattle.std.proofs.lemmas.Bool.{cases_lt, cases_eq}
use Rattle.leg_lib_records.specs.declared.records.Layer.{Layer}
use Rattle.leg_wire_spacing.proofs.RequiredSpacing.{none_beyond}
use Rattle.leg_wire.proofs.too_close.greatest_spacing.Goals as goal

greater : (a b m : ℕ) → m ≡ ord_max nat_cmp a b → (a ≤ m) × (b ≤ m)
greater a b m is = grind arith

pub loop-layer-preserved : goal.loop-layer-preserved
loop-layer-preserved g c number before =
    let both = greater c.loop-layer.greatest c.greatest_spacing_on.result c.max-greatest.result c.max-greatest.ensures in
    elim (cases_eq number c.loop-layer.layer) [
      | inl same ↦ rw (same, ← c.greatest_spacing_on.ensures.is) both.1
      | inr other ↦ let earlier = c.loop-layer.invariant number (omega (arith, before, other)) in omega (arith, earlier, both.0)
    ]

pub returns : goal.returns
returns g c number = elim (cases_lt number (length c.args.library.now.layers)) [
  | inl there ↦
      let count = ap (λ (ls : _). length {A = Layer} ls) c.layers-layer-end.ensures.is in
      c.loop-layer.invariant number (omega (arith, there, count))
  | inr beyond ↦ let none = none_beyond c.args.library.now number beyond in omega (arith, none)
]
