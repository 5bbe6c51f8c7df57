-- Where the pieces of a net go when wires that were added last are put before the wires of its other entry: t terminals, r
-- wires of the first entry, s of the other, and a that are added.
use Rattle.std.proofs.Common.{◌≡◌, ◌+◌, ◌-◌, ◌<◌, ◌≤◌, ℕ, ◌⊎◌, inl, inr, refl, arith}
use Rattle.std.proofs.lemmas.Bool.{cases_lt}

-- piece g is among the terminals and the wires of the first entry, and stays
pub record Stays (t r s a g d : ℕ) : Type 0 where
  pub below : g < t + r
  pub is : d ≡ g

-- it is a wire of the other entry, and goes behind those that are added
pub record GoesBack (t r s a g d : ℕ) : Type 0 where
  pub above : t + r ≤ g
  pub below : g < t + r + s
  pub is : d ≡ g + a

-- it is one that is added, and goes before those
pub record ComesForward (t r s a g d : ℕ) : Type 0 where
  pub above : t + r + s ≤ g
  pub below : g < t + r + s + a
  pub is : d + s ≡ g

abbrev pub Moves : ℕ → ℕ → ℕ → ℕ → ℕ → ℕ → Type 0
Moves t r s a g d = Stays t r s a g d ⊎ (GoesBack t r s a g d ⊎ ComesForward t r s a g d)

module _ (t r s a : ℕ) where
  abbrev To : ℕ → ℕ → Type 0
  To g d = Moves t r s a g d

  pub one_target : (g d e : ℕ) → To g d → To g e → d ≡ e
  one_target g d e (inl x) (inl y) = omega (arith, x.is, y.is)
  one_target g d e (inl x) (inr (inl y)) = absurd (omega (arith, x.below, y.above))
  one_target g d e (inl x) (inr (inr y)) = absurd (omega (arith, x.below, y.above))
  one_target g d e (inr (inl x)) (inl y) = absurd (omega (arith, x.above, y.below))
  one_target g d e (inr (inl x)) (inr (inl y)) = omega (arith, x.is, y.is)
  one_target g d e (inr (inl x)) (inr (inr y)) = absurd (omega (arith, x.below, y.above))
  one_target g d e (inr (inr x)) (inl y) = absurd (omega (arith, x.above, y.below))
  one_target g d e (inr (inr x)) (inr (inl y)) = absurd (omega (arith, x.above, y.below))
  one_target g d e (inr (inr x)) (inr (inr y)) = omega (arith, x.is, y.is)

  pub one_source : (g h d : ℕ) → To g d → To h d → g ≡ h
  one_source g h d (inl x) (inl y) = omega (arith, x.is, y.is)
  one_source g h d (inl x) (inr (inl y)) = absurd (omega (arith, x.below, x.is, y.above, y.is))
  one_source g h d (inl x) (inr (inr y)) = absurd (omega (arith, x.below, x.is, y.above, y.is))
  one_source g h d (inr (inl x)) (inl y) = absurd (omega (arith, x.above, x.is, y.below, y.is))
  one_source g h d (inr (inl x)) (inr (inl y)) = omega (arith, x.is, y.is)
  one_source g h d (inr (inl x)) (inr (inr y)) = absurd (omega (arith, x.above, x.is, y.below, y.is))
  one_source g h d (inr (inr x)) (inl y) = absurd (omega (arith, x.above, x.is, y.below, y.is))
  one_source g h d (inr (inr x)) (inr (inl y)) = absurd (omega (arith, x.below, x.is, y.above, y.is))
  one_source g h d (inr (inr x)) (inr (inr y)) = omega (arith, x.is, y.is)

  pub some_target : (g : ℕ) → g < t + r + s + a → (d : ℕ) × To g d
  some_target g within = by (cases_lt g (t + r)) (cases_lt g (t + r + s)) where
    by : (g < t + r) ⊎ (t + r ≤ g) → (g < t + r + s) ⊎ (t + r + s ≤ g) → (d : ℕ) × To g d
    by (inl below) other = (g, inl (record { below = below; is = refl }))
    by (inr above) (inl below) = (g + a, inr (inl (record { above = above; below = below; is = refl })))
    by (inr above) (inr past) = (g - s, inr (inr (record { above = past; below = within; is = omega (arith, past) })))

  pub some_source : (d : ℕ) → d < t + r + s + a → (g : ℕ) × To g d
  some_source d within = by (cases_lt d (t + r)) (cases_lt d (t + r + a)) where
    by : (d < t + r) ⊎ (t + r ≤ d) → (d < t + r + a) ⊎ (t + r + a ≤ d) → (g : ℕ) × To g d
    by (inl below) other = (d, inl (record { below = below; is = refl }))
    by (inr above) (inl below) = (d + s, inr (inr (record { above = omega (arith, above); below = omega (arith, below); is = refl })))
    by (inr above) (inr past) = (d - a, inr (inl (record { above = omega (arith, past); below = omega (arith, past, within); is = omega (arith, past) })))

  pub source_within : (g d : ℕ) → To g d → g < t + r + s + a
  source_within g d (inl x) = omega (arith, x.below)
  source_within g d (inr (inl x)) = omega (arith, x.below)
  source_within g d (inr (inr x)) = x.below

  pub target_within : (g d : ℕ) → To g d → d < t + r + s + a
  target_within g d (inl x) = omega (arith, x.below, x.is)
  target_within g d (inr (inl x)) = omega (arith, x.below, x.is)
  target_within g d (inr (inr x)) = omega (arith, x.below, x.is)
