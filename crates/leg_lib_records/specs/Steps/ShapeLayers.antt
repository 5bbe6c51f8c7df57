-- Which layers the parts of a via lie on: what the code finds out before it asks whether the via is good.
-- `JoinLaw`, which states what a good via is, uses none of this.
use Rattle.std.specs.Prelude.{◌≡◌, ◌≢◌, ℕ, ◌≤◌, ◌⊎◌, List}
use Rattle.std.specs.List.{All}
use Rattle.leg_lib_records.specs.declared.joins.ViaPart.{ViaPart}
use Rattle.leg_lib_records.specs.JoinLaw.{IsUsed}

-- these are the lowest and the highest layer that parts lie on
pub record AreOuter (parts : List ViaPart) (low high : ℕ) : Type 0 where
  pub low_used : IsUsed parts low
  pub high_used : IsUsed parts high
  pub above : All (λ part. low ≤ part.layer) parts
  pub below : All (λ part. part.layer ≤ high) parts

-- a part lies on this layer, which is neither of the two
pub record IsThird (parts : List ViaPart) (low high cut : ℕ) : Type 0 where
  pub used : IsUsed parts cut
  pub not_low : cut ≢ low
  pub not_high : cut ≢ high

-- all parts lie on these two layers
abbrev pub OnTwo : List ViaPart → ℕ → ℕ → Type 0
OnTwo parts low high = All (λ part. (part.layer ≡ low) ⊎ (part.layer ≡ high)) parts
