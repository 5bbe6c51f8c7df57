-- Free sites of a row whose nearest ones are sought.
use Rattle.std.proofs.Common.{ℕ, List, Option, None, Some, inl, inr, arith}
use Rattle.std.proofs.lemmas.Bool.{cases_lt}
use Rattle.leg_legal_sites.specs.declared.stretch.Stretch.{Stretch}
use Rattle.leg_legal_sites.specs.Steps.Stretches.{AreFreeSites}
use Rattle.leg_legal_sites.specs.Steps.Nearest.{FitsFrom, FitsUpTo, IsFirstFit, IsLast, IsValley, IsNearest}
use Rattle.leg_legal_sites.proofs.NearerSide.{IsLeft, IsRight, right_alone}

module _ (free : List Stretch) (many middle : ℕ) where
  -- what the two questions answer
  pub left_from_last : (left : ℕ) → IsLast (FitsUpTo free many middle) (Some left) → IsLeft middle (AreFreeSites free many) left
  left_from_last left is = record {
    holds = is.0.sites;
    upto = is.0.upto;
    last = λ k sites upto. is.1 k (record { sites = sites; upto = upto });
  }

  pub right_from_first : (right : ℕ) → IsFirstFit (FitsFrom free many middle) (Some right) → IsRight middle (AreFreeSites free many) right
  right_from_first right is = record {
    holds = is.0.sites;
    from = is.0.above;
    first = λ k sites from. is.1 k (record { sites = sites; above = from });
  }

-- with no sites up to the middle, it is the first one from there on
pub right_if_any : (away : ℕ → ℕ) (free : List Stretch) (many middle : ℕ) → IsValley away middle → IsLast (FitsUpTo free many middle) None
    → (right : Option ℕ) → IsFirstFit (FitsFrom free many middle) right → IsNearest away (AreFreeSites free many) right
right_if_any away free many middle valley never None none =
    λ k sites.
    elim (cases_lt middle k) [
      | inl beyond ↦ none k (record { sites = sites; above = omega arith })
      | inr upto ↦ never k (record { sites = sites; upto = upto })
    ]
right_if_any away free many middle valley never (Some right) is =
    right_alone away middle valley (AreFreeSites free many) right (right_from_first free many middle right is)
    (λ k sites upto. never k (record { sites = sites; upto = upto }))
