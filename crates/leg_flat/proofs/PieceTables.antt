-- A table of terminals.
use Rattle.std.proofs.Common.{◌≡◌, ℕ, Bool, cond, Some, refl, sym, ◌∙◌}
use Rattle.std.specs.HashMap.{HashMap, get_by}
use Rattle.leg_lemmas.proofs.Lookups.{lookup_agrees}
use Rattle.leg_design_records.specs.declared.records.Terminal.{Terminal}
use Rattle.leg_design_records.specs.Terminals.{is_same_terminal}
use Rattle.leg_flat.specs.Steps.Places.{place_in}

-- two terminals are compared by a test that agrees with the definition's
module _ {S : Type 0} (eq : Terminal → Terminal → Bool) (agree : (a b : Terminal) → eq a b ≡ is_same_terminal a b) where
  pub place_by : (m : HashMap Terminal (ℕ × ℕ) S) (t : Terminal) → place_in m.entries t ≡ get_by (eq t) m
  place_by m t = lookup_agrees (is_same_terminal t) (eq t) (λ k. sym (agree t k)) m.entries

  pub placed_by : (m n : HashMap Terminal (ℕ × ℕ) S) (t : Terminal) (place : ℕ × ℕ)
      → ((q : Terminal) → get_by (eq q) n ≡ cond (eq t q) (Some place) (get_by (eq q) m)) → (q : Terminal)
      → place_in n.entries q ≡ cond (is_same_terminal t q) (Some place) (place_in m.entries q)
  placed_by m n t place updates q =
      place_by n q ∙ updates q ∙ rw (agree t q, place_by m q) refl
