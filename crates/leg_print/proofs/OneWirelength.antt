-- A design has one wirelength.
use Rattle.std.proofs.Common.{◌≡◌, ℕ, ℤ, pos, List, [], ◌∷◌, sum, refl, sym, ap, ◌∙◌}
use Rattle.leg_lib_records.specs.Scale.{OneForOne}
use Rattle.leg_design_records.specs.Records.{DesignModel}
use Rattle.leg_rules.specs.Metal.Nets.{terminals_of}
use Rattle.leg_rules.specs.Wirelength.{IsCentreAmong, half_perimeter, IsNetLength, IsWirelength}
use Rattle.leg_print.proofs.LeastBoxes.{one_least_if_any}

module _ (design : DesignModel) where
  -- a net has one length
  one_length : (n a b : ℕ) → IsNetLength design n a → IsNetLength design n b → a ≡ b
  one_length n a b first second =
      first.is ∙ ap half_perimeter (one_least_if_any (IsCentreAmong design (terminals_of design n)) first.box second.box first.least second.least)
      ∙ sym second.is

  -- so lists of the lengths of the same nets are the same
  one_list : (nets ls bs : List ℕ) → OneForOne (IsNetLength design) nets ls → OneForOne (IsNetLength design) nets bs → ls ≡ bs
  one_list [] [] [] first second = refl
  one_list [] [] (b ∷ bs) first second = absurd second
  one_list [] (a ∷ ls) bs first second = absurd first
  one_list (n ∷ nets) [] bs first second = absurd first
  one_list (n ∷ nets) (a ∷ ls) [] first second = absurd second
  one_list (n ∷ nets) (a ∷ ls) (b ∷ bs) first second =
      ap (λ c. c ∷ ls) (one_length n a b first.0 second.0) ∙ ap (λ cs. b ∷ cs) (one_list nets ls bs first.1 second.1)

  -- and a design has one wirelength
  pub one_wirelength : (a b : ℤ) → IsWirelength design a → IsWirelength design b → a ≡ b
  one_wirelength a b first second =
      first.is ∙ ap (λ lengths. pos (sum lengths)) (one_list _ first.lengths second.lengths first.each second.each) ∙ sym second.is
