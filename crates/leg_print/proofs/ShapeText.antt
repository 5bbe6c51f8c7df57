-- The text of a shape, written part by part.
use Rattle.std.proofs.Common.{◌≡◌, ℕ, List, [], ◌∷◌, ◌++◌, codes, ap, ◌∙◌}
use Rattle.std.proofs.lemmas.List.{append_assoc, append-nil}
use Rattle.std.specs.Fmt.{signed_decimal}
use Rattle.leg_output.specs.Words.{spaced}
use Rattle.leg_design_records.specs.Records.{DesignModel}
use Rattle.leg_rules.specs.declared.shape.Shape.{Shape}
use Rattle.leg_output.specs.Names.{owner_text}
use Rattle.leg_output.specs.Lines.{shape_text}

-- five parts with one byte between two of them
shuffle : (start owner a b c d : List ℕ) (z : ℕ) → start ++ z ∷ [] ++ owner ++ (z ∷ (a ++ (z ∷ (b ++ (z ∷ (c ++ (z ∷ (d ++ [])))))))) ≡ start ++
    (z ∷ [] ++ (owner ++ z ∷ [] ++ (a ++ z ∷ [] ++ b ++ z ∷ [] ++ c ++ z ∷ [] ++ d)))
shuffle start owner a b c d z = simp (append_assoc, append-nil)

pub shape_pushed : (design : DesignModel) (shape : Shape) (start one two all : List ℕ)
    → one ≡ start ++ codes " " → two ≡ one ++ owner_text design shape.owner
    → all ≡ two ++ spaced (signed_decimal shape.rect.x1 ∷ signed_decimal shape.rect.y1 ∷ signed_decimal shape.rect.x2 ∷ signed_decimal shape.rect.y2 ∷ [])
    → all ≡ start ++ (codes " " ++ shape_text design shape)
shape_pushed design shape start one two all blank owner sides =
    sides ∙ ap (λ t. t ++ spaced (signed_decimal shape.rect.x1 ∷ signed_decimal shape.rect.y1 ∷ signed_decimal shape.rect.x2 ∷ signed_decimal
    shape.rect.y2 ∷ [])) (owner ∙ ap (λ t. t ++ owner_text design shape.owner) blank)
    ∙ shuffle start (owner_text design shape.owner) (signed_decimal shape.rect.x1) (signed_decimal shape.rect.y1) (signed_decimal shape.rect.x2)
    (signed_decimal shape.rect.y2) 32
