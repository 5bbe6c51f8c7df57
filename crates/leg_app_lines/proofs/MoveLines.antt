-- The lines of moves, one component after the other.
use Rattle.std.proofs.Common.{◌≡◌, ℕ, ℤ, List, [], ◌∷◌, ◌++◌, ◌⊎◌, inl, inr, refl, sym, ap, ◌∙◌, append_assoc, append-nil}
use Rattle.std.proofs.lemmas.List.Concat.{flat_map-cons}
use Rattle.std.specs.List.{zip}
use Rattle.leg_design_records.specs.declared.records.Component.{Component}
use Rattle.leg_output.specs.Commands.Legalise.{move_line, move_lines}

abbrev line_of_pair : Component × ℤ → List ℕ
line_of_pair moved = move_line moved.0 moved.1

-- one line more, and one component less that is left
pub one_more : (text new whole : List ℕ) (component : Component) (distance : ℤ) (components : List Component) (distances : List ℤ)
    → new ≡ text ++ move_line component distance → text ++ move_lines (component ∷ components) (distance ∷ distances) ≡ whole
    → new ++ move_lines components distances ≡ whole
one_more text new whole component distance components distances is before =
    ap (λ t. t ++ move_lines components distances) is
    ∙ append_assoc text (move_line component distance) (move_lines components distances)
    ∙ ap (λ t. text ++ t) (sym (flat_map-cons line_of_pair (component, distance) (zip components distances)))
    ∙ before

no_lines_left : (components : List Component) → move_lines components [] ≡ []
no_lines_left [] = refl
no_lines_left (component ∷ components) = refl

-- nothing is left
pub none_left : (components : List Component) (distances : List ℤ) → (components ≡ []) ⊎ (distances ≡ []) → move_lines components distances ≡ []
none_left components distances (inl none) = rw none refl
none_left components distances (inr none) = rw none (no_lines_left components)

-- the same, where what was left is told by equations
pub next_line : (text new whole : List ℕ) (all components : List Component) (each distances : List ℤ) (component : Component) (distance : ℤ)
    → all ≡ component ∷ components → each ≡ distance ∷ distances → new ≡ text ++ move_line component distance
    → text ++ move_lines all each ≡ whole → new ++ move_lines components distances ≡ whole
next_line text new whole all components each distances component distance first second is before =
    one_more text new whole component distance components distances is (rw (first, second) at before)

pub no_line_yet : (text other : List ℕ) (all components : List Component) (each distances : List ℤ)
    → text ≡ other → all ≡ components → each ≡ distances → text ++ move_lines all each ≡ other ++ move_lines components distances
no_line_yet text other all components each distances same first second = rw (same, first, second) refl

-- with nothing left, and the last lines
pub lines_end : (text new whole last : List ℕ) (all : List Component) (each : List ℤ) → (all ≡ []) ⊎ (each ≡ [])
    → text ++ move_lines all each ≡ whole → new ≡ text ++ last → new ≡ whole ++ last
lines_end text new whole last all each none before is =
    let nothing = none_left all each none in
    let same : text ≡ whole = sym (append-nil text) ∙ rw nothing at before in
    is ∙ ap (λ t. t ++ last) same
