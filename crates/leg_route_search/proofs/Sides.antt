-- Steps from more and more nodes of a list, and to more and more sides.
use Rattle.std.proofs.Common.{◌≡◌, ℕ, ◌+◌, ◌<◌, Bool, List, [], ◌∷◌, length, get_or, take, Contains, ◌⊎◌, inl, inr, sym}
use Rattle.std.proofs.lemmas.List.{take_more}
use Rattle.std.proofs.lemmas.List.Elements.{Contains-append_left, Contains-push, Contains-push_cases}
use Rattle.leg_route_search.specs.declared.mark.Mark.{Mark}
use Rattle.leg_rules.specs.declared.side.Side.{Side}
use Rattle.leg_rules.specs.declared.side.Side.TheVariants.{West, East, South, North, Below, Above}
use Rattle.leg_route_search.specs.Steps.Spread.{IsSpread}
use Rattle.leg_route_search.proofs.Spread.{spread_as, spread_then}

-- one more element in front
pub contains_more : (xs : List ℕ) (i a : ℕ) → i < length xs → Contains (take i xs) a ⊎ (a ≡ get_or xs i 0) → Contains (take (i + 1) xs) a
contains_more xs i a within (inl old) = rw (take_more xs i 0 within) (Contains-append_left (take i xs) (get_or xs i 0 ∷ []) a old)
contains_more xs i a within (inr same) = rw (take_more xs i 0 within, same) (Contains-push (take i xs) (get_or xs i 0))

pub contains_more_cases : (xs : List ℕ) (i a : ℕ) → i < length xs → Contains (take (i + 1) xs) a → Contains (take i xs) a ⊎ (a ≡ get_or xs i 0)
contains_more_cases xs i a within there =
    elim (Contains-push_cases (take i xs) (get_or xs i 0) a (rw (take_more xs i 0 within) at there)) [ inl old ↦ inl old | inr same ↦ inr (sym same) ]

module _ (Open : ℕ → Type 0) (bound : ℕ → ℕ) (limit level : ℕ) (xs : List ℕ) (i : ℕ) (marks : List Mark) (next : List ℕ) (left : Bool) (marks2 : List Mark)
    (next2 : List ℕ) (left2 : Bool)
    (marks3 : List Mark) (next3 : List ℕ) (left3 : Bool) where
  -- the steps from one more node
  pub spread_more : (To : ℕ → ℕ → Type 0) → i < length xs
      → IsSpread Open (λ a b. Contains (take i xs) a × To a b) bound limit level marks next left marks2 next2 left2
      → IsSpread Open (λ a b. (a ≡ get_or xs i 0) × To a b) bound limit level marks2 next2 left2 marks3 next3 left3
      → IsSpread Open (λ a b. Contains (take (i + 1) xs) a × To a b) bound limit level marks next left marks3 next3 left3
  spread_more To within s t =
      spread_as Open bound limit level (λ a b. (Contains (take i xs) a × To a b) ⊎ ((a ≡ get_or xs i 0) × To a b))
      (λ a b. Contains (take (i + 1) xs) a × To a b) marks next left marks3 next3 left3
      (λ a b which. elim which [
        | inl old ↦ (contains_more xs i a within (inl old.0), old.1)
        | inr new ↦ (contains_more xs i a within (inr new.0), new.1)
      ])
      (λ a b there. elim (contains_more_cases xs i a within there.0) [ inl old ↦ inl (old, there.1) | inr new ↦ inr (new, there.1) ])
      (spread_then Open bound limit level (λ a b. Contains (take i xs) a × To a b) (λ a b. (a ≡ get_or xs i 0) × To a b) marks next left marks2 next2 left2
      marks3 next3 left3 s t)

  -- one more start
  pub spread_more_starts : i < length xs → IsSpread Open (λ _ b. Contains (take i xs) b) bound limit level marks next left marks2 next2 left2
      → IsSpread Open (λ _ b. b ≡ get_or xs i 0) bound limit level marks2 next2 left2 marks3 next3 left3
      → IsSpread Open (λ _ b. Contains (take (i + 1) xs) b) bound limit level marks next left marks3 next3 left3
  spread_more_starts within s t =
      spread_as Open bound limit level (λ _ b. Contains (take i xs) b ⊎ (b ≡ get_or xs i 0)) (λ _ b. Contains (take (i + 1) xs) b) marks next left marks3 next3
      left3
      (λ a b which. contains_more xs i b within which) (λ a b there. contains_more_cases xs i b within there)
      (spread_then Open bound limit level (λ _ b. Contains (take i xs) b) (λ _ b. b ≡ get_or xs i 0) marks next left marks2 next2 left2 marks3 next3 left3 s t)

-- some of the sides
abbrev pub Some2 : (Side → Type 0) → Type 0
Some2 P = P East ⊎ P West

abbrev pub Some3 : (Side → Type 0) → Type 0
Some3 P = Some2 P ⊎ P North

abbrev pub Some4 : (Side → Type 0) → Type 0
Some4 P = Some3 P ⊎ P South

abbrev pub Some5 : (Side → Type 0) → Type 0
Some5 P = Some4 P ⊎ P Above

abbrev pub Some6 : (Side → Type 0) → Type 0
Some6 P = Some5 P ⊎ P Below

-- the sixth of six is any of them
some_side : (P : Side → Type 0) → Some6 P → (side : Side) × P side
some_side P (inl (inl (inl (inl (inl p))))) = (East, p)
some_side P (inl (inl (inl (inl (inr p))))) = (West, p)
some_side P (inl (inl (inl (inr p)))) = (North, p)
some_side P (inl (inl (inr p))) = (South, p)
some_side P (inl (inr p)) = (Above, p)
some_side P (inr p) = (Below, p)

some_of_six : (P : Side → Type 0) (side : Side) → P side → Some6 P
some_of_six P East p = inl (inl (inl (inl (inl p))))
some_of_six P West p = inl (inl (inl (inl (inr p))))
some_of_six P North p = inl (inl (inl (inr p)))
some_of_six P South p = inl (inl (inr p))
some_of_six P Above p = inl (inr p)
some_of_six P Below p = inr p

-- the steps to all sides
pub spread_sides : (Open : ℕ → Type 0) (bound : ℕ → ℕ) (limit level : ℕ) (front : List ℕ) (To : Side → ℕ → ℕ → Type 0) (marks : List Mark) (next : List ℕ)
    (left : Bool) (marks2 : List Mark) (next2 : List ℕ) (left2 : Bool)
    → IsSpread Open (λ a b. Some6 (λ side. Contains front a × To side a b)) bound limit level marks next left marks2 next2 left2
    → IsSpread Open (λ a b. Contains front a × ((side : Side) × To side a b)) bound limit level marks next left marks2 next2 left2
spread_sides Open bound limit level front To marks next left marks2 next2 left2 =
    spread_as Open bound limit level (λ a b. Some6 (λ side. Contains front a × To side a b)) (λ a b. Contains front a × ((side : Side) × To side a b)) marks
    next left marks2 next2 left2
    (λ a b which. let found = some_side (λ side. Contains front a × To side a b) which in (found.1.0, (found.0, found.1.1)))
    (λ a b there. some_of_six (λ side. Contains front a × To side a b) there.1.0 (there.0, there.1.1))
