-- Moves and growths, counted one by one.
use Rattle.std.proofs.Common.{◌≡◌, ℕ, ◌+◌, ◌<◌, ◌⊎◌, inl, inr, List, [], ◌∷◌, ◌++◌, length, length-append, get_or, take, sym, ap, ◌∙◌, subst, arith}
use Rattle.std.specs.List.{All}
use Rattle.std.proofs.lemmas.List.{take_more}
use Rattle.std.proofs.lemmas.List.Elements.{All-append, All-cons, All-nil}
use Rattle.leg_design_records.specs.Records.{DesignModel}
use Rattle.leg_rules.specs.declared.difference.Section.TheVariants.{Components, Nets}
use Rattle.leg_rules.specs.declared.difference.Change.TheVariants.{Place, MoreWires}
use Rattle.leg_rules.specs.declared.difference.Difference.{Difference}
use Rattle.leg_rules.specs.declared.difference.Difference.TheVariants.{Changed}
use Rattle.leg_rules.specs.Compare.Verdicts.{IsMove, IsGrowth, HasSoMany, AreMovesAndGrowths}

-- the moves and growths of a list, which has no others, so as many as its elements
pub record AreCounted (first : DesignModel) (list : List Difference) (moves growths : ℕ) : Type 0 where
  pub are : AreMovesAndGrowths first list moves growths
  pub many : length list ≡ moves + growths

-- one more element, which has the property, or which has it not
pub so_many_more : {X : Type 0} (P : X → Type 0) (xs : List X) (x : X) (n : ℕ) → HasSoMany P xs n → P x → HasSoMany P (xs ++ x ∷ []) (n + 1)
so_many_more P [] x n h p = inl (p, (n, omega arith, h))
so_many_more P (y ∷ xs) x n (inl h) p = inl (h.0, (h.1.0 + 1, omega (arith, h.1.1), so_many_more P xs x h.1.0 h.1.2 p))
so_many_more P (y ∷ xs) x n (inr h) p = inr (h.0, so_many_more P xs x n h.1 p)

pub as_many : {X : Type 0} (P : X → Type 0) (xs : List X) (x : X) (n : ℕ) → HasSoMany P xs n → ¬ P x → HasSoMany P (xs ++ x ∷ []) n
as_many P [] x n h not = inr (not, h)
as_many P (y ∷ xs) x n (inl h) not = inl (h.0, (h.1.0, h.1.1, as_many P xs x h.1.0 h.1.2 not))
as_many P (y ∷ xs) x n (inr h) not = inr (h.0, as_many P xs x n h.1 not)

module _ (first : DesignModel) where
  -- of one kind or the other
  abbrev pub OfAKind : Difference → Type 0
  OfAKind d = IsMove first d ⊎ IsGrowth d

  pub not_both : (d : Difference) → IsMove first d → IsGrowth d → ⊥
  not_both d move growth =
      let same : Changed Components Place move.i ≡ Changed Nets MoreWires growth.i = sym move.is ∙ growth.is in
      let no : ⊥ = cc in no

  each_more : (list : List Difference) (d : Difference) → All OfAKind list → OfAKind d → All OfAKind (list ++ d ∷ [])
  each_more list d each kind = All-append OfAKind list (d ∷ []) each (All-cons OfAKind d [] kind (All-nil OfAKind))

  move_more : (list : List Difference) (d : Difference) (moves growths : ℕ) → AreCounted first list moves growths → IsMove first d
      → AreCounted first (list ++ d ∷ []) (moves + 1) growths
  move_more list d moves growths h move = record {
    are = record {
      moves_ = so_many_more (IsMove first) list d moves h.are.moves_ move;
      growths_ = as_many IsGrowth list d growths h.are.growths_ (λ growth. not_both d move growth);
      each = each_more list d h.are.each (inl move);
    };
    many = omega (arith, length-append list (d ∷ []), h.many);
  }

  growth_more : (list : List Difference) (d : Difference) (moves growths : ℕ) → AreCounted first list moves growths → IsGrowth d
      → AreCounted first (list ++ d ∷ []) moves (growths + 1)
  growth_more list d moves growths h growth = record {
    are = record {
      moves_ = as_many (IsMove first) list d moves h.are.moves_ (λ move. not_both d move growth);
      growths_ = so_many_more IsGrowth list d growths h.are.growths_ growth;
      each = each_more list d h.are.each (inr growth);
    };
    many = omega (arith, length-append list (d ∷ []), h.many);
  }

  -- the same of the front of a list
  pub next_move : (list : List Difference) (i : ℕ) (d : Difference) (moves growths : ℕ) → i < length list → get_or list i d ≡ d
      → AreCounted first (take i list) moves growths → IsMove first d → AreCounted first (take (i + 1) list) (moves + 1) growths
  next_move list i d moves growths less there h move =
      subst (λ (l : List Difference). AreCounted first l (moves + 1) growths) (ap (λ x. take i list ++ x ∷ []) (sym there) ∙ sym (take_more list i d less))
      (move_more (take i list) d moves growths h move)

  pub next_growth : (list : List Difference) (i : ℕ) (d : Difference) (moves growths : ℕ) → i < length list → get_or list i d ≡ d
      → AreCounted first (take i list) moves growths → IsGrowth d → AreCounted first (take (i + 1) list) moves (growths + 1)
  next_growth list i d moves growths less there h growth =
      subst (λ (l : List Difference). AreCounted first l moves (growths + 1)) (ap (λ x. take i list ++ x ∷ []) (sym there) ∙ sym (take_more list i d less))
      (growth_more (take i list) d moves growths h growth)
