-- Shapes that are added behind others.
use Rattle.std.proofs.Common.{◌≡◌, ℕ, zero, suc, ◌+◌, ◌<◌, ◌≤◌, List, [], ◌∷◌, ◌++◌, length, get_or, take, Some, slice_get, sym, ap, ◌∙◌, subst, append_assoc, add-one, add-zero, arith}
use Rattle.std.proofs.lemmas.List.{append-nil, take_all}
use Rattle.std.proofs.lemmas.Option.{slice_get_within, get_or_from_slice_get}
use Rattle.leg_lib_records.specs.Scale.{OneForOne}
use Rattle.leg_rules.specs.declared.shape.Shape.{Shape}
use Rattle.leg_rules.specs.Metal.Metal.{Metal}
use Rattle.leg_rules.specs.Metal.Flat.{IsShapeOf}
use Rattle.leg_flat.specs.Steps.AddedMetal.{AddsMetal}

pairs_both : {X Y : Type 0} (R : X → Y → Type 0) → (xs zs : List X) (ys ws : List Y) → OneForOne R xs ys → OneForOne R zs ws → OneForOne R (xs ++ zs) (ys ++ ws)
pairs_both R [] zs [] ws p q = q
pairs_both R [] zs (y ∷ ys) ws p q = absurd p
pairs_both R (x ∷ xs) zs [] ws p q = absurd p
pairs_both R (x ∷ xs) zs (y ∷ ys) ws p q = (p.0, pairs_both R xs zs ys ws p.1 q)

pub adds_none : (shapes : List Shape) → AddsMetal [] shapes shapes
adds_none shapes = record { more = []; is = sym (append-nil shapes); each = tt }

-- one shape
pub adds_one : (m : Metal) (shapes after : List Shape) (shape : Shape) → after ≡ shapes ++ shape ∷ [] → IsShapeOf m shape → AddsMetal (m ∷ []) shapes after
adds_one m shapes after shape is one = record { more = shape ∷ []; is = is; each = (one, tt) }

-- some metal, and then more
pub adds_both : (a b : List Metal) (s t u : List Shape) → AddsMetal a s t → AddsMetal b t u → AddsMetal (a ++ b) s u
adds_both a b s t u p q = record {
  more = p.more ++ q.more;
  is = q.is ∙ ap (λ z. z ++ q.more) p.is ∙ append_assoc s p.more q.more;
  each = pairs_both IsShapeOf a b p.more q.more p.each q.each;
}

pub adds_same : (a b : List Metal) (s t : List Shape) → b ≡ a → AddsMetal a s t → AddsMetal b s t
adds_same a b s t e p = subst (λ m. AddsMetal m s t) (sym e) p

-- what the elements of a list give, one after another, each with its number
abbrev pub walk : {X Y : Type 0} → (ℕ → X → List Y) → ℕ → List X → List Y
walk f k [] = []
walk f k (x ∷ xs) = f k x ++ walk f (suc k) xs

later : (k i : ℕ) → suc k + i ≡ k + suc i
later k i = omega arith

pub walk_more : {X Y : Type 0} (f : ℕ → X → List Y) (k : ℕ) (xs : List X) (i : ℕ) (x : X) → i < length xs → x ≡ get_or xs i x
    → walk f k (take (suc i) xs) ≡ walk f k (take i xs) ++ f (k + i) x
walk_more f k [] i x less is = absurd (omega arith)
walk_more f k (w ∷ xs) zero x less is = rw (is, add-zero k) (append-nil (f k w))
walk_more f k (w ∷ xs) (suc i) x less is =
    rw (walk_more f (suc k) xs i x (omega arith) is, later k i) (sym (append_assoc (f k w) (walk f (suc k) (take i xs)) (f (k + suc i) x)))

-- a loop over a list that adds what each element gives
module _ {X : Type 0} (f : ℕ → X → List Metal) (k : ℕ) (xs : List X) (s : List Shape) where
  pub adds_more : (i j : ℕ) (x : X) (t u : List Shape) → j ≡ k + i → i < length xs → x ≡ get_or xs i x → AddsMetal (walk f k (take i xs)) s t
      → AddsMetal (f j x) t u → AddsMetal (walk f k (take (i + 1) xs)) s u
  adds_more i j x t u number less is before one =
      adds_same _ _ s u (rw (add-one, number) (walk_more f k xs i x less is)) (adds_both (walk f k (take i xs)) (f j x) s t u before one)

  pub adds_all : (i : ℕ) (t : List Shape) (metal : List Metal) → length xs ≤ i → metal ≡ walk f k xs → AddsMetal (walk f k (take i xs)) s t
      → AddsMetal metal s t
  adds_all i t metal past is before =
      adds_same _ metal s t (is ∙ ap (walk f k) (sym (take_all i xs past))) before

  -- the same where the element is known to stand there
  pub adds_at : (i j : ℕ) (x : X) (t u : List Shape) → j ≡ k + i → slice_get xs i ≡ Some x → AddsMetal (walk f k (take i xs)) s t → AddsMetal (f j x) t u
      → AddsMetal (walk f k (take (i + 1) xs)) s u
  adds_at i j x t u number there before one =
      adds_more i j x t u number (slice_get_within xs i x there) (sym (get_or_from_slice_get xs i x x there)) before one
