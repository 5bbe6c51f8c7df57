-- Where terminals are among the pieces of a net.
use Rattle.std.proofs.Common.{◌≡◌, ℕ, suc, ◌+◌, Bool, true, false, cond, not, List, [], ◌∷◌, ◌++◌, length, Option, None, Some, is_none, option_map, refl, sym, ap, ◌∙◌, arith}
use Rattle.std.proofs.lemmas.Bool.{false≢true, true≢false}
use Rattle.leg_design_records.specs.declared.records.Terminal.{Terminal}
use Rattle.leg_design_records.specs.Terminals.{is_same_terminal, is_among}
use Rattle.leg_design_records.proofs.SameTerminal.{same_is, same_itself}
use Rattle.leg_rules.specs.Metal.Owner.{place_among}
use Rattle.leg_flat.specs.Steps.PlacesBelow.{or_else, with_pieces}

-- a terminal has a place among others just where it is among them
pub is_placed : (q : Terminal) (ts : List Terminal) → is_none (place_among q ts) ≡ not (is_among q ts)
is_placed q [] = refl
is_placed q (t ∷ ts) = by (is_placed q ts) (is_same_terminal q t) refl where
  mapped : (o : Option ℕ) → is_none (option_map suc o) ≡ is_none o
  mapped None = refl
  mapped (Some k) = refl

  by : is_none (place_among q ts) ≡ not (is_among q ts) → (same : Bool) → is_same_terminal q t ≡ same
      → is_none (place_among q (t ∷ ts)) ≡ not (is_among q (t ∷ ts))
  by rest true same = rw same refl
  by rest false other = rw other (mapped (place_among q ts) ∙ rest)

pub none_is : {X : Type 0} (o : Option X) → is_none o ≡ true → o ≡ None
none_is None e = refl
none_is (Some x) e = absurd (false≢true e)

pub no_place : (q : Terminal) (ts : List Terminal) → is_among q ts ≡ false → place_among q ts ≡ None
no_place q ts other = none_is (place_among q ts) (is_placed q ts ∙ rw other refl)

-- a terminal's place, where it is among others
pub record HasPlace (q : Terminal) (ts : List Terminal) : Type 0 where
  pub k : ℕ
  pub is : place_among q ts ≡ Some k

pub has_place : (q : Terminal) (ts : List Terminal) → is_among q ts ≡ true → HasPlace q ts
has_place q ts among = by (place_among q ts) refl where
  by : (o : Option ℕ) → place_among q ts ≡ o → HasPlace q ts
  by None none = absurd (true≢false (ap is_none (sym none) ∙ is_placed q ts ∙ rw among refl))
  by (Some k) found = record { k = k; is = found }

pub placed_among : (q : Terminal) (ts : List Terminal) (k : ℕ) → place_among q ts ≡ Some k → is_among q ts ≡ true
placed_among q ts k found = by (is_among q ts) refl where
  by : (b : Bool) → is_among q ts ≡ b → b ≡ true
  by true among = refl
  by false other = let e : ⊥ = cc (found, no_place q ts other) in absurd e

-- behind others
from_zero : (o : Option ℕ) → o ≡ option_map (λ k. 0 + k) o
from_zero None = refl
from_zero (Some k) = ap Some (omega arith)

later : (n : ℕ) (x y : Option ℕ) → option_map suc (or_else x (option_map (λ k. n + k) y)) ≡ or_else (option_map suc x) (option_map (λ k. suc n + k) y)
later n None None = refl
later n None (Some k) = ap Some (omega arith)
later n (Some j) y = refl

pub place_append : (q : Terminal) (a b : List Terminal) → place_among q (a ++ b) ≡ or_else (place_among q a) (option_map (λ k. length a + k) (place_among q b))
place_append q [] b = from_zero (place_among q b)
place_append q (t ∷ a) b = by (place_append q a b) (is_same_terminal q t) refl where
  by : place_among q (a ++ b) ≡ or_else (place_among q a) (option_map (λ k. length a + k) (place_among q b)) → (same : Bool) → is_same_terminal q t ≡ same
      → place_among q (t ∷ a ++ b) ≡ or_else (place_among q (t ∷ a)) (option_map (λ k. length (t ∷ a) + k) (place_among q b))
  by rest true same = rw same refl
  by rest false other = rw (other, rest) (later (length a) (place_among q a) (place_among q b))

-- the pieces of a net in two lists
pub two_pieces : (known : Option (ℕ × ℕ)) (net from : ℕ) (a b : List Terminal) (q : Terminal)
    → with_pieces (with_pieces known net from a q) net (from + length a) b q ≡ with_pieces known net from (a ++ b) q
two_pieces (Some place) net from a b q = refl
two_pieces None net from a b q = rw (place_append q a b) (by (place_among q a) (place_among q b)) where
  by : (x y : Option ℕ) → or_else {X = ℕ × ℕ} (option_map (λ k. (net, from + k)) x) (option_map (λ k. (net, from + length a + k)) y) ≡ option_map
      (λ k. (net, from + k)) (or_else x (option_map (λ k. length a + k) y))
  by (Some j) y = refl
  by None None = refl
  by None (Some k) = ap (λ m. Some (net, m)) (omega arith)

pub or_none : (o : Option (ℕ × ℕ)) → or_else o None ≡ o
or_none None = refl
or_none (Some place) = refl

-- one more piece, of a terminal that isn't known
pub one_more : (known : Option (ℕ × ℕ)) (net from : ℕ) (ts : List Terminal) (t q : Terminal) → (t ≡ q → with_pieces known net from ts q ≡ None)
    → with_pieces known net from (ts ++ t ∷ []) q ≡ cond (is_same_terminal t q) (Some (net, from + length ts)) (with_pieces known net from ts q)
one_more known net from ts t q new =
    sym (two_pieces known net from ts (t ∷ []) q) ∙ by (is_same_terminal t q) refl (is_same_terminal q t) refl where
      before : Option (ℕ × ℕ)
      before = with_pieces known net from ts q

      by : (same : Bool) → is_same_terminal t q ≡ same → (back : Bool) → is_same_terminal q t ≡ back
          → with_pieces before net (from + length ts) (t ∷ []) q ≡ cond (is_same_terminal t q) (Some (net, from + length ts)) before
      by true same true back = rw (same, back, new (same_is t q same)) (ap (λ m. Some (net, m)) (omega arith))
      by true same false back =
          let it : t ≡ q = same_is t q same in
          absurd (true≢false (sym (same_itself q) ∙ rw it at back))
      by false other true back =
          let it : q ≡ t = same_is q t back in
          absurd (true≢false (sym (same_itself t) ∙ rw it at other))
      by false other false back = rw (other, back) (or_none before)
