-- The order of pairs, and that a rule's pairs are one list.
use Rattle.std.proofs.Common.{◌≡◌, ℕ, List, refl, arith}
use Rattle.std.proofs.lemmas.List.Elements.{All-contains}
use Rattle.leg_lemmas.proofs.RisingLists.{same_rising}
use Rattle.leg_sweep.specs.Pairs.{Before, ArePairs}
use Rattle.leg_geom.specs.Pairs.{IsPair}

-- no pair stands before itself
pub Before-irreflexive : (p : ℕ × ℕ) → Before p p → ⊥
Before-irreflexive p b = omega (arith, b.second refl)

pub Before-transitive : (p q r : ℕ × ℕ) → Before p q → Before q r → Before p r
Before-transitive p q r b c = record {
  first = omega (arith, b.first, c.first);
  second = λ e.
      let p_q : p.0 ≡ q.0 = omega (arith, b.first, c.first) in
      let q_r : q.0 ≡ r.0 = omega (arith, b.first, c.first) in
      omega (arith, b.second p_q, c.second q_r);
}

-- two lists that are the pairs of the same items for which the same holds
pub ArePairs-unique : {Item : Type 0} (Holds : Item → Item → Type 0) (items : List Item) (found other : List (ℕ × ℕ)) → ArePairs Holds items found
    → ArePairs Holds items other → found ≡ other
ArePairs-unique Holds items found other are others =
    same_rising Before Before-irreflexive Before-transitive found other are.increasing others.increasing
    (λ p c. others.all p (All-contains (IsPair Holds items) found p are.each c))
    (λ p c. are.all p (All-contains (IsPair Holds items) other p others.each c))
