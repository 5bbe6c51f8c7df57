-- The order in which components are taken: there is one alone, and no component stands in it twice.
use Rattle.std.proofs.Common.{◌≡◌, ℕ, List, slice_get, refl, sym, ap, ◌∙◌, arith}
use Rattle.std.proofs.lemmas.Int.{ints}
use Rattle.std.proofs.lemmas.Option.{same_Some}
use Rattle.leg_design_records.specs.Records.{DesignModel}
use Rattle.leg_design_records.specs.declared.records.Component.{Component}
use Rattle.leg_design_records.specs.Movable.{IsMovable}
use Rattle.leg_rules.specs.Legalise.Start.{start_of}
use Rattle.leg_rules.specs.Legalise.Turns.{Turn, IsEarlier, HasTurn, IsTakenBefore, IsOrderOfTaking}
use Rattle.leg_legal.proofs.RunSoFar.{AreMovable}
use Rattle.std.proofs.lemmas.List.Elements.{All-contains}
use Rattle.leg_lemmas.proofs.RisingLists.{same_rising}

-- a component has one turn
one_turn : (design : DesignModel) (c : ℕ) (a b : Turn) → HasTurn design c a → HasTurn design c b → a ≡ b
one_turn design c a b has_a has_b =
    let same : has_a.component ≡ has_b.component = same_Some has_a.component has_b.component (sym has_a.there ∙ has_b.there) in
    let alike : has_a.master ≡ has_b.master =
    same_Some has_a.master has_b.master (sym has_a.is_master ∙ ap (λ (x : Component). slice_get design.library.masters x.master) same ∙ has_b.is_master) in
    has_a.is
    ∙ (λ i. record { width = (alike i).size.width; x = (start_of design.die (same i).place).x; number = c })
    ∙ sym has_b.is

earlier_apart : (a : Turn) → IsEarlier a a → ⊥
earlier_apart a e = omega (arith, e.number refl refl)

earlier_trans : (a b c : Turn) → IsEarlier a b → IsEarlier b c → IsEarlier a c
earlier_trans a b c e f = record {
  width = omega (arith, ints, e.width, f.width);
  x = λ same.
      let first : a.width ≡ b.width = omega (arith, ints, e.width, f.width, same) in
      let second : b.width ≡ c.width = omega (arith, ints, e.width, f.width, same) in
      omega (arith, ints, e.x first, f.x second);
  number = λ same alike.
      let first : a.width ≡ b.width = omega (arith, ints, e.width, f.width, same) in
      let second : b.width ≡ c.width = omega (arith, ints, e.width, f.width, same) in
      let first_x : a.x ≡ b.x = omega (arith, ints, e.x first, f.x second, alike) in
      let second_x : b.x ≡ c.x = omega (arith, ints, e.x first, f.x second, alike) in
      omega (arith, e.number first first_x, f.number second second_x);
}

module _ (design : DesignModel) where
  pub never_before_itself : (c : ℕ) → IsTakenBefore design c c → ⊥
  never_before_itself c t =
      let same : t.turn_c ≡ t.turn_d = one_turn design c t.turn_c t.turn_d t.has_c t.has_d in
      earlier_apart t.turn_d (rw same at t.earlier)

  pub taken_before_trans : (c d e : ℕ) → IsTakenBefore design c d → IsTakenBefore design d e → IsTakenBefore design c e
  taken_before_trans c d e s t =
      let same : t.turn_c ≡ s.turn_d = one_turn design d t.turn_c s.turn_d t.has_c s.has_d in
      record {
        turn_c = s.turn_c;
        turn_d = t.turn_d;
        has_c = s.has_c;
        has_d = t.has_d;
        earlier = earlier_trans s.turn_c s.turn_d t.turn_d s.earlier (rw same at t.earlier);
      }

  -- there is one order alone
  pub order_unique : (xs ys : List ℕ) → IsOrderOfTaking design xs → IsOrderOfTaking design ys → xs ≡ ys
  order_unique xs ys a b =
      same_rising (IsTakenBefore design) never_before_itself taken_before_trans xs ys a.in_order b.in_order
      (λ c has. b.all c (All-contains (IsMovable design) xs c a.each has))
      (λ c has. a.all c (All-contains (IsMovable design) ys c b.each has))

  -- its components are movable, no two alike
  pub order_movable : (xs : List ℕ) → IsOrderOfTaking design xs → AreMovable design xs
  order_movable xs a = record {
    each = a.each;
    apart = λ i j d below within same.
        let taken : IsTakenBefore design _ _ = a.in_order i j d below within in
        never_before_itself _ (rw same at taken);
  }
