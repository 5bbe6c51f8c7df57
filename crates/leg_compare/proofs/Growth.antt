-- Lists that go on as others, with or without more.
use Rattle.std.proofs.Common.{◌≡◌, ℕ, ◌+◌, ◌<◌, ◌≤◌, List, ◌++◌, length, length-append, get_or, drop, map, sym, ap, ◌∙◌, arith}
use Rattle.std.proofs.lemmas.List.{length-map, get_or-map, get_or_append_left, take-append-drop}
use Rattle.leg_rules.specs.Compare.Spelling.{SpelledWire}
use Rattle.leg_rules.specs.Compare.Differences.{GoesOn}
use Rattle.leg_compare.proofs.ListsAlike.{front_alike}

module _ {X Y : Type 0} (f : X → SpelledWire) (g : Y → SpelledWire) (xs : List X) (ys : List Y) where
  pub goes_on : length xs ≤ length ys → ((k : ℕ) (d : X) (e : Y) → k < length xs → f (get_or xs k d) ≡ g (get_or ys k e)) → GoesOn (map f xs) (map g ys)
  goes_on less alike = record {
    more = drop (length xs) (map g ys);
    is = sym (take-append-drop (length xs) (map g ys)) ∙ ap (λ l. l ++ drop (length xs) (map g ys)) (sym (front_alike f g xs ys less alike));
  }

  pub no_shorter : GoesOn (map f xs) (map g ys) → length xs ≤ length ys
  no_shorter h =
      let all : length (map g ys) ≡ length (map f xs) + length h.more = ap length h.is ∙ length-append (map f xs) h.more in
      omega (arith, all, length-map xs f, length-map ys g)

  pub alike : GoesOn (map f xs) (map g ys) → (k : ℕ) (d : X) (e : Y) → k < length xs → f (get_or xs k d) ≡ g (get_or ys k e)
  alike h k d e within =
      let there : k < length ys = omega (arith, no_shorter h) in
      let inside : k < length (map f xs) = omega (arith, length-map xs f) in
      sym (get_or-map f xs k d (f d) within)
      ∙ sym (get_or_append_left (map f xs) h.more (f d) k inside)
      ∙ sym (ap (λ l. get_or l k (f d)) h.is)
      ∙ get_or-map g ys k e (f d) there
