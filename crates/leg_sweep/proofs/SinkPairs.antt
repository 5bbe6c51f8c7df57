-- What a sink took.
use Rattle.std.proofs.Common.{◌≡◌, ℕ, List, [], ◌∷◌, ◌++◌, sym, ap, ◌∙◌, append_assoc}
use Rattle.std.proofs.lemmas.List.{append-nil}
use Rattle.leg_sweep.specs.Pairs.{TakesAll}
use Rattle.leg_sweep.specs.Pairs.TakesAll.{none, more}

module _ {Sink : Type 0} (Takes : Sink → ℕ × ℕ → Sink → Type 0) where
  -- pairs taken after others
  pub takes_append : (before : Sink) (first : List (ℕ × ℕ)) (between : Sink) (second : List (ℕ × ℕ)) (after : Sink)
      → TakesAll Takes before first between → TakesAll Takes between second after → TakesAll Takes before (first ++ second) after
  takes_append before first between second after a none = rw (append-nil first) a
  takes_append before first between second after a (more {found = found} {between = middle} {p = p} b step) =
      rw (← append_assoc first found (p ∷ [])) (more (takes_append before first between found middle a b) step)

  -- a sink that is seen as a list holds them behind what it held
  pub takes_listed : (list_of : Sink → List (ℕ × ℕ)) → ((s t : Sink) (p : ℕ × ℕ) → Takes s p t → list_of t ≡ list_of s ++ p ∷ [])
      → (before : Sink) (found : List (ℕ × ℕ)) (after : Sink) → TakesAll Takes before found after → list_of after ≡ list_of before ++ found
  takes_listed list_of puts before found after none = sym (append-nil (list_of before))
  takes_listed list_of puts before found after (more {found = earlier} {between = middle} {p = p} taken step) =
      puts middle after p step ∙ ap (λ l. l ++ p ∷ []) (takes_listed list_of puts before earlier middle taken) ∙ append_assoc (list_of before) earlier (p ∷ [])
