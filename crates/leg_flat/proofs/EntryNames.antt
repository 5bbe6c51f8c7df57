-- Entries of both sections are of one net just where they have one name.
use Rattle.std.proofs.Common.{◌≡◌, ℕ, ◌+◌, ◌<◌, ◌↔◌, ◌⊎◌, inl, inr, length, slice_get, Option, None, Some, refl, sym, ap, ◌∙◌, arith}
use Rattle.std.proofs.lemmas.Option.{slice_get_within}
use Rattle.leg_lex.specs.NameLookup.{place_of}
use Rattle.leg_design_records.specs.Records.{DesignModel, NetModel, net_names}
use Rattle.leg_design_records.specs.WellFormed.{IsWellFormed}
use Rattle.leg_design_records.specs.WellFormedNets.{HasNets}
use Rattle.leg_rules.specs.Metal.Pieces.{IsEntryOf}
use Rattle.leg_flat.proofs.NetOf.{name_place, one_of_name, named_at}

-- an entry whose name no entry of NETS has, at the place k of SPECIALNETS
record IsAlone (design : DesignModel) (n : ℕ) (net : NetModel) : Type 0 where
  k : ℕ
  there : slice_get design.special k ≡ Some net
  none : place_of net.name (net_names design.nets) ≡ None
  number : n ≡ length design.nets + k

module _ (design : DesignModel) (has : HasNets design) where
  -- the number of a net is the place of its name among those of NETS, or the name isn't there
  told : (n : ℕ) (net : NetModel) → IsEntryOf design n net → (place_of net.name (net_names design.nets) ≡ Some n) ⊎ IsAlone design n net
  told n net (inl there) = inl (name_place design.nets has.nets.apart n net there)
  told n net (inr special) = by (place_of net.name (net_names design.nets)) refl where
    by : (o : Option ℕ) → place_of net.name (net_names design.nets) ≡ o → (place_of net.name (net_names design.nets) ≡ Some n) ⊎ IsAlone design n net
    by (Some i) found =
        let number : i ≡ n = rw found at special.2 in
        inl (found ∙ ap Some number)
    by None none =
        let number : length design.nets + special.0 ≡ n = rw none at special.2 in
        inr (record { k = special.0; there = special.1; none = none; number = sym number })

  within : (n : ℕ) (net : NetModel) → place_of net.name (net_names design.nets) ≡ Some n → n < length design.nets
  within n net found = slice_get_within design.nets n _ (named_at net.name design.nets n found).there

  same_name : (n : ℕ) (a b : NetModel) → (place_of a.name (net_names design.nets) ≡ Some n) ⊎ IsAlone design n a
      → (place_of b.name (net_names design.nets) ≡ Some n) ⊎ IsAlone design n b → a.name ≡ b.name
  same_name n a b (inl at) (inl too) =
      let first = named_at a.name design.nets n at in
      let second = named_at b.name design.nets n too in
      let e : ◌≡◌ {A = Option NetModel} (Some first.net) (Some second.net) = sym first.there ∙ second.there in
      let same : first.net ≡ second.net = cc in
      sym first.named ∙ ap (λ (m : NetModel). m.name) same ∙ second.named
  same_name n a b (inl at) (inr alone) = absurd (let e : ⊥ = omega (arith, within n a at, alone.number) in e)
  same_name n a b (inr alone) (inl at) = absurd (let e : ⊥ = omega (arith, within n b at, alone.number) in e)
  same_name n a b (inr one) (inr other) =
      let place : one.k ≡ other.k = omega (arith, one.number, other.number) in
      let e : ◌≡◌ {A = Option NetModel} (Some a) (Some b) = sym one.there ∙ ap (slice_get design.special) place ∙ other.there in
      let same : a ≡ b = cc in
      ap (λ (m : NetModel). m.name) same

  same_number : (n m : ℕ) (a b : NetModel) → a.name ≡ b.name → (place_of a.name (net_names design.nets) ≡ Some n) ⊎ IsAlone design n a
      → (place_of b.name (net_names design.nets) ≡ Some m) ⊎ IsAlone design m b → n ≡ m
  same_number n m a b same (inl at) (inl too) =
      let e : ◌≡◌ {A = Option ℕ} (Some n) (Some m) = sym at ∙ ap (λ name. place_of name (net_names design.nets)) same ∙ too in
      cc
  same_number n m a b same (inl at) (inr alone) =
      let e : ◌≡◌ {A = Option ℕ} (Some n) None = sym at ∙ ap (λ name. place_of name (net_names design.nets)) same ∙ alone.none in
      absurd (let f : ⊥ = cc in f)
  same_number n m a b same (inr alone) (inl at) =
      let e : ◌≡◌ {A = Option ℕ} None (Some m) = sym alone.none ∙ ap (λ name. place_of name (net_names design.nets)) same ∙ at in
      absurd (let f : ⊥ = cc in f)
  same_number n m a b same (inr one) (inr other) =
      let place : one.k ≡ other.k = one_of_name design.special has.special.apart one.k other.k a b one.there other.there same in
      one.number ∙ ap (λ k. length design.nets + k) place ∙ sym other.number

pub one_number : (design : DesignModel) → IsWellFormed design → (n m : ℕ) (a b : NetModel) → IsEntryOf design n a → IsEntryOf design m b
    → (n ≡ m) ↔ (a.name ≡ b.name)
one_number design proper n m a b of_a of_b = (to, from) where
  to : n ≡ m → a.name ≡ b.name
  to same = same_name design proper.nets n a b (told design proper.nets n a of_a) (rw same (told design proper.nets m b of_b))

  from : a.name ≡ b.name → n ≡ m
  from same = same_number design proper.nets n m a b same (told design proper.nets n a of_a) (told design proper.nets m b of_b)
