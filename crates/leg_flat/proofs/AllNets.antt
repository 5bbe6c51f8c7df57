-- All nets of a design.
use Rattle.std.proofs.Common.{◌≡◌, ℕ, suc, ◌+◌, ◌-◌, ◌<◌, Bool, true, false, not, List, [], ◌∷◌, ◌++◌, length, map, slice_get, filter, Option, None, Some, refl, sym, ap, ◌∙◌, arith}
use Rattle.std.specs.List.{range_with_len}
use Rattle.std.proofs.lemmas.Bool.{false≢true, true≢false, or_right, or_left}
use Rattle.std.proofs.lemmas.List.Folds.{list_any-append}
use Rattle.std.proofs.lemmas.List.FromFn.{map-range_with_len_more}
use Rattle.std.proofs.lemmas.Option.{slice_get_within, slice_get_past}
use Rattle.leg_lex.specs.NameLookup.{place_of}
use Rattle.leg_design_records.specs.declared.records.Terminal.{Terminal}
use Rattle.leg_design_records.specs.Terminals.{is_same_terminal, is_among}
use Rattle.leg_design_records.specs.Records.{DesignModel, NetModel, net_names}
use Rattle.leg_design_records.specs.WellFormedNets.{HasNets}
use Rattle.leg_design_records.proofs.SameTerminal.{same_is}
use Rattle.leg_rules.specs.declared.piece.Piece.{Piece}
use Rattle.leg_rules.specs.Metal.Nets.{number_of_special, special_entry, regular_entry, entry_terminals, terminals_of, pieces_of}
use Rattle.leg_rules.specs.Metal.Owner.{listing_place, net_of, piece_of}
use Rattle.leg_flat.specs.Steps.Places.{NetsModel, place_in, IsPlaceOf, AreSpecialNumbers, AreNetsOf}
use Rattle.leg_flat.specs.Steps.PlacesBelow.{place_below}
use Rattle.leg_flat.proofs.NetNumbers.{number_within}
use Rattle.leg_flat.proofs.NetOf.{listed_at, name_place, named_at}
use Rattle.leg_flat.proofs.PlacesAmong.{has_place, placed_among}
use Rattle.leg_flat.proofs.NetPlaces.{in_net, below_is, none_below}

among_passes : (t : Terminal) (p : Terminal → Bool) (ts : List Terminal) → is_among t ts ≡ true → p t ≡ true → is_among t (filter p ts) ≡ true
among_passes t p [] among passes = absurd (false≢true among)
among_passes t p (u ∷ ts) among passes = by (λ rest. among_passes t p ts rest passes) (is_same_terminal t u) refl (p u) refl where
  by : (is_among t ts ≡ true → is_among t (filter p ts) ≡ true) → (same : Bool) → is_same_terminal t u ≡ same → (b : Bool) → p u ≡ b
      → is_among t (filter p (u ∷ ts)) ≡ true
  by rest true same true is = rw (is, same) refl
  by rest true same false is =
      let it : t ≡ u = same_is t u same in
      absurd (true≢false (sym passes ∙ ap p it ∙ is))
  by rest false other true is = rw (is, other) (rest (rw other at among))
  by rest false other false is = rw is (rest (rw other at among))

-- the entry of SPECIALNETS of the net that an entry is of is that one
pub special_of : (design : DesignModel) → HasNets design → (k : ℕ) (net : NetModel) → slice_get design.special k ≡ Some net
    → special_entry design (number_of_special design k net) ≡ Some net
special_of design has k net there = by (place_of net.name (net_names design.nets)) refl where
  by : (o : Option ℕ) → place_of net.name (net_names design.nets) ≡ o → special_entry design (number_of_special design k net) ≡ Some net
  by (Some m) found =
      let first = named_at net.name design.nets m found in
      let place : place_of first.net.name (net_names design.special) ≡ Some k = rw first.named (name_place design.special has.special.apart k net there) in
      rw (found, first.there, place) there
  by None none =
      let past : slice_get design.nets (length design.nets + k) ≡ None = slice_get_past design.nets (length design.nets + k) (omega arith) in
      let back : length design.nets + k - length design.nets ≡ k = omega arith in
      rw (none, past, back, there, none) refl

-- a net, with a terminal of it
pub record IsNetOf (design : DesignModel) (n : ℕ) (t : Terminal) : Type 0 where
  pub within : n < length design.nets + length design.special
  pub among : is_among t (terminals_of design n) ≡ true

module _ (design : DesignModel) (has : HasNets design) (t : Terminal) where
  regular_among : (n : ℕ) → is_among t (entry_terminals (regular_entry design n)) ≡ true → is_among t (terminals_of design n) ≡ true
  unfolding terminals_of
  regular_among n lists =
      list_any-append (is_same_terminal t) (entry_terminals (regular_entry design n))
      (filter (λ u. not (is_among u (entry_terminals (regular_entry design n)))) (entry_terminals (special_entry design n)))
      ∙ or_left (is_among t (entry_terminals (regular_entry design n)))
      (is_among t (filter (λ u. not (is_among u (entry_terminals (regular_entry design n)))) (entry_terminals (special_entry design n)))) lists

  special_among : (n : ℕ) → is_among t (entry_terminals (special_entry design n)) ≡ true → is_among t (terminals_of design n) ≡ true
  unfolding terminals_of
  special_among n lists = by (is_among t (entry_terminals (regular_entry design n))) refl where
    first : List Terminal
    first = entry_terminals (regular_entry design n)

    rest : List Terminal
    rest = filter (λ u. not (is_among u first)) (entry_terminals (special_entry design n))

    by : (b : Bool) → is_among t (entry_terminals (regular_entry design n)) ≡ b → is_among t (first ++ rest) ≡ true
    by true here =
        list_any-append (is_same_terminal t) first rest ∙ or_left (is_among t first) (is_among t rest) here
    by false other =
        let passes : not (is_among t first) ≡ true = rw other refl in
        list_any-append (is_same_terminal t) first rest
        ∙ or_right (is_among t first) (is_among t rest) (among_passes t (λ u. not (is_among u first)) (entry_terminals (special_entry design n)) lists passes)

  -- a terminal that is in a net is among its terminals
  pub net_in : (n : ℕ) → net_of design t ≡ Some n → IsNetOf design n t
  unfolding net_of
  net_in n of = by (listing_place t design.nets) refl (listing_place t design.special) refl where
    by : (o : Option ℕ) → listing_place t design.nets ≡ o → (p : Option ℕ) → listing_place t design.special ≡ p → IsNetOf design n t
    by (Some m) found p is =
        let first = listed_at t design.nets m found in
        let e : ◌≡◌ {A = Option ℕ} (Some m) (Some n) = rw found at of in
        let place : m ≡ n = cc in
        let lists : is_among t (entry_terminals (regular_entry design m)) ≡ true = rw first.there first.lists in
        rw (← place) (record {
          within = omega (arith, slice_get_within design.nets m first.net first.there);
          among = regular_among m lists;
        })
    by None none None nowhere =
        let e : ◌≡◌ {A = Option ℕ} None (Some n) = rw (none, nowhere) at of in
        absurd (let f : ⊥ = cc in f)
    by None none (Some k) found =
        let first = listed_at t design.special k found in
        let e : ◌≡◌ {A = Option ℕ} (Some (number_of_special design k first.net)) (Some n) = rw (none, found, first.there) at of in
        let place : number_of_special design k first.net ≡ n = cc in
        let entry : special_entry design n ≡ Some first.net = ap (λ m. special_entry design m) (sym place) ∙ special_of design has k first.net first.there in
        let lists : is_among t (entry_terminals (special_entry design n)) ≡ true = ap (λ o. is_among t (entry_terminals o)) entry ∙ first.lists in
        record {
          within =
              omega (arith, place, number_within design k first.net (slice_get_within design.special k first.net first.there));
          among = special_among n lists;
        }

  -- where the terminal is, once all nets are known
  pub place_done : (o : Option (ℕ × ℕ)) → place_below design (length design.nets + length design.special) t ≡ o → IsPlaceOf design t o
  unfolding piece_of
  place_done (Some place) found =
      let below = below_is design has (length design.nets + length design.special) t place found in
      let net : net_of design t ≡ Some place.0 = in_net design has place.0 t (placed_among t (terminals_of design place.0) place.1 below.is) in
      (net, rw net below.is)
  place_done None none = by (net_of design t) refl where
    by : (o : Option ℕ) → net_of design t ≡ o → o ≡ None
    by None is = refl
    by (Some n) of =
        let it = net_in n of in
        let place = has_place t (terminals_of design n) it.among in
        let e : ◌≡◌ {A = Option ℕ} (Some place.k) None = sym place.is ∙ none_below design has (length design.nets + length design.special) t none n it.within in
        absurd (let f : ⊥ = cc in f)

-- these are the nets below n
pub record AreNetsBelow (design : DesignModel) (n : ℕ) (nets : NetsModel) : Type 0 where
  pub pieces : nets.pieces ≡ map (pieces_of design) (range_with_len 0 n)
  pub counts : nets.counts ≡ map (λ k. length (terminals_of design k)) (range_with_len 0 n)
  pub place : (terminal : Terminal) → place_in nets.placed terminal ≡ place_below design n terminal

-- no nets yet
pub nets_started : (design : DesignModel) (pieces : List (List Piece)) (counts : List ℕ) (placed : List (Terminal × (ℕ × ℕ))) (special : List ℕ) → pieces ≡ []
    → counts ≡ [] → ((t : Terminal) → place_in placed t ≡ None)
    → AreNetsBelow design 0 (record { pieces = pieces; counts = counts; placed = placed; special = special })
unfolding place_below
nets_started design pieces counts placed special no_pieces no_counts nothing = record { pieces = no_pieces; counts = no_counts; place = nothing }

-- one more net
pub nets_more : (design : DesignModel) (n : ℕ) (nets more : NetsModel) → AreNetsBelow design n nets → more.pieces ≡ nets.pieces ++ pieces_of design n ∷ []
    → more.counts ≡ nets.counts ++ length (terminals_of design n) ∷ [] → ((t : Terminal) → place_in more.placed t ≡ place_below design (suc n) t)
    → AreNetsBelow design (n + 1) more
nets_more design n nets more below pushed pushed_count known = record {
  pieces =
      pushed ∙ rw below.pieces (sym (map-range_with_len_more (pieces_of design) 0 n n (omega arith)));
  counts =
      pushed_count
      ∙ rw below.counts (sym (map-range_with_len_more (λ k. length (terminals_of design k)) 0 n n (omega arith)));
  place = λ t. known t ∙ ap (λ m. place_below design m t) (omega arith);
}

-- all nets
pub nets_done : (design : DesignModel) → HasNets design → (n : ℕ) (nets : NetsModel) → n ≡ length design.nets + length design.special
    → AreNetsBelow design n nets → AreSpecialNumbers design nets.special → AreNetsOf design nets
nets_done design has n nets all below special = record {
  pieces = below.pieces ∙ rw all refl;
  counts = below.counts ∙ rw all refl;
  place = λ t. place_done design has t (place_in nets.placed t) (ap (λ m. place_below design m t) (sym all) ∙ sym (below.place t));
  special = special;
}
