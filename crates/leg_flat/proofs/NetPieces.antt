-- The pieces of a net from the entries of both sections.
use Rattle.std.proofs.Common.{◌≡◌, ℕ, suc, ◌+◌, ◌≤◌, Bool, true, false, not, List, [], ◌∷◌, ◌++◌, length, length-append, map, filter, Option, None, Some, is_none, option_map, Fits, w32, refl, sym, ap, ◌∙◌, arith}
use Rattle.std.specs.List.{range_with_len}
use Rattle.std.proofs.lemmas.List.{map-append, length-map}
use Rattle.std.proofs.lemmas.Bool.{or_right}
use Rattle.leg_design_records.specs.declared.limits.TheConstants.{PART_LIMIT}
use Rattle.leg_design_records.specs.declared.records.Terminal.{Terminal}
use Rattle.leg_design_records.specs.Terminals.{is_same_terminal, is_among}
use Rattle.leg_design_records.specs.Records.{DesignModel}
use Rattle.leg_design_records.specs.WellFormedNets.{HasNets}
use Rattle.leg_design_records.proofs.SameTerminal.{same_itself}
use Rattle.leg_rules.specs.declared.piece.Piece.{Piece}
use Rattle.leg_rules.specs.declared.piece.Piece.TheVariants.{Term, Wire}
use Rattle.leg_rules.specs.Metal.Nets.{special_entry, regular_entry, entry_terminals, entry_wires, terminals_of, wires_of, pieces_of}
use Rattle.leg_rules.specs.Metal.Owner.{place_among}
use Rattle.leg_flat.specs.Steps.Places.{place_in}
use Rattle.leg_flat.specs.Steps.PlacesBelow.{with_pieces, new_among, place_below, ArePiecesAdded}
use Rattle.leg_flat.proofs.PlacesAmong.{is_placed, two_pieces}
use Rattle.leg_flat.proofs.NetTerminals.{regular_in, special_in}
use Rattle.leg_flat.proofs.NetSizes.{few_terminals}
use Rattle.leg_flat.proofs.NetPlaces.{not_below}

-- tests that agree on the terminals let the same ones pass
filter_agrees : (p q : Terminal → Bool) (ts : List Terminal) → ((t : Terminal) → is_among t ts ≡ true → p t ≡ q t) → filter p ts ≡ filter q ts
filter_agrees p q [] agree = refl
filter_agrees p q (t ∷ ts) agree =
    let here : p t ≡ q t = agree t (rw (same_itself t) refl) in
    let rest : filter p ts ≡ filter q ts = filter_agrees p q ts (λ u among. agree u (or_right (is_same_terminal u t) (is_among u ts) among)) in
    rw (here, rest) refl

filter_true : (ts : List Terminal) → filter (λ t. true) ts ≡ ts
filter_true [] = refl
filter_true (t ∷ ts) = ap (λ us. t ∷ us) (filter_true ts)

filter_shorter : (p : Terminal → Bool) (ts : List Terminal) → length (filter p ts) ≤ length ts
filter_shorter p [] = omega arith
filter_shorter p (t ∷ ts) = by (filter_shorter p ts) (p t) refl where
  by : length (filter p ts) ≤ length ts → (b : Bool) → p t ≡ b → length (filter p (t ∷ ts)) ≤ length (t ∷ ts)
  by rest true is = rw is (omega arith)
  by rest false is = rw is (omega arith)

none_mapped : (f : ℕ → ℕ × ℕ) (o : Option ℕ) → is_none (option_map f o) ≡ is_none o
none_mapped f None = refl
none_mapped f (Some k) = refl

-- the first entry's terminals are the first pieces
pub first_count : (net : ℕ) (a : List Terminal) (before after : List (Terminal × (ℕ × ℕ))) (none more : List Piece) → none ≡ []
    → ArePiecesAdded net a before none after more → length more ≤ length a
first_count net a before after none more empty added =
    let count : length more ≡ length none + length (map Term (new_among before a)) =
    ap length added.grown ∙ length-append none (map Term (new_among before a)) in
    omega (arith, count, ap length empty, length-map (new_among before a) Term, filter_shorter (λ t. is_none (place_in before t)) a)

-- behind the terminals come the wires
pub all_pieces : (design : DesignModel) (n v w : ℕ) (second made : List Piece) → second ≡ map Term (terminals_of design n)
    → v ≡ length (entry_wires (regular_entry design n)) → w ≡ length (entry_wires (special_entry design n))
    → made ≡ second ++ map Wire (range_with_len 0 (v + w)) → made ≡ pieces_of design n
unfolding pieces_of wires_of
all_pieces design n v w second made is first rest grown =
    grown ∙ rw (is, first, rest, length-append (entry_wires (regular_entry design n)) (entry_wires (special_entry design n))) refl

module _ (design : DesignModel) (has : HasNets design) (n : ℕ) (a b : List Terminal) (regular : a ≡ entry_terminals (regular_entry design n))
    (special : b ≡ entry_terminals (special_entry design n)) (none first second : List Piece) (empty : none ≡ [])
    (before between after : List (Terminal × (ℕ × ℕ))) (below : (t : Terminal) → place_in before t ≡ place_below design n t)
    (one : ArePiecesAdded n a before none between first) (two : ArePiecesAdded n b between first after second) where
  new_here : (t : Terminal) → is_among t a ≡ true → place_in before t ≡ None
  new_here t among =
      below t ∙ not_below design has n t (regular_in design has n t (ap (λ ts. is_among t ts) (sym regular) ∙ among))

  new_there : (t : Terminal) → is_among t b ≡ true → place_in before t ≡ None
  new_there t among =
      below t ∙ not_below design has n t (special_in design has n t (ap (λ ts. is_among t ts) (sym special) ∙ among))

  all_new : new_among before a ≡ a
  all_new =
      filter_agrees (λ t. is_none (place_in before t)) (λ t. true) a (λ t among. ap is_none (new_here t among))
      ∙ filter_true a

  first_is : first ≡ map Term a
  first_is = one.grown ∙ rw (empty, all_new) refl

  -- what is known of a terminal between the two
  known : (t : Terminal) → place_in between t ≡ with_pieces (place_below design n t) n 0 a t
  known t = one.places t ∙ rw (all_new, empty, below t) refl

  rest_is : new_among between b ≡ filter (λ t. not (is_among t a)) b
  rest_is =
      filter_agrees (λ t. is_none (place_in between t)) (λ t. not (is_among t a)) b (λ t among.
      ap is_none (known t)
      ∙ rw (sym (below t) ∙ new_there t among) (none_mapped (λ k. (n, 0 + k)) (place_among t a))
      ∙ is_placed t a)

  all_terminals : a ++ new_among between b ≡ terminals_of design n
  unfolding terminals_of
  all_terminals = rw (rest_is, regular, special) refl

  pub net_made : second ≡ map Term (terminals_of design n)
  net_made =
      two.grown
      ∙ ap (λ ps. ps ++ map Term (new_among between b)) first_is
      ∙ sym (map-append Term a (new_among between b))
      ∙ ap (λ ts. map Term ts) all_terminals

  pub net_counted : (count : ℕ) → count ≡ length second → count ≡ length (terminals_of design n)
  net_counted count is = is ∙ ap length net_made ∙ length-map (terminals_of design n) Term

  pub net_fits : (count : ℕ) → count ≡ length second → Fits w32 count
  net_fits count is =
      let all : length second ≡ length first + length (map Term (new_among between b)) =
      ap length two.grown ∙ length-append first (map Term (new_among between b)) in
      let sum : length a + length b ≤ PART_LIMIT = few_terminals design has n a b regular special in
      let less : length first ≤ length a = first_count n a before between none first empty one in
      let rest : length (new_among between b) ≤ length b = filter_shorter (λ t. is_none (place_in between t)) b in
      let same : length (map Term (new_among between b)) ≡ length (new_among between b) = length-map (new_among between b) Term in
      omega arith

  pub net_placed : (t : Terminal) → place_in after t ≡ place_below design (suc n) t
  unfolding place_below
  net_placed t =
      let count : length first ≡ 0 + length a = ap length first_is ∙ length-map a Term ∙ omega arith in
      two.places t
      ∙ rw (known t, count) (two_pieces (place_below design n t) n 0 a (new_among between b) t)
      ∙ ap (λ ts. with_pieces (place_below design n t) n 0 ts t) all_terminals
