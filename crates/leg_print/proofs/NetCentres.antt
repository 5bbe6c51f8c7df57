-- The length of a net, and the wirelength of a design.
use Rattle.std.proofs.Common.{◌≡◌, ◌⊎◌, inl, inr, ℕ, zero, suc, ◌+◌, pos, Bool, true, false, not, List, [], ◌∷◌, ◌++◌, length, filter, sum, Contains, Option, Some, slice_get, refl, sym, ap, ◌∙◌, subst, zero-add, arith}
use Rattle.std.specs.List.{range_with_len}
use Rattle.std.proofs.lemmas.List.Sums.{sum_by-append}
use Rattle.std.proofs.lemmas.List.Elements.{Contains-append_left, Contains-append_right, Contains-append_cases}
use Rattle.leg_lemmas.proofs.Ranges.{range_more}
use Rattle.leg_geom.specs.Plane.{PointModel, RectModel}
use Rattle.leg_lib_records.specs.Scale.{OneForOne}
use Rattle.leg_lib_records.proofs.OneEach.{push_pair}
use Rattle.leg_design_records.specs.declared.records.Terminal.{Terminal}
use Rattle.leg_design_records.specs.Terminals.{is_among}
use Rattle.leg_design_records.specs.Records.{DesignModel, NetModel}
use Rattle.leg_design_records.proofs.SameTerminal.{among_contains}
use Rattle.leg_rules.specs.Metal.Nets.{special_named, entry_terminals, terminals_of}
use Rattle.leg_rules.specs.Wirelength.{IsLeastBoxIfAny, IsCentreAmong, IsNetLength, IsWirelength}
use Rattle.leg_print.specs.Steps.Wirelength.{joined_if_any}
use Rattle.leg_print.proofs.LeastBoxes.{least_same, least_joined_if_any}

-- an element of what a filter keeps is one of the list
in_tail : (x t : Terminal) (xs ys : List Terminal) → (Contains ys t → Contains xs t) → Contains (x ∷ ys) t → Contains (x ∷ xs) t
in_tail x t xs ys follows there = elim (Contains-append_cases (x ∷ []) ys t there) [
  | inl here ↦ Contains-append_left (x ∷ []) xs t here
  | inr later ↦ Contains-append_right (x ∷ []) xs t (follows later)
]

in_filter : (p : Terminal → Bool) (xs : List Terminal) (t : Terminal) → Contains (filter p xs) t → Contains xs t
in_filter p [] t there = there
in_filter p (x ∷ xs) t there = by (p x) refl (in_filter p xs t) where
  by : (kept : Bool) → p x ≡ kept → (Contains (filter p xs) t → Contains xs t) → Contains (x ∷ xs) t
  by true is follows = in_tail x t xs (filter p xs) follows (rw is at there)
  by false is follows = Contains-append_right (x ∷ []) xs t (follows (rw is at there))

-- and an element that passes the test is kept
one_of_one : (x t : Terminal) → Contains (x ∷ []) t → x ≡ t
one_of_one x t (zero, less, is) = is
one_of_one x t (suc k, less, is) = absurd (omega arith)

kept_by_filter : (p : Terminal → Bool) (xs : List Terminal) (t : Terminal) → p t ≡ true → Contains xs t → Contains (filter p xs) t
kept_by_filter p [] t passes there = there
kept_by_filter p (x ∷ xs) t passes there = by (p x) refl (Contains-append_cases (x ∷ []) xs t there) (kept_by_filter p xs t passes) where
  by : (kept : Bool) → p x ≡ kept → (Contains (x ∷ []) t ⊎ Contains xs t) → (Contains xs t → Contains (filter p xs) t) → Contains (filter p (x ∷ xs)) t
  by true is (inl here) follows = rw is (Contains-append_left (x ∷ []) (filter p xs) t here)
  by true is (inr later) follows = rw is (Contains-append_right (x ∷ []) (filter p xs) t (follows later))
  by false is (inl here) follows =
      let same : x ≡ t = one_of_one x t here in
      let test : p t ≡ false = rw same at is in
      absurd (let f : ⊥ = cc in f)
  by false is (inr later) follows = rw is (follows later)

-- one list, and what isn't in it of another, have the elements of both
both_lists : (xs ys : List Terminal) (t : Terminal) → Contains (xs ++ filter (λ u. not (is_among u xs)) ys) t → (Contains xs t ⊎ Contains ys t)
both_lists xs ys t there = elim (Contains-append_cases xs (filter (λ u. not (is_among u xs)) ys) t there) [
  | inl first ↦ inl first
  | inr second ↦ inr (in_filter (λ u. not (is_among u xs)) ys t second)
]

in_both_lists : (xs ys : List Terminal) (t : Terminal) → (Contains xs t ⊎ Contains ys t) → Contains (xs ++ filter (λ u. not (is_among u xs)) ys) t
in_both_lists xs ys t (inl first) = Contains-append_left xs (filter (λ u. not (is_among u xs)) ys) t first
in_both_lists xs ys t (inr second) = by (is_among t xs) refl where
  by : (there : Bool) → is_among t xs ≡ there → Contains (xs ++ filter (λ u. not (is_among u xs)) ys) t
  by true is = Contains-append_left xs (filter (λ u. not (is_among u xs)) ys) t (among_contains t xs is)
  by false is =
      Contains-append_right xs (filter (λ u. not (is_among u xs)) ys) t
      (kept_by_filter (λ u. not (is_among u xs)) ys t (ap not is) second)

module _ (design : DesignModel) where
  both_centres : (xs ys : List Terminal) (p : PointModel) → (IsCentreAmong design xs p ⊎ IsCentreAmong design ys p)
      → IsCentreAmong design (xs ++ filter (λ u. not (is_among u xs)) ys) p
  both_centres xs ys p (inl has) = record { terminal = has.terminal; listed = in_both_lists xs ys has.terminal (inl has.listed); centre = has.centre }
  both_centres xs ys p (inr has) = record { terminal = has.terminal; listed = in_both_lists xs ys has.terminal (inr has.listed); centre = has.centre }

  centre_of_either : (xs ys : List Terminal) (p : PointModel) → IsCentreAmong design (xs ++ filter (λ u. not (is_among u xs)) ys) p
      → (IsCentreAmong design xs p ⊎ IsCentreAmong design ys p)
  centre_of_either xs ys p has = elim (both_lists xs ys has.terminal has.listed) [
    | inl first ↦ inl (record { terminal = has.terminal; listed = first; centre = has.centre })
    | inr second ↦ inr (record { terminal = has.terminal; listed = second; centre = has.centre })
  ]

  -- the box of a net of NETS joins that of its own terminals to that of the terminals of its special entry
  pub net_least : (n : ℕ) (net : NetModel) (a b : Option RectModel) → slice_get design.nets n ≡ Some net
      → IsLeastBoxIfAny (IsCentreAmong design net.terminals) a → IsLeastBoxIfAny (IsCentreAmong design (entry_terminals (special_named design net.name))) b
      → IsLeastBoxIfAny (IsCentreAmong design (terminals_of design n)) (joined_if_any a b)
  unfolding terminals_of
  net_least n net a b there regular special =
      let xs = net.terminals in
      let ys = entry_terminals (special_named design net.name) in
      rw there
      (least_same _ _ (both_centres xs ys) (centre_of_either xs ys) (joined_if_any a b)
      (least_joined_if_any (IsCentreAmong design xs) (IsCentreAmong design ys) a b regular special))

  pub same_box : (n : ℕ) (a b : Option RectModel) → a ≡ b → IsLeastBoxIfAny (IsCentreAmong design (terminals_of design n)) a
      → IsLeastBoxIfAny (IsCentreAmong design (terminals_of design n)) b
  same_box n a b same least = subst (λ (box : Option RectModel). IsLeastBoxIfAny (IsCentreAmong design (terminals_of design n)) box) same least

-- the lengths of the first nets, and their sum
pub record AreLengths (design : DesignModel) (count total : ℕ) : Type 0 where
  pub lengths : List ℕ
  pub each : OneForOne (IsNetLength design) (range_with_len 0 count) lengths
  pub is : total ≡ sum lengths

sum_push : (xs : List ℕ) (x : ℕ) → sum (xs ++ x ∷ []) ≡ sum xs + x
sum_push xs x = sum_by-append (λ (n : ℕ). n) xs (x ∷ []) ∙ ap (λ n. sum xs + n) (zero-add x)

pub one_more_length : (design : DesignModel) (count total length : ℕ) → AreLengths design count total → IsNetLength design count length
    → AreLengths design (count + 1) (total + length)
one_more_length design count total length before one = record {
  lengths = before.lengths ++ length ∷ [];
  each =
      let more : range_with_len 0 (count + 1) ≡ range_with_len 0 count ++ count ∷ [] =
      range_more 0 count count (zero-add count) in
      rw more (push_pair (IsNetLength design) (range_with_len 0 count) before.lengths count length before.each one);
  is = ap (λ t. t + length) before.is ∙ sym (sum_push before.lengths length);
}

-- the lengths of all nets of NETS are those of the wirelength
pub all_lengths : (design : DesignModel) (count total : ℕ) → count ≡ length design.nets → AreLengths design count total → IsWirelength design (pos total)
all_lengths design count total is known = record {
  lengths = known.lengths;
  each = subst (λ (n : ℕ). OneForOne (IsNetLength design) (range_with_len 0 n) known.lengths) is known.each;
  is = ap pos known.is;
}
