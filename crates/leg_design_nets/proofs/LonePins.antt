-- Pins of the design that no net lists, one after the other, and an entry with one more terminal.
use Rattle.std.proofs.Common.{◌≡◌, ◌≢◌, ℕ, zero, suc, ◌+◌, ◌<◌, ◌≤◌, Bool, true, false, ◌||◌, if◌then◌else◌, List, [], ◌∷◌, ◌++◌, length, get_or, take, drop, slice_get, slice_set, Option, None, Some, refl, sym, ap, ◌∙◌, arith, add-one, length-append}
use Rattle.std.proofs.lemmas.List.{drop_all, take_all, append-nil}
use Rattle.std.proofs.lemmas.Option.{slice_get-get_or, slice_get_within}
use Rattle.leg_lex.proofs.EachElement.{at_front}
use Rattle.leg_design_records.specs.declared.records.Terminal.{Terminal}
use Rattle.leg_design_records.specs.declared.records.Terminal.TheVariants.{Pin}
use Rattle.leg_lex.specs.NameLookup.{place_of}
use Rattle.leg_design_records.specs.Records.{PinModel, NetModel, net_names, terminal_count, wire_count}
use Rattle.leg_grammar.specs.Def.LonePins.{NetLists, is_listed, with_terminal, to_entry, to_named, with_lone_pin, with_lone_pins}
use Rattle.leg_design_nets.specs.Steps.Index.{lists_of, IsIndexOf}
use Rattle.leg_design_nets.proofs.TerminalLists.{index_more, index_by}
use Rattle.leg_design_records.proofs.Blank.{blank}
use Rattle.leg_design_nets.proofs.ListedNets.{not_listed, GetsNumber}

pub pin_added : (before after : NetLists) (pins : List PinModel) (i : ℕ) (x : PinModel) → i < length pins → x ≡ get_or pins i x
    → after ≡ with_lone_pin before i x → with_lone_pins before i (drop i pins) ≡ with_lone_pins after (i + 1) (drop (i + 1) pins)
unfolding with_lone_pins
pin_added before after pins i x less is added = rw (at_front pins i x less is, added, add-one i) refl

pub all_added : (lists : NetLists) (pins : List PinModel) (i : ℕ) → length pins ≤ i → with_lone_pins lists i (drop i pins) ≡ lists
unfolding with_lone_pins
all_added lists pins i past = rw (drop_all i pins past) refl

-- another entry in the place k
set_here : (nets : List NetModel) (k : ℕ) (net : NetModel) → k < length nets → get_or (lists_of (slice_set nets k net)) k [] ≡ net.terminals
set_here [] k net less = absurd (omega arith)
set_here (first ∷ nets) zero net less = refl
set_here (first ∷ nets) (suc k) net less = set_here nets k net (omega arith)

set_other : (nets : List NetModel) (k j : ℕ) (net : NetModel) → j ≢ k → get_or (lists_of (slice_set nets k net)) j [] ≡ get_or (lists_of nets) j []
set_other [] k j net other = refl
set_other (first ∷ nets) zero zero net other = absurd (other refl)
set_other (first ∷ nets) zero (suc j) net other = refl
set_other (first ∷ nets) (suc k) zero net other = refl
set_other (first ∷ nets) (suc k) (suc j) net other = set_other nets k j net (λ e. other (ap suc e))

list_here : (nets : List NetModel) (k : ℕ) (net : NetModel) → slice_get nets k ≡ Some net → get_or (lists_of nets) k [] ≡ net.terminals
list_here [] k net there = absurd (let e : ⊥ = cc in e)
list_here (first ∷ nets) zero net there =
    let same : first ≡ net = cc in
    ap (λ (x : NetModel). x.terminals) same
list_here (first ∷ nets) (suc k) net there = list_here nets k net there

set_names : (nets : List NetModel) (k : ℕ) (net after : NetModel) → slice_get nets k ≡ Some net → after.name ≡ net.name
    → net_names (slice_set nets k after) ≡ net_names nets
set_names [] k net after there same = refl
set_names (first ∷ nets) zero net after there same =
    let is : first ≡ net = cc in
    ap (λ name. name ∷ net_names nets) (same ∙ ap (λ (x : NetModel). x.name) (sym is))
set_names (first ∷ nets) (suc k) net after there same = ap (λ names. first.name ∷ names) (set_names nets k net after there same)

set_terminals : (nets : List NetModel) (k : ℕ) (net after : NetModel) → slice_get nets k ≡ Some net → length after.terminals ≡ length net.terminals + 1
    → terminal_count (slice_set nets k after) ≡ terminal_count nets + 1
set_terminals [] k net after there more = absurd (let e : ⊥ = cc in e)
set_terminals (first ∷ nets) zero net after there more =
    let is : first ≡ net = cc in
    let size : length first.terminals ≡ length net.terminals = ap (λ (x : NetModel). length x.terminals) is in
    omega (arith, more, size)
set_terminals (first ∷ nets) (suc k) net after there more =
    let rest = set_terminals nets k net after there more in
    omega (arith, rest)

set_wires : (nets : List NetModel) (k : ℕ) (net after : NetModel) → slice_get nets k ≡ Some net → after.wires ≡ net.wires
    → wire_count (slice_set nets k after) ≡ wire_count nets
set_wires [] k net after there same = refl
set_wires (first ∷ nets) zero net after there same =
    let is : first ≡ net = cc in
    ap (λ wires. length wires + wire_count nets) (same ∙ ap (λ (x : NetModel). x.wires) (sym is))
set_wires (first ∷ nets) (suc k) net after there same =
    ap (λ n. length first.wires + n) (set_wires nets k net after there same)

-- the entry k lists one more terminal
pub kept_with : (nets after : List NetModel) (k : ℕ) (net : NetModel) (t : Terminal) (names : List (List ℕ)) (number reserved last : Terminal → Option ℕ)
    (terminals wires : ℕ)
    → IsIndexOf nets (lists_of nets) names number terminals wires → slice_get nets k ≡ Some net
    → after ≡ slice_set nets k (record net { terminals = net.terminals ++ t ∷ [] }) → is_listed t nets ≡ false → GetsNumber number reserved last t k
    → IsIndexOf after (lists_of after) names last (terminals + 1) wires
kept_with nets after k net t names number reserved last terminals wires kept there put not gets =
    let more : NetModel = record net { terminals = net.terminals ++ t ∷ [] } in
    rw put (record {
      named = kept.named ∙ sym (set_names nets k net more there refl);
      indexed =
          index_more number last (lists_of nets) (lists_of (slice_set nets k more)) k t kept.indexed (not_listed number nets kept.indexed t not)
          (λ q. gets.updates q ∙ rw (gets.same q) refl)
          (set_here nets k more (slice_get_within nets k net there) ∙ ap (λ xs. xs ++ t ∷ []) (sym (list_here nets k net there)))
          (λ j other. set_other nets k j more other);
      listed = rw (kept.listed) (sym (set_terminals nets k net more there (length-append net.terminals (t ∷ []))));
      wired = kept.wired ∙ sym (set_wires nets k net more there refl);
    })

pub kept_reserved : (nets : List NetModel) (names : List (List ℕ)) (number reserved : Terminal → Option ℕ) (terminals wires : ℕ)
    → IsIndexOf nets (lists_of nets) names number terminals wires → ((q : Terminal) → reserved q ≡ number q)
    → IsIndexOf nets (lists_of nets) names reserved terminals wires
kept_reserved nets names number reserved terminals wires kept same = record {
  named = kept.named;
  indexed = index_by number reserved (lists_of nets) kept.indexed same;
  listed = kept.listed;
  wired = kept.wired;
}

set_length : (nets : List NetModel) (k : ℕ) (net : NetModel) → length (slice_set nets k net) ≡ length nets
set_length [] k net = refl
set_length (first ∷ nets) zero net = refl
set_length (first ∷ nets) (suc k) net = ap suc (set_length nets k net)

with_is : (nets : List NetModel) (k : ℕ) (net : NetModel) (t : Terminal) → slice_get nets k ≡ Some net
    → with_terminal t k nets ≡ slice_set nets k (record net { terminals = net.terminals ++ t ∷ [] })
with_is nets k net t there = rw there refl

-- a whole slice is written back
pub written_back : (nets after : List NetModel) (n : ℕ) → n ≡ length nets → length after ≡ length nets → take n (after ++ drop (length after) nets) ≡ after
written_back nets after n whole size =
    rw (drop_all (length after) nets (omega (arith, size)), append-nil after) (take_all n after (omega (arith, whole, size)))

pub kept_listed : (nets after : List NetModel) (n k : ℕ) (t : Terminal) (names : List (List ℕ)) (number reserved last : Terminal → Option ℕ)
    (terminals wires : ℕ)
    → IsIndexOf nets (lists_of nets) names number terminals wires → n ≡ length nets → k < length nets → after ≡ with_terminal t k nets
    → is_listed t nets ≡ false → GetsNumber number reserved last t k
    → IsIndexOf (take n (after ++ drop (length after) nets)) (lists_of (take n (after ++ drop (length after) nets))) names last (terminals + 1) wires
kept_listed nets after n k t names number reserved last terminals wires kept whole less put not gets =
    let net : NetModel = get_or nets k blank in
    let there : slice_get nets k ≡ Some net = slice_get-get_or nets k blank less in
    let is : after ≡ slice_set nets k (record net { terminals = net.terminals ++ t ∷ [] }) = put ∙ with_is nets k net t there in
    let size : length after ≡ length nets =
    ap (λ (xs : List NetModel). length xs) is ∙ set_length nets k (record net { terminals = net.terminals ++ t ∷ [] }) in
    rw (written_back nets after n whole size) (kept_with nets after k net t names number reserved last terminals wires kept there is not gets)

pub kept_unlisted : (nets after : List NetModel) (n : ℕ) (names : List (List ℕ)) (number reserved : Terminal → Option ℕ) (terminals wires : ℕ)
    → IsIndexOf nets (lists_of nets) names number terminals wires → n ≡ length nets → after ≡ nets → ((q : Terminal) → reserved q ≡ number q)
    → IsIndexOf (take n (after ++ drop (length after) nets)) (lists_of (take n (after ++ drop (length after) nets))) names reserved terminals wires
kept_unlisted nets after n names number reserved terminals wires kept whole is same =
    rw (written_back nets after n whole (ap (λ (xs : List NetModel). length xs) is), is) (kept_reserved nets names number reserved terminals wires kept same)

-- how many terminals both lists have together
abbrev pub all_count : NetLists → ℕ
all_count lists = terminal_count lists.nets + terminal_count lists.special

-- so many terminals as before, or one more
record IsOneMore (before after : ℕ) : Type 0 where
  pub least : before ≤ after
  pub most : after ≤ before + 1

one_listed : (t : Terminal) (k : ℕ) (nets : List NetModel) → IsOneMore (terminal_count nets) (terminal_count (with_terminal t k nets))
one_listed t k nets = by (slice_get nets k) refl where
  by : (found : Option NetModel) → slice_get nets k ≡ found → IsOneMore (terminal_count nets) (terminal_count (with_terminal t k nets))
  by None is = rw is (record { least = omega arith; most = omega arith })
  by (Some net) is =
      let e = set_terminals nets k net (record net { terminals = net.terminals ++ t ∷ [] }) is (length-append net.terminals (t ∷ [])) in
      rw (is, e) (record { least = omega arith; most = omega arith })

one_in_entry : (lists : NetLists) (p : ℕ) (a b : Option ℕ) → IsOneMore (all_count lists) (all_count (to_entry lists p a b))
one_in_entry lists p (Some k) b =
    let e = one_listed (Pin p) k lists.nets in
    let least = e.least in
    let most = e.most in
    record { least = omega (arith, least); most = omega (arith, most) }
one_in_entry lists p None (Some k) =
    let e = one_listed (Pin p) k lists.special in
    let least = e.least in
    let most = e.most in
    record { least = omega (arith, least); most = omega (arith, most) }
one_in_entry lists p None None = record { least = omega arith; most = omega arith }

one_named : (lists : NetLists) (p : ℕ) (name : Option (List ℕ)) → IsOneMore (all_count lists) (all_count (to_named lists p name))
one_named lists p None = record { least = omega arith; most = omega arith }
one_named lists p (Some name) = one_in_entry lists p (place_of name (net_names lists.nets)) (place_of name (net_names lists.special))

either_one : (n : ℕ) (test : Bool) (a b : NetLists) → IsOneMore n (all_count a) → IsOneMore n (all_count b) → IsOneMore n (all_count (if test then a else b))
either_one n true a b one other = one
either_one n false a b one other = other

one_pin : (lists : NetLists) (p : ℕ) (pin : PinModel) → IsOneMore (all_count lists) (all_count (with_lone_pin lists p pin))
unfolding with_lone_pin
one_pin lists p pin =
    either_one (all_count lists) (is_listed (Pin p) lists.nets || is_listed (Pin p) lists.special) lists (to_named lists p pin.net_name)
    (record { least = omega arith; most = omega arith }) (one_named lists p pin.net_name)

-- A pin is one terminal more at most.
pub few_more : (before after : NetLists) (i : ℕ) (limit : ℕ) (pin : PinModel) → after ≡ with_lone_pin before i pin → all_count before ≤ limit + i
    → all_count after ≤ limit + (i + 1)
few_more before after i limit pin is few =
    let most = (one_pin before i pin).most in
    rw is (omega (arith, most, few))

-- No pin takes a terminal away.
pub no_fewer : (lists : NetLists) (p : ℕ) (pins : List PinModel) → all_count lists ≤ all_count (with_lone_pins lists p pins)
unfolding with_lone_pins
no_fewer lists p [] = omega arith
no_fewer lists p (pin ∷ pins) =
    let first = (one_pin lists p pin).least in
    let rest = no_fewer (with_lone_pin lists p pin) (suc p) pins in
    omega (arith, first, rest)
