-- Which entries list a terminal, told by the index of their section.
use Rattle.std.proofs.Common.{◌≡◌, ◌≢◌, ℕ, zero, suc, ◌+◌, ◌<◌, nat_lt, Bool, true, false, cond, not, ◌&&◌, ◌||◌, ◌==◌, List, [], ◌∷◌, ◌++◌, length, get_or, slice_get, Option, None, Some, is_some, refl, sym, ap, ◌∙◌, arith, length-append}
use Rattle.std.specs.Str.{bytes_eq}
use Rattle.std.proofs.lemmas.Bool.{false_from_ne_true, false≢true}
use Rattle.std.proofs.lemmas.Bool.Decides.{nat_tests}
use Rattle.std.proofs.lemmas.List.{get_or_append_left, get_or-map, get_or_past}
use Rattle.std.proofs.lemmas.List.Folds.{list_any-append, list_any_at, list_any_none}
use Rattle.std.proofs.lemmas.Option.{get_or_from_slice_get, slice_get_within, slice_get-get_or}
use Rattle.std.proofs.Math.Seq.{get_or-append_seam}
use Rattle.leg_lex.specs.NameLookup.{place_of}
use Rattle.leg_lex.proofs.NameLookup.{none_parts, same_other_way}
use Rattle.leg_design_records.specs.declared.records.Terminal.{Terminal}
use Rattle.leg_design_records.specs.Terminals.{is_same_terminal, is_among}
use Rattle.leg_grammar.specs.Def.Terminal.{is_of_other_net}
use Rattle.leg_design_records.specs.Records.{NetModel, net_names, terminal_count, wire_count}
use Rattle.leg_grammar.specs.Def.LonePins.{is_listed}
use Rattle.leg_design_nets.specs.Steps.Index.{lists_of, IsNameIndex, IsIndexOf}
use Rattle.leg_design_nets.proofs.TerminalLists.{only_at, none_at, index_same, index_more}
use Rattle.leg_design_records.proofs.Blank.{blank}
use Rattle.leg_design_records.proofs.SameTerminal.{number_itself}

lists_length : (nets : List NetModel) → length (lists_of nets) ≡ length nets
lists_length [] = refl
lists_length (net ∷ nets) = ap suc (lists_length nets)

-- the terminals of the entry j
list_at : (nets : List NetModel) (j : ℕ) (d : NetModel) → j < length nets → get_or (lists_of nets) j [] ≡ (get_or nets j d).terminals
list_at nets j d less = get_or-map (λ net. net.terminals) nets j d [] less

-- the same with the list of the entry that is being read behind
module _ (nets : List NetModel) (ts : List Terminal) where
  abbrev pub begun : List (List Terminal)
  begun = lists_of nets ++ ts ∷ []

  begun_before : (j : ℕ) (d : NetModel) → j < length nets → get_or begun j [] ≡ (get_or nets j d).terminals
  begun_before j d less =
      let within : j < length (lists_of nets) = omega (arith, lists_length nets) in
      get_or_append_left (lists_of nets) (ts ∷ []) [] j within ∙ list_at nets j d less

  pub begun_last : get_or begun (length nets) [] ≡ ts
  begun_last =
      let last : length nets ≡ length (lists_of nets) = sym (lists_length nets) in
      rw last (get_or-append_seam (lists_of nets) ts [] [])

-- which entry lists the terminal
module _ (number : Terminal → Option ℕ) (lists : List (List Terminal)) (index : IsNameIndex number lists) (nets : List NetModel)
    (at : (j : ℕ) (d : NetModel) → j < length nets → get_or lists j [] ≡ (get_or nets j d).terminals) (t : Terminal) where
  found_by : (k : ℕ) → number t ≡ Some k → is_listed t nets ≡ nat_lt k (length nets)
  found_by k found = by (nat_lt k (length nets)) refl where
    by : (before : Bool) → nat_lt k (length nets) ≡ before → is_listed t nets ≡ before
    by true before =
        let less : k < length nets = grind (arith, nat_tests, before) in
        list_any_at (λ net. is_among t net.terminals) nets k blank less (rw (← at k blank less) ((index t k).0 found))
    by false past =
        list_any_none (λ net. is_among t net.terminals) nets (λ j d less.
        false_from_ne_true (is_among t (get_or nets j d).terminals) (λ has.
        let same : j ≡ k = only_at number lists index t k j found (rw (at j d less) has) in
        let e : ⊥ = grind (arith, nat_tests, past, same, less) in e))

  none_by : number t ≡ None → is_listed t nets ≡ false
  none_by none =
      list_any_none (λ net. is_among t net.terminals) nets (λ j d less.
      rw (← at j d less) (none_at number lists index t j none))

  other_by : (name : List ℕ) (k : ℕ) (net : NetModel) → number t ≡ Some k → slice_get nets k ≡ Some net
      → is_of_other_net name t nets ≡ not (bytes_eq net.name name)
  other_by name k net found there = by (bytes_eq net.name name) refl where
    less : k < length nets
    less = slice_get_within nets k net there

    it : (d : NetModel) → get_or nets k d ≡ net
    it d = get_or_from_slice_get nets k net d there

    by : (same : Bool) → bytes_eq net.name name ≡ same → is_of_other_net name t nets ≡ not same
    by true same =
        list_any_none (λ x. not (bytes_eq x.name name) && is_among t x.terminals) nets (λ j d below.
        false_from_ne_true (not (bytes_eq (get_or nets j d).name name) && is_among t (get_or nets j d).terminals) (λ both.
        let has : is_among t (get_or nets j d).terminals ≡ true =
        second (not (bytes_eq (get_or nets j d).name name)) (is_among t (get_or nets j d).terminals) both in
        let place : j ≡ k = only_at number lists index t k j found (rw (at j d below) has) in
        false≢true (sym (rw (place, it d, same) refl) ∙ both))) where
          second : (a b : Bool) → (a && b) ≡ true → b ≡ true
          second true b e = e
          second false b e = absurd (false≢true e)
    by false apart =
        list_any_at (λ x. not (bytes_eq x.name name) && is_among t x.terminals) nets k net less
        (rw (it net, apart) (rw (← it net, ← at k net less) ((index t k).0 found)))

  no_other_by : (name : List ℕ) → number t ≡ None → is_of_other_net name t nets ≡ false
  no_other_by name none =
      list_any_none (λ x. not (bytes_eq x.name name) && is_among t x.terminals) nets (λ j d less.
      let has_not : is_among t (get_or nets j d).terminals ≡ false = rw (← at j d less) (none_at number lists index t j none) in
      rw has_not (and-false (not (bytes_eq (get_or nets j d).name name)))) where
        and-false : (a : Bool) → (a && false) ≡ false
        and-false true = refl
        and-false false = refl

-- Of a whole section,
module _ (number : Terminal → Option ℕ) (nets : List NetModel) (index : IsNameIndex number (lists_of nets)) (t : Terminal) where
  within_nets : (k : ℕ) → number t ≡ Some k → k < length nets
  within_nets k found = by (nat_lt k (length nets)) refl where
    by : (before : Bool) → nat_lt k (length nets) ≡ before → k < length nets
    by true before = grind (arith, nat_tests, before)
    by false past =
        let beyond : get_or (lists_of nets) k [] ≡ [] = get_or_past (lists_of nets) k [] (grind (arith, nat_tests, past, lists_length nets)) in
        absurd (false≢true (rw beyond at ((index t k).0 found)))

  pub other_found : (name : List ℕ) (k : ℕ) (net : NetModel) → number t ≡ Some k → slice_get nets k ≡ Some net
      → is_of_other_net name t nets ≡ not (bytes_eq net.name name)
  other_found = other_by number (lists_of nets) index nets (list_at nets) t

  pub no_other : (name : List ℕ) → number t ≡ None → is_of_other_net name t nets ≡ false
  no_other = no_other_by number (lists_of nets) index nets (list_at nets) t

  pub listed_in : is_listed t nets ≡ is_some (number t)
  listed_in = by (number t) refl where
    by : (o : Option ℕ) → number t ≡ o → is_listed t nets ≡ is_some o
    by None none = none_by number (lists_of nets) index nets (list_at nets) t none
    by (Some k) found =
        found_by number (lists_of nets) index nets (list_at nets) t k found ∙ (let less : k < length nets = within_nets k found in
        grind (arith, nat_tests, less))

  pub not_listed : is_listed t nets ≡ false → number t ≡ None
  not_listed not = by (number t) refl where
    by : (o : Option ℕ) → number t ≡ o → o ≡ None
    by None none = refl
    by (Some k) found = absurd (false≢true (sym not ∙ listed_in ∙ ap is_some found))

-- and of one whose last entry is being read
module _ (number : Terminal → Option ℕ) (nets : List NetModel) (ts : List Terminal) (index : IsNameIndex number (lists_of nets ++ ts ∷ [])) (t : Terminal) where
  pub listed_before : (k : ℕ) → number t ≡ Some k → is_listed t nets ≡ nat_lt k (length nets)
  listed_before = found_by number (lists_of nets ++ ts ∷ []) index nets (begun_before nets ts) t

  pub none_before : number t ≡ None → is_listed t nets ≡ false
  none_before = none_by number (lists_of nets ++ ts ∷ []) index nets (begun_before nets ts) t

  pub among_begun : (k : ℕ) → number t ≡ Some k → is_among t ts ≡ (k == length nets)
  among_begun k found = by (k == length nets) refl where
    by : (last : Bool) → (k == length nets) ≡ last → is_among t ts ≡ last
    by true last =
        let place : k ≡ length nets = grind (arith, nat_tests, last) in
        rw (← begun_last nets ts, ← place) ((index t k).0 found)
    by false other =
        false_from_ne_true (is_among t ts) (λ has.
        let place : length nets ≡ k = only_at number (lists_of nets ++ ts ∷ []) index t k (length nets) found (rw (begun_last nets ts) has) in
        false≢true (sym other ∙ rw place (number_itself k)))

  pub none_begun : number t ≡ None → is_among t ts ≡ false
  none_begun none = rw (← begun_last nets ts) (none_at number (lists_of nets ++ ts ∷ []) index t (length nets) none)

  pub nowhere : is_listed t nets ≡ false → is_among t ts ≡ false → number t ≡ None
  nowhere before here = by (number t) refl where
    by : (o : Option ℕ) → number t ≡ o → o ≡ None
    by None none = refl
    by (Some k) found =
        let past : nat_lt k (length nets) ≡ false = sym (listed_before k found) ∙ before in
        let other : (k == length nets) ≡ false = sym (among_begun k found) ∙ here in
        let beyond : get_or (lists_of nets ++ ts ∷ []) k [] ≡ [] = get_or_past (lists_of nets ++ ts ∷ []) k []
        (grind (arith, nat_tests, past, other, lists_length nets, length-append (lists_of nets) (ts ∷ []))) in
        absurd (false≢true (rw beyond at ((index t k).0 found)))

-- an entry of a new name: an entry before that lists the terminal has another name
pub of_new_name : (name : List ℕ) (t : Terminal) (nets : List NetModel) → place_of name (net_names nets) ≡ None → is_of_other_net name t nets ≡ is_listed t nets
of_new_name name t [] new = refl
of_new_name name t (net ∷ nets) new =
    let parts = none_parts name net.name (net_names nets) new in
    let other : bytes_eq net.name name ≡ false = same_other_way net.name name ∙ parts.0 in
    rw (other, of_new_name name t nets parts.1) refl

pub other_split : (name : List ℕ) (t : Terminal) (nets others : List NetModel) → place_of name (net_names nets) ≡ None
    → is_of_other_net name t (nets ++ others) ≡ (is_listed t nets || is_of_other_net name t others)
other_split name t nets others new =
    list_any-append (λ net. not (bytes_eq net.name name) && is_among t net.terminals) nets others
    ∙ ap (λ b. b || is_of_other_net name t others) (of_new_name name t nets new)

-- how many terminals and wires there are with one more entry
pub terminals_more : (nets : List NetModel) (net : NetModel) → terminal_count (nets ++ net ∷ []) ≡ terminal_count nets + length net.terminals
terminals_more [] net = omega arith
terminals_more (first ∷ nets) net = let rest = terminals_more nets net in omega (arith, rest)

pub wires_more : (nets : List NetModel) (net : NetModel) → wire_count (nets ++ net ∷ []) ≡ wire_count nets + length net.wires
wires_more [] net = omega arith
wires_more (first ∷ nets) net = let rest = wires_more nets net in omega (arith, rest)

-- the entry of a number that is told is there
pub surely_there : (number : Terminal → Option ℕ) (nets : List NetModel) → IsNameIndex number (lists_of nets) → (t : Terminal) (k : ℕ) → number t ≡ Some k
    → slice_get nets k ≡ None → ⊥
surely_there number nets index t k found none =
    let less : k < length nets = within_nets number nets index t k found in
    let e : ⊥ = cc (none, slice_get-get_or nets k blank less) in e

-- one more terminal of the entry that is being read
append_other : (xs : List (List Terminal)) (a b : List Terminal) (j : ℕ) → j ≢ length xs → get_or (xs ++ a ∷ []) j [] ≡ get_or (xs ++ b ∷ []) j []
append_other [] a b zero other = absurd (other refl)
append_other [] a b (suc j) other = refl
append_other (x ∷ xs) a b zero other = refl
append_other (x ∷ xs) a b (suc j) other = append_other xs a b j (λ e. other (ap suc e))

begun_more : (before after : Terminal → Option ℕ) (nets : List NetModel) (ts : List Terminal) (t : Terminal) → IsNameIndex before (lists_of nets ++ ts ∷ [])
    → before t ≡ None → ((q : Terminal) → after q ≡ cond (is_same_terminal t q) (Some (length nets)) (before q))
    → IsNameIndex after (lists_of nets ++ (ts ++ t ∷ []) ∷ [])
begun_more before after nets ts t index none updates =
    index_more before after (lists_of nets ++ ts ∷ []) (lists_of nets ++ (ts ++ t ∷ []) ∷ []) (length nets) t index none updates
    (begun_last nets (ts ++ t ∷ []) ∙ ap (λ xs. xs ++ t ∷ []) (sym (begun_last nets ts)))
    (λ j other. append_other (lists_of nets) (ts ++ t ∷ []) ts j (λ e. other (e ∙ lists_length nets)))

-- an index of terminals that got room, and then this number under this terminal
pub record GetsNumber (before reserved after : Terminal → Option ℕ) (t : Terminal) (k : ℕ) : Type 0 where
  pub same : (q : Terminal) → reserved q ≡ before q
  pub updates : (q : Terminal) → after q ≡ cond (is_same_terminal t q) (Some k) (reserved q)

pub index_begun : (before reserved after : Terminal → Option ℕ) (nets : List NetModel) (ts more : List Terminal) (t : Terminal) (k : ℕ)
    → IsNameIndex before (lists_of nets ++ ts ∷ []) → GetsNumber before reserved after t k → k ≡ length nets → more ≡ ts ++ t ∷ [] → is_listed t nets ≡ false
    → is_among t ts ≡ false → IsNameIndex after (lists_of nets ++ more ∷ [])
index_begun before reserved after nets ts more t k index gets last pushed not_before not_here =
    rw pushed (begun_more before after nets ts t index (nowhere before nets ts index t not_before not_here)
    (λ q. gets.updates q ∙ rw (last, gets.same q) refl))

-- the entry that was being read is whole
append_nothing : (xs : List (List Terminal)) (j : ℕ) → get_or (xs ++ [] ∷ []) j [] ≡ get_or xs j []
append_nothing [] zero = refl
append_nothing [] (suc j) = refl
append_nothing (x ∷ xs) zero = refl
append_nothing (x ∷ xs) (suc j) = append_nothing xs j

lists_more : (nets : List NetModel) (net : NetModel) → lists_of (nets ++ net ∷ []) ≡ lists_of nets ++ net.terminals ∷ []
lists_more [] net = refl
lists_more (first ∷ nets) net = ap (λ lists. first.terminals ∷ lists) (lists_more nets net)

pub names_more : (nets : List NetModel) (net : NetModel) → net_names (nets ++ net ∷ []) ≡ net_names nets ++ net.name ∷ []
names_more [] net = refl
names_more (first ∷ nets) net = ap (λ names. first.name ∷ names) (names_more nets net)

pub index_closed : (number : Terminal → Option ℕ) (nets : List NetModel) (net : NetModel) → IsNameIndex number (lists_of nets ++ net.terminals ∷ [])
    → IsNameIndex number (lists_of (nets ++ net ∷ []) ++ [] ∷ [])
index_closed number nets net index =
    index_same number (lists_of nets ++ net.terminals ∷ []) (lists_of (nets ++ net ∷ []) ++ [] ∷ []) index
    (λ j. append_nothing (lists_of (nets ++ net ∷ [])) j ∙ ap (λ lists. get_or lists j []) (lists_more nets net))

-- the section is whole
pub index_finished : (number : Terminal → Option ℕ) (nets : List NetModel) → IsNameIndex number (lists_of nets ++ [] ∷ []) → IsNameIndex number (lists_of nets)
index_finished number nets index =
    index_same number (lists_of nets ++ [] ∷ []) (lists_of nets) index (λ j. sym (append_nothing (lists_of nets) j))

-- the entry that was being read, of which these are the terminals, is whole: a net with so many terminals and wires, behind the others
pub record IsOneNetMore (nets after : List NetModel) (ts : List Terminal) (net : NetModel) (a b : ℕ) : Type 0 where
  pub pushed : after ≡ nets ++ net ∷ []
  pub whole : ts ≡ net.terminals
  pub so_many : a ≡ length net.terminals
  pub so_many_wires : b ≡ length net.wires

pub kept_closed : (nets after : List NetModel) (ts none : List Terminal) (net : NetModel) (names more : List (List ℕ)) (number : Terminal → Option ℕ)
    (terminals wires a b : ℕ)
    → IsIndexOf nets (lists_of nets ++ ts ∷ []) names number terminals wires → IsOneNetMore nets after ts net a b → none ≡ [] → more ≡ names ++ net.name ∷ []
    → IsIndexOf after (lists_of after ++ none ∷ []) more number (terminals + a) (wires + b)
kept_closed nets after ts none net names more number terminals wires a b kept one nothing named =
    rw (one.pushed, nothing) (record {
      named = named ∙ ap (λ all. all ++ net.name ∷ []) kept.named ∙ sym (names_more nets net);
      indexed = index_closed number nets net (rw (← one.whole) kept.indexed);
      listed = rw (one.so_many, kept.listed) (sym (terminals_more nets net));
      wired = rw (one.so_many_wires, kept.wired) (sym (wires_more nets net));
    })

pub kept_finished : (nets : List NetModel) (ts : List Terminal) (names : List (List ℕ)) (number : Terminal → Option ℕ) (terminals wires : ℕ)
    → IsIndexOf nets (lists_of nets ++ ts ∷ []) names number terminals wires → ts ≡ [] → IsIndexOf nets (lists_of nets) names number terminals wires
kept_finished nets ts names number terminals wires kept nothing = record {
  named = kept.named;
  indexed = index_finished number nets (rw nothing at kept.indexed);
  listed = kept.listed;
  wired = kept.wired;
}
