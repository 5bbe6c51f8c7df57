-- Terminals that entries list.
use Rattle.std.proofs.Common.{◌≡◌, ◌≢◌, ℕ, ◌<◌, Bool, true, false, not, ◌&&◌, List, length, get_or, Contains, refl, sym, ap, ◌∙◌}
use Rattle.std.specs.Str.{bytes_eq}
use Rattle.std.proofs.lemmas.Bool.{true≢false}
use Rattle.std.proofs.lemmas.List.Folds.{list_any_at}
use Rattle.leg_lex.proofs.NameLookup.{same_name}
use Rattle.leg_design_records.specs.declared.records.Terminal.{Terminal}
use Rattle.leg_design_records.specs.Terminals.{is_same_terminal, is_among}
use Rattle.leg_design_records.proofs.SameTerminal.{passes_from, some_passes, same_itself, among_from, among_contains}
use Rattle.leg_grammar.specs.Def.Terminal.{is_of_other_net}
use Rattle.leg_grammar.specs.Def.LonePins.{is_listed}
use Rattle.leg_design_records.specs.Records.{NetModel}

-- a terminal that isn't among others is none of them
pub not_among : (t : Terminal) (terminals : List Terminal) → is_among t terminals ≡ false → (k : ℕ) (d : Terminal) → k < length terminals
    → get_or terminals k d ≢ t
not_among t terminals other k d less = λ same.
    true≢false (sym (list_any_at (is_same_terminal t) terminals k d less (ap (is_same_terminal t) same ∙ same_itself t)) ∙ other)

-- an entry that lists a terminal which no other net lists is of the net's name
pub of_this_net : (name : List ℕ) (t : Terminal) (nets : List NetModel) (net : NetModel) → is_of_other_net name t nets ≡ false → Contains nets net
    → Contains net.terminals t → net.name ≡ name
of_this_net name t nets net none there lists = by (bytes_eq net.name name) refl where
  by : (same : Bool) → bytes_eq net.name name ≡ same → net.name ≡ name
  by true same = same_name net.name name same
  by false other =
      let fits : (not (bytes_eq net.name name) && is_among t net.terminals) ≡ true = rw (other, among_from t net.terminals lists) refl in
      absurd (true≢false (sym (some_passes (λ (n : NetModel). not (bytes_eq n.name name) && is_among t n.terminals) nets net there fits) ∙ none))

-- no entry lists a terminal that isn't listed
pub not_listed : (t : Terminal) (nets : List NetModel) (net : NetModel) → is_listed t nets ≡ false → Contains nets net → Contains net.terminals t → ⊥
not_listed t nets net none there lists =
    true≢false (sym (some_passes (λ (n : NetModel). is_among t n.terminals) nets net there (among_from t net.terminals lists)) ∙ none)

-- an entry that lists the terminal
pub record Lists (nets : List NetModel) (t : Terminal) : Type 0 where
  pub net : NetModel
  pub there : Contains nets net
  pub lists : Contains net.terminals t

pub listed : (t : Terminal) (nets : List NetModel) → is_listed t nets ≡ true → Lists nets t
listed t nets is =
    let found = passes_from (λ (n : NetModel). is_among t n.terminals) nets is in
    record { net = found.it; there = found.in_list; lists = among_contains t found.it.terminals found.passes }
