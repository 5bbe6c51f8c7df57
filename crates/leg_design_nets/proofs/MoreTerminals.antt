-- Entries of which one lists one more terminal.
use Rattle.std.proofs.Common.{◌≡◌, ℕ, zero, suc, ◌+◌, ◌-◌, ◌<◌, ◌⊎◌, List, [], ◌∷◌, ◌++◌, length, length-append, length-set, get_or, get_or-append-add, get_or-set_same, get_or-set_other, set, slice_get, Contains, Some, inl, inr, ⊎_elim, refl, sym, ap, ◌∙◌, subst, arith}
use Rattle.std.proofs.lemmas.Bool.{cases_eq}
use Rattle.std.proofs.lemmas.List.{set-append_left, set-append_right, get_or_append_left, get_or_default}
use Rattle.std.proofs.lemmas.List.Elements.{Contains-push, Contains-append_left, Contains-push_cases}
use Rattle.std.proofs.lemmas.Option.{slice_get_within, get_or_from_slice_get}
use Rattle.leg_design_records.specs.declared.records.Terminal.{Terminal}
use Rattle.leg_design_records.specs.Records.{NetModel, net_names, wire_count}
use Rattle.leg_design_records.specs.WellFormedNets.{AreInOneNet}
use Rattle.leg_design_nets.proofs.TerminalsOfEntries.{Lists}

-- the entry with one more terminal
abbrev pub more : Terminal → NetModel → NetModel
more t net = record net { terminals = net.terminals ++ t ∷ [] }

-- the entry of this number
pub record IsPlacedOn (nets : List NetModel) (k : ℕ) (net : NetModel) : Type 0 where
  pub within : k < length nets
  pub is : get_or nets k net ≡ net

pub stands_at : (nets : List NetModel) (k : ℕ) (net : NetModel) → slice_get nets k ≡ Some net → IsPlacedOn nets k net
stands_at nets k net there = record { within = slice_get_within nets k net there; is = get_or_from_slice_get nets k net net there }

-- the same among entries that stand before others, and behind them
pub stands_left : (nets others : List NetModel) (k : ℕ) (net : NetModel) → IsPlacedOn nets k net → IsPlacedOn (nets ++ others) k net
stands_left nets others k net stands =
    let within = stands.within in
    let long = length-append nets others in
    record { within = omega arith; is = get_or_append_left nets others net k within ∙ stands.is }

pub stands_right : (others nets : List NetModel) (k : ℕ) (net : NetModel) → IsPlacedOn nets k net → IsPlacedOn (others ++ nets) (length others + k) net
stands_right others nets k net stands =
    let within = stands.within in
    let long = length-append others nets in
    record { within = omega arith; is = get_or-append-add others nets k net ∙ stands.is }

pub set_left : (nets others : List NetModel) (k : ℕ) (net : NetModel) → k < length nets → set nets k net ++ others ≡ set (nets ++ others) k net
set_left nets others k net within = sym (set-append_left nets others k net within)

pub set_right : (others nets : List NetModel) (k : ℕ) (net : NetModel) → others ++ set nets k net ≡ set (others ++ nets) (length others + k) net
set_right others nets k net =
    let same : (length others + k) - length others ≡ k = omega arith in
    ap (λ (j : ℕ). others ++ set nets j net) (sym same) ∙ sym (set-append_right others nets (length others) (length others + k) net refl (omega arith))

module _ (t : Terminal) where
  pub names_kept : (nets : List NetModel) (k : ℕ) (net : NetModel) → get_or nets k net ≡ net → net_names (set nets k (more t net)) ≡ net_names nets
  names_kept [] k net is = refl
  names_kept (first ∷ nets) zero net is = ap (λ (n : NetModel). n.name ∷ net_names nets) (sym is)
  names_kept (first ∷ nets) (suc k) net is = ap (λ names. first.name ∷ names) (names_kept nets k net is)

  pub wires_kept : (nets : List NetModel) (k : ℕ) (net : NetModel) → get_or nets k net ≡ net → wire_count (set nets k (more t net)) ≡ wire_count nets
  wires_kept [] k net is = refl
  wires_kept (first ∷ nets) zero net is = ap (λ (n : NetModel). length n.wires + wire_count nets) (sym is)
  wires_kept (first ∷ nets) (suc k) net is = ap (λ n. length first.wires + n) (wires_kept nets k net is)

  module _ (nets : List NetModel) (k : ℕ) (net : NetModel) (stands : IsPlacedOn nets k net) where
    all : List NetModel
    all = set nets k (more t net)

    new_there : Contains all (more t net)
    unfolding all
    new_there =
        let within = stands.within in
        let long = length-set nets k (more t net) in
        (k, omega arith, get_or-set_same nets k (more t net) (more t net) within)

    net_there : Contains nets net
    net_there = (k, stands.within, stands.is)

    -- an entry is the one with the terminal, or stood there before
    old_or_more : (a : NetModel) → Contains all a → Contains nets a ⊎ (more t net ≡ a)
    unfolding all
    old_or_more a there =
        let within = stands.within in
        let less = there.1 in
        let long = length-set nets k (more t net) in
        ⊎_elim
        (λ same. inr (sym (get_or-set_same nets k (more t net) a within) ∙ ap (λ (j : ℕ). get_or (set nets k (more t net)) j a) (sym same) ∙ there.2))
        (λ other. inl (there.0, omega arith, sym (get_or-set_other nets k there.0 (more t net) a other) ∙ there.2))
        (cases_eq there.0 k)

    -- an entry that stood there before is still there, or is the one that lists the terminal now
    still_there : (a : NetModel) → Contains nets a → Contains all a ⊎ (a ≡ net)
    unfolding all
    still_there a there =
        let less = there.1 in
        let long = length-set nets k (more t net) in
        ⊎_elim
        (λ same. inr (sym there.2 ∙ ap (λ (j : ℕ). get_or nets j a) same ∙ get_or_default nets k a net stands.within ∙ stands.is))
        (λ other. inl (there.0, omega arith, get_or-set_other nets k there.0 (more t net) a other ∙ there.2))
        (cases_eq there.0 k)

    -- what was listed is still listed
    pub lists_kept : (u : Terminal) → Lists nets u → Lists (set nets k (more t net)) u
    unfolding all
    lists_kept u before =
        ⊎_elim
        (λ here. record { net = before.net; there = here; lists = before.lists })
        (λ same. record {
          net = more t net;
          there = new_there;
          lists = Contains-append_left net.terminals (t ∷ []) u (subst (λ (n : NetModel). Contains n.terminals u) same before.lists);
        })
        (still_there before.net before.there)

    -- and the new terminal is listed
    pub lists_new : Lists (set nets k (more t net)) t
    unfolding all
    lists_new = record { net = more t net; there = new_there; lists = Contains-push net.terminals t }

    -- Where no entry listed the new terminal, terminals are still in one net each.
    pub still_one_net : AreInOneNet nets → ((a : NetModel) → Contains nets a → Contains a.terminals t → ⊥) → AreInOneNet (set nets k (more t net))
    unfolding all
    still_one_net before none a b u in_a in_b lists_a lists_b =
        ⊎_elim
        (λ old_a. ⊎_elim (λ old_b. before a b u old_a old_b lists_a lists_b) (λ new_b. named a b new_b old_a lists_a lists_b) (old_or_more b in_b))
        (λ new_a. ⊎_elim (λ old_b. sym (named b a new_a old_b lists_b lists_a)) (λ new_b. ap (λ (n : NetModel). n.name) (sym new_a ∙ new_b))
        (old_or_more b in_b))
        (old_or_more a in_a) where
          named : (old is : NetModel) → more t net ≡ is → Contains nets old → Contains old.terminals u → Contains is.terminals u → old.name ≡ is.name
          named old is same there lists lists_too =
              let listed : Contains (net.terminals ++ t ∷ []) u = subst (λ (n : NetModel). Contains n.terminals u) (sym same) lists_too in
              let named_so : old.name ≡ net.name = ⊎_elim
              (λ earlier. before old net u there net_there lists earlier)
              (λ new. absurd (none old there (subst (λ (v : Terminal). Contains old.terminals v) (sym new) lists)))
              (Contains-push_cases net.terminals t u listed) in
              named_so ∙ ap (λ (n : NetModel). n.name) same
