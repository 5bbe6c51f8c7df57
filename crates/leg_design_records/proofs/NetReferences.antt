-- Nets that are well-formed in a design are so in another one that has what they name.
use Rattle.std.proofs.Common.{◌≡◌, ℕ, ◌<◌, Bool, List, length, map, Option, None, Some, Contains, get_or, sym, ap, subst, ◌∙◌, arith}
use Rattle.std.proofs.lemmas.List.{length-map, get_or-map, get_or_default}
use Rattle.std.proofs.lemmas.List.Elements.{All-weaker}
use Rattle.leg_lex.specs.NameLookup.{place_of}
use Rattle.leg_design_records.specs.declared.records.Terminal.{Terminal}
use Rattle.leg_design_records.specs.declared.records.Terminal.TheVariants.{Pin}
use Rattle.leg_design_records.specs.declared.records.Wire.{Wire}
use Rattle.leg_design_records.specs.Records.{DesignModel, NetModel, net_names}
use Rattle.leg_design_records.specs.WellFormedNets.{IsTerminal, IsWire, IsNet, AreInOneNet, IsInSomeNet}

-- what a net of the one design names, the other has too
pub record Keeps (design change : DesignModel) : Type 0 where
  pub terminals : (terminal : Terminal) → IsTerminal design terminal → IsTerminal change terminal
  pub wires : (special : Bool) (wire : Wire) → IsWire design.library design.vias special wire → IsWire change.library change.vias special wire

pub net_kept : (design change : DesignModel) → Keeps design change → (special : Bool) (net : NetModel) → IsNet design special net → IsNet change special net
net_kept design change keeps special net proper = record {
  name = proper.name;
  no_must_join = proper.no_must_join;
  usage = proper.usage;
  terminals = All-weaker (IsTerminal design) (IsTerminal change) keeps.terminals net.terminals proper.terminals;
  once = proper.once;
  wires = All-weaker (IsWire design.library design.vias special) (IsWire change.library change.vias special) (keeps.wires special) net.wires proper.wires;
}

-- the lists are alike but for uses and wires
pub record AreAlike (xs ys : List NetModel) : Type 0 where
  pub names : net_names xs ≡ net_names ys
  pub terminals : map (λ n. n.terminals) xs ≡ map (λ n. n.terminals) ys

pub alike_back : (xs ys : List NetModel) → AreAlike xs ys → AreAlike ys xs
alike_back xs ys alike = record { names = sym alike.names; terminals = sym alike.terminals }

-- a net of the one list has its like in the other
pub record HasLike (ys : List NetModel) (net : NetModel) : Type 0 where
  pub like : NetModel
  pub there : Contains ys like
  pub name : like.name ≡ net.name
  pub terminals : like.terminals ≡ net.terminals

pub found_again : (xs ys : List NetModel) → AreAlike xs ys → (net : NetModel) → Contains xs net → HasLike ys net
found_again xs ys alike net there =
    let name = λ (n : NetModel). n.name in
    let terminals = λ (n : NetModel). n.terminals in
    let k = there.0 in
    let long : length xs ≡ length ys = sym (length-map xs name) ∙ ap length alike.names ∙ length-map ys name in
    let within : k < length ys = omega arith in
    record {
      like = get_or ys k net;
      there = (k, within, get_or_default ys k (get_or ys k net) net within);
      name = sym (get_or-map name ys k net net.name within) ∙ sym (ap (λ names. get_or names k net.name) alike.names)
          ∙ get_or-map name xs k net net.name there.1 ∙ ap name there.2;
      terminals = sym (get_or-map terminals ys k net net.terminals within) ∙ sym (ap (λ lists. get_or lists k net.terminals) alike.terminals)
          ∙ get_or-map terminals xs k net net.terminals there.1 ∙ ap terminals there.2;
    }

pub one_net_kept : (xs ys : List NetModel) → AreAlike xs ys → AreInOneNet xs → AreInOneNet ys
one_net_kept xs ys alike one a b terminal a_there b_there in_a in_b =
    let x = found_again ys xs (alike_back xs ys alike) a a_there in
    let y = found_again ys xs (alike_back xs ys alike) b b_there in
    let in_x = subst (λ ts. Contains ts terminal) (sym x.terminals) in_a in
    let in_y = subst (λ ts. Contains ts terminal) (sym y.terminals) in_b in
    sym x.name ∙ one x.like y.like terminal x.there y.there in_x in_y ∙ y.name

pub in_some_net_kept : (xs ys : List NetModel) → AreAlike xs ys → (p : ℕ) (name : Option (List ℕ)) → IsInSomeNet xs p name → IsInSomeNet ys p name
in_some_net_kept xs ys alike p None proper = tt
in_some_net_kept xs ys alike p (Some name) proper = λ known.
    let before = proper (λ unknown. known (ap (place_of name) (sym alike.names) ∙ unknown)) in
    let y = found_again xs ys alike before.0 before.1 in
    (y.like, y.there, subst (λ ts. Contains ts (Pin p)) (sym y.terminals) before.2)
