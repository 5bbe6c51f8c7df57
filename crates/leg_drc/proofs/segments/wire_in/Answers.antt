-- The wires of the entry of NETS count first.
use Rattle.std.proofs.Common.{◌≡◌, ◌≤◌, ◌-◌, length, slice_get, option_map, ap, ◌∙◌}
use Rattle.leg_lemmas.proofs.Places.{got_is}
use Rattle.leg_rules.specs.Metal.Nets.{entry_wires, regular_entry, special_entry}
use Rattle.leg_drc.proofs.WiresOfNets.{wire_of_regular, wire_of_special, special_there}
use Rattle.leg_drc.proofs.segments.wire_in.Goals as goal

pub returns-then-number-regular : goal.returns-then-number-regular
returns-then-number-regular g c =
    let design = c.args.design.now in
    let n = c.args.net in
    let number = c.args.number in
    let nets = c.nets.result.now in
    let first = c.entry_wires-regular.result.now in
    let entry : option_map (λ net. net.now) c.get.result ≡ slice_get nets n = got_is nets n c.get.result c.get.ensures.lookup.0 c.get.ensures.lookup.1 in
    let regular : first ≡ entry_wires (regular_entry design n) =
    c.entry_wires-regular.ensures ∙ ap entry_wires entry ∙ ap (λ l. entry_wires (slice_get l n)) c.nets.ensures.is in
    let got : option_map (λ wire. wire.now) c.get-then-number-regular.result ≡ slice_get first number =
    got_is first number c.get-then-number-regular.result c.get-then-number-regular.ensures.lookup.0 c.get-then-number-regular.ensures.lookup.1 in
    got ∙ ap (λ l. slice_get l number) regular ∙ wire_of_regular design n number (rw (← regular) c.if-number-regular.true)

pub special_entry-requires : goal.special_entry-requires
special_entry-requires g c =
    let design = c.args.design.now in
    let n = c.args.net in
    let number = c.args.number in
    let nets = c.nets.result.now in
    let first = c.entry_wires-regular.result.now in
    let entry : option_map (λ net. net.now) c.get.result ≡ slice_get nets n = got_is nets n c.get.result c.get.ensures.lookup.0 c.get.ensures.lookup.1 in
    let regular : first ≡ entry_wires (regular_entry design n) =
    c.entry_wires-regular.ensures ∙ ap entry_wires entry ∙ ap (λ l. entry_wires (slice_get l n)) c.nets.ensures.is in
    special_there design n number (rw (← regular) c.if-number-regular.false) c.requires

pub returns : goal.returns
returns g c =
    let design = c.args.design.now in
    let n = c.args.net in
    let number = c.args.number in
    let nets = c.nets.result.now in
    let first = c.entry_wires-regular.result.now in
    let second = c.entry_wires.result.now in
    let entry : option_map (λ net. net.now) c.get.result ≡ slice_get nets n = got_is nets n c.get.result c.get.ensures.lookup.0 c.get.ensures.lookup.1 in
    let regular : first ≡ entry_wires (regular_entry design n) =
    c.entry_wires-regular.ensures ∙ ap entry_wires entry ∙ ap (λ l. entry_wires (slice_get l n)) c.nets.ensures.is in
    let special : second ≡ entry_wires (special_entry design n) = c.entry_wires.ensures ∙ ap entry_wires c.special_entry.ensures in
    let got : option_map (λ wire. wire.now) c.get-2.result ≡ slice_get second (number - length first) =
    got_is second (number - length first) c.get-2.result c.get-2.ensures.lookup.0 c.get-2.ensures.lookup.1 in
    let past : length (entry_wires (regular_entry design n)) ≤ number = rw (← regular) c.if-number-regular.false in
    got ∙ ap (λ l. slice_get l (number - length first)) special ∙ ap (λ l. slice_get (entry_wires (special_entry design n)) (number - length l)) regular
    ∙ wire_of_special design n number past
