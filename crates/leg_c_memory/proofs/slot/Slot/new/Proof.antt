-- `new` puts the parts into the cell. Assumes `Logic`.
use Rattle.leg_c_memory.proofs.Steps.{◌≡◌, ℕ, List, [], ◌∷◌, ◌++◌, refl, lit<, Some, Fn, Val, vcons, vnil, SProp, emp, ftrue, WpFn, fact, fact_i, tables, ‵, raw, ◌⊛◌, prop, ◌$◌, ◌∵◌, !, qed, by, move, drop, use0, use1, split, rewrite, regoal, fsplit, fjoin, fpack, agg, live, lit, no_more, and_then, returns, enter, alloc_all, pass_all, free_all, look_at, get, sets, owns, layout, types_at, nothing, alive, Stays, stay_dropped, walk_of, Goes-blank, and_tt, proved_at, leaves, slot_at}
use denote.Exit.{rest, yes}
use denote.Laws.{Typed}
use Rattle.core.proofs.cell.Inside.{one, round}
use Rattle.core.proofs.option.Made.{Some-of}
use Rattle.leg_c_memory.specs.Parts.{parts_object}
use Rattle.leg_c_memory.proofs.Cell.{Held, Fields, contents_in}
use Rattle.leg_c_memory.specs.contracts.free.FreeParts as parts
use Rattle.leg_c_memory.proofs.free.FreeParts.TheLaws as parts_laws
use Rattle.leg_c_memory.specs.contracts.slot.Slot.new.{ended, clauses}
use Rattle.leg_c_memory.specs.contracts.slot.Slot.new.Key.{name}
use Rattle.leg_c_memory.proofs.slot.Slot.new.Statement.{statement}
use Rattle.leg_c_memory.proofs.slot.Slot.new.Code as compiled

pub new_spec : {M : Type 1} → statement M
new_spec 𝓤 𝓛 𝓜 𝓡 wired =
    let fn : Fn = compiled.function in
    let stays : Stays ended.signature.params ended.kept = (stay_dropped (slot_at 0 ended.signature.params) ended.kept.0, tt) in
    let c = clauses 𝓛 𝓜.mem 𝓡.returns in
    let C = (tables 𝓤 𝓛.H 𝓜 𝓡 𝓡.env).C in
    let Λ = (tables 𝓤 𝓛.H 𝓜 𝓡 𝓡.env).Λ in
    proved_at 𝓛 ended stays c 𝓜 𝓡 (Goes-blank 𝓛 0 (slot_at 0 ended.signature.params) ended.kept.0 (λ κs x f. tt), tt) name fn
    (compiled.unfolded 𝓤 𝓛.H 𝓜 𝓡 wired) (λ z are.
    let Post : Val → SProp 𝓤 = (walk_of 𝓛 ended stays c).post z in
    let a = z.0.3 in
    let vss = z.0.4 in
    let x = a.0 in
    let r : ℕ = parts_object x in
    let got = one (layout parts.the_row) vss.0 (((parts_laws.the_row_laws).lawful 𝓛).typed x vss.0 are.0) in
    let w : Val = got.0 in
    let good = got.2 in
    let v : Val = live 1 (vcons w vnil) in
    qed 𝓛 ((raw (alive 𝓛 ended.signature z.0.0 z.0.1) ⊛ ‵ (owns (types_at ended.signature.params z.0.0) a vss)) ∷ ‵ ftrue ∷ []) ∵ move ! (1 ∷ []) $ drop ! $
    split ! $ move ! (1 ∷ []) $
    fsplit ! $ move ! (1 ∷ []) $ drop ! $ rewrite ! 0 (λ (us : List Val). ‵ ((parts.the_row).own_val x us)) got.1 refl $
    regoal ! (λ (us : List Val). prop (WpFn 𝓤 𝓛.H C Λ fn us Post)) (λ i. got.1 i ++ []) refl $
    enter ! C Λ fn (w ∷ []) Post $
    alloc_all ! (λ l. pass_all ! refl (good, tt) $
    sets ! (agg ! (and_then ! (lit ! tt) (and_then ! (get ! refl) (no_more !)))) refl (and_tt _ (good.0), (record { fits = lit< tt }, (good.1, tt))) $
    sets ! (agg ! (and_then ! (get ! refl) (no_more !))) refl (and_tt _ (and_tt _ (good.0)), ((record { fits = lit< tt }, (good.1, tt)), tt)) $
    returns ! (look_at ! 0 refl) $ free_all ! refl $
    use1 𝓛 (‵ (Held.own_val (Some x) (v ∷ []))) (Some-of 𝓛 parts.the_row x w) $ contents_in r ! (Some x) v refl $ nothing ! $
    fpack ! (Typed Fields.mir (round v ∷ [])) (λ _. ftrue) ((and_tt _ (and_tt _ (good.0)), ((record { fits = lit< tt }, (good.1, tt)), tt)), tt) $ fjoin ! $
    use0 𝓛 (raw (fact 𝓤 (r ≡ r))) (fact_i 𝓤 (r ≡ r) (emp 𝓤) refl) $ nothing ! $ nothing ! $ fjoin ! $ move ! (3 ∷ 0 ∷ 2 ∷ 1 ∷ []) $
    by ! (leaves 𝓛 ended stays c z (round v) r (rest ((parts.the_row).exit yes) x, tt) (tt, tt))))
