-- `replace` opens the cell with the thread's token, reads it, writes it and closes it. Assumes `Logic`.
use Rattle.leg_c_memory.proofs.Steps.{ℕ, List, [], ◌∷◌, ◌++◌, refl, Fn, Val, vptr, SProp, emp, ftrue, Lft, Share, flft, ftok, Env, WpFn, fact, fact_i, ‵, raw, ◌⊛◌, prop, at_ret, ◌$◌, ◌∵◌, !, qed, by, move, keep, use0, split, join, rewrite, regoal, fsplit, fsplit3, fjoin, whole, sub, look_in, store_in, stop, fld, load, of_opd, assigns, first, blocks, exec, returns, enter, alloc_all, pass_all, free_all, look_at, get, through, sets, sets_last, env, owns, layout, types_at, nothing, heard, Stays, stay_dropped, walk_of, Goes-blank, Goes-dropped, after, leaves, slot_at}
use base.Mask.{every}
use types.Run.{addr}
use denote.Exit.{rest, yes}
use Rattle.core.proofs.cell.Inside.{one}
use Rattle.leg_c_memory.specs.Parts.{IsOf}
use Rattle.leg_c_memory.proofs.Cell.{gone, Held, held_Lawful, opens_slot, shuts_slot, with_token, proved_with_token}
use Rattle.leg_c_memory.specs.contracts.slot.Slot.replace.{ended, clauses}
use Rattle.leg_c_memory.specs.contracts.slot.Slot.replace.Key.{name}
use Rattle.leg_c_memory.proofs.slot.Slot.replace.Statement.{statement}
use Rattle.leg_c_memory.proofs.slot.Slot.replace.Code as compiled
use Rattle.leg_c_memory.proofs.slot.Slot.replace.Code.{code}

pub replace_spec : {M : Type 1} → statement M
unfolding code
replace_spec 𝓤 𝓛 𝓜 𝓡 wired =
    let fn : Fn = compiled.function in
    let stays : Stays ended.signature.params ended.kept =
    (stay_dropped (slot_at 0 ended.signature.params) ended.kept.0, (stay_dropped (slot_at 1 ended.signature.params) ended.kept.1.0, tt)) in
    let c₀ = clauses 𝓛 𝓜.mem 𝓡.returns in
    let c = with_token 𝓛 ended stays c₀ in
    proved_with_token 𝓛 ended stays c₀ 𝓜 𝓡 (
      Goes-dropped 𝓛 1 (slot_at 0 ended.signature.params) ended.kept.0 (λ κs x f. refl),
      (Goes-blank 𝓛 1 (slot_at 1 ended.signature.params) ended.kept.1.0 (λ κs. gone), tt),
    ) name fn (wired.0.0 name refl) (λ C Λ z are.
    let Post : Val → SProp 𝓤 = (walk_of 𝓛 ended stays c).post z in
    let a = z.0.3 in
    let vss = z.0.4 in
    let κ : Lft = z.0.0.0 in
    let q : Share = z.0.1.0 in
    let b = a.0.ref_ptr.0 in
    let o = a.0.ref_ptr.1 in
    let r : ℕ = a.0.now in
    let new = a.1.0 in
    let got = one (layout Held) vss.1.0 ((held_Lawful 𝓛).typed new vss.1.0 are.1.0) in
    let w : Val = got.0 in
    let good = got.2 in
    qed 𝓛 (((‵ (flft κ q) ⊛ ‵ ftrue) ⊛ ‵ (owns (types_at ended.signature.params z.0.0) a vss)) ∷ (‵ (ftok every) ⊛ raw (fact 𝓤 (IsOf r new))) ∷ []) ∵
    move ! (1 ∷ []) $ split ! $ move ! (1 ∷ []) $
    heard ! (IsOf r new) (λ asked. move ! (1 ∷ []) $ split ! $ split ! $ move ! (2 ∷ []) $ fsplit3 ! $ fsplit ! $
    rewrite ! 2 (λ (us : List Val). ‵ (Held.own_val new us)) got.1 refl $ keep ! (1 ∷ 4 ∷ 6 ∷ 2 ∷ []) $
    regoal ! (λ (us : List Val). prop (WpFn 𝓤 𝓛.H C Λ fn us Post)) (λ i. are.0.0 i ++ (got.1 i ++ [])) refl $
    enter ! C Λ fn (vptr b o ∷ w ∷ []) Post $
    alloc_all ! (λ l. pass_all ! refl ((tt, tt), (good, tt)) $ let En : Env 𝓤 𝓛.H = env fn.locals l in
    opens_slot r b o ! tt (λ x v of_r typed.
    sets ! (addr ! (through ! refl (fld ! refl (stop !)))) refl (tt, tt) $
    first ! $ blocks ! $
    sets ! (of_opd ! (load ! (through ! refl (stop !)) (look_in ! 0 (sub ! 0 refl (whole !))))) refl typed $
    assigns ! (of_opd ! (get ! refl)) (through ! refl (stop !)) (store_in ! 0 (sub ! 0 refl (whole !)) good) $
    sets_last ! (of_opd ! (get ! refl)) refl typed $
    exec ! C Λ En (after 2 fn.body) (at_ret En Post) $
    sets ! (of_opd ! (get ! refl)) refl typed $
    move ! (0 ∷ 3 ∷ 2 ∷ []) $ shuts_slot r b o ! tt new w asked $
    returns ! (look_at ! 0 refl) $ free_all ! refl $
    use0 𝓛 (raw (fact 𝓤 (IsOf r x))) (fact_i 𝓤 (IsOf r x) (emp 𝓤) of_r) $ move ! (2 ∷ 0 ∷ []) $ join ! $ nothing ! $ nothing ! $ fjoin ! $ nothing ! $ fjoin ! $
    nothing ! $ move ! (3 ∷ 0 ∷ []) $ join ! $ move ! (0 ∷ 1 ∷ 3 ∷ []) $
    by ! (leaves 𝓛 ended stays c z v x (tt, (rest (Held.exit yes) new, tt)) (tt, (tt, tt)))))))
