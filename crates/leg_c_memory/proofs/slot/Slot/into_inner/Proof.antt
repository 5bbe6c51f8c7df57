-- `into_inner` takes out what the cell has. Assumes `Logic`.
use Rattle.leg_c_memory.proofs.Steps.{List, [], ◌∷◌, ◌++◌, refl, Fn, Val, SProp, ftrue, WpFn, tables, ‵, raw, ◌⊛◌, prop, ◌$◌, ◌∵◌, !, qed, by, move, drop, split, regoal, fsplit, fjoin, whole, sub, stop, fld, of_opd, returns, enter, alloc_all, pass_all, free_all, look_at, get, get_in, sets, owns, types_at, nothing, alive, Stays, stay_dropped, walk_of, Goes-blank, and_tt, proved_at, leaves, slot_at}
use Rattle.core.proofs.cell.Inside.{round}
use Rattle.leg_c_memory.proofs.Cell.{contents_out}
use Rattle.leg_c_memory.specs.contracts.slot.Slot.into_inner.{ended, clauses}
use Rattle.leg_c_memory.specs.contracts.slot.Slot.into_inner.Key.{name}
use Rattle.leg_c_memory.proofs.slot.Slot.into_inner.Statement.{statement}
use Rattle.leg_c_memory.proofs.slot.Slot.into_inner.Code as compiled

pub into_inner_spec : {M : Type 1} → statement M
into_inner_spec 𝓤 𝓛 𝓜 𝓡 wired =
    let fn : Fn = compiled.function in
    let stays : Stays ended.signature.params ended.kept = (stay_dropped (slot_at 0 ended.signature.params) ended.kept.0, tt) in
    let c = clauses 𝓛 𝓜.mem 𝓡.returns in
    let C = (tables 𝓤 𝓛.H 𝓜 𝓡 𝓡.env).C in
    let Λ = (tables 𝓤 𝓛.H 𝓜 𝓡 𝓡.env).Λ in
    proved_at 𝓛 ended stays c 𝓜 𝓡 (Goes-blank 𝓛 0 (slot_at 0 ended.signature.params) ended.kept.0 (λ κs x f. tt), tt) name fn
    (compiled.unfolded 𝓤 𝓛.H 𝓜 𝓡 wired) (λ z are.
    let Post : Val → SProp 𝓤 = (walk_of 𝓛 ended stays c).post z in
    let a = z.0.3 in
    let vss = z.0.4 in
    qed 𝓛 ((raw (alive 𝓛 ended.signature z.0.0 z.0.1) ⊛ ‵ (owns (types_at ended.signature.params z.0.0) a vss)) ∷ ‵ ftrue ∷ []) ∵ move ! (1 ∷ []) $ drop ! $
    split ! $ move ! (1 ∷ []) $
    fsplit ! $ move ! (1 ∷ []) $ drop ! $ fsplit ! $ drop ! $ contents_out a.0 ! vss.0 (λ x v over typed told.
    regoal ! (λ (us : List Val). prop (WpFn 𝓤 𝓛.H C Λ fn us Post)) (λ i. told i ++ []) refl $
    enter ! C Λ fn (round v ∷ []) Post $
    alloc_all ! (λ l. pass_all ! refl ((and_tt _ (typed.0), (typed.1, tt)), tt) $
    sets ! (of_opd ! (get_in ! (fld ! refl (stop !)) (sub ! 0 refl (whole !)))) refl typed $
    sets ! (of_opd ! (get ! refl)) refl typed $
    returns ! (look_at ! 0 refl) $ free_all ! refl $
    nothing ! $ nothing ! $ nothing ! $ fjoin ! $ move ! (3 ∷ 0 ∷ 2 ∷ 1 ∷ []) $
    by ! (leaves 𝓛 ended stays c z v x (tt, tt) (tt, tt)))))
