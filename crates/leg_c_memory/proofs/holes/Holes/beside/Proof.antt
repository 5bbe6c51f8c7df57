-- `beside` makes a list that points nowhere. Assumes `Logic`.
use Rattle.leg_c_memory.proofs.Steps.{◌≡◌, ℕ, List, [], ◌∷◌, ◌++◌, refl, lit<, Fn, Val, vptr, SProp, emp, ftrue, WpFn, fact, fact_i, tables, ‵, raw, ◌⊛◌, prop, ◌$◌, ◌∵◌, !, qed, by, move, drop, use0, split, regoal, fjoin, agg, lit, of_opd, no_more, and_then, returns, enter, alloc_all, pass_all, free_all, look_at, get, sets, owns, null_ptr, block_of, types_at, nothing, alive, Stays, stay_dropped, walk_of, Goes-dropped, proved_at, leaves, slot_at}
use Rattle.leg_c_memory.proofs.Values.{list_val, list_own, list_made}
use Rattle.leg_c_memory.specs.Sizes.{Span}
use Rattle.leg_c_memory.specs.contracts.holes.Holes as list
use Rattle.leg_c_memory.specs.contracts.holes.Holes.beside.{ended, clauses}
use Rattle.leg_c_memory.specs.contracts.holes.Holes.beside.Key.{name}
use Rattle.leg_c_memory.proofs.holes.Holes.beside.Statement.{statement}
use Rattle.leg_c_memory.proofs.holes.Holes.beside.Code as compiled

abbrev no_spans : List Span
no_spans = []

pub beside_spec : {M : Type 1} → statement M
beside_spec 𝓤 𝓛 𝓜 𝓡 wired =
    let fn : Fn = compiled.function in
    let stays : Stays ended.signature.params ended.kept = (stay_dropped (slot_at 0 ended.signature.params) ended.kept.0, tt) in
    let c = clauses 𝓛 𝓜.mem 𝓡.returns in
    let C = (tables 𝓤 𝓛.H 𝓜 𝓡 𝓡.env).C in
    let Λ = (tables 𝓤 𝓛.H 𝓜 𝓡 𝓡.env).Λ in
    proved_at 𝓛 ended stays c 𝓜 𝓡 (Goes-dropped 𝓛 1 (slot_at 0 ended.signature.params) ended.kept.0 (λ κs x f. refl), tt) name fn
    (compiled.unfolded 𝓤 𝓛.H 𝓜 𝓡 wired) (λ z are.
    let Post : Val → SProp 𝓤 = (walk_of 𝓛 ended stays c).post z in
    let a = z.0.3 in
    let vss = z.0.4 in
    let b : ℕ = block_of a.0.now.ptr in
    qed 𝓛 ((raw (alive 𝓛 ended.signature z.0.0 z.0.1) ⊛ ‵ (owns (types_at ended.signature.params z.0.0) a vss)) ∷ ‵ ftrue ∷ []) ∵ move ! (1 ∷ []) $ drop ! $
    split ! $ move ! (1 ∷ []) $ drop ! $
    regoal ! (λ (us : List Val). prop (WpFn 𝓤 𝓛.H C Λ fn us Post)) (λ i. are.0.0 i ++ []) refl $
    enter ! C Λ fn (vptr a.0.ref_ptr.0 a.0.ref_ptr.1 ∷ []) Post $
    alloc_all ! (λ l. pass_all ! refl ((tt, tt), tt) $
    sets ! (of_opd ! (get ! refl)) refl (tt, tt) $
    sets ! (agg ! (and_then ! (lit ! tt) (no_more !))) refl (tt, (record { fits = lit< tt }, tt)) $
    returns ! (look_at ! 0 refl) $ free_all ! refl $
    let y : (list.the_row).Denot = record { first = null_ptr; object = b; spans = []; begins = refl } in
    nothing ! $ use0 𝓛 (‵ (list_own null_ptr (list_val null_ptr ∷ []))) (list_made 𝓛 null_ptr) $ fjoin ! $
    use0 𝓛 (raw (fact 𝓤 ((b ≡ b) × (no_spans ≡ no_spans)))) (fact_i 𝓤 ((b ≡ b) × (no_spans ≡ no_spans)) (emp 𝓤) (refl, refl)) $
    nothing ! $ nothing ! $ fjoin ! $ move ! (3 ∷ 0 ∷ 2 ∷ 1 ∷ []) $
    by ! (leaves 𝓛 ended stays c z (list_val null_ptr) y (tt, tt) (tt, tt))))
