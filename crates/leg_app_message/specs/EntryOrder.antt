-- What is said of two DEFs between which nothing differs but the order of entries.
use Rattle.std.specs.Prelude.{ℕ, Bool, true, false, ◌||◌, if◌then◌else◌, List, [], ◌++◌, codes}

-- which entries stand in another order, those of COMPONENTS and those of NETS, and what hangs on it
abbrev pub order_text : Bool → Bool → List ℕ
order_text true true = codes "the entries of COMPONENTS and of NETS stand in another order: legalise and flow break ties by the one, route and flow take nets in the other, and finish breaks ties by it, so they may answer otherwise"
order_text true false = codes "the entries of COMPONENTS stand in another order, by which legalise and flow break ties: they may answer otherwise"
order_text false true = codes "the entries of NETS stand in another order, in which route and flow take nets and by which finish breaks ties: they may answer otherwise"
order_text false false = []

-- the message, with the paths of the DEFs as they were given; none where no entries stand in another order
abbrev pub order_message : List ℕ → List ℕ → Bool → Bool → List ℕ
order_message before after components nets =
    if components || nets then after ++ codes ": the same as " ++ before ++ codes ", but " ++ order_text components nets ++ codes "\n" else []
