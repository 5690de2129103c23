-- The entries of one origin: each names the one before it, and versions rise.
use Rattle.std.proofs.Common.{◌≡◌, ℕ, ◌<◌, true, false, cond, List, [], ◌∷◌, ◌++◌, map, length, refl, sym, ◌∙◌, ap, subst, arith, true≢false, append-nil, append_assoc}
use Rattle.std.specs.Prelude.{Some, zero, suc, filter, slice_get, ◌==◌}
use Rattle.std.proofs.lemmas.List.Elements.{filter-append}
use Rattle.cops_types.specs.declared.records.EntryParts.{EntryParts as Entry}
use Rattle.cops_types.specs.declared.records.Record.{Record}
use Rattle.cops_types.specs.Records.{mark, ever}
use Rattle.cops_types.specs.Version.{Timestamp, no_version, version_lt, version_le, version_max, greatest}
use Rattle.cops_types.proofs.VersionOrder.{version_le-trans, version_lt-trans, version_lt-irrefl, version_lt-le, version_max-left, version_max-right, version_max-absorbs, version_max-comm, version_max-no_version, version_lt-le_trans}
use Rattle.cops_model.specs.SoloNode.{SoloNode}
use Rattle.cops_node.proofs.NodeTurns.{entries}

abbrev pub of_origin : ℕ → List Entry → List Entry
of_origin node es = filter (λ e. e.version.node == node) es

-- each entry names the version before it, and is above it
abbrev pub IsChain : Timestamp → List Entry → Type 0
IsChain last [] = Unit {0}
IsChain last (e ∷ es) = (e.prev ≡ last) × (version_lt last e.version ≡ true) × IsChain e.version es

abbrev pub last_version : Timestamp → List Entry → Timestamp
last_version last [] = last
last_version last (e ∷ es) = last_version e.version es

pub chain-push : (last : Timestamp) (es : List Entry) (e : Entry) → IsChain last es → e.prev ≡ last_version last es → version_lt (last_version last es) e.version ≡ true → IsChain last (es ++ e ∷ [])
chain-push last [] e chain follows above = (follows, above, tt)
chain-push last (f ∷ es) e chain follows above = (chain.0, chain.1, chain-push f.version es e chain.2 follows above)

pub chain-at : (last : Timestamp) (es later : List Entry) (e : Entry) → IsChain last (es ++ e ∷ later) → (e.prev ≡ last_version last es) × (version_lt (last_version last es) e.version ≡ true)
chain-at last [] later e chain = (chain.0, chain.1)
chain-at last (f ∷ es) later e chain = chain-at f.version es later e chain.2

pub chain-left : (last : Timestamp) (es more : List Entry) → IsChain last (es ++ more) → IsChain last es
chain-left last [] more chain = tt
chain-left last (f ∷ es) more chain = (chain.0, chain.1, chain-left f.version es more chain.2)

max_above : (v w : Timestamp) → version_lt v w ≡ true → version_max v w ≡ w
max_above v w above = version_max-comm v w ∙ version_max-absorbs w v (version_lt-le v w above)

abbrev pub versions : List Entry → List Timestamp
versions es = map (λ e. e.version) es

chain-max : (last : Timestamp) (es : List Entry) → IsChain last es → version_max last (greatest (versions es)) ≡ last_version last es
chain-max last [] chain = version_max-comm last no_version ∙ version_max-no_version last
chain-max last (e ∷ es) chain =
    let top = version_max e.version (greatest (versions es)) in
    max_above last top (version_lt-le_trans last e.version top chain.1 (version_max-left e.version (greatest (versions es)))) ∙ chain-max e.version es chain.2

-- the greatest version of a chain is its last
pub chain-greatest : (es : List Entry) → IsChain no_version es → greatest (versions es) ≡ last_version no_version es
chain-greatest es chain = sym (version_max-no_version (greatest (versions es))) ∙ chain-max no_version es chain

pub chain-above : (last : Timestamp) (es : List Entry) (i : ℕ) (e : Entry) → IsChain last es → slice_get es i ≡ Some e → version_lt last e.version ≡ true
chain-above last [] i e chain at = cc
chain-above last (f ∷ es) zero e chain at = let same : f ≡ e = cc in subst (λ (g : Entry). version_lt last g.version ≡ true) same chain.1
chain-above last (f ∷ es) (suc i) e chain at = version_lt-trans last f.version e.version chain.1 (chain-above f.version es i e chain.2 at)

-- no version stands in two places
pub chain-distinct : (last : Timestamp) (es : List Entry) (i j : ℕ) (e f : Entry) → IsChain last es → slice_get es i ≡ Some e → slice_get es j ≡ Some f → e.version ≡ f.version → i ≡ j
chain-distinct last [] i j e f chain at other same = cc
chain-distinct last (g ∷ es) zero zero e f chain at other same = refl
chain-distinct last (g ∷ es) zero (suc j) e f chain at other same =
    let first : g ≡ e = cc in
    let above = chain-above g.version es j f chain.2 other in
    absurd (true≢false (sym above ∙ ap (version_lt g.version) (sym same ∙ ap (λ (x : Entry). x.version) (sym first)) ∙ version_lt-irrefl g.version))
chain-distinct last (g ∷ es) (suc i) zero e f chain at other same =
    let first : g ≡ f = cc in
    let above = chain-above g.version es i e chain.2 at in
    absurd (true≢false (sym above ∙ ap (version_lt g.version) (same ∙ ap (λ (x : Entry). x.version) (sym first)) ∙ version_lt-irrefl g.version))
chain-distinct last (g ∷ es) (suc i) (suc j) e f chain at other same = ap suc (chain-distinct g.version es i j e f chain.2 at other same)

-- ---- fronts of lists

pub record IsFront (front whole : List Entry) : Type 0 where
  pub rest : List Entry
  pub whole_is : whole ≡ front ++ rest

pub front-same : (es : List Entry) → IsFront es es
front-same es = record { rest = []; whole_is = sym (append-nil es) }

pub front-more : (front whole : List Entry) (e : Entry) → IsFront front whole → IsFront front (whole ++ e ∷ [])
front-more front whole e is = record { rest = is.rest ++ e ∷ []; whole_is = ap (λ es. es ++ e ∷ []) is.whole_is ∙ append_assoc front is.rest (e ∷ []) }

get-left : (front rest : List Entry) (i : ℕ) (e : Entry) → slice_get (front ++ rest) i ≡ Some e → i < length front → slice_get front i ≡ Some e
get-left [] rest i e at within = absurd (omega arith)
get-left (f ∷ front) rest zero e at within = at
get-left (f ∷ front) rest (suc i) e at within = get-left front rest i e at (omega arith)

-- an entry of the whole list at a place of the front
pub front-get : (front whole : List Entry) (i : ℕ) (e : Entry) → IsFront front whole → slice_get whole i ≡ Some e → i < length front → slice_get front i ≡ Some e
front-get front whole i e is at within = get-left front is.rest i e (subst (λ es. slice_get es i ≡ Some e) is.whole_is at) within

-- the entry of the whole list that comes next
get-next : (front rest : List Entry) (e : Entry) → slice_get (front ++ rest) (length front) ≡ Some e → (later : List Entry) × (rest ≡ e ∷ later)
get-next [] [] e at = cc
get-next [] (f ∷ rest) e at = let same : f ≡ e = cc in (rest, ap (λ g. g ∷ rest) same)
get-next (f ∷ front) rest e at = get-next front rest e at

pub front-next : (front whole : List Entry) (i : ℕ) (e : Entry) → IsFront front whole → slice_get whole i ≡ Some e → i ≡ length front → (later : List Entry) × (whole ≡ front ++ e ∷ later)
front-next front whole i e is at same =
    let next = get-next front is.rest e (subst (λ n. slice_get (front ++ is.rest) n ≡ Some e) same (subst (λ es. slice_get es i ≡ Some e) is.whole_is at)) in
    (next.0, is.whole_is ∙ ap (λ es. front ++ es) next.1)

pub front-extended : (front whole : List Entry) (e : Entry) (later : List Entry) → whole ≡ front ++ e ∷ later → IsFront (front ++ e ∷ []) whole
front-extended front whole e later is = record { rest = later; whole_is = is ∙ sym (append_assoc front (e ∷ []) later) }

-- ---- marks

versions-filter : (node : ℕ) (rs : List Record) → filter (λ v. v.node == node) (map (λ (r : Record). r.entry.version) rs) ≡ versions (of_origin node (map (λ (r : Record). r.entry) rs))
versions-filter node [] = refl
versions-filter node (r ∷ rs) =
    elim (r.entry.version.node == node) as (λ b. cond b (r.entry.version ∷ filter (λ v. v.node == node) (map (λ (r : Record). r.entry.version) rs)) (filter (λ v. v.node == node) (map (λ (r : Record). r.entry.version) rs))
    ≡ versions (cond b (r.entry ∷ of_origin node (map (λ (r : Record). r.entry) rs)) (of_origin node (map (λ (r : Record). r.entry) rs)))) [
      | true ↦ ap (λ vs. r.entry.version ∷ vs) (versions-filter node rs)
      | false ↦ versions-filter node rs
    ]

-- the mark of an origin is the greatest version of its entries
pub mark-is : (node : ℕ) (solo : SoloNode) → mark node solo.recs ≡ greatest (versions (of_origin node (entries solo)))
mark-is node solo = ap greatest (versions-filter node (ever solo.recs))

pub of_origin-push : (node : ℕ) (es : List Entry) (e : Entry) → of_origin node (es ++ e ∷ []) ≡ of_origin node es ++ cond (e.version.node == node) (e ∷ []) []
of_origin-push node es e = filter-append (λ (e : Entry). e.version.node == node) es (e ∷ [])

pub le-mark : (es : List Entry) (i : ℕ) (e : Entry) → slice_get es i ≡ Some e → version_le e.version (greatest (versions es)) ≡ true
le-mark [] i e at = cc
le-mark (f ∷ es) zero e at = let same : f ≡ e = cc in subst (λ (g : Entry). version_le g.version (version_max f.version (greatest (versions es))) ≡ true) same (version_max-left f.version (greatest (versions es)))
le-mark (f ∷ es) (suc i) e at = version_le-trans e.version (greatest (versions es)) (version_max f.version (greatest (versions es))) (le-mark es i e at) (version_max-right f.version (greatest (versions es)))
