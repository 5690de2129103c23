-- A prefix of what was done, for a prefix of a log.
use Rattle.std.proofs.Common.{◌≡◌, ◌⊎◌, ℕ, ◌<◌, true, false, cond, List, [], ◌∷◌, ◌++◌, map, inl, inr, refl, sym, ◌∙◌, ap, subst}
use Rattle.std.specs.Prelude.{Option, None, filter}
use Rattle.std.specs.List.{AllByRecursion}
use Rattle.cops_types.specs.Key.{key_eq}
use Rattle.cops_types.specs.TenantConfig.{TenantConfig}
use Rattle.cops_model.specs.Cluster.{Actor}
use Rattle.cops_history.specs.Turns.{Turn}
use Rattle.cops_history.specs.Commands.{turn_made_by}
use Rattle.cops_history.specs.History.{Logged, Told, Done, Behaves, IsHistory, IsHistoryOfPrefixes, HasPrefixesOfActs, done_by, turns_by, turns_made}
use Rattle.cops_history.proofs.Acts.{are_acts}
use Rattle.cops_history.proofs.Merging.{turn_cases}

-- the commands up to these turns
abbrev Cut : List Done → List Turn → Type 0
Cut did ts = (prefix : List Done) × (later : List Done) × (did ≡ prefix ++ later) × (turns_made prefix ≡ ts)

cut : (did : List Done) (ts more : List Turn) → turns_made did ≡ ts ++ more → Cut did ts
cut [] [] more e = ([], [], refl, refl)
cut [] (t ∷ ts) more e = cc
cut (d ∷ did) [] more e = ([], d ∷ did, refl, refl)
cut (d ∷ did) (t ∷ ts) more e = by (turn_cases d.told.command) (λ made. cut did (t ∷ ts) more made) (λ made. cut did ts more made)
  where
    by : (turn_made_by d.told.command ≡ []) ⊎ ((u : Turn) × (turn_made_by d.told.command ≡ u ∷ [])) → (turns_made did ≡ t ∷ (ts ++ more) → Cut did (t ∷ ts)) → (turns_made did ≡ ts ++ more → Cut did ts) → Cut (d ∷ did) (t ∷ ts)
    by (inl none) same fewer =
        let rest : Cut did (t ∷ ts) = same (ap (λ us. us ++ turns_made did) (sym none) ∙ e) in
        (d ∷ rest.0, rest.1, ap (λ ds. d ∷ ds) rest.2, ap (λ us. us ++ turns_made rest.0) none ∙ rest.3)
    by (inr (u, one)) same fewer =
        let whole : u ∷ turns_made did ≡ t ∷ (ts ++ more) = ap (λ us. us ++ turns_made did) (sym one) ∙ e in
        let first : u ≡ t = cc in
        let left : turns_made did ≡ ts ++ more = cc in
        let rest : Cut did ts = fewer left in
        (d ∷ rest.0, rest.1, ap (λ ds. d ∷ ds) rest.2, ap (λ us. us ++ turns_made rest.0) one ∙ (λ i. first i ∷ rest.3 i))

behaves_prefix : (config : TenantConfig) (old : Option Actor) (prefix later : List Told) → Behaves config old (prefix ++ later) → Behaves config old prefix
behaves_prefix config old [] later is = tt
behaves_prefix config old (t ∷ prefix) later is = (is.0, is.1, behaves_prefix config is.0 prefix later is.2)

pub all_prefix : {A : Type 0} (P : A → Type 0) (prefix later : List A) → AllByRecursion P (prefix ++ later) → AllByRecursion P prefix
all_prefix P [] later is = tt
all_prefix P (x ∷ prefix) later is = (is.0, all_prefix P prefix later is.1)

done_parts : (name : List ℕ) (prefix later : List Done) → done_by name (prefix ++ later) ≡ done_by name prefix ++ done_by name later
done_parts name [] later = refl
done_parts name (d ∷ prefix) later = elim (key_eq d.actor name) as (λ b. map (λ (d : Done). d.told) (cond b (d ∷ filter (λ (d : Done). key_eq d.actor name) (prefix ++ later)) (filter (λ (d : Done). key_eq d.actor name) (prefix ++ later)))
    ≡ map (λ (d : Done). d.told) (cond b (d ∷ filter (λ (d : Done). key_eq d.actor name) prefix) (filter (λ (d : Done). key_eq d.actor name) prefix)) ++ done_by name later) [
      | true ↦ ap (λ ts. d.told ∷ ts) (done_parts name prefix later)
      | false ↦ done_parts name prefix later
    ]

none_in_prefix : {A : Type 0} (prefix later : List A) → prefix ++ later ≡ [] → prefix ≡ []
none_in_prefix [] later e = refl
none_in_prefix (x ∷ prefix) later e = cc

pub prefixes : (config : TenantConfig) (log : List Logged) (seats : ℕ) (owner : List ℕ → ℕ) (did : ℕ → List Done) → 0 < config.shards → IsHistoryOfPrefixes config log seats owner did → HasPrefixesOfActs config log owner did
prefixes config log seats owner did some ahead = record {
  prefix = λ seat. (cut (did seat) (turns_by seat log) (ahead.make seat).0 (ahead.make seat).1).0;
  is = λ seat. let p = cut (did seat) (turns_by seat log) (ahead.make seat).0 (ahead.make seat).1 in (p.1, p.2);
  acts = are_acts config log seats owner (λ seat. (cut (did seat) (turns_by seat log) (ahead.make seat).0 (ahead.make seat).1).0) some history;
}
  where
    history : IsHistory config log seats owner (λ seat. (cut (did seat) (turns_by seat log) (ahead.make seat).0 (ahead.make seat).1).0)
    history = record {
      legal = ahead.legal;
      behave = λ name.
          let p = cut (did (owner name)) (turns_by (owner name) log) (ahead.make (owner name)).0 (ahead.make (owner name)).1 in
          behaves_prefix config None (done_by name p.0) (done_by name p.1) (subst (Behaves config None) (ap (done_by name) p.2 ∙ done_parts name p.0 p.1) (ahead.behave name));
      own = λ seat.
          let p = cut (did seat) (turns_by seat log) (ahead.make seat).0 (ahead.make seat).1 in
          all_prefix (λ (d : Done). owner d.actor ≡ seat) p.0 p.1 (subst (AllByRecursion (λ (d : Done). owner d.actor ≡ seat)) p.2 (ahead.own seat));
      make = λ seat. (cut (did seat) (turns_by seat log) (ahead.make seat).0 (ahead.make seat).1).3;
      few = λ seat beyond.
          let p = cut (did seat) (turns_by seat log) (ahead.make seat).0 (ahead.make seat).1 in
          none_in_prefix p.0 p.1 (sym p.2 ∙ ahead.few seat beyond);
    }
