-- What an insert does to the chains of its slot: room is made, and then a record is added.
use Rattle.std.proofs.Common.{◌≡◌, ℕ, Bool, true, false, not, List, [], ◌∷◌, ◌++◌, refl, sym, ap, ◌∙◌, subst, true≢false}
use Rattle.std.specs.Prelude.{IfSome, Option, Some, None}
use Rattle.std.specs.List.{AllByRecursion}
use Rattle.std.specs.Map.{lookup}
use Rattle.cops_types.specs.declared.records.Record.{Record}
use Rattle.cops_types.specs.declared.records.Dated.{Dated}
use Rattle.cops_types.specs.Key.{key_eq}
use Rattle.cops_store.specs.declared.table.Due.{Due}
use Rattle.cops_store.specs.declared.rows.SlotKey.{SlotKey}
use Rattle.cops_store.specs.declared.rows.Row.{Row}
use Rattle.cops_store.specs.declared.rows.Line.{Line}
use Rattle.cops_store.specs.Chains.{KeptChain, IsChain, Rises, is_covered, placed}
use Rattle.cops_store.specs.Lines.{IsRechained, IsLineTurn, chain_in, linked_in, row_of}
use Rattle.cops_store.specs.Tables.{AreFounded, AreNoted, Chains, chains_of, with_key, with_record}
use Rattle.cops_store.proofs.Lines.{turn_rechained, turn_then}
use Rattle.cops_store.proofs.Rechained.{chains_put, founded_covered, founded_put, noted_covered, noted_put}
use Rattle.cops_store.proofs.Shelves.{chain_found}
use Rattle.cops_store.proofs.Tables.{each_with_key}

not_true : (b : Bool) → not b ≡ true → b ≡ false
not_true true h = absurd (true≢false (sym h))
not_true false h = refl

not_false : (b : Bool) → not b ≡ false → b ≡ true
not_false true h = refl
not_false false h = absurd (true≢false h)

-- the record is added to the chain of the key
abbrev pub PutsRecord : List (SlotKey × Row) → List (SlotKey × Row) → ℕ → List ℕ → Record → Bool → Type 0
PutsRecord rows rows' slot key n result = (old : KeptChain) × (new : KeptChain) × IsRechained rows rows' slot key old new × (new.items ≡ placed n old.items) × (result ≡ not (is_covered n.at old.items))

module _ (rows middle : List (SlotKey × Row)) (slot : ℕ) (key : List ℕ) (line line' : Line) (chains : Chains) (turn : IsLineTurn rows middle slot line line') (made : chains_of (linked_in (row_of middle slot) line') ≡ with_key key chains) where
  chained : AllByRecursion (λ (e : List ℕ × List Dated). IsChain e.0 e.1) chains → AllByRecursion (λ (e : List ℕ × List Dated). IsChain e.0 e.1) (chains_of (linked_in (row_of middle slot) line'))
  chained all = subst (AllByRecursion (λ (e : List ℕ × List Dated). IsChain e.0 e.1)) (sym made) (each_with_key (λ (e : List ℕ × List Dated). IsChain e.0 e.1) key chains all (record { keyed = tt; rises = tt }))

  pub put_rises : AllByRecursion (λ (e : List ℕ × List Dated). IsChain e.0 e.1) chains → IfSome (chain_in (row_of middle slot key)) (λ (chain : KeptChain). Rises chain.items)
  put_rises all = subst (λ o. IfSome o (λ (chain : KeptChain). Rises chain.items)) (turn.stays.whole key) (by (lookup (key_eq key) (linked_in (row_of middle slot) line')) refl)
    where
      by : (o : Option KeptChain) → o ≡ lookup (key_eq key) (linked_in (row_of middle slot) line') → IfSome o (λ (chain : KeptChain). Rises chain.items)
      by None is = tt
      by (Some v) is = (chain_found key (linked_in (row_of middle slot) line') v (chained all) is).rises

  module _ (rows' : List (SlotKey × Row)) (n : Record) (result : Bool) (put : PutsRecord middle rows' slot key n result) where
    pub put_turn : IsLineTurn rows rows' slot line line'
    put_turn = turn_then rows middle rows' slot line line' line' turn (turn_rechained middle rows' slot key put.0 put.1 line' turn.stays put.2)

    pub put_chains : chains_of (linked_in (row_of rows' slot) line') ≡ with_record key n (with_key key chains)
    put_chains = chains_put middle rows' slot key put.0 put.1 line' turn.stays put.2 n put.3 ∙ ap (with_record key n) made

    pub put_noted : (due later : List Due) → result ≡ true → later ≡ due ++ record { key = key; stale = n.at } ∷ [] → AreNoted due (with_key key chains) → AreNoted later (chains_of (linked_in (row_of rows' slot) line'))
    put_noted due later is_due more noted = noted_put middle rows' slot key put.0 put.1 line' turn.stays put.2 due later n put.3 (not_true _ (sym put.4 ∙ is_due)) more (subst (AreNoted due) (sym made) noted)

    pub put_covered : (due : List Due) → result ≡ false → AreNoted due (with_key key chains) → AreNoted due (chains_of (linked_in (row_of rows' slot) line'))
    put_covered due no_note noted = noted_covered middle rows' slot key put.0 put.1 line' turn.stays put.2 due n put.3 (not_false _ (sym put.4 ∙ no_note)) (subst (AreNoted due) (sym made) noted)

    pub put_founded : (due later : List Due) → result ≡ true → later ≡ due ++ record { key = key; stale = n.at } ∷ [] → AllByRecursion (λ (e : List ℕ × List Dated). IsChain e.0 e.1) chains → AreFounded due (with_key key chains) → AreFounded later (chains_of (linked_in (row_of rows' slot) line'))
    put_founded due later is_due more all founded = founded_put middle rows' slot key put.0 put.1 line' turn.stays put.2 due later n put.3 (not_true _ (sym put.4 ∙ is_due)) more (chained all) (subst (AreFounded due) (sym made) founded)

    pub put_kept : (due : List Due) → AllByRecursion (λ (e : List ℕ × List Dated). IsChain e.0 e.1) chains → AreFounded due (with_key key chains) → AreFounded due (chains_of (linked_in (row_of rows' slot) line'))
    put_kept due all founded = founded_covered middle rows' slot key put.0 put.1 line' turn.stays put.2 due n put.3 (chained all) (subst (AreFounded due) (sym made) founded)
