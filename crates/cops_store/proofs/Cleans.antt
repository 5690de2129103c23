-- What cleaning one chain does to the chains of its slot.
use Rattle.std.proofs.Common.{◌≡◌, ℕ, zero, suc, arith, ◌<◌, List, [], ◌∷◌, length, refl, sym, ap, ◌∙◌, subst, get_or, set}
use Rattle.std.specs.Prelude.{IfSome, Option, Some, None}
use Rattle.std.specs.Map.{lookup}
use Rattle.cops_types.specs.Key.{key_eq}
use Rattle.cops_store.specs.declared.usage.InUse.{InUse}
use Rattle.cops_store.specs.declared.rows.SlotKey.{SlotKey}
use Rattle.cops_store.specs.declared.rows.Row.{Row}
use Rattle.cops_store.specs.declared.rows.Line.{Line}
use Rattle.cops_store.specs.Chains.{KeptChain}
use Rattle.cops_store.specs.Lines.{AreRowLines, IsRechained, IsLineTurn, OtherSlotsStay, chain_in, chains_at, chain_entries_at, linked_in, no_line, row_of, lines_from}
use Rattle.cops_store.specs.Tables.{AreCountable, IsFreed, all_rows, chains_of, collect_chains_at, staying}
use Rattle.cops_store.proofs.Collections.{countable_chain}
use Rattle.cops_store.proofs.Lines.{turn_rechained}
use Rattle.cops_store.proofs.Rechained.{chains_cleaned, freed_of_all, nothing_cleaned}
use Rattle.cops_store.proofs.Turns.{chains_turned, distinct_here, entries_here, lines_turned, others_stay, set_same, slot_there, whole_here}

get_default : (lines : List Line) (n : ℕ) → n < length lines → get_or lines n no_line ≡ get_or lines n (get_or lines n no_line)
get_default [] n lt = refl
get_default (l ∷ lines) zero lt = refl
get_default (l ∷ lines) (suc n) lt = get_default lines n (omega arith)

-- the chain of the key is cleaned
abbrev pub CleansChain : List (SlotKey × Row) → List (SlotKey × Row) → ℕ → List ℕ → ℕ → ℕ → InUse → Type 0
CleansChain rows rows' slot key now trans_time freed = (old : KeptChain) × (new : KeptChain) × IsRechained rows rows' slot key old new × (new.items ≡ staying now trans_time old.items) × IsFreed freed old.items new.items

module _ (rows : List (SlotKey × Row)) (lines : List Line) (h : AreRowLines rows lines) (shown : List (List (List ℕ × KeptChain))) (view : lines_from rows 0 lines ≡ shown) (slot : ℕ) where
  pub cleaned_use : (key : List ℕ) → AreCountable (all_rows (chains_at slot shown)) → IfSome (chain_in (row_of rows slot key)) (λ (chain : KeptChain). AreCountable chain.items)
  cleaned_use key all = subst (λ o. IfSome o (λ (chain : KeptChain). AreCountable chain.items)) (whole_here rows lines h shown view slot key) (by (lookup (key_eq key) (chain_entries_at slot shown)) refl)
    where
      by : (o : Option KeptChain) → lookup (key_eq key) (chain_entries_at slot shown) ≡ o → IfSome o (λ (chain : KeptChain). AreCountable chain.items)
      by None is = tt
      by (Some v) is = countable_chain (λ rows. rows) key (chain_entries_at slot shown) (distinct_here rows lines h shown view slot) v v is refl all

  pub nothing_there : (key : List ℕ) (now trans_time : ℕ) → row_of rows slot key ≡ None → chains_at slot shown ≡ collect_chains_at now trans_time key (chains_at slot shown)
  nothing_there key now trans_time none = subst (λ es. chains_of es ≡ collect_chains_at now trans_time key (chains_of es)) (sym (entries_here rows lines h shown view slot)) (nothing_cleaned rows slot key (get_or lines slot no_line) now trans_time (h.each slot) none)

  module _ (within : slot < length shown) (key : List ℕ) (now trans_time : ℕ) (rows' : List (SlotKey × Row)) (freed : InUse) (clean : CleansChain rows rows' slot key now trans_time freed) where
    abbrev read : get_or lines slot no_line ≡ get_or lines slot (get_or lines slot no_line)
    read = get_default lines slot (slot_there rows lines slot shown view within)

    abbrev turn : IsLineTurn rows rows' slot (get_or lines slot no_line) (get_or lines slot no_line)
    turn = turn_rechained rows rows' slot key clean.0 clean.1 (get_or lines slot no_line) (h.each slot) clean.2

    abbrev same : set lines slot (get_or lines slot no_line) ≡ lines
    same = set_same lines slot (get_or lines slot no_line) read

    pub cleaned_lines : AreRowLines rows' lines
    cleaned_lines = subst (AreRowLines rows') same (lines_turned rows lines h slot (get_or lines slot no_line) shown view within read rows' (get_or lines slot no_line) turn)

    pub cleaned_others : OtherSlotsStay slot shown (lines_from rows' 0 lines)
    cleaned_others = subst (λ ls. OtherSlotsStay slot shown (lines_from rows' 0 ls)) same (others_stay rows lines h slot (get_or lines slot no_line) shown view within read rows' (get_or lines slot no_line) turn)

    after : chains_at slot (lines_from rows' 0 lines) ≡ chains_of (linked_in (row_of rows' slot) (get_or lines slot no_line))
    after = subst (λ ls. chains_at slot (lines_from rows' 0 ls) ≡ chains_of (linked_in (row_of rows' slot) (get_or lines slot no_line))) same (chains_turned rows lines h slot (get_or lines slot no_line) shown view within read rows' (get_or lines slot no_line) turn)

    before : chains_at slot shown ≡ chains_of (linked_in (row_of rows slot) (get_or lines slot no_line))
    before = ap chains_of (entries_here rows lines h shown view slot)

    pub cleaned_chains : chains_at slot (lines_from rows' 0 lines) ≡ collect_chains_at now trans_time key (chains_at slot shown)
    cleaned_chains = after ∙ chains_cleaned rows rows' slot key clean.0 clean.1 (get_or lines slot no_line) (h.each slot) clean.2 now trans_time clean.3 ∙ sym (ap (collect_chains_at now trans_time key) before)

    pub cleaned_freed : IsFreed freed (all_rows (chains_at slot shown)) (all_rows (chains_at slot (lines_from rows' 0 lines)))
    cleaned_freed = subst (λ cs. IsFreed freed (all_rows cs) (all_rows (chains_at slot (lines_from rows' 0 lines)))) (sym before)
        (subst (λ cs. IsFreed freed (all_rows (chains_of (linked_in (row_of rows slot) (get_or lines slot no_line)))) (all_rows cs)) (sym after)
        (freed_of_all rows rows' slot key clean.0 clean.1 (get_or lines slot no_line) (h.each slot) clean.2 now trans_time freed clean.3 clean.4))
