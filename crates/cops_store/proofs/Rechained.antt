-- What a change of one row does to the chains of its slot.
use Rattle.std.proofs.Common.{◌≡◌, ℕ, ◌+◌, true, false, List, [], ◌∷◌, ◌++◌, refl, sym, ap, ◌∙◌, subst}
use Rattle.std.specs.Prelude.{Option, Some, None, if◌then◌else◌, IsTrue, is_some}
use Rattle.std.specs.List.{list_any, AllByRecursion}
use Rattle.std.specs.Map.{lookup}
use Rattle.cops_types.specs.declared.records.Record.{Record}
use Rattle.cops_types.specs.declared.records.Dated.{Dated}
use Rattle.cops_types.specs.Key.{key_eq}
use Rattle.cops_store.specs.declared.usage.InUse.{InUse}
use Rattle.cops_store.specs.declared.table.Due.{Due}
use Rattle.cops_store.specs.declared.rows.SlotKey.{SlotKey}
use Rattle.cops_store.specs.declared.rows.Row.{Row}
use Rattle.cops_store.specs.declared.rows.Line.{Line}
use Rattle.cops_store.specs.Chains.{KeptChain, IsChain, is_covered, placed}
use Rattle.cops_store.specs.Lines.{IsNewRow, IsRowLine, IsRechained, IsLineTurn, chain_in, linked_in, HasRecordRoom, row_of, with_chain}
use Rattle.cops_store.specs.Tables.{AreFounded, AreNoted, IsFreed, all_rows, chains_of, collect_chains_at, staying, with_key, with_record}
use Rattle.cops_store.proofs.Collections.{chains_of-changed, chains_of-kept, cleaned_elsewhere, freed_around, only_chain}
use Rattle.cops_store.proofs.Founded.{AreFounded-next, AreFounded-with_record, key_there}
use Rattle.cops_store.proofs.Lines.{added_in, rechained_in, turn_rechained}
use Rattle.cops_store.proofs.Tables.{AreNoted-covered, AreNoted-next, absent, lack_chains, no_key_here}

module _ (before after : List (SlotKey × Row)) (slot : ℕ) (key : List ℕ) (old new : KeptChain) (line : Line) (h : IsRowLine (row_of before slot) line) (r : IsRechained before after slot key old new) where
  abbrev pub entries : List (List ℕ × KeptChain)
  entries = linked_in (row_of before slot) line

  pub entries_are : linked_in (row_of after slot) line ≡ with_chain key new (linked_in (row_of before slot) line)
  entries_are = rechained_in (row_of before slot) (row_of after slot) key r.changed.same old new r.next r.was r.changed.own line

  pub found : lookup (key_eq key) (linked_in (row_of before slot) line) ≡ Some old
  found = h.whole key ∙ ap chain_in r.was

  pub chains_kept : new.items ≡ old.items → chains_of (linked_in (row_of after slot) line) ≡ chains_of (linked_in (row_of before slot) line)
  chains_kept same = ap chains_of entries_are ∙ chains_of-kept (λ rows. rows) key entries h.distinct old new found same refl

  pub key_is_there : list_any (λ (e : List ℕ × List Dated). key_eq key e.0) (chains_of (linked_in (row_of before slot) line)) ≡ true
  key_is_there = key_there key entries old found

  pub chains_found : with_key key (chains_of (linked_in (row_of before slot) line)) ≡ chains_of (linked_in (row_of before slot) line)
  chains_found = ap (λ b. if b then chains_of entries else (key, []) ∷ chains_of entries) key_is_there

  pub roomy_before : HasRecordRoom (chain_in (row_of before slot key)) → IsTrue old.room
  roomy_before room = subst HasRecordRoom (ap chain_in r.was) room

  pub roomy_after : IsTrue new.room → HasRecordRoom (chain_in (row_of after slot key))
  roomy_after room = subst HasRecordRoom (sym (ap chain_in r.changed.own)) room

  pub chains_put : (n : Record) → new.items ≡ placed n old.items → chains_of (linked_in (row_of after slot) line) ≡ with_record key n (chains_of (linked_in (row_of before slot) line))
  chains_put n is = ap chains_of entries_are ∙ chains_of-changed (placed n) key entries h.distinct old new found is

  pub chains_cleaned : (now trans_time : ℕ) → new.items ≡ staying now trans_time old.items → chains_of (linked_in (row_of after slot) line) ≡ collect_chains_at now trans_time key (chains_of (linked_in (row_of before slot) line))
  chains_cleaned now trans_time is = ap chains_of entries_are ∙ chains_of-changed (staying now trans_time) key entries h.distinct old new found is

  pub freed_of_all : (now trans_time : ℕ) (freed : InUse) → new.items ≡ staying now trans_time old.items → IsFreed freed old.items new.items
      → IsFreed freed (all_rows (chains_of (linked_in (row_of before slot) line))) (all_rows (chains_of (linked_in (row_of after slot) line)))
  freed_of_all now trans_time freed is gone = subst (λ es. IsFreed freed (all_rows (chains_of entries)) (all_rows (chains_of es))) (sym entries_are)
      (freed_around (staying now trans_time) key entries h.distinct old new found is freed gone)

  -- an entry is added if something becomes stale that none notes
  pub noted_put : (due later : List Due) (n : Record) → new.items ≡ placed n old.items → is_covered n.at old.items ≡ false → later ≡ due ++ record { key = key; stale = n.at } ∷ []
      → AreNoted due (chains_of (linked_in (row_of before slot) line)) → AreNoted later (chains_of (linked_in (row_of after slot) line))
  noted_put due later n is covered more noted = subst (AreNoted later) (sym (chains_put n is)) (AreNoted-next due later key n (chains_of entries) more noted)

  pub noted_covered : (due : List Due) (n : Record) → new.items ≡ placed n old.items → is_covered n.at old.items ≡ true
      → AreNoted due (chains_of (linked_in (row_of before slot) line)) → AreNoted due (chains_of (linked_in (row_of after slot) line))
  noted_covered due n is covered noted = subst (AreNoted due) (sym (chains_put n is))
      (AreNoted-covered due key n (chains_of entries) (only_chain (λ rows. rows) key entries h.distinct old old found refl (λ rows. is_covered n.at rows ≡ true) covered) noted)

  pub founded_put : (due later : List Due) (n : Record) → new.items ≡ placed n old.items → is_covered n.at old.items ≡ false → later ≡ due ++ record { key = key; stale = n.at } ∷ []
      → AllByRecursion (λ (e : List ℕ × List Dated). IsChain e.0 e.1) (chains_of (linked_in (row_of before slot) line)) → AreFounded due (chains_of (linked_in (row_of before slot) line)) → AreFounded later (chains_of (linked_in (row_of after slot) line))
  founded_put due later n is open_yet more chained founded = subst (AreFounded later) (sym (chains_put n is))
      (AreFounded-next due later key n (chains_of entries) more chained key_is_there (only_chain (λ rows. rows) key entries h.distinct old old found refl (λ rows. is_covered n.at rows ≡ false) open_yet) founded)

  pub founded_covered : (due : List Due) (n : Record) → new.items ≡ placed n old.items
      → AllByRecursion (λ (e : List ℕ × List Dated). IsChain e.0 e.1) (chains_of (linked_in (row_of before slot) line)) → AreFounded due (chains_of (linked_in (row_of before slot) line)) → AreFounded due (chains_of (linked_in (row_of after slot) line))
  founded_covered due n is chained founded = subst (AreFounded due) (sym (chains_put n is)) (AreFounded-with_record due key n (chains_of entries) chained founded)

-- the row was found, and the line stays
module _ (before mid after : List (SlotKey × Row)) (slot : ℕ) (key : List ℕ) (old new : KeptChain) (line : Line) (first : Option (List ℕ)) (h : IsRowLine (row_of before slot) line) (same : mid ≡ before) (kept : first ≡ line.first) (r : IsRechained mid after slot key old new) where
  rechained : IsRechained before after slot key old new
  rechained = subst (λ m. IsRechained m after slot key old new) same r

  line_is : line ≡ record { first = first; count = line.count }
  line_is = (λ i. record { first = sym kept i; count = line.count })

  pub found_turn : IsLineTurn before after slot line (record { first = first; count = line.count })
  found_turn = subst (IsLineTurn before after slot line) line_is (turn_rechained before after slot key old new line h rechained)

  pub found_kept : new.items ≡ old.items → chains_of (linked_in (row_of after slot) (record { first = first; count = line.count })) ≡ chains_of (linked_in (row_of before slot) line)
  found_kept items = ap (λ (l : Line). chains_of (linked_in (row_of after slot) l)) (sym line_is) ∙ chains_kept before after slot key old new line h rechained items

  pub found_chains : new.items ≡ old.items → chains_of (linked_in (row_of after slot) (record { first = first; count = line.count })) ≡ with_key key (chains_of (linked_in (row_of before slot) line))
  found_chains items = found_kept items ∙ sym (chains_found before after slot key old new line h rechained)

  pub found_roomy : HasRecordRoom (chain_in (row_of before slot key)) → IsTrue old.room
  found_roomy = roomy_before before after slot key old new line h rechained

-- a new chain
module _ (before after : List (SlotKey × Row)) (slot : ℕ) (key : List ℕ) (line : Line) (h : IsRowLine (row_of before slot) line) (a : IsNewRow before after slot key line.first) where
  pub chains_added : chains_of (linked_in (row_of after slot) (record { first = Some key; count = line.count + 1 })) ≡ with_key key (chains_of (linked_in (row_of before slot) line))
  chains_added =
      let es = linked_in (row_of before slot) line in
      ap chains_of (added_in (row_of before slot) (row_of after slot) key a.changed.same line h a.chain a.lacked a.changed.own)
      ∙ ap (λ items. (key, items) ∷ chains_of es) a.items
      ∙ sym (ap (λ b. if b then chains_of es else (key, []) ∷ chains_of es) (no_key_here key (chains_of es) (lack_chains key es (absent key es (ap is_some (h.whole key ∙ ap chain_in a.lacked))))))

-- a key without a chain
pub nothing_cleaned : (rows : List (SlotKey × Row)) (slot : ℕ) (key : List ℕ) (line : Line) (now trans_time : ℕ) → IsRowLine (row_of rows slot) line → row_of rows slot key ≡ None
    → chains_of (linked_in (row_of rows slot) line) ≡ collect_chains_at now trans_time key (chains_of (linked_in (row_of rows slot) line))
nothing_cleaned rows slot key line now trans_time h none =
    let es = linked_in (row_of rows slot) line in
    cleaned_elsewhere now trans_time key (chains_of es) (lack_chains key es (absent key es (ap is_some (h.whole key ∙ ap chain_in none))))
