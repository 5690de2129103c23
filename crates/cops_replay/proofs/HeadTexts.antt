-- The text of a head that was read is read back, and so replays of a migrated audit find what replays of the audit do.
use Rattle.cops_replay.proofs.Names.{◌≡◌, ℕ, Bool, cond, List, [], ◌∷◌, ◌++◌, refl, sym, ap, ◌∙◌, append_assoc, append-nil, ◌↔◌, arith, Option, None, flat_map, bytes_eq, flat_map-append, flat_map-map, nat_tests, Config, Whole, head_of, cluster_in, lines_of, newline, cluster_in-is, Lacks, lacks_from_test, same_bytes, bytes_from_test, Layout, Early, Today, ReplayRefusal, ended, head_text, layout_line, migration_of, IsAuditInBoth, IsRefusedBy, IsReplayBy, IsReplayOf, RefusesReplayOf, head_by, layout_of}
use Rattle.cops_replay.proofs.HeadsBack.{head_reads_back, head_unbroken, holds_of_rest, lines_of-lack, lines_of-lines, lines_of-more, written_head, written_tenant}
use Rattle.cops_replay.proofs.EarlyRecords.{refused_alike, replayed_alike}
use Rattle.cops_replay.proofs.WholeMigrations.{alike, whole}

-- ---- the lines of the text of a head

-- the text is that of these lines, each with its newline
pub head_text_is : (config : Config) → flat_map ended (layout_line ∷ written_head config) ≡ head_text config
head_text_is config = grind (arith, nat_tests, append-nil, append_assoc, flat_map-append, flat_map-map, written_tenant)

-- of a head that some lines have, whatever comes after it
pub lines_of_text : (lines rest : List (List ℕ)) (config : Config) (more : List ℕ) → head_of lines ≡ Whole config rest → lines_of (head_text config ++ more) ≡ layout_line ∷ (written_head config ++ lines_of more)
lines_of_text lines rest config more e =
    ap (λ text. lines_of (text ++ more)) (sym (head_text_is config)) ∙ lines_of-more (layout_line ∷ written_head config) more (lacks_from_test newline layout_line refl, head_unbroken lines rest config e)

-- the head is read back, in today's layout
pub text_reads_back : (lines rest : List (List ℕ)) (config : Config) (more : List ℕ) → head_of lines ≡ Whole config rest → head_by Today (lines_of (head_text config ++ more)) ≡ Whole config (lines_of more)
text_reads_back lines rest config more e = ap (head_by Today) (lines_of_text lines rest config more e) ∙ head_reads_back lines rest (lines_of more) 2 config e

-- and the text tells that layout
pub text_is_todays : (lines rest : List (List ℕ)) (config : Config) (more : List ℕ) → head_of lines ≡ Whole config rest → layout_of (lines_of (head_text config ++ more)) ≡ Today
text_is_todays lines rest config more e = ap layout_of (lines_of_text lines rest config more e) ∙ ap (λ t. cond t Today Early) (same_bytes layout_line)

-- ---- a head of layout 1 has no line for its layout

no_cluster : (found : Option Config) → cluster_in layout_line ≡ found → found ≡ None
no_cluster found h1 = grind (arith, nat_tests, cluster_in-is, same_bytes)

begins_early : (line : List ℕ) (others : List (List ℕ)) (config : Config) (rest : List (List ℕ)) (t : Bool) → bytes_eq line layout_line ≡ t → head_of (line ∷ others) ≡ Whole config rest → cond t Today Early ≡ Early
begins_early line others config rest t h5 h6 = grind (arith, nat_tests, bytes_from_test, no_cluster)

early_layout : (lines : List (List ℕ)) (config : Config) (rest : List (List ℕ)) → head_of lines ≡ Whole config rest → layout_of lines ≡ Early
early_layout [] config rest e = refl
early_layout (line ∷ others) config rest e = begins_early line others config rest (bytes_eq line layout_line) refl e

-- ---- replays of an audit and of what it is migrated to

module _ (bytes : List ℕ) (config : Config) (lines : List (List ℕ)) (is : IsAuditInBoth bytes config lines) where
  abbrev moved_text : List ℕ
  moved_text = head_text config ++ flat_map ended lines

  text_moved : moved_text ≡ (migration_of bytes).text
  text_moved = sym (ap (λ migration. migration.text) (whole bytes config lines is))

  head : head_of (lines_of bytes) ≡ Whole config lines
  head = (alike bytes config lines is).head

  early : layout_of (lines_of bytes) ≡ Early
  early = early_layout (lines_of bytes) config lines head

  lines_are : lines_of (flat_map ended lines) ≡ lines
  lines_are = lines_of-lines lines (holds_of_rest (Lacks newline) (lines_of bytes) lines config head (lines_of-lack bytes))

  back : head_by Today (lines_of moved_text) ≡ Whole config lines
  back = text_reads_back (lines_of bytes) lines config (flat_map ended lines) head ∙ ap (Whole config) lines_are

  todays : layout_of (lines_of moved_text) ≡ Today
  todays = text_is_todays (lines_of bytes) lines config (flat_map ended lines) head

  -- what holds in both layouts holds of both files in the layouts that they tell
  of_files : (P : Layout → List (List ℕ) → Type 0) → (P Early (lines_of bytes) ↔ P Today (lines_of moved_text)) →
      P (layout_of (lines_of bytes)) (lines_of bytes) ↔ P (layout_of (lines_of (migration_of bytes).text)) (lines_of (migration_of bytes).text)
  of_files P both = grind (arith, nat_tests, early, text_moved, todays)

  pub replays_alike : (name text : List ℕ) → IsReplayOf name bytes text ↔ IsReplayOf name (migration_of bytes).text text
  replays_alike name text =
      of_files (λ layout its. IsReplayBy layout name its text)
      (replayed_alike Early Today name (lines_of bytes) (lines_of moved_text) config lines is.head back is.clocks is.records text, replayed_alike Today Early name (lines_of moved_text) (lines_of bytes) config lines back is.head is.clocks is.records text)

  pub refuses_alike : (name : List ℕ) (refusal : ReplayRefusal) → RefusesReplayOf name bytes refusal ↔ RefusesReplayOf name (migration_of bytes).text refusal
  refuses_alike name refusal =
      of_files (λ layout its. IsRefusedBy layout name its refusal)
      (refused_alike Early Today name (lines_of bytes) (lines_of moved_text) config lines is.head back is.clocks is.records refusal, refused_alike Today Early name (lines_of moved_text) (lines_of bytes) config lines back is.head is.clocks is.records refusal)
