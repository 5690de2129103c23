-- What a replay finds over a tenant's lines, as they are cut.
use Rattle.cops_replay.proofs.Names.{◌≡◌, ℕ, ◌+◌, ◌<◌, ◌≤◌, Bool, true, false, ◌&&◌, ◌||◌, cond, List, [], ◌∷◌, ◌++◌, length, map, take, inl, inr, ◌⊎◌, refl, sym, subst, ap, ◌∙◌, arith, length-take, Option, Some, None, nat_le, codes, decimal, list_any, is_none, bytes_eq, nat_tests, take_all, counted, Run, cut_line, TenantConfig, first_word, newline, or_right, SoloNode, Layout, Today, Early, Record, Replayed, FirstDifference, old_record_in, record_by, nodes_after, AreLoneNodes, IsReplayedLine, Standing, found_of, FindsBy, alone_lines, is_great_in, longest_record, replayed_text, told_number, told_of, option_map, same_first_at, is_old_record, versions_in, Differs, Passes, ReplaysOwn, replay_lines}
use Rattle.cops_replay.proofs.AuditHeads.{by_test}

-- ---- lines, as they are cut

-- a line that is no longer is seen whole, and one that is longer is still too long
module _ {A : Type 0} (seen : Bool → List ℕ → A) (none : A) (long : (line : List ℕ) → seen false line ≡ none) where
  pub same_cut : (line : List ℕ) → seen (nat_le (length (cut_line longest_record line)) longest_record) (cut_line longest_record line) ≡ seen (nat_le (length line) longest_record) line
  same_cut line = by_test (nat_le (length line) (longest_record + 1))
      (λ is. let short : length line ≤ longest_record + 1 = grind (arith, nat_tests) in ap (λ l. seen (nat_le (length l) longest_record) l) (take_all (longest_record + 1) line short))
      (λ is.
      let far : longest_record + 1 < length line = grind (arith, nat_tests) in
      let size : length (take (longest_record + 1) line) ≡ longest_record + 1 = length-take (longest_record + 1) line ∙ omega arith in
      none_of (take (longest_record + 1) line) (omega (arith, size)) ∙ sym (none_of line (omega arith)))
    where
      none_of : (l : List ℕ) → longest_record < length l → seen (nat_le (length l) longest_record) l ≡ none
      none_of l far = let t : nat_le (length l) longest_record ≡ false = grind (arith, nat_tests) in ap (λ b. seen b l) t ∙ long l

-- a line that is too long is no record, cut or not
pub told_cut : (layout : Layout) (line : List ℕ) → told_of layout (cut_line longest_record line) ≡ told_of layout line
told_cut layout line = same_cut {A = Option Record} (λ b l. cond b (option_map (λ (read : List ℕ × Record). read.1) (record_by (versions_in layout) l)) None) None (λ l. refl) line

pub great_cut : (layout : Layout) (line : List ℕ) → is_great_in layout (cut_line longest_record line) ≡ is_great_in layout line
great_cut Today line = refl
great_cut Early line = same_cut {A = Bool} (λ b l. b && is_none (old_record_in l) && is_old_record l) false (λ l. refl) line

pub same_own : (name line : List ℕ) → length name ≤ 16 → bytes_eq (first_word (cut_line longest_record line)) name ≡ bytes_eq (first_word line) name
same_own name line short = same_first_at longest_record (omega arith) name line short

-- one line more
pub capped_more : (n : ℕ) → counted (told_number n) ≡ told_number (n + 1)
capped_more n = grind arith

-- the result, as it is written
abbrev pub TellsAs : Replayed → Replayed → Type 0
TellsAs told found = replayed_text told ≡ replayed_text found

same_told : (n : ℕ) → told_number (told_number n) ≡ told_number n
same_told n = grind arith

-- ---- the tenant's lines

-- from this standing the lines lead to that one
pub record Tells (layout : Layout) (config : TenantConfig) (old : Standing) (lines : List (List ℕ)) (new : Standing) : Type 0 where
  pub over : (place : ℕ) → old.found ≡ Some place → found_of new ≡ FirstDifference place
  pub goes : (count : ℕ) (solos : List SoloNode) → old.layout ≡ layout → old.passed ≡ told_number count → old.found ≡ None → AreLoneNodes config old.nodes solos →
      (found : Replayed) × FindsBy layout Today config count solos lines found × TellsAs (found_of new) found

tells_none : (layout : Layout) (config : TenantConfig) (old : Standing) → Tells layout config old [] old
tells_none layout config old = grind (arith, nat_tests)

tells_line : (layout : Layout) (config : TenantConfig) (line : List ℕ) (lines : List (List ℕ)) (old mid new : Standing) → IsReplayedLine (cut_line longest_record line) old mid → Tells layout config mid lines new → Tells layout config old (line ∷ lines) new
tells_line layout config line lines old mid new h p = record {
  over = λ place e. p.over place (ap (λ (s : Standing). s.found) (h.over place e) ∙ e);
  goes = λ count solos at passed none are. by_case count solos at passed (h.goes none config solos are);
}
  where
    same_record : old.layout ≡ layout → told_of old.layout (cut_line longest_record line) ≡ told_of layout line
    same_record at = ap (λ (l : Layout). told_of l (cut_line longest_record line)) at ∙ told_cut layout line

    by_case : (count : ℕ) (solos : List SoloNode) → old.layout ≡ layout → old.passed ≡ told_number count → Passes config (cut_line longest_record line) solos old mid ⊎ Differs config (cut_line longest_record line) solos old mid →
        (found : Replayed) × FindsBy layout Today config count solos (line ∷ lines) found × TellsAs (found_of new) found
    by_case count solos at passed (inl q) =
        let next : mid.passed ≡ told_number (count + 1) = q.passed_is ∙ ap counted passed ∙ capped_more count in
        let rest = p.goes (count + 1) (nodes_after config q.told solos) (h.layout ∙ at) next q.found_is q.after in
        (rest.0, inl (q.told, sym (same_record at) ∙ q.told_is, q.agrees, rest.1), rest.2)
    by_case count solos at passed (inr q) =
        let end = p.over (counted old.passed) q.found_is in (
          FirstDifference (count + 1),
          inr ((λ told is. q.differs told (same_record at ∙ is)), refl),
          ap replayed_text end ∙ ap (λ n. codes "differs " ++ decimal n ++ newline ∷ []) (ap told_number (ap counted passed ∙ capped_more count) ∙ same_told (count + 1)),
        )

module _ (name : List ℕ) (layout : Layout) where
  -- a line of the tenant is one of its lines, and another is not
  first_is : (line : List ℕ) (lines : List (List ℕ)) (own : Bool) → bytes_eq (first_word line) name ≡ own → alone_lines name (line ∷ lines) ≡ cond own (line ∷ alone_lines name lines) (alone_lines name lines)
  first_is line lines own e = ap (λ b. cond b (line ∷ alone_lines name lines) (alone_lines name lines)) e

  -- a clock is too great in a line of the tenant
  pub any_great : (passed : List (List ℕ)) (line : List ℕ) (rest : List (List ℕ)) → bytes_eq (first_word line) name ≡ true → is_great_in layout line ≡ true → list_any (is_great_in layout) (alone_lines name (passed ++ line ∷ rest)) ≡ true
  any_great [] line rest own great = ap (list_any (is_great_in layout)) (first_is line rest true own) ∙ ap (λ b. b || list_any (is_great_in layout) (alone_lines name rest)) great
  any_great (first ∷ passed) line rest own great = by_test (bytes_eq (first_word first) name)
      (λ is. ap (list_any (is_great_in layout)) (first_is first (passed ++ line ∷ rest) true is) ∙ or_right (is_great_in layout first) (list_any (is_great_in layout) (alone_lines name (passed ++ line ∷ rest))) (any_great passed line rest own great))
      (λ isnt. ap (list_any (is_great_in layout)) (first_is first (passed ++ line ∷ rest) false isnt) ∙ any_great passed line rest own great)

  -- what a run over the lines comes to
  pub record Ran (config : TenantConfig) (old : Standing) (lines : List (List ℕ)) (text : List ℕ) (new : Standing) : Type 0 where
    pub layout_is : new.layout ≡ layout
    pub silent : text ≡ []
    pub small : list_any (is_great_in layout) (alone_lines name lines) ≡ false
    pub tells : Tells layout config old (alone_lines name lines) new

  one_more : (config : TenantConfig) (line : List ℕ) (lines : List (List ℕ)) (old mid : Standing) (own : Bool) (text : List ℕ) (new : Standing) → bytes_eq (first_word line) name ≡ own → old.layout ≡ layout → ReplaysOwn own old (cut_line longest_record line) mid →
      (mid.layout ≡ layout → Ran config mid lines text new) → Ran config old (line ∷ lines) text new
  one_more config line lines old mid true text new e at h later =
      let rest = later (h.1.layout ∙ at) in
      let fits : is_great_in layout line ≡ false = sym (great_cut layout line) ∙ ap (λ (l : Layout). is_great_in l (cut_line longest_record line)) (sym at) ∙ h.0 in
      record {
        layout_is = rest.layout_is;
        silent = rest.silent;
        small = ap (list_any (is_great_in layout)) (first_is line lines true e) ∙ ap (λ b. b || list_any (is_great_in layout) (alone_lines name lines)) fits ∙ rest.small;
        tells = subst (λ ls. Tells layout config old ls new) (sym (first_is line lines true e)) (tells_line layout config line (alone_lines name lines) old mid new h.1 rest.tells);
      }
  one_more config line lines old mid false text new e at h later =
      let rest = later (ap (λ (s : Standing). s.layout) h ∙ at) in
      record {
        layout_is = rest.layout_is;
        silent = rest.silent;
        small = ap (list_any (is_great_in layout)) (first_is line lines false e) ∙ rest.small;
        tells = subst (λ ls. Tells layout config old ls new) (sym (first_is line lines false e)) (subst (λ s. Tells layout config s (alone_lines name lines) new) h rest.tells);
      }

  pub running : (config : TenantConfig) → length name ≤ 16 → (lines : List (List ℕ)) (old : Standing) (text : List ℕ) (new : Standing) → old.layout ≡ layout → Run (replay_lines name) old (map (cut_line longest_record) lines) text new → Ran config old lines text new
  running config short [] old text new is h = record {
    layout_is = ap (λ (s : Standing). s.layout) h.1 ∙ is;
    silent = h.0;
    small = refl;
    tells = subst (λ s. Tells layout config old [] s) (sym h.1) (tells_none layout config old);
  }
  running config short (line ∷ lines) old text new is (first, mid, later, (quiet, own), run, whole) =
      let own_is = subst (λ b. ReplaysOwn b old (cut_line longest_record line) mid) (same_own name line short) own in
      let text_is : later ≡ text = sym (whole ∙ ap (λ t. t ++ later) quiet) in
      let run_on = subst (λ t. Run (replay_lines name) mid (map (cut_line longest_record) lines) t new) text_is run in
      one_more config line lines old mid (bytes_eq (first_word line) name) text new refl is own_is (λ kind. running config short lines mid text new kind run_on)
