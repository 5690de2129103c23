-- Plain words are words that clap takes, by computing.
use Rattle.std.proofs.Common.{◌≡◌, ◌≢◌, ◌⊎◌, ◌∙◌, IsTrue, ◌==◌, not, ℕ, List, [], ◌∷◌, Bool, true, false, cond, codes, refl, sym, subst, inl, inr, ap, ap₂, None, slice_get, unwrap_or, option_and_then, is_some}
use Rattle.std.specs.Prelude.{IfErr, IsErrAnd, Result, Ok, Err}
use Rattle.std.specs.Str.{bytes_eq}
use Rattle.std.specs.Option.{option_map_or}
use Rattle.clap.specs.Kinds.{HasKind, Kinds, or_else}
use Rattle.clap.specs.Lexer.{long_of, long_of_rest, short_of, short_of_rest, strip_byte}
use Rattle.clap.specs.Faults.{bundle_fault, check_fault, defaults_fault, flag_word_fault, level_fault, settle_fault, step_fault, word_fault}
use Rattle.clap.specs.Simple.{Shape, built, entered, names_of}
use Rattle.clap.specs.Walk.{Held, Rule, Step, Walk, after_step, finished, idle, long_or_other, nothing_held, option, plain_word, settled, short_or_plain, stop_after, trailing, value, walk_from, walked, word_met}
use Rattle.clap.specs.Words.{Text, fault_of, kind_of}
use Rattle.clap.proofs.OnLiterals.{clap_on_literals}
use Rattle.clap.specs.declared.error.Error.{Error}
use Rattle.clap.specs.declared.error.kind.ErrorKind.{ErrorKind}
use Rattle.clap.specs.declared.error.kind.ErrorKind.TheVariants as kind
use Rattle.cops_cli.specs.Faults.{RefusesWords}
use Rattle.cops_cli.specs.declared.faults.CliFault.{CliFault}
use Rattle.cops_cli.specs.declared.faults.CliFault.TheVariants.{OutOfMemory}
use Rattle.cops_cli.proofs.CommandLineFacts.{false_is_true}
use Rattle.cops_cli.specs.CommandLine.{ArePlain, IsRefusedAs, cops, is_plain}

-- ---- a word that does not begin with a hyphen

no_hyphen : (byte : ℕ) (bytes : Text) → (byte == 45) ≡ false → strip_byte 45 (byte ∷ bytes) ≡ None
no_hyphen byte bytes other = rw other refl

no_hyphens : (byte : ℕ) (bytes : Text) → (byte == 45) ≡ false → bytes_eq (byte ∷ bytes) (45 ∷ 45 ∷ []) ≡ false
no_hyphens byte bytes other = rw other refl

no_long : (word : Text) → strip_byte 45 word ≡ None → long_of word ≡ None
no_long word none = ap (λ o. option_and_then long_of_rest (option_and_then (strip_byte 45) o)) none

no_short : (word : Text) → strip_byte 45 word ≡ None → short_of word ≡ None
no_short word none = ap (option_and_then short_of_rest) none

module _ (word : Text) (none : strip_byte 45 word ≡ None) (other : bytes_eq word (45 ∷ 45 ∷ []) ≡ false) where
  -- it is no fault of a command without subcommands
  passes : (s : Shape) (h : Held) → word_fault s [] false idle word h ≡ []
  passes s h =
      ap (λ (b : Bool). cond b [] (flag_word_fault s.rules s.args_override_self (long_of word) word h)) other
      ∙ ap (λ o. flag_word_fault s.rules s.args_override_self o word h) (no_long word none)
      ∙ ap (λ o. option_map_or (λ flags. bundle_fault s.rules s.args_override_self flags h) o []) (no_short word none)

  -- and goes to a positional
  is_value : (c : List Rule) (h : Held) → word_met c [] false idle 1 word h ≡ (h, value)
  is_value c h =
      ap (λ (b : Bool). cond b (h, trailing 1) (long_or_other c idle word (long_of word) h)) other
      ∙ ap (λ o. long_or_other c idle word o h) (no_long word none)
      ∙ ap (λ o. short_or_plain c idle word o h) (no_short word none)

  -- the same if an option waits for it
  passes_option : (s : Shape) (id : Text) (h : Held) → word_fault s [] false (option id) word h ≡ []
  passes_option s id h =
      ap (λ (b : Bool). cond b [] (flag_word_fault s.rules s.args_override_self (long_of word) word h)) other
      ∙ ap (λ o. flag_word_fault s.rules s.args_override_self o word h) (no_long word none)
      ∙ ap (λ o. option_map_or (λ flags. bundle_fault s.rules s.args_override_self flags h) o []) (no_short word none)

  is_option_value : (c : List Rule) (id : Text) (h : Held) → word_met c [] false (option id) 1 word h ≡ plain_word c (option id) word h
  is_option_value c id h =
      ap (λ (b : Bool). cond b (h, trailing 1) (long_or_other c (option id) word (long_of word) h)) other
      ∙ ap (λ o. long_or_other c (option id) word o h) (no_long word none)
      ∙ ap (λ o. short_or_plain c (option id) word o h) (no_short word none)

-- one word after a command without subcommands: what is wrong with it, and what it is
abbrev leaf_of : Shape → Text → Kinds → Held × Step → Kinds
leaf_of s word wrong met =
    let end = (after_step s.rules word (walk_from nothing_held) met.0 met.1).held in
    or_else (or_else (or_else wrong (step_fault s 1 met.0 met.1)) [])
    (or_else [] (or_else (settle_fault s.rules s.args_override_self end)
    (or_else (defaults_fault (settled s.rules end).rows s.rules)
    (check_fault s (finished s.rules end) false))))

leaf_is : (s : Shape) (word : Text) → level_fault s [] nothing_held (word ∷ []) false [] ≡ leaf_of s word (word_fault s [] false idle word nothing_held) (word_met s.rules [] false idle 1 word nothing_held)
unfolding clap_on_literals
leaf_is s word = refl

abbrev sub_of : ℕ → Shape
sub_of i = unwrap_or (slice_get (built cops).subs i) (built cops).top

abbrev top_of : Text → Text → Kinds → Kinds
top_of command word below =
    let a = built cops in
    level_fault a.top (names_of a) nothing_held (command ∷ word ∷ []) (is_some (entered a (stop_after a.top.rules (names_of a) (command ∷ word ∷ [])))) below

solo_top : (program word : Text) → fault_of cops (program ∷ codes "solo" ∷ word ∷ []) ≡ top_of (codes "solo") word (level_fault (sub_of 1) [] nothing_held (word ∷ []) false [])
unfolding clap_on_literals
solo_top program word = refl

solo_rest : (word : Text) → top_of (codes "solo") word [] ≡ []
unfolding clap_on_literals
solo_rest word = refl

solo_leaf : (word : Text) → leaf_of (sub_of 1) word [] (nothing_held, value) ≡ []
unfolding clap_on_literals
solo_leaf word = refl

replay_top : (program word : Text) → fault_of cops (program ∷ codes "replay" ∷ word ∷ []) ≡ top_of (codes "replay") word (level_fault (sub_of 3) [] nothing_held (word ∷ []) false [])
unfolding clap_on_literals
replay_top program word = refl

replay_rest : (word : Text) → top_of (codes "replay") word [] ≡ []
unfolding clap_on_literals
replay_rest word = refl

replay_leaf : (word : Text) → leaf_of (sub_of 3) word [] (nothing_held, value) ≡ []
unfolding clap_on_literals
replay_leaf word = refl

extract_top : (program word : Text) → fault_of cops (program ∷ codes "extract" ∷ word ∷ []) ≡ top_of (codes "extract") word (level_fault (sub_of 4) [] nothing_held (word ∷ []) false [])
unfolding clap_on_literals
extract_top program word = refl

extract_rest : (word : Text) → top_of (codes "extract") word [] ≡ []
unfolding clap_on_literals
extract_rest word = refl

extract_leaf : (word : Text) → leaf_of (sub_of 4) word [] (nothing_held, value) ≡ []
unfolding clap_on_literals
extract_leaf word = refl

serve_top : (program word : Text) → fault_of cops (program ∷ codes "serve" ∷ word ∷ []) ≡ top_of (codes "serve") word (level_fault (sub_of 6) [] nothing_held (word ∷ []) false [])
unfolding clap_on_literals
serve_top program word = refl

serve_rest : (word : Text) → top_of (codes "serve") word [] ≡ []
unfolding clap_on_literals
serve_rest word = refl

serve_leaf : (word : Text) → leaf_of (sub_of 6) word [] (nothing_held, value) ≡ []
unfolding clap_on_literals
serve_leaf word = refl

-- the word after the option of `audit`
abbrev only_walk : Walk
only_walk = walked (sub_of 2).rules [] (walk_from nothing_held) (codes "--tenant")

abbrev only_of : Shape → Text → Kinds → Held × Step → Kinds
only_of s word wrong met =
    let end = (after_step s.rules word only_walk met.0 met.1).held in
    or_else (or_else (or_else wrong (step_fault s 1 met.0 met.1)) [])
    (or_else [] (or_else (settle_fault s.rules s.args_override_self end)
    (or_else (defaults_fault (settled s.rules end).rows s.rules)
    (check_fault s (finished s.rules end) false))))

abbrev only_top : Text → Kinds → Kinds
only_top word below =
    let a = built cops in
    let words = codes "audit" ∷ codes "--tenant" ∷ word ∷ [] in
    level_fault a.top (names_of a) nothing_held words (is_some (entered a (stop_after a.top.rules (names_of a) words))) below

only_top_is : (program word : Text) → fault_of cops (program ∷ codes "audit" ∷ codes "--tenant" ∷ word ∷ []) ≡ only_top word (level_fault (sub_of 2) [] nothing_held (codes "--tenant" ∷ word ∷ []) false [])
unfolding clap_on_literals
only_top_is program word = refl

only_rest : (word : Text) → only_top word [] ≡ []
unfolding clap_on_literals
only_rest word = refl

only_is : (word : Text) → level_fault (sub_of 2) [] nothing_held (codes "--tenant" ∷ word ∷ []) false []
    ≡ only_of (sub_of 2) word (word_fault (sub_of 2) [] false (option (codes "tenant")) word only_walk.held) (word_met (sub_of 2).rules [] false (option (codes "tenant")) 1 word only_walk.held)
unfolding clap_on_literals
only_is word = refl

only_leaf : (word : Text) → only_of (sub_of 2) word [] (plain_word (sub_of 2).rules (option (codes "tenant")) word only_walk.held) ≡ []
unfolding clap_on_literals
only_leaf word = refl

leaf_passes : (s : Shape) (word : Text) → strip_byte 45 word ≡ None → bytes_eq word (45 ∷ 45 ∷ []) ≡ false → leaf_of s word [] (nothing_held, value) ≡ [] → level_fault s [] nothing_held (word ∷ []) false [] ≡ []
leaf_passes s word none other leaf = leaf_is s word ∙ ap₂ (leaf_of s word) (passes word none other s nothing_held) (is_value word none other s.rules nothing_held) ∙ leaf

hyphens_differ : (word : Text) → IsTrue (is_plain word) → (strip_byte 45 word ≡ None) × (bytes_eq word (45 ∷ 45 ∷ []) ≡ false)
hyphens_differ [] plain = (refl, refl)
hyphens_differ (byte ∷ bytes) plain = let other : (byte == 45) ≡ false = is_no (byte == 45) plain in (no_hyphen byte bytes other, no_hyphens byte bytes other)
  where
    is_no : (b : Bool) → IsTrue (not b) → b ≡ false
    is_no false e = refl
    is_no true e = absurd (false_is_true e)

pub solo_passes : (program word : Text) → IsTrue (is_plain word) → fault_of cops (program ∷ codes "solo" ∷ word ∷ []) ≡ []
solo_passes program word plain =
    let none = hyphens_differ word plain in
    solo_top program word ∙ ap (top_of (codes "solo") word) (leaf_passes (sub_of 1) word none.0 none.1 (solo_leaf word)) ∙ solo_rest word

pub replay_passes : (program word : Text) → IsTrue (is_plain word) → fault_of cops (program ∷ codes "replay" ∷ word ∷ []) ≡ []
replay_passes program word plain =
    let none = hyphens_differ word plain in
    replay_top program word ∙ ap (top_of (codes "replay") word) (leaf_passes (sub_of 3) word none.0 none.1 (replay_leaf word)) ∙ replay_rest word

pub extract_passes : (program word : Text) → IsTrue (is_plain word) → fault_of cops (program ∷ codes "extract" ∷ word ∷ []) ≡ []
extract_passes program word plain =
    let none = hyphens_differ word plain in
    extract_top program word ∙ ap (top_of (codes "extract") word) (leaf_passes (sub_of 4) word none.0 none.1 (extract_leaf word)) ∙ extract_rest word

pub serve_passes : (program word : Text) → IsTrue (is_plain word) → fault_of cops (program ∷ codes "serve" ∷ word ∷ []) ≡ []
serve_passes program word plain =
    let none = hyphens_differ word plain in
    serve_top program word ∙ ap (top_of (codes "serve") word) (leaf_passes (sub_of 6) word none.0 none.1 (serve_leaf word)) ∙ serve_rest word

pub only_passes : (program word : Text) → IsTrue (is_plain word) → fault_of cops (program ∷ codes "audit" ∷ codes "--tenant" ∷ word ∷ []) ≡ []
only_passes program word plain =
    let none = hyphens_differ word plain in
    let waits = passes_option word none.0 none.1 (sub_of 2) (codes "tenant") only_walk.held in
    let is = is_option_value word none.0 none.1 (sub_of 2).rules (codes "tenant") only_walk.held in
    only_top_is program word ∙ ap (only_top word) (only_is word ∙ ap₂ (only_of (sub_of 2) word) waits is ∙ only_leaf word) ∙ only_rest word

pub run_passes : (program : Text) → fault_of cops (program ∷ codes "run" ∷ []) ≡ []
unfolding clap_on_literals
run_passes program = refl

pub audit_passes : (program : Text) → fault_of cops (program ∷ codes "audit" ∷ []) ≡ []
unfolding clap_on_literals
audit_passes program = refl

pub migrate_passes : (program : Text) → fault_of cops (program ∷ codes "migrate" ∷ []) ≡ []
unfolding clap_on_literals
migrate_passes program = refl

pub plain_passes : (words : List Text) → ArePlain words → fault_of cops words ≡ []
plain_passes [] plain = absurd plain
plain_passes (program ∷ []) plain = absurd plain
plain_passes (program ∷ command ∷ []) plain = elim plain [
  | inl run ↦ subst (λ (text : Text). fault_of cops (program ∷ text ∷ []) ≡ []) (sym run) (run_passes program)
  | inr others ↦ elim others [
    | inl audit ↦ subst (λ (text : Text). fault_of cops (program ∷ text ∷ []) ≡ []) (sym audit) (audit_passes program)
    | inr migrate ↦ subst (λ (text : Text). fault_of cops (program ∷ text ∷ []) ≡ []) (sym migrate) (migrate_passes program)
  ]
]
plain_passes (program ∷ command ∷ word ∷ []) plain = elim plain.1 [
  | inl solo ↦ subst (λ (text : Text). fault_of cops (program ∷ text ∷ word ∷ []) ≡ []) (sym solo) (solo_passes program word plain.0)
  | inr others ↦ elim others [
    | inl replay ↦ subst (λ (text : Text). fault_of cops (program ∷ text ∷ word ∷ []) ≡ []) (sym replay) (replay_passes program word plain.0)
    | inr last ↦ elim last [
      | inl extract ↦ subst (λ (text : Text). fault_of cops (program ∷ text ∷ word ∷ []) ≡ []) (sym extract) (extract_passes program word plain.0)
      | inr serve ↦ subst (λ (text : Text). fault_of cops (program ∷ text ∷ word ∷ []) ≡ []) (sym serve) (serve_passes program word plain.0)
    ]
  ]
]
plain_passes (program ∷ command ∷ name ∷ word ∷ []) plain =
    subst (λ (text : Text). fault_of cops (program ∷ text ∷ name ∷ word ∷ []) ≡ []) (sym plain.1)
    (subst (λ (text : Text). fault_of cops (program ∷ codes "audit" ∷ text ∷ word ∷ []) ≡ []) (sym plain.2) (only_passes program word plain.0))
plain_passes (program ∷ command ∷ name ∷ word ∷ more ∷ rest) plain = absurd plain

-- ---- how words are refused

is_lack : (k : ErrorKind) → (k ≡ kind.OutOfMemory) ⊎ (k ≢ kind.OutOfMemory)
is_lack kind.OutOfMemory = inl refl
is_lack other = inr (λ e. cc)

pub refused_as : (words : List Text) (error : Error) → HasKind (fault_of cops words) error → (ended : CliFault) → RefusesWords error ended → (ended ≡ OutOfMemory) ⊎ IsRefusedAs words ended
refused_as words error has ended refuses = elim (is_lack (kind_of error)) [
  | inl lack ↦ inl (refuses.lack lack)
  | inr other ↦ elim has [
    | inl lack ↦ absurd (other lack)
    | inr among ↦ inr (subst (IsRefusedAs words) (sym (refuses.words other)) among)
  ]
]

-- words that have no such reason
pub only_lack : (error : Error) → HasKind [] error → kind_of error ≡ kind.OutOfMemory
only_lack error has = elim has [ inl lack ↦ lack | inr none ↦ absurd none ]

pub err_as : {T : Type 0} → (result : Result T CliFault) (Q P : CliFault → Type 0) → ((ended : CliFault) → Q ended → P ended) → IsErrAnd result Q → IfErr result P
err_as (Ok taken) Q P weaker refused = tt
err_as (Err ended) Q P weaker refused = weaker ended refused
