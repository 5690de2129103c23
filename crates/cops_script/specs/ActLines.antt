-- The lines of a script that are acts.
use Rattle.std.specs.Prelude.{◌≡◌, ℕ, Bool, ◌&&◌, nat_lt, nat_le, if◌then◌else◌, List, [], ◌∷◌, length, codes, decimal, IsTrue, Option, Some, None}
use Rattle.std.specs.List.{list_all}
use Rattle.std.specs.Option.{option_map, option_and_then}
use Rattle.std.specs.Str.{bytes_eq}
use Rattle.cops_types.specs.HeadLines.{is_name, is_between}
use Rattle.cops_types.specs.Lines.{longest_line}
use Rattle.cops_types.specs.Words.{spaced, is_word, is_u64, number_of, parts_at, space}
use Rattle.cops_model.specs.declared.acts.Act.{Act}
use Rattle.cops_model.specs.declared.acts.Act.TheVariants.{Open, Create, Delete, Put, Get, Show, Carry, Step, Done, Collect}

-- ---- how an act is written

-- the words after the tenant's name
abbrev pub words_of_act : Act → List (List ℕ)
words_of_act (Open name dc) = codes "open" ∷ name ∷ decimal dc ∷ []
words_of_act (Create name) = codes "ctx" ∷ name ∷ []
words_of_act (Delete name number) = codes "drop" ∷ name ∷ decimal number ∷ []
words_of_act (Put name number key value) = codes "put" ∷ name ∷ decimal number ∷ key ∷ value ∷ []
words_of_act (Get name number keys) = codes "get" ∷ name ∷ decimal number ∷ keys
words_of_act (Show name number) = codes "show" ∷ name ∷ decimal number ∷ []
words_of_act (Carry name dc shard to_dc) = codes "carry" ∷ name ∷ decimal dc ∷ decimal shard ∷ decimal to_dc ∷ []
words_of_act (Step name moment) = codes "step" ∷ name ∷ decimal moment ∷ []
words_of_act (Done name moment) = codes "done" ∷ name ∷ decimal moment ∷ []
words_of_act (Collect dc shard moment) = codes "collect" ∷ decimal dc ∷ decimal shard ∷ decimal moment ∷ []

-- ---- which acts have a line

-- names are valid, numbers are below 2 to the 64, a key may be any word, a value is a word of visible bytes, and a transaction has at least one key
abbrev pub has_line : Act → Bool
has_line (Open name dc) = is_name name && is_u64 dc
has_line (Create name) = is_name name
has_line (Delete name number) = is_name name && is_u64 number
has_line (Put name number key value) = is_name name && is_u64 number && is_word key && (is_word value && list_all (is_between 33 126) value)
has_line (Get name number keys) = is_name name && is_u64 number && nat_lt 0 (length keys) && list_all is_word keys
has_line (Show name number) = is_name name && is_u64 number
has_line (Carry name dc shard to_dc) = is_name name && is_u64 dc && is_u64 shard && is_u64 to_dc
has_line (Step name moment) = is_name name && is_u64 moment
has_line (Done name moment) = is_name name && is_u64 moment
has_line (Collect dc shard moment) = is_u64 dc && is_u64 shard && is_u64 moment

-- the line is this act of the tenant of this name
pub record IsActLine (tenant line : List ℕ) (act : Act) : Type 0 where
  pub spelled : line ≡ spaced (tenant ∷ words_of_act act)
  pub allowed : IsTrue (has_line act)
  pub short : IsTrue (nat_le (length line) longest_line)

-- ---- the same as a function that computes: a reading of the words, kept if it writes the line

-- the line of a tenant's act
abbrev pub act_line : List ℕ → Act → List ℕ
act_line tenant act = spaced (tenant ∷ words_of_act act)

-- a number from this word, and with it an act
abbrev pub with_number : {A : Type 0} → (ℕ → A) → List ℕ → Option A
with_number act word = option_map act (number_of word)

abbrev pub with_numbers : {A : Type 0} → (ℕ → ℕ → ℕ → A) → List ℕ → List ℕ → List ℕ → Option A
with_numbers act first second third = option_and_then (λ n. option_and_then (λ m. with_number (act n m) third) (number_of second)) (number_of first)

abbrev pub create_of : List (List ℕ) → Option Act
create_of (name ∷ []) = Some (Create name)
create_of words = None

-- a name and a number
abbrev pub named_of : (List ℕ → ℕ → Act) → List (List ℕ) → Option Act
named_of act (name ∷ number ∷ []) = with_number (act name) number
named_of act words = None

abbrev pub put_of : List (List ℕ) → Option Act
put_of (name ∷ number ∷ key ∷ value ∷ []) = with_number (λ n. Put name n key value) number
put_of words = None

abbrev pub get_of : List (List ℕ) → Option Act
get_of (name ∷ number ∷ keys) = with_number (λ n. Get name n keys) number
get_of words = None

abbrev pub carry_of : List (List ℕ) → Option Act
carry_of (name ∷ dc ∷ shard ∷ to_dc ∷ []) = with_numbers (Carry name) dc shard to_dc
carry_of words = None

abbrev pub collect_of : List (List ℕ) → Option Act
collect_of (dc ∷ shard ∷ moment ∷ []) = with_numbers Collect dc shard moment
collect_of words = None

abbrev pub act_of_verb : List ℕ → List (List ℕ) → Option Act
act_of_verb verb words =
    if bytes_eq verb (codes "open") then named_of Open words
    else if bytes_eq verb (codes "ctx") then create_of words
    else if bytes_eq verb (codes "drop") then named_of Delete words
    else if bytes_eq verb (codes "put") then put_of words
    else if bytes_eq verb (codes "get") then get_of words
    else if bytes_eq verb (codes "show") then named_of Show words
    else if bytes_eq verb (codes "carry") then carry_of words
    else if bytes_eq verb (codes "step") then named_of Step words
    else if bytes_eq verb (codes "done") then named_of Done words
    else if bytes_eq verb (codes "collect") then collect_of words
    else None

-- the act of the words, the first of which is the tenant's name
abbrev pub act_of_words : List (List ℕ) → Option Act
act_of_words (tenant ∷ verb ∷ words) = act_of_verb verb words
act_of_words words = None

abbrev pub checked_act : List ℕ → List ℕ → Act → Option Act
checked_act tenant line act = if bytes_eq (act_line tenant act) line && has_line act && nat_le (length line) longest_line then Some act else None

abbrev pub act_in : List ℕ → List ℕ → Option Act
act_in tenant line = option_and_then (checked_act tenant line) (act_of_words (parts_at space line))
