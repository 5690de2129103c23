-- What clap makes of words, by computing.
use Rattle.std.proofs.Common.{◌≡◌, ◌≢◌, ◌⊎◌, inl, inr, arith, ◌<◌, ◌^◌, ◌∙◌, suc, ◌&&◌, not, ℕ, List, [], ◌∷◌, length, Option, Some, None, Bool, true, false, cond, codes, is_some, option_map, refl, sym, ap, ap₂, slice_get, subst, unwrap_or, Bor}
use Rattle.std.specs.List.{list_any}
use Rattle.std.specs.Prelude.{Result}
use Rattle.std.specs.Str.Parse.{ExplainsUnsignedError, HasUnsignedDigitsIfOk, IsNumeral, ParsesUnsigned, digits_value, without_leading_plus}
use Rattle.std.specs.declared.num.ParseIntError.{ParseIntError}
use Rattle.clap.specs.Facts.{explicit_source}
use Rattle.clap.specs.Matches.{ReadsOne, subcommand_name_of}
use Rattle.clap.specs.Walk.{Held, Names, answers_to, finished, nothing_held, settled, stop_after, walk, walk_from}
use Rattle.clap.specs.Words.{Row, Shape, Text, is_simple, subcommand_of, subcommand_rows_of}
use Rattle.clap.specs.Simple.{argument_words, built, entered, label_of, names_of, rows_at}
use Rattle.clap.specs.Kinds.{Kinds, check_kinds, or_else}
use Rattle.clap.specs.Takes.{is_given}
use Rattle.clap.specs.Faults.{check_fault, defaults_fault, entered_fault, fault_of, is_simple_and_free, level_fault, settle_fault, walk_fault}
use Rattle.clap.specs.declared.parser.matches.ArgMatches.{ArgMatches}
use Rattle.clap.specs.declared.parser.matches.ArgMatches.TheViews.{out-ArgMatches}
use Rattle.clap.proofs.OnLiterals.{clap_on_literals}
use Rattle.cops_cli.specs.CommandLine.{IsSpelledBy, cops, given_tenant, subcommand_named, tenant_word, with_given_tenant, with_tenant_word}

pub is_simple_cops : is_simple cops ≡ true
unfolding clap_on_literals
is_simple_cops = refl

pub is_free_cops : is_simple_and_free cops ≡ true
unfolding clap_on_literals
is_free_cops = refl

-- ---- lists and options

pub differ : (m n : ℕ) → m < n → m ≡ n → ⊥
differ m n less e = omega arith

abbrev number_of : Bool → ℕ
number_of false = 0
number_of true = 1

pub false_is_true : false ≡ true → ⊥
false_is_true e = differ 0 1 (omega arith) (ap number_of e)

none_is_some : {X : Type 0} {x : X} → None ≡ Some x → ⊥
none_is_some e = false_is_true (ap is_some e)

nil_is_cons : {X : Type 0} {x : X} {xs : List X} → [] ≡ x ∷ xs → ⊥
nil_is_cons e = differ 0 (suc _) (omega arith) (ap length e)

option_map-twice : {X Y Z : Type 0} (f : X → Y) (g : Y → Z) (o : Option X) → option_map g (option_map f o) ≡ option_map (λ x. g (f x)) o
option_map-twice f g None = refl
option_map-twice f g (Some x) = refl

is_some-none : {X Y : Type 0} (f : X → Y) (o : Option X) → option_map f o ≡ None → is_some o ≡ false
is_some-none f None e = refl
is_some-none f (Some x) e = absurd (none_is_some (sym e))

pub unwrap_or-now : (o : Option (Bor Text)) (d : Bor Text) → (unwrap_or o d).now ≡ unwrap_or (option_map (λ s. s.now) o) d.now
unwrap_or-now None d = refl
unwrap_or-now (Some s) d = refl

-- it is one of seven, or none
abbrev OneOf : {X : Type 0} → Option X → X → X → X → X → X → X → X → Type 0
OneOf o x y z w v u t = (o ≡ None) ⊎ ((o ≡ Some x) ⊎ ((o ≡ Some y) ⊎ ((o ≡ Some z) ⊎ ((o ≡ Some w) ⊎ ((o ≡ Some v) ⊎ ((o ≡ Some u) ⊎ (o ≡ Some t)))))))

either_of : {X : Type 0} (a b c d e f g : Bool) (x y z w v u t : X) → OneOf (cond a (Some x) (cond b (Some y) (cond c (Some z) (cond d (Some w) (cond e (Some v) (cond f (Some u) (cond g (Some t) None))))))) x y z w v u t
either_of true b c d e f g x y z w v u t = inr (inl refl)
either_of false true c d e f g x y z w v u t = inr (inr (inl refl))
either_of false false true d e f g x y z w v u t = inr (inr (inr (inl refl)))
either_of false false false true e f g x y z w v u t = inr (inr (inr (inr (inl refl))))
either_of false false false false true f g x y z w v u t = inr (inr (inr (inr (inr (inl refl)))))
either_of false false false false false true g x y z w v u t = inr (inr (inr (inr (inr (inr (inl refl))))))
either_of false false false false false false true x y z w v u t = inr (inr (inr (inr (inr (inr (inr refl))))))
either_of false false false false false false false x y z w v u t = inl refl

-- ---- what is named

-- the name of the subcommand, as the matches show it
pub name_in : (m : ArgMatches) → subcommand_name_of m ≡ option_map (λ (p : Text × List Row). p.0) (subcommand_rows_of m)
name_in m = sym (option_map-twice _ (λ (p : Text × List Row). p.0) (out-ArgMatches m).subcommand)

-- where the subcommand is this one, its words name the tenant
pub named_with_tenant : (word : Text) (found : Option (Text × List Row)) (rows : List Row) → option_map (λ (p : Text × List Row). p.0) found ≡ Some word → option_map (λ (p : Text × List Row). p.1) found ≡ Some rows
    → option_map with_tenant_word found ≡ Some (word, tenant_word rows)
named_with_tenant word None rows named with_rows = absurd (none_is_some named)
named_with_tenant word (Some p) rows named with_rows =
    let name : p.0 ≡ word = ap (λ o. unwrap_or o []) named in
    let its : p.1 ≡ rows = ap (λ o. unwrap_or o []) with_rows in
    ap₂ (λ (n : Text) (r : List Row). Some (with_tenant_word (n, r))) name its

-- the same for a tenant that may be left out
pub named_with_given : (word : Text) (found : Option (Text × List Row)) (rows : List Row) → option_map (λ (p : Text × List Row). p.0) found ≡ Some word → option_map (λ (p : Text × List Row). p.1) found ≡ Some rows
    → option_map with_given_tenant found ≡ Some (word, given_tenant rows)
named_with_given word None rows named with_rows = absurd (none_is_some named)
named_with_given word (Some p) rows named with_rows =
    let name : p.0 ≡ word = ap (λ o. unwrap_or o []) named in
    let its : p.1 ≡ rows = ap (λ o. unwrap_or o []) with_rows in
    ap₂ (λ (n : Text) (r : List Row). Some (with_given_tenant (n, r))) name its

-- where the subcommand is `serve`, these are the rows of what follows it
pub serve_is_named : (found : Option (Text × List Row)) (rows : List Row) → option_map (λ (p : Text × List Row). p.0) found ≡ Some (codes "serve") → option_map (λ (p : Text × List Row). p.1) found ≡ Some rows
    → found ≡ Some (codes "serve", rows)
serve_is_named None rows named with_rows = absurd (none_is_some named)
serve_is_named (Some p) rows named with_rows =
    let name : p.0 ≡ codes "serve" = ap (λ o. unwrap_or o []) named in
    let its : p.1 ≡ rows = ap (λ o. unwrap_or o []) with_rows in
    ap₂ (λ (n : Text) (r : List Row). Some (n, r)) name its

-- it is one of the subcommands
abbrev pub IsSubcommand : Option Text → Type 0
IsSubcommand found =
    (found ≡ Some (codes "run"))
    ⊎ ((found ≡ Some (codes "solo"))
    ⊎ ((found ≡ Some (codes "audit")) ⊎ ((found ≡ Some (codes "replay")) ⊎ ((found ≡ Some (codes "extract")) ⊎ ((found ≡ Some (codes "migrate")) ⊎ (found ≡ Some (codes "serve")))))))

by_found : (words : List Text) (x y z w v u t : Shape) (o : Option Shape) → OneOf o x y z w v u t → OneOf (option_map (λ (p : Text × List Row). p.0) (option_map (λ (s : Shape). rows_at s words) o)) x.name y.name z.name w.name v.name u.name t.name
by_found words x y z w v u t o found = elim found [
  | inl e ↦ inl (ap name_of e)
  | inr first ↦ elim first [
    | inl e ↦ inr (inl (ap name_of e))
    | inr second ↦ elim second [
      | inl e ↦ inr (inr (inl (ap name_of e)))
      | inr third ↦ elim third [
        | inl e ↦ inr (inr (inr (inl (ap name_of e))))
        | inr fourth ↦ elim fourth [
          | inl e ↦ inr (inr (inr (inr (inl (ap name_of e)))))
          | inr fifth ↦ elim fifth [
            | inl e ↦ inr (inr (inr (inr (inr (inl (ap name_of e))))))
            | inr sixth ↦ elim sixth [
              | inl e ↦ inr (inr (inr (inr (inr (inr (inl (ap name_of e)))))))
              | inr e ↦ inr (inr (inr (inr (inr (inr (inr (ap name_of e)))))))
            ]
          ]
        ]
      ]
    ]
  ]
]
  where
    name_of : Option Shape → Option Text
    name_of o = option_map (λ (p : Text × List Row). p.0) (option_map (λ (s : Shape). rows_at s words) o)

abbrev sub_of : ℕ → Shape
sub_of i = unwrap_or (slice_get (built cops).subs i) (built cops).top

by_stop : (stop : Option (Text × List Text)) → let name = option_map (λ (p : Text × List Row). p.0) (entered (built cops) stop) in (name ≡ None) ⊎ IsSubcommand name
by_stop None = inl refl
by_stop (Some p) =
    let is_it = λ (s : Shape). answers_to p.0 (label_of s) in
    by_found p.1 (sub_of 0) (sub_of 1) (sub_of 2) (sub_of 3) (sub_of 4) (sub_of 5) (sub_of 6) _
    (either_of (is_it (sub_of 0)) (is_it (sub_of 1)) (is_it (sub_of 2)) (is_it (sub_of 3)) (is_it (sub_of 4)) (is_it (sub_of 5)) (is_it (sub_of 6)) (sub_of 0) (sub_of 1) (sub_of 2) (sub_of 3) (sub_of 4) (sub_of 5) (sub_of 6))

-- the subcommands that can be found
pub subcommands : (words : List Text) → (subcommand_named words ≡ None) ⊎ IsSubcommand (subcommand_named words)
subcommands words = by_stop (stop_after (built cops).top.rules (names_of (built cops)) (argument_words cops words))

-- ---- numbers

-- how a text is read as a number
abbrev pub ReadsNumber : Text → Result ℕ ParseIntError → Type 0
ReadsNumber text r = ParsesUnsigned 64 10 text r × ExplainsUnsignedError 10 text r × HasUnsignedDigitsIfOk text r

-- what is read of a text is the number that it spells
pub spelled : (found : Option Text) (got : Option ℕ) (other n : ℕ) → ((text : Text) → found ≡ Some text → ReadsOne ReadsNumber text got) → n ≡ unwrap_or got other → IsSpelledBy found n
spelled None got other n reads is = tt
spelled (Some text) got other n reads is = λ numeral small. by_read got (reads text refl) is numeral small
  where
    by_read : (got : Option ℕ) → ReadsOne ReadsNumber text got → n ≡ unwrap_or got other → IsNumeral 10 (without_leading_plus text) → digits_value 10 (without_leading_plus text) < 2 ^ 64 → n ≡ digits_value 10 (without_leading_plus text)
    by_read (Some v) read is numeral small = is ∙ read.0.1
    by_read None read is numeral small = absurd (read.1.0 (numeral, small))

-- ---- what a parse that succeeds has found

or_else-last : (first next : Kinds) → or_else first next ≡ [] → next ≡ []
or_else-last [] next e = e
or_else-last (k ∷ ks) next e = absurd (nil_is_cons (sym e))

misses : (wants_help wants_subcommand wants_argument : Bool) → wants_subcommand ≡ true → check_kinds wants_help wants_subcommand wants_argument ≡ [] → ⊥
misses true m q is e = nil_is_cons (sym e)
misses false true q is e = nil_is_cons (sym e)
misses false false q is e = false_is_true is

level_checks : (s : Shape) (names : Names) (h : Held) (words : List Text) (has : Bool) (below : Kinds) → level_fault s names h words has below ≡ [] → check_fault s (finished s.rules (walk s.rules names h words).held) has ≡ []
level_checks s names h words has below e =
    let end = (walk s.rules names h words).held in
    or_else-last (defaults_fault (settled s.rules end).rows s.rules) _
    (or_else-last (settle_fault s.rules s.args_override_self end) _ (or_else-last below _ (or_else-last (walk_fault s names (walk_from h) words) _ e)))

checks_miss : (s : Shape) (rows : List Row) → s.subcommand_required ≡ true → check_fault s rows false ≡ [] → ⊥
checks_miss s rows required e =
    misses (s.arg_required_else_help && not (list_any (λ r. explicit_source r.source) rows)) s.subcommand_required
    (not (s.subcommand_negates_reqs && false) && list_any (λ a. a.required && not (is_given a.id rows)) s.rules) required e

pub is_found : (words : List Text) → fault_of cops words ≡ [] → subcommand_named words ≢ None
is_found words passes none =
    let a = built cops in
    let given = argument_words cops words in
    let walked = walk a.top.rules (names_of a) nothing_held given in
    let checks = level_checks a.top (names_of a) nothing_held given (is_some (entered a walked.stopped)) (entered_fault a walked.stopped) passes in
    let no_subcommand = is_some-none (λ (p : Text × List Row). p.0) (subcommand_of cops words) none in
    let rows = finished a.top.rules walked.held in
    checks_miss a.top rows refl (subst (λ b. check_fault a.top rows b ≡ []) no_subcommand checks)
