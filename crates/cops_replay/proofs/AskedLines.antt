-- What a record line says before the reply, and the text of the reply.
use Rattle.cops_replay.proofs.Names.{◌≡◌, ℕ, Bool, false, List, [], ◌∷◌, refl, sym, subst, ap, ◌∙◌, arith, IsTrue, ◌↔◌, Option, Some, None, AllByRecursion, join_with_byte, bytes_eq, nat_tests, TenantConfig, parts_at, space, spaced, Lacks, bytes_from_test, parts_back, parts_joined, same_bytes, same_value, NodeReply, SoloNode, Asked, Record, read_asked, read_reply, record_told, record_with, Read, then_read, version_in, has_form, is_reply, reply_words, Agrees, IsLineReplayed, IsReplied, Lone, option_map, Refused, reply_told, whole, done_with}
use Rattle.cops_replay.proofs.LinesBack.{reply_back, reply_free}
use Rattle.cops_replay.proofs.LinesSpelled.{reply_is}

-- ---- the text of a reply

words_of_text : (reply : NodeReply) (words : List (List ℕ)) → read_reply version_in words ≡ Some (reply, []) → AllByRecursion (Lacks space) words → parts_at space (spaced words) ≡ words
words_of_text reply [] read lack = absurd (let clash : None ≡ Some (reply, []) = read in cc)
words_of_text reply (word ∷ words) read lack = parts_joined space word words lack.0 lack.1

pub reply_spelled : (reply : NodeReply) → IsTrue (is_reply reply) → reply_told (spaced (reply_words reply)) ≡ Some reply
reply_spelled reply h =
    let read = reply_back reply h in
    ap (λ words. whole (read_reply version_in words)) (words_of_text reply (reply_words reply) read (reply_free space (omega arith) reply h)) ∙ ap whole read

pub reply_text : (text : List ℕ) (reply : NodeReply) → reply_told text ≡ Some reply → (text ≡ spaced (reply_words reply)) × IsTrue (is_reply reply)
reply_text text reply e =
    let spells = reply_is (parts_at space text) reply e in
    (sym (parts_back space text) ∙ ap (join_with_byte space) spells.0, spells.1)

-- what has a line has a form
formed : (reply : NodeReply) → IsTrue (is_reply reply) → IsTrue (has_form reply)
formed (Refused fault) h = h
formed reply h = refl

-- a text is compared with that of the reply
pub told_by_text : (text written : List ℕ) (reply : NodeReply) (same : Bool) → same ≡ bytes_eq written text → written ≡ spaced (reply_words reply) → IsTrue (is_reply reply) → IsTrue same ↔ (reply_told text ≡ Some reply)
told_by_text text written reply same test is h = (
  (λ yes. ap reply_told (sym (bytes_from_test written text (sym test ∙ yes)) ∙ is) ∙ reply_spelled reply h),
  (λ says. test ∙ ap (bytes_eq written) ((reply_text text reply says).0 ∙ sym is) ∙ same_bytes written),
)

-- no text is that of a reply without a form
pub told_by_none : (text : List ℕ) (reply : NodeReply) → has_form reply ≡ false → IsTrue false ↔ (reply_told text ≡ Some reply)
told_by_none text reply none = ((λ h. absurd (let no : ⊥ = cc in no)), (λ says. sym none ∙ formed reply (reply_text text reply says).1))

-- ---- a line is replayed

-- the record that is read, once the words before the reply are
abbrev told_after : Read (List ℕ × Asked) → Option Record
told_after r =
    option_map (λ (read : List ℕ × Record). read.1) (whole (then_read (λ (asked : List ℕ × Asked). λ w1. then_read (λ reply. done_with (asked.0, record_with asked.1 reply)) (read_reply version_in w1)) r))

-- it is that of the call and of the reply that is read then
with_reply : (tenant : List ℕ) (asked : Asked) (r : Read NodeReply) →
    option_map (λ (read : List ℕ × Record). read.1) (whole (then_read (λ reply. done_with {A = List ℕ × Record} (tenant, record_with asked reply)) r)) ≡ option_map (record_with asked) (whole r)
with_reply tenant asked r = grind (arith, nat_tests)

module _ (config : TenantConfig) (line : List ℕ) (words : List (List ℕ)) (solos : List SoloNode) (new : Lone) (are : words ≡ parts_at space line) where
  nothing_told : record_told line ≡ None → IsLineReplayed config line solos false new
  nothing_told none = λ told some agrees. (let clash : None ≡ Some told = sym none ∙ some in cc)

  told_is_after : record_told line ≡ told_after (read_asked version_in words)
  told_is_after = ap (λ ws. told_after (read_asked version_in ws)) (sym are)

  pub line_without_call : read_asked version_in words ≡ None → IsLineReplayed config line solos false new
  line_without_call none = nothing_told (told_is_after ∙ ap told_after none)

  module _ (asked : List ℕ × Asked) (rest : List (List ℕ)) (read : read_asked version_in words ≡ Some (asked, rest)) where
    line_is : record_told line ≡ option_map (record_with asked.1) (whole (read_reply version_in rest))
    line_is = told_is_after ∙ ap told_after read ∙ with_reply asked.0 asked.1 (read_reply version_in rest)

    pub line_without_reply : rest ≡ [] → IsLineReplayed config line solos false new
    line_without_reply none = nothing_told (line_is ∙ ap (λ ws. option_map (record_with asked.1) (whole (read_reply version_in ws))) none)

    module _ (text : List ℕ) (left : rest ≡ parts_at space text) where
      told_is : record_told line ≡ option_map (record_with asked.1) (reply_told text)
      told_is = line_is ∙ ap (λ ws. option_map (record_with asked.1) (whole (read_reply version_in ws))) left

      -- a record of the line is one of the call and the reply that the text says
      of_text : (told : Record) → record_told line ≡ Some told → Agrees config told solos
          → ((reply : NodeReply) → reply_told text ≡ Some reply → Agrees config (record_with asked.1 reply) solos → ⊥) → ⊥
      of_text told some agrees wrong = by_reply (reply_told text) refl (sym told_is ∙ some)
        where
          by_reply : (r : Option NodeReply) → reply_told text ≡ r → option_map (record_with asked.1) r ≡ Some told → ⊥
          by_reply None is e = (let clash : None ≡ Some told = e in cc)
          by_reply (Some reply) is e = wrong reply is (subst (λ (t : Record). Agrees config t solos) (sym (same_value (record_with asked.1 reply) told e)) agrees)

      pub line_not_replied : IsReplied config asked.1 solos None new → IsLineReplayed config line solos false new
      line_not_replied none = λ told some agrees. of_text told some agrees (λ reply is agreeing. none reply agreeing)

      pub line_replied : (reply : NodeReply) (same : Bool) → IsReplied config asked.1 solos (Some reply) new → (IsTrue same ↔ (reply_told text ≡ Some reply)) → IsLineReplayed config line solos same new
      line_replied reply same h2 h3 = grind (arith, nat_tests, of_text, told_is)
