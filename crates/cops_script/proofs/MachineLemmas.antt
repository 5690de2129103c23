-- What is answered to a line behind a head keeps to the rules.
use Rattle.std.proofs.Common.{◌≡◌, ℕ, Bool, true, false, List, ◌++◌, refl, sym, subst, ap, ◌∙◌}
use Rattle.std.specs.Prelude.{is_some, IsTrue, Option, Some, None, Result}
use Rattle.std.specs.declared.alloc.AllocError.{AllocError}
use Rattle.std.specs.Str.{bytes_eq}
use Rattle.cops_types.specs.declared.configs.Tenant.{Tenant}
use Rattle.cops_types.specs.declared.faults.Fault.TheVariants.{Syntax, UnknownTenant}
use Rattle.cops_script.specs.HostLines.{admitted_in, closed_in}
use Rattle.cops_script.specs.LineAnswers.{Answers}
use Rattle.cops_types.specs.OpenSlots.{open_at, open_slot_of_name}
use Rattle.cops_types.specs.Words.{first_word}
use Rattle.cops_model.specs.declared.replies.HostReply.{HostReply}
use Rattle.cops_model.specs.declared.replies.HostReply.TheVariants.{Denied}
use Rattle.cops_model.specs.declared.acts.Act.{Act}
use Rattle.cops_model.specs.declared.replies.Reply.{Reply}
use Rattle.cops_model.specs.declared.replies.Reply.TheVariants.{Refused}
use Rattle.cops_script.specs.ActLines.{act_in}
use Rattle.cops_model.specs.Cluster.{SoloCluster}
use Rattle.cops_script.specs.Said.{Said, OfHost, admission_of, begins_admission, begins_closing, closing_of, said_found, said_by, said_in}
use Rattle.cops_model.specs.Setups.{Setup}
use Rattle.cops_script.specs.Acting.{HasActed, HasStayed, told_act}
use Rattle.cops_script.specs.Answers.{ToHost, ToTenant, host_line, open_name, reply_line, slot_line}
use Rattle.cops_script.specs.Doing.{IsDone}
use Rattle.cops_script.specs.AllRules.{IsAnswered}
use Rattle.cops_script.proofs.SaidLines.{named_open}

-- a tenant who is found by name is open
pub open_found : (tenants : List (Option Tenant)) (word : List ℕ) (slot : ℕ) → open_slot_of_name tenants word ≡ Some slot → IsTrue (is_some (open_at slot tenants))
open_found tenants word slot e = ap is_some (named_open tenants word slot e).1

-- whether the line begins with this word, as it was tested
pub first_is : {t : Bool} (line word literal sign : List ℕ) (tested : Bool) → word ≡ first_word line → literal ≡ sign → tested ≡ bytes_eq word literal → tested ≡ t → bytes_eq (first_word line) sign ≡ t
first_is line word literal sign tested is_first is_literal is_tested e = (λ i. bytes_eq (sym is_first i) (sym is_literal i)) ∙ sym is_tested ∙ e

-- what a line of the host says
pub admission_said : (tenants : List (Option Tenant)) (line : List ℕ) → begins_admission line ≡ true → said_in tenants line ≡ OfHost (admission_of tenants (admitted_in line))
admission_said tenants line is = rw is refl

pub closing_said : (tenants : List (Option Tenant)) (line : List ℕ) → begins_admission line ≡ false → begins_closing line ≡ true → said_in tenants line ≡ OfHost (closing_of tenants (closed_in line))
closing_said tenants line other is = rw other (rw is refl)

-- what another line says
pub tenant_said : (tenants : List (Option Tenant)) (line : List ℕ) → begins_admission line ≡ false → begins_closing line ≡ false → said_in tenants line ≡ said_found line (open_slot_of_name tenants (first_word line))
tenant_said tenants line other another = rw other (rw another refl)

module _ {W : Type 0} (setup : W → Setup) (StandsFor : W → ℕ → SoloCluster → Type 0) where
  pub stays_as_it_is : (old : W) → HasStayed setup StandsFor old old
  stays_as_it_is old = record { same = refl; clusters = λ slot cluster h. h }

  -- it may be answered so
  abbrev pub MayAnswer : W → Said → List ℕ → W → Type 0
  MayAnswer old said text new = IsAnswered setup StandsFor old said text new

  -- no tenant has the name
  pub answers_nobody : (old : W) (line word : List ℕ) (tenants : List (Option Tenant)) (searched : Option ℕ) (out new_out : List ℕ) → tenants ≡ (setup old).tenants → word ≡ first_word line →
      searched ≡ open_slot_of_name tenants word → searched ≡ None → new_out ≡ out ++ host_line (Denied UnknownTenant) → Answers (MayAnswer old (said_found line (open_slot_of_name (setup old).tenants (first_word line)))) old out new_out
  answers_nobody old line word tenants searched out new_out is_of is_first is_found e appended =
      let found : open_slot_of_name (setup old).tenants (first_word line) ≡ None = (λ i. open_slot_of_name (sym is_of i) (sym is_first i)) ∙ sym is_found ∙ e in
      record {
        text = host_line (Denied UnknownTenant);
        answered = subst (λ o. MayAnswer old (said_found line o) (host_line (Denied UnknownTenant)) old) (sym found) (ToHost (Denied UnknownTenant), (refl, stays_as_it_is old), refl);
        appended = appended;
      }

  -- the line writes an act, which the tenant did and gets the reply to; or it writes none
  pub done_written : (old new : W) (slot : ℕ) (written : Option Act) (act : Act) (answered : Result Reply AllocError) (reply : Reply) → written ≡ Some act → reply ≡ told_act answered → HasActed setup StandsFor old (record { slot = slot; act = act }) answered new →
      IsDone setup StandsFor old (said_by slot written) (ToTenant slot reply) new
  done_written old new slot written act answered reply e told acted = subst (λ o. IsDone setup StandsFor old (said_by slot o) (ToTenant slot reply) new) (sym e) (answered, ap (ToTenant slot) told, acted)

  pub done_unwritten : (old : W) (slot : ℕ) (written : Option Act) → written ≡ None → IsDone setup StandsFor old (said_by slot written) (ToTenant slot (Refused Syntax)) old
  done_unwritten old slot written e = subst (λ o. IsDone setup StandsFor old (said_by slot o) (ToTenant slot (Refused Syntax)) old) (sym e) (refl, stays_as_it_is old)

  -- the tenant gets the answer
  pub answers_told : (old new : W) (line word : List ℕ) (tenants : List (Option Tenant)) (searched : Option ℕ) (slot : ℕ) (name : List ℕ) (reply : Reply) (out new_out : List ℕ) → tenants ≡ (setup old).tenants → word ≡ first_word line →
      searched ≡ open_slot_of_name tenants word → searched ≡ Some slot → name ≡ open_name tenants slot → IsDone setup StandsFor old (said_by slot (act_in (first_word line) line)) (ToTenant slot reply) new →
      new_out ≡ out ++ reply_line name reply → Answers (MayAnswer old (said_found line (open_slot_of_name (setup old).tenants (first_word line)))) new out new_out
  answers_told old new line word tenants searched slot name reply out new_out is_of is_first is_found e is_name done appended =
      let found : open_slot_of_name (setup old).tenants (first_word line) ≡ Some slot = (λ i. open_slot_of_name (sym is_of i) (sym is_first i)) ∙ sym is_found ∙ e in
      let text = slot_line (setup old).tenants (ToTenant slot reply) in
      let same : reply_line name reply ≡ text = ap (λ n. reply_line n reply) (is_name ∙ ap (λ ts. open_name ts slot) is_of) in
      record {
        text = text;
        answered = subst (λ o. MayAnswer old (said_found line o) text new) (sym found) (ToTenant slot reply, done, refl);
        appended = appended ∙ ap (λ t. out ++ t) same;
      }

  -- the host gets the answer
  pub answers_host : (old new : W) (said : Said) (reply : HostReply) (out new_out : List ℕ) → IsDone setup StandsFor old said (ToHost reply) new → new_out ≡ out ++ host_line reply → Answers (MayAnswer old said) new out new_out
  answers_host old new said reply out new_out done appended = record { text = host_line reply; answered = (ToHost reply, done, refl); appended = appended }
