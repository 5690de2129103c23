-- A step of a carrier is the definition's, for each carrier that it stands for.
use Rattle.std.proofs.Common.{◌≡◌, ℕ, ◌<◌, false, List, [], ◌∷◌, ◌++◌, length, max, get_or, refl, sym, ◌∙◌, ap, subst, ◌⊎◌, inl, inr}
use Rattle.std.proofs.Math.Nat.{eq-or-lt_of_le}
use Rattle.std.proofs.lemmas.List.Elements.{filter_map-append}
use Rattle.std.proofs.lemmas.Option.{slice_get-get_or}
use Rattle.cops_types.specs.declared.pairs.Pair.{Pair}
use Rattle.cops_types.specs.Version.{no_version}
use Rattle.cops_model.specs.declared.calls.NodeReply.{NodeReply}
use Rattle.cops_model.specs.Log.{Call, Directed, LogStep, Replied, replies_of, reply_in}
use Rattle.cops_model.specs.declared.deliveries.Delivery.{Delivery}
use Rattle.cops_model.specs.declared.deliveries.Progress.TheVariants.{Working, Done}
use Rattle.cops_repl.specs.declared.stages.After.TheVariants.{Goes, Ends}
use Rattle.cops_repl.specs.declared.stages.Stage.{Stage}
use Rattle.cops_repl.specs.declared.stages.Stage.TheVariants.{Pulling, Carrying, Stored, Over}
use Rattle.cops_model.specs.Carrier.{Carrier, Stream, next_after, progress_of}
use Rattle.cops_repl.specs.Stands.{CarrierStandsFor, IsStepFrom, IsStepOf, KeptCarrier, LeadTo, has_ended, stage_is_over}
use Rattle.cops_repl.proofs.NextSteps.{asks_acknowledge, asks_check, asks_commit, asks_pull}

-- replies that lead to a stage are followed by a call
pub call_follows : (shards : ℕ) (stream : Stream) (replies : List NodeReply) (stage : Stage) → LeadTo shards stream replies stage → (d : Directed) × (next_after shards stream replies ≡ Call d)
call_follows shards stream replies Pulling led = (_, asks_pull shards stream replies led)
call_follows shards stream replies (Carrying entry checked) led = by (eq-or-lt_of_le led.1)
  where
    by : (checked ≡ length entry.near) ⊎ (checked < length entry.near) → (d : Directed) × (next_after shards stream replies ≡ Call d)
    by (inl all) = (_, asks_commit shards stream entry replies (subst (λ n. LeadTo shards stream replies (Carrying entry n)) all led))
    by (inr less) =
        let none : Pair = record { key = []; version = no_version } in
        (_, asks_check shards stream entry checked (get_or entry.near checked none) (slice_get-get_or entry.near checked none less) replies led)
call_follows shards stream replies (Stored pair fresh) led = (_, asks_acknowledge shards stream pair fresh replies led)
call_follows shards stream replies Over led = absurd led

-- a carrier that stands for one has not ended
pub stands_goes_on : (shards : ℕ) (carrier : KeptCarrier) (solo : Carrier) → CarrierStandsFor shards carrier solo → has_ended carrier ≡ false
stands_goes_on shards carrier solo stands = by carrier.stage stands.led_here
  where
    by : (stage : Stage) → LeadTo shards solo.stream (replies_of solo.log) stage → stage_is_over stage ≡ false
    by Pulling led = refl
    by (Carrying entry checked) led = refl
    by (Stored pair fresh) led = refl
    by Over led = absurd led

replies-push : (log : List LogStep) (moment : ℕ) (reply : NodeReply) → replies_of (log ++ record { moment = moment; outcome = Replied reply } ∷ []) ≡ replies_of log ++ reply ∷ []
replies-push log moment reply = filter_map-append (λ (s : LogStep). reply_in s.outcome) log (record { moment = moment; outcome = Replied reply } ∷ [])

module _ (inside seen : KeptCarrier) (same : inside ≡ seen) (moment now : ℕ) (max_is : now ≡ max inside.moment moment) (d : Directed) (reply : NodeReply) where
  pub step_goes : (stage : Stage) → IsStepFrom inside.shards inside.stream inside.stage d reply (Goes stage) → (shards : ℕ) (solo : Carrier) → CarrierStandsFor shards seen solo →
      IsStepOf shards solo d (record { moment = max solo.moment moment; outcome = Replied reply }) Working (record { stream = inside.stream; shards = inside.shards; moment = now; stage = stage })
  step_goes stage from shards solo stands =
      let shards_are : inside.shards ≡ shards = ap (λ (k : KeptCarrier). k.shards) same ∙ stands.shards_are in
      let stream_is : inside.stream ≡ solo.stream = ap (λ (k : KeptCarrier). k.stream) same ∙ stands.stream_is in
      let led : LeadTo shards solo.stream (replies_of solo.log) inside.stage = subst (λ (k : KeptCarrier). LeadTo shards solo.stream (replies_of solo.log) k.stage) (sym same) stands.led_here in
      let here = subst (λ (s : Stream). IsStepFrom shards s inside.stage d reply (Goes stage)) stream_is (subst (λ (n : ℕ). IsStepFrom n inside.stream inside.stage d reply (Goes stage)) shards_are from) in
      let log = solo.log ++ record { moment = max solo.moment moment; outcome = Replied reply } ∷ [] in
      let after : LeadTo shards solo.stream (replies_of log) stage = subst (λ rs. LeadTo shards solo.stream rs stage) (sym (replies-push solo.log (max solo.moment moment) reply)) (here.1 (replies_of solo.log) led) in
      record {
        asked = here.0 (replies_of solo.log) led;
        shown = sym (ap progress_of (call_follows shards solo.stream (replies_of log) stage after).1);
        stands =
            record {
              shards_are = shards_are;
              stream_is = stream_is;
              moment_is = max_is ∙ ap (λ (k : KeptCarrier). max k.moment moment) same ∙ ap (λ m. max m moment) stands.moment_is;
              led_here = after;
            };
      }

  pub step_ends : (ending : Delivery) → IsStepFrom inside.shards inside.stream inside.stage d reply (Ends ending) → (shards : ℕ) (solo : Carrier) → CarrierStandsFor shards seen solo →
      IsStepOf shards solo d (record { moment = max solo.moment moment; outcome = Replied reply }) (Done ending) (record { stream = inside.stream; shards = inside.shards; moment = now; stage = Over })
  step_ends ending from shards solo stands =
      let shards_are : inside.shards ≡ shards = ap (λ (k : KeptCarrier). k.shards) same ∙ stands.shards_are in
      let stream_is : inside.stream ≡ solo.stream = ap (λ (k : KeptCarrier). k.stream) same ∙ stands.stream_is in
      let led : LeadTo shards solo.stream (replies_of solo.log) inside.stage = subst (λ (k : KeptCarrier). LeadTo shards solo.stream (replies_of solo.log) k.stage) (sym same) stands.led_here in
      let here = subst (λ (s : Stream). IsStepFrom shards s inside.stage d reply (Ends ending)) stream_is (subst (λ (n : ℕ). IsStepFrom n inside.stream inside.stage d reply (Ends ending)) shards_are from) in
      record {
        asked = here.0 (replies_of solo.log) led;
        shown = sym (ap progress_of (ap (next_after shards solo.stream) (replies-push solo.log (max solo.moment moment) reply) ∙ here.1 (replies_of solo.log) led));
        stands = refl;
      }
