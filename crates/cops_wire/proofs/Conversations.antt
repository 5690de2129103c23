-- What the client of a whole connection receives is what it receives alone.
use Rattle.std.proofs.Common.{◌≡◌, ℕ, Bool, true, false, List, [], ◌∷◌, ◌++◌, ◌≤◌, inl, inr, drop, Option, Some, None, Ok, refl, sym, ap, subst, ◌∙◌, append_assoc, append-nil, arith}
use Rattle.std.specs.Prelude.{◌&&◌, slice_get, IsTrue}
use Rattle.std.proofs.lemmas.Bool.Decides.{nat_tests}
use Rattle.std.specs.Io.KnownBytes.{Consumes}
use Rattle.std.specs.List.{flat_map}
use Rattle.std.proofs.KnownBytes.{Appends-trans, Consumes-trans}
use Rattle.cops_types.specs.declared.configs.Config.{Config}
use Rattle.cops_types.specs.declared.configs.Tenant.{Tenant}
use Rattle.cops_types.specs.declared.faults.Fault.{Fault}
use Rattle.cops_types.specs.HeadLines.{are_sizes}
use Rattle.cops_types.specs.TenantConfig.{TenantConfig, tenant_config}
use Rattle.cops_model.specs.declared.calls.NodeCall.{NodeCall}
use Rattle.cops_model.specs.declared.calls.NodeId.{NodeId}
use Rattle.cops_model.specs.declared.calls.NodeReply.{NodeReply}
use Rattle.cops_model.specs.SoloNode.{SoloNode}
use Rattle.cops_model.specs.Session.{new_session}
use Rattle.cops_wire.specs.declared.messages.Message.{Message}
use Rattle.cops_wire.specs.declared.messages.Message.TheVariants.{Ready, Refused}
use Rattle.cops_wire.specs.declared.serving.Ended.{Ended}
use Rattle.cops_wire.specs.declared.serving.Ended.TheVariants.{Clean, Torn}
use Rattle.cops_wire.specs.Alone.{IsConnectionToldAlone, TellNone, left_alone, replies_alone, tells}
use Rattle.cops_wire.specs.Conversation.{IsConversation, IsReceivedAlone, are_requests, behind_first, conversation_end, ended_at, requests_in, unless_other}
use Rattle.cops_wire.specs.GoesAlone.{GoesAlone, IsReceivedAsAlone, TurnsAlone}
use Rattle.cops_wire.specs.Greeting.{greeted}
use Rattle.cops_wire.specs.Requests.{HasFewRestarts, backend}
use Rattle.cops_wire.specs.Serving.{AreFront, AreRequests, EndsSo, Serves, is_request, last_reply}
use Rattle.cops_wire.specs.Spelling.{spelling}
use Rattle.cops_wire.specs.Streams.{SplitStream, split_after, split_of}
use Rattle.cops_wire.proofs.StreamLaws.{split_of-append}

-- ---- requests

all_requests : (messages : List Message) → AreRequests messages → (messages ≡ requests_in messages) × (true ≡ are_requests messages)
all_requests [] h = (refl, refl)
all_requests (message ∷ messages) h =
    let later = all_requests messages h.1 in (
      ap (λ l. message ∷ l) later.0 ∙ ap (λ b. unless_other b (message ∷ requests_in messages)) (sym h.0),
      later.1 ∙ ap (λ b. b && are_requests messages) (sym h.0),
    )

some_requests : (requests : List Message) (other : Message) (others : List Message) → AreRequests requests → is_request other ≡ false
    → (requests ≡ requests_in (requests ++ other ∷ others)) × (false ≡ are_requests (requests ++ other ∷ others))
some_requests [] other others h e = (ap (λ b. unless_other b (other ∷ requests_in others)) (sym e), ap (λ b. b && are_requests others) (sym e))
some_requests (request ∷ requests) other others h e =
    let later = some_requests requests other others h.1 e in (
      ap (λ l. request ∷ l) later.0 ∙ ap (λ b. unless_other b (request ∷ requests_in (requests ++ other ∷ others))) (sym h.0),
      later.1 ∙ ap (λ b. b && are_requests (requests ++ other ∷ others)) (sym h.0),
    )

front_is : (all : Bool) (messages requests : List Message) → AreFront all messages requests → AreRequests requests → requests ≡ requests_in messages
front_is true messages requests is asked = is ∙ (all_requests messages (subst AreRequests is asked)).0
front_is false messages requests is asked = (some_requests requests is.0 is.1 asked is.3).0 ∙ ap requests_in (sym is.2)

-- ---- ends

clean_is : (all broken : Bool) (rest : List ℕ) → all ≡ true → broken ≡ false → rest ≡ [] → Clean ≡ ended_at all broken rest
clean_is all broken rest p q r = ap (λ a. ended_at a false []) (sym p) ∙ ap (λ b. ended_at all b []) (sym q) ∙ ap (λ l. ended_at all broken l) (sym r)

torn_broken : (all : Bool) (rest : List ℕ) → Torn ≡ ended_at all true rest
torn_broken true rest = refl
torn_broken false rest = refl

torn_inside : (all broken : Bool) (rest : List ℕ) → (rest ≡ [] → ⊥) → Torn ≡ ended_at all broken rest
torn_inside true true rest h = refl
torn_inside true false [] h = absurd (h refl)
torn_inside true false (byte ∷ rest) h = refl
torn_inside false broken rest h = refl

-- these are the requests of the whole stream, and its end
pub record IsWhole (stream : SplitStream) (requests : List Message) (ended : Ended) : Type 0 where
  pub requests_are : requests ≡ requests_in (behind_first stream.messages)
  pub end_is : ended ≡ conversation_end stream

more_messages : (split : SplitStream) (more : List ℕ) → (others : List Message) × ((split_after split more).messages ≡ split.messages ++ others)
more_messages split more = by_test split.broken refl
  where
    by_test : (b : Bool) → split.broken ≡ b → (others : List Message) × ((split_after split more).messages ≡ split.messages ++ others)
    by_test true e = ([], rw e (sym (append-nil split.messages)))
    by_test false e = ((split_of (split.rest ++ more)).messages, rw e refl)

broken_same : (split : SplitStream) (more : List ℕ) → split.broken ≡ true → split_after split more ≡ split
broken_same split more e = rw e refl

-- the requests of what was read, if nothing more is to be looked at
here : (all : Bool) (split : SplitStream) (hello : Message) (messages requests : List Message) → split.messages ≡ hello ∷ messages → AreFront all messages requests → AreRequests requests
    → requests ≡ requests_in (behind_first split.messages)
here all split hello messages requests e front asked = front_is all messages requests front asked ∙ ap (λ l. requests_in (behind_first l)) (sym e)

whole_is : (ended : Ended) (all : Bool) (split stream : SplitStream) (hello : Message) (messages requests : List Message) (rest : List ℕ)
    → stream ≡ split_after split rest → (rest ≡ [] → stream ≡ split) → split.messages ≡ hello ∷ messages → AreFront all messages requests → AreRequests requests → EndsSo ended all split (Some rest) → IsWhole stream requests ended
whole_is Clean all split stream hello messages requests rest on same e front asked ends =
    let every : are_requests (behind_first split.messages) ≡ true =
    ap (λ l. are_requests (behind_first l)) e
    ∙ sym (all_requests messages (subst AreRequests (subst (λ b. AreFront b messages requests) ends.0 front) asked)).1 in
    subst (λ (s : SplitStream). IsWhole s requests Clean) (sym (same ends.3))
    (record { requests_are = here all split hello messages requests e front asked; end_is = clean_is _ _ _ every ends.1 ends.2 })
whole_is Torn all split stream hello messages requests rest on same e front asked (inl other) =
    let is = subst (λ b. AreFront b messages requests) other front in
    let more = more_messages split rest in
    let longer : behind_first stream.messages ≡ requests ++ is.0 ∷ (is.1 ++ more.0) =
    ap (λ (s : SplitStream). behind_first s.messages) on
    ∙ ap behind_first (more.1 ∙ ap (λ l. l ++ more.0) e)
    ∙ ap (λ l. l ++ more.0) is.2 ∙ append_assoc requests (is.0 ∷ is.1) more.0 in
    let some = some_requests requests is.0 (is.1 ++ more.0) asked is.3 in
    record {
      requests_are = some.0 ∙ ap requests_in (sym longer);
      end_is = ap (λ a. ended_at a stream.broken stream.rest) (some.1 ∙ ap are_requests (sym longer));
    }
whole_is Torn all split stream hello messages requests rest on same e front asked (inr (inl broken)) =
    subst (λ (s : SplitStream). IsWhole s requests Torn) (sym (on ∙ broken_same split rest broken))
    (record {
      requests_are = here all split hello messages requests e front asked;
      end_is = torn_broken (are_requests (behind_first split.messages)) split.rest ∙ ap (λ b. ended_at (are_requests (behind_first split.messages)) b split.rest) (sym broken);
    })
whole_is Torn all split stream hello messages requests rest on same e front asked (inr (inr inside)) =
    subst (λ (s : SplitStream). IsWhole s requests Torn) (sym (same inside.1))
    (record { requests_are = here all split hello messages requests e front asked; end_is = torn_inside _ _ _ inside.0 })

-- what the whole stream begins with
begins : (split stream : SplitStream) (hello : Message) (messages : List Message) (rest : List ℕ) → stream ≡ split_after split rest → split.messages ≡ hello ∷ messages → slice_get stream.messages 0 ≡ Some hello
begins split stream hello messages rest on e =
    let more = more_messages split rest in
    ap (λ (s : SplitStream). slice_get s.messages 0) on ∙ ap (λ l. slice_get l 0) (more.1 ∙ ap (λ l. l ++ more.0) e)

-- a greeting that was taken has a first message
pub first_of : (tenants : List Tenant) (dcs : ℕ) (messages waiting : List Message) (place : ℕ × ℕ) → Ok place ≡ greeted tenants dcs (slice_get messages 0) → waiting ≡ drop 1 messages
    → (hello : Message) × (messages ≡ hello ∷ waiting)
first_of tenants dcs [] waiting place e w = absurd (let clash : ⊥ = cc in clash)
first_of tenants dcs (hello ∷ messages) waiting place e w = (hello, ap (λ l. hello ∷ l) (sym w))

-- no configuration allows as many restarts
pub few_restarts : (config : Config) (tenant : Tenant) → IsTrue (are_sizes config) → HasFewRestarts (tenant_config config tenant)
few_restarts config tenant h = let few : config.restarts ≤ 15 = grind (arith, nat_tests) in omega (arith, few)

-- ---- whole connections

module _ {N M : Type 0} (Calls : N → NodeId → ℕ → ℕ → NodeCall → NodeReply → N → Type 0) (Gives : M → ℕ → M → Type 0) (lost : Fault → Bool) (nodes_at : TenantConfig → ℕ → N → List SoloNode)
    (config : Config) (sent received : List ℕ) (nodes new_nodes : N) (moments new_moments : M) where
  -- what was read is a prefix of what was sent, and tells the requests, the end and the tenant of all of it
  pub record IsAllOf (h : IsConversation Calls Gives lost config sent received nodes new_nodes moments new_moments) : Type 0 where
    pub whole : IsWhole (split_of sent) h.conversed.serves.requests h.ended
    pub first : slice_get (split_of sent).messages 0 ≡ Some h.conversed.hello

  sent_whole : (h : IsConversation Calls Gives lost config sent received nodes new_nodes moments new_moments) → IsAllOf h
  sent_whole h =
      by_rest h.new_remaining (Consumes-trans (Some sent) h.conversed.greeted_remaining h.new_remaining h.conversed.greets.came.input h.conversed.serves.input h.conversed.greets.came.read h.conversed.serves.read) h.conversed.serves.ends
    where
      input : List ℕ
      input = h.conversed.greets.came.input ++ h.conversed.serves.input

      by_rest : (remaining : Option (List ℕ)) → Consumes (Some sent) remaining input → EndsSo h.ended h.conversed.serves.all (split_of input) remaining → IsAllOf h
      by_rest None read ends = absurd read
      by_rest (Some rest) read ends =
          let on : split_of sent ≡ split_after (split_of input) rest = ap split_of read ∙ split_of-append input rest in
          record {
            whole = whole_is h.ended h.conversed.serves.all (split_of input) (split_of sent) h.conversed.hello h.conversed.serves.messages h.conversed.serves.requests rest
                on (λ none. ap split_of (read ∙ ap (λ l. input ++ l) none ∙ append-nil input)) h.conversed.serves.are h.conversed.serves.front h.conversed.serves.asked ends;
            first = begins (split_of input) (split_of sent) h.conversed.hello h.conversed.serves.messages rest on h.conversed.serves.are;
          }

  pub received_is : (h : IsConversation Calls Gives lost config sent received nodes new_nodes moments new_moments)
      (told : IsConnectionToldAlone Gives (tenant_config config h.conversed.tenant) (nodes_at (tenant_config config h.conversed.tenant) h.conversed.slot) (backend (new_session h.conversed.dc 1) nodes moments)
      h.conversed.serves.requests h.conversed.serves.replies (backend h.conversed.after new_nodes new_moments))
      → (alone : IsReceivedAlone Gives nodes_at config sent received nodes new_nodes moments new_moments) × (alone.given ≡ told.given)
  received_is h told =
      let c = h.conversed in
      let own = tenant_config config c.tenant in
      let alone = backend (new_session c.dc 1) (nodes_at own c.slot nodes) told.given in
      let all = sent_whole h in (
        record {
          slot = c.slot;
          dc = c.dc;
          tenant = c.tenant;
          tenant_is = c.tenant_is;
          greeted_is = c.greets.answer_is ∙ ap (λ (l : List Message). greeted config.tenants config.data_centres (slice_get l 0)) c.first ∙ ap (greeted config.tenants config.data_centres) (sym all.first);
          given = told.given;
          are = told.are;
          received_is =
              Appends-trans (Some []) c.greeted_contents (Some received) (spelling Ready) (flat_map spelling (c.serves.replies ++ last_reply h.ended)) c.greets.written c.serves.written
              ∙ ap (λ l. spelling Ready ++ flat_map spelling (l ++ last_reply h.ended)) (told.told ∙ ap (λ l. replies_alone own l alone) all.whole.requests_are)
              ∙ ap (λ (e : Ended). spelling Ready ++ flat_map spelling (replies_alone own (requests_in (behind_first (split_of sent).messages)) alone ++ last_reply e)) all.whole.end_is;
          after = c.after;
          left = ap (λ l. left_alone own l alone) (sym all.whole.requests_are) ∙ told.left;
        },
        refl,
      )

  -- the same where replies may say that memory was refused
  pub received_so : (h : IsConversation Calls Gives lost config sent received nodes new_nodes moments new_moments)
      (told : GoesAlone Gives (tenant_config config h.conversed.tenant) (nodes_at (tenant_config config h.conversed.tenant) h.conversed.slot) (backend (new_session h.conversed.dc 1) nodes moments)
      h.conversed.serves.requests h.conversed.serves.replies (backend h.conversed.after new_nodes new_moments))
      → (as_alone : IsReceivedAsAlone Gives nodes_at config sent received nodes new_nodes moments new_moments) × (as_alone.alone.given ≡ told.given)
  received_so h told =
      let c = h.conversed in
      let own = tenant_config config c.tenant in
      let all = sent_whole h in (
        record {
          slot = c.slot;
          dc = c.dc;
          tenant = c.tenant;
          tenant_is = c.tenant_is;
          greeted_is = c.greets.answer_is ∙ ap (λ (l : List Message). greeted config.tenants config.data_centres (slice_get l 0)) c.first ∙ ap (greeted config.tenants config.data_centres) (sym all.first);
          replies = c.serves.replies;
          after = c.after;
          alone = record {
            given = told.given;
            are = told.are;
            goes =
                subst (λ requests. Serves (TurnsAlone own) (backend (new_session c.dc 1) (nodes_at own c.slot nodes) told.given) requests c.serves.replies (backend c.after (nodes_at own c.slot new_nodes) []))
                all.whole.requests_are told.goes;
          };
          received_is =
              Appends-trans (Some []) c.greeted_contents (Some received) (spelling Ready) (flat_map spelling (c.serves.replies ++ last_reply h.ended)) c.greets.written c.serves.written
              ∙ ap (λ (e : Ended). spelling Ready ++ flat_map spelling (c.serves.replies ++ last_reply e)) all.whole.end_is;
        },
        refl,
      )

-- no reply is one of no refusals
pub none_lost : (replies : List Message) → TellNone (λ fault. false) replies
none_lost [] = tt
none_lost (reply ∷ replies) = (one reply, none_lost replies)
  where
    one : (reply : Message) → tells (λ fault. false) reply ≡ false
    one (Refused fault) = refl
    one others = refl
