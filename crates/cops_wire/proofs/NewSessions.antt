-- A new session has the sizes of its configuration, and what it serves is a conversation.
use Rattle.std.proofs.Common.{◌≡◌, ℕ, ◌<◌, ◌∙◌, List, [], ◌∷◌, inl, inr, length, arith, ap, sym, subst, append-nil, get_or}
use Rattle.std.specs.Prelude.{◌⊎◌, slice_get, Option, Some, Ok, Err, IsTrue}
use Rattle.std.proofs.lemmas.Option.{slice_get-get_or}
use Rattle.cops_types.specs.declared.configs.Config.{Config}
use Rattle.cops_types.specs.declared.configs.Tenant.{Tenant}
use Rattle.cops_types.specs.declared.request_errors.RequestError.{RequestError}
use Rattle.cops_types.specs.HeadLines.{are_sizes}
use Rattle.cops_types.specs.TenantConfig.{tenant_config}
use Rattle.cops_node.specs.Clusters.{shape_of}
use Rattle.cops_node.specs.declared.Shape.{Shape}
use Rattle.cops_model.specs.declared.calls.NodeCall.{NodeCall}
use Rattle.cops_model.specs.declared.calls.NodeId.{NodeId}
use Rattle.cops_model.specs.declared.calls.NodeReply.{NodeReply}
use Rattle.cops_session.specs.Kept.{IsOfSizes, KeptSession}
use Rattle.cops_model.specs.Session.{Session, new_session}
use Rattle.cops_session.specs.SessionStands.{SessionStandsFor}
use Rattle.cops_wire.specs.declared.messages.Message.{Message}
use Rattle.cops_wire.specs.declared.serving.Ended.{Ended}
use Rattle.cops_wire.specs.Conversation.{HasConversed, HasConversedInPart, IsGreetedInPart}
use Rattle.cops_wire.specs.Decoding.{KeptBytes}
use Rattle.cops_wire.specs.Greeting.{Greets, GreetsInPart, IsStopped, greeting_reply}
use Rattle.cops_wire.specs.Requests.{Answers, backend}
use Rattle.cops_wire.specs.Serving.{HasServed, HasServedInPart, ServesAll, ServesInPart}
use Rattle.cops_wire.specs.Spelling.{spelling}
use Rattle.cops_wire.proofs.Conversations.{few_restarts}

pub there_is : (tenants : List Tenant) (slot : ℕ) → slot < length tenants → (tenant : Tenant) × (slice_get tenants slot ≡ Some tenant)
there_is [] slot lt = absurd (omega arith)
there_is (first ∷ tenants) slot lt = (get_or (first ∷ tenants) slot first, slice_get-get_or (first ∷ tenants) slot first lt)

pub new_sizes : (config : Config) (shape : Shape) (kept : KeptSession) (solo : Session) (slot : ℕ) → shape ≡ shape_of config → slot < length config.tenants →
    ((tenant : Tenant) → slice_get config.tenants slot ≡ Some tenant → SessionStandsFor (tenant_config config tenant) kept solo) →
    IsOfSizes shape.data_centres shape.shards kept.setting
new_sizes config shape kept solo slot is lt stands =
    let found = there_is config.tenants slot lt in
    let setting = (stands found.0 found.1).setting_is in
    record {
      data_centres_are = setting.data_centres ∙ ap (λ (s : Shape). s.data_centres) (sym is);
      shards_are = setting.shards ∙ ap (λ (s : Shape). s.shards) (sym is);
    }

pub conversed : {N M : Type 0} (Calls : N → NodeId → ℕ → ℕ → NodeCall → NodeReply → N → Type 0) (Gives : M → ℕ → M → Type 0) (config : Config) (remaining greeted_remaining new_remaining contents greeted_contents new_contents : Option (List ℕ))
    (nodes new_nodes : N) (moments new_moments : M) (ended : Ended) (slot dc : ℕ) (tenant : Tenant) (kept : KeptBytes) (waiting : List Message) (hello : Message) (session new_session_kept : KeptSession)
    → IsTrue (are_sizes config) → slice_get config.tenants slot ≡ Some tenant → (greets : Greets config.tenants config.data_centres remaining greeted_remaining contents greeted_contents kept waiting (Ok (slot, dc)))
    → greets.messages ≡ hello ∷ waiting → SessionStandsFor (tenant_config config tenant) session (new_session dc 1) → session.setting.slot ≡ slot
    → HasServed Calls Gives greets.came.input (hello ∷ []) greeted_remaining greeted_contents new_contents (backend session nodes moments) (backend new_session_kept new_nodes new_moments) new_remaining ended
    → HasConversed Calls Gives config remaining new_remaining contents new_contents nodes new_nodes moments new_moments ended
conversed Calls Gives config remaining greeted_remaining new_remaining contents greeted_contents new_contents nodes new_nodes moments new_moments ended slot dc tenant kept waiting hello session new_session_kept sizes is greets first stands slot_is h =
    let served = h (tenant_config config tenant) (new_session dc 1) (few_restarts config tenant sizes) stands in
    record {
      slot = slot;
      dc = dc;
      tenant = tenant;
      tenant_is = is;
      greeted_remaining = greeted_remaining;
      greeted_contents = greeted_contents;
      kept = kept;
      waiting = waiting;
      greets = greets;
      hello = hello;
      first = first;
      after = served.0;
      serves = subst (λ n. ServesAll (Answers Calls Gives (tenant_config config tenant) n) greets.came.input (hello ∷ []) greeted_remaining new_remaining greeted_contents new_contents
          (backend (new_session dc 1) nodes moments) (backend served.0 new_nodes new_moments) ended) slot_is served.2;
    }

-- ---- if something failed

-- why a greeting was refused or stopped, and what of its answer was written
pub greeted_in_part : (tenants : List Tenant) (dcs : ℕ) (remaining new_remaining contents new_contents : Option (List ℕ)) (kept : KeptBytes) (waiting : List Message) (error : RequestError) (same read write : Type 0)
    → (same → new_contents ≡ contents)
    → (Greets tenants dcs remaining new_remaining contents new_contents kept waiting (Err error) ⊎ IsStopped error same (same × read) (write × GreetsInPart tenants dcs remaining new_remaining contents new_contents kept))
    → IsGreetedInPart tenants dcs remaining contents new_contents
greeted_in_part tenants dcs remaining new_remaining contents new_contents kept waiting error same read write is (inl greets) =
    inr (
      new_remaining,
      kept,
      record {
        messages = greets.messages;
        came = greets.came;
        written = (
          [],
          record {
            written = spelling (greeting_reply (Err error));
            whole = ap (λ a. spelling (greeting_reply a)) (sym greets.answer_is) ∙ sym (append-nil (spelling (greeting_reply (Err error))));
            appended = greets.written;
          },
        );
      },
    )
greeted_in_part tenants dcs remaining new_remaining contents new_contents kept waiting error same read write is (inr (inl stopped)) = inl (is stopped.1)
greeted_in_part tenants dcs remaining new_remaining contents new_contents kept waiting error same read write is (inr (inr (inl stopped))) = inl (is stopped.1.0)
greeted_in_part tenants dcs remaining new_remaining contents new_contents kept waiting error same read write is (inr (inr (inr stopped))) = inr (new_remaining, kept, stopped.1.1)

pub conversed_in_part : {N M : Type 0} (Calls : N → NodeId → ℕ → ℕ → NodeCall → NodeReply → N → Type 0) (Gives : M → ℕ → M → Type 0) (config : Config) (remaining greeted_remaining contents greeted_contents new_contents : Option (List ℕ))
    (nodes new_nodes : N) (moments new_moments : M) (slot dc : ℕ) (tenant : Tenant) (kept : KeptBytes) (waiting : List Message) (hello : Message) (session new_session_kept : KeptSession)
    → IsTrue (are_sizes config) → slice_get config.tenants slot ≡ Some tenant → (greets : Greets config.tenants config.data_centres remaining greeted_remaining contents greeted_contents kept waiting (Ok (slot, dc)))
    → greets.messages ≡ hello ∷ waiting → SessionStandsFor (tenant_config config tenant) session (new_session dc 1) → session.setting.slot ≡ slot
    → HasServedInPart Calls Gives greets.came.input (hello ∷ []) greeted_remaining greeted_contents new_contents (backend session nodes moments) (backend new_session_kept new_nodes new_moments)
    → HasConversedInPart Calls Gives config remaining contents new_contents nodes new_nodes moments new_moments
conversed_in_part Calls Gives config remaining greeted_remaining contents greeted_contents new_contents nodes new_nodes moments new_moments slot dc tenant kept waiting hello session new_session_kept sizes is greets first stands slot_is h =
    let served = h (tenant_config config tenant) (new_session dc 1) (few_restarts config tenant sizes) stands in
    inr (record {
      slot = slot;
      dc = dc;
      tenant = tenant;
      tenant_is = is;
      greeted_remaining = greeted_remaining;
      greeted_contents = greeted_contents;
      kept = kept;
      waiting = waiting;
      greets = greets;
      hello = hello;
      first = first;
      after = served.0;
      serves = subst (λ n. ServesInPart (Answers Calls Gives (tenant_config config tenant) n) greets.came.input (hello ∷ []) greeted_remaining greeted_contents new_contents
          (backend (new_session dc 1) nodes moments) (backend served.0 new_nodes new_moments)) slot_is served.2;
    })
