-- The calls of a request go to nodes that are there.
use Rattle.std.proofs.Common.{◌≡◌, ℕ, zero, suc, ◌<◌, Bool, true, false, List, [], ◌∷◌, map, refl, sym, ap, subst, ◌∙◌}
use Rattle.std.specs.Prelude.{Option, Some, None, slice_get, nat_lt, length, sum}
use Rattle.std.proofs.Math.Nat.{mod-lt}
use Rattle.cops_types.specs.declared.faults.Fault.{Fault}
use Rattle.cops_types.specs.TenantConfig.{TenantConfig}
use Rattle.cops_model.specs.declared.calls.NodeCall.TheVariants.{Get}
use Rattle.cops_model.specs.declared.calls.NodeReply.{NodeReply}
use Rattle.cops_model.specs.declared.requests.Answer.{Answer}
use Rattle.cops_model.specs.declared.requests.Answer.TheVariants.{Refused}
use Rattle.cops_types.specs.declared.faults.Fault.TheVariants.{Overrun}
use Rattle.cops_model.specs.Log.{Call, Directed, Ended, LogStep, Next, Restart, call_or, first_fault, replies_of}
use Rattle.cops_model.specs.Request.{Action, Attempt, Fetch, Request, Write, attempt_of, call_after, complete, is_late, key_home, next, request_calls, unless_fault, unless_late}
use Rattle.cops_model.specs.Transaction.{ReadRequest, gets}

-- the node of the call has a shard that there is, if there are shards
abbrev pub HasShard : TenantConfig → Directed → Type 0
HasShard config d = 0 < config.shards → d.node.shard < config.shards

home_has : (config : TenantConfig) (dc : ℕ) (key : List ℕ) (d : Directed) → key_home config dc key ≡ d.node → HasShard config d
home_has config dc key d is some = subst (λ n. n.shard < config.shards) is (mod-lt (sum key) some)

listed : (config : TenantConfig) (dc n : ℕ) (wishes : List ReadRequest) (d : Directed) → slice_get (map (λ (g : ReadRequest). record { node = key_home config dc g.key; call = Get g.key g.wanted }) wishes) n ≡ Some d → HasShard config d
listed config dc n [] d e = cc
listed config dc zero (g ∷ wishes) d e =
    let first : Directed = record { node = key_home config dc g.key; call = Get g.key g.wanted } in
    let same : first ≡ d = cc in
    home_has config dc g.key d (ap (λ (c : Directed). c.node) same)
listed config dc (suc n) (g ∷ wishes) d e = listed config dc n wishes d e

called : (config : TenantConfig) (request : Request) (replies : List NodeReply) (n : ℕ) (d : Directed) (action : Action) → slice_get (request_calls config request replies action) n ≡ Some d → HasShard config d
called config request replies zero d (Write key value) e =
    let same : slice_get (request_calls config request replies (Write key value)) 0 ≡ Some d = e in
    home_has config request.dc key d (node_is _ d same)
  where
    node_is : (c d : Directed) → Some c ≡ Some d → c.node ≡ d.node
    node_is c d is = let same : c ≡ d = cc in ap (λ (x : Directed). x.node) same
called config request replies (suc n) d (Write key value) e = cc
called config request replies n d (Fetch keys) e = listed config request.dc n (gets keys replies) d e

not_late : (late : Bool) (n : Next Answer) (d : Directed) → unless_late late n ≡ Call d → n ≡ Call d
not_late true (Call c) d e = cc
not_late true Restart d e = e
not_late true (Ended a) d e = e
not_late false n d e = e

asks : (fault : Option Fault) (o : Option Directed) (a : Answer) (d : Directed) → unless_fault fault (call_or o a) ≡ Call d → o ≡ Some d
asks None None a d e = cc
asks None (Some c) a d e = let same : c ≡ d = cc in ap Some same
asks (Some x) o a d e = cc

pub next_has : (config : TenantConfig) (request : Request) (log : List LogStep) (moment : ℕ) (d : Directed) → next config request log moment ≡ Call d → HasShard config d
next_has config request log moment d e = by_restarts (nat_lt config.restarts attempt.restarts) refl (not_late (is_late config.trans_time request.action attempt.steps moment) (call_after config request attempt) d e)
  where
    attempt : Attempt
    attempt = attempt_of request.action log

    replies : List NodeReply
    replies = replies_of attempt.steps

    over : nat_lt config.restarts attempt.restarts ≡ true → call_after config request attempt ≡ Ended (Refused Overrun)
    over many = rw many refl

    by_restarts : (t : Bool) → nat_lt config.restarts attempt.restarts ≡ t → call_after config request attempt ≡ Call d → HasShard config d
    by_restarts true many is = let clash : Ended (Refused Overrun) ≡ Call d = sym (over many) ∙ is in cc
    by_restarts false few is =
        let calls = request_calls config request replies request.action in
        let there : unless_fault (first_fault calls replies) (call_or (slice_get calls (length replies)) (complete config request replies request.action)) ≡ Call d = sym (rw few refl) ∙ is in
        called config request replies (length replies) d request.action (asks (first_fault calls replies) (slice_get calls (length replies)) (complete config request replies request.action) d there)
