-- Answers as they are seen by what their state shows, and what all of them keep.
use Rattle.std.proofs.Common.{ℕ, List, [], ◌∷◌, Option, Result, Ok, Err, OnErr, ap}
use Rattle.std.specs.Prelude.{IfOk}
use Rattle.cops_types.specs.declared.request_errors.RequestError.{RequestError}
use Rattle.cops_wire.specs.declared.messages.Message.{Message}
use Rattle.cops_wire.specs.declared.serving.Ended.{Ended}
use Rattle.cops_wire.specs.Serving.{Serves, ServesAll, ServesInPart}

-- what each answer keeps, all of them keep
module _ {S : Type 0} (Holds : S → Type 0) (answers : S → Message → Message → S → Type 0) (each : (old : S) (request reply : Message) (new : S) → Holds old → answers old request reply new → Holds new) where
  Serves-kept : (old new : S) (requests replies : List Message) → Holds old → Serves answers old requests replies new → Holds new
  Serves-kept old new [] replies p h = rw h.1 p
  Serves-kept old new (request ∷ requests) replies p h = Serves-kept h.1 new requests h.2 (each old request h.0 h.1 p h.3) h.4

  pub served_kept : (stream : List ℕ) (answered : List Message) (remaining new_remaining contents new_contents : Option (List ℕ)) (old new : S) (result : Result Ended RequestError) → Holds old
      → IfOk result (ServesAll answers stream answered remaining new_remaining contents new_contents old new)
      → OnErr result (ServesInPart answers stream answered remaining contents new_contents old new) → Holds new
  served_kept stream answered remaining new_remaining contents new_contents old new (Ok ended) p all part = Serves-kept old new all.requests all.replies p all.served
  served_kept stream answered remaining new_remaining contents new_contents old new (Err error) p all part = Serves-kept old new part.requests part.replies p part.served

-- each answer is seen so, as long as what it keeps holds
module _ {S T : Type 0} (Holds : S → Type 0) (shown : S → T) (answers : S → Message → Message → S → Type 0) (seen : T → Message → Message → T → Type 0)
    (keeps : (old : S) (request reply : Message) (new : S) → Holds old → answers old request reply new → Holds new)
    (sees : (old : S) (request reply : Message) (new : S) → Holds old → answers old request reply new → seen (shown old) request reply (shown new)) where
  Serves-seen : (old new : S) (requests replies : List Message) → Holds old → Serves answers old requests replies new → Serves seen (shown old) requests replies (shown new)
  Serves-seen old new [] replies p h = (h.0, ap shown h.1)
  Serves-seen old new (request ∷ requests) replies p h =
      (h.0, shown h.1, h.2, sees old request h.0 h.1 p h.3, Serves-seen h.1 new requests h.2 (keeps old request h.0 h.1 p h.3) h.4, h.5)

  pub all_seen : (stream : List ℕ) (answered : List Message) (remaining new_remaining contents new_contents : Option (List ℕ)) (old new : S) (ended : Ended) → Holds old
      → ServesAll answers stream answered remaining new_remaining contents new_contents old new ended
      → ServesAll seen stream answered remaining new_remaining contents new_contents (shown old) (shown new) ended
  all_seen stream answered remaining new_remaining contents new_contents old new ended p h = record {
    input = h.input;
    read = h.read;
    messages = h.messages;
    are = h.are;
    all = h.all;
    requests = h.requests;
    replies = h.replies;
    front = h.front;
    asked = h.asked;
    served = Serves-seen old new h.requests h.replies p h.served;
    ends = h.ends;
    written = h.written;
  }

  pub part_seen : (stream : List ℕ) (answered : List Message) (remaining contents new_contents : Option (List ℕ)) (old new : S) → Holds old
      → ServesInPart answers stream answered remaining contents new_contents old new
      → ServesInPart seen stream answered remaining contents new_contents (shown old) (shown new)
  part_seen stream answered remaining contents new_contents old new p h = record {
    input = h.input;
    new_remaining = h.new_remaining;
    read = h.read;
    messages = h.messages;
    are = h.are;
    requests = h.requests;
    later = h.later;
    whole = h.whole;
    asked = h.asked;
    replies = h.replies;
    served = Serves-seen old new h.requests h.replies p h.served;
    torn = h.torn;
    cause = h.cause;
    written = h.written;
  }
