-- Requests that are answered in the bytes that were read.
use Rattle.std.proofs.Common.{◌≡◌, ℕ, ◌+◌, ◌<◌, ◌≤◌, Bool, true, false, List, [], ◌∷◌, ◌++◌, length, drop, inl, inr, Option, Some, None, arith, refl, sym, ap, ◌∙◌}
use Rattle.cops_types.specs.Sink.{AppendsFront}
use Rattle.cops_wire.specs.declared.first_frames.Frame.TheVariants.{Partial, Broken, Whole}
use Rattle.cops_wire.specs.declared.messages.Message.{Message}
use Rattle.cops_wire.specs.Serving.{Gathers, GathersFront, GathersSome, IsBodyAnswered, IsBodyUnanswered, IsSent, IsWalked, WritesReplyFront, WritesSomeReplies}
use Rattle.cops_wire.specs.Streams.{after_messages, first_frame, frame_of_body, split_of}
use Rattle.cops_wire.proofs.AnsweredRequests.{all_written, front_sent, front_unsent, none_gathered, none_written, one_unkept, some_gathered, some_written}
use Rattle.cops_wire.proofs.AnsweredRequests as answered
use Rattle.cops_wire.proofs.Decoding.{one_more, parted_broken, parted_partial}
use Rattle.cops_wire.proofs.StreamLaws.{split_of-whole}

walked_map : (bytes : List ℕ) (F G : Bool → Type 0) (taken : Option ℕ) → ((all : Bool) → F all → G all) → IsWalked (split_of bytes) bytes F taken → IsWalked (split_of bytes) bytes G taken
walked_map bytes F G (Some taken) f h = (f true h.0, h.1)
walked_map bytes F G None f (inl other) = inl (f false other)
walked_map bytes F G None f (inr h) = inr (f true h.0, h.1)

-- whatever came, something holds of a prefix
walked_some : (bytes : List ℕ) (F : Bool → Type 0) (G : Type 0) (taken : Option ℕ) → ((all : Bool) → F all → G) → IsWalked (split_of bytes) bytes F taken → G
walked_some bytes F G (Some taken) f h = f true h.0
walked_some bytes F G None f (inl other) = f false other
walked_some bytes F G None f (inr h) = f true h.0

module _ {S : Type 0} (answers : S → Message → Message → S → Type 0) where
  -- the bytes up to a place are messages that are answered
  pub record WalkedSoFar (bytes : List ℕ) (taken : ℕ) (old new : S) (a b : Option (List ℕ)) (start output : List ℕ) : Type 0 where
    pub done : List Message
    pub gathers : Gathers answers old new done a b start output
    pub within : taken ≤ length bytes
    pub so_far : after_messages done (split_of (drop taken bytes)) ≡ after_messages [] (split_of bytes)

  pub walk_begins : (bytes : List ℕ) (s : S) (a : Option (List ℕ)) (output : List ℕ) → WalkedSoFar bytes 0 s s a a output output
  walk_begins bytes s a output = record { done = []; gathers = none_gathered answers s a output; within = omega arith; so_far = refl }

  -- the contents are the same
  pub walk_kept : (bytes : List ℕ) (taken : ℕ) (old new : S) (a b c : Option (List ℕ)) (start output : List ℕ) → c ≡ b → WalkedSoFar bytes taken old new a b start output → WalkedSoFar bytes taken old new a c start output
  walk_kept bytes taken old new a b c start output same h = rw same h

  parts : (bytes : List ℕ) (taken : ℕ) (old new : S) (a b : Option (List ℕ)) (start output : List ℕ) (h : WalkedSoFar bytes taken old new a b start output)
      → (split_of bytes).messages ≡ h.done ++ (split_of (drop taken bytes)).messages
  parts bytes taken old new a b start output h = sym (ap (λ s. s.messages) h.so_far)

  next_parts : (bytes : List ℕ) (taken size : ℕ) (old new : S) (a b : Option (List ℕ)) (start output : List ℕ) (m : Message) (h : WalkedSoFar bytes taken old new a b start output) → first_frame (drop taken bytes) ≡ Whole m size
      → (split_of bytes).messages ≡ h.done ++ m ∷ (split_of (drop size (drop taken bytes))).messages
  next_parts bytes taken size old new a b start output m h e =
      parts bytes taken old new a b start output h ∙ ap (λ s. h.done ++ s.messages) (split_of-whole (drop taken bytes) m size e)

  pub walked_partial : (bytes : List ℕ) (taken : ℕ) (old new : S) (a b : Option (List ℕ)) (start output : List ℕ)
      → WalkedSoFar bytes taken old new a b start output → first_frame (drop taken bytes) ≡ Partial
      → IsWalked (split_of bytes) bytes (GathersFront answers old new (split_of bytes).messages a b start output) (Some taken)
  walked_partial bytes taken old new a b start output h e =
      let p = parted_partial bytes taken [] h.done h.within e h.so_far in
      (record { requests = h.done; front = p.1; gathers = h.gathers }, p.0)

  pub walked_broken : (bytes : List ℕ) (taken : ℕ) (old new : S) (a b : Option (List ℕ)) (start output : List ℕ)
      → WalkedSoFar bytes taken old new a b start output → first_frame (drop taken bytes) ≡ Broken
      → IsWalked (split_of bytes) bytes (GathersFront answers old new (split_of bytes).messages a b start output) None
  walked_broken bytes taken old new a b start output h e =
      let p = parted_broken bytes taken [] h.done e h.so_far in
      inr (record { requests = h.done; front = p.1; gathers = h.gathers }, p.0)

  -- a body that is no request's
  pub walked_other : (bytes : List ℕ) (taken size : ℕ) (read : Option Message) (old mid new : S) (a b : Option (List ℕ)) (start output later : List ℕ) (is : Bool)
      → WalkedSoFar bytes taken old mid a b start output → first_frame (drop taken bytes) ≡ frame_of_body size read → IsBodyAnswered answers read mid new output later is → is ≡ false
      → IsWalked (split_of bytes) bytes (GathersFront answers old new (split_of bytes).messages a b start later) None
  walked_other bytes taken size read old mid new a b start output later true h e f is_other = cc
  walked_other bytes taken size None old mid new a b start output later false h e f is_other =
      rw (f.1, f.2) (walked_broken bytes taken old mid a b start output h e)
  walked_other bytes taken size (Some m) old mid new a b start output later false h e f is_other =
      let gathers : Gathers answers old new h.done a b start later = rw (f.1, f.2) h.gathers in
      inl (record {
        requests = h.done;
        front = (m, (split_of (drop size (drop taken bytes))).messages, next_parts bytes taken size old mid a b start output m h e, f.0);
        gathers = gathers;
      })

  -- one request more
  pub record WalksOn (bytes : List ℕ) (taken size : ℕ) (old new : S) (a b : Option (List ℕ)) (start later : List ℕ) : Type 0 where
    pub some : 0 < size
    pub walked : WalkedSoFar bytes (taken + size) old new a b start later

  pub walked_whole : (bytes : List ℕ) (taken size : ℕ) (read : Option Message) (old mid new : S) (a b : Option (List ℕ)) (start output later : List ℕ) (is : Bool)
      → WalkedSoFar bytes taken old mid a b start output → first_frame (drop taken bytes) ≡ frame_of_body size read → IsBodyAnswered answers read mid new output later is → is ≡ true
      → WalksOn bytes taken size old new a b start later
  walked_whole bytes taken size read old mid new a b start output later false h e f yes_is = cc
  walked_whole bytes taken size read old mid new a b start output later true h e f yes_is =
      let whole : first_frame (drop taken bytes) ≡ Whole f.0 size = e ∙ ap (frame_of_body size) f.2 in
      let on = one_more bytes taken size [] h.done f.0 h.within whole h.so_far in
      record {
        some = on.some;
        walked = record {
          done = h.done ++ f.0 ∷ [];
          gathers = answered.one_more answers old mid new h.done f.0 f.1 a b start output later h.gathers f.3 f.4 f.5;
          within = on.within;
          so_far = on.so_far;
        };
      }

  -- all that was gathered is written
  pub walked_written : (bytes : List ℕ) (old new : S) (a b c : Option (List ℕ)) (start output later : List ℕ) (taken : Option ℕ) → start ≡ [] → later ≡ []
      → IsWalked (split_of bytes) bytes (GathersFront answers old new (split_of bytes).messages a b start output) taken → IsSent b c output later
      → IsWalked (split_of bytes) bytes (WritesReplyFront answers old new (split_of bytes).messages a c) taken
  walked_written bytes old new a b c start output later taken none sent_all h sent =
      walked_map bytes (GathersFront answers old new (split_of bytes).messages a b start output) (WritesReplyFront answers old new (split_of bytes).messages a c) taken (λ all gathers.
      all_written answers old new (split_of bytes).messages a c start later all none sent_all (front_sent answers old new (split_of bytes).messages a b c start output later all gathers sent)) h

  pub walked_unsent : (bytes : List ℕ) (old new : S) (a b c : Option (List ℕ)) (start output : List ℕ) (taken : Option ℕ) → start ≡ []
      → IsWalked (split_of bytes) bytes (GathersFront answers old new (split_of bytes).messages a b start output) taken → AppendsFront b c output
      → WritesSomeReplies answers old new (split_of bytes).messages a c
  walked_unsent bytes old new a b c start output taken none h front =
      walked_some bytes (GathersFront answers old new (split_of bytes).messages a b start output) (WritesSomeReplies answers old new (split_of bytes).messages a c) taken (λ all gathers.
      some_written answers old new (split_of bytes).messages a c start none (front_unsent answers old new (split_of bytes).messages a b c start output all gathers front)) h

  pub walk_sent : (bytes : List ℕ) (taken : ℕ) (old new : S) (a b c : Option (List ℕ)) (start output later : List ℕ) → WalkedSoFar bytes taken old new a b start output → IsSent b c output later
      → WalkedSoFar bytes taken old new a c start later
  walk_sent bytes taken old new a b c start output later h sent =
      record { done = h.done; gathers = answered.sent_on answers old new h.done a b c start output later h.gathers sent; within = h.within; so_far = h.so_far }

  -- memory was refused, or what was gathered could not be written
  pub walk_unanswered : (bytes : List ℕ) (taken size : ℕ) (read : Option Message) (old mid new : S) (a b : Option (List ℕ)) (start output : List ℕ)
      → WalkedSoFar bytes taken old mid a b start output → first_frame (drop taken bytes) ≡ frame_of_body size read → IsBodyUnanswered answers read mid new → GathersSome answers old new (split_of bytes).messages a b start
  walk_unanswered bytes taken size read old mid new a b start output h e (inl same) =
      rw same (some_gathered answers old mid (split_of bytes).messages h.done (split_of (drop taken bytes)).messages a b b start output (parts bytes taken old mid a b start output h) h.gathers (none_written b output))
  walk_unanswered bytes taken size read old mid new a b start output h e (inr (m, reply, is, asked, answer)) =
      one_unkept answers old mid new (split_of bytes).messages h.done (split_of (drop size (drop taken bytes))).messages m reply a b start output
      (next_parts bytes taken size old mid a b start output m h (e ∙ ap (frame_of_body size) is)) h.gathers asked answer

  pub walk_unsent : (bytes : List ℕ) (taken : ℕ) (old new : S) (a b c : Option (List ℕ)) (start output : List ℕ) → WalkedSoFar bytes taken old new a b start output → AppendsFront b c output
      → GathersSome answers old new (split_of bytes).messages a c start
  walk_unsent bytes taken old new a b c start output h front =
      some_gathered answers old new (split_of bytes).messages h.done (split_of (drop taken bytes)).messages a b c start output (parts bytes taken old new a b start output h) h.gathers front
