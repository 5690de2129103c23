-- The reply to a call at a node.
use Rattle.std.specs.Prelude.{Result, Ok, Err}
use Rattle.std.specs.declared.alloc.AllocError.{AllocError}
use Rattle.cops_types.specs.declared.faults.Fault.TheVariants.{OutOfMemory}
use Rattle.cops_model.specs.declared.calls.NodeReply.{NodeReply}
use Rattle.cops_model.specs.declared.calls.NodeReply.TheVariants.{Refused}

-- the node's reply, or out of memory
abbrev pub told_reply : Result NodeReply AllocError → NodeReply
told_reply (Ok reply) = reply
told_reply (Err error) = Refused OutOfMemory
