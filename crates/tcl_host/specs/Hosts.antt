-- What every host keeps to.
use Rattle.std.specs.Prelude.{◌≡◌, ℕ, ◌<◌, ◌≤◌, ◌^◌, ◌-◌, ◌⊎◌, IsTrue, List, Option, Some, None}
use Rattle.std.specs.Prelude.{Result, Ok, Err, IsErr}
use Rattle.std.specs.declared.alloc.AllocError.{AllocError}
use Rattle.tcl_host.specs.declared.request.Request.{Request}
use Rattle.tcl_host.specs.declared.reply.HostRefusal.TheVariants.{DeviceFault}
use Rattle.tcl_host.specs.declared.reply.HostReply.{HostReply}
use Rattle.tcl_host.specs.declared.reply.HostReply.TheVariants.{Line, End, Done, Refused}
use Rattle.tcl_host.specs.declared.reply.HostError.{HostError}
use Rattle.tcl_host.specs.declared.reply.HostError.TheVariants as Failed
use Rattle.tcl_host.specs.Replies.{is_reply_to}

-- the largest number of failures that is counted
abbrev pub last_count : ℕ
last_count = 2 ^ 64 - 1

-- The laws of a call, before and after it so many failures being counted: the reply is one of the
-- request's own, the number never falls, and a device fault is answered only where it rose or stood
-- at its last value.
pub record IsLawful (before after : ℕ) (request : Request) (reply : HostReply) : Type 0 where
  pub fits : IsTrue (is_reply_to reply request)
  pub never_falls : before ≤ after
  pub fault_counted : reply ≡ Refused DeviceFault → (before < after) ⊎ (last_count ≤ before)

-- A method's result is a step of the host by the reply that it stands for; want of memory is no
-- reply, and leaves the host as it was.
abbrev pub Replied : {A S : Type 0} → (S → HostReply → S → Type 0) → (A → HostReply) → S →
    Result A HostError → S → Type 0
Replied step reply old (Ok answer) new = step old (reply answer) new
Replied step reply old (Err (Failed.Refused why)) new = step old (Refused why) new
Replied step reply old (Err Failed.Memory) new = new ≡ old

-- a line, or the end
abbrev pub line_reply : Option (List ℕ) → HostReply
line_reply (Some line) = Line line
line_reply None = End

-- that it was done
abbrev pub done_reply : Unit {0} → HostReply
done_reply _ = Done

-- the reply that an answer is; want of memory is none
abbrev pub IsReplyOf : Result HostReply HostError → Result HostReply AllocError → Type 0
IsReplyOf (Ok reply) result = result ≡ Ok reply
IsReplyOf (Err (Failed.Refused why)) result = result ≡ Ok (Refused why)
IsReplyOf (Err Failed.Memory) result = IsErr result
