-- What is seen of the standard streams of a process, and what each request does to them. Of what a
-- device gives to be read, and of files, nothing is said.
use Rattle.std.specs.Prelude.{◌≡◌, ℕ, Bool, true, false, List, Option}
use Rattle.std.specs.Io.KnownBytes.{Appends, Keeps}
use Rattle.tcl_console.specs.Streams.{stream_of}
use Rattle.tcl_console.specs.declared.stream.Stream.{Stream}
use Rattle.tcl_console.specs.declared.stream.Stream.TheVariants.{Input, Output, Errors, File}
use Rattle.tcl_host.specs.Hosts.{IsLawful}
use Rattle.tcl_host.specs.declared.reply.HostReply.{HostReply}
use Rattle.tcl_host.specs.declared.reply.HostReply.TheVariants.{Done, Refused}
use Rattle.tcl_host.specs.declared.reply.HostRefusal.TheVariants.{NoChannel, DeviceFault}
use Rattle.tcl_host.specs.declared.request.Request.{Request}
use Rattle.tcl_host.specs.declared.request.Request.TheVariants as Asked

-- the bytes that the output and the errors hold, where they are known; which of the standard
-- channels are open; and how many device faults were counted
pub record Seen : Type 0 where
  pub output : Option (List ℕ)
  pub errors : Option (List ℕ)
  pub has_input : Bool
  pub has_output : Bool
  pub has_errors : Bool
  pub failures : ℕ

-- nothing is changed but the count of device faults
abbrev pub Stands : Seen → Seen → Type 0
Stands old new = new ≡ record old { failures = new.failures }

-- an open channel is written to, unless the device fails, and a closed one isn't
abbrev pub Puts : Bool → List ℕ → Option (List ℕ) → HostReply → Option (List ℕ) → Type 0
Puts true text old Done new = Appends old new text
Puts true text old (Refused DeviceFault) new = Unit {0}
Puts true text old reply new = Prim.⊥
Puts false text old reply new = (reply ≡ Refused NoChannel) × (new ≡ old)

abbrev pub WritesTo : Stream → List ℕ → Seen → HostReply → Seen → Type 0
WritesTo Input text old reply new = (reply ≡ Refused NoChannel) × (new ≡ old)
WritesTo Output text old reply new = Puts old.has_output text old.output reply new.output ×
    (new ≡ record old { output = new.output; failures = new.failures })
WritesTo Errors text old reply new = Puts old.has_errors text old.errors reply new.errors ×
    (new ≡ record old { errors = new.errors; failures = new.failures })
WritesTo File text old reply new = Stands old new

-- what was written stays as it was
abbrev pub Hands : Bool → Option (List ℕ) → HostReply → Option (List ℕ) → Type 0
Hands true old reply new = Keeps old new
Hands false old reply new = (reply ≡ Refused NoChannel) × (new ≡ old)

abbrev pub FlushesOf : Stream → Seen → HostReply → Seen → Type 0
FlushesOf Input old reply new = (reply ≡ Refused NoChannel) × (new ≡ old)
FlushesOf Output old reply new = Hands old.has_output old.output reply new.output ×
    (new ≡ record old { output = new.output; failures = new.failures })
FlushesOf Errors old reply new = Hands old.has_errors old.errors reply new.errors ×
    (new ≡ record old { errors = new.errors; failures = new.failures })
FlushesOf File old reply new = Stands old new

-- only an open channel is read
abbrev pub Reads : Bool → HostReply → Type 0
Reads true reply = Unit {0}
Reads false reply = reply ≡ Refused NoChannel

abbrev pub ReadsFrom : Stream → Seen → HostReply → Seen → Type 0
ReadsFrom Input old reply new = Reads old.has_input reply × Stands old new
ReadsFrom Output old reply new = (reply ≡ Refused NoChannel) × (new ≡ old)
ReadsFrom Errors old reply new = (reply ≡ Refused NoChannel) × (new ≡ old)
ReadsFrom File old reply new = Stands old new

-- an open channel is closed
abbrev pub Shuts : Bool → HostReply → Type 0
Shuts true reply = reply ≡ Done
Shuts false reply = reply ≡ Refused NoChannel

abbrev pub ClosesOf : Stream → Seen → HostReply → Seen → Type 0
ClosesOf Input old reply new = Shuts old.has_input reply × (new ≡ record old { has_input = false })
ClosesOf Output old reply new = Shuts old.has_output reply ×
    (new ≡ record old { has_output = false })
ClosesOf Errors old reply new = Shuts old.has_errors reply ×
    (new ≡ record old { has_errors = false })
ClosesOf File old reply new = Stands old new

-- what a request does to what is seen
abbrev pub Does : Request → Seen → HostReply → Seen → Type 0
Does (Asked.Open name mode) old reply new = Stands old new
Does (Asked.ReadLine name) old reply new = ReadsFrom (stream_of name) old reply new
Does (Asked.ReadAll name) old reply new = ReadsFrom (stream_of name) old reply new
Does (Asked.Write name text) old reply new = WritesTo (stream_of name) text old reply new
Does (Asked.Flush name) old reply new = FlushesOf (stream_of name) old reply new
Does (Asked.Close name) old reply new = ClosesOf (stream_of name) old reply new
Does (Asked.Eof name) old reply new = ReadsFrom (stream_of name) old reply new

-- a step of the process's host
abbrev pub Steps : Seen → Request → HostReply → Seen → Type 0
Steps old request reply new = IsLawful old.failures new.failures request reply ×
    Does request old reply new
