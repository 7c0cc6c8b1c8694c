-- How an embedder's functions stand outside of a tree, beside a host.
use Rattle.std.specs.Prelude.{◌≡◌, ◌⊎◌, ℕ, ℤ, ◌+◌, true, false, List, [], ◌∷◌, ◌++◌, length, codes}
use Rattle.std.specs.Prelude.{Option, Some, None, Result, Ok, Err}
use Rattle.tcl_core.specs.Endings.{Completion, Reply, error}
use Rattle.tcl_core.specs.Endings.Kind.{Gone}
use Rattle.tcl_core.specs.Endings.Reply.{Completed, Exit, Stop}
use Rattle.tcl_core.specs.Entries as core
use Rattle.tcl_core.specs.Entries.{Answer, Entry}
use Rattle.tcl_core.specs.Entries.Answer.{Replied, Heard, Nobody}
use Rattle.tcl_core.specs.Entries.Entry.{AskHost}
use Rattle.tcl_core.specs.Paths.{Height, Path, Place, Text, rise_to}
use Rattle.tcl_core.specs.Programs.{Wait}
use Rattle.tcl_core.specs.Runs.{gone_from}
use Rattle.tcl_core.specs.Trees.{Tree, What}
use Rattle.tcl_core.specs.Trees.What.{Refused, Out, In, Done, Back, Unfound}
use Rattle.tcl_flow.specs.View.{completion_of}
use Rattle.tcl_flow.specs.declared.completion.Completion as code
use Rattle.tcl_functions.specs.Actions.{ActionView}
use Rattle.tcl_functions.specs.Actions.ActionView.{Completes, Enters, Exits}
use Rattle.tcl_functions.specs.Calls.{words_of}
use Rattle.tcl_functions.specs.Handing.{handed}
use Rattle.tcl_functions.specs.Replies.{seen}
use Rattle.tcl_functions.specs.declared.call.Call.{Call}
use Rattle.tcl_functions.specs.declared.serving.WithFunctions.{WithFunctions}
use Rattle.tcl_host.specs.declared.reply.HostReply.{HostReply}
use Rattle.tcl_host.specs.declared.request.Request.{Request}
use Rattle.tcl_run.specs.Ends.{Interrupts}
use Rattle.tcl_run.specs.Entering.{request_of, whole_entry}
use Rattle.tcl_run.specs.Outsides.{Going, reply_of}
use Rattle.tcl_run.specs.declared.interruption.Interruption.{Interruption}
use Rattle.tcl_run.specs.declared.outside.Turn.{Turn}
use Rattle.tcl_run.specs.declared.outside.Turn.TheVariants as turn
use Rattle.tcl_tree.specs.Own.{Own}

-- how functions go from one state to the next, by what is done next for an open call
abbrev pub Serving : Type 0 → Type 1
Serving F = F → Call → ActionView → F → Type 0

-- how a host goes, by a request and its reply
abbrev pub Hosting : Type 0 → Type 1
Hosting H = H → Request → HostReply → H → Type 0

-- the most entries that are handed in
abbrev pub most_entries : ℕ
most_entries = 18446744073709551615

abbrev pub too_many_entries : Text
too_many_entries = codes "too many entries"

-- the host, and how many entries may still be handed in, are what they were
pub record Keeps {F H : Type 0} (o z : WithFunctions F H) : Type 0 where
  pub host : z.host ≡ o.host
  pub entries : z.entries ≡ o.entries

-- A function of the embedder is called from p, for this: the last call is open, with no reply yet.
pub record Begins {F H : Type 0} (o : WithFunctions F H) (p : Path) (i : Entry)
    (z : WithFunctions F H) : Type 0 where
  pub call : Call
  pub caller : call.caller.items ≡ p
  pub words : call.words.items ≡ words_of i
  pub replies : call.replies.items ≡ []
  pub opened : z.calls.items ≡ o.calls.items ++ call ∷ []
  pub exits : z.exits ≡ false
  pub functions : z.functions ≡ o.functions
  pub keeps : Keeps o z

-- The last open call hands in an entry, which is one less that may be handed in. It is what the
-- function asks for, where an alias that is set has the shortest way.
pub record HandsIn {F H : Type 0} (serves : Serving F) (o : WithFunctions F H) (t : Path)
    (i : Entry) (z : WithFunctions F H) : Type 0 where
  pub below : List Call
  pub call : Call
  pub asked : Entry
  pub stood : o.calls.items ≡ below ++ call ∷ []
  pub does : serves o.functions call (Enters t asked) z.functions
  pub handed_so : i ≡ handed t asked
  pub stands : z.calls.items ≡ below ++ call ∷ []
  pub left : o.entries ≡ z.entries + 1
  pub host : z.host ≡ o.host
  pub exits : z.exits ≡ o.exits

-- A reply more.
pub record IsReplied (call : Call) (c : Completion) (next : Call) : Type 0 where
  pub caller : next.caller ≡ call.caller
  pub words : next.words ≡ call.words
  pub reply : code.Completion
  pub replies : next.replies.items ≡ call.replies.items ++ reply ∷ []
  pub is : completion_of reply ≡ c

-- The last open call gets this reply. Where no call is open, nobody does: the whole run ends.
pub data TakesReply {F H : Type 0} (o : WithFunctions F H) (c : Completion)
    (z : WithFunctions F H) : Type 0 where
  taken : (below : List Call) (call next : Call) → o.calls.items ≡ below ++ call ∷ [] →
      z.calls.items ≡ below ++ next ∷ [] → IsReplied call c next → z.functions ≡ o.functions →
      z.exits ≡ o.exits → Keeps o z → TakesReply o c z
  unheard : length o.calls.items ≡ 0 → length z.calls.items ≡ 0 → z.functions ≡ o.functions →
      z.exits ≡ o.exits → Keeps o z → TakesReply o c z

-- An entry ended by an exit.
pub record HearsExit {F H : Type 0} (o z : WithFunctions F H) : Type 0 where
  pub exits : z.exits ≡ true
  pub calls : z.calls.items ≡ o.calls.items
  pub functions : z.functions ≡ o.functions
  pub keeps : Keeps o z

-- An entry ended, as the function that handed it in sees it; or by an exit.
abbrev pub HearsEnd : {F H : Type 0} → Option Completion → WithFunctions F H → WithFunctions F H →
    Type 0
HearsEnd (Some c) o z = TakesReply o c z
HearsEnd None o z = HearsExit o z

-- An entry that the last open call hands in finds nobody at its path: that is a reply to the call.
pub record FindsNobody {F H : Type 0} (serves : Serving F) (o : WithFunctions F H) (t : Path)
    (i : Entry) (c : Completion) (z : WithFunctions F H) : Type 0 where
  pub between : WithFunctions F H
  pub hands_in : HandsIn serves o t i between
  pub hears : TakesReply between c z

-- the last open call is closed
pub record Closes {F H : Type 0} (o : WithFunctions F H) (below : List Call)
    (z : WithFunctions F H) : Type 0 where
  pub calls : z.calls.items ≡ below
  pub exits : z.exits ≡ o.exits
  pub keeps : Keeps o z

-- what a function does hands in this entry for the interpreter at t
abbrev pub Hands : ActionView → Path → Entry → Type 0
Hands does t i = (asked : Entry) × (does ≡ Enters t asked) × (i ≡ handed t asked)

-- how a call ends by what its function does, where that ends it
abbrev pub EndsSo : ActionView → Reply → Type 0
EndsSo (Completes c) r = r ≡ Completed c
EndsSo (Exits n) r = r ≡ Exit n
EndsSo (Enters t i) r = Prim.⊥

-- how a call ends by what its function does, where so many entries may still be handed in
abbrev pub EndsBy : ℕ → ActionView → Reply → Type 0
EndsBy left (Completes c) r = r ≡ Completed c
EndsBy left (Exits n) r = r ≡ Exit n
EndsBy left (Enters t i) r = (left ≡ 0) × (r ≡ Completed (error too_many_entries))

-- The last open call ends so: by what its function does, or with its entry that ended by an exit.
pub data EndsCall {F H : Type 0} (serves : Serving F) (o : WithFunctions F H) (r : Reply)
    (z : WithFunctions F H) : Type 0 where
  served : (below : List Call) (call : Call) (does : ActionView) →
      o.calls.items ≡ below ++ call ∷ [] → serves o.functions call does z.functions →
      EndsBy o.entries does r → Closes o below z → EndsCall serves o r z
  exited : (below : List Call) (call : Call) (n : ℤ) → o.exits ≡ true →
      o.calls.items ≡ below ++ call ∷ [] → r ≡ Exit n → z.functions ≡ o.functions →
      Closes o below z → EndsCall serves o r z

-- no call is open, and nothing changes
pub record HasNoCall {F H : Type 0} (o z : WithFunctions F H) : Type 0 where
  pub before : length o.calls.items ≡ 0
  pub after : length z.calls.items ≡ 0
  pub functions : z.functions ≡ o.functions
  pub exits : z.exits ≡ o.exits
  pub keeps : Keeps o z

-- The call ends by a completion, or nobody is there: a caller that is gone is told of neither.
abbrev pub EndsUntold : {F H : Type 0} → Serving F → WithFunctions F H → WithFunctions F H → Type 0
EndsUntold serves o z = ((c : Completion) × EndsCall serves o (Completed c) z) ⊎ HasNoCall o z

-- The host replies to a request.
pub record HearsHost {F H : Type 0} (step : Hosting H) (o : WithFunctions F H) (q : core.Request)
    (a : core.HostReply) (z : WithFunctions F H) : Type 0 where
  pub request : Request
  pub reply : HostReply
  pub asked : request_of request ≡ q
  pub heard : reply_of reply ≡ a
  pub steps : step o.host request reply z.host
  pub functions : z.functions ≡ o.functions
  pub calls : z.calls.items ≡ o.calls.items
  pub entries : z.entries ≡ o.entries
  pub exits : z.exits ≡ o.exits

-- ## What it makes of what it is told

-- what passes the top of the tree matters, and what is between two interpreters of it doesn't
abbrev pub past : {S : Type 0} → Option Place → S → S → Type 0 → Type 0
past None o z t = t
past (Some a) o z t = z ≡ o

-- a call goes out, to a function or to the host
abbrev pub GoesOut : {F H : Type 0} → Height → WithFunctions F H → Path → Entry →
    WithFunctions F H → Type 0
GoesOut None o p i z = z ≡ o
GoesOut (Some n) o p i z = Begins o p i z

-- An answer comes back to the open call s, whose caller is gone or isn't. One that is gone is told
-- that in place of a completion, of a host's reply, and where nobody is there.
abbrev pub ComesBack : {F H : Type 0} → Serving F → Hosting H → WithFunctions F H → Option ℕ →
    Wait → Answer → WithFunctions F H → Type 0
ComesBack serves step o g (Some (Some n, i, d)) (Replied (Stop m Gone)) z = (g ≡ Some m) ×
    EndsUntold serves o z
ComesBack serves step o g (Some (Some n, i, d)) (Replied r) z = EndsCall serves o r z
ComesBack serves step o g (Some (Some n, i, d)) Nobody z = HasNoCall o z
ComesBack serves step o g (Some (None, AskHost q, d)) (Heard a) z = HearsHost step o q a z
ComesBack serves step o g (Some (None, AskHost q, d)) (Replied (Stop m Gone)) z = (g ≡ Some m) ×
    (a : core.HostReply) × HearsHost step o q a z
ComesBack serves step o g s a z = Prim.⊥

abbrev pub meets : {F H : Type 0} → Serving F → Hosting H → Tree Own → WithFunctions F H → Wait →
    Place → What Own → WithFunctions F H → Type 0
meets serves step T o s p (Out h down i) z = past (rise_to h p) o z (GoesOut h o p i z)
meets serves step T o s p (In h i) z = past (rise_to h p) o z (HandsIn serves o p i z)
meets serves step T o s p (Done h r) z = past (rise_to h p) o z (HearsEnd (seen r) o z)
meets serves step T o s p (Back h a) z = past (rise_to h p) o z
    (ComesBack serves step o (gone_from s T p) s a z)
meets serves step T o s p (Unfound t i c) z = FindsNobody serves o t i c z
meets serves step T o s p (Refused m None) z = Prim.⊥
meets serves step T o s p x z = z ≡ o

-- Functions and a host go from one state to the next by what passes the top of the tree: a call of
-- a function opens it, what the function does next hands in an entry or ends the call, an entry's
-- end, or that it found nobody, is a reply to it, and a request is a step of the host. Nobody is
-- there where no call is open. They refuse no step.
abbrev pub going : {F H : Type 0} → Serving F → Hosting H → Going (WithFunctions F H)
going serves step T o s ev z = meets serves step T o s ev.place ev.what z

-- what comes of an open call of a function
abbrev pub Serves : {F H : Type 0} → Serving F → WithFunctions F H → WithFunctions F H →
    Result Turn Interruption → Type 0
Serves serves o z (Ok (turn.Entry target entry)) = HandsIn serves o target.items
    (whole_entry entry) z
Serves serves o z (Ok (turn.Completed text)) = Prim.⊥
Serves serves o z (Ok (turn.Heard reply)) = Prim.⊥
Serves serves o z (Ok turn.Nobody) = HasNoCall o z
Serves serves o z (Err e) = Interrupts e (λ r. EndsCall serves o r z)

-- a call is open again for whose entry there is room
pub record Reopens {F H : Type 0} (o : WithFunctions F H) (call : Call) (z : WithFunctions F H) :
    Type 0 where
  pub stands : z.calls.items ≡ o.calls.items ++ call ∷ []
  pub left : o.entries ≡ z.entries + 1
  pub functions : z.functions ≡ o.functions
  pub host : z.host ≡ o.host
  pub exits : z.exits ≡ o.exits

-- there is none
pub record IsSpent {F H : Type 0} (o z : WithFunctions F H) (r : Reply) : Type 0 where
  pub spent : o.entries ≡ 0
  pub says : r ≡ Completed (error too_many_entries)
  pub same : z ≡ o

-- the last open call is closed, after its entry ended by an exit
pub record ClosesByExit {F H : Type 0} (o z : WithFunctions F H) : Type 0 where
  pub below : List Call
  pub call : Call
  pub exits : o.exits ≡ true
  pub stood : o.calls.items ≡ below ++ call ∷ []
  pub functions : z.functions ≡ o.functions
  pub closes : Closes o below z
