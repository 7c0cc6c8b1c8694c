-- How the client serves the calls that scripts make of it: which lines are read and written.
use Rattle.std.specs.Prelude.{◌≡◌, ℕ, ℤ, zero, ◌+◌, ◌-◌, pos, Bool, true, false, List, []}
use Rattle.std.specs.Prelude.{◌∷◌, ◌++◌, length, take, Option, Some, None, Result, Ok, Err, IsSome}
use Rattle.tcl_serve.specs.Entering.{IsEntry}
use Rattle.tcl_serve.specs.Opened.{IsOpen, RefusesOpen, last_of}
use Rattle.tcl_serve.specs.Views.{ClientView}
use Rattle.tcl_serve.specs.declared.open.Awaited.{Awaited}
use Rattle.tcl_serve.specs.declared.open.Next.{Next}
use Rattle.tcl_serve.specs.declared.open.Next.TheVariants as next
use Rattle.tcl_serve.specs.declared.open.Talk.{Talk}
use Rattle.tcl_core.specs.Endings.{completion}
use Rattle.tcl_core.specs.Entries.{Entry}
use Rattle.tcl_core.specs.Paths.{Path, Text}
use Rattle.tcl_flow.specs.View.{completion_of}
use Rattle.tcl_flow.specs.declared.completion.Completion as code
use Rattle.tcl_functions.specs.Actions.{ActionView, action_of}
use Rattle.tcl_functions.specs.Actions.ActionView.{Completes, Enters, Exits}
use Rattle.tcl_functions.specs.declared.action.Action.{Action}
use Rattle.tcl_functions.specs.declared.call.Call.{Call}
use Rattle.tcl_serve.specs.Answers.{call_line}
use Rattle.tcl_serve.specs.Lines.{Says, Traffic}
use Rattle.tcl_serve.specs.Messages.{Asks, EndRun, Return}
use Rattle.tcl_serve.specs.Talking.{Finishes, Rejects, Replies, Understands}
use Rattle.tcl_serve.specs.declared.answers.Answer.{Answer}
use Rattle.tcl_serve.specs.declared.answers.Answer.TheVariants as answer
use Rattle.tcl_serve.specs.declared.answers.ClientCall.{ClientCall}
use Rattle.tcl_serve.specs.declared.answers.Ended.TheVariants as ended
use Rattle.tcl_serve.specs.declared.refusals.Refusal.{Refusal}
use Rattle.tcl_serve.specs.declared.refusals.Refusal.TheVariants.{Memory, Told}
use Rattle.tcl_run.specs.Entering.{whole_entry}

-- ## What is between the lines

-- no call is open, and nothing is awaited
pub record IsQuiet (t : Talk) : Type 0 where
  pub calls : t.calls.items ≡ []
  pub awaited : t.awaited.items ≡ []

-- it is the same
pub record Stays (t u : Talk) : Type 0 where
  pub tree : u.tree ≡ t.tree
  pub calls : u.calls.items ≡ t.calls.items
  pub awaited : u.awaited.items ≡ t.awaited.items
  pub last_call : u.last_call ≡ t.last_call
  pub cut : u.cut ≡ t.cut

-- a message is awaited more
pub record Awaits (t : Talk) (a : Awaited) (u : Talk) : Type 0 where
  pub tree : u.tree ≡ t.tree
  pub calls : u.calls.items ≡ t.calls.items
  pub awaited : u.awaited.items ≡ t.awaited.items ++ a ∷ []
  pub last_call : u.last_call ≡ t.last_call
  pub cut : u.cut ≡ t.cut

-- the call that was opened last is closed
pub record Closes (t u : Talk) : Type 0 where
  pub tree : u.tree ≡ t.tree
  pub calls : u.calls.items ≡ take (length t.calls.items - 1) t.calls.items
  pub awaited : u.awaited ≡ t.awaited
  pub last_call : u.last_call ≡ t.last_call
  pub cut : u.cut ≡ t.cut

-- the run is cut off
abbrev pub Cuts : Talk → Talk → Type 0
Cuts t u = u ≡ record t { cut = true }

-- ## What is told of a call

-- the line of a call of this number, in the tree of that one
pub record IsCallLine (number tree : ℕ) (call : Call) (line : List ℕ) : Type 0 where
  pub asked : ClientCall
  pub numbered : asked.number ≡ number
  pub of_tree : asked.tree ≡ tree
  pub caller : asked.interpreter.items ≡ call.caller.items
  pub words : asked.words.items ≡ call.words.items
  pub is : line ≡ call_line asked

-- A call is opened, under the next number, by a line that says who calls, and with which words.
pub record Opens (o : ClientView) (call : Call) (z : ClientView) : Type 0 where
  pub tree : z.talk.tree ≡ o.talk.tree
  pub last_call : z.talk.last_call ≡ o.talk.last_call + 1
  pub calls : z.talk.calls.items ≡ o.talk.calls.items ++ z.talk.last_call ∷ []
  pub awaited : z.talk.awaited ≡ o.talk.awaited
  pub cut : z.talk.cut ≡ o.talk.cut
  pub line : List ℕ
  pub is : IsCallLine z.talk.last_call o.talk.tree call line
  pub says : Says o.lines line z.lines

-- what is said of an entry that ended by a code and a text, and evaluates a script or not
abbrev pub entry_answer : Bool → ℤ → Text → Result Answer Refusal
entry_answer true code text = Ok (answer.Ended (ended.Completed code text))
entry_answer false (pos zero) text = Ok answer.Done
entry_answer false code text = Err (Told text)

-- An entry ended, which answers the message that was awaited last.
pub record HearsEntry (o : ClientView) (c : code.Completion) (z : ClientView) : Type 0 where
  pub tree : z.talk.tree ≡ o.talk.tree
  pub calls : z.talk.calls ≡ o.talk.calls
  pub last_call : z.talk.last_call ≡ o.talk.last_call
  pub cut : z.talk.cut ≡ o.talk.cut
  pub awaited : Awaited
  pub stood : o.talk.awaited.items ≡ z.talk.awaited.items ++ awaited ∷ []
  pub replies : Replies o.lines (Some awaited.id) (entry_answer awaited.evaluates c.code c.text)
      z.lines

-- A call that has no reply yet is opened; for another its last reply is heard.
pub data Tells (o : ClientView) (call : Call) (z : ClientView) : Type 0 where
  opens : last_of call.replies.items ≡ None → Opens o call z → Tells o call z
  hears : (c : code.Completion) → last_of call.replies.items ≡ Some c → HearsEntry o c z →
      Tells o call z

-- ## What is done next for it

-- One line, or the end of them, that leaves the call as it is: a line that isn't understood, the
-- end, or a message that isn't done. It is answered.
pub data Idles (o z : ClientView) : Type 0 where
  rejects : Rejects o.lines z.lines → Stays o.talk z.talk → Idles o z
  finishes : Finishes o.lines z.lines → Stays o.talk z.talk → Idles o z
  refuses : (id : ℕ) (m : Asks) (e : Refusal) (between : Traffic) →
      Understands o.lines id m between → RefusesOpen o.talk m e →
      Replies between (Some id) (Err e) z.lines → Stays o.talk z.talk → Idles o z

-- any number of them
pub data Waits (o : ClientView) : ClientView → Type 0 where
  at_once : Waits o o
  later : (m z : ClientView) → Waits o m → Idles m z → Waits o z

-- What is done next, by a line that was read: an entry is handed in, whose end answers the message;
-- the call is answered; or the run is ended, and so it is where no line comes any more.
pub data Acts (o : ClientView) : ActionView → ClientView → Type 0 where
  enters : (id : ℕ) (m : Asks) (target : Path) (entry : Entry) (evaluates : Bool)
      (z : ClientView) → Understands o.lines id m z.lines →
      IsEntry m o.talk.tree target entry evaluates →
      Awaits o.talk (record { id = id; evaluates = evaluates }) z.talk →
      Acts o (Enters target entry) z
  completes : (id n : ℕ) (code : ℤ) (text : Text) (between : Traffic) (z : ClientView) →
      Understands o.lines id (Return n code text) between → IsOpen o.talk n →
      Replies between (Some id) (Ok answer.Done) z.lines → Closes o.talk z.talk →
      Acts o (Completes (completion code text)) z
  ends : (id n : ℕ) (between : Traffic) (z : ClientView) →
      Understands o.lines id (EndRun n) between → IsOpen o.talk n →
      Replies between (Some id) (Ok answer.Done) z.lines → Cuts o.talk z.talk →
      Acts o (Exits (pos 0)) z
  gone : (z : ClientView) → IsSome o.lines.ending → z.lines ≡ o.lines → Cuts o.talk z.talk →
      Acts o (Exits (pos 0)) z

-- The client serves a call: it is told of it, lines are read that leave the call as it is, and then
-- one, or the end of them, by which something is done.
pub record Serves (o : ClientView) (call : Call) (a : ActionView) (z : ClientView) : Type 0 where
  pub told : ClientView
  pub left : ClientView
  pub tells : Tells o call told
  pub waits : Waits told left
  pub acts : Acts left a z

-- ## The end of a run

-- Each of these messages is answered by that the run is over, the last one first.
pub data AllCut (o : Traffic) : List Awaited → Traffic → Type 0 where
  none : AllCut o [] o
  one : (m z : Traffic) (a : Awaited) (more : List Awaited) → AllCut o more m →
      Replies m (Some a.id) (Ok (answer.Ended ended.Cut)) z → AllCut o (a ∷ more) z

-- All that is awaited is answered, and no call is open.
pub record IsOver (o z : ClientView) : Type 0 where
  pub tree : z.talk.tree ≡ o.talk.tree
  pub quiet : IsQuiet z.talk
  pub last_call : z.talk.last_call ≡ o.talk.last_call
  pub cut : z.talk.cut ≡ o.talk.cut
  pub answers : AllCut o.lines o.talk.awaited.items z.lines

-- ## Steps

-- what comes of one line, or of the end of them
abbrev pub Turns : ClientView → Option Action → ClientView → Type 0
Turns o (Some a) z = Acts o (action_of a) z
Turns o None z = Idles o z

-- what comes of what the message of an id comes to
abbrev pub Follows : ClientView → ℕ → Next → Option Action → ClientView → Type 0
Follows o id (next.Enters asked evaluates) (Some a) z =
    (action_of a ≡ Enters asked.0.items (whole_entry asked.1)) × (z.lines ≡ o.lines) ×
    Awaits o.talk (record { id = id; evaluates = evaluates }) z.talk
Follows o id (next.Enters asked evaluates) None z =
    Replies o.lines (Some id) (Err Memory) z.lines × Stays o.talk z.talk
Follows o id (next.Returns c) (Some a) z = (action_of a ≡ Completes (completion_of c)) ×
    Replies o.lines (Some id) (Ok answer.Done) z.lines × Closes o.talk z.talk
Follows o id (next.Returns c) None z = Prim.⊥
Follows o id next.Ends (Some a) z = (action_of a ≡ Exits (pos 0)) ×
    Replies o.lines (Some id) (Ok answer.Done) z.lines × Cuts o.talk z.talk
Follows o id next.Ends None z = Prim.⊥
