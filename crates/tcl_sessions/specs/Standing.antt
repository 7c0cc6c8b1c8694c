-- What stands outside of a tree whose calls may have to wait.
use Rattle.std.specs.Prelude.{◌≡◌, ℕ, ◌+◌, ◌≤◌, true, List, [], ◌∷◌, ◌++◌, length, slice_get}
use Rattle.std.specs.Prelude.{Option, Some, None, Result, Ok, Err, IsTrue}
use Rattle.std.specs.declared.alloc.AllocError.{AllocError}
use Rattle.tcl_core.specs.Endings.Cause.{Above}
use Rattle.tcl_core.specs.Endings.Reply.{Completed, Cut}
use Rattle.tcl_core.specs.Entries as core
use Rattle.tcl_core.specs.Entries.{Entry}
use Rattle.tcl_core.specs.Entries.Answer.{Replied, Heard}
use Rattle.tcl_core.specs.Entries.Entry.{AskHost, CallWords}
use Rattle.tcl_core.specs.Paths.{Height, Path, Place, Text}
use Rattle.tcl_core.specs.Programs.{Wait}
use Rattle.tcl_core.specs.Runs.{gone, is_own}
use Rattle.tcl_core.specs.Trees.{Tree, What}
use Rattle.tcl_core.specs.Trees.What.{Back}
use Rattle.tcl_flow.specs.View.{completion_of}
use Rattle.tcl_host.specs.MemoryHost.{respond}
use Rattle.tcl_host.specs.Replies.{is_reply_to}
use Rattle.tcl_host.specs.declared.reply.HostReply.{HostReply}
use Rattle.tcl_host.specs.declared.request.Request.{Request}
use Rattle.tcl_run.specs.Ends.{Interrupts}
use Rattle.tcl_run.specs.Entering.{request_of}
use Rattle.tcl_run.specs.Outsides.{Going, reply_of, told_to, unrefused}
use Rattle.tcl_run.specs.declared.interruption.Interruption.{Interruption}
use Rattle.tcl_run.specs.declared.outside.Turn.{Turn}
use Rattle.tcl_run.specs.declared.outside.Turn.TheVariants as turn
use Rattle.tcl_sessions.specs.declared.standing.Answer.{Answer}
use Rattle.tcl_sessions.specs.declared.standing.Answer.TheVariants as answer
use Rattle.tcl_sessions.specs.declared.standing.OpenCall.{OpenCall}
use Rattle.tcl_sessions.specs.declared.standing.Standing.{Standing}
use Rattle.tcl_tree.specs.Own.{Own}

-- an answer that came before, in the words of the core
abbrev pub answer_of : Answer → core.Answer
answer_of (answer.Heard reply) = Heard (reply_of reply)
answer_of (answer.Completed c) = Replied (Completed (completion_of c))

-- the words with which a call comes; none where something else is asked for
abbrev pub words_of : Entry → List Text
words_of (CallWords words) = words
words_of i = []

-- the evaluation begins again, in which nothing came back yet
abbrev pub begun_again : Standing → Standing
begun_again o = record o { given = 0; call = None }

-- ## What comes back

-- the next of the answers comes back again
pub record Recalls (o : Standing) (a : core.Answer) (z : Standing) : Type 0 where
  pub answer : Answer
  pub next : slice_get o.answers.items o.given ≡ Some answer
  pub is : answer_of answer ≡ a
  pub after : z ≡ record o { given = o.given + 1 }

-- all that came before came back
abbrev pub IsFresh : Standing → Type 0
IsFresh o = length o.answers.items ≤ o.given

-- the host replies to a request, and the reply is kept
pub record Hears (o : Standing) (q : Request) (reply : HostReply) (z : Standing) : Type 0 where
  pub replies : respond o.host q ≡ (reply, z.host)
  pub fits : IsTrue (is_reply_to reply q)
  pub answer : Answer
  pub is : answer_of answer ≡ Heard (reply_of reply)
  pub kept : z.answers.items ≡ o.answers.items ++ answer ∷ []
  pub given : z.given ≡ length z.answers.items
  pub call : z.call ≡ o.call

-- the call from p for this is kept as open
pub record Waits (o : Standing) (p : Path) (i : Entry) (z : Standing) : Type 0 where
  pub call : OpenCall
  pub caller : call.caller.items ≡ p
  pub words : call.words.items ≡ words_of i
  pub after : z ≡ record o { call = Some call }

-- What comes back to a call from p, so high up and for this: what came back before; or the host's
-- reply; or nothing, since the call has to wait, which ends the evaluation from outside.
pub data ComesBack (o : Standing) (p : Path) (h : Height) (i : Entry) (a : core.Answer)
    (z : Standing) : Type 0 where
  again : Recalls o a z → ComesBack o p h i a z
  heard : (q : Request) (reply : HostReply) → IsFresh o → h ≡ None → i ≡ AskHost (request_of q) →
      a ≡ Heard (reply_of reply) → Hears o q reply z → ComesBack o p h i a z
  waits : (n : ℕ) → IsFresh o → h ≡ Some n → a ≡ Replied (Cut Above) → Waits o p i z →
      ComesBack o p h i a z

-- An answer comes back, of which a caller that is gone is told what it may be; nothing else comes
-- to an open call.
abbrev pub answered : Tree Own → Standing → Path → Wait → What Own → Standing → Type 0
answered T o p (Some (h, i, d)) (Back k a) z = (b : core.Answer) ×
    (a ≡ told_to (gone d T p) b) × ComesBack o p h i b z
answered T o p s x z = Prim.⊥

-- It goes from one state to the next by what comes back from it, and by nothing else. It refuses no
-- step.
abbrev pub goes : Going Standing
goes T o None ev z = unrefused ev.what (z ≡ o)
goes T o (Some s) ev z = answered T o ev.place (Some s) ev.what z

-- ## Its steps

-- the next of the answers, or none behind the last
abbrev pub IsRecalled : Standing → Result (Option Answer) AllocError → Standing → Type 0
IsRecalled o (Ok (Some a)) z = Recalls o (answer_of a) z
IsRecalled o (Ok None) z = IsFresh o × (z ≡ o)
IsRecalled o (Err e) z = z ≡ o

-- what comes of an answer that comes back to a call, so high up and for this
abbrev pub AnswersAgain : Height → Entry → Answer → Result Turn Interruption → Type 0
AnswersAgain h i a (Ok (turn.Heard reply)) = (answer_of a ≡ Heard (reply_of reply)) ×
    (is_own h i (Heard (reply_of reply)) ≡ true)
AnswersAgain h i a (Ok (turn.Completed text)) = Prim.⊥
AnswersAgain h i a (Ok turn.Nobody) = Prim.⊥
AnswersAgain h i a (Ok (turn.Entry target entry)) = Prim.⊥
AnswersAgain h i a (Err e) = Interrupts e
    (λ r. (answer_of a ≡ Replied r) × (is_own h i (Replied r) ≡ true))
