-- What contracts see of what stands outside of a tree.
use Rattle.std.specs.Prelude.{◌≡◌, ℕ, true, ◌++◌, length, Option, Some, None, Result, Ok, Err}
use Rattle.tcl_core.specs.Endings.{Reply, ok}
use Rattle.tcl_core.specs.Endings.Kind.{Gone}
use Rattle.tcl_core.specs.Endings.Reply.{Completed, Stop}
use Rattle.tcl_core.specs.Entries.{Answer, Entry, HostReply}
use Rattle.tcl_core.specs.Entries.Answer.{Replied, Heard, Nobody}
use Rattle.tcl_core.specs.Entries.Entry.{AskHost}
use Rattle.tcl_core.specs.Entries.HostReply.{Opened, Line, TheEnd, TheRest, Accepted, Is, Fails}
use Rattle.tcl_core.specs.Paths.{Path, Place, Height}
use Rattle.tcl_core.specs.Programs.{Wait}
use Rattle.tcl_core.specs.Runs.{ended, gone, gone_from, is_told}
use Rattle.tcl_core.specs.Execution.{event, past_top}
use Rattle.tcl_core.specs.Trees.{Event, Tree, What}
use Rattle.tcl_core.specs.Trees.What.{Out, In, Done, Back, Refused}
use Rattle.tcl_host.specs.declared.reply.HostReply.{HostReply as TheirReply}
use Rattle.tcl_host.specs.declared.reply.HostReply.TheVariants as theirs
use Rattle.tcl_host.specs.declared.reply.HostRefusal.{HostRefusal}
use Rattle.tcl_host.specs.declared.reply.HostRefusal.TheVariants as refusal
use Rattle.tcl_host.specs.declared.request.Request.{Request as TheirRequest}
use Rattle.tcl_run.specs.Ends.{Interrupts}
use Rattle.tcl_run.specs.Entering.{request_of, whole_entry}
use Rattle.tcl_run.specs.declared.interruption.Interruption.{Interruption}
use Rattle.tcl_run.specs.declared.outside.Turn.{Turn}
use Rattle.tcl_run.specs.declared.outside.Turn.TheVariants as turn
use Rattle.tcl_tree.specs.Own.{Own}

-- How an outside goes from one state to the next by what it is told: a call that goes out, an entry
-- that comes in, the reply to it, the answer that comes back, a step, an interpreter that is
-- dropped; the tree being what it then is. An answer from past the top of the tree comes with the
-- call that it answers.
abbrev pub Going : Type 0 → Type 1
Going S = Tree Own → S → Wait → Event Own → S → Type 0

-- ## Calls within the tree

-- A call goes out from the interpreter at p, n levels up to the one at a and these names down, and
-- comes in there.
pub record Enters {S : Type 0} (goes : Going S) (T : Tree Own) (o : S) (p : Place) (n : ℕ)
    (a : Place) (down : Path) (i : Entry) (z : S) : Type 0 where
  pub between : S
  pub leaves : goes T o None (event p (Out (Some n) down i)) between
  pub enters : goes T between None (event (a ++ down) (In (Some (length down)) i)) z

-- It is done there by one reply, and answered by another.
pub record Returns {S : Type 0} (goes : Going S) (T : Tree Own) (o : S) (p : Place) (n : ℕ)
    (a : Place) (down : Path) (s r : Reply) (z : S) : Type 0 where
  pub between : S
  pub leaves : goes T o None (event (a ++ down) (Done (Some (length down)) s)) between
  pub returns : goes T between None (event p (Back (Some n) (Replied r))) z

-- A call finds nobody, and is answered by that.
pub record Misses {S : Type 0} (goes : Going S) (T : Tree Own) (o : S) (p : Place) (n : ℕ)
    (down : Path) (i : Entry) (r : Reply) (z : S) : Type 0 where
  pub between : S
  pub leaves : goes T o None (event p (Out (Some n) down i)) between
  pub returns : goes T between None (event p (Back (Some n) (Replied r))) z

-- ## Calls that pass the top

-- What a caller is told for an answer, where it is gone or isn't: one that is gone is told of no
-- completion, of no word of the host, and not that nobody is there.
abbrev pub told_to : Option ℕ → Answer → Answer
told_to None a = a
told_to (Some n) (Replied r) = Replied (ended (Some n) r)
told_to (Some n) a = Replied (Stop n Gone)

-- The call from p, so high up and for this, that went out when d evaluations were in progress
-- there, is answered so.
abbrev pub Answers : {S : Type 0} → Going S → Tree Own → S → Path → ℕ → Height → Entry → S →
    Answer → Type 0
Answers goes T o p d h i z a = goes T o (Some (h, i, d)) (event p (Back h a)) z ×
    (is_told (gone d T p) h i a ≡ true)

-- it is answered by this, or by what its caller is told for it
abbrev pub AnswersFor : {S : Type 0} → Going S → Tree Own → S → Path → ℕ → Height → Entry → S →
    Answer → Type 0
AnswersFor goes T o p d h i z a = Answers goes T o p d h i z (told_to (gone d T p) a)

-- the numbers of a host's refusals
abbrev pub number_of : HostRefusal → ℕ
number_of refusal.NoChannel = 261
number_of refusal.DeviceFault = 262
number_of refusal.NotOpened = 267

-- the reply of a host, in the words of the core
abbrev pub reply_of : TheirReply → HostReply
reply_of (theirs.Opened channel) = Opened channel
reply_of (theirs.Line line) = Line line
reply_of theirs.End = TheEnd
reply_of (theirs.Rest bytes) = TheRest bytes
reply_of theirs.Done = Accepted
reply_of (theirs.AtEnd ended) = Is ended
reply_of (theirs.Refused why) = Fails (number_of why)

-- the host is asked for requests alone
abbrev pub IsAsked : Height → Entry → Type 0
IsAsked None (AskHost request) = Unit {0}
IsAsked None i = Prim.⊥
IsAsked (Some n) i = Unit {0}

-- What comes next while the call is open: an entry, where this outside hands in any; or the call's
-- answer, of which a caller that is gone is told what it may be.
abbrev pub ComesNext : {S : Type 0} → Going S → Type 0 → Tree Own → S → Path → ℕ → Height → Entry →
    S → Result Turn Interruption → Type 0
ComesNext goes hands_in T o p d h i z (Ok (turn.Entry target entry)) = goes T o None
    (event target.items (In None (whole_entry entry))) z × hands_in
ComesNext goes hands_in T o p d h i z (Ok (turn.Completed text)) = AnswersFor goes T o p d h i z
    (Replied (Completed (ok text)))
ComesNext goes hands_in T o p d h i z (Ok (turn.Heard reply)) = AnswersFor goes T o p d h i z
    (Heard (reply_of reply))
ComesNext goes hands_in T o p d h i z (Ok turn.Nobody) = AnswersFor goes T o p d h i z Nobody
ComesNext goes hands_in T o p d h i z (Err e) = Interrupts e
    (λ r. AnswersFor goes T o p d h i z (Replied r))

-- what is said where an entry comes next
abbrev pub OnEntry : Result Turn Interruption → Type 0 → Type 0
OnEntry (Ok (turn.Entry target entry)) P = P
OnEntry r P = Unit {0}

-- ## A host as the outside

-- The host makes a step for each request by its reply, which a caller that is gone isn't told. It
-- hands in nothing, and above the tree no interpreter is. g says whether the caller is gone.
abbrev pub hosted_by : {S : Type 0} → (S → TheirRequest → TheirReply → S → Type 0) → Option ℕ → S →
    Wait → What Own → S → Type 0
hosted_by step g o (Some (None, AskHost request, d)) (Back h (Heard a)) u = (q : TheirRequest) ×
    (reply : TheirReply) × (request_of q ≡ request) × (reply_of reply ≡ a) × step o q reply u
hosted_by step g o (Some (None, AskHost request, d)) (Back h (Replied (Stop n Gone))) u =
    (q : TheirRequest) × (reply : TheirReply) × (request_of q ≡ request) × step o q reply u
hosted_by step g o (Some (Some up, i, d)) (Back h Nobody) u = u ≡ o
hosted_by step g o (Some (Some up, i, d)) (Back h (Replied (Stop n Gone))) u = (g ≡ Some n) ×
    (u ≡ o)
hosted_by step g o s (Out h down i) u = u ≡ o
hosted_by step g o s (Done h r) u = u ≡ o
hosted_by step g o s _ u = Prim.⊥

abbrev pub hosted_at : {S : Type 0} → (S → TheirRequest → TheirReply → S → Type 0) → Going S
hosted_at step T o s ev u = hosted_by step (gone_from s T ev.place) o s ev.what u

-- and it refuses no step
abbrev pub unrefused : What Own → Type 0 → Type 0
unrefused (Refused m None) P = Prim.⊥
unrefused x P = P

abbrev pub hosted : {S : Type 0} → (S → TheirRequest → TheirReply → S → Type 0) → Going S
hosted step T o s ev u = unrefused ev.what (past_top (hosted_at step) T o s ev u)
