-- What requests of the host come to, and what is read by them.
use Rattle.std.proofs.Common.{◌≡◌, ◌⊎◌, inl, inr, ◌<◌, ◌≤◌, List, [], ◌∷◌, length, Some, None, refl, sym, ◌∙◌, ap, subst, arith}
use Rattle.std.specs.Prelude.{Result, Ok, Err, codes}
use Rattle.tcl_core.specs.Endings.{ok, unreturned}
use Rattle.tcl_core.specs.Endings.Reply.{Completed, Stop, Exit, Cut}
use Rattle.tcl_core.specs.Entries.{HostReply, Request}
use Rattle.tcl_core.specs.Entries.Entry.{AskHost}
use Rattle.tcl_core.specs.Execution.{event}
use Rattle.tcl_core.specs.Programs.{or_lost}
use Rattle.tcl_core.specs.Paths.{Path, Text}
use Rattle.tcl_core.specs.Runs.{Ending}
use Rattle.tcl_core.specs.Trees.{Tree}
use Rattle.tcl_core.specs.Trees.What.{Out}
use Rattle.tcl_flow.specs.View.{completion_of}
use Rattle.tcl_host.specs.declared.reply.HostReply.{HostReply as TheirReply}
use Rattle.tcl_language.specs.Hosting.{asks, heard}
use Rattle.tcl_language.specs.Faults.{wrong_args}
use Rattle.tcl_language.specs.Instructions.{Program, fails}
use Rattle.tcl_language.specs.Instructions.Instr.{Script}
use Rattle.tcl_language.specs.Scripts.{script}
use Rattle.tcl_language.specs.Sourcing.{evaluates_file, source}
use Rattle.tcl_run.specs.Language.{language}
use Rattle.tcl_run.specs.Ends.{Breaks, IfRan, Interrupts}
use Rattle.tcl_run.specs.Outsides.{reply_of}
use Rattle.tcl_run.specs.Plain.{Acts, Does}
use Rattle.tcl_run.specs.Runs.{IsAt, IsHere, IsThere, Proceeds, ProceedsIn, Ways}
use Rattle.tcl_run.specs.declared.interruption.Interruption.{Interruption}
use Rattle.tcl_run.specs.declared.interruption.Interruption.TheVariants as interruption
use Rattle.tcl_run.proofs.Endings.{Breaks-more, IfRan-more, breaks, fails_err, ran, ran_err}
use Rattle.tcl_run.proofs.Proceeding.{at_end, at_prog, at_reply, calls_out, completed, does_proceeds, goes_on, passed, stopped}
use Rattle.tcl_run.proofs.Steady.{still_at}
use Rattle.tcl_text.specs.declared.integer.Integers.{Integers}
use Rattle.tcl_tree.specs.Own.{Own}
use Rattle.tcl_tree.specs.TreeOf.{tree_of, Names}
use Rattle.tcl_tree.specs.declared.tree.Tree.{Tree as Table}
use Rattle.tcl_tree.specs.declared.tree.Place.{Place as TablePlace}
use Rattle.tcl_calls.specs.HostCalls.{IsOver, IsScript, LeavesFile, heard_by, meaning_of, request_by}
use Rattle.tcl_calls.specs.declared.host_calls.HostCall.{HostCall}
use Rattle.tcl_calls.specs.declared.host_calls.HostCall.TheVariants as call
use Rattle.tcl_evaluation.specs.Requests.{EndsAsking, Hears, HearsOn, ReadsScript}
use Rattle.tcl_evaluation.specs.View.{Leads}
use Rattle.tcl_evaluation.specs.Waiting.{EndsWait, HearsSo, Wherever, depth_there}
use Rattle.tcl_evaluation.proofs.Awaited.{ends_out}
use Rattle.tcl_evaluation.proofs.Steps.{EndsFrom}

-- ## One request

module _ {S : Type 0} (ways : Ways S) (old new : Table) (o u z : S) (place : TablePlace) (q : Request)
    (leaves : (p : Path) → Names old place p → ways.goes (tree_of old) o None (event p (Out None [] (AskHost q))) u) where
  -- it is answered by this reply
  pub asks_heard : (reply : HostReply) → Wherever old place (λ p style. HearsSo ways style (tree_of old) u p None (AskHost q) (depth_there old p) (tree_of new) z reply) → HearsOn ways old o place q new z reply
  asks_heard reply hears = λ p style at k V w e t. calls_out refl (leaves p at.names) (hears p style at (or_lost (ok []) (heard k)) V w e t)

  -- it ended otherwise, or was given up
  pub asks_over : (result : Result TheirReply Interruption) (i y : Interruption) → result ≡ Err y → y ≡ i → Breaks i (EndsWait ways old u place None (AskHost q) new z) → Hears ways old o place q new z result
  asks_over result i y is same ends =
      ran_err result i y (λ reply. HearsOn ways old o place q new z (reply_of reply)) (EndsWait ways old u place None (AskHost q) new z) (EndsAsking ways old o place q new z) is same ends
      (λ e h p style at k. ends_out ways style None [] (AskHost q) (ok []) (heard k) e (λ c. refl) refl (leaves p at.names) (h p style at))

-- ## A call of a command

-- a call makes its request, and goes on with the reply
call_is : (c : HostCall) → meaning_of c ≡ asks (request_by c) (heard_by c)
call_is (call.Open file mode) = refl
call_is (call.ReadLine channel) = refl
call_is (call.ReadLineInto channel name) = refl
call_is (call.ReadAll channel) = refl
call_is (call.Write channel text) = refl
call_is (call.Flush channel) = refl
call_is (call.Close channel) = refl
call_is (call.Eof channel) = refl

made_is : (c : HostCall) (q : Request) → q ≡ request_by c → meaning_of c ≡ asks q (heard_by c)
made_is c q same = call_is c ∙ ap (λ x. asks x (heard_by c)) (sym same)

module _ {S : Type 0} (ways : Ways S) (old mid new : Table) (o u : S) (place : TablePlace) where
  -- the request ended otherwise than by a reply
  pub call_over : (c : HostCall) (q : Request) (result : Result Text Interruption) (i y : Interruption) → q ≡ request_by c → result ≡ Err y → y ≡ i → Breaks i (EndsAsking ways old o place q mid u) → ProceedsIn ways old o place (λ style. meaning_of c) mid u result
  call_over c q result i y same is eq ends =
      ran_err result i y (λ x. (p : Path) (style : Integers) → IsAt old place p style → Proceeds ways (language style) (tree_of old) o p (meaning_of c) (tree_of mid) u (Some (Completed (ok x)))) (EndsAsking ways old o place q mid u)
      (EndsFrom ways old o place (λ style. meaning_of c) mid u) is eq ends (λ e h p style at. at_prog (made_is c q same) (h p style at (heard_by c)))

  -- what its reply is
  pub call_answered : (c : HostCall) (q : Request) (reply : HostReply) (result : Result Text Interruption) → q ≡ request_by c → HearsOn ways old o place q mid u reply → IsHere old mid place → Acts mid place (λ style. heard_by c reply) new result →
      ProceedsIn ways old o place (λ style. meaning_of c) new u result
  call_answered c q reply result same hears stays acts =
      ran result (λ e. (p : Path) (style : Integers) → IsThere mid place p style → Does (heard_by c reply) (tree_of mid) p (tree_of new) e) (EndsFrom ways old o place (λ style. meaning_of c) new u)
      (λ e h p style at. let after = still_at old mid place p style stays at in
      at_prog (made_is c q same) (hears p style at (heard_by c) _ _ _ (does_proceeds (heard_by c reply) u (h p style (record { names = after.names; style_is = after.style_is })))))
      (λ p style at. at_prog (made_is c q same) (hears p style at (heard_by c) (tree_of new) u None stopped)) acts

-- ## The script of a file

-- what was read from later is read from here
pub reads_after : {S : Type 0} (ways : Ways S) (old mid new : Table) (o u z : S) (place : TablePlace) (x y : Program) (result : Result Text Interruption) → Wherever old place (λ p style. Leads ways style (tree_of old) o p x (tree_of mid) u y) → IsHere old mid place →
    ReadsScript ways mid u place y new z result → ReadsScript ways old o place x new z result
reads_after ways old mid new o u z place x y (Ok text) leads stays reads = λ p style at V w e t. leads p style at V w e (reads p style (still_at old mid place p style stays at) V w e t)
reads_after ways old mid new o u z place x y (Err i) leads stays reads =
    Breaks-more i (λ e. Wherever mid place (λ p style. Proceeds ways (language style) (tree_of mid) u p y (tree_of new) z e)) (λ e. Wherever old place (λ p style. Proceeds ways (language style) (tree_of old) o p x (tree_of new) z e))
    (λ e h p style at. leads p style at _ _ _ (h p style (still_at old mid place p style stays at))) reads

module _ {S : Type 0} (ways : Ways S) (old mid new : Table) (o u z : S) (place : TablePlace) where
  -- a program that is over behind another
  pub reads_over : (x y : Program) (result : Result Text Interruption) (i j : Interruption) → Wherever old place (λ p style. Leads ways style (tree_of old) o p x (tree_of mid) u y) → result ≡ Err j → j ≡ i → Interrupts i (IsOver y) → ReadsScript ways old o place x mid u result
  reads_over x y result i j leads is same over =
      fails_err result i j (λ text. Wherever old place (λ p style. Leads ways style (tree_of old) o p x (tree_of mid) u (evaluates_file text))) (IsOver y)
      (λ e. Wherever old place (λ p style. Proceeds ways (language style) (tree_of old) o p x (tree_of mid) u e)) is same over
      (λ e h p style at. leads p style at _ _ _ (does_proceeds y u (h (tree_of mid) p))) (λ p style at. leads p style at _ _ _ stopped)

  -- the request that a program begins with ended otherwise than by a reply
  pub reads_unheard : (x : Program) (q : Request) (k : HostReply → Program) (result : Result Text Interruption) (i j : Interruption) → x ≡ asks q k → result ≡ Err j → j ≡ i → Breaks i (EndsAsking ways old o place q mid u) → ReadsScript ways old o place x mid u result
  reads_unheard x q k result i j eq is same ends =
      ran_err result i j (λ text. Wherever old place (λ p style. Leads ways style (tree_of old) o p x (tree_of mid) u (evaluates_file text))) (EndsAsking ways old o place q mid u)
      (λ e. Wherever old place (λ p style. Proceeds ways (language style) (tree_of old) o p x (tree_of mid) u e)) is same ends (λ e h p style at. at_prog eq (h p style at k))

  -- it goes on with the reply
  pub reads_heard : (x : Program) (q : Request) (k : HostReply → Program) (reply : HostReply) → x ≡ asks q k → HearsOn ways old o place q mid u reply → Wherever old place (λ p style. Leads ways style (tree_of old) o p x (tree_of mid) u (k reply))
  reads_heard x q k reply eq hears = λ p style at V w e t. at_prog eq (hears p style at k V w e t)

  -- and with that to a second one
  pub heard_twice : (x : Program) (q r : Request) (k : HostReply → HostReply → Program) (first second : HostReply) → x ≡ asks q (λ a. asks r (k a)) → HearsOn ways old o place q mid u first → IsHere old mid place → HearsOn ways mid u place r new z second →
      Wherever old place (λ p style. Leads ways style (tree_of old) o p x (tree_of new) z (k first second))
  heard_twice x q r k first second eq hears stays again = λ p style at V w e t.
      at_prog eq (hears p style at (λ a. asks r (k a)) V w e (again p style (still_at old mid place p style stays at) (k first) V w e t))

  pub heard_once : (x : Program) (q r : Request) (k : HostReply → HostReply → Program) (first : HostReply) (result : Result Text Interruption) (i j : Interruption) → x ≡ asks q (λ a. asks r (k a)) → HearsOn ways old o place q mid u first → IsHere old mid place →
      result ≡ Err j → j ≡ i → Breaks i (EndsAsking ways mid u place r new z) → ReadsScript ways old o place x new z result
  heard_once x q r k first result i j eq hears stays is same ends =
      ran_err result i j (λ text. Wherever old place (λ p style. Leads ways style (tree_of old) o p x (tree_of new) z (evaluates_file text))) (EndsAsking ways mid u place r new z)
      (λ e. Wherever old place (λ p style. Proceeds ways (language style) (tree_of old) o p x (tree_of new) z e)) is same ends
      (λ e h p style at. at_prog eq (hears p style at (λ a. asks r (k a)) _ _ _ (h p style (still_at old mid place p style stays at) (k first))))

-- what was read is a script, or is refused
pub script_is : {S : Type 0} (ways : Ways S) (old new : Table) (o z : S) (place : TablePlace) (x y : Program) (result : Result Text Interruption) → Wherever old place (λ p style. Leads ways style (tree_of old) o p x (tree_of new) z y) → IsScript y result → ReadsScript ways old o place x new z result
script_is ways old new o z place x y (Ok text) leads is = λ p style at V w e t. leads p style at V w e (at_prog is t)
script_is ways old new o z place x y (Err i) leads is =
    breaks i (IsOver y) (λ e. Wherever old place (λ p style. Proceeds ways (language style) (tree_of old) o p x (tree_of new) z e)) (λ e h p style at. leads p style at _ _ _ (does_proceeds y z (h (tree_of new) p))) (λ p style at. leads p style at _ _ _ stopped) is

-- the script that was read is evaluated
pub script_goes : {S : Type 0} (ways : Ways S) (old mid new : Table) (o u z : S) (place : TablePlace) (x : Program) (text : Text) (result : Result Text Interruption) → Wherever old place (λ p style. Leads ways style (tree_of old) o p x (tree_of mid) u (evaluates_file text)) → IsHere old mid place →
    ProceedsIn ways mid u place (λ style. evaluates_file text) new z result → ProceedsIn ways old o place (λ style. x) new z result
script_goes ways old mid new o u z place x text result leads stays runs =
    IfRan-more result (EndsFrom ways mid u place (λ style. evaluates_file text) new z) (EndsFrom ways old o place (λ style. x) new z) (λ e h p style at. leads p style at _ _ _ (h p style (still_at old mid place p style stays at))) runs

-- no other words than one name a file
pub not_sourced : (xs : List Text) → (length xs < 1) ⊎ (2 ≤ length xs) → source xs ≡ fails (wrong_args (codes "source name"))
not_sourced [] h = refl
not_sourced (a ∷ []) (inl h) = absurd (omega arith)
not_sourced (a ∷ []) (inr h) = absurd (omega arith)
not_sourced (a ∷ b ∷ rest) h = refl

-- ## Its end

-- how far a file came whose script came so far
abbrev pub Leaves : Ending → Ending → Type 0
Leaves (Some (Completed c)) None = Unit {0}
Leaves (Some (Completed c)) (Some f) = f ≡ Completed (unreturned c.code c)
Leaves e f = f ≡ e

pub leaves_more : (ended left : Result Text Interruption) (P Q : Ending → Type 0) → IfRan ended P → LeavesFile ended left → ((e f : Ending) → P e → Leaves e f → Q f) → IfRan left Q
leaves_more (Ok text) left P Q p l k = subst (λ (x : Result Text Interruption). IfRan x Q) (sym l) (k (Some (Completed (ok text))) (Some (Completed (ok text))) p refl)
leaves_more (Err interruption.Memory) left P Q p l k = subst (λ (x : Result Text Interruption). IfRan x Q) (sym l) (k None None p refl)
leaves_more (Err (interruption.Completed c)) left P Q p l k =
    ran left (λ e. e ≡ Completed (unreturned (completion_of c.value).code (completion_of c.value))) Q (λ f e. k (Some (Completed (completion_of c.value))) (Some f) p e) (k (Some (Completed (completion_of c.value))) None p tt) l
leaves_more (Err (interruption.Stopped s)) left P Q p l k = subst (λ (x : Result Text Interruption). IfRan x Q) (sym l) (k _ _ p refl)
leaves_more (Err (interruption.Exited n)) left P Q p l k = subst (λ (x : Result Text Interruption). IfRan x Q) (sym l) (k _ _ p refl)
leaves_more (Err (interruption.Cut c)) left P Q p l k = subst (λ (x : Result Text Interruption). IfRan x Q) (sym l) (k _ _ p refl)

pub file_evaluates : {S : Type 0} {ways : Ways S} (style : Integers) {T V : Tree Own} {o z : S} {p : Path} (text : Text) (e f : Ending) → Leaves e f → Proceeds ways (language style) T o p (script text) V z e → Proceeds ways (language style) T o p (evaluates_file text) V z f
file_evaluates style text (Some (Completed c)) (Some r) l t = goes_on {i = Script text} t (at_reply l completed)
file_evaluates style text (Some (Completed c)) None l t = goes_on {i = Script text} t stopped
file_evaluates style text (Some (Stop n m)) f l t = at_end l (passed tt t)
file_evaluates style text (Some (Exit n)) f l t = at_end l (passed tt t)
file_evaluates style text (Some (Cut c)) f l t = at_end l (passed tt t)
file_evaluates style text None f l t = at_end l (passed tt t)
