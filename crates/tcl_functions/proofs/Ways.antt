-- What functions and a host make of what they are told.
use Rattle.std.proofs.Common.{◌≡◌, inl, inr, ℕ, ℤ, true, List, [], ◌∷◌, ◌++◌, length, Option, Some, None, refl, sym, ap, subst, ◌∙◌}
use Rattle.std.specs.Option.{option_map}
use Rattle.std.specs.Prelude.{Result, Ok, Err}
use Rattle.tcl_core.proofs.PathLaws.{rise_back}
use Rattle.tcl_core.specs.Endings.{Reply, error}
use Rattle.tcl_core.specs.Endings.{Kind}
use Rattle.tcl_core.specs.Endings.Reply.{Completed, Exit, Stop, Cut}
use Rattle.tcl_core.specs.Entries.{Entry}
use Rattle.tcl_core.specs.Entries.Answer.{Heard, Nobody, Replied}
use Rattle.tcl_core.specs.Entries.Entry.{AskHost}
use Rattle.tcl_core.specs.Paths.{Height, Path, Place, rise, rise_to}
use Rattle.tcl_core.specs.Runs.{gone, is_own}
use Rattle.tcl_core.specs.Trees.{Tree}
use Rattle.tcl_flow.specs.View.{completion_of}
use Rattle.tcl_flow.specs.declared.completion.Completion as code
use Rattle.tcl_functions.specs.Actions.{ActionView}
use Rattle.tcl_functions.specs.Actions.ActionView.{Completes, Enters as EntersFirst, Exits}
use Rattle.tcl_functions.specs.Handing.{handed}
use Rattle.tcl_functions.specs.Replies.{Sees, seen}
use Rattle.tcl_functions.specs.Serving.{Begins, Closes, ClosesByExit, ComesBack, EndsBy, EndsCall, EndsSo, GoesOut, HandsIn, HasNoCall, HearsEnd, HearsHost, Hosting, IsSpent, Keeps, Reopens, Serves, Serving, TakesReply, going, past, too_many_entries}
use Rattle.tcl_functions.specs.Serving.EndsCall.{served, exited}
use Rattle.tcl_functions.specs.declared.call.Call.{Call}
use Rattle.tcl_functions.specs.declared.serving.WithFunctions.{WithFunctions}
use Rattle.tcl_host.specs.Replies.{is_reply_to}
use Rattle.tcl_host.specs.declared.reply.HostReply.{HostReply}
use Rattle.tcl_host.specs.declared.request.Request.{Request}
use Rattle.tcl_run.proofs.Endings.{Interrupts-more, IfEnded-more}
use Rattle.tcl_run.proofs.Fitting.{own_reply, told_fits}
use Rattle.tcl_run.specs.Ends.{IfEnded, Interrupts}
use Rattle.tcl_run.specs.Entering.{request_of, whole_entry}
use Rattle.tcl_run.specs.Notifying.{WasUnfound}
use Rattle.tcl_run.specs.Outsides.{AnswersFor, ComesNext, Enters, Misses, Returns, reply_of, told_to}
use Rattle.tcl_run.specs.declared.entry.Entry.{Entry as CodeEntry}
use Rattle.tcl_run.specs.declared.entry.Entry.TheVariants as entry
use Rattle.tcl_run.specs.declared.interruption.Interruption.{Interruption}
use Rattle.tcl_run.specs.declared.outside.Turn.{Turn}
use Rattle.tcl_run.specs.declared.outside.Turn.TheVariants as turn
use Rattle.tcl_tree.specs.Own.{Own}

within : {S : Type 0} (o : S) (t : Type 0) (l : Option Place) (b : Place) → l ≡ Some b → past l o o t
within o t l b e = subst (λ x. past x o o t) (sym e) refl

outer : {S : Type 0} (l : Option Place) (o z : S) (t : Type 0) → l ≡ None → t → past l o z t
outer l o z t e g = subst (λ k. past k o z t) (sym e) g

-- ## How a function's call ends

own_of : (n : ℕ) (i : Entry) (r s : Reply) → r ≡ s → is_own (Some n) i (Replied s) ≡ true → is_own (Some n) i (Replied r) ≡ true
own_of n i r s e f = subst (λ x. is_own (Some n) i (Replied x) ≡ true) (sym e) f

own_by : (n : ℕ) (i : Entry) (left : ℕ) (does : ActionView) (r : Reply) → EndsBy left does r → is_own (Some n) i (Replied r) ≡ true
own_by n i left (Completes c) r e = own_of n i r (Completed c) e refl
own_by n i left (Exits m) r e = own_of n i r (Exit m) e refl
own_by n i left (EntersFirst t j) r e = own_of n i r (Completed (error too_many_entries)) e.1 refl

-- by no stop
own_end : {F H : Type 0} (serves : Serving F) (o z : WithFunctions F H) (n : ℕ) (i : Entry) (r : Reply) → EndsCall serves o r z → is_own (Some n) i (Replied r) ≡ true
own_end serves o z n i r (served below call does stood did ends closes) = own_by n i o.entries does r ends
own_end serves o z n i r (exited below call m exits stood ends functions closes) = own_of n i r (Exit m) ends refl

no_stop : {F H : Type 0} (serves : Serving F) (o z : WithFunctions F H) (m : ℕ) (k : Kind) → EndsCall serves o (Stop m k) z → Prim.⊥
no_stop serves o z m k (served below call does stood did ends closes) = by does ends
  where
    by : (does : ActionView) → EndsBy o.entries does (Stop m k) → Prim.⊥
    by (Completes c) e = let clash : Stop m k ≡ Completed c = e in absurd cc
    by (Exits n) e = let clash : Stop m k ≡ Exit n = e in absurd cc
    by (EntersFirst t j) e = let clash : Stop m k ≡ Completed (error too_many_entries) = e.1 in absurd cc
no_stop serves o z m k (exited below call n exits stood ends functions closes) = let clash : Stop m k ≡ Exit n = ends in absurd cc

module _ {F H : Type 0} (serves : Serving F) (step : Hosting H) where
  -- ## What is between two interpreters of the tree

  pub enters_unheard : (T : Tree Own) (o : WithFunctions F H) (p : Place) (n : ℕ) (a : Place) (down : Path) (i : Entry) → rise n p ≡ Some a → Enters (going serves step) T o p n a down i o
  enters_unheard T o p n a down i e = record { between = o; leaves = within o _ (rise n p) a e; enters = within o _ (rise (length down) (a ++ down)) a (rise_back a down) }

  pub returns_unheard : (T : Tree Own) (o : WithFunctions F H) (p : Place) (n : ℕ) (a : Place) (down : Path) (s r : Reply) → rise n p ≡ Some a → Returns (going serves step) T o p n a down s r o
  returns_unheard T o p n a down s r e = record { between = o; leaves = within o _ (rise (length down) (a ++ down)) a (rise_back a down); returns = within o _ (rise n p) a e }

  pub misses_unheard : (T : Tree Own) (o : WithFunctions F H) (p : Place) (n : ℕ) (a : Place) (down : Path) (i : Entry) (r : Reply) → rise n p ≡ Some a → Misses (going serves step) T o p n down i r o
  misses_unheard T o p n a down i r e = record { between = o; leaves = within o _ (rise n p) a e; returns = within o _ (rise n p) a e }

  -- ## What passes the top

  -- a caller that is gone is told that in place of a completion
  told_back : (o z : WithFunctions F H) (n d : ℕ) (i : Entry) (g : Option ℕ) (r : Reply) → EndsCall serves o r z → ComesBack serves step o g (Some (Some n, i, d)) (told_to g (Replied r)) z
  told_back o z n d i None (Completed c) x = x
  told_back o z n d i None (Stop m k) x = absurd (no_stop serves o z m k x)
  told_back o z n d i None (Exit m) x = x
  told_back o z n d i None (Cut c) x = x
  told_back o z n d i (Some l) (Completed c) x = (refl, inl (c, x))
  told_back o z n d i (Some l) (Stop m k) x = absurd (no_stop serves o z m k x)
  told_back o z n d i (Some l) (Exit m) x = x
  told_back o z n d i (Some l) (Cut c) x = x

  nobody_back : (o z : WithFunctions F H) (n d : ℕ) (i : Entry) (g : Option ℕ) → HasNoCall o z → ComesBack serves step o g (Some (Some n, i, d)) (told_to g Nobody) z
  nobody_back o z n d i None x = x
  nobody_back o z n d i (Some l) x = (refl, inr x)

  host_back : (o z : WithFunctions F H) (d : ℕ) (q : Request) (a : HostReply) (g : Option ℕ) → HearsHost step o (request_of q) (reply_of a) z → ComesBack serves step o g (Some (None, AskHost (request_of q), d)) (told_to g (Heard (reply_of a))) z
  host_back o z d q a None x = x
  host_back o z d q a (Some l) x = (refl, reply_of a, x)

  ended : (T : Tree Own) (o z : WithFunctions F H) (h : Height) (n : ℕ) (p : Path) (d : ℕ) (i : Entry) (r : Reply) → h ≡ Some n → rise_to h p ≡ None → EndsCall serves o r z → AnswersFor (going serves step) T o p d h i z (Replied r)
  ended T o z h n p d i r is top x = (
    outer (rise_to h p) o z _ top (subst (λ (k : Height). ComesBack serves step o (gone d T p) (Some (k, i, d)) (told_to (gone d T p) (Replied r)) z) (sym is) (told_back o z n d i (gone d T p) r x)),
    told_fits d T p h i (Replied r) top (subst (λ (k : Height). is_own k i (Replied r) ≡ true) (sym is) (own_end serves o z n i r x)),
  )

  unanswered : (T : Tree Own) (o z : WithFunctions F H) (h : Height) (n : ℕ) (p : Path) (d : ℕ) (i : Entry) → h ≡ Some n → rise_to h p ≡ None → HasNoCall o z → AnswersFor (going serves step) T o p d h i z Nobody
  unanswered T o z h n p d i is top x = (
    outer (rise_to h p) o z _ top (subst (λ (k : Height). ComesBack serves step o (gone d T p) (Some (k, i, d)) (told_to (gone d T p) Nobody) z) (sym is) (nobody_back o z n d i (gone d T p) x)),
    told_fits d T p h i Nobody top (subst (λ (k : Height). is_own k i Nobody ≡ true) (sym is) refl),
  )

  -- the host's reply to a request
  host_answers : (T : Tree Own) (o : WithFunctions F H) (host : H) (p : Path) (d : ℕ) (q : Request) (a : HostReply) → step o.host q a host → is_reply_to a q ≡ true → AnswersFor (going serves step) T o p d None (AskHost (request_of q)) (record o { host = host }) (Heard (reply_of a))
  host_answers T o host p d q a steps fits = (
    host_back o (record o { host = host }) d q a (gone d T p) (record { request = q; reply = a; asked = refl; heard = refl; steps = steps; functions = refl; calls = refl; entries = refl; exits = refl }),
    told_fits d T p None (AskHost (request_of q)) (Heard (reply_of a)) refl (own_reply a q fits),
  )

  pub host_comes : (T : Tree Own) (o : WithFunctions F H) (host : H) (p : Path) (d : ℕ) (h : Height) (i : CodeEntry) (q : Request) (a : HostReply) → h ≡ None → i ≡ entry.AskHost q → step o.host q a host → is_reply_to a q ≡ true →
      AnswersFor (going serves step) T o p d h (whole_entry i) (record o { host = host }) (Heard (reply_of a))
  host_comes T o host p d h i q a none is steps fits = subst (λ (k : Height). AnswersFor (going serves step) T o p d k (whole_entry i) (record o { host = host }) (Heard (reply_of a))) (sym none)
      (subst (λ (j : CodeEntry). AnswersFor (going serves step) T o p d None (whole_entry j) (record o { host = host }) (Heard (reply_of a))) (sym is) (host_answers T o host p d q a steps fits))

  pub comes_next : (T : Tree Own) (o z : WithFunctions F H) (h : Height) (n : ℕ) (p : Path) (d : ℕ) (i : Entry) (t : Result Turn Interruption) → h ≡ Some n → rise_to h p ≡ None → Serves serves o z t → ComesNext (going serves step) (Unit {0}) T o p d h i z t
  comes_next T o z h n p d i (Ok (turn.Entry target entry)) is top g = (g, tt)
  comes_next T o z h n p d i (Ok (turn.Completed text)) is top g = absurd g
  comes_next T o z h n p d i (Ok (turn.Heard reply)) is top g = absurd g
  comes_next T o z h n p d i (Ok turn.Nobody) is top g = unanswered T o z h n p d i is top g
  comes_next T o z h n p d i (Err e) is top g = Interrupts-more e (λ r. EndsCall serves o r z) (λ r. AnswersFor (going serves step) T o p d h i z (Replied r)) (λ r x. ended T o z h n p d i r is top x) g

  pub exit_back : (o z : WithFunctions F H) (g : Option ℕ) (h : Height) (n : ℕ) (p : Path) (d : ℕ) (i : Entry) (status : ℤ) → h ≡ Some n → rise_to h p ≡ None → ClosesByExit o z → past (rise_to h p) o z (ComesBack serves step o g (Some (h, i, d)) (Replied (Exit status)) z)
  exit_back o z g h n p d i status is top c =
      outer (rise_to h p) o z _ top (subst (λ (k : Height). ComesBack serves step o g (Some (k, i, d)) (Replied (Exit status)) z) (sym is) (exited c.below c.call status c.exits c.stood refl c.functions c.closes))

  -- an entry that found nobody
  pub unfound : (T : Tree Own) (o z : WithFunctions F H) (t : Path) (i : Entry) (end : Result (List ℕ) Interruption) → IfEnded end (λ r. HearsEnd (seen r) o z) → IfEnded end (λ r. WasUnfound (going serves step) T o t i r z)
  unfound T o z t i end h = IfEnded-more end (λ r. HearsEnd (seen r) o z) (λ r. WasUnfound (going serves step) T o t i r z)
      (λ r hears c before is absent handed_in. record { between = o; hands_in = handed_in; hears = subst (λ (x : Reply). HearsEnd (seen x) o z) is hears }) h

pub begun : {F H : Type 0} (o z : WithFunctions F H) (h : Height) (n : ℕ) (p : Path) (i : Entry) → h ≡ Some n → rise_to h p ≡ None → Begins o p i z → past (rise_to h p) o z (GoesOut h o p i z)
begun o z h n p i is top b = outer (rise_to h p) o z _ top (subst (λ (k : Height). GoesOut k o p i z) (sym is) b)

pub unsaid : {F H : Type 0} (o : WithFunctions F H) (h : Height) (p : Path) (i : Entry) → h ≡ None → past (rise_to h p) o o (GoesOut h o p i o)
unsaid o h p i is = subst (λ (k : Height). past (rise_to k p) o o (GoesOut k o p i o)) (sym is) refl

-- ## How an entry ended

pub heard : {F H : Type 0} (end : Result (List ℕ) Interruption) (reply : Option code.Completion) (d : code.Completion) (o z : WithFunctions F H) → reply ≡ Some d → IfEnded end (Sees reply) → TakesReply o (completion_of d) z → IfEnded end (λ r. HearsEnd (seen r) o z)
heard end reply d o z is sees t = IfEnded-more end (Sees reply) (λ r. HearsEnd (seen r) o z) (λ r s. subst (λ x. HearsEnd x o z) (sym (ap (option_map completion_of) is) ∙ s) t) sees

pub heard_exit : {F H : Type 0} (end : Result (List ℕ) Interruption) (reply : Option code.Completion) (o z : WithFunctions F H) → reply ≡ None → IfEnded end (Sees reply) → HearsEnd None o z → IfEnded end (λ r. HearsEnd (seen r) o z)
heard_exit end reply o z is sees t = IfEnded-more end (Sees reply) (λ r. HearsEnd (seen r) o z) (λ r s. subst (λ x. HearsEnd x o z) (sym (ap (option_map completion_of) is) ∙ s) t) sees

-- ## What comes of an open call

module _ {F H : Type 0} (serves : Serving F) (o z : WithFunctions F H) where
  pub nobody : length o.calls.items ≡ 0 → length z.calls.items ≡ 0 → z.functions ≡ o.functions → z.exits ≡ o.exits → Keeps o z → Serves serves o z (Ok turn.Nobody)
  nobody none none_left same exits keeps = record { before = none; after = none_left; functions = same; exits = exits; keeps = keeps }

  ends_by : (left : ℕ) (d : ActionView) (r : Reply) → EndsSo d r → EndsBy left d r
  ends_by left (Completes c) r e = e
  ends_by left (Exits n) r e = e
  ends_by left (EntersFirst t i) r e = absurd e

  pub ends : (below : List Call) (call : Call) (d : ActionView) (e : Interruption) → o.calls.items ≡ below ++ call ∷ [] → serves o.functions call d z.functions → Closes o below z → Interrupts e (EndsSo d) → Serves serves o z (Err e)
  ends below call d e stood does closes says = Interrupts-more e (EndsSo d) (λ r. EndsCall serves o r z) (λ r g. served below call d stood does (ends_by o.entries d r g) closes) says

  module _ (u : WithFunctions F H) (below : List Call) (call : Call) (d : ActionView) (target : List (List ℕ)) (asked : Entry) (is : d ≡ EntersFirst target asked) (stood : o.calls.items ≡ below ++ call ∷ []) (does : serves o.functions call d u.functions) (closes : Closes o below u) where
    asked_so : serves o.functions call (EntersFirst target asked) u.functions
    asked_so = subst (λ y. serves o.functions call y u.functions) is does

    pub enters : (entry : Entry) → entry ≡ handed target asked → Reopens u call z → HandsIn serves o target entry z
    enters entry same w = record {
      below = below;
      call = call;
      asked = asked;
      stood = stood;
      does = subst (λ f. serves o.functions call (EntersFirst target asked) f) (sym w.functions) asked_so;
      handed_so = same;
      stands = w.stands ∙ ap (λ cs. cs ++ call ∷ []) closes.calls;
      left = sym closes.keeps.entries ∙ w.left;
      host = w.host ∙ closes.keeps.host;
      exits = w.exits ∙ closes.exits;
    }

    pub spent : (e : Interruption) → Interrupts e (IsSpent u z) → Serves serves o z (Err e)
    spent e says = Interrupts-more e (IsSpent u z) (λ r. EndsCall serves o r z) (λ r g. served below call (EntersFirst target asked) stood (subst (λ w. serves o.functions call (EntersFirst target asked) w.functions) (sym g.same) asked_so) (sym closes.keeps.entries ∙ g.spent, g.says) (subst (λ w. Closes o below w) (sym g.same) closes)) says
