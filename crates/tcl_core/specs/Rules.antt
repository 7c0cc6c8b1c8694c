-- The same meaning as rules, to be read: one rule for each act and outcome. `Meaning` says that
-- they are what `Runs` says.
use Rattle.std.specs.Prelude.{◌≡◌, ℤ, Bool, true, false, List, [], ◌∷◌, Some, None, length}
use Rattle.tcl_core.specs.Paths.{Path, Place, Height, rise_to}
use Rattle.tcl_core.specs.Endings.{Completion, Reply, IsQuit, refusal}
use Rattle.tcl_core.specs.Endings.Meter.{Depth}
use Rattle.tcl_core.specs.Endings.Kind.{Full}
use Rattle.tcl_core.specs.Endings.Reply.{Completed, Exit}
use Rattle.tcl_core.specs.Entries.{Entry, HostReply, Said}
use Rattle.tcl_core.specs.Entries.Answer.{Replied, Heard, Nobody}
use Rattle.tcl_core.specs.Entries.Said.{Finished, Told, Missed}
use Rattle.tcl_core.specs.Trees.{Node, Tree, Move, at, depth_of}
use Rattle.tcl_core.specs.Trees.What.{Made, Dropped, Out, In, Done, Back, Unfound}
use Rattle.tcl_core.specs.Trees.Move.{Come}
use Rattle.tcl_core.specs.Programs.{Deed, spot, Act, Wrap, Wait, Next, Prog, Table, decide, opens}
use Rattle.tcl_core.specs.Programs.{closes, or_lost}
use Rattle.tcl_core.specs.Programs.Next.{On, TooDeep, Off}
use Rattle.tcl_core.specs.Programs.Prog.{done, exit, act, go, inside, call, wait}
use Rattle.tcl_core.specs.Runs.{World, Ending, Step, Exits, returned, reached, fits}
use Rattle.tcl_core.specs.Runs.{height_of}

-- the program goes on after the act
abbrev pub IsOn : Next → Type 0
IsOn (Off r) = Prim.⊥
IsOn _ = Unit {0}

abbrev pub IsNoExit : Reply → Type 0
IsNoExit (Exit n) = Prim.⊥
IsNoExit _ = Unit {0}

pub data Derives {O I : Type 0} (prog : Table O I) : World O → Place → Prog O I → World O → Ending →
    Type 0 where
  completed : (w : World O) (p : Place) (c : Completion) →
      Derives prog w p (done c) w (Some (Completed c))
  exited : (w : World O) (p : Place) (n : ℤ) → Derives prog w p (exit n) w (Some (Exit n))
  -- acts
  acted : (w : World O) (p : Place) (d : Act O) (k : Tree O → Prog O I) (x : Deed O) (u v : World O)
      (e : Ending) →
      decide d w.tree p w.grants ≡ Some x → IsOn x.2 → Step w (spot p x.0) x.1 u →
      Derives prog u p (k (at w.tree p)) v e → Derives prog w p (act d k) v e
  refused : (w : World O) (p : Place) (d : Act O) (k : Tree O → Prog O I) (x : Deed O) (r : Reply)
      (u : World O) →
      decide d w.tree p w.grants ≡ Some x → x.2 ≡ Off r → Step w (spot p x.0) x.1 u →
      Derives prog w p (act d k) u (Some r)
  unheard : (w : World O) (p : Place) (d : Act O) (k : Tree O → Prog O I) →
      decide d w.tree p w.grants ≡ None → w.tape ≡ [] → Derives prog w p (act d k) w None
  -- inner evaluations
  went : (w : World O) (p : Place) (i : I) (k : Completion → Prog O I) (u : World O)
      (c : Completion) (v : World O) (e : Ending) →
      Derives prog w p (prog.program i) u (Some (Completed c)) → Derives prog u p (k c) v e →
      Derives prog w p (go i k) v e
  passed : (w : World O) (p : Place) (i : I) (k : Completion → Prog O I) (u : World O) (r : Reply) →
      IsQuit r →
      Derives prog w p (prog.program i) u (Some r) → Derives prog w p (go i k) u (Some r)
  halted : (w : World O) (p : Place) (i : I) (k : Completion → Prog O I) (u : World O) →
      Derives prog w p (prog.program i) u None → Derives prog w p (go i k) u None
  -- and with a wrap
  wrapped : (w : World O) (p : Place) (b : Wrap O) (i : I) (k : Completion → Prog O I) (x : Deed O)
      (inner left closed v : World O) (c : Completion) (e : Ending) →
      opens b w.tree p w.grants ≡ Some x → x.2 ≡ On → Step w (spot p x.0) x.1 inner →
      Derives prog inner p (prog.program i) left (Some (Completed c)) →
      Step left p (closes b (inner.tree p) (left.tree p)) closed → Derives prog closed p (k c) v e →
      Derives prog w p (inside b i k) v e
  wrapped_passed : (w : World O) (p : Place) (b : Wrap O) (i : I) (k : Completion → Prog O I)
      (x : Deed O) (inner left closed : World O) (r : Reply) → IsQuit r →
      opens b w.tree p w.grants ≡ Some x → x.2 ≡ On → Step w (spot p x.0) x.1 inner →
      Derives prog inner p (prog.program i) left (Some r) →
      Step left p (closes b (inner.tree p) (left.tree p)) closed →
      Derives prog w p (inside b i k) closed (Some r)
  wrapped_halted : (w : World O) (p : Place) (b : Wrap O) (i : I) (k : Completion → Prog O I)
      (x : Deed O) (inner left : World O) →
      opens b w.tree p w.grants ≡ Some x → x.2 ≡ On → Step w (spot p x.0) x.1 inner →
      Derives prog inner p (prog.program i) left None →
      Derives prog w p (inside b i k) left None
  too_deep : (w : World O) (p : Place) (b : Wrap O) (i : I) (k : Completion → Prog O I) (x : Deed O)
      (u v : World O) (e : Ending) →
      opens b w.tree p w.grants ≡ Some x → x.2 ≡ TooDeep → Step w (spot p x.0) x.1 u →
      Derives prog u p (k (refusal (Full Depth))) v e → Derives prog w p (inside b i k) v e
  shut : (w : World O) (p : Place) (b : Wrap O) (i : I) (k : Completion → Prog O I) (x : Deed O)
      (r : Reply) (u : World O) →
      opens b w.tree p w.grants ≡ Some x → x.2 ≡ Off r → Step w (spot p x.0) x.1 u →
      Derives prog w p (inside b i k) u (Some r)
  unheard_inside : (w : World O) (p : Place) (b : Wrap O) (i : I) (k : Completion → Prog O I) →
      opens b w.tree p w.grants ≡ None → w.tape ≡ [] → Derives prog w p (inside b i k) w None
  -- calls within the tree
  called : (w : World O) (p : Place) (h : Height) (down : Path) (i : Entry) (lost : Completion)
      (k : Said → Prog O I) (a t : Place) (out entered left told back v : World O) (r : Reply)
      (c : Completion) (e : Ending) →
      rise_to h p ≡ Some a → Step w p (Out h down i) out → reached out.tree a down ≡ Some t →
      Step out t (In (Some (length down)) i) entered →
      Derives prog entered t (prog.entry i) left (Some r) →
      Step left t (Done (Some (length down)) r) told →
      returned out.tree told.tree h p down r ≡ Completed c →
      Step told p (Back h (Replied (returned out.tree told.tree h p down r))) back →
      Derives prog back p (k (Finished c)) v e → Derives prog w p (call h down i lost k) v e
  called_passed : (w : World O) (p : Place) (h : Height) (down : Path) (i : Entry)
      (lost : Completion) (k : Said → Prog O I) (a t : Place) (out entered left told back : World O)
      (r : Reply) →
      rise_to h p ≡ Some a → Step w p (Out h down i) out → reached out.tree a down ≡ Some t →
      Step out t (In (Some (length down)) i) entered →
      Derives prog entered t (prog.entry i) left (Some r) →
      Step left t (Done (Some (length down)) r) told →
      IsQuit (returned out.tree told.tree h p down r) →
      Step told p (Back h (Replied (returned out.tree told.tree h p down r))) back →
      Derives prog w p (call h down i lost k) back
      (Some (returned out.tree told.tree h p down r))
  called_halted : (w : World O) (p : Place) (h : Height) (down : Path) (i : Entry)
      (lost : Completion) (k : Said → Prog O I) (a t : Place) (out entered left : World O) →
      rise_to h p ≡ Some a → Step w p (Out h down i) out → reached out.tree a down ≡ Some t →
      Step out t (In (Some (length down)) i) entered →
      Derives prog entered t (prog.entry i) left None →
      Derives prog w p (call h down i lost k) left None
  unreached : (w : World O) (p : Place) (h : Height) (down : Path) (i : Entry) (lost : Completion)
      (k : Said → Prog O I) (a : Place) (out back v : World O) (e : Ending) →
      rise_to h p ≡ Some a → Step w p (Out h down i) out → reached out.tree a down ≡ None →
      Step out p (Back h (Replied (Completed lost))) back →
      Derives prog back p (k (Finished lost)) v e → Derives prog w p (call h down i lost k) v e
  -- calls that leave it, and waiting
  called_out : (w : World O) (p : Place) (h : Height) (down : Path) (i : Entry) (lost : Completion)
      (k : Said → Prog O I) (u v : World O) (e : Ending) →
      rise_to h p ≡ None → Step w p (Out h down i) u →
      Derives prog u p (wait (Some (h, i, depth_of (u.tree p))) (or_lost lost k)) v e →
      Derives prog w p (call h down i lost k) v e
  unanswered : (w : World O) (p : Place) (s : Wait) (k : Said → Prog O I) →
      rise_to (height_of s) p ≡ None → w.moves ≡ [] → w.tape ≡ [] →
      Derives prog w p (wait s k) w None
  unfit : (w : World O) (p : Place) (s : Wait) (k : Said → Prog O I) (m : Move O)
      (ms : List (Move O)) →
      rise_to (height_of s) p ≡ None → w.moves ≡ m ∷ ms → fits w.tree p s m ≡ false → w.tape ≡ [] →
      Derives prog w p (wait s k) w None
  answered : (w : World O) (p : Place) (s : Wait) (k : Said → Prog O I) (c : Completion)
      (u v : World O) (e : Ending) →
      rise_to (height_of s) p ≡ None → fits w.tree p s (Come (Replied (Completed c))) ≡ true →
      Step w p (Back (height_of s) (Replied (Completed c))) u →
      Derives prog u p (k (Finished c)) v e → Derives prog w p (wait s k) v e
  heard : (w : World O) (p : Place) (s : Wait) (k : Said → Prog O I) (a : HostReply) (u v : World O)
      (e : Ending) →
      rise_to (height_of s) p ≡ None → fits w.tree p s (Come (Heard a)) ≡ true →
      Step w p (Back (height_of s) (Heard a)) u → Derives prog u p (k (Told a)) v e →
      Derives prog w p (wait s k) v e
  missed : (w : World O) (p : Place) (s : Wait) (k : Said → Prog O I) (u v : World O) (e : Ending) →
      rise_to (height_of s) p ≡ None → fits w.tree p s (Come Nobody) ≡ true →
      Step w p (Back (height_of s) Nobody) u → Derives prog u p (k Missed) v e →
      Derives prog w p (wait s k) v e
  answered_passed : (w : World O) (p : Place) (s : Wait) (k : Said → Prog O I) (r : Reply)
      (u : World O) → IsQuit r →
      rise_to (height_of s) p ≡ None → fits w.tree p s (Come (Replied r)) ≡ true →
      Step w p (Back (height_of s) (Replied r)) u → Derives prog w p (wait s k) u (Some r)
  entered : (w : World O) (p : Place) (s : Wait) (k : Said → Prog O I) (t : Path) (i : Entry)
      {node : Node O} (inner left told v : World O) (r : Reply) (e : Ending) →
      rise_to (height_of s) p ≡ None → w.tree t ≡ Some node → Step w t (In None i) inner →
      Derives prog inner t (prog.entry i) left (Some r) →
      Step left t (Done None r) told → IsNoExit r → Derives prog told p (wait s k) v e →
      Derives prog w p (wait s k) v e
  entered_halted : (w : World O) (p : Place) (s : Wait) (k : Said → Prog O I) (t : Path) (i : Entry)
      {node : Node O} (inner left : World O) →
      rise_to (height_of s) p ≡ None → w.tree t ≡ Some node → Step w t (In None i) inner →
      Derives prog inner t (prog.entry i) left None →
      Derives prog w p (wait s k) left None
  -- an entry that exits: the call that is open can only end by that exit
  entered_exiting : (w : World O) (p : Place) (s : Wait) (k : Said → Prog O I) (t : Path)
      (i : Entry) {node : Node O} (inner left told v : World O) (n : ℤ) (e : Ending) →
      rise_to (height_of s) p ≡ None → w.tree t ≡ Some node → Step w t (In None i) inner →
      Derives prog inner t (prog.entry i) left (Some (Exit n)) →
      Step left t (Done None (Exit n)) told → Exits told p s n told.moves v e →
      Derives prog w p (wait s k) v e
  -- an entry that finds nobody
  unfound : (w : World O) (p : Place) (s : Wait) (k : Said → Prog O I) (t : Path) (i : Entry)
      (u v : World O) (e : Ending) →
      rise_to (height_of s) p ≡ None → w.tree t ≡ None → Step w [] (Unfound t i (prog.lost t)) u →
      Derives prog u p (wait s k) v e → Derives prog w p (wait s k) v e
  born : (w : World O) (p : Place) (s : Wait) (k : Said → Prog O I) (o : O) (b : Bool)
      (u v : World O) (e : Ending) →
      rise_to (height_of s) p ≡ None → Step w [] (Made o b) u → Derives prog u p (wait s k) v e →
      Derives prog w p (wait s k) v e
  fallen : (w : World O) (p : Place) (s : Wait) (k : Said → Prog O I) (u v : World O) (e : Ending) →
      rise_to (height_of s) p ≡ None → Step w [] Dropped u → Derives prog u p (wait s k) v e →
      Derives prog w p (wait s k) v e
