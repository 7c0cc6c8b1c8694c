-- A player goes along with an outside that has a budget, and the outside goes through what the player reads.
use Rattle.std.proofs.Common.{List, [], Option, Some, None, length}
use Rattle.tcl_core.specs.Paths.{Place}
use Rattle.tcl_core.specs.Endings.{Reply}
use Rattle.tcl_core.specs.Endings.Reply.{Completed, Exit}
use Rattle.tcl_core.specs.Entries.Answer.{Replied, Heard, Nobody}
use Rattle.tcl_core.specs.Trees.{Tree, Event, Node, effect, granted, depth_of}
use Rattle.tcl_core.specs.Trees.Grants.{Listed}
use Rattle.tcl_core.specs.Trees.What.{Out, In, Done, Back}
use Rattle.tcl_core.specs.Programs.{Act, Deed, Prog, Table, Wait, Wrap, closes, spot}
use Rattle.tcl_core.specs.Programs.Prog.{done, exit}
use Rattle.tcl_core.specs.Rules.{IsNoExit}
use Rattle.tcl_core.specs.Runs.{gone, height_of, returned}
use Rattle.tcl_core.specs.Execution.{Crossings, Decides, Executes, Opens_so, event}
use Rattle.tcl_core.specs.Execution.Executes.{completed, exited, acted, refused, went, passed, wrapped, wrapped_passed, too_deep, shut, called, called_passed, unreached, called_out, answered, heard, missed, answered_passed, entered, entered_exiting, unfound}
use Rattle.tcl_core.proofs.Following.{plain_deed, plain_open}
use Rattle.tcl_core.proofs.Parting.{act_silent, closes_silent, opens_silent}
use Rattle.tcl_core.proofs.Plain.{closes_plain}
use Rattle.tcl_reactions.specs.Moving.{Budgeted, budgeted}
use Rattle.tcl_reactions.proofs.Backwards.{Both, Calmly, Leads, After, Ready, answered_back, both, calm_after, changed, comes_in, exit_back, finds_nobody, goes_out, inner, is_done, plainly, stands, then_leads}
use Rattle.tcl_reactions.proofs.Crossed.{no_exit_in, no_exit_of, within}

module _ {O S : Type 0} (goes : Tree O → S → Wait → Event O → S → Type 0) where
  pub then_both : {b u c : Budgeted S} {A B C D : List (Event O) → Type 0} {P Q : Both goes → Both goes → Type 0} → Leads goes b u A P B → ((outs : List (Event O)) → B outs → C outs) → Leads goes u c C Q D →
      Leads goes b c A (λ x y. (m : Both goes) × P x m × Q m y) D
  then_both f g h = then_leads goes f g h (λ x m y p q. (m, p, q))

  -- where there is no doubt that no exit came last
  surely : {b c : Budgeted S} {P : Both goes → Both goes → Type 0} → Leads goes b c (λ outs. Unit {0} → Calmly b.halt outs) P (λ outs. Unit {0} → Calmly c.halt outs) → Leads goes b c (Calmly b.halt) P (Calmly c.halt)
  surely {b} {c} {P} f = record {
    back = λ ms k n.
        let x : Ready goes b c ms k (λ outs. Unit {0} → Calmly b.halt outs) P (λ outs. Unit {0} → Calmly c.halt outs) = f.back ms k n in
        record {
          moves = x.moves;
          steps = x.steps;
          none_left = x.none_left;
          paid_so = x.paid_so;
          after = λ outs a.
              let l : After goes b c ms x.moves k x.steps outs P (λ outs2. Unit {0} → Calmly c.halt outs2) = x.after outs (λ y. a) in
              record { outs_then = l.outs_then; run = l.run; holds = l.holds tt };
        };
    zero_stays = f.zero_stays;
  }

module _ {O I S : Type 0} (goes : Tree O → S → Wait → Event O → S → Type 0) (prog : Table O I) where
  abbrev steps_by : Tree O → Budgeted S → Wait → Event O → Budgeted S → Type 0
  steps_by = Crossings (budgeted goes)

  abbrev pub Along : Tree O → Budgeted S → Place → Prog O I → Tree O → Budgeted S → Reply → Type 0
  Along T b p x V c r = Leads goes b c (Calmly b.halt) (λ y z. Executes (both goes) prog T y p x V z r) (λ outs. IsNoExit r → Calmly c.halt outs)

  deed : (T : Tree O) (b c : Budgeted S) (p : Place) (d : Act O) (x : Deed O) → Decides d T p x → steps_by T b None (event (spot p x.0) x.1) c →
      Leads goes b c (Calmly b.halt) (λ y z. both goes T y None (event (spot p x.0) x.1) z) (Calmly c.halt)
  deed T b c p d x is s = surely goes (plainly goes (Unit {0}) T b None (spot p x.0) x.1 c (plain_deed d T p x is) (act_silent d T p (granted (spot p x.0) x.1 (Listed [])) x (is [])) s)

  opening : (T : Tree O) (b c : Budgeted S) (p : Place) (d : Wrap O) (x : Deed O) → Opens_so d T p x → steps_by T b None (event (spot p x.0) x.1) c →
      Leads goes b c (Calmly b.halt) (λ y z. both goes T y None (event (spot p x.0) x.1) z) (Calmly c.halt)
  opening T b c p d x is s = surely goes (plainly goes (Unit {0}) T b None (spot p x.0) x.1 c (plain_open d T p x is) (opens_silent d T p (granted (spot p x.0) x.1 (Listed [])) x (is [])) s)

  closing : (N : Type 0) (U : Tree O) (b c : Budgeted S) (p : Place) (d : Wrap O) (opened : Option (Node O)) → steps_by U b None (event p (closes d opened (U p))) c →
      Leads goes b c (λ outs. N → Calmly b.halt outs) (λ y z. both goes U y None (event p (closes d opened (U p))) z) (λ outs. N → Calmly c.halt outs)
  closing N U b c p d opened s = plainly goes N U b None p (closes d opened (U p)) c (closes_plain d opened (U p)) (closes_silent p d opened (U p)) s

  pub along : {T V : Tree O} {b c : Budgeted S} {p : Place} {x : Prog O I} {r : Reply} → Executes steps_by prog T b p x V c r → Along T b p x V c r
  along (completed {T} {o = b} {p} {c}) = stands goes b (Calmly b.halt) (λ outs. IsNoExit (Completed c) → Calmly b.halt outs) (λ y z. Executes (both goes) prog T y p (done c) T z (Completed c)) (λ y. completed) (λ outs a n. a)
  along (exited {T} {o = b} {p} {n}) = stands goes b (Calmly b.halt) (λ outs. IsNoExit (Exit n) → Calmly b.halt outs) (λ y z. Executes (both goes) prog T y p (exit n) T z (Exit n)) (λ y. exited) (λ outs a e. a)
  along (acted {T} {o = b} {u = u} {p = p} {d = d} x is on s t) = then_leads goes (deed T b u p d x is s) (λ outs a. a) (along t) (λ y m z e g. acted x is on e g)
  along (refused {T} {o = b} {u = u} {p = p} {d = d} x is off s) = changed goes (deed T b u p d x is s) (λ y z e. refused x is off e) (λ outs a n. a)
  along (went a t) = then_leads goes (along a) (λ outs g. g tt) (along t) (λ y m z e g. went e g)
  along (passed q a) = changed goes (along a) (λ y z e. passed q e) (λ outs g. g)
  along (wrapped {T} {U} {o = b} {o1 = o1} {o2 = o2} {o3 = o3} {p = p} {b = d} x is on s a e t) =
      changed goes (then_both goes (opening T b o1 p d x is s) (λ outs g. g) (then_both goes (along a) (λ outs g n. g tt) (then_both goes (closing (Unit {0}) U o2 o3 p d (effect (spot p x.0) x.1 T p) e) (λ outs g. g tt) (along t))))
      (λ y z m. wrapped x is on m.1 m.2.1 m.2.2.1 m.2.2.2) (λ outs g. g)
  along (wrapped_passed {T} {U} {o = b} {o1 = o1} {o2 = o2} {o3 = o3} {p = p} {b = d} {r = r} x q is on s a e) =
      changed goes (then_both goes (opening T b o1 p d x is s) (λ outs g. g) (then_both goes (along a) (λ outs g. g) (closing (IsNoExit r) U o2 o3 p d (effect (spot p x.0) x.1 T p) e))) (λ y z m. wrapped_passed x q is on m.1 m.2.1 m.2.2) (λ outs g. g)
  along (too_deep {T} {o = b} {u = u} {p = p} {b = d} x is deep s t) = then_leads goes (opening T b u p d x is s) (λ outs a. a) (along t) (λ y m z e g. too_deep x is deep e g)
  along (shut {T} {o = b} {u = u} {p = p} {b = d} x is off s) = changed goes (opening T b u p d x is s) (λ y z e. shut x is off e) (λ outs a n. a)
  along (called {T} {U} {o = b} {o1 = o1} {o2 = o2} {o3 = o3} {o4 = o4} {o5 = o5} {p = p} {h = h} {down = down} {i = i} {s = s} {c = c} a t up there s1 s2 run s3 so s4 rest) =
      let n : IsNoExit s = no_exit_of (gone (depth_of (T p)) U p) h p down s c so in
      changed goes (then_both goes (surely goes (inner goes (Unit {0}) T b None p a (Out h down i) o1 up s1)) (λ outs g. g)
      (then_both goes (surely goes (inner goes (Unit {0}) T o1 None t a (In (Some (length down)) i) o2 (within O T a t down there) s2)) (λ outs g. g)
      (then_both goes (along run) (λ outs g w. g n)
      (then_both goes (inner goes (Unit {0}) U o3 None t a (Done (Some (length down)) s) o4 (within O T a t down there) s3) (λ outs g. g)
      (then_both goes (inner goes (Unit {0}) U o4 None p a (Back h (Replied (returned T U h p down s))) o5 up s4) (λ outs g. g tt) (along rest))))))
      (λ y z m. called a t up there m.1 m.2.1 m.2.2.1 m.2.2.2.1 so m.2.2.2.2.1 m.2.2.2.2.2) (λ outs g. g)
  along (called_passed {T} {U} {o = b} {o1 = o1} {o2 = o2} {o3 = o3} {o4 = o4} {o5 = o5} {p = p} {h = h} {down = down} {i = i} {s = s} {r = r} a t up there s1 s2 run s3 so q s4) =
      changed goes (then_both goes (surely goes (inner goes (Unit {0}) T b None p a (Out h down i) o1 up s1)) (λ outs g. g)
      (then_both goes (surely goes (inner goes (Unit {0}) T o1 None t a (In (Some (length down)) i) o2 (within O T a t down there) s2)) (λ outs g. g)
      (then_both goes (along run) (λ outs g. g)
      (then_both goes (inner goes (IsNoExit s) U o3 None t a (Done (Some (length down)) s) o4 (within O T a t down there) s3) (λ outs g. g)
      (inner goes (IsNoExit s) U o4 None p a (Back h (Replied r)) o5 up s4)))))
      (λ y z m. called_passed a t up there m.1 m.2.1 m.2.2.1 m.2.2.2.1 so q m.2.2.2.2) (λ outs g n. g (no_exit_in (gone (depth_of (T p)) U p) h p down s r so n))
  along (unreached {T} {o = b} {o1 = o1} {o2 = o2} {p = p} {h = h} {down = down} {i = i} {lost = lost} a up there s1 s2 rest) =
      changed goes (then_both goes (surely goes (inner goes (Unit {0}) T b None p a (Out h down i) o1 up s1)) (λ outs g. g) (then_both goes (surely goes (inner goes (Unit {0}) T o1 None p a (Back h (Replied (Completed lost))) o2 up s2)) (λ outs g. g) (along rest)))
      (λ y z m. unreached a up there m.1 m.2.1 m.2.2) (λ outs g. g)
  along (called_out {T} {o = b} {u = u} {p = p} {h = h} {down = down} {i = i} up s t) = then_leads goes (goes_out goes T b p h down i u up s) (λ outs a. a) (along t) (λ y m z e g. called_out up e g)
  along (answered {T} {o = b} {u = u} {p = p} {s = s} {c = c} up ok st t) = then_leads goes (answered_back goes T b s p (height_of s) (Replied (Completed c)) u up ok st) (λ outs a. a) (along t) (λ y m z e g. answered up ok e g)
  along (heard {T} {o = b} {u = u} {p = p} {s = s} {a = a} up ok st t) = then_leads goes (answered_back goes T b s p (height_of s) (Heard a) u up ok st) (λ outs x. x) (along t) (λ y m z e g. heard up ok e g)
  along (missed {T} {o = b} {u = u} {p = p} {s = s} up ok st t) = then_leads goes (answered_back goes T b s p (height_of s) Nobody u up ok st) (λ outs x. x) (along t) (λ y m z e g. missed up ok e g)
  along (answered_passed {T} {o = b} {u = u} {p = p} {s = s} {r = r} q up ok st) = changed goes (answered_back goes T b s p (height_of s) (Replied r) u up ok st) (λ y z e. answered_passed q up ok e) (λ outs a n. a)
  along (entered {T} {U} {o = b} {o1 = o1} {o2 = o2} {o3 = o3} {p = p} {y = r} t i up here s1 run s2 nx rest) =
      changed goes (then_both goes (comes_in goes T b t i o1 s1) (λ outs g. g) (then_both goes (along run) (λ outs g. tt) (then_both goes (is_done goes U o2 t r o3 s2) (λ outs g. calm_after r nx o3.halt outs g) (along rest))))
      (λ y z m. entered t i up here m.1 m.2.1 m.2.2.1 nx m.2.2.2) (λ outs g. g)
  along (entered_exiting {T} {U} {o = b} {o1 = o1} {o2 = o2} {o3 = o3} {o4 = o4} {p = p} {c = c} {n = n} t i up here s1 run s2 s3) =
      changed goes (then_both goes (comes_in goes T b t i o1 s1) (λ outs g. g) (then_both goes (along run) (λ outs g. tt) (then_both goes (is_done goes U o2 t (Exit n) o3 s2) (λ outs g. g) (exit_back goes U o3 (Some c) p c.0 n o4 up s3))))
      (λ y z m. entered_exiting t i up here m.1 m.2.1 m.2.2.1 m.2.2.2) (λ outs g e. absurd e)
  along (unfound {T} {o = b} {u = u} {p = p} t i up nobody st rest) =
      then_leads goes (finds_nobody goes T b t i (prog.lost t) u st) (λ outs g. calm_after (Completed (prog.lost t)) tt u.halt outs g) (along rest) (λ y m z e g. unfound t i up nobody e g)
