-- What is no completion passes every construct.
use Rattle.std.proofs.Common.{◌≡◌, ◌∙◌, ℕ, true, false, List, ◌∷◌, Some, None, length, ap, refl, subst, sym}
use Rattle.tcl_core.specs.Paths.{Path, Place, Height, rise_to}
use Rattle.tcl_core.specs.Endings.{Completion, Reply, IsQuit}
use Rattle.tcl_core.specs.Endings.Reply.{Completed, Stop, Exit, Cut}
use Rattle.tcl_core.specs.Entries.{Entry, Said, Answer}
use Rattle.tcl_core.specs.Entries.Answer.{Replied, Heard, Nobody}
use Rattle.tcl_core.specs.Trees.{Tree, What, Move, depth_of}
use Rattle.tcl_core.specs.Trees.What.{Out}
use Rattle.tcl_core.specs.Trees.Move.{Come}
use Rattle.tcl_core.specs.Programs.{Act, Wrap, Wait, Deed, Prog, Table, spot, decide, opens}
use Rattle.tcl_core.specs.Programs.Next.{On, Off}
use Rattle.tcl_core.specs.Programs.Prog.{act, go, inside, call, wait}
use Rattle.tcl_core.specs.Runs.{World, Step, Ending, Run, Follows, Then, Closes, Acted, Acts, Opened, Opens, Hears, Answered, Returns, Reaches, Calls, Fitting, Waits, Visits, Unrolled, Runs, carried, reached, fits, height_of, gone, ends_gone, gone_from, carried_by, ended, is_told}
use Rattle.tcl_core.specs.Laws.{Passing, Agrees}
use Rattle.tcl_core.proofs.Folding.{unroll}
use Rattle.tcl_core.proofs.SameRuns.{runs_same, visits_same, same_step}

module _ {O : Type 0} where
  -- a happening leaves one world
  step_same : (w : World O) (p : Place) (x : What O) (u z : World O) → Step w p x u → Step w p x z → z ≡ u
  step_same w p x u z s t =
      let tapes : z.tape ≡ u.tape = (let e : record { place = p; what = x } ∷ z.tape ≡ record { place = p; what = x } ∷ u.tape = sym t.tape ∙ s.tape in cc) in
      same_step w w.tape p x u z s t ∙ ap (λ τ. record { tree = u.tree; moves = u.moves; grants = u.grants; tape = τ }) tapes

ended_quit : (n : ℕ) (r : Reply) → IsQuit (ended (Some n) r)
ended_quit n (Completed c) = tt
ended_quit n (Stop m k) = tt
ended_quit n (Exit m) = tt
ended_quit n (Cut c) = tt

ends_quit : (n : ℕ) (h : Height) (r : Reply) → ends_gone n h r ≡ true → IsQuit r
ends_quit n h (Completed c) e = let x : false ≡ true = e in cc
ends_quit n h (Stop m k) e = tt
ends_quit n h (Exit m) e = tt
ends_quit n h (Cut c) e = tt

told_quit : (n : ℕ) (h : Height) (i : Entry) (y : Answer) → is_told (Some n) h i y ≡ true → (q : Reply) × IsQuit q × (y ≡ Replied q)
told_quit n h i (Heard x) e = let x2 : false ≡ true = e in cc
told_quit n h i Nobody e = let x2 : false ≡ true = e in cc
told_quit n h i (Replied r) e = (r, ends_quit n h r e, refl)

ousts_outside : {O : Type 0} (T : Tree O) (p : Place) (s : Wait) (y : Answer) (n : ℕ) → gone_from s T p ≡ Some n → fits T p s (Come y) ≡ true → (q : Reply) × IsQuit q × (y ≡ Replied q)
ousts_outside T p None y n e f = let x : false ≡ true = f in cc
ousts_outside T p (Some c) y n e f = told_quit n c.0 c.1 y (sym (ap (λ g. is_told g c.0 c.1 y) e) ∙ f)

module _ {O I : Type 0} where
  follows_quit : (R : Run O I) (w : World O) (p : Place) (k : Completion → Prog O I) (r : Reply) (v : World O) (e : Ending) → IsQuit r → Follows R w p k r v e → e ≡ Some r
  follows_quit R w p k (Completed c) v e f a = absurd f
  follows_quit R w p k (Stop n m) v e f a = a.1
  follows_quit R w p k (Exit n) v e f a = a.1
  follows_quit R w p k (Cut c) v e f a = a.1

  hears_quit : (R : Run O I) (w : World O) (p : Place) (k : Said → Prog O I) (r : Reply) (v : World O) (e : Ending) → IsQuit r → Hears R w p k (Replied r) v e → e ≡ Some r
  hears_quit R w p k (Completed c) v e f a = absurd f
  hears_quit R w p k (Stop n m) v e f a = a.1
  hears_quit R w p k (Exit n) v e f a = a.1
  hears_quit R w p k (Cut c) v e f a = a.1

  refused_act : (prog : Table O I) (w v : World O) (p : Place) (d : Act O) (k : Tree O → Prog O I) (x : Deed O) (r : Reply) (e : Ending) → decide d w.tree p w.grants ≡ Some x → x.2 ≡ Off r → Runs prog w p (act d k) v e → e ≡ Some r
  refused_act prog w v p d k x r e g f a =
      let b : Acts (Runs prog) w p (Some x) k v e = subst (λ o. Acts (Runs prog) w p o k v e) g (unroll prog w p (act d k) v e a) in
      let c : Acted (Runs prog) w b.0 p k (Off r) v e = subst (λ n. Acted (Runs prog) w b.0 p k n v e) f b.2 in
      c.1

  shut_wrap : (prog : Table O I) (w v : World O) (p : Place) (l : Wrap O) (i : I) (k : Completion → Prog O I) (x : Deed O) (r : Reply) (e : Ending) → opens l w.tree p w.grants ≡ Some x → x.2 ≡ Off r → Runs prog w p (inside l i k) v e → e ≡ Some r
  shut_wrap prog w v p l i k x r e g f a =
      let b : Opens prog (Runs prog) w p (Some x) l i k v e = subst (λ o. Opens prog (Runs prog) w p o l i k v e) g (unroll prog w p (inside l i k) v e a) in
      let c : Opened prog (Runs prog) b.0 p l i k (Off r) v e = subst (λ n. Opened prog (Runs prog) b.0 p l i k n v e) f b.2 in
      c.1

  passes_inner : (prog : Table O I) (w u v : World O) (p : Place) (i : I) (k : Completion → Prog O I) (r : Reply) (e : Ending) → IsQuit r → Runs prog w p (prog.program i) u (Some r) → Runs prog w p (go i k) v e → e ≡ Some r
  passes_inner prog w u v p i k r e q a b = by (unroll prog w p (go i k) v e b)
    where
      by : Unrolled prog (Runs prog) w p (go i k) v e → e ≡ Some r
      by (u2, o, c, d) =
          let g : Agrees w w.tape u (Some r) u2 o = runs_same prog w w.tape p (prog.program i) u (Some r) u2 o a c in
          follows_quit (Runs prog) u2 p k r v e q (subst (λ l. Then (Runs prog) u2 p k l v e) g.ending d)

  passes_wrap : (prog : Table O I) (w u z v : World O) (p : Place) (l : Wrap O) (i : I) (k : Completion → Prog O I) (x : Deed O) (r : Reply) (e : Ending) →
      IsQuit r → opens l w.tree p w.grants ≡ Some x → x.2 ≡ On → Step w (spot p x.0) x.1 u → Runs prog u p (prog.program i) z (Some r) → Runs prog w p (inside l i k) v e → e ≡ Some r
  passes_wrap prog w u z v p l i k x r e q g on s a b =
      let c : Opens prog (Runs prog) w p (Some x) l i k v e = subst (λ o. Opens prog (Runs prog) w p o l i k v e) g (unroll prog w p (inside l i k) v e b) in
      let y : c.0 ≡ u = step_same w (spot p x.0) x.1 u c.0 s c.1 in
      let d : Opened prog (Runs prog) u p l i k On v e = subst (λ n. Opened prog (Runs prog) u p l i k n v e) on (subst (λ m. Opened prog (Runs prog) m p l i k x.2 v e) y c.2) in
      let f : Agrees u u.tape z (Some r) d.0 d.1 = runs_same prog u u.tape p (prog.program i) z (Some r) d.0 d.1 a d.2 in
      let h : Closes (Runs prog) (u.tree p) d.0 p l k (Some r) v e = subst (λ o. Closes (Runs prog) (u.tree p) d.0 p l k o v e) f.ending d.3 in
      follows_quit (Runs prog) h.0 p k r v e q h.2

  passes_call : (prog : Table O I) (w u z v : World O) (p a t : Place) (h : Height) (down : Path) (i : Entry) (lost : Completion) (k : Said → Prog O I) (r : Reply) (e : Ending) →
      IsQuit (carried (gone (depth_of (u.tree p)) z.tree p) h p down r) → rise_to h p ≡ Some a → Step w p (Out h down i) u → reached u.tree a down ≡ Some t → Visits prog (Runs prog) u (Some (length down)) t i z (Some r) →
      Runs prog w p (call h down i lost k) v e → e ≡ Some (carried (gone (depth_of (u.tree p)) z.tree p) h p down r)
  passes_call prog w u z v p a t h down i lost k r e q f s g n b =
      let c : Unrolled prog (Runs prog) w p (call h down i lost k) v e = unroll prog w p (call h down i lost k) v e b in
      let y : c.0 ≡ u = step_same w p (Out h down i) u c.0 s c.1 in
      let d : Reaches prog (Runs prog) u p h down i lost k (reached u.tree a down) v e = subst (λ o. Calls prog (Runs prog) u p h down i lost k o v e) f (subst (λ m. Calls prog (Runs prog) m p h down i lost k (rise_to h p) v e) y c.2) in
      let j : Reaches prog (Runs prog) u p h down i lost k (Some t) v e = subst (λ o. Reaches prog (Runs prog) u p h down i lost k o v e) g d in
      let l : Agrees u u.tape z (Some r) j.0 j.1 = visits_same prog (Runs prog) (Runs prog) (runs_same prog) u u.tape (Some (length down)) t i z (Some r) j.0 j.1 n j.2 in
      let m : Answered (Runs prog) j.0 p h k (Replied (carried (gone (depth_of (u.tree p)) j.0.tree p) h p down r)) v e = subst (λ o. Returns (Runs prog) (depth_of (u.tree p)) j.0 p h down k o v e) l.ending j.3 in
      let m2 : Answered (Runs prog) j.0 p h k (Replied (carried (gone (depth_of (u.tree p)) z.tree p) h p down r)) v e = subst (λ T. Answered (Runs prog) j.0 p h k (Replied (carried (gone (depth_of (u.tree p)) T p) h p down r)) v e) (ap (λ n. n.tree) l.world) m in
      hears_quit (Runs prog) m2.0 p k (carried (gone (depth_of (u.tree p)) z.tree p) h p down r) v e q m2.2

  passes_answer : (prog : Table O I) (w v : World O) (p : Place) (s : Wait) (k : Said → Prog O I) (ms : List (Move O)) (r : Reply) (e : Ending) →
      IsQuit r → w.moves ≡ Come (Replied r) ∷ ms → fits w.tree p s (Come (Replied r)) ≡ true → Runs prog w p (wait s k) v e → e ≡ Some r
  passes_answer prog w v p s k ms r e q m f b =
      let c : Unrolled prog (Runs prog) w p (wait s k) v e = unroll prog w p (wait s k) v e b in
      let d : Fitting prog (Runs prog) w p s k (fits w.tree p s (Come (Replied r))) (Come (Replied r)) v e = subst (λ o. Waits prog (Runs prog) w p s k o v e) m c.1 in
      let g : Answered (Runs prog) w p (height_of s) k (Replied r) v e = subst (λ o. Fitting prog (Runs prog) w p s k o (Come (Replied r)) v e) f d in
      hears_quit (Runs prog) g.0 p k r v e q g.2

  ousts_call : (prog : Table O I) (w u z v : World O) (p a t : Place) (h : Height) (down : Path) (i : Entry) (lost : Completion) (k : Said → Prog O I) (r : Reply) (e : Ending) (n : ℕ) →
      rise_to h p ≡ Some a → Step w p (Out h down i) u → reached u.tree a down ≡ Some t → Visits prog (Runs prog) u (Some (length down)) t i z (Some r) → gone (depth_of (u.tree p)) z.tree p ≡ Some n →
      Runs prog w p (call h down i lost k) v e → (q : Reply) × IsQuit q × (e ≡ Some q)
  ousts_call prog w u z v p a t h down i lost k r e n f s g x m b =
      let quit : IsQuit (carried (gone (depth_of (u.tree p)) z.tree p) h p down r) = subst (λ o. IsQuit (carried o h p down r)) (sym m) (ended_quit n (carried_by r h p down)) in
      (carried (gone (depth_of (u.tree p)) z.tree p) h p down r, quit, passes_call prog w u z v p a t h down i lost k r e quit f s g x b)

  pub passing : Passing O I
  passing = record { act = refused_act; shut = shut_wrap; inner = passes_inner; wrapped = passes_wrap; called = passes_call; ousted = ousts_call; ousted_outside = ousts_outside; answered = passes_answer }
