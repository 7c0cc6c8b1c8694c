-- A host as the outside: it is told nothing of what happens within the tree.
use Rattle.std.proofs.Common.{◌≡◌, ℕ, ◌++◌, length, Option, Some, None, refl, sym, subst}
use Rattle.tcl_core.specs.Execution.{event}
use Rattle.tcl_core.specs.Trees.What.{Out}
use Rattle.tcl_run.specs.Notifying.{Notified}
use Rattle.tcl_run.specs.declared.outside.Happening.{Happening}
use Rattle.tcl_run.proofs.Quiet.{unchanged}
use Rattle.tcl_tree.specs.TreeOf.{tree_of}
use Rattle.tcl_tree.specs.declared.tree.Tree.{Tree as Table}
use Rattle.std.specs.Prelude.{true}
use Rattle.tcl_core.specs.Endings.{Reply}
use Rattle.tcl_core.specs.Entries.Answer.{Heard, Nobody}
use Rattle.tcl_core.specs.Entries.Entry.{AskHost}
use Rattle.tcl_core.specs.Runs.{gone}
use Rattle.tcl_core.specs.Trees.What.{Back}
use Rattle.tcl_host.specs.Replies.{is_reply_to}
use Rattle.tcl_run.specs.Entering.{entry_of, request_of, whole_entry}
use Rattle.tcl_run.specs.declared.entry.Entry.{Entry as CodeEntry}
use Rattle.tcl_run.specs.declared.entry.Entry.TheVariants as entry
use Rattle.tcl_run.specs.declared.entry.OwnEntry.{OwnEntry}
use Rattle.tcl_run.specs.declared.entry.OwnEntry.TheVariants as own
use Rattle.tcl_run.proofs.Fitting.{own_reply, told_fits}
use Rattle.tcl_core.specs.Entries.{Entry}
use Rattle.tcl_core.specs.Paths.{Height, Path, Place, rise, rise_to}
use Rattle.tcl_core.specs.Programs.{Wait}
use Rattle.tcl_core.specs.Execution.{passing}
use Rattle.tcl_core.specs.Trees.{Event, Tree}
use Rattle.tcl_core.proofs.PathLaws.{rise_back}
use Rattle.tcl_host.specs.declared.reply.HostReply.{HostReply}
use Rattle.tcl_host.specs.declared.request.Request.{Request}
use Rattle.tcl_run.specs.Outsides.{AnswersFor, Enters, IsAsked, Misses, Returns, hosted, hosted_at, reply_of, told_to}
use Rattle.tcl_tree.specs.Own.{Own}

-- only a host is asked for nothing that an interpreter does by itself
own_unasked : (i : OwnEntry) → IsAsked None (entry_of i) → Prim.⊥
own_unasked (own.SetAlias name alias) asked = asked
own_unasked (own.ClearAlias name) asked = asked
own_unasked (own.Hide name hidden) asked = asked
own_unasked (own.Expose hidden name) asked = asked
own_unasked (own.SetCountLimit limit) asked = asked
own_unasked (own.SetDepthLimit limit) asked = asked
own_unasked (own.Create name safe) asked = asked
own_unasked (own.Delete name) asked = asked
own_unasked (own.Ask q) asked = asked

module _ {S : Type 0} (step : S → Request → HostReply → S → Type 0) where
  within : (T : Tree Own) (o : S) (s : Wait) (w : Event Own) (h : Option Place) (b : Place) → h ≡ Some b → passing h (hosted_at step) T o s w o
  within T o s w h b g = subst (λ (x : Option Place). passing x (hosted_at step) T o s w o) (sym g) refl

  pub enters_unheard : (T : Tree Own) (o : S) (p : Place) (n : ℕ) (a : Place) (down : Path) (i : Entry) → rise n p ≡ Some a → Enters (hosted step) T o p n a down i o
  enters_unheard T o p n a down i e = record { between = o; leaves = within T o None _ (rise n p) a e; enters = within T o None _ (rise (length down) (a ++ down)) a (rise_back a down) }

  pub returns_unheard : (T : Tree Own) (o : S) (p : Place) (n : ℕ) (a : Place) (down : Path) (s r : Reply) → rise n p ≡ Some a → Returns (hosted step) T o p n a down s r o
  returns_unheard T o p n a down s r e = record { between = o; leaves = within T o None _ (rise (length down) (a ++ down)) a (rise_back a down); returns = within T o None _ (rise n p) a e }

  pub misses_unheard : (T : Tree Own) (o : S) (p : Place) (n : ℕ) (a : Place) (down : Path) (i : Entry) (r : Reply) → rise n p ≡ Some a → Misses (hosted step) T o p n down i r o
  misses_unheard T o p n a down i r e = record { between = o; leaves = within T o None _ (rise n p) a e; returns = within T o None _ (rise n p) a e }

  -- nothing that it is told of changes it
  pub unheard : (t : Table) (o : S) (w : Happening) → Notified (hosted step) Prim.⊥ t o w o
  unheard t o w = unchanged (hosted step) t o w (λ T p. refl) (enters_unheard (tree_of t) o) (returns_unheard (tree_of t) o) (misses_unheard (tree_of t) o)
      (λ p h down i e. subst (λ (x : Option Place). passing x (hosted_at step) (tree_of t) o None (event p (Out h down i)) o) (sym e) refl) (λ q r. refl)

  -- The host's reply to a request, and that nobody is there who could answer an alias, are told to
  -- who made the call, or what it is told for them where it is gone.
  heard_told : (T : Tree Own) (o u : S) (p : Place) (d : ℕ) (g : Option ℕ) (q : Request) (a : HostReply) → step o q a u → hosted step T o (Some (None, AskHost (request_of q), d)) (event p (Back None (told_to g (Heard (reply_of a))))) u
  heard_told T o u p d None q a made = (q, a, refl, refl, made)
  heard_told T o u p d (Some n) q a made = (q, a, refl, made)

  pub heard_answers : (T : Tree Own) (o u : S) (p : Place) (d : ℕ) (q : Request) (a : HostReply) → step o q a u → is_reply_to a q ≡ true → AnswersFor (hosted step) T o p d None (AskHost (request_of q)) u (Heard (reply_of a))
  heard_answers T o u p d q a made fits = (heard_told T o u p d (gone d T p) q a made, told_fits d T p None (AskHost (request_of q)) (Heard (reply_of a)) refl (own_reply a q fits))

  nobody_told : (T : Tree Own) (o : S) (p : Place) (n d : ℕ) (i : Entry) (g : Option ℕ) (h : Option Place) → h ≡ None → gone d T p ≡ g → passing h (hosted_at step) T o (Some (Some n, i, d)) (event p (Back (Some n) (told_to g Nobody))) o
  nobody_told T o p n d i None h e f = subst (λ (x : Option Place). passing x (hosted_at step) T o (Some (Some n, i, d)) (event p (Back (Some n) Nobody)) o) (sym e) refl
  nobody_told T o p n d i (Some l) h e f = subst (λ (x : Option Place). passing x (hosted_at step) T o (Some (Some n, i, d)) (event p (Back (Some n) (told_to (Some l) Nobody))) o) (sym e) (f, refl)

  pub nobody_answers : (T : Tree Own) (o : S) (p : Place) (n d : ℕ) (i : Entry) → rise n p ≡ None → AnswersFor (hosted step) T o p d (Some n) i o Nobody
  nobody_answers T o p n d i up = (back (gone d T p) refl, told_fits d T p (Some n) i Nobody up refl)
    where
      back : (g : Option ℕ) → gone d T p ≡ g → hosted step T o (Some (Some n, i, d)) (event p (Back (Some n) (told_to g Nobody))) o
      back None f = nobody_told T o p n d i None (rise n p) up f
      back (Some l) f = nobody_told T o p n d i (Some l) (rise n p) up f

  -- a host is asked for requests, and answers nothing else
  pub nobody_comes : (T : Tree Own) (o : S) (p : Place) (d : ℕ) (h : Height) (i : CodeEntry) → IsAsked h (whole_entry i) → ((q : Request) → h ≡ None → i ≡ entry.AskHost q → Prim.⊥) → rise_to h p ≡ None → AnswersFor (hosted step) T o p d h (whole_entry i) o Nobody
  nobody_comes T o p d (Some n) i asked none up = nobody_answers T o p n d (whole_entry i) up
  nobody_comes T o p d None (entry.AskHost q) asked none up = absurd (none q refl refl)
  nobody_comes T o p d None (entry.Eval script) asked none up = elim asked [ ]
  nobody_comes T o p d None (entry.CallWords words) asked none up = elim asked [ ]
  nobody_comes T o p d None (entry.InvokeHidden is_global words) asked none up = elim asked [ ]
  nobody_comes T o p d None (entry.Own own) asked none up = absurd (own_unasked own asked)
