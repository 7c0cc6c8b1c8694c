-- What comes of messages while a call is open.
use Rattle.std.proofs.Common.{◌≡◌, ℕ, Bool, Option, Some, None, Result, Ok, Err, IfOk, inr, ap, sym, subst, ◌∙◌}
use Rattle.tcl_serve.specs.Clients.{Acts, Awaits, Closes, Cuts, Follows, Stays, Turns}
use Rattle.tcl_serve.specs.Clients.Acts.{completes, ends, enters}
use Rattle.tcl_serve.specs.Clients.Idles.{refuses}
use Rattle.tcl_serve.specs.Entering.{IsEntry}
use Rattle.tcl_serve.specs.Opened.{IsNext, RefusesOpen}
use Rattle.tcl_serve.specs.Views.{ClientView}
use Rattle.tcl_serve.specs.declared.open.Next.{Next}
use Rattle.tcl_serve.specs.declared.open.Next.TheVariants as next
use Rattle.tcl_serve.specs.declared.open.Talk.{Talk}
use Rattle.tcl_core.specs.Entries.{Entry}
use Rattle.tcl_core.specs.Paths.{Path}
use Rattle.tcl_functions.specs.Actions.ActionView.{Completes}
use Rattle.tcl_functions.specs.declared.action.Action.{Action}
use Rattle.tcl_serve.specs.Messages.{Asks, Evaluate, OnTree}
use Rattle.tcl_serve.specs.Talking.{Understands}
use Rattle.tcl_serve.specs.declared.refusals.Refusal.TheVariants.{Memory}
use Rattle.tcl_run.specs.Entering.{whole_entry}

-- what is said of an ordinary result
pub if_ok_more : {A E : Type 0} (r : Result A E) (P Q : A → Type 0) → ((x : A) → P x → Q x) → IfOk r P → IfOk r Q
if_ok_more (Ok x) P Q f h = f x h
if_ok_more (Err e) P Q f h = tt

-- where memory is wanted to await an entry, the message isn't done
no_room : (t : Talk) (m : Asks) (p : Path) (i : Entry) (b : Bool) → IsEntry m t.tree p i b → RefusesOpen t m Memory
no_room t (Evaluate v) p i b h = inr (h.0, tt)
no_room t (OnTree n a) p i b h = inr (h.0, tt)
no_room t m p i b h = absurd h

pub turned : (o m z : ClientView) (id : ℕ) (a : Asks) (n : Next) (r : Option Action) → Understands o.lines id a m.lines → m.talk ≡ o.talk
    → IsNext o.talk a n → Follows m id n r z → Turns o r z
turned o m z id a (next.Enters asked b) (Some x) u same is f = subst (λ v. Acts o v z) (sym f.0)
    (enters id a asked.0.items (whole_entry asked.1) b z (subst (Understands o.lines id a) (sym f.1) u) is (subst (λ t. Awaits t (record { id = id; evaluates = b }) z.talk) same f.2))
turned o m z id a (next.Enters asked b) None u same is f = refuses id a Memory m.lines u (no_room o.talk a asked.0.items (whole_entry asked.1) b is) f.0 (subst (λ t. Stays t z.talk) same f.1)
turned o m z id a (next.Returns c) (Some x) u same (n, code, text, am, opened, comp) f = subst (λ v. Acts o v z) (sym (f.0 ∙ ap Completes comp))
    (completes id n code text m.lines z (subst (λ k. Understands o.lines id k m.lines) am u) opened f.1 (subst (λ t. Closes t z.talk) same f.2))
turned o m z id a (next.Returns c) None u same is f = absurd f
turned o m z id a next.Ends (Some x) u same (n, am, opened) f = subst (λ v. Acts o v z) (sym f.0)
    (ends id n m.lines z (subst (λ k. Understands o.lines id k m.lines) am u) opened f.1 (subst (λ t. Cuts t z.talk) same f.2))
turned o m z id a next.Ends None u same is f = absurd f
