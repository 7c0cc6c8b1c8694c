-- Where a way of names alone leads.
use Rattle.std.proofs.Common.{◌≡◌, ◌++◌, Some, None, sym, ◌∙◌, subst}
use Rattle.std.proofs.lemmas.Option.{same_Some}
use Rattle.tcl_core.specs.Paths.{Path}
use Rattle.tcl_tree.specs.Reaching.{Leads as Leads_to}
use Rattle.tcl_tree.specs.TreeOf.{tree_of, Names}
use Rattle.tcl_tree.specs.declared.tree.Tree.{Tree as Table}
use Rattle.tcl_tree.specs.declared.tree.Place.{Place as TablePlace}
use Rattle.tcl_tree.specs.declared.tree.places.Reach.TheVariants as reach
use Rattle.tcl_calls.proofs.Asked.{rise_zero}

pub there_below : (t : Table) (place there : TablePlace) (path : Path) → ((p : Path) → Names t place p → Leads_to t p 0 path (reach.There there)) → (p : Path) → Names t place p → Names t there (p ++ path)
there_below t place there path leads p at =
    let lead = leads p at in
    let here : lead.0 ≡ p = same_Some _ _ (sym lead.1 ∙ rise_zero p) in
    subst (λ (a : Path). Names t there (a ++ path)) here lead.2

pub gone_below : (t : Table) (place : TablePlace) (path : Path) → ((p : Path) → Names t place p → Leads_to t p 0 path reach.Missing) → (p : Path) → Names t place p → tree_of t (p ++ path) ≡ None
gone_below t place path leads p at =
    let lead = leads p at in
    let here : lead.0 ≡ p = same_Some _ _ (sym lead.1 ∙ rise_zero p) in
    subst (λ (a : Path). tree_of t (a ++ path) ≡ None) here lead.2

pub never_outside : (t : Table) (place : TablePlace) (path : Path) → ((p : Path) → Names t place p → Leads_to t p 0 path reach.Outside) → (p : Path) → Names t place p → Prim.⊥
never_outside t place path leads p at = let clash : None ≡ Some p = sym (leads p at) ∙ rise_zero p in cc
