-- Reading from the left decides which texts are expressions.
use Rattle.std.proofs.Common.{◌≡◌, ◌∙◌, sym, ap, subst, refl, ℕ, List, [], ◌∷◌, ◌++◌, Option, Some, None, Result, Ok, Err, inl, inr, ◌⊎◌, append_assoc}
use Rattle.tcl_text.specs.declared.integer.Integers.{Integers}
use Rattle.tcl_expr.specs.declared.token.Token.{Token}
use Rattle.tcl_expr.specs.declared.grammar.Misfit.{Misfit}
use Rattle.tcl_expr.specs.declared.grammar.Misfit.TheVariants as misfits
use Rattle.tcl_expr.specs.Trees.{Tree}
use Rattle.tcl_expr.specs.Grammar.{IsExpression, Begins}
use Rattle.tcl_expr.specs.Misfits.{IsMisfit, Fails, fitting, early}
use Rattle.tcl_expr.specs.Reading.{Step, wanting, run, finish, finished}
use Rattle.tcl_expr.proofs.Misfits.{begins, reads, fails, faults}
use Rattle.tcl_expr.proofs.Soundness.{expression}
use Rattle.tcl_expr.proofs.Completeness as complete
use Rattle.tcl_expr.specs.declared.fault.ExprFault.{ExprFault}
use Rattle.tcl_expr.specs.Expressions.{tokens_of, deepest, fault_of, HasFault, misfit, unreadable, early as ends_early, told, completed, expression_of, GivesTree, GivesFault, OneTree, OneFault, Decided}

-- where only white space is left
at_end : (x : Step) (stop : Option ExprFault) → stop ≡ None → completed x stop ≡ told (finished x)
at_end (Ok q) None h = refl
at_end (Err e) None h = refl
at_end x (Some f) h = absurd (cc)

told_tree : (r : Result Tree Misfit) (t : Tree) → told r ≡ Ok t → r ≡ Ok t
told_tree (Ok u) t h = cc
told_tree (Err e) t h = absurd (cc)

whole_tree : (x : Step) (stop : Option ExprFault) (t : Tree) → completed x stop ≡ Ok t → (stop ≡ None) × (finished x ≡ Ok t)
whole_tree (Ok q) None t h = (refl, told_tree (finish q) t h)
whole_tree (Ok q) (Some f) t h = absurd (cc)
whole_tree (Err e) stop t h = absurd (cc)

pub gives_tree : GivesTree
gives_tree style s t = (
  λ h. let w = whole_tree (run deepest (wanting []) (tokens_of style s).tokens) (tokens_of style s).stop t h in record { whole = w.0; spells = expression deepest t (tokens_of style s).tokens w.1 },
  λ h. at_end (run deepest (wanting []) (tokens_of style s).tokens) (tokens_of style s).stop h.whole ∙ ap told (complete.read deepest t (tokens_of style s).tokens h.spells),
)

-- ## Faults

-- how tokens fail
abbrev pub Misses : List Token → Misfit → Type 0
Misses tokens e = (front : List Token) × (behind : List Token) × (t : Token) × (tokens ≡ front ++ t ∷ behind) × IsMisfit deepest front t e

abbrev pub Lacks : List Token → Misfit → Type 0
Lacks tokens e = Begins deepest tokens × ((t : Tree) → IsExpression deepest t tokens → Prim.⊥) × (e ≡ misfits.Syntax)

sort : {tokens : List Token} {e : Misfit} → Fails deepest tokens e → Misses tokens e ⊎ Lacks tokens e
sort (fitting front behind t e m) = inl (front, behind, t, refl, m)
sort (early front b none) = inr (b, none, refl)

stopped : (style : Integers) (s : List ℕ) (x : Step) (stop : Option ExprFault) (f : ExprFault) → run deepest (wanting []) (tokens_of style s).tokens ≡ x → (tokens_of style s).stop ≡ stop → completed x stop ≡ Err f → HasFault style s f
stopped style s (Err e) stop f is at h = by (sort (fails deepest tokens e (ap finished is)))
  where
    tokens : List Token
    tokens = (tokens_of style s).tokens

    by : Misses (tokens_of style s).tokens e ⊎ Lacks (tokens_of style s).tokens e → HasFault style s f
    by (inl m) = misfit e m.0 m.1 m.2 m.3 m.4 (cc)
    by (inr l) = let r = reads deepest (tokens_of style s).tokens l.0 in let clash : ◌≡◌ {A = Step} (Ok r.0) (Err e) = sym r.1 ∙ is in absurd (cc)
stopped style s (Ok q) (Some g) f is at h = unreadable (begins deepest (tokens_of style s).tokens q is) (at ∙ cc)
stopped style s (Ok q) None f is at h = with_end (finish q) refl h
  where
    by : (e : Misfit) → f ≡ fault_of e → Misses (tokens_of style s).tokens e ⊎ Lacks (tokens_of style s).tokens e → HasFault style s f
    by e same (inl m) = misfit e m.0 m.1 m.2 m.3 m.4 same
    by e same (inr l) = ends_early l.0 at l.1 (same ∙ ap fault_of l.2)

    with_end : (r : Result Tree Misfit) → finish q ≡ r → told r ≡ Err f → HasFault style s f
    with_end (Ok t) e k = absurd (cc)
    with_end (Err g) e k = by g (cc) (sort (fails deepest (tokens_of style s).tokens g (ap finished is ∙ e)))

-- what begins with tokens begins with fewer
begins_less : (front behind : List Token) (t : Token) (tokens : List Token) → tokens ≡ front ++ t ∷ behind → Begins deepest tokens → Begins deepest (front ++ t ∷ [])
begins_less front behind t tokens e b = (behind ++ b.0, b.1, subst (IsExpression deepest b.1) (ap (λ x. x ++ b.0) e ∙ append_assoc front (t ∷ behind) b.0 ∙ sym (append_assoc front (t ∷ []) (behind ++ b.0))) b.2)

missed : (style : Integers) (s : List ℕ) (e : Misfit) (front behind : List Token) (t : Token) → (tokens_of style s).tokens ≡ front ++ t ∷ behind → IsMisfit deepest front t e →
    (x : Step) → run deepest (wanting []) (tokens_of style s).tokens ≡ x → completed x (tokens_of style s).stop ≡ Err (fault_of e)
missed style s e front behind t is m (Ok q) r = absurd (m.ends (begins_less front behind t (tokens_of style s).tokens is (begins deepest (tokens_of style s).tokens q r)))
missed style s e front behind t is m (Err g) r =
    let fails_so : Fails deepest (tokens_of style s).tokens e = subst (λ x. Fails deepest x e) (sym is) (fitting front behind t e m) in
    let there : ◌≡◌ {A = Result Tree Misfit} (Err g) (Err e) = sym (ap finished r) ∙ faults fails_so in
    let same : g ≡ e = cc in
    ap (λ x. Err (fault_of x)) same

pub gives_fault : GivesFault
gives_fault style s f = (λ h. stopped style s (run deepest (wanting []) (tokens_of style s).tokens) (tokens_of style s).stop f refl refl h, back)
  where
    back : HasFault style s f → expression_of style s ≡ Err f
    back (misfit e front behind t is m same) = missed style s e front behind t is m (run deepest (wanting []) (tokens_of style s).tokens) refl ∙ ap Err (sym same)
    back (unreadable b stop) = let r = reads deepest (tokens_of style s).tokens b in
        ap (λ x. completed x (tokens_of style s).stop) r.1 ∙ ap (completed (Ok r.0)) stop
    back (ends_early b stop none same) = at_end (run deepest (wanting []) (tokens_of style s).tokens) (tokens_of style s).stop stop
        ∙ ap told (faults (early (tokens_of style s).tokens b none)) ∙ ap Err (sym same)

decide : (style : Integers) (s : List ℕ) (r : Result Tree ExprFault) → expression_of style s ≡ r → ((t : Tree) × OneTree style s t) ⊎ ((f : ExprFault) × OneFault style s f)
decide style s (Ok t) h = inl (
  t,
  record {
    is = (gives_tree style s t).0 h;
    only = λ u g. let same : ◌≡◌ {A = Result Tree ExprFault} (Ok u) (Ok t) = sym ((gives_tree style s u).1 g) ∙ h in cc;
    no_fault = λ f g. let clash : ◌≡◌ {A = Result Tree ExprFault} (Ok t) (Err f) = sym h ∙ (gives_fault style s f).1 g in absurd (cc);
  },
)
decide style s (Err f) h = inr (
  f,
  record {
    has = (gives_fault style s f).0 h;
    only = λ g k. let same : ◌≡◌ {A = Result Tree ExprFault} (Err g) (Err f) = sym ((gives_fault style s g).1 k) ∙ h in cc;
    no_tree = λ t k. let clash : ◌≡◌ {A = Result Tree ExprFault} (Ok t) (Err f) = sym ((gives_tree style s t).1 k) ∙ h in absurd (cc);
  },
)

pub decided : Decided
decided style s = decide style s (expression_of style s) refl
