-- What a script comes to, from what its two evaluations come to.
use Rattle.std.proofs.Common.{◌≡◌, ◌∙◌, ◌+◌, ◌≤◌, ℕ, length, Option, Some, None, sym, subst, inl, inr, refl}
use Rattle.std.specs.Str.{IsUtf8}
use Rattle.tcl_core.specs.Paths.{Path, Text}
use Rattle.tcl_tree.specs.declared.tree.Tree.{Tree}
use Rattle.std.specs.Prelude.{map, Result, Err, IfErr, IfNone, IfSome}
use Rattle.tcl_eval.specs.Running.{AsksFirst, IsRun, root_count, unfit}
use Rattle.tcl_eval.specs.declared.running.End.{End}
use Rattle.tcl_eval.specs.declared.running.Refused.{Refused}
use Rattle.tcl_eval.specs.declared.running.Refused.TheVariants as refused
use Rattle.tcl_run.specs.Outsides.{hosted}
use Rattle.tcl_shell.specs.Beginning.{Begins, path_of, setting_of}
use Rattle.tcl_shell.specs.Evaluating.{Comes, EndsAs, IsRefused, Then, RunsTo, EvaluatesTo, longest}
use Rattle.tcl_shell.specs.Reading.{Serving}
use Rattle.tcl_shell.specs.declared.ending.Ending.{Ending}
use Rattle.tcl_shell.specs.declared.ending.Ending.TheVariants.{Finished, Helped, Failed, Misused, Unreadable, Stopped, Exited, OutOfMemory}
use Rattle.tcl_shell.specs.declared.options.Options.{Options}

-- the variables were set by the one evaluation, and this comes of it
abbrev IsSet : {S : Type 0} → Serving S → Options → Text → S → Ending → S → Type 0
IsSet {S} step o script h e z =
    (t : Tree) × (u : Tree) × (mid : S) × (first : Ending) × Begins o t × EndsAs step t h (path_of o.is_safe) (setting_of o.file.now (map (λ word. word.now) o.arguments.items)) 3 first u mid
    × Then step o script first u mid e z

runs_by : {S : Type 0} (step : Serving S) (o : Options) (script : Text) (h z : S) (e : Ending) → IsSet step o script h e z → RunsTo step o script h e z
runs_by step o script h z (Finished text) x = x
runs_by step o script h z (Helped text) x = x
runs_by step o script h z (Failed text) x = x
runs_by step o script h z (Misused text) x = x
runs_by step o script h z Unreadable x = x
runs_by step o script h z (Stopped kind) x = x
runs_by step o script h z (Exited n) x = x
runs_by step o script h z OutOfMemory x = inr x

pub ends_so : {S : Type 0} (step : Serving S) (t u : Tree) (h z : S) (p q : Path) (s r : Text) (n : ℕ) (e : Ending) → p ≡ q → s ≡ r → EndsAs step t h p s n e u z → EndsAs step t h q r n e u z
ends_so step t u h z p q s r n e ep es x = subst (λ (y : Text). EndsAs step t h q y n e u z) es (subst (λ (y : Path). EndsAs step t h y s n e u z) ep x)

-- the variables were set, and the script ran
pub runs_on : {S : Type 0} (step : Serving S) (o : Options) (script : Text) (h mid z : S) (t u v : Tree) (first : Ending) (text : Text) (e : Ending) (p q : Path) (setting : Text) → first ≡ Finished text → p ≡ path_of o.is_safe → q ≡ path_of o.is_safe
    → setting ≡ setting_of o.file.now (map (λ word. word.now) o.arguments.items) → Begins o t → EndsAs step t h p setting 3 first u mid → EndsAs step u mid q script o.limit e v z → RunsTo step o script h e z
runs_on step o script h mid z t u v first text e p q setting ef ep eq es b x y =
    runs_by step o script h z e (
      t,
      u,
      mid,
      Finished text,
      b,
      subst (λ (f : Ending). EndsAs step t h (path_of o.is_safe) (setting_of o.file.now (map (λ word. word.now) o.arguments.items)) 3 f u mid) ef (ends_so step t u h mid p (path_of o.is_safe) setting _ 3 first ep es x),
      (v, ends_so step u v mid z q (path_of o.is_safe) script script o.limit e eq refl y),
    )

stays : {S : Type 0} (step : Serving S) (o : Options) (script : Text) (u : Tree) (z : S) (e : Ending) → ((text : Text) → e ≡ Finished text → Prim.⊥) → Then step o script e u z e z
stays step o script u z (Finished text) apart = absurd (apart text refl)
stays step o script u z (Helped text) apart = (refl, refl)
stays step o script u z (Failed text) apart = (refl, refl)
stays step o script u z (Misused text) apart = (refl, refl)
stays step o script u z Unreadable apart = (refl, refl)
stays step o script u z (Stopped kind) apart = (refl, refl)
stays step o script u z (Exited n) apart = (refl, refl)
stays step o script u z OutOfMemory apart = (refl, refl)

-- setting the variables ended otherwise
pub runs_out : {S : Type 0} (step : Serving S) (o : Options) (script : Text) (h z : S) (t u : Tree) (e : Ending) (p : Path) (setting : Text) → ((text : Text) → e ≡ Finished text → Prim.⊥) → p ≡ path_of o.is_safe
    → setting ≡ setting_of o.file.now (map (λ word. word.now) o.arguments.items) → Begins o t → EndsAs step t h p setting 3 e u z → RunsTo step o script h e z
runs_out step o script h z t u e p setting apart ep es b x =
    runs_by step o script h z e (t, u, z, e, b, ends_so step t u h z p (path_of o.is_safe) setting _ 3 e ep es x, stays step o script u z e apart)

-- no evaluation ends as a script that can't be read
never_ends : {S : Type 0} (step : Serving S) (t u : Tree) (h z : S) (p : Path) (s : Text) (n : ℕ) → EndsAs step t h p s n Unreadable u z → Prim.⊥
never_ends step t u h z p s n (inl x) = x.2
never_ends step t u h z p s n (inr x) = let clash : Unreadable ≡ Failed _ = x.2 in cc

never_runs : {S : Type 0} (step : Serving S) (o : Options) (script : Text) (h z mid : S) (t u : Tree) (first : Ending) → EndsAs step t h (path_of o.is_safe) (setting_of o.file.now (map (λ word. word.now) o.arguments.items)) 3 first u mid
    → Then step o script first u mid Unreadable z → Prim.⊥
never_runs step o script h z mid t u (Finished text) x y = never_ends step u y.0 mid z (path_of o.is_safe) script o.limit y.1
never_runs step o script h z mid t u (Helped text) x y = let clash : Unreadable ≡ Helped text = y.0 in cc
never_runs step o script h z mid t u (Failed text) x y = let clash : Unreadable ≡ Failed text = y.0 in cc
never_runs step o script h z mid t u (Misused text) x y = let clash : Unreadable ≡ Misused text = y.0 in cc
never_runs step o script h z mid t u Unreadable x y = never_ends step t u h mid (path_of o.is_safe) _ 3 x
never_runs step o script h z mid t u (Stopped kind) x y = let clash : Unreadable ≡ Stopped kind = y.0 in cc
never_runs step o script h z mid t u (Exited n) x y = let clash : Unreadable ≡ Exited n = y.0 in cc
never_runs step o script h z mid t u OutOfMemory x y = let clash : Unreadable ≡ OutOfMemory = y.0 in cc

evaluates_by : {S : Type 0} (step : Serving S) (o : Options) (bytes : Text) (h z : S) (e : Ending) → length bytes ≤ longest → IsUtf8 bytes → RunsTo step o bytes h e z → EvaluatesTo step o bytes h e z
evaluates_by step o bytes h z (Finished text) l u x = inr (l, u, x)
evaluates_by step o bytes h z (Helped text) l u x = inr (l, u, x)
evaluates_by step o bytes h z (Failed text) l u x = inr (l, u, x)
evaluates_by step o bytes h z (Misused text) l u x = inr (l, u, x)
evaluates_by step o bytes h z Unreadable l u x = absurd (never_runs step o bytes h z x.2 x.0 x.1 x.3 x.5 x.6)
evaluates_by step o bytes h z (Stopped kind) l u x = inr (l, u, x)
evaluates_by step o bytes h z (Exited n) l u x = inr (l, u, x)
evaluates_by step o bytes h z OutOfMemory l u x = inr (l, u, x)

pub evaluates_so : {S : Type 0} (step : Serving S) (o : Options) (bytes script : Text) (h z : S) (e : Ending) → length bytes ≤ longest → IsUtf8 bytes → script ≡ bytes → RunsTo step o script h e z → EvaluatesTo step o bytes h e z
evaluates_so step o bytes script h z e l u is x = evaluates_by step o bytes h z e l u (subst (λ (s : Text). RunsTo step o s h e z) is x)

-- ## One evaluation

module _ {S : Type 0} (step : Serving S) (t u : Tree) (h z : S) (p : Path) (s : Text) (n : ℕ) where
  -- it came to its end
  pub end_ends : (e : End) (r : Ending) → IsRun (hosted step) t h p s (root_count t + n) u z e → Comes e r → EndsAs step t h p s n r u z
  end_ends e (Finished text) run c = inl (e, run, c)
  end_ends e (Helped text) run c = inl (e, run, c)
  end_ends e (Failed text) run c = inl (e, run, c)
  end_ends e (Misused text) run c = inl (e, run, c)
  end_ends e Unreadable run c = inl (e, run, c)
  end_ends e (Stopped kind) run c = inl (e, run, c)
  end_ends e (Exited k) run c = inl (e, run, c)
  end_ends e OutOfMemory run c = inr (inr (e, run, tt))

  as_out_of_memory : (r : Ending) → r ≡ OutOfMemory → EndsAs step t h p s n OutOfMemory u z → EndsAs step t h p s n r u z
  as_out_of_memory r is x = subst (λ (y : Ending). EndsAs step t h p s n y u z) (sym is) x

  -- it was refused, and nothing was changed
  not_begun : (f : Refused) (r : Ending) → unfit t p s n ≡ Some f → z ≡ h → IsRefused f r → EndsAs step t h p s n r u z
  not_begun refused.TooLong r at same (inl x) = subst (λ (y : Ending). EndsAs step t h p s n y u z) (sym x) (inr (at, same, refl))
  not_begun refused.TooLong r at same (inr x) = as_out_of_memory r x (inl same)
  not_begun refused.Memory r at same x = as_out_of_memory r x (inl same)
  not_begun refused.Broken r at same x = as_out_of_memory r x (inl same)
  not_begun refused.NoInterpreter r at same x = as_out_of_memory r x (inl same)
  not_begun refused.CountTooLarge r at same x = as_out_of_memory r x (inl same)

  -- it was refused, or given up on its way
  pub refused_ends : (res : Result End Refused) (f : Refused) (r : Ending) → res ≡ Err f → IfSome (unfit t p s n) (λ e. res ≡ Err e) → IfSome (unfit t p s n) (λ _. (u ≡ t) × (z ≡ h)) → IfNone (unfit t p s n) (IfErr res (λ e. e ≡ refused.Memory)) →
      IfNone (unfit t p s n) (IfErr res (λ _. AsksFirst step t h p s n z)) → IsRefused f r → EndsAs step t h p s n r u z
  refused_ends res f r is a b c d w =
      by (unfit t p s n) refl a b (subst (λ (q : Result End Refused). IfNone (unfit t p s n) (IfErr q (λ e. e ≡ refused.Memory))) is c)
      (subst (λ (q : Result End Refused). IfNone (unfit t p s n) (IfErr q (λ _. AsksFirst step t h p s n z))) is d)
    where
      by : (o : Option Refused) → unfit t p s n ≡ o → IfSome o (λ e. res ≡ Err e) → IfSome o (λ _. (u ≡ t) × (z ≡ h)) → IfNone o (f ≡ refused.Memory) → IfNone o (AsksFirst step t h p s n z) → EndsAs step t h p s n r u z
      by (Some e) at x y m q =
          let both : ◌≡◌ {A = Result End Refused} (Err e) (Err f) = sym x ∙ is in
          let one : e ≡ f = cc in
          not_begun f r (subst (λ (k : Refused). unfit t p s n ≡ Some k) one at) y.1 w
      by None at x y m q = as_out_of_memory r (subst (λ (k : Refused). IsRefused k r) m w) (inr (inl q))
