-- When a run can begin.
use Rattle.std.proofs.Common.{◌≡◌, ◌<◌, ◌≤◌, ◌+◌, ◌∷◌, true, false, Bool, ℕ, Option, Some, None, refl, sym, ap, subst, ◌∙◌, arith, rules}
use Rattle.std.specs.Prelude.{is_some, nat_le}
use Rattle.std.specs.Option.{option_map}
use Rattle.std.proofs.lemmas.Bool.Decides.{nat_tests}
use Rattle.tcl_core.specs.Paths.{Path, Text, strip}
use Rattle.tcl_core.specs.Programs.{limit_or}
use Rattle.tcl_language.specs.Instructions.{fits}
use Rattle.tcl_tree.specs.TreeOf.{key_of, tree_of, marks_of}
use Rattle.tcl_tree.specs.declared.tree.Tree.{Tree as Table}
use Rattle.std.specs.Prelude.{Result, Ok, Err, IfOk, IfErr, IfNone, []}
use Rattle.tcl_partial_runs.specs.Beginnings.{Begun}
use Rattle.tcl_core.specs.Endings.{Reply}
use Rattle.tcl_core.specs.Entries.Entry.{Eval}
use Rattle.tcl_core.specs.Lives.{count_at, end_at, limit_at}
use Rattle.tcl_core.specs.Runs.{Ending}
use Rattle.tcl_core.specs.Execution.{Crossings}
use Rattle.tcl_core.specs.Trees.{Node, Tree, at_end, effect, with_limit}
use Rattle.tcl_core.specs.Trees.What.{Limited}
use Rattle.tcl_run.specs.Language.{language}
use Rattle.tcl_language.specs.Table.{serve}
use Rattle.tcl_run.specs.declared.interruption.Interruption.{Interruption}
use Rattle.tcl_run.specs.declared.interruption.Interruption.TheVariants as interruption
use Rattle.tcl_run.specs.Ends.{IfEnded, IfRan}
use Rattle.tcl_run.specs.Runs.{InUse, IsCounted, IsHeld, IsLoss, IsSteady, Proceeds, Ways, depth_at, depth_in, is_root, meters_at, meters_of, steps_at}
use Rattle.tcl_run.specs.Runs.Proceeds.{given_up}
use Rattle.tcl_tree.specs.Own.{Own}
use Rattle.tcl_run.proofs.Endings.{IfEnded-both}
use Rattle.tcl_tree.proofs.CoreLemmas.{top_there}
use Rattle.tcl_eval.specs.Running.{IsGivenUp, KeepsCounts, Tells, first_of, most_steps, open_ending, root_count, root_limit, unfit}
use Rattle.tcl_eval.specs.declared.running.OpenEnd.{OpenEnd}
use Rattle.tcl_eval.specs.declared.running.Refused.TheVariants as refused

by_all : (t : Table) (path : Path) (script : Text) (limit : ℕ) (b s n f : Bool) → (marks_of t).broken ≡ b → is_some (tree_of t path) ≡ s → nat_le (root_count t + limit) most_steps ≡ n → fits script ≡ f → unfit t path script limit ≡ first_of b s n f
by_all t path script limit b s n f eb es en ef =
    ap (λ x. first_of x (is_some (tree_of t path)) (nat_le (root_count t + limit) most_steps) (fits script)) eb ∙ ap (λ x. first_of b x (nat_le (root_count t + limit) most_steps) (fits script)) es
    ∙ ap (λ x. first_of b s x (fits script)) en ∙ ap (first_of b s n) ef

pub counts_too_far : (t : Table) (path : Path) (script : Text) (limit : ℕ) → (marks_of t).broken ≡ false → is_some (tree_of t path) ≡ true → most_steps < root_count t + limit → unfit t path script limit ≡ Some refused.CountTooLarge
counts_too_far t path script limit eb es h = by_all t path script limit false true false (fits script) eb es (grind (arith, nat_tests)) refl

pub is_too_long : (t : Table) (path : Path) (script : Text) (limit : ℕ) → (marks_of t).broken ≡ false → is_some (tree_of t path) ≡ true → root_count t + limit ≤ most_steps → fits script ≡ false → unfit t path script limit ≡ Some refused.TooLong
is_too_long t path script limit eb es h f = by_all t path script limit false true true false eb es (grind (arith, nat_tests)) f

pub is_fit : (t : Table) (path : Path) (script : Text) (limit : ℕ) → (marks_of t).broken ≡ false → is_some (tree_of t path) ≡ true → root_count t + limit ≤ most_steps → fits script ≡ true → unfit t path script limit ≡ None
is_fit t path script limit eb es h f = by_all t path script limit false true true true eb es (grind (arith, nat_tests)) f

-- ## How it ended

pub told_so : {E : Type 0} (path : Path) (ended : Result Text Interruption) (result : Result OpenEnd E) (P : Reply → Type 0) (Q : OpenEnd → Type 0) → Tells path ended result → IfEnded ended P →
    ((e : OpenEnd) (r : Reply) → P r → end_at path r ≡ open_ending e → Q e) → IfOk result Q
told_so path ended (Err e) P Q t p k = tt
told_so path (Ok text) (Ok e) P Q t p k = k e _ p t
told_so path (Err interruption.Memory) (Ok e) P Q t p k = elim t [ ]
told_so path (Err (interruption.Completed c)) (Ok e) P Q t p k = k e _ p t
told_so path (Err (interruption.Stopped s)) (Ok e) P Q t p k = k e _ p t
told_so path (Err (interruption.Exited n)) (Ok e) P Q t p k = k e _ p t
told_so path (Err (interruption.Cut c)) (Ok e) P Q t p k = k e _ p t

-- and where the outside is told too
pub told_all : {E : Type 0} (path : Path) (ended : Result Text Interruption) (result : Result OpenEnd E) (P D : Reply → Type 0) (Q : OpenEnd → Type 0) → Tells path ended result → IfEnded ended P → IfOk result (λ e. IfEnded ended D) →
    ((e : OpenEnd) (r : Reply) → P r → D r → end_at path r ≡ open_ending e → Q e) → IfOk result Q
told_all path ended (Err e) P D Q t p d k = tt
told_all {E} path ended (Ok e) P D Q t p d k = told_so {E = E} path ended (Ok e) (λ r. P r × D r) Q t (IfEnded-both ended P D (λ r. P r × D r) (λ r a b. (a, b)) p d) (λ x r h s. k x r h.0 h.1 s)

-- ## The root's own limit

-- the root has the limit that it is given
limit_so : (l : Option ℕ) (o : Option (Node Own)) → is_some o ≡ true → limit_at (with_limit l o) ≡ l
limit_so l None there = let clash : false ≡ true = there in absurd cc
limit_so l (Some n) there = refl

pub own_limit : (t new : Table) (l : Option ℕ) → tree_of new ≡ effect [] (Limited l) (tree_of t) → root_limit new ≡ l
own_limit t new l e = ap (λ (T : Tree Own). limit_at (T [])) e ∙ limit_so l (tree_of t []) (top_there t)

-- ## Counts

-- what a limit of the root leaves as it is
pub limit_level : (T : Tree Own) (l : Option ℕ) (q : Path) → (steps_at (effect [] (Limited l) T) q ≡ steps_at T q) × (meters_at (effect [] (Limited l) T) q ≡ meters_at T q)
limit_level T l q = by (strip [] q) (T q)
  where
    by : (s : Option Path) (o : Option (Node Own)) → (count_at (at_end s (with_limit l) o) ≡ count_at o) × (option_map meters_of (at_end s (with_limit l) o) ≡ option_map meters_of o)
    by None o = (refl, refl)
    by (Some []) None = (refl, refl)
    by (Some []) (Some n) = (refl, refl)
    by (Some (x ∷ xs)) o = (refl, refl)

pub same_root : (l : Option ℕ) (o : Option (Node Own)) → is_root (with_limit l o) ≡ is_root o
same_root l None = refl
same_root l (Some n) = refl

-- with the limit of the run, and then again with its own, the root is counted at most so far
pub within_run : (old first last : Option (Node Own)) (most : ℕ) → is_some old ≡ true → first ≡ with_limit (Some most) old → IsCounted first last → is_root old ≡ true → count_at old ≤ most → count_at last ≤ most
within_run None first last most there e h r le = let clash : false ≡ true = there in cc
within_run (Some n) first last most there e h r le =
    h.within (ap is_root e ∙ r) most (subst (λ (o : Option (Node Own)). limit_or (limit_at o) ≤ most) (sym e) (search rules))
    (subst (λ (o : Option (Node Own)). count_at o ≤ most) (sym e) le)

pub keeps_counts : (old first last new : Table) (path : Path) (most limit : ℕ) (own : Option ℕ) → tree_of first ≡ effect [] (Limited (Some most)) (tree_of old) → ((q : Path) → key_of first q ≡ key_of old q) → IsSteady first last → IsHeld first last path →
    tree_of new ≡ effect [] (Limited own) (tree_of last) → ((q : Path) → key_of new q ≡ key_of last q) → most ≡ root_count old + limit → KeepsCounts old path limit new
keeps_counts old first last new path most limit own begins first_keys steady held ends last_keys is = record {
  above = λ a b k whole was is_now.
      let x = before a in
      let y = held.counts a b k whole (first_keys a ∙ was) (sym (last_keys a) ∙ is_now) in
      let z = after a in
      omega arith;
  in_use = λ q k used was is_now.
      let x = before q in
      let y = steady.counts q k (use_stays q used) (first_keys q ∙ was) (sym (last_keys q) ∙ is_now) in
      let z = after q in
      omega arith;
  rises =
      let x = before [] in
      let y = steady.counted.rises in
      let z = after [] in
      omega arith;
  root = λ r.
      let le : count_at (tree_of old []) ≤ most = omega arith in
      let y = within_run (tree_of old []) (tree_of first []) (tree_of last []) most (top_there old) (ap (λ (X : Tree Own). X []) begins) steady.counted r le in
      let z = after [] in
      omega arith;
  top = ap (λ (X : Tree Own). is_root (X [])) ends ∙ same_root own (tree_of last []) ∙ steady.counted.root ∙ ap (λ (X : Tree Own). is_root (X [])) begins ∙ same_root (Some most) (tree_of old []);
}
  where
    before : (q : Path) → steps_at (tree_of first) q ≡ steps_at (tree_of old) q
    before q = ap (λ (X : Tree Own). steps_at X q) begins ∙ (limit_level (tree_of old) (Some most) q).0

    after : (q : Path) → steps_at (tree_of new) q ≡ steps_at (tree_of last) q
    after q = ap (λ (X : Tree Own). steps_at X q) ends ∙ (limit_level (tree_of last) own q).0

    depths : (q : Path) → depth_at (tree_of first) q ≡ depth_at (tree_of old) q
    depths q = ap depth_in (ap (λ (X : Tree Own). meters_at X q) begins ∙ (limit_level (tree_of old) (Some most) q).1)

    use_stays : (q : Path) → InUse (tree_of old) q → InUse (tree_of first) q
    use_stays q used = λ a b whole. subst (λ (n : ℕ). 0 < n) (sym (depths a)) (used a b whole)

-- where nothing was counted
pub counts_stay : (old new : Table) (path : Path) (limit : ℕ) → tree_of new ≡ tree_of old → KeepsCounts old path limit new
counts_stay old new path limit same = record {
  above = λ a b k whole was is_now. let e = counts a in omega arith;
  in_use = λ q k used was is_now. let e = counts q in omega arith;
  rises = let e = counts [] in omega arith;
  root = λ r. let e = counts [] in omega arith;
  top = ap (λ (X : Tree Own). is_root (X [])) same;
}
  where
    counts : (q : Path) → steps_at (tree_of new) q ≡ steps_at (tree_of old) q
    counts q = ap (λ (X : Tree Own). steps_at X q) same

-- and where the tree only breaks afterwards
pub counts_after : (old last new : Table) (path : Path) (limit : ℕ) → KeepsCounts old path limit last → tree_of new ≡ tree_of last → key_of new ≡ key_of last → KeepsCounts old path limit new
counts_after old last new path limit h same same_keys = record {
  above = λ a b k whole was is_now. let x = h.above a b k whole was (sym (keys a) ∙ is_now) in let e = counts a in omega arith;
  in_use = λ q k used was is_now. let x = h.in_use q k used was (sym (keys q) ∙ is_now) in let e = counts q in omega arith;
  rises = let x = h.rises in let e = counts [] in omega arith;
  root = λ r. let x = h.root r in let e = counts [] in omega arith;
  top = ap (λ (X : Tree Own). is_root (X [])) same ∙ h.top;
}
  where
    counts : (q : Path) → steps_at (tree_of new) q ≡ steps_at (tree_of last) q
    counts q = ap (λ (X : Tree Own). steps_at X q) same

    keys : (q : Path) → key_of new q ≡ key_of last q
    keys q = ap (λ f. f q) same_keys

-- ## Where it was given up

-- an evaluation came some way
pub some_way : (r : Result Text Interruption) (P : Ending → Type 0) (Q : Type 0) → IfRan r P → ((e : Ending) → P e → Q) → Q
some_way (Ok text) P Q p k = k _ p
some_way (Err interruption.Memory) P Q p k = k _ p
some_way (Err (interruption.Completed c)) P Q p k = k _ p
some_way (Err (interruption.Stopped s)) P Q p k = k _ p
some_way (Err (interruption.Exited n)) P Q p k = k _ p
some_way (Err (interruption.Cut c)) P Q p k = k _ p

-- what holds anyway
pub at_any_err : {A E : Type 0} (r : Result A E) (P : Type 0) → P → IfErr r (λ _. P)
at_any_err (Ok a) P p = tt
at_any_err (Err e) P p = p

pub at_none : {A : Type 0} (o : Option A) (P : Type 0) → P → IfNone o P
at_none None P p = p
at_none (Some a) P p = tt

module _ {S : Type 0} {ways : Ways S} (old : Table) (o z : S) (path : Path) (script : Text) (most : ℕ) where
  was_given_up : {last : S} → Begun (Crossings ways.goes) (language (marks_of old).integers) (effect [] (Limited (Some most)) (tree_of old)) o path (serve (marks_of old).integers (Eval script)) last →
      IsLoss ways.loses last z → IsGivenUp ways old o path script most z
  was_given_up {last} b l = record { last = last; begun = b; lost = l }

  -- how far the script came
  pub is_given_up : {V : Tree Own} → Proceeds ways (language (marks_of old).integers) (effect [] (Limited (Some most)) (tree_of old)) o path (serve (marks_of old).integers (Eval script)) V z None →
      IsGivenUp ways old o path script most z
  is_given_up (given_up b l) = was_given_up b l
