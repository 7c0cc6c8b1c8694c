-- What an interpreter does where it is asked for something that evaluates nothing.
use Rattle.std.proofs.Common.{◌≡◌, ◌⊎◌, inl, inr, ℕ, zero, suc, ◌<◌, ◌≤◌, Bool, true, false, [], ◌∷◌, ◌++◌, length, Option, Some, None, refl, sym, ◌∙◌, ap, subst, append-nil, arith}
use Rattle.std.specs.Prelude.{Result, Ok, Err, IfOk, IfErr, is_some, codes, nat_le, ◌&&◌, ◌||◌, IsSome}
use Rattle.std.specs.Fmt.{decimal}
use Rattle.std.specs.Option.{unwrap_or}
use Rattle.std.specs.Map.{lookup}
use Rattle.std.specs.Str.{bytes_eq}
use Rattle.std.proofs.lemmas.Bool.Decides.{nat_tests}
use Rattle.std.proofs.lemmas.Option.{same_Some}
use Rattle.tcl_core.specs.Endings.{Reply, ok}
use Rattle.tcl_core.specs.Endings.Reply.{Completed}
use Rattle.tcl_core.specs.Paths.{Text, Path, strip}
use Rattle.tcl_core.specs.Programs as programs
use Rattle.tcl_core.specs.Programs.{Deed, spot, making}
use Rattle.tcl_core.specs.Programs.Act.{Look, Limit, LimitDepth}
use Rattle.tcl_core.specs.Programs.Next.{On}
use Rattle.tcl_core.specs.Programs.Prog.{done, act}
use Rattle.tcl_core.specs.Execution.{completed, event}
use Rattle.tcl_core.specs.Trees.{Tree, Node, effect, at, at_end, with_own}
use Rattle.tcl_core.specs.Trees.What.{Changed, Made, Dropped, Limited, DepthLimited}
use Rattle.tcl_core.proofs.PathLaws.{strip_own}
use Rattle.tcl_core.specs.Entries.{Question}
use Rattle.tcl_language.specs.Instructions.{Instr, Program, either, fails, fits, gives, too_long, look, change, or_fails}
use Rattle.tcl_language.specs.Interpreters as interpreters
use Rattle.tcl_language.specs.Interpreters.{renaming, done_so, refused_text, refusal_text}
use Rattle.tcl_language.specs.Naming as language
use Rattle.tcl_language.specs.Naming.{command_name}
use Rattle.tcl_language.specs.Faults.{bad_name}
use Rattle.tcl_language.specs.Names.{is_name}
use Rattle.tcl_run.specs.Ends.{Interrupts, IsFailure, failing, itself}
use Rattle.tcl_run.specs.Plain.{Does, Acts}
use Rattle.tcl_run.specs.Outsides.{Going}
use Rattle.tcl_run.specs.Runs.{Comes, EvaluatesAt, IsThere}
use Rattle.tcl_run.specs.declared.interruption.Interruption.{Interruption}
use Rattle.tcl_run.specs.declared.interruption.Interruption.TheVariants as interruption
use Rattle.tcl_run.proofs.Endings.{Interrupts-more, IfEnded-more}
use Rattle.tcl_run.proofs.Leads.{at_prog, at_reply, changes, drops, looks, sees_below}
use Rattle.tcl_run.proofs.Plain.{does_look, does_read, does_fail, does_change, does_to}
use Rattle.tcl_run.proofs.Steady.{stands}
use Rattle.tcl_text.specs.declared.integer.Integers.{Integers}
use Rattle.tcl_text.specs.Writing.{written_list}
use Rattle.tcl_tree.specs.Changes.{MayMake, Makes, RefusesMake, Drops, RefusesDrop, MayDeepen, RefusesToDeepen}
use Rattle.tcl_tree.specs.Naming as tree
use Rattle.tcl_tree.specs.Naming.{Becomes, RefusesNaming}
use Rattle.tcl_tree.specs.Own.{Own, new_own, with_new_child, without_old_child, command_in}
use Rattle.tcl_tree.specs.TreeOf.{tree_of, Names}
use Rattle.tcl_interpreter.specs.declared.refusal.TreeError.{TreeError}
use Rattle.tcl_interpreter.specs.declared.refusal.TreeError.TheVariants as refusal
use Rattle.tcl_tree.specs.declared.tree.Tree.{Tree as Table}
use Rattle.tcl_tree.specs.declared.tree.Place.{Place as TablePlace}
use Rattle.tcl_tree.proofs.CoreLemmas.{tree_there}
use Rattle.tcl_calls.specs.Naming.{Tells, making_text}
use Rattle.tcl_calls.proofs.Changing.{is_name_same}

-- how a program ends in the interpreter that a place names
abbrev pub EndsAt : Table → TablePlace → Program → Tree Own → Reply → Type 0
EndsAt t place program V r = (p : Path) (style : Integers) → IsThere t place p style → Does program (tree_of t) p V r

-- the interpreter is there
pub there : (t : Table) (place : TablePlace) (p : Path) → Names t place p → (n : Node Own) × (tree_of t p ≡ Some n)
there t place p at = stands (tree_of t p) (tree_there t p _ at)

pub does_true : (b : Bool) (x y : Program) (T V : Tree Own) (p : Path) (r : Reply) → b ≡ true → Does x T p V r → Does (either b x y) T p V r
does_true b x y T V p r e d = subst (λ (c : Bool). Does (either c x y) T p V r) (sym e) d

pub does_false : (b : Bool) (x y : Program) (T V : Tree Own) (p : Path) (r : Reply) → b ≡ false → Does y T p V r → Does (either b x y) T p V r
does_false b x y T V p r e d = subst (λ (c : Bool). Does (either c x y) T p V r) (sym e) d

-- ## Names

pub renaming_done : (t u : Table) (place : TablePlace) (f : Own → language.Named) (g : Own → tree.Named) (text : Text) → text ≡ [] →
    ((p : Path) (n : Node Own) → Names t place p → tree_of t p ≡ Some n → (own : Own) → g n.own ≡ Ok own → f n.own ≡ Ok own) →
    ((p : Path) → Names t place p → Becomes (tree_of t) (tree_of u) p g) → EndsAt t place (renaming done_so f) (tree_of u) (Completed (ok text))
renaming_done t u place f g text none same becomes = λ p style at.
    let n = there t place p at.names in
    let b = becomes p at.names n.0 n.1 in
    does_look (tree_of t) (tree_of u) p (Completed (ok text)) n.0 (λ m. or_fails refused_text (f m.own) (λ own. change own done_so)) n.1
    (does_read (tree_of t) (tree_of u) p (Completed (ok text)) refused_text (f n.0.own) b.0 (λ own. change own done_so) (same p n.0 at.names n.1 b.0 b.1)
    (does_change (tree_of t) (tree_of u) (tree_of u) p (Completed (ok text)) n.0 b.0 done_so n.1 b.2 (refl, ap (λ (x : Text). Completed (ok x)) none)))

-- a refusal with a word
pub renaming_fails : (t u : Table) (place : TablePlace) (f : Own → language.Named) (e : TreeError) (x : Text) (i : Interruption) →
    ((p : Path) (n : Node Own) → Names t place p → tree_of t p ≡ Some n → f n.own ≡ Err (e, x)) → tree_of u ≡ tree_of t → Interrupts i (λ r. r ≡ Completed (failing (refusal_text e x))) →
    Interrupts i (EndsAt t place (renaming done_so f) (tree_of u))
renaming_fails t u place f e x i refuses same told = Interrupts-more i (λ r. r ≡ Completed (failing (refusal_text e x))) (EndsAt t place (renaming done_so f) (tree_of u)) (λ r is p style at.
    let n = there t place p at.names in
    does_to (renaming done_so f) (tree_of t) (tree_of u) (tree_of t) p r same
    (does_look (tree_of t) (tree_of t) p r n.0 (λ m. or_fails refused_text (f m.own) (λ own. change own done_so)) n.1
    (does_fail (tree_of t) p refused_text (f n.0.own) (λ own. change own done_so) r
    (subst (λ (y : language.Named). IsFailure refused_text y r) (sym (refuses p n.0 at.names n.1)) is)))) told

-- a refusal is told, unless it is want of memory
pub tells_cases : (e : TreeError) (message : Text) (i : Interruption) → Tells e message i → (i ≡ interruption.Memory) ⊎ ((e ≡ refusal.Memory → Prim.⊥) × Interrupts i (λ r. r ≡ Completed (failing message)))
tells_cases refusal.Memory message i t = inl t
tells_cases refusal.BadName message i t = inr (λ e. cc, t)
tells_cases refusal.BadCount message i t = inr (λ e. cc, t)
tells_cases refusal.NoInterpreter message i t = inr (λ e. cc, t)
tells_cases refusal.Exists message i t = inr (λ e. cc, t)
tells_cases refusal.Denied message i t = inr (λ e. cc, t)
tells_cases refusal.NoCommand message i t = inr (λ e. cc, t)
tells_cases refusal.NoHidden message i t = inr (λ e. cc, t)
tells_cases refusal.TooMany message i t = inr (λ e. cc, t)
tells_cases (refusal.CountLimit n) message i t = inr (λ e. cc, t)
tells_cases (refusal.DepthLimit n) message i t = inr (λ e. cc, t)
tells_cases refusal.BadDepthLimit message i t = inr (λ e. cc, t)

-- what the table refuses is refused, with the word that is wrong
pub renaming_refused : (t u : Table) (place : TablePlace) (f : Own → language.Named) (g : Own → tree.Named) (e : TreeError) (x : Text) (i : Interruption) → (p : Path) × Names t place p →
    ((p : Path) (n : Node Own) → Names t place p → tree_of t p ≡ Some n → g n.own ≡ Err e → f n.own ≡ Err (e, x)) →
    ((p : Path) → Names t place p → RefusesNaming e (tree_of t) p g) → tree_of u ≡ tree_of t → Tells e (refusal_text e x) i →
    Interrupts i (EndsAt t place (renaming done_so f) (tree_of u))
renaming_refused t u place f g e x i here matches refuses same told = by (tells_cases e (refusal_text e x) i told)
  where
    why : (p : Path) (n : Node Own) → (e ≡ refusal.Memory → Prim.⊥) → Names t place p → tree_of t p ≡ Some n → (e ≡ refusal.Memory) ⊎ (g n.own ≡ Err e) → f n.own ≡ Err (e, x)
    why p n not at is (inl memory) = absurd (not memory)
    why p n not at is (inr h) = matches p n at is h

    by : (i ≡ interruption.Memory) ⊎ ((e ≡ refusal.Memory → Prim.⊥) × Interrupts i (λ r. r ≡ Completed (failing (refusal_text e x)))) → Interrupts i (EndsAt t place (renaming done_so f) (tree_of u))
    by (inl memory) = subst (λ (j : Interruption). Interrupts j (EndsAt t place (renaming done_so f) (tree_of u))) (sym memory) tt
    by (inr h) = renaming_fails t u place f e x i (λ p n at is. why p n h.0 at is (refuses p at n is)) same h.1

-- ## Limits

pub fails_told : (t u : Table) (place : TablePlace) (program : Program) (message : Text) (i : Interruption) → tree_of u ≡ tree_of t → Interrupts i (λ r. r ≡ Completed (failing message)) →
    ((p : Path) (n : Node Own) (r : Reply) → Names t place p → tree_of t p ≡ Some n → Does (fails message) (tree_of t) p (tree_of t) r → Does program (tree_of t) p (tree_of t) r) →
    Interrupts i (EndsAt t place program (tree_of u))
fails_told t u place program message i same told leads = Interrupts-more i (λ r. r ≡ Completed (failing message)) (EndsAt t place program (tree_of u)) (λ r is p style at.
    let n = there t place p at.names in
    does_to program (tree_of t) (tree_of u) (tree_of t) p r same (leads p n.0 r at.names n.1 (refl, is))) told

abbrev count_rest : Option ℕ → Program
count_rest limit = either (interpreters.is_count_limit limit) (act (Limit limit) (λ T. done (ok []))) (fails (interpreters.bad_count (interpreters.limit_text limit)))

-- the root's limits aren't set
pub limit_denied : (t : Table) (place : TablePlace) (limit : Option ℕ) (i : Interruption) → ((p : Path) (n : Node Own) → Names t place p → tree_of t p ≡ Some n → n.root ≡ true) →
    Interrupts i (λ r. r ≡ Completed (failing interpreters.denied)) → Interrupts i (EndsAt t place (interpreters.limits limit) (tree_of t))
limit_denied t place limit i root told = fails_told t t place (interpreters.limits limit) interpreters.denied i refl told (λ p n r at is d.
    does_look (tree_of t) (tree_of t) p r n (λ m. either m.root (fails interpreters.denied) (count_rest limit)) is
    (does_true n.root (fails interpreters.denied) (count_rest limit) (tree_of t) (tree_of t) p r (root p n at is) d))

-- nor one that is past what can be counted
pub limit_refused : (t : Table) (place : TablePlace) (limit : Option ℕ) (i : Interruption) → ((p : Path) (n : Node Own) → Names t place p → tree_of t p ≡ Some n → n.root ≡ false) → programs.most_steps < unwrap_or limit 0 →
    Interrupts i (λ r. r ≡ Completed (failing (interpreters.bad_count (interpreters.limit_text limit)))) → Interrupts i (EndsAt t place (interpreters.limits limit) (tree_of t))
limit_refused t place limit i below past told = fails_told t t place (interpreters.limits limit) (interpreters.bad_count (interpreters.limit_text limit)) i refl told (λ p n r at is d.
    does_look (tree_of t) (tree_of t) p r n (λ m. either m.root (fails interpreters.denied) (count_rest limit)) is
    (does_false n.root (fails interpreters.denied) (count_rest limit) (tree_of t) (tree_of t) p r (below p n at is)
    (does_false (interpreters.is_count_limit limit) (act (Limit limit) (λ T. done (ok []))) (fails (interpreters.bad_count (interpreters.limit_text limit))) (tree_of t) (tree_of t) p r no d)))
  where
    no : interpreters.is_count_limit limit ≡ false
    no = grind (arith, nat_tests)

pub limit_set : (t u : Table) (place : TablePlace) (limit : Option ℕ) (text : Text) → text ≡ [] → ((p : Path) (n : Node Own) → Names t place p → tree_of t p ≡ Some n → n.root ≡ false) → unwrap_or limit 0 ≤ programs.most_steps →
    ((p : Path) → Names t place p → tree_of u ≡ effect p (Limited limit) (tree_of t)) → EndsAt t place (interpreters.limits limit) (tree_of u) (Completed (ok text))
limit_set t u place limit text none below fit set = λ p style at.
    let n = there t place p at.names in
    does_look (tree_of t) (tree_of u) p (Completed (ok text)) n.0 (λ m. either m.root (fails interpreters.denied) (count_rest limit)) n.1
    (does_false n.0.root (fails interpreters.denied) (count_rest limit) (tree_of t) (tree_of u) p (Completed (ok text)) (below p n.0 at.names n.1)
    (does_true (interpreters.is_count_limit limit) (act (Limit limit) (λ T. done (ok []))) (fails (interpreters.bad_count (interpreters.limit_text limit))) (tree_of t) (tree_of u) p (Completed (ok text)) yes
    (set p at.names, ap (λ (x : Text). Completed (ok x)) none)))
  where
    yes : interpreters.is_count_limit limit ≡ true
    yes = grind (arith, nat_tests)

abbrev depth_rest : ℕ → Program
depth_rest limit = either (interpreters.is_depth_limit limit) (act (LimitDepth limit) (λ T. done (ok (decimal limit)))) (fails (codes "recursion limit must be between 1 and 1000"))

limited_cases : (n : ℕ) → 1 ≤ n → n ≤ 1000 → interpreters.is_depth_limit n ≡ true
limited_cases n h k =
    let a : nat_le 1 n ≡ true = grind (arith, nat_tests) in
    let b : nat_le n 1000 ≡ true = grind (arith, nat_tests) in
    (λ i. a i && b i)

unlimited_cases : (n : ℕ) → (n ≡ 0) ⊎ (1000 < n) → interpreters.is_depth_limit n ≡ false
unlimited_cases n (inl h) = let a : nat_le 1 n ≡ false = grind (arith, nat_tests) in ap (λ (b : Bool). b && nat_le n 1000) a
unlimited_cases n (inr h) =
    let a : nat_le 1 n ≡ true = grind (arith, nat_tests) in
    let b : nat_le n 1000 ≡ false = grind (arith, nat_tests) in
    (λ i. a i && b i)

pub depth_denied : (t : Table) (place : TablePlace) (limit : ℕ) (i : Interruption) → ((p : Path) (n : Node Own) → Names t place p → tree_of t p ≡ Some n → n.root ≡ true) →
    Interrupts i (λ r. r ≡ Completed (failing interpreters.denied)) → Interrupts i (EndsAt t place (interpreters.limits_depth limit) (tree_of t))
depth_denied t place limit i root told = fails_told t t place (interpreters.limits_depth limit) interpreters.denied i refl told (λ p n r at is d.
    does_look (tree_of t) (tree_of t) p r n (λ m. either m.root (fails interpreters.denied) (depth_rest limit)) is
    (does_true n.root (fails interpreters.denied) (depth_rest limit) (tree_of t) (tree_of t) p r (root p n at is) d))

pub depth_set : (t u : Table) (place : TablePlace) (limit : ℕ) (text : Text) → text ≡ decimal limit → ((p : Path) → Names t place p → MayDeepen (tree_of t) p limit) →
    ((p : Path) → Names t place p → tree_of u ≡ effect p (DepthLimited limit) (tree_of t)) → EndsAt t place (interpreters.limits_depth limit) (tree_of u) (Completed (ok text))
depth_set t u place limit text written may set = λ p style at.
    let m = may p at.names in
    does_look (tree_of t) (tree_of u) p (Completed (ok text)) m.target (λ n. either n.root (fails interpreters.denied) (depth_rest limit)) m.there
    (does_false m.target.root (fails interpreters.denied) (depth_rest limit) (tree_of t) (tree_of u) p (Completed (ok text)) m.below_root
    (does_true (interpreters.is_depth_limit limit) (act (LimitDepth limit) (λ T. done (ok (decimal limit)))) (fails (codes "recursion limit must be between 1 and 1000")) (tree_of t) (tree_of u) p (Completed (ok text))
    (limited_cases limit m.least m.most) (set p at.names, ap (λ (x : Text). Completed (ok x)) written)))

pub depth_refused : (t u : Table) (place : TablePlace) (limit : ℕ) (e : TreeError) (i : Interruption) → (p : Path) × Names t place p → ((p : Path) (n : Node Own) → Names t place p → tree_of t p ≡ Some n → n.root ≡ false) →
    ((p : Path) → Names t place p → RefusesToDeepen e (tree_of t) p limit) → tree_of u ≡ tree_of t → Interrupts i (λ r. r ≡ Completed (failing (codes "recursion limit must be between 1 and 1000"))) →
    Interrupts i (EndsAt t place (interpreters.limits_depth limit) (tree_of u))
depth_refused t u place limit e i here below refuses same told = fails_told t u place (interpreters.limits_depth limit) (codes "recursion limit must be between 1 and 1000") i same told (λ p n r at is d.
    does_look (tree_of t) (tree_of t) p r n (λ m. either m.root (fails interpreters.denied) (depth_rest limit)) is
    (does_false n.root (fails interpreters.denied) (depth_rest limit) (tree_of t) (tree_of t) p r (below p n at is)
    (does_false (interpreters.is_depth_limit limit) (act (LimitDepth limit) (λ T. done (ok (decimal limit)))) (fails (codes "recursion limit must be between 1 and 1000")) (tree_of t) (tree_of t) p r
    (unlimited_cases limit (why p n at is e (refuses p at))) d)))
  where
    why : (p : Path) (n : Node Own) → Names t place p → tree_of t p ≡ Some n → (e : TreeError) → RefusesToDeepen e (tree_of t) p limit → (limit ≡ 0) ⊎ (1000 < limit)
    why p n at is refusal.Denied h = let clash : false ≡ true = sym (below p h.0 at h.1) ∙ h.2 in absurd cc
    why p n at is refusal.BadDepthLimit h = h.1
    why p n at is refusal.Memory h = elim h [ ]
    why p n at is refusal.BadName h = elim h [ ]
    why p n at is refusal.BadCount h = elim h [ ]
    why p n at is refusal.NoInterpreter h = elim h [ ]
    why p n at is refusal.Exists h = elim h [ ]
    why p n at is refusal.NoCommand h = elim h [ ]
    why p n at is refusal.NoHidden h = elim h [ ]
    why p n at is refusal.TooMany h = elim h [ ]
    why p n at is (refusal.CountLimit k) h = elim h [ ]
    why p n at is (refusal.DepthLimit k) h = elim h [ ]

-- ## Children

-- the interpreter where a change was made, and a child of it
changed_here : (T : Tree Own) (p : Path) (n : Node Own) (own : Own) → T p ≡ Some n → effect p (Changed own) T p ≡ Some (record n { own = own })
changed_here T p n own is = ap (λ (s : Option Path). at_end s (with_own own) (T p)) (ap (strip p) (sym (append-nil p)) ∙ strip_own p []) ∙ ap (with_own own) is

changed_child : (T : Tree Own) (p : Path) (name : Text) (own : Own) → effect p (Changed own) T (p ++ name ∷ []) ≡ T (p ++ name ∷ [])
changed_child T p name own = ap (λ (s : Option Path). at_end s (with_own own) (T (p ++ name ∷ []))) (strip_own p (name ∷ []))

-- a child of a safe interpreter is safe
safe_made : (name : Text) (a b : Bool) → ◌≡◌ {A = Deed Own} (Some name, Made (new_own (a || b)) (programs.either (a || b) b), On) (Some name, Made (new_own (programs.either a b)) (programs.either a b), On)
safe_made name true b = refl
safe_made name false true = refl
safe_made name false false = refl

makes_child : (T U : Tree Own) (p : Path) (name : Text) (safe : Bool) (n : Node Own) (r : Reply) → T p ≡ Some n → T (p ++ name ∷ []) ≡ None →
    U ≡ effect (p ++ name ∷ []) (Made (new_own (programs.either safe n.safe)) (programs.either safe n.safe)) (effect p (Changed (with_new_child name n.own)) T) → r ≡ Completed (ok []) →
    Does (interpreters.makes name (safe || n.safe) n.own) T p U r
makes_child T U p name safe n r is absent made e =
    let V : Tree Own = effect p (Changed (with_new_child name n.own)) T in
    let here : V p ≡ Some (record n { own = with_new_child name n.own }) = changed_here T p n (with_new_child name n.own) is in
    let none : V (p ++ name ∷ []) ≡ None = changed_child T p name (with_new_child name n.own) ∙ absent in
    let deed : making name (new_own (safe || n.safe)) (safe || n.safe) (V p) (V (p ++ name ∷ [])) ≡ (Some name, Made (new_own (programs.either safe n.safe)) (programs.either safe n.safe), On) =
    (λ i. making name (new_own (safe || n.safe)) (safe || n.safe) (here i) (none i)) ∙ safe_made name safe n.safe in
    (n, is, (made ∙ sym (ap (λ (d : Deed Own). effect (spot p d.0) d.1 V) deed), e))

abbrev after_child : Text → Bool → Node Own → Option (Node Own) → Program
after_child name safe n child = either (is_some child) (fails (interpreters.already_exists name)) (interpreters.creates_new name safe n)

abbrev if_few : Text → Bool → Node Own → Program
if_few name safe n = either (nat_le interpreters.most_children (length n.own.children)) (fails (codes "too many interpreters")) (interpreters.makes name (safe || n.safe) n.own)

abbrev if_free : Text → Bool → Node Own → Program
if_free name safe n = either (is_some (lookup (bytes_eq name) n.own.commands)) (fails (interpreters.already_exists name)) (if_few name safe n)

-- what follows where no child has the name
beside : (T V : Tree Own) (p : Path) (name : Text) (safe : Bool) (n : Node Own) (r : Reply) → T p ≡ Some n → T (p ++ name ∷ []) ≡ None → Does (interpreters.creates_new name safe n) T p V r → Does (interpreters.creates name safe) T p V r
beside T V p name safe n r is absent d =
    does_look T V p r n (λ m. act Look (λ U. after_child name safe m (U (name ∷ [])))) is
    (subst (λ (o : Option (Node Own)). Does (after_child name safe n o) T p V r) (sym absent) d)

pub created : (t u : Table) (place : TablePlace) (name : Text) (safe : Bool) (text : Text) → text ≡ [] → ((p : Path) → Names t place p → MayMake (tree_of t) p name) →
    ((p : Path) → Names t place p → Makes (tree_of t) (tree_of u) p name safe) → EndsAt t place (interpreters.creates name safe) (tree_of u) (Completed (ok text))
created t u place name safe text none may makes = λ p style at.
    let m = may p at.names in
    let few : nat_le 256 (length m.parent.own.children) ≡ false = let k = m.few in grind (arith, nat_tests) in
    let r : Reply = Completed (ok text) in
    beside (tree_of t) (tree_of u) p name safe m.parent r m.here m.absent
    (does_true (is_name name) (if_free name safe m.parent) (fails (bad_name name)) (tree_of t) (tree_of u) p r (is_name_same name ∙ m.named)
    (does_false (is_some (lookup (bytes_eq name) m.parent.own.commands)) (fails (interpreters.already_exists name)) (if_few name safe m.parent) (tree_of t) (tree_of u) p r (ap is_some m.free)
    (does_false (nat_le interpreters.most_children (length m.parent.own.children)) (fails (codes "too many interpreters")) (interpreters.makes name (safe || m.parent.safe) m.parent.own) (tree_of t) (tree_of u) p r few
    (makes_child (tree_of t) (tree_of u) p name safe m.parent r m.here m.absent (makes p at.names m.parent m.here) (ap (λ (x : Text). Completed (ok x)) none)))))

pub create_taken : (t : Table) (place : TablePlace) (name : Text) (safe : Bool) (i : Interruption) → ((p : Path) → Names t place p → is_some (tree_of t (p ++ name ∷ [])) ≡ true) →
    Interrupts i (λ r. r ≡ Completed (failing (interpreters.already_exists name))) → Interrupts i (EndsAt t place (interpreters.creates name safe) (tree_of t))
create_taken t place name safe i child told = fails_told t t place (interpreters.creates name safe) (interpreters.already_exists name) i refl told (λ p n r at is d.
    does_look (tree_of t) (tree_of t) p r n (λ m. act Look (λ U. after_child name safe m (U (name ∷ [])))) is
    (does_true (is_some (tree_of t (p ++ name ∷ []))) (fails (interpreters.already_exists name)) (interpreters.creates_new name safe n) (tree_of t) (tree_of t) p r (child p at) d))

pub some_there : {A : Type 0} (o : Option A) → IsSome o → is_some o ≡ true
some_there o h = h

module _ (t u : Table) (place : TablePlace) (name : Text) (safe : Bool) (absent : (p : Path) → Names t place p → tree_of t (p ++ name ∷ []) ≡ None) (same : tree_of u ≡ tree_of t) where
  fails_beside : (message : Text) (i : Interruption) → Interrupts i (λ r. r ≡ Completed (failing message)) →
      ((p : Path) (n : Node Own) (r : Reply) → Names t place p → tree_of t p ≡ Some n → Does (fails message) (tree_of t) p (tree_of t) r → Does (interpreters.creates_new name safe n) (tree_of t) p (tree_of t) r) →
      Interrupts i (EndsAt t place (interpreters.creates name safe) (tree_of u))
  fails_beside message i told leads = fails_told t u place (interpreters.creates name safe) message i same told (λ p n r at is d. beside (tree_of t) (tree_of t) p name safe n r is (absent p at) (leads p n r at is d))

  node_same : (p : Path) (n v : Node Own) → tree_of t p ≡ Some n → tree_of t p ≡ Some v → v ≡ n
  node_same p n v is h = same_Some _ _ (sym h ∙ is)

  pub create_refused : (e : TreeError) (i : Interruption) → (p : Path) × Names t place p → ((p : Path) → Names t place p → RefusesMake e (tree_of t) p name) → Tells e (making_text e name) i →
      Interrupts i (EndsAt t place (interpreters.creates name safe) (tree_of u))
  create_refused refusal.Memory i here refuses told = subst (λ (j : Interruption). Interrupts j (EndsAt t place (interpreters.creates name safe) (tree_of u))) (sym told) tt
  create_refused refusal.BadName i here refuses told = fails_beside (bad_name name) i told (λ p n r at is d.
      does_false (is_name name) (if_free name safe n) (fails (bad_name name)) (tree_of t) (tree_of t) p r (is_name_same name ∙ (refuses p at).1) d)
  create_refused refusal.Exists i here refuses told = fails_beside (interpreters.already_exists name) i told (λ p n r at is d. by p n r at is d (refuses p at))
    where
      by : (p : Path) (n : Node Own) (r : Reply) → Names t place p → tree_of t p ≡ Some n → Does (fails (interpreters.already_exists name)) (tree_of t) p (tree_of t) r → RefusesMake refusal.Exists (tree_of t) p name →
          Does (interpreters.creates_new name safe n) (tree_of t) p (tree_of t) r
      by p n r at is d h = taken h.3
        where
          taken : IsSome (command_in h.0.own name) ⊎ IsSome (tree_of t (p ++ name ∷ [])) → Does (interpreters.creates_new name safe n) (tree_of t) p (tree_of t) r
          taken (inl c) =
              does_true (is_name name) (if_free name safe n) (fails (bad_name name)) (tree_of t) (tree_of t) p r (is_name_same name ∙ h.2)
              (does_true (is_some (lookup (bytes_eq name) n.own.commands)) (fails (interpreters.already_exists name)) (if_few name safe n) (tree_of t) (tree_of t) p r
              (ap (λ (m : Node Own). is_some (lookup (bytes_eq name) m.own.commands)) (sym (node_same p n h.0 is h.1)) ∙ some_there (command_in h.0.own name) c) d)
          taken (inr c) = let clash : false ≡ true = sym (ap is_some (absent p at)) ∙ some_there (tree_of t (p ++ name ∷ [])) c in absurd cc
  create_refused refusal.TooMany i here refuses told = fails_beside (codes "too many interpreters") i told (λ p n r at is d.
      let h = refuses p at in
      let v = node_same p n h.0 is h.1 in
      let many : nat_le 256 (length h.0.own.children) ≡ true = let k = h.4 in grind (arith, nat_tests) in
      does_true (is_name name) (if_free name safe n) (fails (bad_name name)) (tree_of t) (tree_of t) p r (is_name_same name ∙ h.2)
      (does_false (is_some (lookup (bytes_eq name) n.own.commands)) (fails (interpreters.already_exists name)) (if_few name safe n) (tree_of t) (tree_of t) p r
      (ap (λ (m : Node Own). is_some (lookup (bytes_eq name) m.own.commands)) (sym v) ∙ ap is_some h.3)
      (does_true (nat_le interpreters.most_children (length n.own.children)) (fails (codes "too many interpreters")) (interpreters.makes name (safe || n.safe) n.own) (tree_of t) (tree_of t) p r
      (ap (λ (m : Node Own). nat_le 256 (length m.own.children)) (sym v) ∙ many) d)))
  create_refused refusal.NoInterpreter i here refuses told = let n = there t place here.0 here.1 in let clash : None ≡ Some n.0 = sym (refuses here.0 here.1) ∙ n.1 in absurd cc
  create_refused refusal.BadCount i here refuses told = elim (refuses here.0 here.1) [ ]
  create_refused refusal.Denied i here refuses told = elim (refuses here.0 here.1) [ ]
  create_refused refusal.NoCommand i here refuses told = elim (refuses here.0 here.1) [ ]
  create_refused refusal.NoHidden i here refuses told = elim (refuses here.0 here.1) [ ]
  create_refused (refusal.CountLimit n) i here refuses told = elim (refuses here.0 here.1) [ ]
  create_refused (refusal.DepthLimit n) i here refuses told = elim (refuses here.0 here.1) [ ]
  create_refused refusal.BadDepthLimit i here refuses told = elim (refuses here.0 here.1) [ ]

-- ## Deleting

drops_child : {S : Type 0} {goes : Going S} {language : programs.Table Own Instr} {T U : Tree Own} {o z : S} {p : Path} {name : Text} {n c : Node Own} {r : Reply} → T p ≡ Some n → T (p ++ name ∷ []) ≡ Some c →
    U ≡ effect (p ++ name ∷ []) Dropped (effect p (Changed (without_old_child name n.own)) T) → ((X : Tree Own) → goes X o None (event (p ++ name ∷ []) Dropped) z) → r ≡ Completed (ok []) → Comes goes language T o p (interpreters.deletes name) U z r
drops_child {T = T} {p = p} {name = name} {n = n} is child dropped told e =
    looks {k = λ m. act Look (λ V. interpreters.drops name m.own (V (name ∷ [])))} is
    (sees_below {k = λ V. interpreters.drops name n.own (V (name ∷ []))} (at_prog (ap (interpreters.drops name n.own) child)
    (changes is refl (drops {k = λ V. done (ok [])} (changed_child T p name (without_old_child name n.own) ∙ child) dropped (told _) (at_reply e completed)))))

-- a child is dropped, of which the outside is told
pub deleted : {S : Type 0} (goes : Going S) (t u : Table) (o z : S) (place : TablePlace) (name : Text) (text : Text) → text ≡ [] → ((p : Path) → Names t place p → IsSome (tree_of t (p ++ name ∷ []))) →
    ((p : Path) → Names t place p → Drops (tree_of t) (tree_of u) p name) →
    ((p : Path) → Names t place p → Names u place p) → ((X : Tree Own) (p : Path) → Names u place p → goes X o None (event (p ++ name ∷ []) Dropped) z) → EvaluatesAt goes t o place (λ style. interpreters.deletes name) u z (Ok text)
deleted goes t u o z place name text none stays drops kept told = λ p style at.
    let n = there t place p at.names in
    let c = stands (tree_of t (p ++ name ∷ [])) (some_there (tree_of t (p ++ name ∷ [])) (stays p at.names)) in
    drops_child n.1 c.1 (drops p at.names n.0 n.1) (λ X. told X p (kept p at.names)) (ap (λ (x : Text). Completed (ok x)) none)

-- none is there
pub delete_refused : (t u : Table) (place : TablePlace) (name : Text) (e : TreeError) (i : Interruption) → (p : Path) × Names t place p → ((p : Path) → Names t place p → RefusesDrop e (tree_of t) p name) → tree_of u ≡ tree_of t →
    Interrupts i (λ r. r ≡ Completed (failing (interpreters.no_interpreter (written_list (name ∷ []))))) → Interrupts i (EndsAt t place (interpreters.deletes name) (tree_of u))
delete_refused t u place name e i here refuses same told = by e refuses
  where
    by : (e : TreeError) → ((p : Path) → Names t place p → RefusesDrop e (tree_of t) p name) → Interrupts i (EndsAt t place (interpreters.deletes name) (tree_of u))
    by refusal.NoInterpreter h = fails_told t u place (interpreters.deletes name) (interpreters.no_interpreter (written_list (name ∷ []))) i same told (λ p n r at is d.
        does_look (tree_of t) (tree_of t) p r n (λ m. act Look (λ U. interpreters.drops name m.own (U (name ∷ [])))) is
        (subst (λ (o : Option (Node Own)). Does (interpreters.drops name n.own o) (tree_of t) p (tree_of t) r) (sym (h p at)) d))
    by refusal.Memory h = elim (h here.0 here.1) [ ]
    by refusal.BadName h = elim (h here.0 here.1) [ ]
    by refusal.BadCount h = elim (h here.0 here.1) [ ]
    by refusal.Exists h = elim (h here.0 here.1) [ ]
    by refusal.Denied h = elim (h here.0 here.1) [ ]
    by refusal.NoCommand h = elim (h here.0 here.1) [ ]
    by refusal.NoHidden h = elim (h here.0 here.1) [ ]
    by refusal.TooMany h = elim (h here.0 here.1) [ ]
    by (refusal.CountLimit n) h = elim (h here.0 here.1) [ ]
    by (refusal.DepthLimit n) h = elim (h here.0 here.1) [ ]
    by refusal.BadDepthLimit h = elim (h here.0 here.1) [ ]

-- ## Ends that are passed on

pub passed_acts : (t u : Table) (place : TablePlace) (x : Program) (r : Result Text Interruption) (i y : Interruption) → r ≡ Err y → y ≡ i → Interrupts i (EndsAt t place x (tree_of u)) → Acts t place (λ style. x) u r
passed_acts t u place x r i y e same h = subst (λ (z : Result Text Interruption). Acts t place (λ style. x) u z) (sym (e ∙ ap Err same)) h

-- a name that no command can have
pub renaming_bad : (t : Table) (place : TablePlace) (f : Own → language.Named) (x : Text) (i : Interruption) → ((p : Path) (n : Node Own) → Names t place p → tree_of t p ≡ Some n → command_name x ≡ None → f n.own ≡ Err (refusal.BadName, x)) →
    Interrupts i (λ e. (command_name x ≡ None) × (e ≡ Completed (failing (bad_name x)))) → Interrupts i (EndsAt t place (renaming done_so f) (tree_of t))
renaming_bad t place f x i bad told = Interrupts-more i (λ e. (command_name x ≡ None) × (e ≡ Completed (failing (bad_name x)))) (EndsAt t place (renaming done_so f) (tree_of t)) (λ r h p style at.
    let n = there t place p at.names in
    does_look (tree_of t) (tree_of t) p r n.0 (λ m. or_fails refused_text (f m.own) (λ own. change own done_so)) n.1
    (does_fail (tree_of t) p refused_text (f n.0.own) (λ own. change own done_so) r
    (subst (λ (y : language.Named). IsFailure refused_text y r) (sym (bad p n.0 at.names n.1 h.0)) h.1))) told

-- a child that is given no name
pub create_unnamed : (t u : Table) (place : TablePlace) (name : Text) (safe : Bool) (r : Result Text Interruption) → ((p : Path) (n : Node Own) → Names t place p → tree_of t p ≡ Some n → name ≡ interpreters.free_name n.own) →
    Acts t place (λ style. interpreters.creates name safe) u r → Acts t place (λ style. look (λ n. interpreters.creates (interpreters.free_name n.own) safe)) u r
create_unnamed t u place name safe r named acts = IfEnded-more r (EndsAt t place (interpreters.creates name safe) (tree_of u)) (EndsAt t place (look (λ n. interpreters.creates (interpreters.free_name n.own) safe)) (tree_of u)) (λ e d p style at.
    let n = there t place p at.names in
    does_look (tree_of t) (tree_of u) p e n.0 (λ m. interpreters.creates (interpreters.free_name m.own) safe) n.1
    (subst (λ (x : Text). Does (interpreters.creates x safe) (tree_of t) p (tree_of u) e) (named p n.0 at.names n.1) (d p style at))) acts

-- ## Questions

pub answered : (t : Table) (place : TablePlace) (q : Question) (text : Text) (r : Result Text Interruption) → ((p : Path) (n : Node Own) → Names t place p → tree_of t p ≡ Some n → interpreters.answer q n ≡ Ok text) →
    IfOk r (λ v. (v ≡ text) × (fits text ≡ true)) → IfErr r (λ i. Interrupts i (λ e. (fits text ≡ false) × (e ≡ Completed too_long))) → Acts t place (λ style. interpreters.answers q) t r
answered t place q text (Ok v) is whole refused = λ p style at.
    let n = there t place p at.names in
    does_look (tree_of t) (tree_of t) p (Completed (ok v)) n.0 (λ m. or_fails itself (interpreters.answer q m) gives) n.1
    (does_read (tree_of t) (tree_of t) p (Completed (ok v)) itself (interpreters.answer q n.0) text gives (is p n.0 at.names n.1) (
      refl,
      ap (λ (x : Text). Completed (ok x)) whole.0 ∙ sym (ap (λ (b : Bool). Completed (either b (ok text) too_long)) whole.1),
    ))
answered t place q text (Err i) is whole refused = Interrupts-more i (λ e. (fits text ≡ false) × (e ≡ Completed too_long)) (EndsAt t place (interpreters.answers q) (tree_of t)) (λ e h p style at.
    let n = there t place p at.names in
    does_look (tree_of t) (tree_of t) p e n.0 (λ m. or_fails itself (interpreters.answer q m) gives) n.1
    (does_read (tree_of t) (tree_of t) p e itself (interpreters.answer q n.0) text gives (is p n.0 at.names n.1) (
      refl,
      h.1 ∙ sym (ap (λ (b : Bool). Completed (either b (ok text) too_long)) h.0),
    ))) refused

-- a question that is refused
pub unanswered : (t : Table) (place : TablePlace) (q : Question) (view : Node Own) (r : Result Text Interruption) (i y : Interruption) → r ≡ Err y → y ≡ i → ((p : Path) (n : Node Own) → Names t place p → tree_of t p ≡ Some n → view ≡ n) →
    Interrupts i (IsFailure itself (interpreters.answer q view)) → Acts t place (λ style. interpreters.answers q) t r
unanswered t place q view r i y e same is h = passed_acts t t place (interpreters.answers q) r i y e same (Interrupts-more i (IsFailure itself (interpreters.answer q view)) (EndsAt t place (interpreters.answers q) (tree_of t)) (λ e f p style at.
    let n = there t place p at.names in
    does_look (tree_of t) (tree_of t) p e n.0 (λ m. or_fails itself (interpreters.answer q m) gives) n.1
    (does_fail (tree_of t) p itself (interpreters.answer q n.0) gives e (subst (λ (v : Node Own). IsFailure itself (interpreters.answer q v) e) (is p n.0 at.names n.1) f))) h)
