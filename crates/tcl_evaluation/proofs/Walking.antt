-- What loops over lists come to.
use Rattle.std.proofs.Common.{◌≡◌, ℕ, zero, suc, ℤ, pos, ◌+◌, ◌*◌, ◌≤◌, Bool, true, false, List, [], ◌∷◌, ◌++◌, length, drop, map, Option, Some, None, refl, sym, ◌∙◌, ap, arith, append-nil}
use Rattle.std.specs.Prelude.{Result, Ok, Err}
use Rattle.std.proofs.Math.Seq.{drop-nil}
use Rattle.tcl_core.specs.Endings.{Completion, Reply, error}
use Rattle.tcl_core.specs.Endings.Reply.{Completed}
use Rattle.tcl_core.specs.Runs.{Ending}
use Rattle.tcl_core.specs.Paths.{Text, Path}
use Rattle.tcl_core.specs.Programs.Act.{Charge}
use Rattle.tcl_core.specs.Programs.Prog.{done, act, go}
use Rattle.tcl_core.specs.Trees.{Tree, Node, effect}
use Rattle.tcl_core.specs.Trees.What.{Changed}
use Rattle.tcl_frames.specs.Chain.{Chain, after_set}
use Rattle.tcl_language.specs.Control.{after_body, foreach, foreach_form, foreach_turns, is_over, lmap, lmap_form, lmap_turns, loops, sets_names, sets_walks, walks_of}
use Rattle.tcl_language.specs.Faults.{frame_message, wrong_args}
use Rattle.tcl_language.specs.Instructions.{Program, Walk, at_node, change, either, fails, fits, too_long, with_chain}
use Rattle.tcl_language.specs.Instructions.Instr.{Script, Foreach, Lmap}
use Rattle.tcl_language.specs.Pairing.{dict_for}
use Rattle.tcl_run.specs.Language.{language}
use Rattle.tcl_language.specs.Variables.{chain_becomes, is_odd, sets}
use Rattle.tcl_run.specs.Ends.{failing}
use Rattle.tcl_run.specs.Plain.{Does}
use Rattle.tcl_run.specs.Runs.{Counts, Proceeds, RefusesStep, Ways}
use Rattle.tcl_run.proofs.Proceeding.{at_prog, at_reply, at_start, changes, charges, charge_refused, completed, does_proceeds, goes_done, looks, reads_on, stopped}
use Rattle.tcl_text.specs.declared.integer.Integers.{Integers}
use Rattle.tcl_tree.specs.Own.{Own}
use Rattle.tcl_frames.specs.declared.fault.FrameFault.{FrameFault}
use Rattle.tcl_calls.specs.Walks.{whole, walk_at, walks_at, IsLoop, IsNoLoop, MisreadsWalks, ReadsDictLoop, ReadsWalks}
use Rattle.tcl_calls.specs.declared.walks.Walk as read
use Rattle.tcl_evaluation.proofs.Conditions.{ends_by}

-- ## Variables that are set one after another

-- From T the variable is set, and then U is there.
abbrev pub Sets : Text → Text → Tree Own → Tree Own → Path → Type 0
Sets name value T U p = (n : Node Own) × (chain : Chain) × (T p ≡ Some n) × (after_set n.own.chain name value ≡ Ok chain) × (U ≡ effect p (Changed (with_chain n.own chain)) T)

abbrev pub SetsNames : List Text → List Text → Tree Own → Tree Own → Path → Type 0
SetsNames [] left T U p = U ≡ T
SetsNames (name ∷ names) [] T U p = (M : Tree Own) × Sets name [] T M p × SetsNames names [] M U p
SetsNames (name ∷ names) (x ∷ left) T U p = (M : Tree Own) × Sets name x T M p × SetsNames names left M U p

abbrev pub SetsWalks : List Walk → Tree Own → Tree Own → Path → Type 0
SetsWalks [] T U p = U ≡ T
SetsWalks (walk ∷ walks) T U p = (M : Tree Own) × SetsNames walk.names walk.left T M p × SetsWalks walks M U p

-- a completion in which no setting of a variable ends
abbrev pub marked : Completion
marked = record { code = pos 7; text = []; options = record { code = pos 7; level = 0; errorcode = [] } }

abbrev code_of : Reply → ℤ
code_of (Completed c) = c.code
code_of r = pos 0

abbrev Through : Program → (Tree Own → Type 0) → Tree Own → Path → Type 0
Through x P V p = (U : Tree Own) × P U × Does x U p V (Completed marked)

pub not_failing : (b : Bool) (text : Text) → Completed marked ≡ Completed (either b (error text) too_long) → ⊥
not_failing true text e = let f : pos 7 ≡ pos 1 = ap code_of e in cc
not_failing false text e = let f : pos 7 ≡ pos 1 = ap code_of e in cc

pub set_through : (name value : Text) (x : Program) (T V : Tree Own) (p : Path) → Does (sets name value x) T p V (Completed marked) → Through x (λ U. Sets name value T U p) V p
set_through name value x T V p d = by (T (p ++ [])) refl d
  where
    given : (n : Node Own) (g : Result Chain FrameFault) → T p ≡ Some n → after_set n.own.chain name value ≡ g → Does (chain_becomes n.own g x) T p V (Completed marked) → Through x (λ U. Sets name value T U p) V p
    given n (Ok chain) there e d = (effect p (Changed (with_chain n.own chain)) T, (n, chain, there, e, refl), d.2)
    given n (Err f) there e d = absurd (not_failing (fits (frame_message f)) (frame_message f) d.1)

    by : (o : Option (Node Own)) → T (p ++ []) ≡ o → Does (at_node (λ n. chain_becomes n.own (after_set n.own.chain name value) x) o) T p V (Completed marked) → Through x (λ U. Sets name value T U p) V p
    by None e d = let f : pos 7 ≡ pos 0 = ap code_of d.1 in cc
    by (Some n) e d = given n (after_set n.own.chain name value) (ap T (sym (append-nil p)) ∙ e) refl d

names_through : (names left : List Text) (x : Program) (T V : Tree Own) (p : Path) → Does (sets_names names left (λ more. x)) T p V (Completed marked) → Through x (λ U. SetsNames names left T U p) V p
names_through [] left x T V p d = (T, refl, d)
names_through (name ∷ names) [] x T V p d =
    let s = set_through name [] (sets_names names [] (λ more. x)) T V p d in
    let t = names_through names [] x s.0 V p s.2 in
    (t.0, (s.0, s.1, t.1), t.2)
names_through (name ∷ names) (y ∷ left) x T V p d =
    let s = set_through name y (sets_names names left (λ more. x)) T V p d in
    let t = names_through names left x s.0 V p s.2 in
    (t.0, (s.0, s.1, t.1), t.2)

walks_through : (walks : List Walk) (T V : Tree Own) (p : Path) → Does (sets_walks walks (λ more. done marked)) T p V (Completed marked) → SetsWalks walks T V p
walks_through [] T V p d = d.0
walks_through (walk ∷ walks) T V p d =
    let s = names_through walk.names walk.left (sets_walks walks (λ more. done marked)) T V p d in
    (s.0, s.1, walks_through walks s.0 V p s.2)

-- variables that a step of its own set
pub walks_set : (walks : List Walk) (T U : Tree Own) (p : Path) → ((k : Program) (V : Tree Own) (r : Reply) → Does k U p V r → Does (sets_walks walks (λ more. k)) T p V r) → SetsWalks walks T U p
walks_set walks T U p steps = walks_through walks T U p (steps (done marked) U (Completed marked) (refl, refl))

-- ## What is left behind a turn

abbrev pub passed : Walk → Walk
passed w = record { names = w.names; left = drop (length w.names) w.left }

names_pass : (names left : List Text) (k : List Text → Program) → sets_names names left k ≡ sets_names names left (λ more. k (drop (length names) left))
names_pass [] left k = refl
names_pass (name ∷ names) [] k = ap (sets name []) (names_pass names [] k ∙ ap (λ (more : List Text). sets_names names [] (λ left. k more)) (drop-nil (length names)))
names_pass (name ∷ names) (x ∷ left) k = ap (sets name x) (names_pass names left k)

pub walks_pass : (walks : List Walk) (k : List Walk → Program) → sets_walks walks k ≡ sets_walks walks (λ more. k (map passed walks))
walks_pass [] k = refl
walks_pass (walk ∷ walks) k =
    names_pass walk.names walk.left (λ left. sets_walks walks (λ more. k (record { names = walk.names; left = left } ∷ more)))
    ∙ ap (λ (x : Program). sets_names walk.names walk.left (λ left. x)) (walks_pass walks (λ more. k (passed walk ∷ more)))

-- ## The lists before the first turn, and from turn to turn

drop_both : (n m : ℕ) (xs : List Text) → drop n (drop m xs) ≡ drop (m + n) xs
drop_both n m [] = ap (drop n) (drop-nil m) ∙ drop-nil n ∙ sym (drop-nil (m + n))
drop_both n zero (x ∷ xs) = let e : n ≡ 0 + n = omega arith in ap (λ k. drop k (x ∷ xs)) e
drop_both n (suc m) (x ∷ xs) = let e : suc (m + n) ≡ suc m + n = omega arith in drop_both n m xs ∙ ap (λ k. drop k (x ∷ xs)) e

walk_first : (w : read.Walk) → walk_at 0 w ≡ whole w
walk_first w = let n : 0 * length w.names ≡ 0 = omega arith in ap (λ m. record { names = w.names; left = drop m w.elements }) n

pub walks_first : (ws : List read.Walk) → walks_at 0 ws ≡ map whole ws
walks_first [] = refl
walks_first (w ∷ ws) = λ i. walk_first w i ∷ walks_first ws i

walk_next : (t : ℕ) (w : read.Walk) → passed (walk_at t w) ≡ walk_at (t + 1) w
walk_next t w =
    let n : t * length w.names + length w.names ≡ (t + 1) * length w.names = omega arith in
    ap (λ (x : List Text). record { names = w.names; left = x }) (drop_both (length w.names) (t * length w.names) w.elements ∙ ap (λ m. drop m w.elements) n)

pub walks_next : (t : ℕ) (ws : List read.Walk) → map passed (walks_at t ws) ≡ walks_at (t + 1) ws
walks_next t [] = refl
walks_next t (w ∷ ws) = λ i. walk_next t w i ∷ walks_next t ws i

-- ## The words of a loop

odd_more : {A : Type 0} (xs : List A) (x : A) → is_odd xs ≡ false → is_odd (xs ++ x ∷ []) ≡ true
odd_more [] x h = refl
odd_more (a ∷ []) x h = let clash : true ≡ false = h in cc
odd_more (a ∷ b ∷ xs) x h = odd_more xs x h

pub loop_is : (form : Text) (k : List Walk → Text → Program) (args words : List Text) (body : Text) → IsLoop args words body → loops form args k ≡ walks_of form (words ++ body ∷ []) [] k
loop_is form k args words body h = ap (λ ws. loops form ws k) h.0 ∙ by words h.1 h.2
  where
    by : (ws : List Text) → is_odd ws ≡ false → 2 ≤ length ws → loops form (ws ++ body ∷ []) k ≡ walks_of form (ws ++ body ∷ []) [] k
    by [] e l = absurd (omega arith)
    by (a ∷ []) e l = absurd (omega arith)
    by (a ∷ b ∷ ws) e l = ap (λ t. either t (walks_of form (a ∷ b ∷ (ws ++ body ∷ [])) [] k) (fails (wrong_args form))) (odd_more ws body e)

-- a turn, or what the loop comes to where none is left
abbrev pub turn_of : List Walk → Program → (List Walk → Program) → Program
turn_of walks over after = either (is_over walks) over (act Charge (λ T. sets_walks walks after))

-- what comes behind the variables of a turn
abbrev pub body_then : Text → List Walk → Program
body_then body walks = go (Script body) (λ c. after_body c.code c (go (Foreach walks body) done))

module _ {S : Type 0} {ways : Ways S} (style : Integers) where
  pub foreach_begins : {T V : Tree Own} {o z : S} {p : Path} {r : Ending} (args words : List Text) (body : Text) (ws : List read.Walk) → IsLoop args words body → ReadsWalks words ws →
      Proceeds ways (language style) T o p (foreach_turns (walks_at 0 ws) body) V z r → Proceeds ways (language style) T o p (foreach args) V z r
  foreach_begins args words body ws h read t =
      at_prog (loop_is foreach_form (λ walks text. go (Foreach walks text) done) args words body h ∙ read foreach_form body (λ walks text. go (Foreach walks text) done))
      (goes_done {i = Foreach (map whole ws) body} (at_prog (ap (λ (x : List Walk). foreach_turns x body) (sym (walks_first ws))) t))

  pub dict_begins : {T V : Tree Own} {o z : S} {p : Path} {r : Ending} (args : List Text) (body : Text) (ws : List read.Walk) → ReadsDictLoop args ws body →
      Proceeds ways (language style) T o p (foreach_turns (walks_at 0 ws) body) V z r → Proceeds ways (language style) T o p (dict_for args) V z r
  dict_begins args body ws read t =
      at_prog (read (λ walks text. go (Foreach walks text) done)) (goes_done {i = Foreach (map whole ws) body} (at_prog (ap (λ (x : List Walk). foreach_turns x body) (sym (walks_first ws))) t))

  pub lmap_begins : {T V : Tree Own} {o z : S} {p : Path} {r : Ending} (args words : List Text) (body : Text) (ws : List read.Walk) → IsLoop args words body → ReadsWalks words ws →
      Proceeds ways (language style) T o p (lmap_turns (walks_at 0 ws) body []) V z r → Proceeds ways (language style) T o p (lmap args) V z r
  lmap_begins args words body ws h read t =
      at_prog (loop_is lmap_form (λ walks text. go (Lmap walks text []) done) args words body h ∙ read lmap_form body (λ walks text. go (Lmap walks text []) done))
      (goes_done {i = Lmap (map whole ws) body []} (at_prog (ap (λ (x : List Walk). lmap_turns x body []) (sym (walks_first ws))) t))

  pub loop_misread : {T : Tree Own} {o : S} {p : Path} (form : Text) (k : List Walk → Text → Program) (args words : List Text) (body : Text) (e : Reply) → IsLoop args words body → MisreadsWalks form words e →
      Proceeds ways (language style) T o p (loops form args k) T o (Some e)
  loop_misread form k args words body e h misread = at_prog (loop_is form k args words body h) (ends_by style _ e (misread body k))

  pub loop_none : {T : Tree Own} {o : S} {p : Path} {r : Reply} (form : Text) (k : List Walk → Text → Program) (args : List Text) → IsNoLoop args → r ≡ Completed (failing (wrong_args form)) →
      Proceeds ways (language style) T o p (loops form args k) T o (Some r)
  loop_none form k args none e = at_prog (none form k) (at_reply e completed)

  -- ## The variables of a turn

  pub set_comes : {T U V : Tree Own} {o z : S} {p : Path} {r : Ending} (name value : Text) (k : Program) → Sets name value T U p → Proceeds ways (language style) U o p k V z r → Proceeds ways (language style) T o p (sets name value k) V z r
  set_comes name value k s t = looks s.2 (reads_on frame_message (λ chain. change (with_chain s.0.own chain) k) s.3 (changes s.2 s.4 t))

  names_come : {U V : Tree Own} {o z : S} {p : Path} {r : Ending} (names left : List Text) (T : Tree Own) (k : Program) → SetsNames names left T U p → Proceeds ways (language style) U o p k V z r →
      Proceeds ways (language style) T o p (sets_names names left (λ more. k)) V z r
  names_come [] left T k s t = at_start s t
  names_come (name ∷ names) [] T k s t = set_comes name [] (sets_names names [] (λ more. k)) s.1 (names_come names [] s.0 k s.2 t)
  names_come (name ∷ names) (x ∷ left) T k s t = set_comes name x (sets_names names left (λ more. k)) s.1 (names_come names left s.0 k s.2 t)

  walks_come : {U V : Tree Own} {o z : S} {p : Path} {r : Ending} (walks : List Walk) (T : Tree Own) (k : Program) → SetsWalks walks T U p → Proceeds ways (language style) U o p k V z r →
      Proceeds ways (language style) T o p (sets_walks walks (λ more. k)) V z r
  walks_come [] T k s t = at_start s t
  walks_come (walk ∷ walks) T k s t = names_come walk.names walk.left T (sets_walks walks (λ more. k)) s.1 (walks_come walks s.0 k s.2 t)

  -- ## Turns

  pub turn_begins : {T U M V : Tree Own} {o u z : S} {p : Path} {r : Ending} (walks : List Walk) (over : Program) (after : List Walk → Program) → is_over walks ≡ false → Counts ways.goes T o p U u → SetsWalks walks U M p →
      Proceeds ways (language style) M u p (after (map passed walks)) V z r → Proceeds ways (language style) T o p (turn_of walks over after) V z r
  turn_begins {U = U} walks over after e counts s t =
      at_prog (ap (λ b. either b over (act Charge (λ X. sets_walks walks after))) e) (charges counts (at_prog (walks_pass walks after) (walks_come walks U (after (map passed walks)) s t)))

  pub turn_over : {T V : Tree Own} {o z : S} {p : Path} {r : Ending} (walks : List Walk) (over : Program) (after : List Walk → Program) → is_over walks ≡ true →
      Proceeds ways (language style) T o p over V z r → Proceeds ways (language style) T o p (turn_of walks over after) V z r
  turn_over walks over after e t = at_prog (ap (λ b. either b over (act Charge (λ X. sets_walks walks after))) e) t

  pub turn_stops : {T U : Tree Own} {o z : S} {p : Path} {r : Reply} (walks : List Walk) (over : Program) (after : List Walk → Program) → is_over walks ≡ false → RefusesStep ways.goes T o p U z r →
      Proceeds ways (language style) T o p (turn_of walks over after) U z (Some r)
  turn_stops walks over after e s = at_prog (ap (λ b. either b over (act Charge (λ X. sets_walks walks after))) e) (charge_refused s)

  -- a variable of the turn can't be set
  pub turn_fails : {T U V : Tree Own} {o u : S} {p : Path} {r : Reply} (walks : List Walk) (over : Program) (after : List Walk → Program) → is_over walks ≡ false → Counts ways.goes T o p U u →
      ((k : Program) → Does (sets_walks walks (λ more. k)) U p V r) → Proceeds ways (language style) T o p (turn_of walks over after) V u (Some r)
  turn_fails {u = u} walks over after e counts d =
      at_prog (ap (λ b. either b over (act Charge (λ X. sets_walks walks after))) e)
      (charges counts (at_prog (walks_pass walks after) (does_proceeds (sets_walks walks (λ more. after (map passed walks))) u (d (after (map passed walks))))))

  -- it is given up once the turn is counted
  pub turn_given_up : {T U V : Tree Own} {o u : S} {p : Path} (walks : List Walk) (over : Program) (after : List Walk → Program) → is_over walks ≡ false → Counts ways.goes T o p U u →
      Proceeds ways (language style) T o p (turn_of walks over after) V u None
  turn_given_up walks over after e counts = at_prog (ap (λ b. either b over (act Charge (λ X. sets_walks walks after))) e) (charges counts stopped)
