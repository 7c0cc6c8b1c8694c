-- What the table does, in the words of the core.
use Rattle.std.proofs.Common.{◌≡◌, ◌⊎◌, ℕ, suc, ◌-◌, ◌<◌, ◌≤◌, Bool, true, false, cond, [], ◌∷◌, ◌++◌, length, take, refl, sym, ◌∙◌, ap, inl, inr, arith, Option, Some, None, ◌&&◌}
use Rattle.std.specs.Prelude.{◌≢◌, is_some, Result, Ok, Err, OnOk, OnErr, IfErr, IfSome, IfNone}
use Rattle.std.specs.Option.{option_map, option_map_or}
use Rattle.std.specs.Str.{bytes_eq}
use Rattle.tcl_core.specs.Paths.{same, strip, guarded}
use Rattle.tcl_core.specs.Trees.{on_node, on_line, on_some, at_end, where_some}
use Rattle.tcl_core.specs.Programs.{blocked, nearer}
use Rattle.tcl_core.specs.Programs as programs
use Rattle.tcl_core.proofs.PathLaws.{strip-sound, strip_own}
use Rattle.tcl_interpreter.specs.Paths.{Text, Path, is_above, ancestor, with_node}
use Rattle.tcl_tree.specs.Nodes.{NodeView, NoneFull, IsNearestFull, charged, full_up}
use Rattle.tcl_tree.specs.declared.tree.Tree.{Tree as Table}
use Rattle.slab.specs.Slab.{get}
use Rattle.tcl_tree.specs.TreeOf.{tree_of, key_of}
use Rattle.tcl_tree.proofs.HeapLemmas.{tree-at, tree-none, follow-nil}
use Rattle.tcl_tree.proofs.StepLemmas.{some_there, leads_somewhere}
use Rattle.tcl_interpreter.proofs.PathLemmas.{path_cases, same_is}

pub above_is : (q p : Path) → is_above q p ≡ is_some (strip q p)
unfolding is_above
above_is [] p = refl
above_is (x ∷ q) [] = refl
above_is (x ∷ q) (y ∷ p) = by (bytes_eq x y) (same x y) (same_is x y) (strip q p) (is_above q p) (above_is q p)
  where
    by : (b d : Bool) → d ≡ b → (o : Option Path) (e : Bool) → e ≡ is_some o → (b && e) ≡ is_some (guarded d o)
    by true true f o e g = g
    by false false f o e g = refl
    by true false f o e g = let x : false ≡ true = f in cc
    by false true f o e g = let x : true ≡ false = f in cc

pub on_some_is : (g : NodeView → NodeView) (o : Option NodeView) → option_map g o ≡ on_some g o
on_some_is g None = refl
on_some_is g (Some n) = refl

-- a climb is a change of a line
pub line_is : (once : NodeView → NodeView) (f : Path → Option NodeView) (p q : Path) → charged once f p q ≡ on_line p (on_some once) f q
unfolding charged
line_is once f p q = by (strip q p) (is_above q p) (above_is q p)
  where
    by : (o : Option Path) (b : Bool) → b ≡ is_some o → cond b (option_map once (f q)) (f q) ≡ where_some o (on_some once) (f q)
    by None true e = let x : true ≡ false = e in cc
    by None false e = refl
    by (Some a) true e = on_some_is once (f q)
    by (Some a) false e = let x : false ≡ true = e in cc

-- a write is a change of a node
pub node_is : (once : NodeView → NodeView) (f : Path → Option NodeView) (p q : Path) → with_node f p (option_map once (f p)) q ≡ on_node p (on_some once) f q
unfolding with_node
node_is once f p q = elim (path_cases q p) [
  | inl w ↦
      ap (λ b. cond b (option_map once (f p)) (f q)) w.1
      ∙ on_some_is once (f p)
      ∙ sym (ap (λ o. at_end o (on_some once) (f q)) (ap (strip p) (w.0 ∙ sym (append_nil p)) ∙ strip_own p []) ∙ ap (λ r. on_some once (f r)) w.0)
  | inr w ↦ ap (λ b. cond b (option_map once (f p)) (f q)) w.1 ∙ sym (by (strip p q) refl w.0)
]
  where
    append_nil : (p : Path) → p ++ [] ≡ p
    append_nil [] = refl
    append_nil (x ∷ p) = ap (λ r. x ∷ r) (append_nil p)

    by : (o : Option Path) → strip p q ≡ o → q ≢ p → at_end o (on_some once) (f q) ≡ f q
    by None e n = refl
    by (Some []) e n = absurd (n (strip-sound p q [] e ∙ append_nil p))
    by (Some (x ∷ xs)) e n = refl

full_at_is : (full : NodeView → Bool) (o : Option NodeView) → programs.full_at full o ≡ option_map_or full o false
full_at_is full None = refl
full_at_is full (Some n) = refl

up_more : (full : NodeView → Bool) (f : Path → Option NodeView) (x : Text) (xs : Path) (m : ℕ) → m ≤ length xs → full_up full f (x ∷ xs) m ≡ full_up full (λ q. f (x ∷ q)) xs m
unfolding full_up ancestor
up_more full f x xs m h =
    let e : suc (length xs) - m ≡ suc (length xs - m) = omega arith in
    ap (λ n. option_map_or full (f (take n (x ∷ xs))) false) e

up_top : (full : NodeView → Bool) (f : Path → Option NodeView) (p : Path) (m : ℕ) → m ≡ length p → full_up full f p m ≡ option_map_or full (f []) false
unfolding full_up ancestor
up_top full f p m h = let e : length p - m ≡ 0 = omega arith in ap (λ n. option_map_or full (f (take n p)) false) e

pub none_blocked : (full : NodeView → Bool) (p : Path) (f : Path → Option NodeView) → NoneFull full f p → blocked full f p ≡ None
none_blocked full [] f h = ap (λ b. nearer None b 0) (full_at_is full (f []) ∙ sym (up_top full f [] 0 refl) ∙ h 0 (omega arith))
none_blocked full (x ∷ xs) f h =
    let here : programs.full_at full (f []) ≡ false = full_at_is full (f []) ∙ sym (up_top full f (x ∷ xs) (suc (length xs)) refl) ∙ h (suc (length xs)) (omega arith) in
    let rest : blocked full (λ q. f (x ∷ q)) xs ≡ None = none_blocked full xs (λ q. f (x ∷ q)) (λ m k. sym (up_more full f x xs m k) ∙ h m (omega arith)) in
    (λ i. nearer (rest i) (here i) (suc (length xs)))

pub near_blocked : (full : NodeView → Bool) (p : Path) (f : Path → Option NodeView) (n : ℕ) → IsNearestFull full f p n → blocked full f p ≡ Some n
near_blocked full [] f n h =
    let w = h.within in
    let z : n ≡ 0 = omega arith in
    ap (λ b. nearer None b 0) (full_at_is full (f []) ∙ sym (up_top full f [] n z) ∙ h.here) ∙ ap Some (sym z)
near_blocked full (x ∷ xs) f n h = by (near_blocked full xs (λ q. f (x ∷ q)) n) (cases n (length xs))
  where
    cases : (a b : ℕ) → (a ≤ b) ⊎ (b < a)
    cases a b = grind arith

    by : (IsNearestFull full (λ q. f (x ∷ q)) xs n → blocked full (λ q. f (x ∷ q)) xs ≡ Some n) → (n ≤ length xs) ⊎ (length xs < n) → nearer (blocked full (λ q. f (x ∷ q)) xs) (programs.full_at full (f [])) (suc (length xs)) ≡ Some n
    by ih (inl le) =
        let rest = ih (record { within = le; here = sym (up_more full f x xs n le) ∙ h.here; below = λ m k. sym (up_more full f x xs m (omega arith)) ∙ h.below m k }) in
        ap (λ o. nearer o (programs.full_at full (f [])) (suc (length xs))) rest
    by ih (inr lt) =
        let w = h.within in
        let z : n ≡ suc (length xs) = omega arith in
        let here : programs.full_at full (f []) ≡ true = full_at_is full (f []) ∙ sym (up_top full f (x ∷ xs) n z) ∙ h.here in
        let rest : blocked full (λ q. f (x ∷ q)) xs ≡ None = none_blocked full xs (λ q. f (x ∷ q)) (λ m k. sym (up_more full f x xs m k) ∙ h.below m (omega arith)) in
        (λ i. nearer (rest i) (here i) (suc (length xs))) ∙ ap Some (sym z)

-- what an answer says that is the nearest full node, or none, whatever the path
pub level_blocked : (full : NodeView → Bool) (f : Path → Option NodeView) (P : Path → Type 0) (r : Option ℕ) →
    IfNone r ((p : Path) → P p → NoneFull full f p) → IfSome r (λ n. (p : Path) → P p → IsNearestFull full f p n) → (p : Path) → P p → r ≡ blocked full f p
level_blocked full f P None none some p at = sym (none_blocked full p f (none p at))
level_blocked full f P (Some n) none some p at = sym (near_blocked full p f n (some p at))

pub on_both : {T E P Q S : Type 0} (r : Result T E) → OnOk r P → OnOk r Q → (P → Q → S) → OnOk r S
on_both (Ok x) p q f = f p q
on_both (Err e) p q f = tt

pub if_err : {T E Q : Type 0} {P S : E → Type 0} (r : Result T E) → IfErr r P → OnErr r Q → ((e : E) → P e → Q → S e) → IfErr r S
if_err (Ok x) p q f = tt
if_err (Err e) p q f = f e p q

pub line_done : (once : NodeView → NodeView) (f g : Path → Option NodeView) (p : Path) → ((q : Path) → g q ≡ charged once f p q) → g ≡ on_line p (on_some once) f
line_done once f g p e = λ i q. (e q ∙ line_is once f p q) i

pub node_done : (once : NodeView → NodeView) (f g : Path → Option NodeView) (p : Path) → ((q : Path) → g q ≡ with_node f p (option_map once (f p)) q) → g ≡ on_node p (on_some once) f
node_done once f g p e = λ i q. (e q ∙ node_is once f p q) i

pub never_full : (p : Path) (f : Path → Option NodeView) → NoneFull (λ n. false) f p
unfolding full_up
never_full p f = λ m h. by (f (ancestor p m))
  where
    by : (o : Option NodeView) → option_map_or (λ n. false) o false ≡ false
    by None = refl
    by (Some n) = refl

-- where a key is, there is an interpreter, and elsewhere none
pub tree_there : (t : Table) (p : Path) (k : ℕ) → key_of t p ≡ Some k → is_some (tree_of t p) ≡ true
tree_there t p k at = ap is_some (tree-at (get t.nodes) t.root p k at) ∙ some_there (get t.nodes k) (leads_somewhere (get t.nodes) t.root t.sound p k at)

pub top_there : (t : Table) → is_some (tree_of t []) ≡ true
top_there t = tree_there t [] t.root (follow-nil (get t.nodes) t.root)

pub tree_gone : (t : Table) (p : Path) → key_of t p ≡ None → tree_of t p ≡ None
tree_gone t p e = tree-none (get t.nodes) t.root p e
