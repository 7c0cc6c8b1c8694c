-- What stays as it is where an interpreter is asked for something that evaluates nothing.
use Rattle.std.proofs.Common.{◌≡◌, ◌⊎◌, inl, inr, ℕ, ◌+◌, Bool, true, false, [], ◌∷◌, ◌++◌, length, Option, Some, None, refl, sym, ◌∙◌, ap, subst, append-nil, append_assoc, length-append, rules, arith}
use Rattle.std.specs.Prelude.{is_some}
use Rattle.std.specs.Option.{option_map}
use Rattle.tcl_core.specs.Paths.{Text, Path, strip}
use Rattle.tcl_core.specs.Trees.{Tree, Node, effect, at_end, where_some, with_own, with_limit, with_depth_limit, fresh}
use Rattle.tcl_core.specs.Trees.What.{Changed, Made, Dropped, Limited, DepthLimited}
use Rattle.tcl_core.proofs.PathLaws.{strip-sound, not_both}
use Rattle.tcl_core.specs.Lives.{count_at}
use Rattle.tcl_run.specs.Runs.{meters_of, meters_at, depth_in, steps_at, InUse, IsCounted, IsHere, IsSteady, IsLevel}
use Rattle.tcl_run.proofs.Steady.{changed_level, counted-refl, same_counted, steps_of}
use Rattle.tcl_tree.specs.Changes.{MayMake, Makes, Drops}
use Rattle.tcl_tree.specs.Gone.{held_of}
use Rattle.tcl_tree.specs.Held.{Gains, Parts, Stays}
use Rattle.tcl_tree.specs.Naming.{Named, Becomes}
use Rattle.tcl_tree.specs.Own.{Own}
use Rattle.tcl_tree.specs.Paths.{is_above}
use Rattle.tcl_tree.specs.TreeOf.{tree_of, key_of, marks_of, Names}
use Rattle.tcl_tree.specs.declared.tree.Tree.{Tree as Table}
use Rattle.tcl_tree.specs.declared.tree.Place.{Place as TablePlace}
use Rattle.tcl_tree.proofs.CoreLemmas.{tree_there}
use Rattle.tcl_tree.proofs.HeldLemmas.{not_gone}
use Rattle.tcl_tree.proofs.PartLemmas.{parts_stay}
use Rattle.tcl_tree.proofs.PathLemmas.{above_cases}
use Rattle.tcl_tree.proofs.StayLemmas.{stays_gains, stays_same}
use Rattle.tcl_calls.proofs.Served.{there}

-- ## What is level

pub named_level : (t u : Table) (place : TablePlace) (f : Own → Named) → marks_of u ≡ marks_of t → ((q : Path) → key_of u q ≡ key_of t q) → ((k : ℕ) → held_of u k ≡ held_of t k) → (p : Path) × Names t place p →
    ((p : Path) → Names t place p → Becomes (tree_of t) (tree_of u) p f) → IsLevel t u
named_level t u place f marks keys held here becomes =
    let n = there t place here.0 here.1 in
    let b = becomes here.0 here.1 n.0 n.1 in
    changed_level t u here.0 b.0 marks keys held b.2

-- a limit of one that isn't a root is set
limited_counted : (T : Tree Own) (p : Path) (limit : Option ℕ) → ((n : Node Own) → T p ≡ Some n → n.root ≡ false) → IsCounted (T []) (effect p (Limited limit) T [])
limited_counted T [] limit below = by (T []) below
  where
    by : (o : Option (Node Own)) → ((n : Node Own) → o ≡ Some n → n.root ≡ false) → IsCounted o (with_limit limit o)
    by None h = counted-refl None
    by (Some n) h = record {
      rises = search rules;
      root = refl;
      limit = λ r. (let other : n.root ≡ false = h n refl in let root : n.root ≡ true = r in cc);
      within = λ r b l c. c;
    }
limited_counted T (x ∷ p) limit below = counted-refl (T [])

pub limited_level : (t u : Table) (place : TablePlace) (limit : Option ℕ) → marks_of u ≡ marks_of t → ((q : Path) → key_of u q ≡ key_of t q) → ((k : ℕ) → held_of u k ≡ held_of t k) → (p : Path) × Names t place p →
    ((p : Path) (n : Node Own) → Names t place p → tree_of t p ≡ Some n → n.root ≡ false) → ((p : Path) → Names t place p → tree_of u ≡ effect p (Limited limit) (tree_of t)) → IsLevel t u
limited_level t u place limit marks keys held here below set = record {
  marks = marks;
  keys = keys;
  held = held;
  meters = λ q. ap (λ (X : Tree Own). meters_at X q) (set here.0 here.1) ∙ by (strip here.0 q) (tree_of t q);
  counts = λ q. let e : steps_at (tree_of u) q ≡ steps_at (tree_of t) q = ap (λ (X : Tree Own). steps_at X q) (set here.0 here.1) ∙ steps (strip here.0 q) (tree_of t q) in omega arith;
  counted = subst (λ (X : Tree Own). IsCounted (tree_of t []) (X [])) (sym (set here.0 here.1)) (limited_counted (tree_of t) here.0 limit (λ n is. below here.0 n here.1 is));
}
  where
    by : (s : Option Path) (o : Option (Node Own)) → option_map meters_of (at_end s (with_limit limit) o) ≡ option_map meters_of o
    by None o = refl
    by (Some []) None = refl
    by (Some []) (Some n) = refl
    by (Some (x ∷ xs)) o = refl

    steps : (s : Option Path) (o : Option (Node Own)) → count_at (at_end s (with_limit limit) o) ≡ count_at o
    steps None o = refl
    steps (Some []) None = refl
    steps (Some []) (Some n) = refl
    steps (Some (x ∷ xs)) o = refl

-- ## What is steady

-- what is said of an interpreter's meters, but for its limit of depth
abbrev seen_of : Option (Node Own) → ℕ × (ℕ × (Bool × Option ℕ))
seen_of o = (depth_in (option_map meters_of o), steps_of o)

-- where that stays of those who are in use and stand still, and of the top
seen_steady : (t u : Table) → marks_of u ≡ marks_of t → Stays (held_of t) (held_of u) → ((q : Path) (k : ℕ) → InUse (tree_of t) q → key_of t q ≡ Some k → key_of u q ≡ Some k → seen_of (tree_of u q) ≡ seen_of (tree_of t q)) →
    seen_of (tree_of u []) ≡ seen_of (tree_of t []) → IsSteady t u
seen_steady t u marks stays same top = record {
  marks = marks;
  stays = stays;
  counts = λ q k used at still. let e : steps_at (tree_of u) q ≡ steps_at (tree_of t) q = ap (λ x. x.1.0) (same q k used at still) in omega arith;
  top = ap (λ x. x.0) top;
  counted = same_counted (tree_of t []) (tree_of u []) (ap (λ x. x.1) top);
}

-- where the keys stay on the line of a place, and that of all who stand there
seen_here : (t u : Table) (place : TablePlace) → marks_of u ≡ marks_of t → ((p a b : Path) (k : ℕ) → Names t place p → a ++ b ≡ p → key_of t a ≡ Some k → key_of u a ≡ Some k) →
    ((p a b : Path) → Names t place p → a ++ b ≡ p → seen_of (tree_of u a) ≡ seen_of (tree_of t a)) → IsHere t u place
seen_here t u place marks keys same = record {
  marks = marks;
  keys = keys;
  depths = λ p a b named is. ap (λ x. x.0) (same p a b named is);
  counts = λ p a b named is. let e : steps_at (tree_of u) a ≡ steps_at (tree_of t) a = ap (λ x. x.1.0) (same p a b named is) in omega arith;
}

-- who stands above one stays as it was where that one does
pub here_above : (t u : Table) (place below : TablePlace) (down : Path) → ((p : Path) → Names t place p → Names t below (p ++ down)) → IsHere t u below → IsHere t u place
here_above t u place below down leads h = record {
  marks = h.marks;
  keys = λ p a b k named is at. h.keys (p ++ down) a (b ++ down) k (leads p named) (whole p a b is) at;
  depths = λ p a b named is. h.depths (p ++ down) a (b ++ down) (leads p named) (whole p a b is);
  counts = λ p a b named is. h.counts (p ++ down) a (b ++ down) (leads p named) (whole p a b is);
}
  where
    whole : (p a b : Path) → a ++ b ≡ p → a ++ (b ++ down) ≡ p ++ down
    whole p a b is = sym (append_assoc a b down) ∙ ap (λ (x : Path). x ++ down) is

-- where the tree stays as it was
pub unchanged_steady : (t u : Table) → marks_of u ≡ marks_of t → ((k : ℕ) → held_of u k ≡ held_of t k) → tree_of u ≡ tree_of t → IsSteady t u
unchanged_steady t u marks held same = seen_steady t u marks (stays_same (held_of t) (held_of u) held) (λ q k used at still. ap (λ (X : Tree Own). seen_of (X q)) same) (ap (λ (X : Tree Own). seen_of (X [])) same)

pub unchanged_here : (t u : Table) (place : TablePlace) → marks_of u ≡ marks_of t → ((q : Path) (k : ℕ) → key_of t q ≡ Some k → key_of u q ≡ Some k) → tree_of u ≡ tree_of t → IsHere t u place
unchanged_here t u place marks keys same = seen_here t u place marks (λ p a b k named is at. keys a k at) (λ p a b named is. ap (λ (X : Tree Own). seen_of (X a)) same)

-- ## A limit of depth

seen_deepened : (T U : Tree Own) (p q : Path) (limit : ℕ) → U ≡ effect p (DepthLimited limit) T → seen_of (U q) ≡ seen_of (T q)
seen_deepened T U p q limit e = ap (λ (X : Tree Own). seen_of (X q)) e ∙ by (strip p q) (T q)
  where
    by : (s : Option Path) (o : Option (Node Own)) → seen_of (at_end s (with_depth_limit limit) o) ≡ seen_of o
    by None o = refl
    by (Some []) None = refl
    by (Some []) (Some n) = refl
    by (Some (x ∷ xs)) o = refl

pub deepened_steady : (t u : Table) (place : TablePlace) (limit : ℕ) → marks_of u ≡ marks_of t → ((k : ℕ) → held_of u k ≡ held_of t k) → (p : Path) × Names t place p →
    ((p : Path) → Names t place p → tree_of u ≡ effect p (DepthLimited limit) (tree_of t)) → IsSteady t u
deepened_steady t u place limit marks held here set = seen_steady t u marks (stays_same (held_of t) (held_of u) held)
    (λ q k used at still. seen_deepened (tree_of t) (tree_of u) here.0 q limit (set here.0 here.1)) (seen_deepened (tree_of t) (tree_of u) here.0 [] limit (set here.0 here.1))

pub deepened_here : (t u : Table) (place : TablePlace) (limit : ℕ) → marks_of u ≡ marks_of t → ((q : Path) → key_of u q ≡ key_of t q) → ((p : Path) → Names t place p → tree_of u ≡ effect p (DepthLimited limit) (tree_of t)) → IsHere t u place
deepened_here t u place limit marks keys set = seen_here t u place marks (λ p a b k named is at. keys a ∙ at) (λ p a b named is. seen_deepened (tree_of t) (tree_of u) p a limit (set p named))

-- ## Children that are made

no_top : (p : Path) (name : Text) → strip (p ++ name ∷ []) [] ≡ None
no_top [] name = refl
no_top (x ∷ p) name = refl

-- nobody on the line of an interpreter stands at a child of it, or below that
not_below : (p a b r : Path) (name : Text) → a ++ b ≡ p → a ≡ (p ++ name ∷ []) ++ r → Prim.⊥
not_below p a b r name is e =
    let x : length a + length b ≡ length p = sym (length-append a b) ∙ ap length is in
    let y : length a ≡ length (p ++ name ∷ []) + length r = ap length e ∙ length-append (p ++ name ∷ []) r in
    let z : length (p ++ name ∷ []) ≡ length p + 1 = length-append p (name ∷ []) in
    omega arith

seen_changed : (T : Tree Own) (p q : Path) (own : Own) → seen_of (effect p (Changed own) T q) ≡ seen_of (T q)
seen_changed T p q own = by (strip p q) (T q)
  where
    by : (s : Option Path) (o : Option (Node Own)) → seen_of (at_end s (with_own own) o) ≡ seen_of o
    by None o = refl
    by (Some []) None = refl
    by (Some []) (Some n) = refl
    by (Some (x ∷ xs)) o = refl

seen_made : (T U : Tree Own) (p q : Path) (name : Text) (own made : Own) (safe : Bool) → U ≡ effect (p ++ name ∷ []) (Made made safe) (effect p (Changed own) T) → (strip (p ++ name ∷ []) q ≡ Some [] → Prim.⊥) → seen_of (U q) ≡ seen_of (T q)
seen_made T U p q name own made safe e other = ap (λ (X : Tree Own). seen_of (X q)) e ∙ by (strip (p ++ name ∷ []) q) refl
  where
    by : (s : Option Path) → strip (p ++ name ∷ []) q ≡ s → seen_of (at_end s (λ x. Some (fresh made safe)) (effect p (Changed own) T q)) ≡ seen_of (T q)
    by None f = seen_changed T p q own
    by (Some []) f = absurd (other f)
    by (Some (x ∷ xs)) f = seen_changed T p q own

seen_dropped : (T U : Tree Own) (p q : Path) (name : Text) (own : Own) → U ≡ effect (p ++ name ∷ []) Dropped (effect p (Changed own) T) → ((r : Path) → strip (p ++ name ∷ []) q ≡ Some r → Prim.⊥) → seen_of (U q) ≡ seen_of (T q)
seen_dropped T U p q name own e other = ap (λ (X : Tree Own). seen_of (X q)) e ∙ by (strip (p ++ name ∷ []) q) refl
  where
    by : (s : Option Path) → strip (p ++ name ∷ []) q ≡ s → seen_of (where_some s (λ x. None) (effect p (Changed own) T q)) ≡ seen_of (T q)
    by None f = seen_changed T p q own
    by (Some r) f = absurd (other r f)

-- nobody is left there
none_dropped : (T U : Tree Own) (p q r : Path) (name : Text) (own : Own) → U ≡ effect (p ++ name ∷ []) Dropped (effect p (Changed own) T) → strip (p ++ name ∷ []) q ≡ Some r → U q ≡ None
none_dropped T U p q r name own e f = ap (λ (X : Tree Own). X q) e ∙ by (strip (p ++ name ∷ []) q) f
  where
    by : (s : Option Path) → s ≡ Some r → where_some s (λ x. None) (effect p (Changed own) T q) ≡ None
    by None g = let clash : None ≡ Some r = g in absurd cc
    by (Some a) g = refl

-- who stands isn't the child that is made
stands_apart : (t : Table) (q child : Path) (k : ℕ) → key_of t q ≡ Some k → tree_of t child ≡ None → q ≡ child → Prim.⊥
stands_apart t q child k at absent same = not_gone (is_some (tree_of t q)) (tree_there t q k at) (ap (λ (x : Path). is_some (tree_of t x)) same ∙ ap is_some absent)

pub created_steady : (t u : Table) (place : TablePlace) (name : Text) (safe : Bool) → marks_of u ≡ marks_of t → Gains (held_of t) (held_of u) → (p : Path) × Names t place p →
    ((p : Path) → Names t place p → MayMake (tree_of t) p name) → ((p : Path) → Names t place p → Makes (tree_of t) (tree_of u) p name safe) → IsSteady t u
created_steady t u place name safe marks gains here may makes =
    let p = here.0 in
    let m = may p here.1 in
    let e = makes p here.1 m.parent m.here in
    seen_steady t u marks (stays_gains (held_of t) (held_of u) gains)
    (λ q k used at still. seen_made (tree_of t) (tree_of u) p q name _ _ _ e (λ f. stands_apart t q (p ++ name ∷ []) k at m.absent (strip-sound (p ++ name ∷ []) q [] f ∙ append-nil (p ++ name ∷ []))))
    (seen_made (tree_of t) (tree_of u) p [] name _ _ _ e (λ f. not_both (no_top p name) f))

pub created_here : (t u : Table) (place : TablePlace) (name : Text) (safe : Bool) → marks_of u ≡ marks_of t → ((q : Path) (k : ℕ) → key_of t q ≡ Some k → key_of u q ≡ Some k) →
    ((p : Path) → Names t place p → MayMake (tree_of t) p name) → ((p : Path) → Names t place p → Makes (tree_of t) (tree_of u) p name safe) → IsHere t u place
created_here t u place name safe marks keys may makes = seen_here t u place marks (λ p a b k named is at. keys a k at) (λ p a b named is.
    let m = may p named in
    seen_made (tree_of t) (tree_of u) p a name _ _ _ (makes p named m.parent m.here) (λ f. not_below p a b [] name is (strip-sound (p ++ name ∷ []) a [] f)))

-- ## Children that are deleted

pub deleted_steady : (t u : Table) (place : TablePlace) (name : Text) → marks_of u ≡ marks_of t → ((p : Path) → Names t place p → Parts (held_of t) (key_of t) (p ++ name ∷ []) (held_of u)) → (p : Path) × Names t place p →
    ((p : Path) → Names t place p → Drops (tree_of t) (tree_of u) p name) → IsSteady t u
deleted_steady t u place name marks parts here drops =
    let p = here.0 in
    let n = there t place p here.1 in
    let e = drops p here.1 n.0 n.1 in
    seen_steady t u marks (parts_stay t u (p ++ name ∷ []) (parts p here.1))
    (λ q k used at still. seen_dropped (tree_of t) (tree_of u) p q name _ e (λ r f. not_gone (is_some (tree_of u q)) (tree_there u q k still) (ap is_some (none_dropped (tree_of t) (tree_of u) p q r name _ e f))))
    (seen_dropped (tree_of t) (tree_of u) p [] name _ e (λ r f. not_both (no_top p name) f))

pub deleted_here : (t u : Table) (place : TablePlace) (name : Text) → marks_of u ≡ marks_of t →
    ((p : Path) → Names t place p → (q : Path) (k : ℕ) → is_above (p ++ name ∷ []) q ≡ false → key_of t q ≡ Some k → key_of u q ≡ Some k) →
    ((p : Path) → Names t place p → Drops (tree_of t) (tree_of u) p name) → IsHere t u place
deleted_here t u place name marks keys drops = seen_here t u place marks (λ p a b k named is at. keys p named a k (beside p a b is (above_cases (p ++ name ∷ []) a)) at) (λ p a b named is.
    let n = there t place p named in
    seen_dropped (tree_of t) (tree_of u) p a name _ (drops p named n.0 n.1) (λ r f. not_below p a b r name is (strip-sound (p ++ name ∷ []) a r f)))
  where
    beside : (p a b : Path) → a ++ b ≡ p → ((r : Path) × (a ≡ (p ++ name ∷ []) ++ r) × (is_above (p ++ name ∷ []) a ≡ true)) ⊎ (is_above (p ++ name ∷ []) a ≡ false) → is_above (p ++ name ∷ []) a ≡ false
    beside p a b is (inl w) = absurd (not_below p a b w.0 name is w.1)
    beside p a b is (inr f) = f
