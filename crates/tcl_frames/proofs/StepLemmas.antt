-- What the calls on names come to.
use Rattle.std.proofs.Common.{◌≡◌, ℕ, zero, suc, ◌+◌, ◌<◌, ◌≤◌, inl, inr, Bool, true, false, List, [], ◌∷◌, length, slice_get, slice_set, Option, Some, None, Result, Ok, Err, refl, sym, ◌∙◌, ap, subst, arith}
use Rattle.std.specs.Prelude.{IfSome, IfOk, MatchOption}
use Rattle.std.specs.Borrow.{Bor}
use Rattle.std.specs.declared.vec.Vec.{Vec}
use Rattle.std.specs.declared.alloc.Global.{Global}
use Rattle.std.specs.Option.{option_map, option_copied}
use Rattle.std.specs.Map.{lookup, remove_entry}
use Rattle.std.specs.Str.{bytes_eq}
use Rattle.indexmap.specs.IndexMap.{insert_entry, insert_all}
use Rattle.tcl_frames.specs.Names.{Text, Name, name_of}
use Rattle.tcl_frames.specs.Variables.{Frame, Variables, Part, merge, part_of}
use Rattle.tcl_frames.specs.Places.{Levels, Spot, current, level_of, spot_of, bound, through, under, next, walk, links, end_of}
use Rattle.tcl_frames.specs.Variables.Part.{whole, element, nested}
use Rattle.tcl_frames.specs.Access.{value_of, is_held, is_linked, elements_of, assigned, left_of, without_element}
use Rattle.tcl_frames.specs.VariableArrays.{Elements, extended, unmatched}
use Rattle.tcl_frames.specs.Arrays.{elements_set, emptied_at, elements_unset}
use Rattle.tcl_frames.specs.Chain.{holds, read, exists_at, array_at, end_named, place_named, by_place, at_name, on_level, bind, unbind, bound_to, left_at, written, made_array, removed}
use Rattle.tcl_frames.specs.Faults.{Refuses, IsRefusal}
use Rattle.tcl_frames.specs.Reached.{start, over, bound_where, link_of, Stands}
use Rattle.tcl_frames.specs.Written.{seen}
use Rattle.tcl_frames.specs.declared.name.Written.{Written}
use Rattle.tcl_frames.specs.declared.frame.Change.{Change}
use Rattle.tcl_frames.specs.declared.frame.Change.TheVariants.{Assign, SetElements, Unset, UnsetElements}
use Rattle.tcl_frames.specs.Rebinding.{rebound, unbound, with_variable, without_variable, emptied, change_frame}
use Rattle.tcl_frames.specs.Changes.{change_levels, change_named, IsChangedThere}
use Rattle.tcl_frames.specs.Sound.{IsFit, AreFit}
use Rattle.tcl_frames.specs.declared.variable.LinkTarget.{LinkTarget}
use Rattle.tcl_frames.specs.declared.variable.Variable.{Variable}
use Rattle.tcl_frames.specs.declared.variable.Variable.TheVariants.{Scalar, Array, Link}
use Rattle.tcl_frames.specs.declared.fault.FrameFault.{FrameFault}
use Rattle.tcl_frames.specs.declared.fault.FrameFault.TheVariants.{BadName}
use Rattle.tcl_frames.specs.declared.fault.FrameError.{FrameError}
use Rattle.tcl_frames.proofs.WalkLemmas.{step_of, walk_some, walk_none, walk_zero}
use Rattle.tcl_frames.proofs.SoundLemmas.{IsNoLink, fit_at, fit_cons, fit_head, fit_tail, fit_valued, fit_removed, end_no_link, get_cases, bound_at, bound_past}
use Rattle.tcl_frames.proofs.ListLemmas.{within_found}
use Rattle.tcl_frames.proofs.ReachLemmas.{follow_here, follow_end}

-- ## Parts

pub merge_whole : (a : Part) → merge a whole ≡ a
merge_whole whole = refl
merge_whole (element k) = refl
merge_whole nested = refl

pub merge_assoc : (a b c : Part) → merge a (merge b c) ≡ merge (merge a b) c
merge_assoc whole b c = refl
merge_assoc (element k) whole c = refl
merge_assoc (element k) (element j) whole = refl
merge_assoc (element k) (element j) (element i) = refl
merge_assoc (element k) (element j) nested = refl
merge_assoc (element k) nested c = refl
merge_assoc nested b c = refl

through_over : (o : Option Variable) (a r : Part) (q : Spot) → through o a ≡ Some q → through o (merge a r) ≡ Some (over q r)
through_over None a r q e = absurd (cc)
through_over (Some (Scalar t)) a r q e = absurd (cc)
through_over (Some (Array es)) a r q e = absurd (cc)
through_over (Some (Link p)) a r q e =
    let same : under p a ≡ q = cc in
    ap (λ m. Some (record { level = p.level; name = p.name; part = m })) (merge_assoc (part_of p.key) a r) ∙ ap (λ (s : Spot). Some (over s r)) same

through_none : (o : Option Variable) (a b : Part) → through o a ≡ None → through o b ≡ None
through_none None a b e = refl
through_none (Some (Scalar t)) a b e = refl
through_none (Some (Array es)) a b e = refl
through_none (Some (Link p)) a b e = absurd (cc)

next_over : (fs : Levels) (p q : Spot) (r : Part) → next fs p ≡ Some q → next fs (over p r) ≡ Some (over q r)
unfolding next
next_over fs p q r e = through_over (bound fs p.level p.name) p.part r q e

none_over : (fs : Levels) (p : Spot) (r : Part) → next fs p ≡ None → next fs (over p r) ≡ None
unfolding next
none_over fs p r e = through_none (bound fs p.level p.name) p.part (merge p.part r) e

walk_over : (fs : Levels) (n : ℕ) (p : Spot) (r : Part) → walk n (next fs) (over p r) ≡ over (walk n (next fs) p) r
walk_over fs zero p r = walk_zero (next fs) (over p r) ∙ ap (λ (s : Spot). over s r) (sym (walk_zero (next fs) p))
walk_over fs (suc n) p r =
    elim (step_of (next fs) p) [
      | inl e ↦ walk_none (suc n) (next fs) (over p r) (none_over fs p r e) ∙ ap (λ (s : Spot). over s r) (sym (walk_none (suc n) (next fs) p e))
      | inr s ↦ walk_some n (next fs) (over p r) (over s.0 r) (next_over fs p s.0 r s.1) ∙ walk_over fs n s.0 r ∙ ap (λ (q : Spot). over q r) (sym (walk_some n (next fs) p s.0 s.1))
    ]

-- a part leads where the whole leads
pub end_over : (fs : Levels) (p : Spot) (r : Part) → end_of fs (over p r) ≡ over (end_of fs p) r
unfolding end_of
end_over fs p r = walk_over fs (links fs) p r

-- ## Names

-- where the links from a name end that was read
pub named_end : (fs : Levels) (n : ℕ) (x : Name) → end_of fs (spot_of n x) ≡ over (end_of fs (start (level_of x.is_global n) x.base)) (part_of x.key)
named_end fs n x = end_over fs (start (level_of x.is_global n) x.base) (part_of x.key)

pub place_good : (fs : Levels) (x : Text) (w : Name) (n : ℕ) → name_of x ≡ Some w → n ≡ level_of w.is_global (current fs) → place_named fs x ≡ Some (over (end_of fs (start n w.base)) (part_of w.key))
unfolding place_named
place_good fs x w n e is =
    ap (end_named fs (current fs)) e ∙ ap (λ (p : Spot). Some p) (named_end fs (current fs) w) ∙ ap (λ m. Some (over (end_of fs (start m w.base)) (part_of w.key))) (sym is)

pub place_bad : (fs : Levels) (x : Text) → name_of x ≡ None → place_named fs x ≡ None
unfolding place_named
place_bad fs x e = ap (end_named fs (current fs)) e

-- ## Levels of ends

through_some : (o : Option Variable) (a : Part) (q : Spot) → through o a ≡ Some q → (r : LinkTarget) × (o ≡ Some (Link r)) × (q ≡ under r a)
through_some None a q e = absurd (cc)
through_some (Some (Scalar t)) a q e = absurd (cc)
through_some (Some (Array es)) a q e = absurd (cc)
through_some (Some (Link r)) a q e = (r, refl, (cc))

next_some : (fs : Levels) (p q : Spot) → next fs p ≡ Some q → (r : LinkTarget) × (bound fs p.level p.name ≡ Some (Link r)) × (q ≡ under r p.part)
unfolding next
next_some fs p q e = through_some (bound fs p.level p.name) p.part q e

link_low : (fs : Levels) → AreFit 0 fs → (n : ℕ) (x : Text) (r : LinkTarget) → bound fs n x ≡ Some (Link r) → r.level ≤ n
link_low fs fit n x r e =
    elim (get_cases fs n) [
      | inl none ↦ absurd (none_some (Link r) (sym (bound_past fs n x none) ∙ e))
      | inr some ↦
          let here = fit_at 0 fs n some.0 fit some.1 in
          let low = within_found (0 + n) some.0.variables x (Link r) here.within (sym (bound_at fs n x some.0 some.1) ∙ e) in
          omega (arith, low)
    ]
  where
    none_some : (v : Variable) → None ≡ Some v → ⊥
    none_some v e = cc

next_low : (fs : Levels) → AreFit 0 fs → (p q : Spot) → next fs p ≡ Some q → q.level ≤ p.level
next_low fs fit p q e =
    let s = next_some fs p q e in
    let low = link_low fs fit p.level p.name s.0 s.1 in
    subst (λ (r : Spot). r.level ≤ p.level) (sym s.2) low

walk_low : (fs : Levels) → AreFit 0 fs → (n : ℕ) (p : Spot) → (walk n (next fs) p).level ≤ p.level
walk_low fs fit zero p = let e = ap (λ (s : Spot). s.level) (walk_zero (next fs) p) in omega (arith, e)
walk_low fs fit (suc n) p =
    elim (step_of (next fs) p) [
      | inl none ↦ let e = ap (λ (s : Spot). s.level) (walk_none (suc n) (next fs) p none) in omega (arith, e)
      | inr s ↦
          let e = ap (λ (r : Spot). r.level) (walk_some n (next fs) p s.0 s.1) in
          let low = next_low fs fit p s.0 s.1 in
          let later = walk_low fs fit n s.0 in
          omega (arith, e, low, later)
    ]

-- links lead no higher
pub end_low : (fs : Levels) → AreFit 0 fs → (p : Spot) → (end_of fs p).level ≤ p.level
unfolding end_of
end_low fs fit p = walk_low fs fit (links fs) p

pub level_low : (g : Bool) (n : ℕ) → level_of g n ≤ n
level_low true n = omega arith
level_low false n = omega arith

-- ## A change of one level

pub length_level : (fs : Levels) (i : ℕ) (g : Variables → Variables) → length (on_level fs i g) ≡ length fs
length_level [] i g = refl
length_level (f ∷ fs) zero g = refl
length_level (f ∷ fs) (suc i) g = ap suc (length_level fs i g)

fit_here : (n i : ℕ) (f : Frame) → IsFit (suc n + i) f → IsFit (n + suc i) f
fit_here n i f h = let e : suc n + i ≡ n + suc i = omega arith in subst (λ k. IsFit k f) e h

fit_there : (n i : ℕ) (f : Frame) → IsFit (n + suc i) f → IsFit (suc n + i) f
fit_there n i f h = let e : n + suc i ≡ suc n + i = omega arith in subst (λ k. IsFit k f) e h

fit_zero : (n : ℕ) (f : Frame) → IsFit n f → IsFit (n + 0) f
fit_zero n f h = let e : n ≡ n + 0 = omega arith in subst (λ k. IsFit k f) e h

fit_from_zero : (n : ℕ) (f : Frame) → IsFit (n + 0) f → IsFit n f
fit_from_zero n f h = let e : n + 0 ≡ n = omega arith in subst (λ k. IsFit k f) e h

abbrev pub changed : (Variables → Variables) → Frame → Frame
changed g f = record { words = f.words; variables = g f.variables }

pub fit_level : (n : ℕ) (fs : Levels) (i : ℕ) (g : Variables → Variables) → AreFit n fs → ((f : Frame) → slice_get fs i ≡ Some f → IsFit (n + i) f → IsFit (n + i) (changed g f)) → AreFit n (on_level fs i g)
fit_level n [] i g fit h = fit
fit_level n (f ∷ fs) zero g fit h = fit_cons n (changed g f) fs (fit_from_zero n (changed g f) (h f refl (fit_zero n f (fit_head n f fs fit)))) (fit_tail n f fs fit)
fit_level n (f ∷ fs) (suc i) g fit h =
    fit_cons n f (on_level fs i g) (fit_head n f fs fit)
    (fit_level (suc n) fs i g (fit_tail n f fs fit) (λ k at here. fit_there n i (changed g k) (h k at (fit_here n i k here))))

set_level : (fs : Levels) (i : ℕ) (f : Frame) (g : Variables → Variables) → slice_get fs i ≡ Some f → on_level fs i g ≡ slice_set fs i (changed g f)
set_level [] i f g at = absurd (cc)
set_level (h ∷ fs) zero f g at = let same : h ≡ f = cc in ap (λ (k : Frame). changed g k ∷ fs) same
set_level (h ∷ fs) (suc i) f g at = ap (λ r. h ∷ r) (set_level fs i f g at)

bind_is : (fs : Levels) (i : ℕ) (f : Frame) (x : Text) (v : Variable) → slice_get fs i ≡ Some f → bind fs i x v ≡ slice_set fs i (with_variable f x v)
unfolding bind
bind_is fs i f x v at = set_level fs i f (λ es. insert_entry bytes_eq es x v) at

unbind_is : (fs : Levels) (i : ℕ) (f : Frame) (x : Text) → slice_get fs i ≡ Some f → unbind fs i x ≡ slice_set fs i (without_variable f x)
unfolding unbind
unbind_is fs i f x at = set_level fs i f (remove_entry (bytes_eq x)) at

-- what the frame came to, the frames come to
pub assign_level : (fs : Levels) (p : Spot) (f k : Frame) (o : Result Variable FrameFault) → slice_get fs p.level ≡ Some f → rebound f p.name o ≡ Ok k → bound_to fs p o ≡ Ok (slice_set fs p.level k)
assign_level fs p f k (Ok v) at e = let same : with_variable f p.name v ≡ k = cc in ap (λ (gs : Levels). Ok gs) (bind_is fs p.level f p.name v at) ∙ ap (λ (r : Frame). Ok (slice_set fs p.level r)) same
assign_level fs p f k (Err g) at e = absurd (cc)

pub remove_level : (fs : Levels) (p : Spot) (f k : Frame) (o : Result (Option Variable) FrameFault) → slice_get fs p.level ≡ Some f → unbound f p.name o ≡ Ok k → left_at fs p o ≡ Ok (slice_set fs p.level k)
remove_level fs p f k (Ok None) at e = let same : without_variable f p.name ≡ k = cc in ap (λ (gs : Levels). Ok gs) (unbind_is fs p.level f p.name at) ∙ ap (λ (r : Frame). Ok (slice_set fs p.level r)) same
remove_level fs p f k (Ok (Some v)) at e = let same : with_variable f p.name v ≡ k = cc in ap (λ (gs : Levels). Ok gs) (bind_is fs p.level f p.name v at) ∙ ap (λ (r : Frame). Ok (slice_set fs p.level r)) same
remove_level fs p f k (Err g) at e = absurd (cc)

pub link_level : (fs : Levels) (i : ℕ) (f k : Frame) (x : Text) (q : LinkTarget) → slice_get fs i ≡ Some f → k ≡ with_variable f x (Link q) → bind fs i x (Link q) ≡ slice_set fs i k
link_level fs i f k x q at e = bind_is fs i f x (Link q) at ∙ ap (λ (r : Frame). slice_set fs i r) (sym e)

pub refuses_bound : (e : FrameError) (fs : Levels) (p : Spot) (o : Result Variable FrameFault) → Refuses e o → Refuses e (bound_to fs p o)
refuses_bound e fs p (Ok v) h = h
refuses_bound e fs p (Err f) h = h

pub refuses_left : (e : FrameError) (fs : Levels) (p : Spot) (o : Result (Option Variable) FrameFault) → Refuses e o → Refuses e (left_at fs p o)
refuses_left e fs p (Ok None) h = h
refuses_left e fs p (Ok (Some v)) h = h
refuses_left e fs p (Err f) h = h

-- ## What stays sound

no_link_of : (a v : Variable) → IsNoLink (Some a) → ◌≡◌ {A = Result Variable FrameFault} (Ok a) (Ok v) → IsNoLink (Some v)
no_link_of a v h e = let same : a ≡ v = cc in subst (λ w. IsNoLink (Some w)) same h

pub assigned_plain : (r : Part) (o : Option Variable) (t x : Text) (v : Variable) → assigned r o t x ≡ Ok v → IsNoLink (Some v)
assigned_plain whole None t x v e = no_link_of (Scalar t) v tt e
assigned_plain whole (Some (Scalar s)) t x v e = no_link_of (Scalar t) v tt e
assigned_plain whole (Some (Array es)) t x v e = absurd (cc)
assigned_plain whole (Some (Link q)) t x v e = absurd (cc)
assigned_plain (element k) None t x v e = no_link_of (Array ((k, t) ∷ [])) v tt e
assigned_plain (element k) (Some (Scalar s)) t x v e = absurd (cc)
assigned_plain (element k) (Some (Array es)) t x v e = no_link_of (Array (insert_entry bytes_eq es k t)) v tt e
assigned_plain (element k) (Some (Link q)) t x v e = absurd (cc)
assigned_plain nested o t x v e = absurd (cc)

pub extended_plain : (r : Part) (o : Option Variable) (ps : Elements) (x : Text) (v : Variable) → extended r o ps x ≡ Ok v → IsNoLink (Some v)
extended_plain whole None ps x v e = no_link_of (Array (insert_all bytes_eq [] ps)) v tt e
extended_plain whole (Some (Scalar s)) ps x v e = absurd (cc)
extended_plain whole (Some (Array es)) ps x v e = no_link_of (Array (insert_all bytes_eq es ps)) v tt e
extended_plain whole (Some (Link q)) ps x v e = absurd (cc)
extended_plain (element k) o ps x v e = absurd (cc)
extended_plain nested o ps x v e = absurd (cc)

fit_bind : (fs : Levels) → AreFit 0 fs → (n : ℕ) (x : Text) (v : Variable) → IsNoLink (bound fs n x) → IsNoLink (Some v) → AreFit 0 (bind fs n x v)
unfolding bind
fit_bind fs fit n x v old new =
    fit_level 0 fs n (λ es. insert_entry bytes_eq es x v) fit (λ f at here. fit_valued (0 + n) f x v (subst IsNoLink (bound_at fs n x f at) old) new here)

fit_unbind : (fs : Levels) → AreFit 0 fs → (n : ℕ) (x : Text) → IsNoLink (bound fs n x) → AreFit 0 (unbind fs n x)
unfolding unbind
fit_unbind fs fit n x old =
    fit_level 0 fs n (remove_entry (bytes_eq x)) fit (λ f at here. fit_removed (0 + n) f x (subst IsNoLink (bound_at fs n x f at) old) here)

same_levels : (a gs : Levels) → AreFit 0 a → ◌≡◌ {A = Result Levels FrameFault} (Ok a) (Ok gs) → AreFit 0 gs
same_levels a gs h e = let same : a ≡ gs = cc in subst (AreFit 0) same h

pub fit_bound : (fs gs : Levels) → AreFit 0 fs → (p : Spot) → IsNoLink (bound fs p.level p.name) → (o : Result Variable FrameFault) → ((v : Variable) → o ≡ Ok v → IsNoLink (Some v)) → bound_to fs p o ≡ Ok gs → AreFit 0 gs
fit_bound fs gs fit p old (Ok v) new e = same_levels (bind fs p.level p.name v) gs (fit_bind fs fit p.level p.name v old (new v refl)) e
fit_bound fs gs fit p old (Err f) new e = absurd (cc)

pub left_plain : (r : Part) (o : Option Variable) (x : Text) (v : Variable) → left_of r o x ≡ Ok (Some v) → IsNoLink (Some v)
left_plain whole None x v e = absurd (cc)
left_plain whole (Some (Scalar s)) x v e = absurd (cc)
left_plain whole (Some (Array es)) x v e = absurd (cc)
left_plain whole (Some (Link q)) x v e = absurd (cc)
left_plain (element k) None x v e = absurd (cc)
left_plain (element k) (Some (Scalar s)) x v e = absurd (cc)
left_plain (element k) (Some (Array es)) x v e = by (lookup (bytes_eq k) es) e
  where
    some_of : (a w : Variable) → IsNoLink (Some a) → ◌≡◌ {A = Result (Option Variable) FrameFault} (Ok (Some a)) (Ok (Some w)) → IsNoLink (Some w)
    some_of a w h e = let same : a ≡ w = cc in subst (λ u. IsNoLink (Some u)) same h

    by : (o : Option Text) → without_element o es k x ≡ Ok (Some v) → IsNoLink (Some v)
    by None e = absurd (cc)
    by (Some t) e = some_of (Array (remove_entry (bytes_eq k) es)) v tt e
left_plain (element k) (Some (Link q)) x v e = absurd (cc)
left_plain nested o x v e = absurd (cc)

pub fit_left : (fs gs : Levels) → AreFit 0 fs → (p : Spot) → IsNoLink (bound fs p.level p.name) → (o : Result (Option Variable) FrameFault) → ((v : Variable) → o ≡ Ok (Some v) → IsNoLink (Some v)) → left_at fs p o ≡ Ok gs → AreFit 0 gs
fit_left fs gs fit p old (Ok None) new e = same_levels (unbind fs p.level p.name) gs (fit_unbind fs fit p.level p.name old) e
fit_left fs gs fit p old (Ok (Some v)) new e = same_levels (bind fs p.level p.name v) gs (fit_bind fs fit p.level p.name v old (new v refl)) e
fit_left fs gs fit p old (Err f) new e = absurd (cc)

pub fit_emptied : (fs gs : Levels) → AreFit 0 fs → (p : Spot) → IsNoLink (bound fs p.level p.name) → (o : Option Elements) (g : Option Text) → ◌≡◌ {A = Result Levels FrameFault} (Ok (emptied_at fs p o g)) (Ok gs) → AreFit 0 gs
fit_emptied fs gs fit p old None g e = same_levels fs gs fit e
fit_emptied fs gs fit p old (Some es) None e = same_levels (unbind fs p.level p.name) gs (fit_unbind fs fit p.level p.name old) e
fit_emptied fs gs fit p old (Some es) (Some g) e = same_levels (bind fs p.level p.name (Array (unmatched g es))) gs (fit_bind fs fit p.level p.name (Array (unmatched g es)) old tt) e

at_end : (fs gs : Levels) (n : ℕ) (x : Text) (w : Option Name) (f : Spot → Result Levels FrameFault) → ((p : Spot) → f (end_of fs p) ≡ Ok gs → AreFit 0 gs) → by_place (end_named fs n w) x f ≡ Ok gs → AreFit 0 gs
at_end fs gs n x None f h e = absurd (cc)
at_end fs gs n x (Some w) f h e = h (spot_of n w) e

pub at_name_fit : (fs gs : Levels) (x : Text) (f : Spot → Result Levels FrameFault) → ((p : Spot) → f (end_of fs p) ≡ Ok gs → AreFit 0 gs) → at_name fs x f ≡ Ok gs → AreFit 0 gs
unfolding place_named
at_name_fit fs gs x f h e = at_end fs gs (current fs) x (name_of x) f h e

pub written_fit : (fs gs : Levels) (x t : Text) → AreFit 0 fs → written fs x t ≡ Ok gs → AreFit 0 gs
unfolding written
written_fit fs gs x t fit e =
    at_name_fit fs gs x _
    (λ p h. fit_bound fs gs fit (end_of fs p) (end_no_link fs fit p) _ (λ v. assigned_plain (end_of fs p).part (bound fs (end_of fs p).level (end_of fs p).name) t x v) h) e

pub elements_set_fit : (fs gs : Levels) (x : Text) (ps : Elements) → AreFit 0 fs → elements_set fs x ps ≡ Ok gs → AreFit 0 gs
unfolding elements_set
elements_set_fit fs gs x ps fit e =
    at_name_fit fs gs x _
    (λ p h. fit_bound fs gs fit (end_of fs p) (end_no_link fs fit p) _ (λ v. extended_plain (end_of fs p).part (bound fs (end_of fs p).level (end_of fs p).name) ps x v) h) e

pub elements_unset_fit : (fs gs : Levels) (x : Text) (g : Option Text) → AreFit 0 fs → elements_unset fs x g ≡ Ok gs → AreFit 0 gs
unfolding elements_unset
elements_unset_fit fs gs x g fit e =
    at_name_fit fs gs x _
    (λ p h. fit_emptied fs gs fit (end_of fs p) (end_no_link fs fit p) (elements_of (end_of fs p).part (bound fs (end_of fs p).level (end_of fs p).name)) g h) e

pub removed_fit : (fs gs : Levels) (x : Text) → AreFit 0 fs → removed fs x ≡ Ok gs → AreFit 0 gs
unfolding removed
removed_fit fs gs x fit e =
    at_name_fit fs gs x _
    (λ p h. fit_left fs gs fit (end_of fs p) (end_no_link fs fit p) _ (λ v. left_plain (end_of fs p).part (bound fs (end_of fs p).level (end_of fs p).name) x v) h) e

-- ## What the code finds

start_end_none : (fs : Levels) (n : ℕ) (x : Text) → link_of (bound fs n x) ≡ None → end_of fs (start n x) ≡ start n x
start_end_none fs n x e = follow_here fs (start n x) e

under_whole : (q : LinkTarget) → under q whole ≡ under q whole
under_whole q = refl

pub find_none : (fs : Levels) (n : ℕ) (x : Text) (o : Option Variable) → o ≡ bound fs n x → link_of o ≡ None → (o ≡ bound_where fs (end_of fs (start n x))) × (whole ≡ (end_of fs (start n x)).part)
find_none fs n x o e none =
    let here = start_end_none fs n x (ap link_of (sym e) ∙ none) in
    (e ∙ ap (λ (p : Spot). bound_where fs p) (sym here), ap (λ (p : Spot). p.part) (sym here))

pub find_some : (fs : Levels) → AreFit 0 fs → (n : ℕ) (x : Text) (q : LinkTarget) (p : Spot) (o : Option Variable) → link_of (bound fs n x) ≡ Some q → p ≡ end_of fs (under q whole) → o ≡ bound_where fs p → (o ≡ bound_where fs (end_of fs (start n x))) × (p.part ≡ (end_of fs (start n x)).part)
find_some fs fit n x q p o link e is =
    let on = e ∙ sym (follow_end fs fit (start n x) q link) in
    (is ∙ ap (λ (r : Spot). bound_where fs r) on, ap (λ (r : Spot). r.part) on)

pub target_none : (fs : Levels) (n : ℕ) (x : Text) (r : Part) → link_of (bound fs n x) ≡ None → end_of fs (over (start n x) r) ≡ over (start n x) r
target_none fs n x r e = end_over fs (start n x) r ∙ ap (λ (p : Spot). over p r) (start_end_none fs n x e)

pub target_some : (fs : Levels) → AreFit 0 fs → (n : ℕ) (x : Text) (r : Part) (q : LinkTarget) (p : Spot) (y : Text) (part : Part) → link_of (bound fs n x) ≡ Some q → p ≡ end_of fs (under q whole) → y ≡ p.name → part ≡ merge p.part r
    → end_of fs (over (start n x) r) ≡ record { level = p.level; name = y; part = part }
target_some fs fit n x r q p y part link e name is =
    end_over fs (start n x) r
    ∙ ap (λ (s : Spot). over s r) (follow_end fs fit (start n x) q link ∙ sym e)
    ∙ ap (λ (m : Part). record { level = p.level; name = p.name; part = m }) (sym is)
    ∙ ap (λ (z : Text). record { level = p.level; name = z; part = part }) (sym name)

-- how a name was read
pub read_none : (r : Option Written) (y x : Text) → option_map seen r ≡ name_of y → y ≡ x → r ≡ None → name_of x ≡ None
read_none r y x e same is = ap name_of (sym same) ∙ sym e ∙ ap (option_map seen) is

pub read_some : (r : Option Written) (y x : Text) (w : Written) → option_map seen r ≡ name_of y → y ≡ x → r ≡ Some w → name_of x ≡ Some (seen w)
read_some r y x w e same is = ap name_of (sym same) ∙ sym e ∙ ap (option_map seen) is

-- what stands where a name's links end
pub stands : (fs : Levels) (x : Text) (w : Name) (n : ℕ) (o : Option Variable) (a : Part) → name_of x ≡ Some w → n ≡ level_of w.is_global (current fs) → o ≡ bound_where fs (end_of fs (start n w.base)) → a ≡ (end_of fs (start n w.base)).part
    → Stands fs x o (merge a (part_of w.key))
stands fs x w n o a e is var part = (over (end_of fs (start n w.base)) (part_of w.key), place_good fs x w n e is, var, ap (λ m. merge m (part_of w.key)) part)

pub read_bad_name : (fs : Levels) (x : Text) (e : FrameError) → place_named fs x ≡ None → IsRefusal e (BadName x) → Refuses e (read fs x)
unfolding read
read_bad_name fs x e none h = subst (λ o. Refuses e (by_place o x (λ p. value_of p.part (bound fs p.level p.name) x))) (sym none) h

pub exists_bad_name : (fs : Levels) (x : Text) (e : FrameError) → place_named fs x ≡ None → IsRefusal e (BadName x) → Refuses e (exists_at fs x)
unfolding exists_at
exists_bad_name fs x e none h = subst (λ o. Refuses e (by_place o x (λ p. Ok (holds fs p)))) (sym none) h

pub array_bad_name : (fs : Levels) (x : Text) (e : FrameError) → place_named fs x ≡ None → IsRefusal e (BadName x) → Refuses e (array_at fs x)
unfolding array_at
array_bad_name fs x e none h = subst (λ o. Refuses e (by_place o x (λ p. Ok (elements_of p.part (bound fs p.level p.name))))) (sym none) h

pub read_stands : (fs : Levels) (x : Text) (o : Option Variable) (r : Part) → Stands fs x o r → read fs x ≡ value_of r o x
unfolding read
read_stands fs x o r s = ap (λ q. by_place q x (λ p. value_of p.part (bound fs p.level p.name) x)) s.1 ∙ ap (λ v. value_of s.0.part v x) (sym s.2) ∙ ap (λ m. value_of m o x) (sym s.3)

pub exists_stands : (fs : Levels) (x : Text) (o : Option Variable) (r : Part) → Stands fs x o r → exists_at fs x ≡ Ok (is_held r o)
unfolding exists_at
exists_stands fs x o r s = ap (λ q. by_place q x (λ p. Ok (holds fs p))) s.1 ∙ ap (λ v. Ok (is_held s.0.part v)) (sym s.2) ∙ ap (λ m. Ok (is_held m o)) (sym s.3)

pub array_stands : (fs : Levels) (x : Text) (o : Option Variable) (r : Part) → Stands fs x o r → array_at fs x ≡ Ok (elements_of r o)
unfolding array_at
array_stands fs x o r s = ap (λ q. by_place q x (λ p. Ok (elements_of p.part (bound fs p.level p.name)))) s.1 ∙ ap (λ v. Ok (elements_of s.0.part v)) (sym s.2) ∙ ap (λ m. Ok (elements_of m o)) (sym s.3)

pub no_key : (a : Part) (k : Option (Bor Text)) → k ≡ None → merge a (part_of (option_copied k)) ≡ a
no_key a k e = ap (λ j. merge a (part_of (option_copied j))) e ∙ merge_whole a

pub some_key : (a : Part) (k : Option (Bor Text)) (j : Bor Text) → k ≡ Some j → merge a (part_of (option_copied k)) ≡ merge a (element j.now)
some_key a k j e = ap (λ i. merge a (part_of (option_copied i))) e

-- a frame that is put where it stands
pub set_here : {A : Type 0} (fs : List A) (i : ℕ) (f : A) → slice_get fs i ≡ Some f → slice_set fs i f ≡ fs
set_here [] i f e = refl
set_here (g ∷ gs) zero f e = let same : g ≡ f = cc in ap (λ h. h ∷ gs) (sym same)
set_here (g ∷ gs) (suc i) f e = ap (λ hs. g ∷ hs) (set_here gs i f e)

ok_same : (a b : Frame) → ◌≡◌ {A = Result Frame FrameFault} (Ok a) (Ok b) → a ≡ b
ok_same a b e = cc

empty_level : (fs : Levels) (p : Spot) (f k : Frame) (o : Option Elements) (g : Option Text) → slice_get fs p.level ≡ Some f → ◌≡◌ {A = Result Frame FrameFault} (Ok (emptied f p.name o g)) (Ok k)
    → ◌≡◌ {A = Result Levels FrameFault} (Ok (emptied_at fs p o g)) (Ok (slice_set fs p.level k))
empty_level fs p f k None g at e = ap (λ (gs : Levels). Ok gs) (sym (set_here fs p.level f at) ∙ ap (slice_set fs p.level) (ok_same f k e))
empty_level fs p f k (Some es) None at e = ap (λ (gs : Levels). Ok gs) (unbind_is fs p.level f p.name at ∙ ap (slice_set fs p.level) (ok_same (without_variable f p.name) k e))
empty_level fs p f k (Some es) (Some g) at e = ap (λ (gs : Levels). Ok gs) (bind_is fs p.level f p.name (Array (unmatched g es)) at ∙ ap (slice_set fs p.level) (ok_same (with_variable f p.name (Array (unmatched g es))) k e))

-- a change of a frame is one of the frames
pub change_level : (c : Change) (fs : Levels) (p : Spot) (f k : Frame) (x : Text) → slice_get fs p.level ≡ Some f → change_frame c f p.name p.part x ≡ Ok k → change_levels c fs p x ≡ Ok (slice_set fs p.level k)
change_level (Assign t) fs p f k x at e = assign_level fs p f k _ at (ap (λ o. rebound f p.name (assigned p.part o t x)) (bound_at fs p.level p.name f at) ∙ e)
change_level (SetElements ps) fs p f k x at e = assign_level fs p f k _ at (ap (λ o. rebound f p.name (extended p.part o ps.items x)) (bound_at fs p.level p.name f at) ∙ e)
change_level Unset fs p f k x at e = remove_level fs p f k _ at (ap (λ o. unbound f p.name (left_of p.part o x)) (bound_at fs p.level p.name f at) ∙ e)
change_level (UnsetElements g) fs p f k x at e =
    ap (λ o. Ok (emptied_at fs p (elements_of p.part o) g)) (bound_at fs p.level p.name f at)
    ∙ empty_level fs p f k (elements_of p.part (lookup (bytes_eq p.name) f.variables)) g at e

refuses_rebound : (e : FrameError) (f : Frame) (b : Text) (o : Result Variable FrameFault) → Refuses e (rebound f b o) → Refuses e o
refuses_rebound e f b (Ok v) h = h
refuses_rebound e f b (Err g) h = h

refuses_unbound : (e : FrameError) (f : Frame) (b : Text) (o : Result (Option Variable) FrameFault) → Refuses e (unbound f b o) → Refuses e o
refuses_unbound e f b (Ok None) h = h
refuses_unbound e f b (Ok (Some v)) h = h
refuses_unbound e f b (Err g) h = h

pub refuses_level : (e : FrameError) (c : Change) (fs : Levels) (p : Spot) (f : Frame) (x : Text) → slice_get fs p.level ≡ Some f → Refuses e (change_frame c f p.name p.part x) → Refuses e (change_levels c fs p x)
refuses_level e (Assign t) fs p f x at h = refuses_bound e fs p _ (refuses_rebound e f p.name _ (subst (λ o. Refuses e (rebound f p.name (assigned p.part o t x))) (sym (bound_at fs p.level p.name f at)) h))
refuses_level e (SetElements ps) fs p f x at h = refuses_bound e fs p _ (refuses_rebound e f p.name _ (subst (λ o. Refuses e (rebound f p.name (extended p.part o ps.items x))) (sym (bound_at fs p.level p.name f at)) h))
refuses_level e Unset fs p f x at h = refuses_left e fs p _ (refuses_unbound e f p.name _ (subst (λ o. Refuses e (unbound f p.name (left_of p.part o x))) (sym (bound_at fs p.level p.name f at)) h))
refuses_level e (UnsetElements g) fs p f x at h = h

-- ## Changes of what is no link

unlinked : (o : Option Variable) → is_linked o ≡ false → link_of o ≡ None
unlinked None h = refl
unlinked (Some (Scalar t)) h = refl
unlinked (Some (Array es)) h = refl
unlinked (Some (Link q)) h = absurd (cc)

pub unlinked_level : (fs : Levels) (n : ℕ) (x : Text) (f : Frame) → slice_get fs n ≡ Some f → is_linked (lookup (bytes_eq x) f.variables) ≡ false → link_of (bound fs n x) ≡ None
unlinked_level fs n x f at h = unlinked (bound fs n x) (ap is_linked (bound_at fs n x f at) ∙ h)

pub unlinked_where : (fs : Levels) (n : ℕ) (x : Text) (f : Frame) (place : Option ℕ) → slice_get fs n ≡ Some f → IfSome place (λ i. is_linked (lookup (bytes_eq x) f.variables) ≡ false) → IfSome place (λ i. link_of (bound fs n x) ≡ None)
unlinked_where fs n x f None at h = tt
unlinked_where fs n x f (Some i) at h = unlinked_level fs n x f at h

pub change_unlinked_level : (c : Change) (fs : Levels) (p : Spot) (f k : Frame) (x : Text) (r : Result (Option Change) FrameError) → slice_get fs p.level ≡ Some f
    → IfOk r (λ left. MatchOption left ((is_linked (lookup (bytes_eq p.name) f.variables) ≡ false) × (change_frame c f p.name p.part x ≡ Ok k)) (λ d. (is_linked (lookup (bytes_eq p.name) f.variables) ≡ true) × (d ≡ c) × (k ≡ f)))
    → IfOk r (λ left. MatchOption left (IsChangedThere c fs p x (slice_set fs p.level k)) (λ d. (d ≡ c) × (slice_set fs p.level k ≡ fs)))
change_unlinked_level c fs p f k x (Err e) at h = tt
change_unlinked_level c fs p f k x (Ok None) at h = (unlinked_level fs p.level p.name f at h.0, change_level c fs p f k x at h.1)
change_unlinked_level c fs p f k x (Ok (Some d)) at h = (h.1, ap (slice_set fs p.level) h.2 ∙ set_here fs p.level f at)

-- what is no link is changed where it stands
pub changed_there : (c : Change) (fs gs : Levels) (n : ℕ) (b x : Text) (r : Part) → IsChangedThere c fs (over (start n b) r) x gs → change_levels c fs (end_of fs (over (start n b) r)) x ≡ Ok gs
changed_there c fs gs n b x r h = ap (λ (p : Spot). change_levels c fs p x) (target_none fs n b r h.0) ∙ h.1

pub refused_there : (e : FrameError) (c : Change) (fs : Levels) (n : ℕ) (b x : Text) (r : Part) → link_of (bound fs n b) ≡ None → Refuses e (change_levels c fs (over (start n b) r) x) → Refuses e (change_levels c fs (end_of fs (over (start n b) r)) x)
refused_there e c fs n b x r none h = subst (λ (p : Spot). Refuses e (change_levels c fs p x)) (sym (target_none fs n b r none)) h

pub change_bad_name : (e : FrameError) (c : Change) (fs : Levels) (x : Text) → place_named fs x ≡ None → IsRefusal e (BadName x) → Refuses e (change_named c fs x)
change_bad_name e c fs x none h = subst (λ o. Refuses e (by_place o x (λ p. change_levels c fs p x))) (sym none) h

pub change_at_place : (c : Change) (fs : Levels) (x : Text) (p : Spot) → place_named fs x ≡ Some p → change_named c fs x ≡ change_levels c fs p x
change_at_place c fs x p e = ap (λ o. by_place o x (λ p. change_levels c fs p x)) e

pub read_whole : (fs : Levels) (x : Text) (o : Option Variable) (a : Part) (k : Option (Bor Text)) → Stands fs x o (merge a (part_of (option_copied k))) → k ≡ None → read fs x ≡ value_of a o x
read_whole fs x o a k s e = read_stands fs x o _ s ∙ ap (λ m. value_of m o x) (no_key a k e)

pub read_key : (fs : Levels) (x : Text) (o : Option Variable) (a b : Part) (k : Option (Bor Text)) (j : Bor Text) → Stands fs x o (merge a (part_of (option_copied k))) → k ≡ Some j → b ≡ merge a (element j.now) → read fs x ≡ value_of b o x
read_key fs x o a b k j s e is = read_stands fs x o _ s ∙ ap (λ m. value_of m o x) (some_key a k j e ∙ sym is)

pub exists_whole : (fs : Levels) (x : Text) (o : Option Variable) (a : Part) (k : Option (Bor Text)) → Stands fs x o (merge a (part_of (option_copied k))) → k ≡ None → exists_at fs x ≡ Ok (is_held a o)
exists_whole fs x o a k s e = exists_stands fs x o _ s ∙ ap (λ m. Ok (is_held m o)) (no_key a k e)

pub exists_key : (fs : Levels) (x : Text) (o : Option Variable) (a b : Part) (k : Option (Bor Text)) (j : Bor Text) → Stands fs x o (merge a (part_of (option_copied k))) → k ≡ Some j → b ≡ merge a (element j.now) → exists_at fs x ≡ Ok (is_held b o)
exists_key fs x o a b k j s e is = exists_stands fs x o _ s ∙ ap (λ m. Ok (is_held m o)) (some_key a k j e ∙ sym is)

pub array_whole : (fs : Levels) (x : Text) (o : Option Variable) (a : Part) (k : Option (Bor Text)) → Stands fs x o (merge a (part_of (option_copied k))) → k ≡ None → array_at fs x ≡ Ok (elements_of a o)
array_whole fs x o a k s e = array_stands fs x o _ s ∙ ap (λ m. Ok (elements_of m o)) (no_key a k e)

pub array_key : (fs : Levels) (x : Text) (o : Option Variable) (a b : Part) (k : Option (Bor Text)) (j : Bor Text) → Stands fs x o (merge a (part_of (option_copied k))) → k ≡ Some j → b ≡ merge a (element j.now) → array_at fs x ≡ Ok (elements_of b o)
array_key fs x o a b k j s e is = array_stands fs x o _ s ∙ ap (λ m. Ok (elements_of m o)) (some_key a k j e ∙ sym is)

pub target_within : (fs : Levels) → AreFit 0 fs → (n : ℕ) (x : Text) (r : Part) (p : Spot) → n < length fs → end_of fs (over (start n x) r) ≡ p → p.level < length fs
target_within fs fit n x r p l e =
    let low = end_low fs fit (over (start n x) r) in
    let same = ap (λ (s : Spot). s.level) e in
    omega (arith, low, same)

-- a change of where the links end, after one that was given back
pub changed_at_end : (c d : Change) (fs gs : Levels) (p q : Spot) (x : Text) → d ≡ c → gs ≡ fs → end_of gs p ≡ q → change_levels c fs (end_of fs p) x ≡ change_levels d gs q x
changed_at_end c d fs gs p q x again same end =
    ap (λ (b : Change). change_levels b fs (end_of fs p) x) (sym again)
    ∙ ap (λ (us : Levels). change_levels d us (end_of us p) x) (sym same)
    ∙ ap (λ (s : Spot). change_levels d gs s x) end

pub change_is : (c : Change) (fs : Levels) (x : Text) (w : Name) (n : ℕ) → name_of x ≡ Some w → n ≡ level_of w.is_global (current fs) → change_named c fs x ≡ change_levels c fs (end_of fs (over (start n w.base) (part_of w.key))) x
change_is c fs x w n e is = change_at_place c fs x _ (place_good fs x w n e is) ∙ ap (λ (p : Spot). change_levels c fs p x) (sym (end_over fs (start n w.base) (part_of w.key)))

-- the changes
pub written_is : (fs : Levels) (x t : Text) → written fs x t ≡ change_named (Assign t) fs x
unfolding written
written_is fs x t = refl

pub elements_set_is : (fs : Levels) (x : Text) (ps : Vec (Text × Text) Global) → elements_set fs x ps.items ≡ change_named (SetElements ps) fs x
unfolding elements_set
elements_set_is fs x ps = refl

pub made_array_is : (fs : Levels) (x : Text) (ps : Vec (Text × Text) Global) → ps.items ≡ [] → made_array fs x ≡ change_named (SetElements ps) fs x
unfolding made_array elements_set
made_array_is fs x ps e = ap (λ (es : Elements). elements_set fs x es) (sym e)

pub elements_unset_is : (fs : Levels) (x : Text) (g : Option Text) → elements_unset fs x g ≡ change_named (UnsetElements g) fs x
unfolding elements_unset
elements_unset_is fs x g = refl

pub removed_is : (fs : Levels) (x : Text) → removed fs x ≡ change_named Unset fs x
unfolding removed
removed_is fs x = refl

pub change_fit : (c : Change) (fs gs : Levels) (x : Text) → AreFit 0 fs → change_named c fs x ≡ Ok gs → AreFit 0 gs
change_fit (Assign t) fs gs x fit e = written_fit fs gs x t fit (written_is fs x t ∙ e)
change_fit (SetElements ps) fs gs x fit e = elements_set_fit fs gs x ps.items fit (elements_set_is fs x ps ∙ e)
change_fit Unset fs gs x fit e = removed_fit fs gs x fit (removed_is fs x ∙ e)
change_fit (UnsetElements g) fs gs x fit e = elements_unset_fit fs gs x g fit (elements_unset_is fs x g ∙ e)

-- ## What is lent

-- what is set is no link
assigned_over : (o : Option Variable) (r : Part) (t x : Text) (v : Variable) → assigned r o t x ≡ Ok v → IsNoLink o
assigned_over None r t x v e = tt
assigned_over (Some (Scalar s)) r t x v e = tt
assigned_over (Some (Array es)) r t x v e = tt
assigned_over (Some (Link q)) whole t x v e = absurd (cc)
assigned_over (Some (Link q)) (element k) t x v e = absurd (cc)
assigned_over (Some (Link q)) nested t x v e = absurd (cc)

bound_over : (fs gs : Levels) (p : Spot) (o : Result Variable FrameFault) → bound_to fs p o ≡ Ok gs → (v : Variable) × (o ≡ Ok v)
bound_over fs gs p (Ok v) e = (v, refl)
bound_over fs gs p (Err f) e = absurd (cc)

pub lent_fit : (fs gs : Levels) (p : Spot) (t x : Text) → AreFit 0 fs → change_levels (Assign t) fs p x ≡ Ok gs → AreFit 0 gs
lent_fit fs gs p t x fit e =
    let made = bound_over fs gs p (assigned p.part (bound fs p.level p.name) t x) e in
    fit_bound fs gs fit p (assigned_over (bound fs p.level p.name) p.part t x made.0 made.1) _ (λ v. assigned_plain p.part (bound fs p.level p.name) t x v) e

-- what is read where a name's links end
read_there : (fs : Levels) (x : Text) (p : Spot) → place_named fs x ≡ Some p → read fs x ≡ value_of p.part (bound fs p.level p.name) x
unfolding read
read_there fs x p e = ap (λ o. by_place o x (λ (q : Spot). value_of q.part (bound fs q.level q.name) x)) e

pub read_is : (fs : Levels) (x : Text) (w : Name) (n : ℕ) → name_of x ≡ Some w → n ≡ level_of w.is_global (current fs)
    → read fs x ≡ value_of (end_of fs (over (start n w.base) (part_of w.key))).part (bound fs (end_of fs (over (start n w.base) (part_of w.key))).level (end_of fs (over (start n w.base) (part_of w.key))).name) x
read_is fs x w n e is =
    read_there fs x _ (place_good fs x w n e is)
    ∙ ap (λ (p : Spot). value_of p.part (bound fs p.level p.name) x) (sym (end_over fs (start n w.base) (part_of w.key)))

pub below_current : (g : Bool) (fs : Levels) (n : ℕ) → n ≡ level_of g (current fs) → 0 < length fs → n < length fs
below_current g [] n e h = absurd (omega arith)
below_current true (f ∷ fs) n e h = omega arith
below_current false (f ∷ fs) n e h = omega arith
