-- What keeps a chain sound, and why its links end.
use Rattle.std.proofs.Common.{◌≡◌, ℕ, zero, suc, ◌+◌, ◌<◌, ◌≤◌, ◌==◌, ◌⊎◌, inl, inr, Bool, true, false, [], ◌∷◌, length, take, slice_get, Option, Some, None, refl, sym, ◌∙◌, ap, subst, arith, true≢false}
use Rattle.std.proofs.lemmas.Bool.Decides.{nat_tests}
use Rattle.std.specs.List.{IsDistinct}
use Rattle.std.specs.Map.{lookup, remove_entry, keys_of}
use Rattle.std.specs.Str.{bytes_eq}
use Rattle.indexmap.specs.IndexMap.{insert_entry}
use Rattle.tcl_frames.specs.Names.{Text}
use Rattle.tcl_frames.specs.Variables.{Frame, Variables, Part, merge, part_of}
use Rattle.tcl_frames.specs.Places.{Levels, Spot, bound, bound_in, through, under, next, walk, links_in, links, end_of}
use Rattle.tcl_frames.specs.Sound.{IsWithin, AreWithin, hop_to, hop_by, hop, Ends, IsFit, AreFit}
use Rattle.tcl_frames.specs.declared.variable.LinkTarget.{LinkTarget}
use Rattle.tcl_frames.specs.declared.variable.Variable.{Variable}
use Rattle.tcl_frames.specs.declared.variable.Variable.TheVariants.{Scalar, Array, Link}
use Rattle.tcl_frames.proofs.EntryLemmas.{same_bytes}
use Rattle.tcl_frames.proofs.ListLemmas.{link_at, links_inserted, links_removed, lookup_inserted, lookup_apart, lookup_removed, unique_inserted, unique_removed, within_inserted, within_removed, within_found, bytes_flip, at_true, at_false}
use Rattle.tcl_frames.proofs.WalkLemmas.{test_of, walk_on, walk_none, ends_at, ends_step, ends_back, ends_not_zero, ends_more, ends_add, ends_same, ends_fresh, ends_again}

-- a name that is no link
abbrev pub IsNoLink : Option Variable → Type 0
IsNoLink None = Unit {0}
IsNoLink (Some (Scalar t)) = Unit {0}
IsNoLink (Some (Array es)) = Unit {0}
IsNoLink (Some (Link q)) = ⊥

-- a name that holds no value
abbrev pub IsFree : Option Variable → Type 0
IsFree None = Unit {0}
IsFree (Some (Scalar t)) = ⊥
IsFree (Some (Array es)) = ⊥
IsFree (Some (Link q)) = Unit {0}

pub no_hop : (n : ℕ) (o : Option Variable) → IsNoLink o → hop_by n o ≡ None
no_hop n None h = refl
no_hop n (Some (Scalar t)) h = refl
no_hop n (Some (Array es)) h = refl
no_hop n (Some (Link q)) h = absurd h

no_count : (o : Option Variable) → IsNoLink o → link_at o ≡ 0
no_count None h = refl
no_count (Some (Scalar t)) h = refl
no_count (Some (Array es)) h = refl
no_count (Some (Link q)) h = absurd h

no_level : (n : ℕ) (v : Variable) → IsNoLink (Some v) → IsWithin n v
no_level n (Scalar t) h = tt
no_level n (Array es) h = tt
no_level n (Link q) h = absurd h

-- ## A frame

-- a name that is no link gets a value
hop_valued : (n : ℕ) (es : Variables) (x : Text) (v : Variable) → IsNoLink (lookup (bytes_eq x) es) → IsNoLink (Some v) → (s : Option Text) → hop n (insert_entry bytes_eq es x v) s ≡ hop n es s
hop_valued n es x v old new None = refl
hop_valued n es x v old new (Some y) =
    elim (test_of (bytes_eq y x)) [
      | inl t ↦
          let same = same_bytes y x t in
          ap (λ z. hop_by n (lookup (bytes_eq z) (insert_entry bytes_eq es x v))) same ∙ ap (hop_by n) (lookup_inserted es x v) ∙ no_hop n (Some v) new
          ∙ sym (ap (λ z. hop_by n (lookup (bytes_eq z) es)) same ∙ no_hop n (lookup (bytes_eq x) es) old)
      | inr t ↦ ap (hop_by n) (lookup_apart es x y v t)
    ]

pub fit_valued : (n : ℕ) (f : Frame) (x : Text) (v : Variable) → IsNoLink (lookup (bytes_eq x) f.variables) → IsNoLink (Some v) → IsFit n f → IsFit n (record { words = f.words; variables = insert_entry bytes_eq f.variables x v })
fit_valued n f x v old new fit =
    let count : links_in (insert_entry bytes_eq f.variables x v) ≡ links_in f.variables = let a = links_inserted f.variables x v in let b = no_count _ old in let c = no_count (Some v) new in omega arith in
    record {
      unique = unique_inserted f.variables x v fit.unique;
      within = within_inserted n f.variables x v (no_level n v new) fit.within;
      end = λ y. subst (λ k. Ends k (hop n (insert_entry bytes_eq f.variables x v)) (Some y)) (sym count)
          (ends_same (links_in f.variables) (hop n f.variables) (hop n (insert_entry bytes_eq f.variables x v)) (hop_valued n f.variables x v old new) (Some y) (fit.end y));
    }

-- a name that is no link is taken out
hop_removed : (n : ℕ) (es : Variables) (x : Text) → IsDistinct bytes_eq (keys_of es) → IsNoLink (lookup (bytes_eq x) es) → (s : Option Text) → hop n (remove_entry (bytes_eq x) es) s ≡ hop n es s
hop_removed n es x unique old None = refl
hop_removed n es x unique old (Some y) =
    elim (test_of (bytes_eq x y)) [
      | inl t ↦
          ap (hop_by n) (lookup_removed es x y unique ∙ at_true _ _ _ t)
          ∙ sym (ap (λ z. hop_by n (lookup (bytes_eq z) es)) (sym (same_bytes x y t)) ∙ no_hop n (lookup (bytes_eq x) es) old)
      | inr t ↦ ap (hop_by n) (lookup_removed es x y unique ∙ at_false _ _ _ t)
    ]

pub fit_removed : (n : ℕ) (f : Frame) (x : Text) → IsNoLink (lookup (bytes_eq x) f.variables) → IsFit n f → IsFit n (record { words = f.words; variables = remove_entry (bytes_eq x) f.variables })
fit_removed n f x old fit =
    let count : links_in (remove_entry (bytes_eq x) f.variables) ≡ links_in f.variables = let a = links_removed f.variables x in let b = no_count _ old in omega arith in
    record {
      unique = unique_removed f.variables x fit.unique;
      within = within_removed n f.variables x fit.within;
      end = λ y. subst (λ k. Ends k (hop n (remove_entry (bytes_eq x) f.variables)) (Some y)) (sym count)
          (ends_same (links_in f.variables) (hop n f.variables) (hop n (remove_entry (bytes_eq x) f.variables)) (hop_removed n f.variables x fit.unique old) (Some y) (fit.end y));
    }

-- a name that holds no value is made a link
abbrev is_name : Text → Option Text → Bool
is_name x None = false
is_name x (Some y) = bytes_eq x y

module _ (n : ℕ) (es : Variables) (x : Text) (q : LinkTarget) where
  abbrev linked_es : Variables
  linked_es = insert_entry bytes_eq es x (Link q)

  hop_same : (s : Option Text) → is_name x s ≡ false → hop n linked_es s ≡ hop n es s
  hop_same None t = refl
  hop_same (Some y) t = ap (hop_by n) (lookup_apart es x y (Link q) (bytes_flip y x ∙ t))

  hop_anew : (s : Option Text) → is_name x s ≡ true → hop n linked_es s ≡ Some (hop_to (q.level == n) q.name)
  hop_anew None t = absurd (true≢false (sym t))
  hop_anew (Some y) t = ap (λ z. hop_by n (lookup (bytes_eq z) linked_es)) (sym (same_bytes x y t)) ∙ ap (hop_by n) (lookup_inserted es x (Link q))

  hop_stop : (q.level ≡ n → (bytes_eq x q.name ≡ false) × IsNoLink (lookup (bytes_eq q.name) es)) → (b : Bool) → (q.level == n) ≡ b → hop n linked_es (hop_to b q.name) ≡ None
  hop_stop far false t = refl
  hop_stop far true t =
      let there = far (grind (arith, nat_tests)) in
      hop_same (Some q.name) there.0 ∙ no_hop n (lookup (bytes_eq q.name) es) there.1

  hop_was : (p : LinkTarget) → lookup (bytes_eq x) es ≡ Some (Link p) → (s : Option Text) → is_name x s ≡ true → (b : Option Text) × (hop n es s ≡ Some b)
  hop_was p old None t = absurd (true≢false (sym t))
  hop_was p old (Some y) t = (hop_to (p.level == n) p.name, ap (λ z. hop_by n (lookup (bytes_eq z) es)) (sym (same_bytes x y t)) ∙ ap (hop_by n) old)

linked_end : (n : ℕ) (es : Variables) (x : Text) (q : LinkTarget) → ((y : Text) → Ends (links_in es) (hop n es) (Some y)) → (q.level ≡ n → (bytes_eq x q.name ≡ false) × IsNoLink (lookup (bytes_eq q.name) es))
    → (o : Option Variable) → lookup (bytes_eq x) es ≡ o → IsFree o → (y : Text) → Ends (links_in (insert_entry bytes_eq es x (Link q))) (hop n (insert_entry bytes_eq es x (Link q))) (Some y)
linked_end n es x q end far None old free y =
    let count : links_in (insert_entry bytes_eq es x (Link q)) ≡ suc (links_in es) = let a = links_inserted es x (Link q) in let b = ap link_at old in omega arith in
    subst (λ k. Ends k (hop n (insert_entry bytes_eq es x (Link q))) (Some y)) (sym count)
    (ends_fresh (hop n es) (hop n (insert_entry bytes_eq es x (Link q))) (is_name x) (hop_to (q.level == n) q.name) (hop_same n es x q) (hop_anew n es x q) (hop_stop n es x q far (q.level == n) refl) (links_in es) (Some y) (end y))
linked_end n es x q end far (Some (Scalar t)) old free y = absurd free
linked_end n es x q end far (Some (Array fs)) old free y = absurd free
linked_end n es x q end far (Some (Link p)) old free y =
    let count : links_in (insert_entry bytes_eq es x (Link q)) ≡ links_in es = let a = links_inserted es x (Link q) in let b = ap link_at old in omega arith in
    subst (λ k. Ends k (hop n (insert_entry bytes_eq es x (Link q))) (Some y)) (sym count)
    (ends_again (hop n es) (hop n (insert_entry bytes_eq es x (Link q))) (is_name x) (hop_to (q.level == n) q.name) (hop_same n es x q) (hop_anew n es x q) (hop_stop n es x q far (q.level == n) refl) (hop_was n es x q p old) (links_in es) (Some y) (end y))

pub fit_linked : (n : ℕ) (f : Frame) (x : Text) (q : LinkTarget) → IsFree (lookup (bytes_eq x) f.variables) → q.level ≤ n → (q.level ≡ n → (bytes_eq x q.name ≡ false) × IsNoLink (lookup (bytes_eq q.name) f.variables)) → IsFit n f → IsFit n (record { words = f.words; variables = insert_entry bytes_eq f.variables x (Link q) })
fit_linked n f x q free low far fit = record {
  unique = unique_inserted f.variables x (Link q) fit.unique;
  within = within_inserted n f.variables x (Link q) low fit.within;
  end = linked_end n f.variables x q fit.end far (lookup (bytes_eq x) f.variables) refl free;
}

-- ## The frames

pub fit_nil : (n : ℕ) → AreFit n []
unfolding AreFit
fit_nil n = tt

pub fit_cons : (n : ℕ) (f : Frame) (fs : Levels) → IsFit n f → AreFit (suc n) fs → AreFit n (f ∷ fs)
unfolding AreFit
fit_cons n f fs h later = (h, later)

pub fit_head : (n : ℕ) (f : Frame) (fs : Levels) → AreFit n (f ∷ fs) → IsFit n f
unfolding AreFit
fit_head n f fs h = h.0

pub fit_tail : (n : ℕ) (f : Frame) (fs : Levels) → AreFit n (f ∷ fs) → AreFit (suc n) fs
unfolding AreFit
fit_tail n f fs h = h.1

pub fit_at : (n : ℕ) (fs : Levels) (i : ℕ) (f : Frame) → AreFit n fs → slice_get fs i ≡ Some f → IsFit (n + i) f
fit_at n [] i f h at = absurd (cc)
fit_at n (g ∷ fs) zero f h at = let same : g ≡ f = cc in let level : n + 0 ≡ n = omega arith in subst (λ k. IsFit k f) (sym level) (subst (IsFit n) same (fit_head n g fs h))
fit_at n (g ∷ fs) (suc i) f h at = let level : suc n + i ≡ n + suc i = omega arith in subst (λ k. IsFit k f) level (fit_at (suc n) fs i f (fit_tail n g fs h) at)

-- ## The links end

pub bound_at : (fs : Levels) (n : ℕ) (x : Text) (f : Frame) → slice_get fs n ≡ Some f → bound fs n x ≡ lookup (bytes_eq x) f.variables
unfolding bound
bound_at fs n x f at = ap (λ o. bound_in o x) at

pub bound_past : (fs : Levels) (n : ℕ) (x : Text) → slice_get fs n ≡ None → bound fs n x ≡ None
unfolding bound
bound_past fs n x at = ap (λ o. bound_in o x) at

next_is : (fs : Levels) (p : Spot) (o : Option Variable) → bound fs p.level p.name ≡ o → next fs p ≡ through o p.part
unfolding next
next_is fs p o e = ap (λ b. through b p.part) e

links_zero : links [] ≡ 0
unfolding links
links_zero = refl

links_add : (f : Frame) (fs : Levels) → links (f ∷ fs) ≡ links_in f.variables + links fs
unfolding links
links_add f fs = refl

links_up : (fs : Levels) (n : ℕ) (f : Frame) → slice_get fs n ≡ Some f → links (take (suc n) fs) ≡ links (take n fs) + links_in f.variables
links_up [] n f at = absurd (cc)
links_up (g ∷ fs) zero f at = let same : g ≡ f = cc in let a = links_add g [] in let b = ap (λ (h : Frame). links_in h.variables) same in omega (arith, links_zero)
links_up (g ∷ fs) (suc n) f at = let a = links_add g (take (suc n) fs) in let b = links_add g (take n fs) in let c = links_up fs n f at in omega arith

take_none : (fs : Levels) (n : ℕ) → slice_get fs n ≡ None → take (suc n) fs ≡ take n fs
take_none [] zero at = refl
take_none [] (suc n) at = refl
take_none (g ∷ fs) zero at = absurd (cc)
take_none (g ∷ fs) (suc n) at = ap (λ r. g ∷ r) (take_none fs n at)

link_cases : (o : Option Variable) → IsNoLink o ⊎ ((q : LinkTarget) × (o ≡ Some (Link q)))
link_cases None = inl tt
link_cases (Some (Scalar t)) = inl tt
link_cases (Some (Array es)) = inl tt
link_cases (Some (Link q)) = inr (q, refl)

no_through : (o : Option Variable) (part : Part) → IsNoLink o → through o part ≡ None
no_through None part h = refl
no_through (Some (Scalar t)) part h = refl
no_through (Some (Array es)) part h = refl
no_through (Some (Link q)) part h = absurd h

pub next_none : (fs : Levels) (p : Spot) → IsNoLink (bound fs p.level p.name) → next fs p ≡ None
next_none fs p h = next_is fs p _ refl ∙ no_through (bound fs p.level p.name) p.part h

through_no : (o : Option Variable) (part : Part) → through o part ≡ None → IsNoLink o
through_no None part h = tt
through_no (Some (Scalar t)) part h = tt
through_no (Some (Array es)) part h = tt
through_no (Some (Link q)) part h = cc

-- what is at the end is no link
pub none_next : (fs : Levels) (p : Spot) → next fs p ≡ None → IsNoLink (bound fs p.level p.name)
none_next fs p h = through_no (bound fs p.level p.name) p.part (sym (next_is fs p _ refl) ∙ h)

suc_plus : (k n : ℕ) → suc (k + n) ≡ suc k + n
suc_plus k n = omega arith

equal_levels : (m n : ℕ) → (m == n) ≡ true → m ≡ n
equal_levels m n t = grind (arith, nat_tests)

lower_level : (m n : ℕ) → m ≤ n → (m == n) ≡ false → m < n
lower_level m n l t = grind (arith, nat_tests)

-- along one level, and below it where that is left
level_ends : (fs : Levels) (n b : ℕ) (f : Frame) → slice_get fs n ≡ Some f → AreWithin n f.variables → ((p : Spot) → p.level < n → Ends b (next fs) p)
    → (k : ℕ) (x : Text) (part : Part) → Ends k (hop n f.variables) (Some x) → Ends (k + b) (next fs) (record { level = n; name = x; part = part })
level_ends fs n b f at within below zero x part h =
    elim (link_cases (lookup (bytes_eq x) f.variables)) [
      | inl plain ↦ ends_at (0 + b) (next fs) _ (next_none fs (record { level = n; name = x; part = part }) (subst IsNoLink (sym (bound_at fs n x f at)) plain))
      | inr s ↦ absurd (ends_not_zero (hop n f.variables) (Some x) _ (ap (hop_by n) s.1) h)
    ]
level_ends fs n b f at within below (suc k) x part h =
    elim (link_cases (lookup (bytes_eq x) f.variables)) [
      | inl plain ↦ ends_at (suc k + b) (next fs) _ (next_none fs (record { level = n; name = x; part = part }) (subst IsNoLink (sym (bound_at fs n x f at)) plain))
      | inr s ↦
          let rest = ends_back k (hop n f.variables) (Some x) _ (ap (hop_by n) s.1) h in
          let on = next_is fs (record { level = n; name = x; part = part }) (Some (Link s.0)) (bound_at fs n x f at ∙ s.1) in
          let low : s.0.level ≤ n = within_found n f.variables x (Link s.0) within s.1 in
          let there : Ends (k + b) (next fs) (under s.0 part) = elim (test_of (s.0.level == n)) [
            | inl t ↦
                let same = equal_levels s.0.level n t in
                let rest_here : Ends k (hop n f.variables) (Some s.0.name) = subst (λ v. Ends k (hop n f.variables) (hop_to v s.0.name)) t rest in
                subst (λ m. Ends (k + b) (next fs) (record { level = m; name = s.0.name; part = merge (part_of s.0.key) part })) (sym same)
                (level_ends fs n b f at within below k s.0.name (merge (part_of s.0.key) part) rest_here)
            | inr t ↦ ends_add k b (next fs) (under s.0 part) (below (under s.0 part) (lower_level s.0.level n low t))
          ] in
          subst (λ m. Ends m (next fs) (record { level = n; name = x; part = part })) (suc_plus k b) (ends_step (k + b) (next fs) _ (under s.0 part) on there)
    ]

pub get_cases : (fs : Levels) (n : ℕ) → (slice_get fs n ≡ None) ⊎ ((f : Frame) × (slice_get fs n ≡ Some f))
get_cases fs n = by (slice_get fs n) refl
  where
    by : (o : Option Frame) → slice_get fs n ≡ o → (slice_get fs n ≡ None) ⊎ ((f : Frame) × (slice_get fs n ≡ Some f))
    by None e = inl e
    by (Some f) e = inr (f, e)

earlier : (m n : ℕ) → m < suc n → (m < n) ⊎ (m ≡ n)
earlier m n l = grind arith

ends_below : (fs : Levels) → AreFit 0 fs → (n : ℕ) (p : Spot) → p.level < n → Ends (links (take n fs)) (next fs) p
ends_below fs fit zero p l = absurd (omega arith)
ends_below fs fit (suc n) p l =
    elim (get_cases fs n) [
      | inl none ↦ elim (earlier p.level n l) [
        | inl low ↦ subst (λ (gs : Levels). Ends (links gs) (next fs) p) (sym (take_none fs n none)) (ends_below fs fit n p low)
        | inr same ↦ ends_at (links (take (suc n) fs)) (next fs) p (next_none fs p (subst IsNoLink (sym (bound_past fs p.level p.name (ap (slice_get fs) same ∙ none))) tt))
      ]
      | inr some ↦
          let up = links_up fs n some.0 some.1 in
          elim (earlier p.level n l) [
            | inl low ↦ ends_more (links (take n fs)) (links (take (suc n) fs)) (next fs) p (omega arith) (ends_below fs fit n p low)
            | inr same ↦
                let here = fit_at 0 fs n some.0 fit some.1 in
                let zero_n : 0 + n ≡ n = omega arith in
                let within = subst (λ m. AreWithin m some.0.variables) zero_n here.within in
                let end = subst (λ m. (x : Text) → Ends (links_in some.0.variables) (hop m some.0.variables) (Some x)) zero_n here.end in
                let sums : links_in some.0.variables + links (take n fs) ≡ links (take (suc n) fs) = omega arith in
                let at_n = level_ends fs n (links (take n fs)) some.0 some.1 within (ends_below fs fit n) (links_in some.0.variables) p.name p.part (end p.name) in
                subst (λ k. Ends k (next fs) p) sums (subst (λ m. Ends (links_in some.0.variables + links (take n fs)) (next fs) (record { level = m; name = p.name; part = p.part })) (sym same) at_n)
          ]
    ]

take_whole : (fs : Levels) (n : ℕ) → length fs ≤ n → take n fs ≡ fs
take_whole [] zero l = refl
take_whole [] (suc n) l = refl
take_whole (f ∷ fs) zero l = absurd (omega arith)
take_whole (f ∷ fs) (suc n) l = ap (λ r. f ∷ r) (take_whole fs n (omega arith))

-- No walk takes more steps than there are links.
pub links_end : (fs : Levels) → AreFit 0 fs → (p : Spot) → Ends (links fs) (next fs) p
links_end fs fit p =
    let n = suc (p.level + length fs) in
    subst (λ (gs : Levels). Ends (links gs) (next fs) p) (take_whole fs n (omega arith)) (ends_below fs fit n p (omega arith))

-- so the end is no link
pub end_no_link : (fs : Levels) → AreFit 0 fs → (p : Spot) → IsNoLink (bound fs (end_of fs p).level (end_of fs p).name)
unfolding end_of
end_no_link fs fit p = none_next fs (walk (links fs) (next fs) p) (links_end fs fit p)

-- and a step onward leads to the same end
pub end_onward : (fs : Levels) → AreFit 0 fs → (p q : Spot) → next fs p ≡ Some q → end_of fs p ≡ end_of fs q
unfolding end_of
end_onward fs fit p q e = walk_on (links fs) (next fs) p q e (links_end fs fit p)

pub end_here : (fs : Levels) (p : Spot) → next fs p ≡ None → end_of fs p ≡ p
unfolding end_of
end_here fs p e = walk_none (links fs) (next fs) p e
