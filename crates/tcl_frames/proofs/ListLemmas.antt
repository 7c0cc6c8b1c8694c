-- What an insertion or a removal does to the variables of a level.
use Rattle.std.proofs.Common.{◌≡◌, ℕ, ◌+◌, inl, inr, Bool, true, false, cond, List, [], ◌∷◌, Option, Some, None, refl, sym, ◌∙◌, ap, subst, arith}
use Rattle.std.specs.Cmp.Lexicographic.{bytes_decides, nat_list_eq_equiv}
use Rattle.std.specs.List.{IsDistinct, AllByRecursion}
use Rattle.std.specs.Map.{lookup, remove_entry, keys_of}
use Rattle.std.specs.Str.{bytes_eq}
use Rattle.std.proofs.lemmas.Map.{lookup-remove_entry}
use Rattle.indexmap.specs.IndexMap.{insert_entry}
use Rattle.tcl_frames.specs.Names.{Text}
use Rattle.tcl_frames.specs.Variables.{Variables}
use Rattle.tcl_frames.specs.Places.{plus_link, links_in}
use Rattle.tcl_frames.specs.Sound.{IsWithin, AreWithin}
use Rattle.tcl_frames.specs.declared.variable.Variable.{Variable}
use Rattle.tcl_frames.specs.declared.variable.Variable.TheVariants.{Scalar, Array, Link}
use Rattle.tcl_frames.proofs.EntryLemmas.{same_bytes}
use Rattle.tcl_frames.proofs.WalkLemmas.{test_of}

pub bytes_same : (x y : Text) → x ≡ y → bytes_eq x y ≡ true
bytes_same x y e = (bytes_decides x y).1 e

pub bytes_self : (x : Text) → bytes_eq x x ≡ true
bytes_self x = bytes_same x x refl

pub bytes_flip : (x y : Text) → bytes_eq x y ≡ bytes_eq y x
bytes_flip x y = nat_list_eq_equiv.symm x y

pub at_true : {A : Type 0} (b : Bool) (x y : A) → b ≡ true → cond b x y ≡ x
at_true b x y e = ap (λ c. cond c x y) e

pub at_false : {A : Type 0} (b : Bool) (x y : A) → b ≡ false → cond b x y ≡ y
at_false b x y e = ap (λ c. cond c x y) e

module _ {V : Type 0} where
  -- what stands first, and what comes later
  pub lookup_first : (q : Text) (e : Text × V) (es : List (Text × V)) → bytes_eq q e.0 ≡ true → lookup (bytes_eq q) (e ∷ es) ≡ Some e.1
  lookup_first q e es h = at_true _ _ _ h

  pub lookup_later : (q : Text) (e : Text × V) (es : List (Text × V)) → bytes_eq q e.0 ≡ false → lookup (bytes_eq q) (e ∷ es) ≡ lookup (bytes_eq q) es
  lookup_later q e es h = at_false _ _ _ h

  pub insert_first : (e : Text × V) (es : List (Text × V)) (x : Text) (v : V) → bytes_eq x e.0 ≡ true → insert_entry bytes_eq (e ∷ es) x v ≡ (e.0, v) ∷ es
  insert_first e es x v h = at_true _ _ _ h

  pub insert_later : (e : Text × V) (es : List (Text × V)) (x : Text) (v : V) → bytes_eq x e.0 ≡ false → insert_entry bytes_eq (e ∷ es) x v ≡ e ∷ insert_entry bytes_eq es x v
  insert_later e es x v h = at_false _ _ _ h

  pub remove_first : (e : Text × V) (es : List (Text × V)) (x : Text) → bytes_eq x e.0 ≡ true → remove_entry (bytes_eq x) (e ∷ es) ≡ es
  remove_first e es x h = at_true _ _ _ h

  pub remove_later : (e : Text × V) (es : List (Text × V)) (x : Text) → bytes_eq x e.0 ≡ false → remove_entry (bytes_eq x) (e ∷ es) ≡ e ∷ remove_entry (bytes_eq x) es
  remove_later e es x h = at_false _ _ _ h

  pub lookup_inserted : (es : List (Text × V)) (x : Text) (v : V) → lookup (bytes_eq x) (insert_entry bytes_eq es x v) ≡ Some v
  lookup_inserted [] x v = at_true _ _ _ (bytes_self x)
  lookup_inserted (e ∷ es) x v =
      elim (test_of (bytes_eq x e.0)) [
        | inl h ↦ ap (lookup (bytes_eq x)) (insert_first e es x v h) ∙ lookup_first x (e.0, v) es h
        | inr h ↦ ap (lookup (bytes_eq x)) (insert_later e es x v h) ∙ lookup_later x e (insert_entry bytes_eq es x v) h ∙ lookup_inserted es x v
      ]

  pub lookup_apart : (es : List (Text × V)) (x y : Text) (v : V) → bytes_eq y x ≡ false → lookup (bytes_eq y) (insert_entry bytes_eq es x v) ≡ lookup (bytes_eq y) es
  lookup_apart [] x y v apart = at_false _ _ _ apart
  lookup_apart (e ∷ es) x y v apart =
      elim (test_of (bytes_eq x e.0)) [
        | inl h ↦
            let other : bytes_eq y e.0 ≡ false = ap (bytes_eq y) (sym (same_bytes x e.0 h)) ∙ apart in
            ap (lookup (bytes_eq y)) (insert_first e es x v h) ∙ lookup_later y (e.0, v) es other ∙ sym (lookup_later y e es other)
        | inr h ↦ ap (lookup (bytes_eq y)) (insert_later e es x v h) ∙ ap (cond (bytes_eq y e.0) (Some e.1)) (lookup_apart es x y v apart)
      ]

  pub lookup_removed : (es : List (Text × V)) (x y : Text) → IsDistinct bytes_eq (keys_of es) → lookup (bytes_eq y) (remove_entry (bytes_eq x) es) ≡ cond (bytes_eq x y) None (lookup (bytes_eq y) es)
  lookup_removed es x y unique = lookup-remove_entry nat_list_eq_equiv (bytes_eq x) (nat_list_eq_equiv.congr x) y es unique

  -- names stay apart
  apart_inserted : (k : Text) (es : List (Text × V)) (x : Text) (v : V) → bytes_eq k x ≡ false → AllByRecursion (λ y. bytes_eq k y ≡ false) (keys_of es) → AllByRecursion (λ y. bytes_eq k y ≡ false) (keys_of (insert_entry bytes_eq es x v))
  apart_inserted k [] x v apart h = (apart, tt)
  apart_inserted k (e ∷ es) x v apart h =
      elim (test_of (bytes_eq x e.0)) [
        | inl t ↦ subst (λ fs. AllByRecursion (λ y. bytes_eq k y ≡ false) (keys_of fs)) (sym (insert_first e es x v t)) h
        | inr t ↦ subst (λ fs. AllByRecursion (λ y. bytes_eq k y ≡ false) (keys_of fs)) (sym (insert_later e es x v t)) (h.0, apart_inserted k es x v apart h.1)
      ]

  pub unique_inserted : (es : List (Text × V)) (x : Text) (v : V) → IsDistinct bytes_eq (keys_of es) → IsDistinct bytes_eq (keys_of (insert_entry bytes_eq es x v))
  unfolding IsDistinct
  unique_inserted [] x v h = (tt, tt)
  unique_inserted (e ∷ es) x v h =
      elim (test_of (bytes_eq x e.0)) [
        | inl t ↦ subst (λ (fs : List (Text × V)). IsDistinct bytes_eq (keys_of fs)) (sym (insert_first e es x v t)) h
        | inr t ↦ subst (λ (fs : List (Text × V)). IsDistinct bytes_eq (keys_of fs)) (sym (insert_later e es x v t)) (apart_inserted e.0 es x v (bytes_flip e.0 x ∙ t) h.0, unique_inserted es x v h.1)
      ]

  apart_removed : (k : Text) (es : List (Text × V)) (x : Text) → AllByRecursion (λ y. bytes_eq k y ≡ false) (keys_of es) → AllByRecursion (λ y. bytes_eq k y ≡ false) (keys_of (remove_entry (bytes_eq x) es))
  apart_removed k [] x h = tt
  apart_removed k (e ∷ es) x h =
      elim (test_of (bytes_eq x e.0)) [
        | inl t ↦ subst (λ fs. AllByRecursion (λ y. bytes_eq k y ≡ false) (keys_of fs)) (sym (remove_first e es x t)) h.1
        | inr t ↦ subst (λ fs. AllByRecursion (λ y. bytes_eq k y ≡ false) (keys_of fs)) (sym (remove_later e es x t)) (h.0, apart_removed k es x h.1)
      ]

  pub unique_removed : (es : List (Text × V)) (x : Text) → IsDistinct bytes_eq (keys_of es) → IsDistinct bytes_eq (keys_of (remove_entry (bytes_eq x) es))
  unfolding IsDistinct
  unique_removed [] x h = tt
  unique_removed (e ∷ es) x h =
      elim (test_of (bytes_eq x e.0)) [
        | inl t ↦ subst (λ (fs : List (Text × V)). IsDistinct bytes_eq (keys_of fs)) (sym (remove_first e es x t)) h.1
        | inr t ↦ subst (λ (fs : List (Text × V)). IsDistinct bytes_eq (keys_of fs)) (sym (remove_later e es x t)) (apart_removed e.0 es x h.0, unique_removed es x h.1)
      ]

-- how many links a name is
abbrev pub link_at : Option Variable → ℕ
link_at None = 0
link_at (Some v) = plus_link v 0

plus_is : (v : Variable) (n : ℕ) → plus_link v n ≡ n + plus_link v 0
plus_is (Scalar t) n = omega arith
plus_is (Array es) n = omega arith
plus_is (Link q) n = omega arith

links_cons : (e : Text × Variable) (es : Variables) → links_in (e ∷ es) ≡ links_in es + plus_link e.1 0
unfolding links_in
links_cons e es = plus_is e.1 (links_in es)

links_nil : links_in [] ≡ 0
unfolding links_in
links_nil = refl

pub links_inserted : (es : Variables) (x : Text) (v : Variable) → links_in (insert_entry bytes_eq es x v) + link_at (lookup (bytes_eq x) es) ≡ links_in es + plus_link v 0
links_inserted [] x v = let a = links_cons (x, v) [] in omega arith
links_inserted (e ∷ es) x v =
    let old = links_cons e es in
    elim (test_of (bytes_eq x e.0)) [
      | inl t ↦
          let new = ap links_in (insert_first e es x v t) ∙ links_cons (e.0, v) es in
          let was = ap link_at (lookup_first x e es t) in
          omega arith
      | inr t ↦
          let new = ap links_in (insert_later e es x v t) ∙ links_cons e (insert_entry bytes_eq es x v) in
          let was = ap link_at (lookup_later x e es t) in
          let later = links_inserted es x v in
          omega arith
    ]

pub links_removed : (es : Variables) (x : Text) → links_in (remove_entry (bytes_eq x) es) + link_at (lookup (bytes_eq x) es) ≡ links_in es
links_removed [] x = omega (arith, links_nil)
links_removed (e ∷ es) x =
    let old = links_cons e es in
    elim (test_of (bytes_eq x e.0)) [
      | inl t ↦
          let new = ap links_in (remove_first e es x t) in
          let was = ap link_at (lookup_first x e es t) in
          omega arith
      | inr t ↦
          let new = ap links_in (remove_later e es x t) ∙ links_cons e (remove_entry (bytes_eq x) es) in
          let was = ap link_at (lookup_later x e es t) in
          let later = links_removed es x in
          omega arith
    ]

within_nil : (n : ℕ) → AreWithin n []
unfolding AreWithin
within_nil n = tt

within_cons : (n : ℕ) (e : Text × Variable) (es : Variables) → IsWithin n e.1 → AreWithin n es → AreWithin n (e ∷ es)
unfolding AreWithin
within_cons n e es h later = (h, later)

within_head : (n : ℕ) (e : Text × Variable) (es : Variables) → AreWithin n (e ∷ es) → IsWithin n e.1
unfolding AreWithin
within_head n e es h = h.0

within_tail : (n : ℕ) (e : Text × Variable) (es : Variables) → AreWithin n (e ∷ es) → AreWithin n es
unfolding AreWithin
within_tail n e es h = h.1

pub within_none : (n : ℕ) → AreWithin n []
within_none n = within_nil n

pub within_inserted : (n : ℕ) (es : Variables) (x : Text) (v : Variable) → IsWithin n v → AreWithin n es → AreWithin n (insert_entry bytes_eq es x v)
within_inserted n [] x v new h = within_cons n (x, v) [] new (within_nil n)
within_inserted n (e ∷ es) x v new h =
    elim (test_of (bytes_eq x e.0)) [
      | inl t ↦ subst (AreWithin n) (sym (insert_first e es x v t)) (within_cons n (e.0, v) es new (within_tail n e es h))
      | inr t ↦ subst (AreWithin n) (sym (insert_later e es x v t)) (within_cons n e _ (within_head n e es h) (within_inserted n es x v new (within_tail n e es h)))
    ]

pub within_removed : (n : ℕ) (es : Variables) (x : Text) → AreWithin n es → AreWithin n (remove_entry (bytes_eq x) es)
within_removed n [] x h = h
within_removed n (e ∷ es) x h =
    elim (test_of (bytes_eq x e.0)) [
      | inl t ↦ subst (AreWithin n) (sym (remove_first e es x t)) (within_tail n e es h)
      | inr t ↦ subst (AreWithin n) (sym (remove_later e es x t)) (within_cons n e _ (within_head n e es h) (within_removed n es x (within_tail n e es h)))
    ]

pub within_found : (n : ℕ) (es : Variables) (x : Text) (v : Variable) → AreWithin n es → lookup (bytes_eq x) es ≡ Some v → IsWithin n v
within_found n [] x v h found = absurd (cc)
within_found n (e ∷ es) x v h found =
    elim (test_of (bytes_eq x e.0)) [
      | inl t ↦ let same : e.1 ≡ v = let a = sym (lookup_first x e es t) ∙ found in cc in subst (IsWithin n) same (within_head n e es h)
      | inr t ↦ within_found n es x v (within_tail n e es h) (sym (lookup_later x e es t) ∙ found)
    ]
