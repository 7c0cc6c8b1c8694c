-- A map with text keys, as a finite map from names.
use Rattle.std.proofs.Common.{◌≡◌, ℕ, Bool, true, false, cond, List, [], ◌∷◌, map, Option, None, Some, IsSome, is_some, IfSome, Result, Ok, Err, OnOk, OnErr, refl, sym, ap, subst, ◌∙◌}
use Rattle.std.specs.Cmp.Lexicographic.{slice_cmp, nat_list_cmp_total, nat_list_eq_equiv}
use Rattle.std.specs.Ordering.{nat_cmp, eq_by_cmp, is_eq}
use Rattle.std.specs.FinMap.{get, insert, remove, find, get-from_entries, get-insert, get-remove, same_map, nat_cmp-IsAntisymmetric, slice_cmp-IsAntisymmetric, IsAntisymmetric}
use Rattle.std.specs.HashMap.{HashMap, get_by_text, UpdatesBy}
use Rattle.std.specs.declared.cmp.Ordering.{Ordering}
use Rattle.std.specs.declared.cmp.Ordering.TheVariants.{Less, Equal, Greater}
use Rattle.std.specs.Map.{lookup}
use Rattle.std.specs.Option.{ForSome}
use Rattle.std.specs.Bool.{OnTrue}
use Rattle.std.proofs.lemmas.Bool.{cond-true}
use Rattle.std.specs.Str.{bytes_eq}
use Rattle.std.specs.declared.string.String.{String}
use Rattle.std.specs.String.{string_bytes, string_eq}
use Rattle.std.proofs.lemmas.Map.Text.{is_eq-slice_cmp, hash_map_updates_text}
use Rattle.tcl_host.specs.Names.{Named, by_name}

same_bytes : IsAntisymmetric (slice_cmp nat_cmp)
same_bytes = slice_cmp-IsAntisymmetric nat_cmp-IsAntisymmetric

-- the test by the order is the test by equality, which is symmetric
same_test : (q bs : List ℕ) → eq_by_cmp (slice_cmp nat_cmp) q bs ≡ bytes_eq bs q
same_test q bs = is_eq-slice_cmp q bs ∙ nat_list_eq_equiv.symm q bs

-- what the test finds equal ties
tied : (q bs : List ℕ) → eq_by_cmp (slice_cmp nat_cmp) q bs ≡ true → slice_cmp nat_cmp q bs ≡ Equal
tied q bs e = by (slice_cmp nat_cmp q bs) e
  where
    by : (o : Ordering) → is_eq o ≡ true → o ≡ Equal
    by Less h = cc
    by Equal h = refl
    by Greater h = cc

-- the first entry of a name is found by either test
find_lookup : {X Y : Type 0} (q : List ℕ) (es : List (String Y × X))
    → find (slice_cmp nat_cmp) q (map (λ e. (string_bytes e.0, e.1)) es) ≡ lookup (λ k. bytes_eq q (string_bytes k)) es
find_lookup q [] = refl
find_lookup q (e ∷ es) = λ i. cond (is_eq-slice_cmp q (string_bytes e.0) i) (Some e.1) (find_lookup q es i)

module _ {X Y S : Type 0} where
  -- what is at a name
  pub get-by_name : (m : HashMap (String Y) X S) (q : List ℕ) → get (by_name m) q ≡ get_by_text m q
  get-by_name m q = get-from_entries nat_list_cmp_total (map (λ e. (string_bytes e.0, e.1)) m.entries) q ∙ find_lookup q m.entries

  -- a change at one name, to a value
  pub by_name-updates : (bs : List ℕ) (m n : HashMap (String Y) X S) (w : X)
      → UpdatesBy string_eq (λ k. bytes_eq bs (string_bytes k)) m n (Some w) → by_name n ≡ insert (by_name m) bs w
  by_name-updates bs m n w h = same_map nat_list_cmp_total same_bytes _ _ (λ q.
      get-by_name n q ∙ hash_map_updates_text bs m n (Some w) h q
      ∙ sym (get-insert nat_list_cmp_total (by_name m) bs w q ∙ (λ i. cond (same_test q bs i) (Some w) (get-by_name m q i))))

  -- or to none
  pub by_name-removes : (bs : List ℕ) (m n : HashMap (String Y) X S)
      → UpdatesBy string_eq (λ k. bytes_eq bs (string_bytes k)) m n None → by_name n ≡ remove (by_name m) bs
  by_name-removes bs m n h = same_map nat_list_cmp_total same_bytes _ _ (λ q.
      get-by_name n q ∙ hash_map_updates_text bs m n None h q
      ∙ sym (get-remove nat_list_cmp_total (by_name m) bs q ∙ (λ i. cond (same_test q bs i) None (get-by_name m q i))))

  -- the same of a finite map that is known to be what the map holds
  pub insert-of_view : (bs : List ℕ) (m n : HashMap (String Y) X S) (f : Named X) (w : X)
      → by_name m ≡ f → UpdatesBy string_eq (λ k. bytes_eq bs (string_bytes k)) m n (Some w) → by_name n ≡ insert f bs w
  insert-of_view bs m n f w is h = by_name-updates bs m n w h ∙ ap (λ g. insert g bs w) is

  pub remove-of_view : (bs : List ℕ) (m n : HashMap (String Y) X S) (f : Named X)
      → by_name m ≡ f → UpdatesBy string_eq (λ k. bytes_eq bs (string_bytes k)) m n None → by_name n ≡ remove f bs
  remove-of_view bs m n f is h = by_name-removes bs m n h ∙ ap (λ g. remove g bs) is

  pub get-of_view : (m : HashMap (String Y) X S) (f : Named X) (q : List ℕ) → by_name m ≡ f → get_by_text m q ≡ get f q
  get-of_view m f q is = sym (get-by_name m q) ∙ ap (λ g. get g q) is

-- to put what is there changes nothing
pub insert-same : {X : Type 0} (f : Named X) (bs : List ℕ) (w : X) → get f bs ≡ Some w → insert f bs w ≡ f
insert-same f bs w is = same_map nat_list_cmp_total same_bytes _ _ (λ q. get-insert nat_list_cmp_total f bs w q ∙ here q (eq_by_cmp (slice_cmp nat_cmp) q bs) refl)
  where
    here : (q : List ℕ) (b : Bool) → eq_by_cmp (slice_cmp nat_cmp) q bs ≡ b → cond b (Some w) (get f q) ≡ get f q
    here q true e = sym is ∙ ap (get f) (sym (same_bytes q bs (tied q bs e)))
    here q false e = refl

-- to take out what was put at a new name gives the map back
pub remove-insert : {X : Type 0} (f : Named X) (bs : List ℕ) (w : X) → get f bs ≡ None → remove (insert f bs w) bs ≡ f
remove-insert f bs w is = same_map nat_list_cmp_total same_bytes _ _ (λ q.
    get-remove nat_list_cmp_total (insert f bs w) bs q ∙ ap (cond (eq_by_cmp (slice_cmp nat_cmp) q bs) None) (get-insert nat_list_cmp_total f bs w q)
    ∙ here q (eq_by_cmp (slice_cmp nat_cmp) q bs) refl)
  where
    here : (q : List ℕ) (b : Bool) → eq_by_cmp (slice_cmp nat_cmp) q bs ≡ b → cond b None (cond b (Some w) (get f q)) ≡ get f q
    here q true e = sym is ∙ ap (get f) (sym (same_bytes q bs (tied q bs e)))
    here q false e = refl

-- a map of names has something at a name exactly where it isn't `None`
pub not_none : {X : Type 0} (o : Option X) → IsSome o → None ≡ o → ⊥
not_none None some e = cc
not_none (Some x) some e = cc

pub is_some_of : {X : Type 0} (o p : Option X) → o ≡ p → IsSome p → IsSome o
is_some_of o p e some = rw e some

-- what an outcome says may be said otherwise
pub on_ok_as : {T E P Q : Type 0} (r : Result T E) → (P → Q) → OnOk r P → OnOk r Q
on_ok_as (Ok x) f p = f p
on_ok_as (Err e) f p = p

pub on_err_as : {T E P Q : Type 0} (r : Result T E) → (P → Q) → OnErr r P → OnErr r Q
on_err_as (Ok x) f p = p
on_err_as (Err e) f p = f p

-- what is said of a value that is there
pub for_some_at : {A : Type 0} (o : Option A) (x : A) (P : A → Type 0) → Some x ≡ o → ForSome o P → P x
for_some_at o x P e h = h x (sym e)

pub if_some_at : {A : Type 0} (o : Option A) (x : A) (P : A → Type 0) → Some x ≡ o → P x → IfSome o P
if_some_at {A} o x P e h = subst (λ (p : Option A). IfSome p P) e h

-- what holds anyway
pub on_true_of : {P : Type 0} (b : Bool) → P → OnTrue b P
on_true_of true p = p
on_true_of false p = tt

pub is_some_at : {A : Type 0} (x : A) (o : Option A) → Some x ≡ o → IsSome o
is_some_at x o e = sym (ap is_some e)

-- what was put at a name is there
pub get-insert-same : {X : Type 0} (f : Named X) (bs : List ℕ) (w : X) → get (insert f bs w) bs ≡ Some w
get-insert-same f bs w = get-insert nat_list_cmp_total f bs w bs ∙ cond-true (eq_by_cmp (slice_cmp nat_cmp) bs bs) _ _ (same_test bs bs ∙ nat_list_eq_equiv.refl bs)
