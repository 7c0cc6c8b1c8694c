-- Entries seen by the bytes of their keys.
use Rattle.std.proofs.Common.{◌≡◌, ℕ, zero, suc, Bool, true, false, cond, List, [], ◌∷◌, ◌++◌, length, reverse, append_assoc, filter, slice_get, Option, Some, None, IsSome, is_some, refl, sym, ◌∙◌, ap, subst, arith}
use Rattle.std.specs.Prelude.{OnSome, OnOk, IsOk, Result, Ok, Err}
use Rattle.std.specs.Borrow.{MutBor}
use Rattle.std.specs.Option.{option_map, option_copied_mut}
use Rattle.std.specs.Str.{bytes_eq}
use Rattle.std.specs.String.{string_bytes, string_eq, string_eq_equiv}
use Rattle.std.specs.List.{AllZip, AllByRecursion, IsDistinct}
use Rattle.std.proofs.lemmas.Slice.Eq.{bytes_eq-Decides}
use Rattle.std.specs.Map.{lookup, set_value, remove_entry, keys_of, values_of}
use Rattle.std.specs.declared.string.String.{String}
use Rattle.std.specs.declared.alloc.Global.{Global}
use Rattle.std.proofs.lemmas.List.{reverse-append}
use Rattle.indexmap.specs.IndexMap.{insert_entry, insert_all, set_value_at}
use Rattle.tcl_frames.specs.Entries.{named, named_entry, StandsAt}
use Rattle.tcl_frames.specs.Names.{Text}

pub length-named : {V : Type 0} (es : List (String Global × V)) → length (named es) ≡ length es
length-named [] = refl
length-named (e ∷ es) = omega (arith, length-named es)

pub lookup-named : {V : Type 0} (q : Text) (es : List (String Global × V)) → lookup (bytes_eq q) (named es) ≡ lookup (λ k. bytes_eq q (string_bytes k)) es
lookup-named q [] = refl
lookup-named q (e ∷ es) = ap (cond (bytes_eq q (string_bytes e.0)) (Some e.1)) (lookup-named q es)

pub slice_get-named : {V : Type 0} (es : List (String Global × V)) (i : ℕ) → slice_get (named es) i ≡ option_map named_entry (slice_get es i)
slice_get-named [] i = refl
slice_get-named (e ∷ es) zero = refl
slice_get-named (e ∷ es) (suc i) = slice_get-named es i

named_cond : {V : Type 0} (b : Bool) (x y : List (String Global × V)) → named (cond b x y) ≡ cond b (named x) (named y)
named_cond true x y = refl
named_cond false x y = refl

pub insert-named : {V : Type 0} (es : List (String Global × V)) (k : String Global) (v : V) → named (insert_entry string_eq es k v) ≡ insert_entry bytes_eq (named es) (string_bytes k) v
insert-named [] k v = refl
insert-named (e ∷ es) k v =
    named_cond (string_eq k e.0) ((e.0, v) ∷ es) (e ∷ insert_entry string_eq es k v)
    ∙ ap (λ r. cond (string_eq k e.0) ((string_bytes e.0, v) ∷ named es) ((string_bytes e.0, e.1) ∷ r)) (insert-named es k v)

pub set-named : {V : Type 0} (q : Text) (es : List (String Global × V)) (v : V) → named (set_value (λ k. bytes_eq q (string_bytes k)) es v) ≡ set_value (bytes_eq q) (named es) v
set-named q [] v = refl
set-named q (e ∷ es) v =
    named_cond (bytes_eq q (string_bytes e.0)) ((e.0, v) ∷ es) (e ∷ set_value (λ k. bytes_eq q (string_bytes k)) es v)
    ∙ ap (λ r. cond (bytes_eq q (string_bytes e.0)) ((string_bytes e.0, v) ∷ named es) ((string_bytes e.0, e.1) ∷ r)) (set-named q es v)

pub remove-named : {V : Type 0} (q : Text) (es : List (String Global × V)) → named (remove_entry (λ k. bytes_eq q (string_bytes k)) es) ≡ remove_entry (bytes_eq q) (named es)
remove-named q [] = refl
remove-named q (e ∷ es) =
    named_cond (bytes_eq q (string_bytes e.0)) es (e ∷ remove_entry (λ k. bytes_eq q (string_bytes k)) es)
    ∙ ap (λ r. cond (bytes_eq q (string_bytes e.0)) (named es) ((string_bytes e.0, e.1) ∷ r)) (remove-named q es)

-- a key that is there keeps its place
set_case : {V : Type 0} (b : Bool) (e : Text × V) (es fs is : List (Text × V)) (v : V) (o : Option V) → IsSome (cond b (Some e.1) o) → (IsSome o → fs ≡ is) → cond b ((e.0, v) ∷ es) (e ∷ fs) ≡ cond b ((e.0, v) ∷ es) (e ∷ is)
set_case true e es fs is v o h later = refl
set_case false e es fs is v o h later = ap (λ r. e ∷ r) (later h)

pub set_is_insert : {V : Type 0} (q : Text) (es : List (Text × V)) (v : V) → IsSome (lookup (bytes_eq q) es) → set_value (bytes_eq q) es v ≡ insert_entry bytes_eq es q v
set_is_insert q [] v h = absurd (cc)
set_is_insert q (e ∷ es) v h = set_case (bytes_eq q e.0) e es (set_value (bytes_eq q) es v) (insert_entry bytes_eq es q v) v (lookup (bytes_eq q) es) h (set_is_insert q es v)

pub on_some : {A P : Type 0} (r : Option A) → P → OnSome r P
on_some None p = tt
on_some (Some x) p = p

pub is_found : {A : Type 0} (r : Option (MutBor A)) (p : MutBor A) (o : Option A) → r ≡ Some p → option_copied_mut r ≡ o → IsSome o
is_found r p o e f = ap is_some (sym f ∙ ap option_copied_mut e)

-- clones of entries
pub clones-named : {V : Type 0} (D : V → V → Type 0) (es fs : List (String Global × V)) → AllZip (λ p q. (string_bytes q.0 ≡ string_bytes p.0) × D p.1 q.1) es fs
    → AllZip (λ (p : Text × V) (q : Text × V). (q.0 ≡ p.0) × D p.1 q.1) (named es) (named fs)
clones-named D [] [] h = h
clones-named D [] (f ∷ fs) h = h
clones-named D (e ∷ es) [] h = h
clones-named D (e ∷ es) (f ∷ fs) h = (h.0, clones-named D es fs h.1)

-- entries whose names and values are the same
pub same-entries : {V : Type 0} (es fs : List (Text × V)) → AllZip (λ p q. (q.0 ≡ p.0) × (q.1 ≡ p.1)) es fs → fs ≡ es
same-entries [] [] h = refl
same-entries [] (f ∷ fs) h = absurd h
same-entries (e ∷ es) [] h = absurd h
same-entries (e ∷ es) (f ∷ fs) h = ap (λ k. (k, f.1) ∷ fs) h.0.0 ∙ ap (λ v. (e.0, v) ∷ fs) h.0.1 ∙ ap (λ r. e ∷ r) (same-entries es fs h.1)

-- ## Many entries

pub named-append : {V : Type 0} (es fs : List (String Global × V)) → named (es ++ fs) ≡ named es ++ named fs
named-append [] fs = refl
named-append (e ∷ es) fs = ap (λ r. (string_bytes e.0, e.1) ∷ r) (named-append es fs)

-- the last entry is the first of those that are turned round
pub reverse-named : {V : Type 0} (es : List (String Global × V)) (k : String Global) (v : V) → reverse (named (es ++ (k, v) ∷ [])) ≡ (string_bytes k, v) ∷ reverse (named es)
reverse-named es k v = ap reverse (named-append es ((k, v) ∷ [])) ∙ reverse-append (named es) ((string_bytes k, v) ∷ [])

-- an entry goes over to those with names of their own
pub keyed_more : {V : Type 0} (left rest all : List (Text × V)) (es : List (String Global × V)) (x : Text) (k : String Global) (v : V) → left ≡ rest ++ (x, v) ∷ [] → string_bytes k ≡ x → left ++ reverse (named es) ≡ all
    → rest ++ reverse (named (es ++ (k, v) ∷ [])) ≡ all
keyed_more left rest all es x k v last is h =
    ap (λ r. rest ++ r) (reverse-named es k v)
    ∙ ap (λ y. rest ++ (y, v) ∷ reverse (named es)) is
    ∙ sym (append_assoc rest ((x, v) ∷ []) (reverse (named es)))
    ∙ ap (λ m. m ++ reverse (named es)) (sym last)
    ∙ h

-- the last entry is inserted, and then those before it
pub inserted_more : {V : Type 0} (es fs : List (String Global × V)) (left rest : List (String Global × V)) (k : String Global) (v : V) (all : List (Text × V)) → left ≡ rest ++ (k, v) ∷ [] → fs ≡ insert_entry string_eq es k v
    → insert_all bytes_eq (named es) (reverse (named left)) ≡ all → insert_all bytes_eq (named fs) (reverse (named rest)) ≡ all
inserted_more es fs left rest k v all last is h =
    ap (λ m. insert_all bytes_eq m (reverse (named rest))) (ap named is ∙ insert-named es k v)
    ∙ sym (ap (insert_all bytes_eq (named es)) (ap (λ l. reverse (named l)) last ∙ reverse-named rest k v))
    ∙ h

-- the names that a test keeps
pub filter-named : {V : Type 0} (t : Text → Bool) (es : List (String Global × V)) → named (filter (λ e. t (string_bytes e.0)) es) ≡ filter (λ e. t e.0) (named es)
filter-named t [] = refl
filter-named t (e ∷ es) =
    named_cond (t (string_bytes e.0)) (e ∷ filter (λ e. t (string_bytes e.0)) es) (filter (λ e. t (string_bytes e.0)) es)
    ∙ ap (λ r. cond (t (string_bytes e.0)) ((string_bytes e.0, e.1) ∷ r) r) (filter-named t es)

pub ok_then : {A E P : Type 0} (r : Result A E) → IsOk r → OnOk r P → P
ok_then (Ok x) i p = p
ok_then (Err e) i p = absurd (cc)

-- ## An entry at a place

pub same_bytes : (x y : Text) → bytes_eq x y ≡ true → x ≡ y
same_bytes x y h = (bytes_eq-Decides x y).0 h

pub all_at : {K : Type 0} (P : K → Type 0) (ks : List K) (i : ℕ) (k : K) → AllByRecursion P ks → slice_get ks i ≡ Some k → P k
all_at P [] i k h at = absurd (cc)
all_at P (j ∷ ks) zero k h at = let same : j ≡ k = cc in subst P same h.0
all_at P (j ∷ ks) (suc i) k h at = all_at P ks i k h.1 at

pub key_at : {K V : Type 0} (es : List (K × V)) (i : ℕ) (k : K) (v : V) → slice_get es i ≡ Some (k, v) → slice_get (keys_of es) i ≡ Some k
key_at [] i k v at = absurd (cc)
key_at (e ∷ es) zero k v at = let same : e ≡ (k, v) = cc in ap (λ f. Some f.0) same
key_at (e ∷ es) (suc i) k v at = key_at es i k v at

value_at : {K V : Type 0} (es : List (K × V)) (i : ℕ) (k : K) (v : V) → slice_get es i ≡ Some (k, v) → slice_get (values_of es) i ≡ Some v
value_at [] i k v at = absurd (cc)
value_at (e ∷ es) zero k v at = let same : e ≡ (k, v) = cc in ap (λ f. Some f.1) same
value_at (e ∷ es) (suc i) k v at = value_at es i k v at

module _ {V : Type 0} where
  -- a key that stands later is another
  other : (e : String Global × V) (es : List (String Global × V)) (i : ℕ) (k : String Global) (v : V) → IsDistinct string_eq (keys_of (e ∷ es)) → slice_get es i ≡ Some (k, v) → string_eq k e.0 ≡ false
  unfolding IsDistinct
  other e es i k v h at = string_eq_equiv.symm k e.0 ∙ all_at (λ j. string_eq e.0 j ≡ false) (keys_of es) i k h.0 (key_at es i k v at)

  later : (e : String Global × V) (es : List (String Global × V)) → IsDistinct string_eq (keys_of (e ∷ es)) → IsDistinct string_eq (keys_of es)
  unfolding IsDistinct
  later e es h = h.1

  -- what is written at the place of a key is written for the key
  set_own : (es : List (String Global × V)) (i : ℕ) (k : String Global) (v w : V) → IsDistinct string_eq (keys_of es) → slice_get es i ≡ Some (k, v) → set_value_at es i w ≡ set_value (string_eq k) es w
  set_own [] i k v w h at = absurd (cc)
  set_own (e ∷ es) zero k v w h at =
      let same : e ≡ (k, v) = cc in
      sym (ap (λ b. cond b ((e.0, w) ∷ es) (e ∷ set_value (string_eq k) es w)) (ap (λ f. string_eq k f.0) same ∙ string_eq_equiv.refl k))
  set_own (e ∷ es) (suc i) k v w h at =
      ap (λ fs. e ∷ fs) (set_own es i k v w (later e es h) at)
      ∙ sym (ap (λ b. cond b ((e.0, w) ∷ es) (e ∷ set_value (string_eq k) es w)) (other e es i k v h at))

  lookup_own : (es : List (String Global × V)) (i : ℕ) (k : String Global) (v : V) → IsDistinct string_eq (keys_of es) → slice_get es i ≡ Some (k, v) → lookup (string_eq k) es ≡ Some v
  lookup_own [] i k v h at = absurd (cc)
  lookup_own (e ∷ es) zero k v h at =
      let same : e ≡ (k, v) = cc in
      ap (λ b. cond b (Some e.1) (lookup (string_eq k) es)) (ap (λ f. string_eq k f.0) same ∙ string_eq_equiv.refl k) ∙ ap (λ f. Some f.1) same
  lookup_own (e ∷ es) (suc i) k v h at =
      ap (λ b. cond b (Some e.1) (lookup (string_eq k) es)) (other e es i k v h at) ∙ lookup_own es i k v (later e es h) at

  pub set_at : (es : List (String Global × V)) (i : ℕ) (q : Text) (w : V) → IsDistinct string_eq (keys_of es) → StandsAt q es i → set_value_at es i w ≡ set_value (λ k. bytes_eq q (string_bytes k)) es w
  set_at es i q w h s = set_own es i s.0 s.1 w h s.2 ∙ ap (λ (x : Text). set_value (λ k. bytes_eq x (string_bytes k)) es w) s.3

  pub found_at : (es : List (String Global × V)) (i : ℕ) (q : Text) → IsDistinct string_eq (keys_of es) → StandsAt q es i → slice_get (values_of es) i ≡ lookup (λ k. bytes_eq q (string_bytes k)) es
  found_at es i q h s = value_at es i s.0 s.1 s.2 ∙ sym (lookup_own es i s.0 s.1 h s.2) ∙ ap (λ (x : Text). lookup (λ k. bytes_eq x (string_bytes k)) es) s.3

  -- what is found at a place is what the name that stands there has
  pub got_at : (es : List (String Global × V)) (i : ℕ) (q : Text) (k : String Global) (v : V) → slice_get es i ≡ Some (k, v) → StandsAt q es i → lookup (string_eq k) es ≡ Some v → Some v ≡ lookup (bytes_eq q) (named es)
  got_at es i q k v at s found =
      let there : Some (s.0, s.1) ≡ Some (k, v) = sym s.2 ∙ at in
      let same : (s.0, s.1) ≡ (k, v) = cc in
      let is : string_bytes k ≡ q = sym (ap (λ (e : String Global × V). string_bytes e.0) same) ∙ s.3 in
      sym found ∙ ap (λ (x : Text). lookup (λ j. bytes_eq x (string_bytes j)) es) is ∙ sym (lookup-named q es)
