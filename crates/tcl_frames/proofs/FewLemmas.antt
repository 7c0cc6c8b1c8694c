-- Entries that are looked through one by one.
use Rattle.std.proofs.Common.{◌≡◌, ℕ, zero, suc, ◌+◌, ◌<◌, Bool, true, false, cond, List, [], ◌∷◌, ◌++◌, map, length, get_or, take, append_assoc, append-nil, slice_get, slice_set, Option, Some, None, is_some, refl, sym, ◌∙◌, ap, subst, add-one, arith}
use Rattle.std.specs.Prelude.{MatchOption}
use Rattle.std.specs.Cmp.Lexicographic.{nat_list_eq_equiv}
use Rattle.std.specs.List.{AllByRecursion, AllZip, IsDistinct, list_any, remove}
use Rattle.std.specs.Map.{lookup, set_value, remove_entry, keys_of}
use Rattle.std.specs.Str.{bytes_eq}
use Rattle.std.specs.String.{string_bytes}
use Rattle.std.specs.declared.string.String.{String}
use Rattle.std.specs.declared.alloc.Global.{Global}
use Rattle.std.proofs.lemmas.Map.{keys-set_value}
use Rattle.std.proofs.lemmas.Map.Keys.{IsDistinct-head, IsDistinct-tail, IsDistinct-cons, IsDistinct-push}
use Rattle.std.proofs.lemmas.Map.Made.{is_some-lookup}
use Rattle.std.proofs.lemmas.Option.{slice_get_read}
use Rattle.indexmap.specs.IndexMap.{insert_entry, insert_all}
use Rattle.tcl_frames.specs.Names.{Text}
use Rattle.tcl_frames.specs.Entries.{Holds}
use Rattle.tcl_frames.proofs.EntryLemmas.{all_at, key_at, same_bytes}

pub distinct_none : {V : Type 0} (es : List (Text × V)) → es ≡ [] → IsDistinct bytes_eq (keys_of es)
unfolding IsDistinct
distinct_none [] h = tt
distinct_none (e ∷ es) h = absurd (cc)

module _ {V : Type 0} where
  -- an entry whose name is this one
  pub stands : (es : List (Text × V)) (i : ℕ) (e : Text × V) (k q : Text) → i < length es → e ≡ get_or es i e → k ≡ e.0 → bytes_eq k q ≡ true → Holds q es i
  stands es i e k q l at key is =
      (e.1, slice_get_read es (length es) i e refl l at ∙ ap (λ (x : Text). Some (x, e.1)) (sym key ∙ same_bytes k q is))

  none_case : (b : Bool) (v : V) (o p : Option V) → cond b (Some v) o ≡ None → (o ≡ None → p ≡ None) → cond b (Some v) p ≡ None
  none_case true v o p h later = absurd (cc)
  none_case false v o p h later = later h

  none_next : (es : List (Text × V)) (i : ℕ) (e : Text × V) (q : Text) → slice_get es i ≡ Some e → bytes_eq q e.0 ≡ false → lookup (bytes_eq q) (take i es) ≡ None → lookup (bytes_eq q) (take (suc i) es) ≡ None
  none_next [] i e q at other h = absurd (cc)
  none_next (d ∷ es) zero e q at other h =
      let same : d ≡ e = cc in
      ap (λ b. cond b (Some d.1) None) (ap (λ (x : Text × V). bytes_eq q x.0) same ∙ other)
  none_next (d ∷ es) (suc i) e q at other h = none_case (bytes_eq q d.0) d.1 (lookup (bytes_eq q) (take i es)) (lookup (bytes_eq q) (take (suc i) es)) h (none_next es i e q at other)

  -- one more entry that has another name
  pub none_more : (es : List (Text × V)) (i : ℕ) (e : Text × V) (k q : Text) → i < length es → e ≡ get_or es i e → k ≡ e.0 → bytes_eq k q ≡ false → lookup (bytes_eq q) (take i es) ≡ None → lookup (bytes_eq q) (take (i + 1) es) ≡ None
  none_more es i e k q l at key is h =
      rw add-one (none_next es i e q (slice_get_read es (length es) i e refl l at) (nat_list_eq_equiv.symm q e.0 ∙ ap (λ x. bytes_eq x q) (sym key) ∙ is) h)

  -- ## An entry at a place

  -- a name that stands later is another
  other : (e : Text × V) (es : List (Text × V)) (i : ℕ) (q : Text) (v : V) → IsDistinct bytes_eq (keys_of (e ∷ es)) → slice_get es i ≡ Some (q, v) → bytes_eq q e.0 ≡ false
  other e es i q v h at = nat_list_eq_equiv.symm q e.0 ∙ all_at (λ j. bytes_eq e.0 j ≡ false) (keys_of es) i q (IsDistinct-head bytes_eq e.0 (keys_of es) h) (key_at es i q v at)

  later : (e : Text × V) (es : List (Text × V)) → IsDistinct bytes_eq (keys_of (e ∷ es)) → IsDistinct bytes_eq (keys_of es)
  later e es h = IsDistinct-tail bytes_eq e.0 (keys_of es) h

  here : (e : Text × V) (q : Text) (v : V) → e ≡ (q, v) → bytes_eq q e.0 ≡ true
  here e q v same = ap (λ (f : Text × V). bytes_eq q f.0) same ∙ nat_list_eq_equiv.refl q

  pub place_found : (es : List (Text × V)) (i : ℕ) (q : Text) (d : Text × V) → IsDistinct bytes_eq (keys_of es) → Holds q es i → d ≡ get_or es i d → Some d.1 ≡ lookup (bytes_eq q) es
  place_found [] i q d h s is = absurd (let e = s.1 in cc)
  place_found (e ∷ es) zero q d h s is =
      let same : e ≡ (q, s.0) = let at = s.1 in cc in
      ap (λ (f : Text × V). Some f.1) is ∙ sym (ap (λ b. cond b (Some e.1) (lookup (bytes_eq q) es)) (here e q s.0 same))
  place_found (e ∷ es) (suc i) q d h s is =
      place_found es i q d (later e es h) s is ∙ sym (ap (λ b. cond b (Some e.1) (lookup (bytes_eq q) es)) (other e es i q s.0 h s.1))

  some_case : (b : Bool) (v : V) (o : Option V) → is_some o ≡ true → is_some (cond b (Some v) o) ≡ true
  some_case true v o h = refl
  some_case false v o h = h

  holds_some : (es : List (Text × V)) (i : ℕ) (q : Text) → Holds q es i → is_some (lookup (bytes_eq q) es) ≡ true
  holds_some [] i q s = absurd (let e = s.1 in cc)
  holds_some (e ∷ es) zero q s =
      let same : e ≡ (q, s.0) = let at = s.1 in cc in
      ap (λ b. is_some (cond b (Some e.1) (lookup (bytes_eq q) es))) (here e q s.0 same)
  holds_some (e ∷ es) (suc i) q s = some_case (bytes_eq q e.0) e.1 (lookup (bytes_eq q) es) (holds_some es i q s)

  -- a name is there where a place of it is known
  pub is_there : (es : List (Text × V)) (q : Text) (o : Option ℕ) → MatchOption o (lookup (bytes_eq q) es ≡ None) (λ i. Holds q es i) → is_some o ≡ is_some (lookup (bytes_eq q) es)
  is_there es q None h = sym (ap is_some h)
  is_there es q (Some i) h = sym (holds_some es i q h)

  -- what is written at the place of a name is written for the name
  pub place_set : (es : List (Text × V)) (i : ℕ) (q : Text) (d : Text × V) (w : V) → IsDistinct bytes_eq (keys_of es) → Holds q es i → d ≡ get_or es i d → slice_set es i (d.0, w) ≡ set_value (bytes_eq q) es w
  place_set [] i q d w h s is = absurd (let e = s.1 in cc)
  place_set (e ∷ es) zero q d w h s is =
      let same : e ≡ (q, s.0) = let at = s.1 in cc in
      ap (λ (f : Text × V). (f.0, w) ∷ es) is
      ∙ sym (ap (λ b. cond b ((e.0, w) ∷ es) (e ∷ set_value (bytes_eq q) es w)) (here e q s.0 same))
  place_set (e ∷ es) (suc i) q d w h s is =
      ap (λ fs. e ∷ fs) (place_set es i q d w (later e es h) s is)
      ∙ sym (ap (λ b. cond b ((e.0, w) ∷ es) (e ∷ set_value (bytes_eq q) es w)) (other e es i q s.0 h s.1))

  pub distinct_set : (es fs : List (Text × V)) (q : Text) (w : V) → fs ≡ set_value (bytes_eq q) es w → IsDistinct bytes_eq (keys_of es) → IsDistinct bytes_eq (keys_of fs)
  distinct_set es fs q w is h = subst (λ ks. IsDistinct bytes_eq ks) (sym (ap keys_of is ∙ keys-set_value (bytes_eq q) es w)) h

  -- what is taken out at the place of a name is taken out for the name
  pub place_removed : (es : List (Text × V)) (i : ℕ) (q : Text) → IsDistinct bytes_eq (keys_of es) → Holds q es i → remove es i ≡ remove_entry (bytes_eq q) es
  place_removed [] i q h s = absurd (let e = s.1 in cc)
  place_removed (e ∷ es) zero q h s =
      let same : e ≡ (q, s.0) = let at = s.1 in cc in
      sym (ap (λ b. cond b es (e ∷ remove_entry (bytes_eq q) es)) (here e q s.0 same))
  place_removed (e ∷ es) (suc i) q h s =
      ap (λ fs. e ∷ fs) (place_removed es i q (later e es h) s)
      ∙ sym (ap (λ b. cond b es (e ∷ remove_entry (bytes_eq q) es)) (other e es i q s.0 h s.1))

  pub none_removed : (es : List (Text × V)) (q : Text) → lookup (bytes_eq q) es ≡ None → es ≡ remove_entry (bytes_eq q) es
  none_removed [] q h = refl
  none_removed (e ∷ es) q h = removed_case (bytes_eq q e.0) e es (remove_entry (bytes_eq q) es) (lookup (bytes_eq q) es) h (none_removed es q)
    where
      removed_case : (b : Bool) (e : Text × V) (es fs : List (Text × V)) (o : Option V) → cond b (Some e.1) o ≡ None → (o ≡ None → es ≡ fs) → e ∷ es ≡ cond b es (e ∷ fs)
      removed_case true e es fs o h later = absurd (cc)
      removed_case false e es fs o h later = ap (λ r. e ∷ r) (later h)

  all_removed : (P : Text → Type 0) (t : Text → Bool) (es : List (Text × V)) → AllByRecursion P (keys_of es) → AllByRecursion P (keys_of (remove_entry t es))
  all_removed P t [] h = h
  all_removed P t (e ∷ es) h = all_case (t e.0) e es (remove_entry t es) h (all_removed P t es h.1)
    where
      all_case : (b : Bool) (e : Text × V) (es fs : List (Text × V)) → AllByRecursion P (keys_of (e ∷ es)) → AllByRecursion P (keys_of fs) → AllByRecursion P (keys_of (cond b es (e ∷ fs)))
      all_case true e es fs h k = h.1
      all_case false e es fs h k = (h.0, k)

  distinct_case : (b : Bool) (e : Text × V) (es fs : List (Text × V)) → IsDistinct bytes_eq (keys_of (e ∷ es)) → AllByRecursion (λ y. bytes_eq e.0 y ≡ false) (keys_of fs) → IsDistinct bytes_eq (keys_of fs) → IsDistinct bytes_eq (keys_of (cond b es (e ∷ fs)))
  distinct_case true e es fs h a d = later e es h
  distinct_case false e es fs h a d = IsDistinct-cons bytes_eq e.0 (keys_of fs) a d

  distinct_remove_entry : (t : Text → Bool) (es : List (Text × V)) → IsDistinct bytes_eq (keys_of es) → IsDistinct bytes_eq (keys_of (remove_entry t es))
  distinct_remove_entry t [] h = h
  distinct_remove_entry t (e ∷ es) h =
      distinct_case (t e.0) e es (remove_entry t es) h (all_removed (λ y. bytes_eq e.0 y ≡ false) t es (IsDistinct-head bytes_eq e.0 (keys_of es) h)) (distinct_remove_entry t es (later e es h))

  pub distinct_removed : (es fs : List (Text × V)) (q : Text) → fs ≡ remove_entry (bytes_eq q) es → IsDistinct bytes_eq (keys_of es) → IsDistinct bytes_eq (keys_of fs)
  distinct_removed es fs q is h = subst (λ (gs : List (Text × V)). IsDistinct bytes_eq (keys_of gs)) (sym is) (distinct_remove_entry (bytes_eq q) es h)

  -- ## A name more

  keys-push : (es : List (Text × V)) (q : Text) (v : V) → keys_of (es ++ (q, v) ∷ []) ≡ keys_of es ++ q ∷ []
  keys-push [] q v = refl
  keys-push (e ∷ es) q v = ap (λ ks. e.0 ∷ ks) (keys-push es q v)

  insert_case : (b : Bool) (e : Text × V) (q : Text) (v : V) (es fs gs : List (Text × V)) (o : Option V) → cond b (Some e.1) o ≡ None → (o ≡ None → fs ≡ gs) → cond b ((e.0, v) ∷ es) (e ∷ fs) ≡ e ∷ gs
  insert_case true e q v es fs gs o h l = absurd (cc)
  insert_case false e q v es fs gs o h l = ap (λ r. e ∷ r) (l h)

  pub insert_absent : (es : List (Text × V)) (q : Text) (v : V) → lookup (bytes_eq q) es ≡ None → insert_entry bytes_eq es q v ≡ es ++ (q, v) ∷ []
  insert_absent [] q v h = refl
  insert_absent (e ∷ es) q v h =
      insert_case (bytes_eq q e.0) e q v es (insert_entry bytes_eq es q v) (es ++ (q, v) ∷ []) (lookup (bytes_eq q) es) h (insert_absent es q v)

  pub distinct_push : (es fs : List (Text × V)) (q : Text) (v : V) → fs ≡ es ++ (q, v) ∷ [] → lookup (bytes_eq q) es ≡ None → IsDistinct bytes_eq (keys_of es) → IsDistinct bytes_eq (keys_of fs)
  distinct_push es fs q v is h d =
      let absent : list_any (bytes_eq q) (keys_of es) ≡ false = sym (is_some-lookup (bytes_eq q) es) ∙ ap is_some h in
      subst (λ ks. IsDistinct bytes_eq ks) (sym (ap keys_of is ∙ keys-push es q v)) (IsDistinct-push nat_list_eq_equiv (keys_of es) q d absent)

  pub distinct_clones : (D : V → V → Type 0) (es fs : List (Text × V)) → AllZip (λ p q. (q.0 ≡ p.0) × D p.1 q.1) es fs → IsDistinct bytes_eq (keys_of es) → IsDistinct bytes_eq (keys_of fs)
  distinct_clones D es fs h d = subst (λ ks. IsDistinct bytes_eq ks) (sym (keys_same es fs h)) d
    where
      keys_same : (es fs : List (Text × V)) → AllZip (λ p q. (q.0 ≡ p.0) × D p.1 q.1) es fs → keys_of fs ≡ keys_of es
      keys_same [] [] h = refl
      keys_same [] (f ∷ fs) h = absurd h
      keys_same (e ∷ es) [] h = absurd h
      keys_same (e ∷ es) (f ∷ fs) h = ap (λ k. k ∷ keys_of fs) h.0.0 ∙ ap (λ ks. e.0 ∷ ks) (keys_same es fs h.1)

  pub holds_within : (es : List (Text × V)) (i : ℕ) (q : Text) → Holds q es i → i < length es
  holds_within [] i q s = absurd (let e = s.1 in cc)
  holds_within (e ∷ es) zero q s = omega arith
  holds_within (e ∷ es) (suc i) q s = let more = holds_within es i q s in omega arith

  -- a name more is copied
  names_next : (ns : List (String Global)) (n : String Global) (es : List (Text × V)) (i : ℕ) (e : Text × V) → slice_get es i ≡ Some e → string_bytes n ≡ e.0 → map string_bytes ns ≡ keys_of (take i es) → map string_bytes (ns ++ n ∷ []) ≡ keys_of (take (suc i) es)
  names_next ns n [] i e at is h = absurd (cc)
  names_next [] n (d ∷ es) zero e at is h = let same : d ≡ e = cc in ap (λ k. k ∷ []) (is ∙ ap (λ (f : Text × V). f.0) (sym same))
  names_next (m ∷ ns) n (d ∷ es) zero e at is h = absurd (cc)
  names_next [] n (d ∷ es) (suc i) e at is h = absurd (cc)
  names_next (m ∷ ns) n (d ∷ es) (suc i) e at is h =
      let first : string_bytes m ≡ d.0 = cc in
      let rest : map string_bytes ns ≡ keys_of (take i es) = cc in
      ap (λ k. k ∷ map string_bytes (ns ++ n ∷ [])) first ∙ ap (λ ks. d.0 ∷ ks) (names_next ns n es i e at is rest)

  pub names_more : (ns ms : List (String Global)) (n : String Global) (es : List (Text × V)) (i : ℕ) (e : Text × V) (k : Text) → ms ≡ ns ++ n ∷ [] → i < length es → e ≡ get_or es i e → k ≡ e.0 → string_bytes n ≡ k
      → map string_bytes ns ≡ keys_of (take i es) → map string_bytes ms ≡ keys_of (take (i + 1) es)
  names_more ns ms n es i e k made l at key is h =
      ap (λ (x : List (String Global)). map string_bytes x) made ∙ rw add-one (names_next ns n es i e (slice_get_read es (length es) i e refl l at) (is ∙ key) h)

  -- ## Entries that go over to a map

  absent_before : (done : List (Text × V)) (e : Text × V) (es : List (Text × V)) → IsDistinct bytes_eq (keys_of (done ++ e ∷ es)) → lookup (bytes_eq e.0) done ≡ None
  absent_before [] e es h = refl
  absent_before (d ∷ done) e es h =
      let apart : bytes_eq d.0 e.0 ≡ false = all_at (λ y. bytes_eq d.0 y ≡ false) (keys_of (done ++ e ∷ es)) (length done) e.0 (IsDistinct-head bytes_eq d.0 (keys_of (done ++ e ∷ es)) h) (key_behind done e es) in
      ap (λ b. cond b (Some d.1) (lookup (bytes_eq e.0) done)) (nat_list_eq_equiv.symm e.0 d.0 ∙ apart) ∙ absent_before done e es (later d (done ++ e ∷ es) h)
    where
      key_behind : (done : List (Text × V)) (e : Text × V) (es : List (Text × V)) → slice_get (keys_of (done ++ e ∷ es)) (length done) ≡ Some e.0
      key_behind [] e es = refl
      key_behind (d ∷ done) e es = key_behind done e es

  pub all_inserted : (done es : List (Text × V)) → IsDistinct bytes_eq (keys_of (done ++ es)) → insert_all bytes_eq done es ≡ done ++ es
  all_inserted done [] h = sym (append-nil done)
  all_inserted done (e ∷ es) h =
      ap (λ ds. insert_all bytes_eq ds es) (insert_absent done e.0 e.1 (absent_before done e es h))
      ∙ all_inserted (done ++ e ∷ []) es (subst (λ (ds : List (Text × V)). IsDistinct bytes_eq (keys_of ds)) (sym (append_assoc done (e ∷ []) es)) h)
      ∙ append_assoc done (e ∷ []) es

  -- the last names are the same, and those before them
  pub same_last : (ns : List (String Global)) (n : String Global) (es : List (Text × V)) (x : Text) (v : V) → map string_bytes (ns ++ n ∷ []) ≡ keys_of (es ++ (x, v) ∷ []) → (string_bytes n ≡ x) × (map string_bytes ns ≡ keys_of es)
  same_last [] n [] x v h = let first : string_bytes n ≡ x = cc in (first, refl)
  same_last [] n (e ∷ []) x v h = absurd (cc)
  same_last [] n (e ∷ f ∷ es) x v h = absurd (cc)
  same_last (m ∷ []) n [] x v h = absurd (cc)
  same_last (m ∷ o ∷ ns) n [] x v h = absurd (cc)
  same_last (m ∷ ns) n (e ∷ es) x v h =
      let first : string_bytes m ≡ e.0 = cc in
      let rest : map string_bytes (ns ++ n ∷ []) ≡ keys_of (es ++ (x, v) ∷ []) = cc in
      let later = same_last ns n es x v rest in
      (later.0, ap (λ k. k ∷ map string_bytes ns) first ∙ ap (λ ks. e.0 ∷ ks) later.1)
