-- Lemmas on lines.
use Rattle.std.proofs.Common.{◌≡◌, ◌≢◌, ◌⊎◌, ℕ, ◌+◌, ◌<◌, ◌≤◌, List, [], ◌∷◌, ◌++◌, length, take, drop, All, Option, Some, None, Result, Ok, Err, IfSome, OnOk, refl, sym, ap, subst, ◌∙◌, arith, append_assoc, append-nil, take-append-drop, length-append, inl, inr}
use Rattle.std.proofs.lemmas.List.Elements.{All-append}
use Rattle.std.proofs.KnownBytes.{starts_with_rest, Consumes-trans, Consumes-nil, Appends-trans, Appends-kept}
use Rattle.std.specs.Io.{StartsWith}
use Rattle.std.specs.Io.KnownBytes.{Appends, Consumes, IsAtEnd, Keeps}
use Rattle.tcl_serve.specs.Lines.{BeginsTooLong, IsEnd, IsLine, IsRest, IsWithin, PassesLimit, Reads, ReadsMore, most_line}
use Rattle.tcl_serve.specs.declared.lines.Ending.{Ending}
use Rattle.tcl_serve.specs.declared.lines.Ending.TheVariants.{Finished, TooLong, CutShort, Unreadable, Memory}
use Rattle.tcl_serve.specs.declared.lines.Step.{Step}
use Rattle.tcl_serve.specs.declared.lines.Step.TheVariants.{More, Whole, AtEnd}

-- what is shown makes the line too long
pub shown_passes : (unread : Option (List ℕ)) (before shown : List ℕ) (n : ℕ) → IfSome unread (λ xs. StartsWith xs shown)
    → IsWithin (take n shown) → most_line < length before + length (take n shown) → PassesLimit unread before
shown_passes None before shown n front within long = tt
shown_passes (Some xs) before shown n front within long = (
  take n shown,
  drop n shown ++ drop (length shown) xs,
  starts_with_rest xs shown front ∙ ap (λ l. l ++ drop (length shown) xs) (sym (take-append-drop n shown)) ∙ append_assoc (take n shown) (drop n shown) (drop (length shown) xs),
  within,
  long,
)

-- a part that can't be put behind the line
pub append_fault : (e : Ending) (unread : Option (List ℕ)) (before shown : List ℕ) (n : ℕ) → IfSome unread (λ xs. StartsWith xs shown)
    → IsWithin (take n shown) → (e ≡ Memory) ⊎ ((e ≡ TooLong) × (most_line < length before + length (take n shown)))
    → (e ≡ Memory) ⊎ ((e ≡ TooLong) × PassesLimit unread before)
append_fault e unread before shown n front within (inl m) = inl m
append_fault e unread before shown n front within (inr (is, long)) = inr (is, shown_passes unread before shown n front within long)

-- nothing is left where nothing is shown
pub none_shown : (a : Option (List ℕ)) (n : ℕ) → IfSome a (λ xs. n ≡ 0 → xs ≡ []) → n ≡ 0 → IsAtEnd a
none_shown None n h none = tt
none_shown (Some xs) n h none = h none

-- a line of three parts and its end
pub three_said : (a b c d e : Option (List ℕ)) (x y z n : List ℕ) → Appends a b x → Appends b c y → Appends c d (z ++ n) → Keeps d e
    → Appends a e ((x ++ y ++ z) ++ n)
three_said a b c d e x y z n p q r k = subst (Appends a e) (sym (append_assoc (x ++ y) z n))
    (Appends-kept a d e _ (Appends-trans a c d _ _ (Appends-trans a b c x y p q) r) k)

pub on_ok : {A E : Type 0} (r : Result A E) (P : Type 0) → P → OnOk r P
on_ok (Ok x) P p = p
on_ok (Err e) P p = tt

-- an error of a step
pub reads_err : (old new : Option (List ℕ)) (before after : List ℕ) (r : Result Step Ending) (e : Ending) → r ≡ Err e
    → (e ≡ Memory) ⊎ ((e ≡ TooLong) × PassesLimit old before) → Reads old new before after r
reads_err old new before after r e is (inl m) = subst (Reads old new before after) (sym is) (inl m)
reads_err old new before after r e is (inr t) = subst (Reads old new before after) (sym is) (inr (inr t))

-- a part behind a part
pub more_read : (a b c : Option (List ℕ)) (before after : List ℕ) → ReadsMore b c before after More → IsWithin before
    → Consumes a b before → IsWithin after × Consumes a c after
more_read a b c before after r within had = (
  subst IsWithin (sym r.after_is) (All-append (λ x. x ≢ 10) before r.more within r.within),
  subst (Consumes a c) (sym r.after_is) (Consumes-trans a b c before r.more had r.unread),
)

pub whole_read : (a b c : Option (List ℕ)) (before after : List ℕ) → ReadsMore b c before after Whole → IsWithin before
    → Consumes a b before → IsLine after × Consumes a c (after ++ 10 ∷ [])
whole_read a b c before after r within had = (
  (subst IsWithin (sym r.after_is) (All-append (λ x. x ≢ 10) before r.more within r.within), r.short),
  subst (Consumes a c) (sym (ap (λ l. l ++ 10 ∷ []) r.after_is ∙ append_assoc before r.more (10 ∷ [])))
      (Consumes-trans a b c before (r.more ++ 10 ∷ []) had r.unread),
)

-- nothing is left behind a part
all_read : (a b : Option (List ℕ)) (before : List ℕ) (P : List ℕ → Type 0) → Consumes a b before → IsAtEnd b → P before → IfSome a P
all_read None b before P had end p = tt
all_read (Some x) None before P had end p = absurd had
all_read (Some x) (Some y) before P had end p = subst P (sym (had ∙ ap (λ l. before ++ l) end ∙ append-nil before)) p

at_end_of : (a : Option (List ℕ)) → IfSome a (λ xs. xs ≡ []) → IsAtEnd a
at_end_of None h = tt
at_end_of (Some xs) h = h

pub end_read : (a b c : Option (List ℕ)) (before after : List ℕ) (e : Ending) → ReadsMore b c before after AtEnd
    → IsWithin before → Consumes a b before → IsRest after e → IsEnd a e
end_read a b c before after e r within had rest = by_rest rest
  where
    same : before ≡ after
    same = sym (r.after_is ∙ ap (λ l. before ++ l) (r.at_end refl).0 ∙ append-nil before)

    by_rest : IsRest after e → IsEnd a e
    by_rest (inl (is, none)) = subst (IsEnd a) (sym is) (at_end_of a (all_read a b before (λ xs. xs ≡ []) had (r.at_end refl).1 (same ∙ none)))
    by_rest (inr (is, some)) = subst (IsEnd a) (sym is)
        (all_read a b before (λ xs. IsWithin xs × (0 < length xs)) had (r.at_end refl).1 (within, subst (λ l. 0 < length l) (sym same) some))

-- an error behind a part
pub error_read : (a b : Option (List ℕ)) (before : List ℕ) (e : Ending) → Consumes a b before → IsWithin before
    → (e ≡ Memory) ⊎ (e ≡ Unreadable) ⊎ ((e ≡ TooLong) × PassesLimit b before) → IsEnd a e
error_read a b before e had within (inl is) = subst (IsEnd a) (sym is) tt
error_read a b before e had within (inr (inl is)) = subst (IsEnd a) (sym is) tt
error_read a b before e had within (inr (inr (is, p))) = subst (IsEnd a) (sym is) (too_long a b before had within p)
  where
    too_long : (a b : Option (List ℕ)) (before : List ℕ) → Consumes a b before → IsWithin before → PassesLimit b before → IfSome a BeginsTooLong
    too_long None b before had within p = tt
    too_long (Some x) None before had within p = absurd had
    too_long (Some x) (Some y) before had within (front, rest, is, w, lt) = (
      before ++ front,
      rest,
      had ∙ ap (λ l. before ++ l) is ∙ sym (append_assoc before front rest),
      All-append (λ x. x ≢ 10) before front within w,
      subst (λ n. most_line < n) (sym (length-append before front)) lt,
    )
