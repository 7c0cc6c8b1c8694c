-- What the parameters of a call are bound to, from the left.
use Rattle.std.proofs.Common.{◌≡◌, ℕ, suc, ◌-◌, ◌≤◌, Bool, true, false, List, [], ◌∷◌, ◌++◌, take, drop, get_or, length, Option, Some, None, refl, sym, ◌∙◌, ap, arith}
use Rattle.std.specs.Prelude.{◌&&◌}
use Rattle.std.proofs.lemmas.List.{map-append}
use Rattle.std.proofs.lemmas.Option.{same_Some}
use Rattle.tcl_language.specs.Control.{bindings, also, by_default, fit_all, is_rest, last_bound}
use Rattle.tcl_language.specs.Instructions.{fits}
use Rattle.tcl_interpreter.specs.declared.parameter.Parameter.{Parameter}
use Rattle.tcl_core.specs.Endings.{Reply}
use Rattle.tcl_calls.specs.Procedures.{pair_of, pairs_of, joined, next_bound, straight, TooLongBound}
use Rattle.tcl_calls.specs.declared.procedures.Binding.{Binding}

by_default_also : (name d : List ℕ) (o : Option (List (List ℕ × List ℕ))) → by_default name (Some d) o ≡ also (name, d) o
by_default_also name d None = refl
by_default_also name d (Some rest) = refl

pub bind_next : (ps : List Parameter) (p : Parameter) (args : List (List ℕ)) (value : List ℕ) (others : List (List ℕ)) → 2 ≤ length ps → p ≡ get_or ps 0 p → next_bound p.default args ≡ Some (value, others) →
    bindings ps args ≡ also (p.name, value) (bindings (drop 1 ps) others)
bind_next [] p args value others h e n = absurd (omega arith)
bind_next (x ∷ []) p args value others h e n = absurd (omega arith)
bind_next (x ∷ y ∷ zs) p (w ∷ ws) value others h e n =
    let same = same_Some _ _ n in
    (λ i. also ((sym e i).name, (same i).0) (bindings (y ∷ zs) (same i).1))
bind_next (x ∷ y ∷ zs) p [] value others h e n = by p.default refl n
  where
    by : (d : Option (List ℕ)) → p.default ≡ d → next_bound d [] ≡ Some (value, others) → by_default x.name x.default (bindings (y ∷ zs) []) ≡ also (p.name, value) (bindings (y ∷ zs) others)
    by None g m = let clash : None ≡ Some (value, others) = m in cc
    by (Some d) g m =
        let same = same_Some _ _ m in
        ap (λ (q : Parameter). by_default q.name q.default (bindings (y ∷ zs) [])) (sym e) ∙ ap (λ (o : Option (List ℕ)). by_default p.name o (bindings (y ∷ zs) [])) g
        ∙ by_default_also p.name d (bindings (y ∷ zs) []) ∙ (λ i. also (p.name, (same i).0) (bindings (y ∷ zs) (same i).1))

append_one : (xs : List (List ℕ × List ℕ)) (b : List ℕ × List ℕ) (ys : List (List ℕ × List ℕ)) → xs ++ b ∷ ys ≡ (xs ++ b ∷ []) ++ ys
append_one [] b ys = refl
append_one (x ∷ xs) b ys = ap (λ zs. x ∷ zs) (append_one xs b ys)

pub joined_also : (before : List (List ℕ × List ℕ)) (b : List ℕ × List ℕ) (o : Option (List (List ℕ × List ℕ))) → joined before (also b o) ≡ joined (before ++ b ∷ []) o
joined_also before b None = refl
joined_also before b (Some rest) = ap Some (append_one before b rest)

pub pairs_more : (bs : List Binding) (b : Binding) → pairs_of (bs ++ b ∷ []) ≡ pairs_of bs ++ pair_of b ∷ []
pairs_more bs b = map-append pair_of bs (b ∷ [])

pub fit_more : (bs : List (List ℕ × List ℕ)) (b : List ℕ × List ℕ) → fit_all bs ≡ true → fits b.1 ≡ true → fit_all (bs ++ b ∷ []) ≡ true
fit_more [] b h f = ap (λ x. x && true) f
fit_more (x ∷ bs) b h f = by (fits x.1) (fit_all bs) (fit_all (bs ++ b ∷ [])) h (λ g. fit_more bs b g f)
  where
    by : (a c d : Bool) → (a && c) ≡ true → (c ≡ true → d ≡ true) → (a && d) ≡ true
    by true c d g k = k g
    by false c d g k = g

pub first_of_two : {A : Type 0} (xs : List A) (x : A) → x ≡ get_or xs 0 x → 1 ≤ length xs → take (length xs - 1) (drop 1 xs) ≡ drop 1 xs
first_of_two [] x e h = refl
first_of_two (y ∷ ys) x e h = let n : length (y ∷ ys) - 1 ≡ length ys = omega arith in ap (λ m. take m ys) n ∙ Rattle.std.proofs.Math.Seq.take-length ys

fit_both : (bs cs : List (List ℕ × List ℕ)) → fit_all bs ≡ true → fit_all (bs ++ cs) ≡ fit_all cs
fit_both [] cs h = refl
fit_both (b ∷ bs) cs h = by (fits b.1) (fit_all bs) (fit_all (bs ++ cs)) h (fit_both bs cs)
  where
    by : (a c d : Bool) → (a && c) ≡ true → (c ≡ true → d ≡ fit_all cs) → (a && d) ≡ fit_all cs
    by true c d g k = k g
    by false c d g k = let clash : false ≡ true = g in cc

-- a list that is too long is so behind others
pub too_long_joined : (bs : List (List ℕ × List ℕ)) (o : Option (List (List ℕ × List ℕ))) (e : Reply) → fit_all bs ≡ true → TooLongBound o e → TooLongBound (joined bs o) e
too_long_joined bs None e fit h = h
too_long_joined bs (Some cs) e fit h = (fit_both bs cs fit ∙ h.0, h.1)

-- one word for each parameter, where the last takes no more than its own
pub some_straight : (ps : List Parameter) (last : Parameter) (args : List (List ℕ)) → 1 ≤ length ps → length ps ≡ length args → last ≡ get_or ps (length ps - 1) last → is_rest last.name ≡ false → bindings ps args ≡ Some (straight ps args)
some_straight [] last args h e is other = absurd (omega arith)
some_straight (p ∷ ps) last [] h e is other = absurd (omega arith)
some_straight (p ∷ []) last (w ∷ []) h e is other = ap (λ b. last_bound b p (w ∷ [])) (ap (λ (x : Parameter). is_rest x.name) (sym is) ∙ other)
some_straight (p ∷ []) last (w ∷ v ∷ ws) h e is other = absurd (omega arith)
some_straight (p ∷ q ∷ ps) last (w ∷ ws) h e is other =
    let n : length (p ∷ q ∷ ps) - 1 ≡ suc (length (q ∷ ps) - 1) = omega arith in
    ap (also (p.name, w)) (some_straight (q ∷ ps) last ws (omega arith) (omega arith) (is ∙ ap (λ m. get_or (p ∷ q ∷ ps) m last) n) other)
