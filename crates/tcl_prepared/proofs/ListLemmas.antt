-- Lists that are gone through one by one.
use Rattle.std.proofs.Common.{◌≡◌, ℕ, zero, suc, ◌+◌, ◌<◌, ◌≤◌, List, [], ◌∷◌, ◌++◌, length, get_or, take, map, refl, sym, ◌∙◌, ap, subst, add-one, arith}
use Rattle.std.proofs.lemmas.List.{take_more, map_push}
use Rattle.tcl_value.specs.Limits.{IsWithin}
use Rattle.tcl_value.specs.Texts.{AllWithin}
use Rattle.tcl_parser.specs.declared.script.Part.TheVariants.{Literal}
use Rattle.tcl_prepared.specs.Brackets.{heaviest}
use Rattle.tcl_prepared.specs.Views.{literal_parts}

-- what was made so far is seen as what was taken so far, and so with one more
pub made_more : {A B : Type 0} (see : A → B) (ls cs : List A) (a : A) (bs : List B) (i : ℕ) (b : B) → cs ≡ ls ++ a ∷ [] → i < length bs → b ≡ get_or bs i b → see a ≡ b → map see ls ≡ take i bs → map see cs ≡ take (i + 1) bs
made_more see ls cs a bs i b made l at is h =
    ap (map see) made ∙ map_push see ls a ∙ ap (λ r. r ++ see a ∷ []) h ∙ ap (λ x. take i bs ++ x ∷ []) (is ∙ at) ∙ sym (take_more bs i b l)

-- what is as heavy as all so far, and as the next
pub heaviest_more : {A : Type 0} (w : A → ℕ) (xs : List A) (i : ℕ) (x : A) (n : ℕ) → i < length xs → x ≡ get_or xs i x → w x ≤ n → heaviest w (take i xs) ≤ n → heaviest w (take (i + 1) xs) ≤ n
heaviest_more {A} w xs i x n l at h k = rw add-one (next xs i l at k)
  where
    next : (xs : List A) (i : ℕ) → i < length xs → x ≡ get_or xs i x → heaviest w (take i xs) ≤ n → heaviest w (take (suc i) xs) ≤ n
    next [] i l at k = absurd (omega arith)
    next (y ∷ ys) zero l at k = let here : w y ≤ n = subst (λ z. w z ≤ n) at h in omega arith
    next (y ∷ ys) (suc i) l at k = omega (arith, next ys i (omega arith) at (omega arith))

pub within_more : (xs : List (List ℕ)) (x : List ℕ) → AllWithin xs → IsWithin x → AllWithin (xs ++ x ∷ [])
within_more [] x h k = (k, tt)
within_more (y ∷ ys) x h k = (h.0, within_more ys x h.1 k)

-- a literal that isn't empty is one part
pub literal_is : (v t : List ℕ) → v ≡ t → (length t ≡ 0 → ⊥) → literal_parts v ≡ Literal t ∷ []
literal_is v [] e h = absurd (h refl)
literal_is v (b ∷ t) e h = ap literal_parts e
