-- The words of an `if` are read as its branches.
use Rattle.std.proofs.Common.{◌≡◌, refl, sym, ◌∙◌, ap, subst, ℕ, zero, suc, ◌≤◌, Bool, true, false, List, [], ◌∷◌, length, Option, Some, None, codes, arith}
use Rattle.std.specs.Str.{bytes_eq}
use Rattle.std.proofs.lemmas.Slice.Eq.{bytes_eq-Decides}
use Rattle.tcl_core.specs.Paths.{Text}
use Rattle.tcl_language.specs.Instructions.{either}
use Rattle.tcl_language.specs.Expressions.{Branches, led_by, without_first, last_branch, body_first, branches_within}
use Rattle.tcl_language.specs.Branching.{Behind, stated, left_out, IsIf, alone, with_last, with_more, IfIsRead}

-- ## A word that may stand first

same : (x : Text) → bytes_eq x x ≡ true
same x = (bytes_eq-Decides x x).1 refl

other_by : (t : Bool) (x y : Text) → bytes_eq x y ≡ t → (x ≡ y → ⊥) → t ≡ false
other_by true x y e f = absurd (f ((bytes_eq-Decides x y).0 e))
other_by false x y e f = refl

other : (x y : Text) → (x ≡ y → ⊥) → bytes_eq x y ≡ false
other x y f = other_by (bytes_eq x y) x y refl f

differs : (x y : Text) → bytes_eq x y ≡ false → x ≡ y → ⊥
differs x y e h = let t : bytes_eq x y ≡ true = (bytes_eq-Decides x y).1 h in cc

left : (word : Text) (ws xs : List Text) → Behind word ws xs → without_first word ws ≡ xs
left word _ _ (stated ws) = ap (λ t. either {A = List Text} t ws (word ∷ ws)) (same word)
left word _ _ (left_out x ws f) = ap (λ t. either {A = List Text} t ws (x ∷ ws)) (other x word f)

fewer : (word : Text) (ws xs : List Text) → Behind word ws xs → length xs ≤ length ws
fewer word _ _ (stated ws) = omega arith
fewer word _ _ (left_out x ws f) = omega arith

behind_by : (t : Bool) (word x : Text) (ws : List Text) → bytes_eq x word ≡ t → Behind word (x ∷ ws) (either t ws (x ∷ ws))
behind_by true word x ws e = subst (λ y. Behind word (y ∷ ws) ws) (sym ((bytes_eq-Decides x word).0 e)) (stated ws)
behind_by false word x ws e = left_out x ws (differs x word e)

behind : (word : Text) (ws : List Text) (y : Text) (ys : List Text) → without_first word ws ≡ y ∷ ys → Behind word ws (y ∷ ys)
behind word [] y ys e = absurd (cc)
behind word (x ∷ ws) y ys e = subst (Behind word (x ∷ ws)) e (behind_by (bytes_eq x word) word x ws refl)

-- ## What is read is so

module _ (n : ℕ) (go : (rest : List Text) (c : Branches) → branches_within n rest ≡ Some c → IsIf rest c) (test body : Text) (ws : List Text) where
  of_more : (rest : List Text) (b : Branches) (r : Option Branches) → Behind (codes "then") ws (body ∷ codes "elseif" ∷ rest) → branches_within n rest ≡ r → led_by test body r ≡ Some b → IsIf (test ∷ ws) b
  of_more rest b None h e f = absurd (cc)
  of_more rest b (Some c) h e f =
      let is : record { tests = (test, body) ∷ c.tests; last = c.last } ≡ b = cc in subst (IsIf (test ∷ ws)) is (with_more test body ws rest c h (go rest c e))

  of_last : (word : Text) (rest ys : List Text) (b : Branches) → Behind (codes "then") ws (body ∷ word ∷ rest) → (word ≡ codes "elseif" → ⊥) → without_first (codes "else") (word ∷ rest) ≡ ys →
      led_by test body (last_branch ys) ≡ Some b → IsIf (test ∷ ws) b
  of_last word rest [] b h d w e = absurd (cc)
  of_last word rest (last ∷ []) b h d w e =
      let is : record { tests = (test, body) ∷ []; last = Some last } ≡ b = cc in
      subst (IsIf (test ∷ ws)) is (with_last test body word last ws rest h d (behind (codes "else") (word ∷ rest) last [] w))
  of_last word rest (x ∷ y ∷ ys) b h d w e = absurd (cc)

  of_word : (t : Bool) (word : Text) (rest : List Text) (b : Branches) → Behind (codes "then") ws (body ∷ word ∷ rest) → bytes_eq word (codes "elseif") ≡ t →
      led_by test body (either t (branches_within n rest) (last_branch (without_first (codes "else") (word ∷ rest)))) ≡ Some b → IsIf (test ∷ ws) b
  of_word true word rest b h d e =
      of_more rest b (branches_within n rest) (subst (λ x. Behind (codes "then") ws (body ∷ x ∷ rest)) ((bytes_eq-Decides word (codes "elseif")).0 d) h) refl e
  of_word false word rest b h d e = of_last word rest (without_first (codes "else") (word ∷ rest)) b h (differs word (codes "elseif") d) refl e

of_body : (n : ℕ) (go : (rest : List Text) (c : Branches) → branches_within n rest ≡ Some c → IsIf rest c) (test : Text) (ws xs : List Text) (b : Branches) →
    without_first (codes "then") ws ≡ xs → body_first test xs (branches_within n) ≡ Some b → IsIf (test ∷ ws) b
of_body n go test ws [] b w e = absurd (cc)
of_body n go test ws (body ∷ []) b w e =
    let is : record { tests = (test, body) ∷ []; last = None } ≡ b = cc in subst (IsIf (test ∷ ws)) is (alone test body ws (behind (codes "then") ws body [] w))
of_body n go test ws (body ∷ word ∷ rest) b w e =
    of_word n go test body ws (bytes_eq word (codes "elseif")) word rest b (behind (codes "then") ws body (word ∷ rest) w) refl e

read : (n : ℕ) (ws : List Text) (b : Branches) → branches_within n ws ≡ Some b → IsIf ws b
read zero ws b e = absurd (cc)
read (suc n) [] b e = absurd (cc)
read (suc n) (test ∷ ws) b e = of_body n (λ rest c h. read n rest c h) test ws (without_first (codes "then") ws) b refl e

-- ## What is so is read

reads : (ws : List Text) (b : Branches) → IsIf ws b → (n : ℕ) → length ws ≤ n → branches_within n ws ≡ Some b
reads _ _ (alone test body ws h) zero l = absurd (omega arith)
reads _ _ (alone test body ws h) (suc n) l = ap (λ xs. body_first test xs (branches_within n)) (left (codes "then") ws (body ∷ []) h)
reads _ _ (with_last test body first last ws others h d g) zero l = absurd (omega arith)
reads _ _ (with_last test body first last ws others h d g) (suc n) l =
    ap (λ xs. body_first test xs (branches_within n)) (left (codes "then") ws (body ∷ first ∷ others) h)
    ∙ ap (λ t. led_by test body (either t (branches_within n others) (last_branch (without_first (codes "else") (first ∷ others))))) (other first (codes "elseif") d)
    ∙ ap (λ ys. led_by test body (last_branch ys)) (left (codes "else") (first ∷ others) (last ∷ []) g)
reads _ _ (with_more test body ws rest b h m) zero l = absurd (omega arith)
reads _ _ (with_more test body ws rest b h m) (suc n) l =
    ap (λ xs. body_first test xs (branches_within n)) (left (codes "then") ws (body ∷ codes "elseif" ∷ rest) h)
    ∙ ap (λ t. led_by test body (either t (branches_within n rest) (last_branch (without_first (codes "else") (codes "elseif" ∷ rest))))) (same (codes "elseif"))
    ∙ ap (led_by test body) (reads rest b m n (omega (arith, fewer (codes "then") ws (body ∷ codes "elseif" ∷ rest) h)))

pub if_is_read : IfIsRead
if_is_read ws b = (λ e. read (length ws) ws b e, λ h. reads ws b h (length ws) (omega arith))
