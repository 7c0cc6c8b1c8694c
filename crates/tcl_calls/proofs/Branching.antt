-- How the words of an `if` are read.
use Rattle.std.proofs.Common.{◌≡◌, ℕ, zero, suc, ◌-◌, ◌<◌, ◌≤◌, take, drop, get_or, Bool, true, false, List, [], ◌∷◌, ◌++◌, length, Option, Some, None, refl, sym, ◌∙◌, ap, append_assoc, append-nil, arith}
use Rattle.std.specs.Prelude.{codes}
use Rattle.std.specs.Str.{bytes_eq}
use Rattle.std.proofs.Math.Seq.{take-length}
use Rattle.tcl_core.specs.Paths.{Text}
use Rattle.tcl_language.specs.Expressions.{Branches, led_by, without_first, last_branch, behind_body, body_first, branches_within}
use Rattle.tcl_language.specs.Instructions.{either}
use Rattle.tcl_calls.specs.BranchesRead.{behind, with_body, first_of, lone}

fewer_by : (t : Bool) (x : Text) (ws : List Text) → length (either t ws (x ∷ ws)) ≤ suc (length ws)
fewer_by true x ws = omega arith
fewer_by false x ws = omega arith

fewer : (word : Text) (ws : List Text) → length (without_first word ws) ≤ length ws
fewer word [] = omega arith
fewer word (x ∷ ws) = fewer_by (bytes_eq x word) x ws

-- words without a condition and a body are no branches
pub none_first : (n : ℕ) (ws : List Text) → first_of ws ≡ None → branches_within n ws ≡ None
none_first zero ws e = refl
none_first (suc n) [] e = refl
none_first (suc n) (test ∷ ws) e = by (without_first (codes "then") ws) e
  where
    by : (xs : List Text) → with_body test xs ≡ None → body_first test xs (branches_within n) ≡ None
    by [] f = refl
    by (body ∷ rest) f = let clash : Some ((test, body), rest) ≡ None = f in cc

led : (tests : List (Text × Text)) (test body : Text) (o : Option Branches) → behind tests (led_by test body o) ≡ behind (tests ++ (test, body) ∷ []) o
led tests test body None = refl
led tests test body (Some b) = ap (λ (ts : List (Text × Text)). Some (record { tests = ts; last = b.last })) (sym (append_assoc tests ((test, body) ∷ []) b.tests))

-- a condition and its body are read, and then what is behind them
pub one_first : (n : ℕ) (ws : List Text) (x : Text × Text) (rest : List Text) (tests : List (Text × Text)) → length ws ≤ n → first_of ws ≡ Some (x, rest) →
    (m : ℕ) × (suc (length rest) ≤ m) × (behind tests (branches_within n ws) ≡ behind (tests ++ x ∷ []) (behind_body rest (branches_within m)))
one_first n [] x rest tests l e = let clash : None ≡ Some (x, rest) = e in cc
one_first zero (test ∷ ws) x rest tests l e = absurd (omega arith)
one_first (suc m) (test ∷ ws) x rest tests l e = by (without_first (codes "then") ws) (fewer (codes "then") ws) e
  where
    by : (xs : List Text) → length xs ≤ length ws → with_body test xs ≡ Some (x, rest) →
        (m2 : ℕ) × (suc (length rest) ≤ m2) × (behind tests (body_first test xs (branches_within m)) ≡ behind (tests ++ x ∷ []) (behind_body rest (branches_within m2)))
    by [] k f = let clash : None ≡ Some (x, rest) = f in cc
    by (body ∷ others) k f =
        let same : ((test, body), others) ≡ (x, rest) = ap (λ (o : Option ((Text × Text) × List Text)). of_some o) f in (
          m,
          (let n : length others ≡ length rest = ap (λ (y : (Text × Text) × List Text). length y.1) same in omega arith),
          led tests test body (behind_body others (branches_within m)) ∙ ap (λ (y : (Text × Text) × List Text). behind (tests ++ y.0 ∷ []) (behind_body y.1 (branches_within m))) same,
        )
      where
        of_some : Option ((Text × Text) × List Text) → (Text × Text) × List Text
        of_some None = (x, rest)
        of_some (Some y) = y

pub is_end : (tests : List (Text × Text)) (go : List Text → Option Branches) (rest : List Text) → rest ≡ [] → behind tests (behind_body rest go) ≡ Some (record { tests = tests; last = None })
is_end tests go rest e = ap (λ (ws : List Text). behind tests (behind_body ws go)) e ∙ ap (λ (ts : List (Text × Text)). Some (record { tests = ts; last = None })) (append-nil tests)

-- behind `elseif`
pub is_more : (tests : List (Text × Text)) (m : ℕ) (word : Text) (others : List Text) → bytes_eq word (codes "elseif") ≡ true → behind tests (behind_body (word ∷ others) (branches_within m)) ≡ behind tests (branches_within m others)
is_more tests m word others e = ap (λ t. behind tests (either t (branches_within m others) (last_branch (without_first (codes "else") (word ∷ others))))) e

not_more : (tests : List (Text × Text)) (go : List Text → Option Branches) (word : Text) (others : List Text) → bytes_eq word (codes "elseif") ≡ false →
    behind tests (behind_body (word ∷ others) go) ≡ behind tests (last_branch (without_first (codes "else") (word ∷ others)))
not_more tests go word others e = ap (λ t. behind tests (either t (go others) (last_branch (without_first (codes "else") (word ∷ others))))) e

-- a last body
pub is_last : (tests : List (Text × Text)) (go : List Text → Option Branches) (word body : Text) (others : List Text) → bytes_eq word (codes "elseif") ≡ false → lone (without_first (codes "else") (word ∷ others)) ≡ Some body →
    behind tests (behind_body (word ∷ others) go) ≡ Some (record { tests = tests; last = Some body })
is_last tests go word body others e f = not_more tests go word others e ∙ by (without_first (codes "else") (word ∷ others)) f
  where
    by : (xs : List Text) → lone xs ≡ Some body → behind tests (last_branch xs) ≡ Some (record { tests = tests; last = Some body })
    by [] g = let clash : None ≡ Some body = g in cc
    by (x ∷ []) g = ap (λ (ts : List (Text × Text)). Some (record { tests = ts; last = Some x })) (append-nil tests) ∙ ap (λ (o : Option Text). Some (record { tests = tests; last = o })) g
    by (x ∷ y ∷ ys) g = let clash : None ≡ Some body = g in cc

pub no_last : (tests : List (Text × Text)) (go : List Text → Option Branches) (word : Text) (others : List Text) → bytes_eq word (codes "elseif") ≡ false → lone (without_first (codes "else") (word ∷ others)) ≡ None →
    behind tests (behind_body (word ∷ others) go) ≡ None
no_last tests go word others e f = not_more tests go word others e ∙ by (without_first (codes "else") (word ∷ others)) f
  where
    by : (xs : List Text) → lone xs ≡ None → behind tests (last_branch xs) ≡ None
    by [] g = refl
    by (x ∷ []) g = let clash : Some x ≡ None = g in cc
    by (x ∷ y ∷ ys) g = refl

pub split : (ws : List Text) (word : Text) → 1 ≤ length ws → word ≡ get_or ws 0 word → ws ≡ word ∷ take (length ws - 1) (drop 1 ws)
split [] word l e = absurd (omega arith)
split (x ∷ ws) word l e =
    let n : length (x ∷ ws) - 1 ≡ length ws = omega arith in
    ap (λ y. y ∷ ws) (sym e) ∙ ap (λ ys. word ∷ ys) (sym (ap (λ m. take m ws) n ∙ take-length ws))

pub no_words : (ws : List Text) → length ws < 1 → ws ≡ []
no_words [] l = refl
no_words (x ∷ ws) l = absurd (omega arith)
