-- Texts and what they end in.
use Rattle.std.proofs.Common.{◌≡◌, ℕ, ◌-◌, ◌≤◌, ◌∙◌, Bool, true, false, cond, List, [], ◌∷◌, ◌++◌, length, take, drop, refl, ap, sym, arith, length-append, append_assoc, append-nil}
use Rattle.std.proofs.Math.Seq.{take-append_seam}
use Rattle.std.proofs.lemmas.List.{take-append-drop}
use Rattle.tcl_parser.specs.Texts.{EndsWith}
use Rattle.tcl_parser.specs.Reading.{before}

pub EndsWith-itself : (s : List ℕ) → EndsWith s s
EndsWith-itself s = record { front = []; whole = refl }

pub EndsWith-more : (b : ℕ) (s rest : List ℕ) → EndsWith s rest → EndsWith (b ∷ s) rest
EndsWith-more b s rest h = record { front = b ∷ h.front; whole = ap (λ x. b ∷ x) h.whole }

pub EndsWith-nil : (s : List ℕ) → EndsWith s []
EndsWith-nil s = record { front = s; whole = sym (append-nil s) }

pub EndsWith-drop : (n : ℕ) (s : List ℕ) → EndsWith s (drop n s)
EndsWith-drop n s = record { front = take n s; whole = sym (take-append-drop n s) }

pub EndsWith-trans : (s t u : List ℕ) → EndsWith s t → EndsWith t u → EndsWith s u
EndsWith-trans s t u h k =
    record { front = h.front ++ k.front; whole = h.whole ∙ ap (λ x. h.front ++ x) k.whole ∙ sym (append_assoc h.front k.front u) }

pub EndsWith-cond : (b : Bool) (s x y : List ℕ) → EndsWith s x → EndsWith s y → EndsWith s (cond b x y)
EndsWith-cond true s x y h k = h
EndsWith-cond false s x y h k = k

pub EndsWith-length : (s rest : List ℕ) → EndsWith s rest → length rest ≤ length s
EndsWith-length s rest h = omega (arith, ap length h.whole, length-append h.front rest)

pub before-front : (x rest : List ℕ) → before (x ++ rest) rest ≡ x
before-front x rest =
    let n : length (x ++ rest) - length rest ≡ length x = omega (arith, length-append x rest) in
    ap (λ k. take k (x ++ rest)) n ∙ take-append_seam x rest

-- a text is what stands before its end, and its end
pub before-whole : (s rest : List ℕ) → EndsWith s rest → s ≡ before s rest ++ rest
before-whole s rest h =
    let front : before s rest ≡ h.front = ap (λ x. before x rest) h.whole ∙ before-front h.front rest in
    h.whole ∙ ap (λ x. x ++ rest) (sym front)
