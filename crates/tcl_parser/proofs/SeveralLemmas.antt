-- Things that are read one after another.
use Rattle.std.proofs.Common.{◌≡◌, ℕ, zero, suc, ◌<◌, ◌∙◌, List, [], ◌∷◌, length, Result, Ok, Err, refl, ap, sym, subst, arith}
use Rattle.tcl_parser.specs.declared.fault.Fault.{Fault}
use Rattle.tcl_parser.specs.Texts.{EndsWith}
use Rattle.tcl_parser.specs.Several.{Turn, over, next, Several, led_by, and_then, several}
use Rattle.tcl_parser.proofs.EndLemmas.{EndsWith-nil, EndsWith-trans, EndsWith-length}

-- a turn leaves an end of the text, and one that reads a thing leaves less
abbrev pub Falls : {A S : Type 0} → (S → List ℕ) → List ℕ → Result (Turn A S) Fault → Type 0
Falls text_of s (Ok (over rest)) = EndsWith s rest
Falls text_of s (Ok (next a t)) = EndsWith s (text_of t) × (length (text_of t) < length s)
Falls text_of s (Err f) = Unit {0}

-- turns from the place of a text on
abbrev pub AllFall : {A S : Type 0} → (S → List ℕ) → (S → Result (Turn A S) Fault) → Type 0
AllFall {A} {S} text_of turn = (s : S) → Falls text_of (text_of s) (turn s)

same_after : {A S : Type 0} (r : Result (Turn A S) Fault) (f g : S → Several A) → ((a : A) (t : S) → r ≡ Ok (next a t) → f t ≡ g t) → and_then r f ≡ and_then r g
same_after (Ok (over rest)) f g h = refl
same_after (Ok (next a t)) f g h = ap (led_by a) (h a t refl)
same_after (Err e) f g h = refl

next_falls : {A S : Type 0} (text_of : S → List ℕ) (s : List ℕ) (r : Result (Turn A S) Fault) (a : A) (t : S) → Falls text_of s r → r ≡ Ok (next a t) → EndsWith s (text_of t) × (length (text_of t) < length s)
next_falls text_of s r a t h e = subst (Falls text_of s) e h

-- the number of turns doesn't matter where it is large enough
pub several-enough : {A S : Type 0} (text_of : S → List ℕ) (turn : S → Result (Turn A S) Fault) → AllFall text_of turn → (n m : ℕ) (s : S) → length (text_of s) < n → length (text_of s) < m → several turn n s ≡ several turn m s
unfolding several
several-enough text_of turn falls zero m s h k = absurd (omega arith)
several-enough text_of turn falls (suc n) zero s h k = absurd (omega arith)
several-enough {A} {S} text_of turn falls (suc n) (suc m) s h k =
    same_after (turn s) (several turn n) (several turn m) (λ a t e.
    let l = (next_falls text_of (text_of s) (turn s) a t (falls s) e).1 in
    several-enough text_of turn falls n m t (omega arith) (omega arith))

unfold_several : {A S : Type 0} (turn : S → Result (Turn A S) Fault) (n : ℕ) (s : S) → several turn (suc n) s ≡ and_then (turn s) (several turn n)
unfolding several
unfold_several turn n s = refl

-- one turn, and then the others
pub several-is : {A S : Type 0} (text_of : S → List ℕ) (turn : S → Result (Turn A S) Fault) → AllFall text_of turn → (s : S) → several turn (suc (length (text_of s))) s ≡ and_then (turn s) (λ t. several turn (suc (length (text_of t))) t)
several-is {A} {S} text_of turn falls s =
    unfold_several turn (length (text_of s)) s
    ∙ same_after (turn s) (several turn (length (text_of s))) (λ t. several turn (suc (length (text_of t))) t) (λ a t e.
    let l = (next_falls text_of (text_of s) (turn s) a t (falls s) e).1 in
    several-enough text_of turn falls (length (text_of s)) (suc (length (text_of t))) t (omega arith) (omega arith))

-- what follows is an end of the text
after_ends : {A S : Type 0} (text_of : S → List ℕ) (s : List ℕ) (r : Result (Turn A S) Fault) (later : S → Several A) (rest : List ℕ) → Falls text_of s r → ((t : S) → (later t).ended ≡ Ok rest → EndsWith (text_of t) rest) → (and_then r later).ended ≡ Ok rest → EndsWith s rest
after_ends text_of s (Ok (over x)) later rest falls h e = let same : x ≡ rest = cc in subst (EndsWith s) same falls
after_ends text_of s (Ok (next a t)) later rest falls h e = EndsWith-trans s (text_of t) rest falls.0 (h t e)
after_ends text_of s (Err f) later rest falls h e = cc

pub several-ends : {A S : Type 0} (text_of : S → List ℕ) (turn : S → Result (Turn A S) Fault) → AllFall text_of turn → (n : ℕ) (s : S) (rest : List ℕ) → (several turn n s).ended ≡ Ok rest → EndsWith (text_of s) rest
unfolding several
several-ends text_of turn falls zero s rest e = let same : [] ≡ rest = cc in subst (EndsWith (text_of s)) same (EndsWith-nil (text_of s))
several-ends text_of turn falls (suc n) s rest e =
    after_ends text_of (text_of s) (turn s) (several turn n) rest (falls s) (λ t. several-ends text_of turn falls n t rest) e

-- less follows where the first turn reads a thing
after_shorter : {A S : Type 0} (text_of : S → List ℕ) (s : List ℕ) (r : Result (Turn A S) Fault) (later : S → Several A) (rest : List ℕ) → Falls text_of s r → ((x : List ℕ) → r ≡ Ok (over x) → ⊥) → ((t : S) → (later t).ended ≡ Ok rest → EndsWith (text_of t) rest) → (and_then r later).ended ≡ Ok rest → length rest < length s
after_shorter text_of s (Ok (over x)) later rest falls n h e = absurd (n x refl)
after_shorter text_of s (Ok (next a t)) later rest falls n h e = let l = EndsWith-length (text_of t) rest (h t e) in let m = falls.1 in omega arith
after_shorter text_of s (Err f) later rest falls n h e = cc

pub several-shorter : {A S : Type 0} (text_of : S → List ℕ) (turn : S → Result (Turn A S) Fault) → AllFall text_of turn → (n : ℕ) (s : S) (rest : List ℕ) → ((x : List ℕ) → turn s ≡ Ok (over x) → ⊥) → (several turn (suc n) s).ended ≡ Ok rest → length rest < length (text_of s)
several-shorter text_of turn falls n s rest on e =
    after_shorter text_of (text_of s) (turn s) (several turn n) rest (falls s) on (λ t. several-ends text_of turn falls n t rest) (sym (ap (λ x. x.ended) (unfold_several turn n s)) ∙ e)

-- less follows where a thing was read
after_some : {A S : Type 0} (text_of : S → List ℕ) (s : List ℕ) (r : Result (Turn A S) Fault) (later : S → Several A) (rest : List ℕ) (a : A) (others : List A) → Falls text_of s r → ((t : S) → (later t).ended ≡ Ok rest → EndsWith (text_of t) rest) → (and_then r later).items ≡ a ∷ others → (and_then r later).ended ≡ Ok rest → length rest < length s
after_some text_of s (Ok (over x)) later rest a others falls h i e = cc
after_some text_of s (Ok (next b t)) later rest a others falls h i e = let l = EndsWith-length (text_of t) rest (h t e) in let m = falls.1 in omega arith
after_some text_of s (Err f) later rest a others falls h i e = cc

pub several-some : {A S : Type 0} (text_of : S → List ℕ) (turn : S → Result (Turn A S) Fault) → AllFall text_of turn → (n : ℕ) (s : S) (rest : List ℕ) (a : A) (others : List A) → (several turn n s).items ≡ a ∷ others → (several turn n s).ended ≡ Ok rest → length rest < length (text_of s)
unfolding several
several-some text_of turn falls zero s rest a others i e = cc
several-some text_of turn falls (suc n) s rest a others i e =
    after_some text_of (text_of s) (turn s) (several turn n) rest a others (falls s) (λ t. several-ends text_of turn falls n t rest) i e
