-- Places in a tree of interpreters, and how far a call goes up.
use Rattle.std.specs.Prelude.{ℕ, zero, suc, Bool, true, false, List, [], ◌∷◌, Option, Some, None}
use Rattle.std.specs.Prelude.{nat_eq, nat_le, nat_lt, ◌&&◌, length}

-- a text, as its bytes of UTF-8
abbrev pub Text : Type 0
Text = List ℕ

-- names, from one interpreter downward
abbrev pub Path : Type 0
Path = List (List ℕ)

-- Where an interpreter is: the steps from the top down to it. The step to a child is its name.
abbrev pub Place : Type 0
Place = List (List ℕ)

-- the same step
abbrev pub same : List ℕ → List ℕ → Bool
same [] [] = true
same [] (y ∷ ys) = false
same (x ∷ xs) [] = false
same (x ∷ xs) (y ∷ ys) = nat_eq x y && same xs ys

abbrev pub guarded : {A : Type 0} → Bool → Option A → Option A
guarded true o = o
guarded false o = None

-- what is left of p below c; none where c is not above or at p
abbrev pub strip : List (List ℕ) → List (List ℕ) → Option (List (List ℕ))
strip [] p = Some p
strip (x ∷ xs) [] = None
strip (x ∷ xs) (y ∷ ys) = guarded (same x y) (strip xs ys)

-- how far up: so many steps, or out of every tree
abbrev pub Height : Type 0
Height = Option ℕ

abbrev pub rejoined : List ℕ → Option (List (List ℕ)) → Bool → Option (List (List ℕ))
rejoined x (Some a) b = Some (x ∷ a)
rejoined x None true = Some []
rejoined x None false = None

abbrev pub top_of : ℕ → Option (List (List ℕ))
top_of zero = Some []
top_of (suc n) = None

-- the place n steps up; none where that passes the top
abbrev pub rise : ℕ → List (List ℕ) → Option (List (List ℕ))
rise n [] = top_of n
rise n (x ∷ xs) = rejoined x (rise n xs) (nat_eq n (suc (length xs)))

abbrev pub rise_to : Option ℕ → List (List ℕ) → Option (List (List ℕ))
rise_to None p = None
rise_to (Some n) p = rise n p

-- a height as it is seen in a tree where it is counted from q: what passes the top is out of the
-- tree
abbrev pub capped : Bool → ℕ → Option ℕ
capped true n = None
capped false n = Some n

abbrev pub seen_height : List (List ℕ) → Option ℕ → Option ℕ
seen_height q None = None
seen_height q (Some n) = capped (nat_lt (length q) n) n

-- the last n steps of p
abbrev pub shorter : Bool → List (List ℕ) → List (List ℕ) → List (List ℕ)
shorter true a b = a
shorter false a b = b

abbrev pub falls : ℕ → List (List ℕ) → List (List ℕ)
falls n [] = []
falls n (x ∷ xs) = shorter (nat_le n (length xs)) (falls n xs) (x ∷ xs)

-- how many steps two places begin with together
abbrev pub unless : Bool → ℕ → ℕ
unless true n = n
unless false n = 0

abbrev pub together : List (List ℕ) → List (List ℕ) → ℕ
together [] q = 0
together (x ∷ p) [] = 0
together (x ∷ p) (y ∷ q) = unless (same x y) (suc (together p q))
