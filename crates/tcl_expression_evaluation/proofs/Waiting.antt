-- The numbers that wait, and the texts that they stand for.
use Rattle.std.proofs.Common.{◌≡◌, subst, List, [], ◌∷◌, ◌++◌, ℤ, Ok}
use Rattle.tcl_text.specs.declared.integer.Integers.{Integers}
use Rattle.tcl_value.specs.Limits.{Bytes}
use Rattle.tcl_value.specs.Reading.{int_of}
use Rattle.tcl_expression_evaluation.specs.Steps.{top, below}
use Rattle.tcl_expression_evaluation.specs.AtHand.{ReadAs}

pub none_wait : (style : Integers) (numbers : List ℤ) → [] ≡ numbers → ReadAs style [] numbers
unfolding ReadAs
none_wait style numbers is = subst (ReadAs style []) is tt

-- one more waits
pub pushed : (style : Integers) (texts : List Bytes) (numbers : List ℤ) (text : Bytes) (n : ℤ) → ReadAs style texts numbers → int_of style text ≡ Ok n → ReadAs style (texts ++ text ∷ []) (numbers ++ n ∷ [])
unfolding ReadAs
pushed style [] [] text n h r = (r, tt)
pushed style [] (m ∷ numbers) text n h r = absurd h
pushed style (u ∷ texts) [] text n h r = absurd h
pushed style (u ∷ texts) (m ∷ numbers) text n h r = (h.0, pushed style texts numbers text n h.1 r)

-- the last one goes
pub record Popped (style : Integers) (texts : List Bytes) (numbers : List ℤ) (n : ℤ) : Type 0 where
  pub last : int_of style (top texts) ≡ Ok n
  pub others : ReadAs style (below texts) numbers

none_is_last : (style : Integers) (numbers : List ℤ) (n : ℤ) → ReadAs style [] (numbers ++ n ∷ []) → Prim.⊥
unfolding ReadAs
none_is_last style [] n h = h
none_is_last style (m ∷ numbers) n h = h

last : (style : Integers) (texts : List Bytes) (numbers : List ℤ) (n : ℤ) → ReadAs style texts (numbers ++ n ∷ []) → Popped style texts numbers n
unfolding ReadAs
last style [] numbers n h = absurd (none_is_last style numbers n h)
last style (t ∷ []) [] n h = record { last = h.0; others = tt }
last style (t ∷ u ∷ texts) [] n h = absurd h.1
last style (t ∷ []) (m ∷ numbers) n h = absurd (none_is_last style numbers n h.1)
last style (t ∷ u ∷ texts) (m ∷ numbers) n h = let rest = last style (u ∷ texts) numbers n h.1 in record { last = rest.last; others = (h.0, rest.others) }

pub popped : (style : Integers) (texts : List Bytes) (all numbers : List ℤ) (n : ℤ) → ReadAs style texts all → all ≡ numbers ++ n ∷ [] → Popped style texts numbers n
popped style texts all numbers n h is = last style texts numbers n (subst (ReadAs style texts) is h)
