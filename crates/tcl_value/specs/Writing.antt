-- How lists are written.
use Rattle.std.specs.Prelude.{ℕ, Bool, true, false, List, [], ◌∷◌, ◌++◌}
use Rattle.std.specs.List.{flat_map}
use Rattle.tcl_text.specs.Writing.{written, written_list}

-- how an element is written, which depends on whether it is the first of its list
abbrev pub write_element : Bool → List ℕ → List ℕ
write_element first x = written first x

-- elements after the first
abbrev pub write_rest : List (List ℕ) → List ℕ
write_rest xs = flat_map (λ y. 32 ∷ written false y) xs

-- the text of a list
abbrev pub write : List (List ℕ) → List ℕ
write xs = written_list xs

-- what stands before an element, which depends on whether it is the first of its list
abbrev pub space : Bool → List ℕ
space true = []
space false = 32 ∷ []

-- an element with what stands before it
abbrev pub placed : Bool → List ℕ → List ℕ
placed first x = space first ++ write_element first x

-- elements with what stands before each, where the first of them is the first of its list or not
abbrev pub write_from : Bool → List (List ℕ) → List ℕ
write_from first [] = []
write_from first (x ∷ xs) = placed first x ++ write_from false xs
