-- The levels of a path into nested lists and dicts.
use Rattle.std.specs.Prelude.{◌≡◌, ℕ, List, [], ◌∷◌, ◌++◌, Ok, Err, Some}
use Rattle.tcl_text.specs.declared.integer.Integers.{Integers}
use Rattle.tcl_value.specs.Inside.{element_put}
use Rattle.tcl_value.specs.Writing.{write}
use Rattle.tcl_value.specs.Texts.{flat}
use Rattle.tcl_value.specs.Dicts.{put}
use Rattle.tcl_lists.specs.Nested.{Outcome, with_element, element_changed}
use Rattle.tcl_lists.specs.declared.step.Step.{Step}
use Rattle.tcl_lists.specs.declared.step.Step.TheVariants.{Element, Entry}

-- the text of a level with another inner text
abbrev pub above : Step → List ℕ → List ℕ
above (Element list place) x = write (with_element place x list)
above (Entry dict key) x = write (flat (put dict key x))

-- the text of the first of some levels with another text inside the last
abbrev pub above_all : List Step → List ℕ → List ℕ
above_all [] x = x
above_all (s ∷ steps) x = above s (above_all steps x)

-- what becomes of an outcome inside the last of some levels
abbrev pub raised : List Step → Outcome → Outcome
raised steps (Ok x) = Ok (above_all steps x)
raised steps (Err fault) = Err fault

-- Indexes name these places, which come behind others: what stands at a path of the places stands
-- at the path of the indexes.
abbrev pub Leads : Integers → List (List ℕ) → List ℕ → List ℕ → List ℕ → Type 0
Leads style path before places text = (more : List ℕ) × (places ≡ before ++ more) ×
    ((new now : List ℕ) → element_put more new text ≡ Some now →
    element_changed style path new text ≡ Ok now)
