-- What the words of an `if` are.
use Rattle.std.specs.Prelude.{◌≡◌, ◌↔◌, List, [], ◌∷◌, Some, None, codes}
use Rattle.tcl_core.specs.Paths.{Text}
use Rattle.tcl_language.specs.Expressions.{Branches, branches_of}

-- Words, and what they are but for one that may stand first. Where it does, it is that word.
pub data Behind (word : Text) : List Text → List Text → Type 0 where
  stated : (ws : List Text) → Behind word (word ∷ ws) ws
  left_out : (x : Text) (ws : List Text) → (x ≡ word → Prim.⊥) → Behind word (x ∷ ws) (x ∷ ws)

-- Words are a condition and its body; these and a last body; or these and, behind `elseif`, the
-- words of another `if`. `then` may stand before the body of a condition, and `else` before a last
-- one.
pub data IsIf : List Text → Branches → Type 0 where
  alone : (test body : Text) (ws : List Text) → Behind (codes "then") ws (body ∷ []) →
      IsIf (test ∷ ws) (record { tests = (test, body) ∷ []; last = None })
  with_last : (test body first last : Text) (ws others : List Text) →
      Behind (codes "then") ws (body ∷ first ∷ others) → (first ≡ codes "elseif" → Prim.⊥) →
      Behind (codes "else") (first ∷ others) (last ∷ []) →
      IsIf (test ∷ ws) (record { tests = (test, body) ∷ []; last = Some last })
  with_more : (test body : Text) (ws rest : List Text) (b : Branches) →
      Behind (codes "then") ws (body ∷ codes "elseif" ∷ rest) → IsIf rest b →
      IsIf (test ∷ ws) (record { tests = (test, body) ∷ b.tests; last = b.last })

-- The function says what the relation says.
abbrev pub IfIsRead : Type 0
IfIsRead = (ws : List Text) (b : Branches) → (branches_of ws ≡ Some b) ↔ IsIf ws b
