use Rattle.std.proofs.Common.{◌≡◌, ◌∙◌, ap, sym, Bool, not, IsTrue, ◌↔◌}
use Rattle.std.specs.Ordering.{nat_cmp, is_eq}
use Rattle.std.specs.Cmp.Lexicographic.{slice_cmp, texts_ties}
use Rattle.std.specs.Str.{bytes_eq}
use Rattle.std.proofs.lemmas.Bool.Decides.{same_from_decides}
use Rattle.std.proofs.lemmas.Slice.Eq.{bytes_eq-Decides}
use Rattle.tcl_value.specs.Limits.{Bytes}
use Rattle.tcl_expression_evaluation.specs.Apply.{holds}
use Rattle.tcl_expression_evaluation.proofs.at_hand.is_so_of_texts.Goals as goal

-- texts are the same where neither comes first
same_texts : (t : Bool) (a b : Bytes) → (IsTrue t ↔ (a ≡ b)) → t ≡ is_eq (slice_cmp nat_cmp a b)
same_texts t a b h = same_from_decides t (bytes_eq a b) h (bytes_eq-Decides a b) ∙ texts_ties a b

pub returns-in-Equal : goal.returns-in-Equal
returns-in-Equal c = same_texts c.same.result c.args.left.now c.args.right.now c.same.ensures ∙ ap (λ k. holds k (slice_cmp nat_cmp c.args.left.now c.args.right.now)) (sym c.in-Equal.is)

pub returns-in-Unequal : goal.returns-in-Unequal
returns-in-Unequal c = ap not (same_texts c.same-in-Unequal.result c.args.left.now c.args.right.now c.same-in-Unequal.ensures) ∙ ap (λ k. holds k (slice_cmp nat_cmp c.args.left.now c.args.right.now)) (sym c.in-Unequal.is)
