-- How long the texts of lists are.
use Rattle.std.proofs.Common.{◌≡◌, ◌≤◌, Bool, true, false, [], ◌∷◌, ◌++◌, Err, ◌∙◌, ap, arith}
use Rattle.tcl_words.specs.Faults.{too_long}
use Rattle.tcl_words.proofs.WordLemmas.{limited_past}
use Rattle.tcl_value.specs.Limits.{IsPast}
use Rattle.tcl_value.specs.Writing.{write}
use Rattle.tcl_value.specs.Texts.{weight_from}
use Rattle.tcl_value.proofs.Weights.{length-write}
use Rattle.tcl_lists.specs.Lists.{Texts, list_value}

weight-append : (first : Bool) (xs ys : Texts) → weight_from first xs ≤ weight_from first (xs ++ ys)
weight-append first [] ys = omega arith
weight-append first (x ∷ xs) ys = omega (arith, weight-append false xs ys)

-- what begins with a list that is too long is too long
pub past_more : (xs ys : Texts) → IsPast (write xs) → list_value (xs ++ ys) ≡ Err too_long
past_more xs ys h = limited_past (write (xs ++ ys)) (omega (arith, length-write xs, length-write (xs ++ ys), weight-append true xs ys))

pub past_at : (xs ys zs : Texts) → zs ≡ xs ++ ys → IsPast (write xs) → list_value zs ≡ Err too_long
past_at xs ys zs e h = ap list_value e ∙ past_more xs ys h

pub past_here : (xs : Texts) → IsPast (write xs) → list_value xs ≡ Err too_long
past_here xs h = limited_past (write xs) h
