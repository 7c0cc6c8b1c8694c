-- The order of texts, by their characters.
use Rattle.std.specs.Prelude.{ℕ, ◌==◌, nat_lt, if◌then◌else◌, List, [], ◌∷◌}
use Rattle.std.specs.declared.cmp.Ordering.{Ordering}
use Rattle.std.specs.declared.cmp.Ordering.TheVariants.{Less, Equal, Greater}

-- By the numbers of the first characters in which they differ; a text comes before one that goes on
-- behind it.
abbrev pub order : List ℕ → List ℕ → Ordering
order [] [] = Equal
order [] (b ∷ bs) = Less
order (a ∷ cs) [] = Greater
order (a ∷ cs) (b ∷ bs) = if a == b then order cs bs else if nat_lt a b then Less else Greater
