-- Parts of a list between two places. A place before the first or behind the last is brought to
-- that end.
use Rattle.std.specs.Prelude.{ℕ, ◌+◌, List, [], take, drop}
use Rattle.tcl_text.specs.declared.index.Index.{Index}
use Rattle.tcl_text.specs.declared.index.Index.TheVariants.{Before, At, Beyond}

-- how many elements stand before a place, where no list is longer than `all`
abbrev pub start : ℕ → Index → ℕ
start all Before = 0
start all (At n) = n
start all Beyond = all

-- how many stand before the place behind it
abbrev pub end : ℕ → Index → ℕ
end all Before = 0
end all (At n) = n + 1
end all Beyond = all

-- the elements from the first place to the last
abbrev pub before : {X : Type 0} → Index → List X → List X
before Before xs = []
before (At n) xs = take n xs
before Beyond xs = xs

abbrev pub up_to : {X : Type 0} → Index → List X → List X
up_to Before xs = []
up_to (At n) xs = take (n + 1) xs
up_to Beyond xs = xs

abbrev pub from : {X : Type 0} → Index → List X → List X
from Before xs = xs
from (At n) xs = drop n xs
from Beyond xs = []

abbrev pub behind : {X : Type 0} → Index → List X → List X
behind Before xs = xs
behind (At n) xs = drop (n + 1) xs
behind Beyond xs = []

abbrev pub span : {X : Type 0} → Index → Index → List X → List X
span first last xs = from first (up_to last xs)
