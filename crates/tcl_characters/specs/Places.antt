-- Where characters stand in others.
use Rattle.std.specs.Prelude.{ℕ, suc, ◌+◌, ◌≡◌, ◌==◌, ◌&&◌, Bool, true, false, if◌then◌else◌, List}
use Rattle.std.specs.Prelude.{[], ◌∷◌, ◌++◌, length, take, drop, Some, None}
use Rattle.std.specs.declared.option.Option.{Option}

-- whether characters begin with others, those of a needle
abbrev pub begins : List ℕ → List ℕ → Bool
begins [] cs = true
begins (n ∷ ns) [] = false
begins (n ∷ ns) (c ∷ cs) = n == c && begins ns cs

-- the first place, counted from k, at which a needle stands
abbrev pub first_from : List ℕ → List ℕ → ℕ → Option ℕ
first_from needle [] k = None
first_from needle (c ∷ cs) k = if begins needle (c ∷ cs) then Some k else first_from needle cs
    (suc k)

abbrev pub later : Option ℕ → Option ℕ → Option ℕ
later (Some j) here = Some j
later None here = here

-- the last place, counted from k, at which a needle stands
abbrev pub last_from : List ℕ → List ℕ → ℕ → Option ℕ
last_from needle [] k = None
last_from needle (c ∷ cs) k = later (last_from needle cs (suc k))
    (if begins needle (c ∷ cs) then Some k else None)

-- The least place from `start` on at which the needle stands. An empty needle stands nowhere.
abbrev pub first_place : List ℕ → List ℕ → ℕ → Option ℕ
first_place [] cs start = None
first_place (n ∷ ns) cs start = first_from (n ∷ ns) (drop start cs) start

-- The greatest place at which the needle stands among the first `end` characters.
abbrev pub last_place : List ℕ → List ℕ → ℕ → Option ℕ
last_place [] cs end = None
last_place (n ∷ ns) cs end = last_from (n ∷ ns) (take end cs) 0

-- a place, counted from s
abbrev pub counted_from : ℕ → Option ℕ → Option ℕ
counted_from s None = None
counted_from s (Some k) = Some (s + k)

-- the needle's characters stand in others from place k on
pub record StandsAt (needle cs : List ℕ) (k : ℕ) : Type 0 where
  pub front : List ℕ
  pub rest : List ℕ
  pub whole : cs ≡ front ++ (needle ++ rest)
  pub before : length front ≡ k
